-- The lists after list 0 is made again: the places l stand behind the bounds, and where list 0 ends is written. The other lists are as they were.
-- Assumes nothing.
use mathlib.Core.Path.{◌≡◌, refl, sym, ap, ◌∙◌, subst}
use mathlib.Core.Bool.{Bool, true, false, cond}
use mathlib.Core.List.{List}
use Prim.Native.Nat.{ℕ, ◌+◌, ◌-◌, ◌*◌, ◌≤◌, ◌<◌}
use native.Mathlib.Omega.{arith}
use lib.IntN.{ℤ}
use lib.ListN.{length, get_or, set, take, drop, length-set}
use lib.Seq.{get_or-take, get_or-set_same, get_or-set_other, drop-set-lt, drop-drop, take-set-le}
use Rattle.layout.specs.Layout.{Laid}
use Rattle.layout.specs.declared.Table.{Table}
use Rattle.heads.specs.Heads.{bounds, size, places_of, with_head, list_at, Holds, Part, Listed}
use Rattle.heads.proofs.Lists.{part}

-- a place written, or not: the words before stay, and so do those behind the room for all rules
pub put_before : (a : List ℕ) (n x : ℕ) (b : Bool) → take bounds (cond b (set a (bounds + n) x) a) ≡ take bounds a
put_before a n x true = take-set-le bounds a (bounds + n) x (omega arith)
put_before a n x false = refl

pub put_behind : (a : List ℕ) (n x m : ℕ) (b : Bool) → n < m → drop (bounds + m) (cond b (set a (bounds + n) x) a) ≡ drop (bounds + m) a
put_behind a n x m true h = drop-set-lt (bounds + m) a (bounds + n) x (omega (arith, h))
put_behind a n x m false h = refl

pub put_long : (a : List ℕ) (i x : ℕ) (b : Bool) → length (cond b (set a i x) a) ≡ length a
put_long a i x true = length-set a i x
put_long a i x false = refl

module _ (t : List ℤ) (tb : Table) (laid : Laid t tb) (a₀ a : List ℕ) (listed : Listed t tb a₀) (n : ℕ) (l : List ℕ) (few : n ≤ tb.rules) (long : length a ≡ size)
    (before : take bounds a ≡ take bounds a₀) (behind : drop (bounds + tb.rules) a ≡ drop (bounds + tb.rules) a₀) (stand : part a bounds n ≡ l) (p : Part t tb l) where
  abbrev b : List ℕ
  b = set a 1 (bounds + n)

  b_long : length b ≡ size
  b_long = length-set a 1 (bounds + n) ∙ long

  -- a word of the bounds, but where list 0 ends
  word : (k : ℕ) → k < bounds → (1 ≡ k → ⊥) → get_or b k 0 ≡ get_or a₀ k 0
  word k h d = get_or-set_other a 1 k (bounds + n) 0 (λ e. d (sym e)) ∙ sym (get_or-take bounds a k 0 h) ∙ ap (λ (m : List ℕ). get_or m k 0) before ∙ get_or-take bounds a₀ k 0 h

  first : get_or b 0 0 ≡ bounds
  first = word 0 (omega arith) (λ e. omega (arith, e)) ∙ listed.first

  end : get_or b 1 0 ≡ bounds + n
  end = get_or-set_same a 1 (bounds + n) 0 (omega (arith, long))

  pub chosen_places : list_at b 0 ≡ l
  chosen_places =
      let m : bounds + n - bounds ≡ n = omega arith in
      ap (λ (k : ℕ). take (get_or b 1 0 - k) (drop k b)) first ∙ ap (λ (k : ℕ). take (k - bounds) (drop bounds b)) end
      ∙ ap (λ (k : ℕ). take k (drop bounds b)) m ∙ ap (take n) (drop-set-lt bounds a 1 (bounds + n) (omega arith)) ∙ stand

  module _ (q : ℕ) (low : 1 ≤ q) (high : q ≤ tb.atoms) where
    top : 2 * q + 1 < bounds
    top = omega (arith, high, laid.few_atoms)

    begins : get_or b (2 * q) 0 ≡ get_or a₀ (2 * q) 0
    begins = word (2 * q) (omega (arith, top)) (λ e. omega (arith, e))

    ends : get_or b (2 * q + 1) 0 ≡ get_or a₀ (2 * q + 1) 0
    ends = word (2 * q + 1) top (λ e. omega (arith, e, low))

    -- what stands from there on is as it was
    rest : (s : ℕ) → bounds + tb.rules ≤ s → drop s b ≡ drop s a₀
    rest s h =
        let r = bounds + tb.rules in
        let k : r + (s - r) ≡ s = omega (arith, h) in
        ap (λ (j : ℕ). drop j b) (sym k) ∙ sym (drop-drop (s - r) r b) ∙ ap (drop (s - r)) (drop-set-lt r a 1 (bounds + n) (omega arith) ∙ behind) ∙ drop-drop (s - r) r a₀
        ∙ ap (λ (j : ℕ). drop j a₀) k

    same : list_at b q ≡ list_at a₀ q
    same =
        ap (λ (k : ℕ). take (get_or b (2 * q + 1) 0 - k) (drop k b)) begins ∙ ap (λ (k : ℕ). take (k - get_or a₀ (2 * q) 0) (drop (get_or a₀ (2 * q) 0) b)) ends
        ∙ ap (take (get_or a₀ (2 * q + 1) 0 - get_or a₀ (2 * q) 0)) (rest (get_or a₀ (2 * q) 0) (listed.apart q low high))

    holds : Holds b q (with_head t q (places_of t tb))
    holds =
        let h = listed.each q low high in
        record { within = omega (arith, top, b_long); ordered = omega (arith, begins, ends, h.ordered); fits = omega (arith, ends, h.fits, b_long, listed.long); same = same ∙ h.same }

  pub chosen_listed : Listed t tb b
  chosen_listed = record {
    long = b_long;
    first = first;
    all = record { within = omega (arith, b_long); ordered = omega (arith, first, end); fits = omega (arith, end, b_long, few, laid.few_rules); same = refl };
    part = subst (Part t tb) (sym chosen_places) p;
    apart = λ q lo hi. omega (arith, begins q lo hi, listed.apart q lo hi);
    each = holds;
  }
