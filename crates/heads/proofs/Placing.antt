-- The lists while the rules are put into them, from the last rule on.
--   Placed t tb l a   the lists lie in the array a one after the other, each ends where all its rules will end, and the rules at l are put into their lists
-- Assumes nothing.
use mathlib.Core.Path.{◌≡◌, refl, sym, ap, ◌∙◌, subst}
use mathlib.Core.Logic.{◌⊎◌, inl, inr, ◌≢◌}
use mathlib.Core.Bool.{Bool, cond}
use mathlib.Core.List.{List, [], ◌∷◌}
use Prim.Native.Nat.{ℕ, ◌+◌, ◌-◌, ◌*◌, ◌≤◌, ◌<◌}
use native.Mathlib.Omega.{arith}
use lib.IntN.{ℤ}
use lib.ListN.{length, get_or, take, drop, length-drop}
use lib.Seq.{length-take-le}
use Rattle.meaning.specs.Lists.{has}
use Rattle.meaning.proofs.Cond.{eq_case}
use Rattle.layout.specs.Layout.{atoms, part_at, Members, Laid}
use Rattle.layout.specs.declared.Table.{Table}
use Rattle.heads.specs.Heads.{bounds, size, places_of, with_head, list_at, Holds, Part, Whole, Counts, end_of, Ended, Regions, Room, Put}
use Rattle.heads.proofs.Laws.{places_lie}
use Rattle.heads.proofs.Walks.{places_length, with_nil, with_split, with_here, with_drop, has_zero}
use Rattle.heads.proofs.Lists.{part}
use Rattle.heads.proofs.Room.{total, total_zero, total_on, total_rise, total_fits}
use Rattle.heads.proofs.Counting.{end_zero, end_rise, end_total}

pub record Placed (t : List ℤ) (tb : Table) (l a : List ℕ) : Type 0 where
  pub regions : Regions a
  pub ends : (p : ℕ) → p ≤ 256 → get_or a (2 * p + 1) 0 ≡ bounds + tb.rules + total t (places_of t tb) p
  pub all : list_at a 0 ≡ places_of t tb
  pub each : (p : ℕ) → 1 ≤ p → p ≤ 256 → list_at a p ≡ with_head t p l

module _ (t : List ℤ) (tb : Table) (laid : Laid t tb) where
  abbrev P : List ℕ
  P = places_of t tb

  -- ---- before the last rule

  module _ (a : List ℕ) (c : Counts t tb P a) where
    -- all lists fit
    pub fits : (p : ℕ) → p ≤ 256 → end_of a (bounds + tb.rules) p ≤ size
    fits p h = omega (arith, end_total t tb a c (bounds + tb.rules) p h, total_fits t tb laid p, laid.few_rules)

    module _ (b : List ℕ) (d : Ended (bounds + tb.rules) 256 a b) where
      abbrev s : ℕ
      s = bounds + tb.rules

      -- lists 1 .. 256 are empty
      none : (p : ℕ) → 1 ≤ p → p ≤ 256 → get_or b (2 * p) 0 ≡ get_or b (2 * p + 1) 0
      none p l h = d.begins p l h ∙ sym (d.ends p h)

      start_end : get_or b 1 0 ≡ s
      start_end = d.ends 0 (omega arith) ∙ end_zero a s

      start_ordered : (p : ℕ) → p ≤ 256 → (p ≡ 0) ⊎ (p ≢ 0) → get_or b (2 * p) 0 ≤ get_or b (2 * p + 1) 0
      start_ordered p h (inl e) = subst (λ (q : ℕ). get_or b (2 * q) 0 ≤ get_or b (2 * q + 1) 0) (sym e) (omega (arith, d.first, start_end))
      start_ordered p h (inr n) = omega (arith, none p (omega (arith, n)) h)

      start_regions : Regions b
      start_regions = record {
        sized = d.sized;
        first = d.first;
        ordered = λ p h. start_ordered p h (eq_case p 0);
        apart = λ p q k h. omega (arith, d.ends p (omega arith), d.begins q (omega arith) h, end_rise a s p q (omega arith));
        fits = λ p h. omega (arith, d.ends p h, fits p h);
      }

      start_all : list_at b 0 ≡ P
      start_all =
          let n : s - bounds ≡ tb.rules = omega arith in
          ap (λ (k : ℕ). part b k (get_or b 1 0 - k)) d.first ∙ ap (λ (k : ℕ). part b bounds (k - bounds)) start_end ∙ ap (part b bounds) n ∙ ap (take tb.rules) d.behind ∙ c.places

      start_each : (p : ℕ) → 1 ≤ p → p ≤ 256 → list_at b p ≡ with_head t p []
      start_each p l h =
          let n : get_or b (2 * p + 1) 0 - get_or b (2 * p) 0 ≡ 0 = omega (arith, none p l h) in
          ap (part b (get_or b (2 * p) 0)) n ∙ sym (with_nil t p)

      pub placed_start : Placed t tb [] b
      placed_start = record {
        regions = start_regions;
        ends = λ p h. d.ends p h ∙ end_total t tb a c s p h;
        all = start_all;
        each = start_each;
      }

  -- ---- the rule at hand is rule k

  module _ (k : ℕ) (h : k < tb.rules) (a : List ℕ) (f : Placed t tb (drop (k + 1) P) a) where
    abbrev i : ℕ
    i = get_or P k 0

    abbrev head : List ℕ
    head = atoms (part_at t i)

    there : k < length P
    there = omega (arith, h, places_length t tb.first tb.rules)

    -- list p, with the words before it, is as long as where it ends
    long : (p : ℕ) → p ≤ 256 → get_or a (2 * p) 0 + length (list_at a p) ≡ get_or a (2 * p + 1) 0
    long p s =
        let b = get_or a (2 * p) 0 in
        let e = get_or a (2 * p + 1) 0 in
        let o = f.regions.ordered p s in
        let n : length (list_at a p) ≡ e - b = length-take-le (e - b) (drop b a) (omega (arith, length-drop b a, f.regions.fits p s, f.regions.sized)) in
        omega (arith, n, o)

    pub placed_room : Room head a
    placed_room p q s m l =
        let r : p - 1 + 1 ≡ p = omega (arith, l) in
        let W = with_head t p (drop (k + 1) P) in
        let on : total t P p ≡ length (with_head t p P) + total t P (p - 1) =
        ap (total t P) (sym r) ∙ total_on t P (p - 1) ∙ ap (λ (j : ℕ). length (with_head t j P) + total t P (p - 1)) r in
        omega (
          arith,
          long p s,
          ap (λ (w : List ℕ). length w) (f.each p (omega (arith, l)) s),
          ap (λ (w : List ℕ). length w) (with_here t p P k there m),
          with_drop t p k P,
          f.ends p s,
          f.ends q (omega (arith, l)),
          on,
          total_rise t P q (p - 1) (omega (arith, l)),
        )

    pub placed_on : (top : ℕ) → Members top (part_at t i) → (b : List ℕ) → Put head i a b → Placed t tb (drop k P) b
    placed_on top low b u = record {
      regions = u.regions;
      ends = λ p s. u.ends p s ∙ f.ends p s;
      all = u.lists 0 (omega arith) ∙ ap (λ (d : Bool). cond d (i ∷ list_at a 0) (list_at a 0)) (has_zero top (part_at t i) low) ∙ f.all;
      each = λ p l s. u.lists p s ∙ ap (λ (w : List ℕ). cond (has p head) (i ∷ w) w) (f.each p l s) ∙ sym (with_split t p P k there);
    }

  module _ (l a : List ℕ) (f : Placed t tb l a) where
    -- where the rules stand
    pub placed_places : part a bounds tb.rules ≡ P
    placed_places =
        let n : get_or a 1 0 - bounds ≡ tb.rules = omega (arith, f.ends 0 (omega arith), total_zero t P) in
        ap (part a bounds) (sym n) ∙ ap (λ (k : ℕ). part a k (get_or a 1 0 - k)) (sym f.regions.first) ∙ f.all

    holds : (p : ℕ) (w : List ℕ) → p ≤ 256 → list_at a p ≡ w → Holds a p w
    holds p w h e = record {
      within = omega (arith, f.regions.sized);
      ordered = f.regions.ordered p h;
      fits = omega (arith, f.regions.sized, f.regions.fits p h);
      same = e;
    }

  -- ---- after the first rule

  pub placed_whole : (a : List ℕ) → Placed t tb P a → Whole t tb a
  placed_whole a f = record {
    listed = record {
      long = f.regions.sized;
      first = f.regions.first;
      all = holds P a f 0 (list_at a 0) (omega arith) refl;
      part = subst (Part t tb) (sym f.all) (record { lie = places_lie tb t tb.first tb.rules laid.rules_lie; heads = λ p. refl });
      apart = λ p l h. omega (arith, f.ends 0 (omega arith), f.regions.apart 0 p (omega (arith, l)) (omega (arith, h, laid.few_atoms)));
      each = λ p l h. let s : p ≤ 256 = omega (arith, h, laid.few_atoms) in holds P a f p (with_head t p P) s (f.each p l s);
    };
    whole = f.all;
  }
