-- How the code walks: a list of atoms from index i on, one atom at a time; the rules of a table, one at a time; the rules at a list of places.
-- Assumes nothing.
use mathlib.Core.Path.{◌≡◌, refl, sym, ap, ◌∙◌}
use mathlib.Core.Bool.{Bool, true, false, cond, ◌||◌}
use mathlib.Core.List.{List, [], ◌∷◌}
use mathlib.Core.Logic.{◌⊎◌, inl, inr, ◌≢◌}
use Prim.Native.Nat.{ℕ, zero, suc, ◌+◌, ◌-◌, ◌≤◌, ◌<◌}
use native.Mathlib.Numerals.{add-one}
use native.Mathlib.Omega.{arith}
use lib.Dec.{eqb}
use lib.IntN.{ℤ, pos, nat_abs}
use lib.ListN.{length, get_or, take, drop, length-drop, drop_of_length-le}
use lib.Seq.{drop-cons, take_all}
use Rattle.meaning.specs.Lists.{has}
use Rattle.meaning.proofs.Cond.{eq_case}
use Rattle.meaning.proofs.Tools.{eq_i, neq_i}
use Rattle.layout.specs.Layout.{atoms, Members, part_at, past_rule, rule_at}
use Rattle.std.specs.List.{list_any}
use Rattle.heads.specs.Heads.{places_from, with_head}

-- what a slice from index i on has
pub from_on : {A : Type 0} (i : ℕ) (l : List A) → take (length l - i) (drop i l) ≡ drop i l
from_on i l = take_all (length l - i) (drop i l) (omega (arith, length-drop i l))

-- what the slice behind index i - 1 has, and whether an atom is there
pub later : (l : List ℤ) (i p : ℕ) → 0 < i → {b : Bool} → b ≡ has p (atoms (take (length l - (i - 1 + 1)) (drop (i - 1 + 1) l))) → has p (atoms (drop i l)) ≡ b
later l i p h e =
    let back : i - 1 + 1 ≡ i = omega arith in
    ap (λ (m : List ℤ). has p (atoms m)) (sym (ap (λ (k : ℕ). take (length l - k) (drop k l)) back ∙ from_on i l)) ∙ sym e

-- ---- a list of atoms

module _ (l : List ℤ) (i : ℕ) (p : ℕ) where
  abbrev here : ℕ
  here = nat_abs (get_or l i (pos 0))

  split : i < length l → atoms (drop i l) ≡ here ∷ atoms (drop (i + 1) l)
  split h = ap atoms (drop-cons l i (pos 0) h) ∙ ap (λ (j : ℕ). here ∷ atoms (drop j l)) (sym (add-one i))

  has_cons : (q : ℕ) (s : List ℕ) → has p (q ∷ s) ≡ eqb p q || has p s
  unfolding has
  has_cons q s = refl

  has_nil : has p [] ≡ false
  unfolding has
  has_nil = refl

  pub has_here : i < length l → here ≡ p → has p (atoms (drop i l)) ≡ true
  has_here h e = ap (has p) (split h) ∙ has_cons here (atoms (drop (i + 1) l)) ∙ ap (λ (b : Bool). b || has p (atoms (drop (i + 1) l))) (eq_i (sym e))

  pub has_on : i < length l → (here ≡ p → ⊥) → has p (atoms (drop i l)) ≡ has p (atoms (drop (i + 1) l))
  has_on h n = ap (has p) (split h) ∙ has_cons here (atoms (drop (i + 1) l)) ∙ ap (λ (b : Bool). b || has p (atoms (drop (i + 1) l))) (neq_i p here (λ e. n (sym e)))

  pub has_end : length l ≤ i → has p (atoms (drop i l)) ≡ false
  has_end h = ap (λ (s : List ℤ). has p (atoms s)) (drop_of_length-le l h) ∙ has_nil

-- the test of each number in turn
same_asked : (a b : ℕ) → eqb a b ≡ eqb b a
same_asked a b = at (eq_case a b)
  where
    at : (a ≡ b) ⊎ (a ≢ b) → eqb a b ≡ eqb b a
    at (inl e) = eq_i e ∙ sym (eq_i (sym e))
    at (inr n) = neq_i a b n ∙ sym (neq_i b a (λ e. n (sym e)))

pub has_any : (p : ℕ) (l : List ℤ) → list_any (λ (w : ℤ). eqb (nat_abs w) p) l ≡ has p (atoms l)
unfolding has
has_any p [] = refl
has_any p (x ∷ l) = ap (λ (b : Bool). b || list_any (λ (w : ℤ). eqb (nat_abs w) p) l) (same_asked (nat_abs x) p) ∙ ap (λ (b : Bool). eqb p (nat_abs x) || b) (has_any p l)

-- an atom of those from index k on is in the list
pub has_from : (p k : ℕ) (l : List ℤ) → has p (atoms (drop k l)) ≡ true → has p (atoms l) ≡ true
unfolding has
has_from p zero l h = h
has_from p (suc k) [] h = h
has_from p (suc k) (x ∷ l) h = at (eqb p (nat_abs x)) (has_from p k l h)
  where
    at : (b : Bool) → has p (atoms l) ≡ true → b || has p (atoms l) ≡ true
    at true e = refl
    at false e = e

-- 0 is no atom
pub has_zero : (top : ℕ) (l : List ℤ) → Members top l → has 0 (atoms l) ≡ false
unfolding has
has_zero top [] f = refl
has_zero top (x ∷ l) f =
    ap (λ (b : Bool). b || has 0 (atoms l)) (neq_i 0 (nat_abs x) (λ e. omega (arith, e, (f 0 (omega arith)).0)))
    ∙ has_zero top l (λ k h. f (suc k) (omega (arith, h)))

-- a list of atoms from its end on: the atom before index i, and those from i on
module _ (l : List ℤ) (i : ℕ) (k : 0 < i) (h : i ≤ length l) where
  abbrev last : ℕ
  last = nat_abs (get_or l (i - 1) (pos 0))

  before : i - 1 + 1 ≡ i
  before = omega arith

  pub back_here : has last (atoms (drop (i - 1) l)) ≡ true
  back_here = has_here l (i - 1) last (omega arith) refl

  pub back_other : (p : ℕ) → (p ≡ last → ⊥) → has p (atoms (drop (i - 1) l)) ≡ has p (atoms (drop i l))
  back_other p n = has_on l (i - 1) p (omega arith) (λ e. n (sym e)) ∙ ap (λ (j : ℕ). has p (atoms (drop j l))) before

  -- an atom that is there already changes nothing
  pub back_again : has last (atoms (drop i l)) ≡ true → (p : ℕ) → has p (atoms (drop (i - 1) l)) ≡ has p (atoms (drop i l))
  back_again e p = at (eq_case p last)
    where
      at : (p ≡ last) ⊎ (p ≢ last) → has p (atoms (drop (i - 1) l)) ≡ has p (atoms (drop i l))
      at (inl u) = ap (λ (q : ℕ). has q (atoms (drop (i - 1) l))) u ∙ back_here ∙ sym e ∙ ap (λ (q : ℕ). has q (atoms (drop i l))) (sym u)
      at (inr n) = back_other p n

-- ---- the rules of a table

module _ (t : List ℤ) (i : ℕ) where
  places_suc : (n : ℕ) → places_from t i (suc n) ≡ i ∷ places_from t (past_rule t i) n
  unfolding places_from
  places_suc n = refl

  pub places_zero : places_from t i 0 ≡ []
  unfolding places_from
  places_zero = refl

  pub places_on : (n : ℕ) → 0 < n → places_from t i n ≡ i ∷ places_from t (past_rule t i) (n - 1)
  places_on n h =
      let e : n ≡ suc (n - 1) = omega arith in
      ap (places_from t i) e ∙ places_suc (n - 1)

pub places_length : (t : List ℤ) (i n : ℕ) → length (places_from t i n) ≡ n
unfolding places_from
places_length t i zero = refl
places_length t i (suc n) = ap suc (places_length t (past_rule t i) n)

-- ---- the rules at a list of places

pub head_is : (t : List ℤ) (i : ℕ) → (rule_at t i).head ≡ atoms (part_at t i)
unfolding rule_at
head_is t i = refl

module _ (t : List ℤ) (p : ℕ) where
  pub with_nil : with_head t p [] ≡ []
  unfolding with_head
  with_nil = refl

  with_cons : (i : ℕ) (l : List ℕ) → with_head t p (i ∷ l) ≡ cond (has p (atoms (part_at t i))) (i ∷ with_head t p l) (with_head t p l)
  unfolding with_head
  with_cons i l = ap (λ (s : List ℕ). cond (has p s) (i ∷ with_head t p l) (with_head t p l)) (head_is t i)

  module _ (l : List ℕ) (k : ℕ) where
    abbrev at : ℕ
    at = get_or l k 0

    pub with_split : k < length l → with_head t p (drop k l) ≡ cond (has p (atoms (part_at t at))) (at ∷ with_head t p (drop (k + 1) l)) (with_head t p (drop (k + 1) l))
    with_split h = ap (with_head t p) (drop-cons l k 0 h ∙ ap (λ (j : ℕ). at ∷ drop j l) (sym (add-one k))) ∙ with_cons at (drop (k + 1) l)

    pub with_here : k < length l → has p (atoms (part_at t at)) ≡ true → with_head t p (drop k l) ≡ at ∷ with_head t p (drop (k + 1) l)
    with_here h e = with_split h ∙ ap (λ (b : Bool). cond b (at ∷ with_head t p (drop (k + 1) l)) (with_head t p (drop (k + 1) l))) e

-- those from index k on are no more than all
pub with_drop : (t : List ℤ) (p k : ℕ) (l : List ℕ) → length (with_head t p (drop k l)) ≤ length (with_head t p l)
with_drop t p zero l = omega arith
with_drop t p (suc k) [] = omega arith
with_drop t p (suc k) (i ∷ l) = at (has p (atoms (part_at t i))) (with_drop t p k l) (ap (λ (m : List ℕ). length m) (with_cons t p i l))
  where
    at : (b : Bool) → length (with_head t p (drop k l)) ≤ length (with_head t p l) → length (with_head t p (i ∷ l)) ≡ length (cond b (i ∷ with_head t p l) (with_head t p l))
        → length (with_head t p (drop k l)) ≤ length (with_head t p (i ∷ l))
    at true h e = omega (arith, e)
    at false h e = omega (arith, e)

-- they are no more than the rules
pub with_short : (t : List ℤ) (p : ℕ) (l : List ℕ) → length (with_head t p l) ≤ length l
with_short t p [] = omega (arith, ap (λ (m : List ℕ). length m) (with_nil t p))
with_short t p (i ∷ l) = at (has p (atoms (part_at t i))) (with_short t p l) (ap (λ (m : List ℕ). length m) (with_cons t p i l))
  where
    at : (b : Bool) → length (with_head t p l) ≤ length l → length (with_head t p (i ∷ l)) ≡ length (cond b (i ∷ with_head t p l) (with_head t p l)) → length (with_head t p (i ∷ l)) ≤ suc (length l)
    at true h e = omega (arith, e)
    at false h e = omega (arith, e)
