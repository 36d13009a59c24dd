-- Lists of words walked by the code: literals from the first on, reasons from the last on. Assumes nothing.
use mathlib.Core.Path.{◌≡◌, refl, sym, ◌∙◌, ap}
use mathlib.Core.Bool.{true, false}
use mathlib.Core.List.{List, ◌∷◌, map}
use Prim.Native.Nat.{ℕ, zero, suc, ◌+◌, ◌-◌, ◌≤◌, ◌<◌}
use native.Mathlib.Numerals.{add-one}
use native.Mathlib.Omega.{arith}
use lib.IntN.{ℤ, pos, nat_abs}
use lib.ListN.{length, get_or, drop, drop_of_length-le}
use lib.Seq.{drop-cons}
use Rattle.levels.specs.Levels.{Levels, no_levels, union}
use Rattle.interpretation.specs.State.{Cell}
use Rattle.interpretation.specs.View.{valued, cell_by}
use Rattle.interpretation.proofs.Laws.{valued_at}
use Rattle.interpretation.specs.declared.Value.{Value}
use Rattle.layout.specs.Layout.{atoms, Members}
use Rattle.valuing.specs.Values.{says_false, Lit, value}
use Rattle.valuing.specs.Reasons.{reason_at, reason_of, reasons_of}
use Rattle.std.specs.Prelude.{Option, Some, None, MatchOption}
use Rattle.std.specs.List.{AllWithin, HoldsAt}
use Rattle.std.proofs.lemmas.List.{get_or_default}
use Rattle.literals.specs.Scan.{first_from, atoms_reason}
use Rattle.literals.proofs.Scans.{first_none, first_at, first_later}
use Rattle.literals.proofs.Together.{union_assoc, union_turn}

-- ---- the first false literal

-- the literals f (g w) of the words w from index i on
module _ {A : Type 0} (g : ℤ → A) (f : A → Lit) (a : ℕ → Cell) (l : List ℤ) (i : ℕ) where
  abbrev lits : ℕ → List Lit
  lits j = map f (map g (drop j l))

  abbrev here : Lit
  here = f (g (get_or l i (pos 0)))

  lits_on : i < length l → lits i ≡ here ∷ lits (suc i)
  lits_on h = ap (λ (m : List ℤ). map f (map g m)) (drop-cons l i (pos 0) h)

  pub walk_on : i < length l → (v : Value) → v ≡ value a here → says_false v ≡ false → first_from a i (lits i) ≡ first_from a (i + 1) (lits (i + 1))
  walk_on h v e n =
      ap (first_from a i) (lits_on h) ∙ first_later a i here (lits (suc i)) (ap says_false (sym e) ∙ n) ∙ ap (λ (j : ℕ). first_from a j (lits j)) (sym (add-one i))

  pub walk_false : i < length l → (v : Value) → v ≡ value a here → says_false v ≡ true → first_from a i (lits i) ≡ Some i
  walk_false h v e n = ap (first_from a i) (lits_on h) ∙ first_at a i here (lits (suc i)) (ap says_false (sym e) ∙ n)

  pub walk_end : length l ≤ i → first_from a i (lits i) ≡ None
  walk_end h = ap (λ (m : List ℤ). first_from a i (map f (map g m))) (drop_of_length-le l h) ∙ first_none a i

-- the index that a search by `position` gives is that of the first false literal
module _ {A : Type 0} (g : ℤ → A) (f : A → Lit) (a : ℕ → Cell) (l : List ℤ) where
  abbrev pub Yes : ℤ → Type 0
  Yes w = says_false (value a (f (g w))) ≡ true

  abbrev pub No : ℤ → Type 0
  No w = says_false (value a (f (g w))) ≡ false

  skipped : (i : ℕ) → i ≤ length l → AllWithin No l 0 i → first_from a 0 (map f (map g l)) ≡ first_from a i (map f (map g (drop i l)))
  skipped zero h n = refl
  skipped (suc i) h n =
      skipped i (omega arith) (λ k d b t. n k d b (omega arith)) ∙ walk_on g f a l i h _ refl (n i (pos 0) (omega arith) (omega arith))
      ∙ ap (λ (j : ℕ). first_from a j (map f (map g (drop j l)))) (add-one i)

  pub first_word : (r : Option ℕ) → MatchOption r (AllWithin No l 0 (length l)) (λ i. (i < length l) × HoldsAt Yes l i × AllWithin No l 0 i) → r ≡ first_from a 0 (map f (map g l))
  first_word None n = sym (skipped (length l) (omega arith) n ∙ walk_end g f a l (length l) (omega arith))
  first_word (Some i) h = sym (skipped i (omega arith) h.2 ∙ walk_false g f a l i h.0 _ refl (h.1 (pos 0)))

-- a word of a list whose members lie in a range
pub in_range : (l : List ℤ) → Members 256 l → (k : ℕ) (z : ℤ) → k < length l → z ≡ get_or l k z → (1 ≤ nat_abs z) × (nat_abs z ≤ 256)
in_range l M k z h e = let f = e ∙ get_or_default l k z (pos 0) h in rw f (M k h)

-- ---- reasons

-- an atom's reason by its byte
pub byte_undefined : (vs : List ℕ) (p : ℕ) (R : Levels) → 1 ≤ p → get_or vs (p - 1) 0 ≡ 0 → reason_at (valued vs p) R ≡ no_levels
byte_undefined vs p R h e = ap (λ (c : Cell). reason_at c R) (valued_at vs p h ∙ ap (λ (v : ℕ). cell_by v 0) e)

pub byte_defined : (vs : List ℕ) (p : ℕ) (R : Levels) → 1 ≤ p → (get_or vs (p - 1) 0 ≡ 0 → ⊥) → reason_at (valued vs p) R ≡ R
byte_defined vs p R h n = ap (λ (c : Cell). reason_at c R) (valued_at vs p h) ∙ at (get_or vs (p - 1) 0) n
  where
    at : (v : ℕ) → (v ≡ 0 → ⊥) → reason_at (cell_by v 0) R ≡ R
    at zero n = absurd (n refl)
    at (suc zero) n = refl
    at (suc (suc v)) n = refl

atoms_cons : (a : ℕ → Cell) (r : ℕ → Levels) (p : ℕ) (s : List ℕ) → atoms_reason a r (p ∷ s) ≡ union (reason_at (a p) (r p)) (atoms_reason a r s)
unfolding atoms_reason
atoms_cons a r p s = refl

-- the reasons of the words from index i on, joined to a set
module _ (l : List ℤ) (i : ℕ) (a : ℕ → Cell) (r : ℕ → Levels) where
  abbrev p : ℕ
  p = nat_abs (get_or l i (pos 0))

  pub atoms_on : i < length l → (A : Levels) → union (atoms_reason a r (atoms (drop (i + 1) l))) (union (reason_at (a p) (r p)) A) ≡ union (atoms_reason a r (atoms (drop i l))) A
  atoms_on h A =
      let R = reason_at (a p) (r p) in
      rw add-one (union_turn (atoms_reason a r (atoms (drop (suc i) l))) R A ∙ sym (union_assoc R (atoms_reason a r (atoms (drop (suc i) l))) A)
      ∙ ap (λ (S : Levels). union S A) (sym (atoms_cons a r p (atoms (drop (suc i) l)))) ∙ sym (ap (λ (m : List ℤ). union (atoms_reason a r (atoms m)) A) (drop-cons l i (pos 0) h)))

  pub atoms_end : length l ≤ i → (A : Levels) → union (atoms_reason a r (atoms (drop i l))) A ≡ A
  unfolding atoms_reason
  atoms_end h A = ap (λ (m : List ℤ). union (atoms_reason a r (atoms m)) A) (drop_of_length-le l h)

  module _ {C : Type 0} (g : ℤ → C) (f : C → Lit) where
    pub reasons_on : i < length l → (A : Levels)
        → union (reasons_of a r (map f (map g (drop (i + 1) l)))) (union (reason_of a r (f (g (get_or l i (pos 0))))) A) ≡ union (reasons_of a r (map f (map g (drop i l)))) A
    reasons_on h A =
        let R = reason_of a r (f (g (get_or l i (pos 0)))) in
        rw add-one (union_turn (reasons_of a r (map f (map g (drop (suc i) l)))) R A ∙ sym (union_assoc R (reasons_of a r (map f (map g (drop (suc i) l)))) A)
        ∙ sym (ap (λ (m : List ℤ). union (reasons_of a r (map f (map g m))) A) (drop-cons l i (pos 0) h)))

    pub reasons_end : length l ≤ i → (A : Levels) → union (reasons_of a r (map f (map g (drop i l)))) A ≡ A
    reasons_end h A = ap (λ (m : List ℤ). union (reasons_of a r (map f (map g m))) A) (drop_of_length-le l h)
