-- Lists of literals put together, a rule's body of its three lists: tests, counts, first members and reasons; the literal at an index; and atoms
-- taken with the other sign.
-- Assumes nothing.
use mathlib.Core.Path.{◌≡◌, refl, sym, ◌∙◌, ap, fun_ext}
use mathlib.Core.Bool.{Bool, true, false, cond, ◌||◌}
use mathlib.Core.Option.{Option, none, some}
use mathlib.Core.List.{List, [], ◌∷◌, ◌++◌, map}
use Prim.Native.Nat.{ℕ, ◌+◌}
use native.Mathlib.Omega.{arith}
use lib.IntN.{ℤ, pos, nat_abs}
use lib.ListN.{length, length-map, get_or, get_or-map}
use Rattle.meaning.specs.Lists.{any}
use Rattle.levels.specs.Levels.{Levels, no_levels, union}
use Rattle.interpretation.specs.State.{Cell}
use Rattle.interpretation.specs.View.{cell_value}
use Rattle.interpretation.specs.declared.Value.{Value}
use Rattle.interpretation.specs.declared.Value.TheVariants.{True, False, Undefined}
use Rattle.layout.specs.Layout.{atoms, literal_of}
use Rattle.valuing.specs.Values.{says_true, says_false, says_undefined, opposite, Lit, atom_lit, agg_lit}
use Rattle.valuing.specs.Reasons.{reason_at, reason_of, reasons_of}
use Rattle.steps.specs.Steps.{first_of, count_of, or_else}
use Rattle.literals.specs.Scan.{atom_lits, literal_lits, atoms_reason}
use Rattle.literals.proofs.Scans.{is_true, is_false, is_undefined}

-- ---- lists put together

or_assoc : (a b c : Bool) → ((a || b) || c) ≡ (a || (b || c))
or_assoc true b c = refl
or_assoc false b c = refl

or_none : (a : Bool) → (a || false) ≡ a
or_none true = refl
or_none false = refl

pub union_assoc : (A B C : Levels) → union (union A B) C ≡ union A (union B C)
union_assoc A B C = fun_ext (λ l. or_assoc (A l) (B l) (C l))

pub union_none : (A : Levels) → union A no_levels ≡ A
union_none A = fun_ext (λ l. or_none (A l))

or_swap : (a b : Bool) → (a || b) ≡ (b || a)
or_swap true true = refl
or_swap true false = refl
or_swap false true = refl
or_swap false false = refl

pub union_swap : (A B : Levels) → union A B ≡ union B A
union_swap A B = fun_ext (λ l. or_swap (A l) (B l))

pub union_turn : (X Y B : Levels) → union X (union Y B) ≡ union Y (union X B)
union_turn X Y B = sym (union_assoc X Y B) ∙ ap (λ (R : Levels). union R B) (union_swap X Y) ∙ union_assoc Y X B

pub any_append : (f : Lit → Bool) (s t : List Lit) → any f (s ++ t) ≡ any f s || any f t
any_append f [] t = refl
any_append f (x ∷ s) t = ap (λ (b : Bool). f x || b) (any_append f s t) ∙ sym (or_assoc (f x) (any f s) (any f t))

pub count_append : (f : Lit → Bool) (s t : List Lit) → count_of f (s ++ t) ≡ count_of f s + count_of f t
count_append f [] t = omega arith
count_append f (x ∷ s) t = let e = count_append f s t in omega arith

pub first_append : (f : Lit → Bool) (s t : List Lit) → first_of f (s ++ t) ≡ or_else (first_of f s) (first_of f t)
first_append f [] t = refl
first_append f (x ∷ s) t = at (f x) (first_append f s t)
  where
    at : (b : Bool) → first_of f (s ++ t) ≡ or_else (first_of f s) (first_of f t) → cond b (some x) (first_of f (s ++ t)) ≡ or_else (cond b (some x) (first_of f s)) (first_of f t)
    at true e = refl
    at false e = e

pub reasons_append : (a : ℕ → Cell) (r : ℕ → Levels) (s t : List Lit) → reasons_of a r (s ++ t) ≡ union (reasons_of a r s) (reasons_of a r t)
reasons_append a r [] t = refl
reasons_append a r (x ∷ s) t = ap (union (reason_of a r x)) (reasons_append a r s t) ∙ sym (union_assoc (reason_of a r x) (reasons_of a r s) (reasons_of a r t))

-- ---- the reasons of a list of atoms, of either sign

pub reasons_atoms : (a : ℕ → Cell) (r : ℕ → Levels) (s : Bool) (ps : List ℕ) → reasons_of a r (map (atom_lit s) ps) ≡ atoms_reason a r ps
unfolding atoms_reason reason_of
reasons_atoms a r s [] = refl
reasons_atoms a r s (p ∷ ps) = ap (union (reason_at (a p) (r p))) (reasons_atoms a r s ps)

pub reason_atom : (a : ℕ → Cell) (r : ℕ → Levels) (s : Bool) (p : ℕ) → reason_of a r (atom_lit s p) ≡ reason_at (a p) (r p)
unfolding reason_of
reason_atom a r s p = refl

-- ---- the literal at an index

pub atom_at : (s : Bool) (l : List ℤ) (k : ℕ) → get_or (atom_lits s l) k (atom_lit s 0) ≡ atom_lit s (nat_abs (get_or l k (pos 0)))
atom_at s l k = get_or-map (atom_lit s) (atoms l) k 0 ∙ ap (atom_lit s) (get_or-map nat_abs l k (pos 0))

pub literal_at : (t l : List ℤ) (k : ℕ) → get_or (literal_lits t l) k (agg_lit (literal_of t (pos 0))) ≡ agg_lit (literal_of t (get_or l k (pos 0)))
literal_at t l k = get_or-map agg_lit (map (literal_of t) l) k (literal_of t (pos 0)) ∙ ap agg_lit (get_or-map (literal_of t) l k (pos 0))

pub atoms_length : (s : Bool) (l : List ℤ) → length (atom_lits s l) ≡ length l
atoms_length s l = length-map (atoms l) (atom_lit s) ∙ length-map l nat_abs

pub literals_length : (t l : List ℤ) → length (literal_lits t l) ≡ length l
literals_length t l = length-map (map (literal_of t) l) agg_lit ∙ length-map l (literal_of t)

-- ---- the other sign: a head atom is true where its negation is false

true_opposite : (v : Value) → says_true v ≡ says_false (opposite v)
true_opposite True = refl
true_opposite False = refl
true_opposite Undefined = refl

undefined_opposite : (v : Value) → says_undefined v ≡ says_undefined (opposite v)
undefined_opposite True = refl
undefined_opposite False = refl
undefined_opposite Undefined = refl

-- the literal with the other sign
abbrev pub turned : Option Lit → Option Lit
turned none = none
turned (some (atom_lit true p)) = some (atom_lit false p)
turned (some (atom_lit false p)) = some (atom_lit true p)
turned (some (agg_lit l)) = some (agg_lit l)

module _ (a : ℕ → Cell) where
  pub any_opposite : (ps : List ℕ) → any (is_true a) (map (atom_lit true) ps) ≡ any (is_false a) (map (atom_lit false) ps)
  any_opposite [] = refl
  any_opposite (p ∷ ps) =
      ap (λ (b : Bool). b || any (is_true a) (map (atom_lit true) ps)) (true_opposite (cell_value (a p))) ∙ ap (λ (b : Bool). says_false (opposite (cell_value (a p))) || b) (any_opposite ps)

  pub count_opposite : (ps : List ℕ) → count_of (is_undefined a) (map (atom_lit true) ps) ≡ count_of (is_undefined a) (map (atom_lit false) ps)
  count_opposite [] = refl
  count_opposite (p ∷ ps) =
      ap (λ (b : Bool). cond b 1 0 + count_of (is_undefined a) (map (atom_lit true) ps)) (undefined_opposite (cell_value (a p)))
      ∙ ap (λ (n : ℕ). cond (says_undefined (opposite (cell_value (a p)))) 1 0 + n) (count_opposite ps)

  pub first_opposite : (ps : List ℕ) → first_of (is_undefined a) (map (atom_lit true) ps) ≡ turned (first_of (is_undefined a) (map (atom_lit false) ps))
  first_opposite [] = refl
  first_opposite (p ∷ ps) =
      ap (λ (b : Bool). cond b (some (atom_lit true p)) (first_of (is_undefined a) (map (atom_lit true) ps))) (undefined_opposite (cell_value (a p))) ∙ at (says_undefined (opposite (cell_value (a p)))) (first_opposite ps)
    where
      at : (b : Bool) → first_of (is_undefined a) (map (atom_lit true) ps) ≡ turned (first_of (is_undefined a) (map (atom_lit false) ps)) → cond b (some (atom_lit true p)) (first_of (is_undefined a) (map (atom_lit true) ps)) ≡ turned (cond b (some (atom_lit false p)) (first_of (is_undefined a) (map (atom_lit false) ps)))
      at true e = refl
      at false e = e

  pub first_true_opposite : (ps : List ℕ) → first_of (is_true a) (map (atom_lit true) ps) ≡ turned (first_of (is_false a) (map (atom_lit false) ps))
  first_true_opposite [] = refl
  first_true_opposite (p ∷ ps) =
      ap (λ (b : Bool). cond b (some (atom_lit true p)) (first_of (is_true a) (map (atom_lit true) ps))) (true_opposite (cell_value (a p))) ∙ at (says_false (opposite (cell_value (a p)))) (first_true_opposite ps)
    where
      at : (b : Bool) → first_of (is_true a) (map (atom_lit true) ps) ≡ turned (first_of (is_false a) (map (atom_lit false) ps)) → cond b (some (atom_lit true p)) (first_of (is_true a) (map (atom_lit true) ps)) ≡ turned (cond b (some (atom_lit false p)) (first_of (is_false a) (map (atom_lit false) ps)))
      at true e = refl
      at false e = e
