-- The definitions at a rule of the table, as the code reads its four lists.
-- Assumes nothing.
use Prim.Native.Nat.{ℕ, ◌<◌}
use native.Mathlib.Omega.{arith}
use mathlib.Core.Path.{◌≡◌, refl, ap, ◌∙◌}
use mathlib.Core.Bool.{Bool, true, false}
use Rattle.std.specs.Bool.{then_some}
use mathlib.Core.List.{List}
use lib.IntN.{ℤ, pos, nat_abs}
use lib.ListN.{length, get_or, get_or-map}
use Rattle.meaning.specs.Lists.{all}
use Rattle.interpretation.specs.State.{Cell}
use Rattle.valuing.specs.Values.{atom_lit}
use Rattle.layout.specs.Layout.{atoms, part_at, neg_at, aggs_at, rule_at}
use Rattle.literals.specs.Scan.{atom_lits, literal_lits, first_false}
use Rattle.literals.proofs.Scans.{says_at}
use Rattle.literals.proofs.Together.{atoms_length}
use Rattle.rules.specs.Demand.{together, asks, is_conflict}
use Rattle.std.specs.Prelude.{None, Some}
use Rattle.foundation.specs.Walk.{fits, add_if, sole_by, sole_of, rest_true, could_by, could_of}

-- an atom where a test holds
pub then_if : (b : Bool) (p : ℕ) → then_some b p ≡ add_if b p
then_if true p = refl
then_if false p = refl

-- ---- the only true atom of a list

module _ (a : ℕ → Cell) (l : List ℤ) where
  same_atom : (k : ℕ) → get_or (atoms l) k 0 ≡ nat_abs (get_or l k (pos 0))
  same_atom k = get_or-map nat_abs l k (pos 0)

  pub sole_at : (k : ℕ) → first_false a (atom_lits false l) ≡ Some k
      → sole_of a (atoms l) ≡ add_if (all (fits a (nat_abs (get_or l k (pos 0)))) (atoms l)) (nat_abs (get_or l k (pos 0)))
  unfolding sole_of
  sole_at k e = ap (sole_by a (atoms l)) e ∙ ap (λ (p : ℕ). add_if (all (fits a p) (atoms l)) p) (same_atom k)

  pub first_within : (k : ℕ) → first_false a (atom_lits false l) ≡ Some k → k < length l
  first_within k e =
      let s = says_at (atom_lit false 0) a (atom_lits false l) k e in
      let w = s.within in
      let n = atoms_length false l in
      omega arith

  pub sole_nothing : first_false a (atom_lits false l) ≡ None → sole_of a (atoms l) ≡ None
  unfolding sole_of
  sole_nothing e = ap (sole_by a (atoms l)) e

-- ---- the rule at an index

module _ (a : ℕ → Cell) (t : List ℤ) (at : ℕ) where
  pub rest_at : rest_true a (rule_at t at) ≡ is_conflict (together (asks a (atom_lits false (part_at t (neg_at t at)))) (asks a (literal_lits t (part_at t (aggs_at t at)))))
  unfolding rest_true rule_at
  rest_at = refl

  pub could_none : sole_of a (atoms (part_at t at)) ≡ None → could_of a (rule_at t at) ≡ None
  unfolding could_of rule_at
  could_none e = ap (could_by a (rule_at t at)) e

  pub could_atom : (p : ℕ) → sole_of a (atoms (part_at t at)) ≡ Some p → could_of a (rule_at t at) ≡ add_if (rest_true a (rule_at t at)) p
  unfolding could_of rule_at
  could_atom p e = ap (could_by a (rule_at t at)) e
