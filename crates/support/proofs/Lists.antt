-- The four lists of a rule that lies in the table, one after the other: what step e sets there, and where a witness is found. Assumes nothing.
use Rattle.std.specs.Prelude.{Some, None}
use Rattle.std.specs.Prelude as code
use mathlib.Core.Path.{◌≡◌, refl, ap, ◌∙◌}
use mathlib.Core.Bool.{true, false}
use mathlib.Core.List.{List}
use Prim.Native.Nat.{ℕ}
use lib.IntN.{ℤ}
use Rattle.interpretation.specs.State.{Cell}
use Rattle.interpretation.specs.declared.Value.TheVariants.{True, False, Undefined}
use Rattle.layout.specs.Layout.{atoms, part_at, pos_at, neg_at, aggs_at, rule_at, Members, Listed, Laid}
use Rattle.layout.specs.declared.Table.{Table}
use Rattle.layout.proofs.Rounds.{members_wide}
use Rattle.literals.specs.Scan.{literal_lits, first_false}
use Rattle.support.specs.declared.Witness.{Witness}
use Rattle.support.specs.declared.Witness.TheVariants as witness
use Rattle.support.specs.Asking.{values_of, first_with, other_true, or_set, forced_of, atom_or, refuted_by, body_witness, witness_at}

-- the atoms of a list are atoms of 1 to 256
pub in_array : (t : List ℤ) (tb : Table) → Laid t tb → (i : ℕ) → Listed tb.atoms t i → Members 256 (part_at t i)
in_array t tb laid i listed = members_wide tb.atoms 256 (part_at t i) laid.few_atoms listed.members

module _ (a : ℕ → Cell) (t : List ℤ) (i : ℕ) where
  -- ---- what step e sets

  abbrev X : code.Option ℕ
  X = first_with (values_of a) Undefined (atoms (part_at t i))

  abbrev Y : code.Option ℕ
  Y = first_with (values_of a) Undefined (atoms (part_at t (pos_at t i)))

  abbrev Z : code.Option ℕ
  Z = first_with (values_of a) Undefined (atoms (part_at t (neg_at t i)))

  forced_at : forced_of a (rule_at t i) ≡ or_set X false (or_set Y true (or_set Z false None))
  unfolding forced_of rule_at
  forced_at = refl

  pub forced_head : (q : ℕ) → X ≡ Some q → forced_of a (rule_at t i) ≡ Some (q, false)
  forced_head q e = forced_at ∙ ap (λ (x : code.Option ℕ). or_set x false (or_set Y true (or_set Z false None))) e

  module _ (n : X ≡ None) where
    pub forced_pos : (q : ℕ) → Y ≡ Some q → forced_of a (rule_at t i) ≡ Some (q, true)
    forced_pos q e = forced_at ∙ ap (λ (x : code.Option ℕ). or_set x false (or_set Y true (or_set Z false None))) n ∙ ap (λ (x : code.Option ℕ). or_set x true (or_set Z false None)) e

    module _ (m : Y ≡ None) where
      pub forced_neg : (z : code.Option ℕ) → Z ≡ z → forced_of a (rule_at t i) ≡ or_set z false None
      forced_neg z e =
          forced_at ∙ ap (λ (x : code.Option ℕ). or_set x false (or_set Y true (or_set Z false None))) n ∙ ap (λ (x : code.Option ℕ). or_set x true (or_set Z false None)) m
          ∙ ap (λ (x : code.Option ℕ). or_set x false None) e

  -- ---- where a witness is found

  abbrev P : code.Option ℕ
  P = first_with (values_of a) False (atoms (part_at t (pos_at t i)))

  abbrev N : code.Option ℕ
  N = first_with (values_of a) True (atoms (part_at t (neg_at t i)))

  abbrev A : code.Option Witness
  A = refuted_by (first_false a (literal_lits t (part_at t (aggs_at t i))))

  body_at : body_witness a t i ≡ atom_or P (atom_or N A)
  unfolding body_witness
  body_at = refl

  pub body_pos : (q : ℕ) → P ≡ Some q → body_witness a t i ≡ Some (witness.Atom q)
  body_pos q e = body_at ∙ ap (λ (x : code.Option ℕ). atom_or x (atom_or N A)) e

  module _ (n : P ≡ None) where
    pub body_neg : (q : ℕ) → N ≡ Some q → body_witness a t i ≡ Some (witness.Atom q)
    body_neg q e = body_at ∙ ap (λ (x : code.Option ℕ). atom_or x (atom_or N A)) n ∙ ap (λ (x : code.Option ℕ). atom_or x A) e

    pub body_aggs : N ≡ None → body_witness a t i ≡ A
    body_aggs e = body_at ∙ ap (λ (x : code.Option ℕ). atom_or x (atom_or N A)) n ∙ ap (λ (x : code.Option ℕ). atom_or x A) e

  module _ (p : ℕ) where
    witness_at_lem : witness_at a t p i ≡ atom_or (other_true (values_of a) p (atoms (part_at t i))) (body_witness a t i)
    unfolding witness_at
    witness_at_lem = refl

    pub witness_head : (q : ℕ) → other_true (values_of a) p (atoms (part_at t i)) ≡ Some q → witness_at a t p i ≡ Some (witness.Atom q)
    witness_head q e = witness_at_lem ∙ ap (λ (x : code.Option ℕ). atom_or x (body_witness a t i)) e

    pub witness_body : other_true (values_of a) p (atoms (part_at t i)) ≡ None → witness_at a t p i ≡ body_witness a t i
    witness_body e = witness_at_lem ∙ ap (λ (x : code.Option ℕ). atom_or x (body_witness a t i)) e
