-- The rules of a table one after the other, as the loops take them.
-- Assumes nothing.
use Prim.Native.Nat.{ℕ, ◌-◌, ◌≤◌, ◌<◌}
use native.Mathlib.Omega.{arith}
use mathlib.Core.Path.{◌≡◌, ap, ◌∙◌}
use mathlib.Core.Bool.{Bool, true, false, not, ◌&&◌}
use mathlib.Core.List.{List}
use lib.IntN.{ℤ}
use Rattle.meaning.specs.Lists.{all}
use Rattle.meaning.specs.Aggregates.{Atoms}
use Rattle.meaning.specs.Program.{In}
use Rattle.meaning.specs.Answers.{holds, model}
use Rattle.interpretation.specs.State.{Cell, true_atoms, AllDefined}
use Rattle.layout.specs.declared.Table.{Table}
use Rattle.layout.specs.Layout.{past_rule, rule_at, rules_from, RuleLies, Laid}
use Rattle.layout.proofs.Inside.{rule_in_lem}
use Rattle.layout.proofs.Rounds.{rules_on, rules_none}
use Rattle.rules.specs.Demand.{demand_of, is_conflict}
use Rattle.std.specs.Prelude.{Some}
use Rattle.foundation.specs.Walk.{could_of}
use Rattle.foundation.proofs.Decided.{holds_decided}
use Rattle.foundation.proofs.Adding.{could_e}

module _ (t : List ℤ) (i : ℕ) where
  -- ---- a model

  model_cons : (Y : Atoms) (n : ℕ) → 0 < n → model (rules_from t i n) Y ≡ (holds Y (rule_at t i) && model (rules_from t (past_rule t i) (n - 1)) Y)
  unfolding model
  model_cons Y n h = ap (all (holds Y)) (rules_on t i n h)

  pub model_none : (Y : Atoms) (n : ℕ) → n ≤ 0 → model (rules_from t i n) Y ≡ true
  unfolding model
  model_none Y n h = ap (all (holds Y)) (rules_none t i n h)

  module _ (tb : Table) (laid : Laid t tb) (a : ℕ → Cell) (D : AllDefined tb.atoms a) (l : RuleLies tb.atoms tb.aggregates t i) (n : ℕ) (h : 0 < n) where
    rule_holds : (b : Bool) → is_conflict (demand_of a (rule_at t i)) ≡ b → holds (true_atoms tb.atoms a) (rule_at t i) ≡ not b
    rule_holds b e = holds_decided tb.atoms a D (rule_at t i) (rule_in_lem t tb laid i l) ∙ ap not e

    pub model_fails : is_conflict (demand_of a (rule_at t i)) ≡ true → model (rules_from t i n) (true_atoms tb.atoms a) ≡ false
    model_fails e =
        model_cons (true_atoms tb.atoms a) n h
        ∙ ap (λ (b : Bool). b && model (rules_from t (past_rule t i) (n - 1)) (true_atoms tb.atoms a)) (rule_holds true e)

    pub model_on : is_conflict (demand_of a (rule_at t i)) ≡ false → model (rules_from t i n) (true_atoms tb.atoms a) ≡ model (rules_from t (past_rule t i) (n - 1)) (true_atoms tb.atoms a)
    model_on e =
        model_cons (true_atoms tb.atoms a) n h
        ∙ ap (λ (b : Bool). b && model (rules_from t (past_rule t i) (n - 1)) (true_atoms tb.atoms a)) (rule_holds false e)

-- an atom that a rule of the table could add is one of 1 .. 256
pub could_range : (t : List ℤ) (tb : Table) → Laid t tb → (i : ℕ) → RuleLies tb.atoms tb.aggregates t i → (a : ℕ → Cell) (p : ℕ) → could_of a (rule_at t i) ≡ Some p → In 256 p
could_range t tb laid i l a p e =
    let j = (rule_in_lem t tb laid i l).heads p (could_e a (rule_at t i) p e).0.inside in
    let f = laid.few_atoms in
    (j.0, omega (arith, j.1))
