-- One turn of the loop over rules of `search_by`, over the values alone.
--   lies, aim            the rule at hand lies in the table; an atom that it sets is one of 1 .. 256
--   Calm                 what the turn leaves: the step of the rule, and which rules and atoms ask nothing then
--   calm_over            the rule asks nothing
--   calm_changes         the rule sets an atom
--   goes_on              what the rules from the next one on come to
-- Assumes nothing.
use Prim.Native.Nat.{ℕ, suc, ◌+◌, ◌-◌, ◌≤◌, ◌<◌}
use native.Mathlib.Omega.{arith}
use mathlib.Core.Path.{◌≡◌, sym, ap, ◌∙◌}
use mathlib.Core.Bool.{Bool, true}
use mathlib.Core.List.{List, ◌++◌}
use lib.IntN.{ℤ}
use lib.ListN.{length, get_or, set}
use Rattle.levels.specs.View.{row, rows}
use Rattle.interpretation.specs.State.{set_at}
use Rattle.interpretation.specs.View.{view, valued}
use Rattle.interpretation.specs.declared.Interpretation.{Interpretation}
use Rattle.layout.specs.declared.Table.{Table}
use Rattle.layout.specs.Layout.{rule_at, RuleLies, Laid}
use Rattle.layout.proofs.Inside.{rule_in_lem}
use Rattle.heads.specs.Heads.{Listed}
use Rattle.meaning.specs.Program.{Rule}
use Rattle.steps.specs.Steps.{step_rule, rule_pass, head_lits, body_lits, Work}
use Rattle.rules.specs.declared.Step.TheVariants.{Nothing, Set}
use Rattle.rules.specs.Demand.{demand_of}
use Rattle.rules.proofs.Rule.{demand_open}
use Rattle.valuing.specs.Reasons.{reasons_of}
use Rattle.propagation.specs.Propagation.{work}
use Rattle.propagation.proofs.Passing.{rules_at, rules_on, lies_at}
use Rattle.propagation.proofs.Stepped.{Stepped, rule_nothing, rule_sets}
use Rattle.propagation.proofs.Quiet.{QuietRules, QuietAtoms, rules_out, rules_more, atoms_out}

module _ (t : List ℤ) (tb : Table) (lists : List ℕ) (r : ℕ) where
  abbrev pub the_rule : Rule
  the_rule = rule_at t (get_or lists r 0)

  pub lies : Listed t tb lists → get_or lists 0 0 ≤ r → r < get_or lists 1 0 → RuleLies tb.atoms tb.aggregates t (get_or lists r 0)
  lies I l h = lies_at t tb lists I r l h

  pub aim : Laid t tb → Listed t tb lists → get_or lists 0 0 ≤ r → r < get_or lists 1 0 → (values : List ℕ) (q : ℕ) (v : Bool) → demand_of (valued values) (rule_at t (get_or lists r 0)) ≡ Set q v → (1 ≤ q) × (q ≤ 256)
  aim L I l h values q v e =
      let k = (demand_open tb.atoms (valued values) (rule_at t (get_or lists r 0)) q v (rule_in_lem t tb L (get_or lists r 0) (lies I l h)) e).1 in
      (k.0, omega (arith, k.1, L.few_atoms))

  module _ (it : Interpretation) (reasons : List (List ℕ)) (changed : Bool) where
    -- the step of the rule, and which rules and atoms ask nothing then: those passed since the last change, and those from the bounds on
    pub record Calm (x : Interpretation) (rs : List (List ℕ)) (rules_to atoms_to : ℕ) (b : Bool) (quiet : ℕ) : Type 0 where
      pub came : Stepped it (step_rule (rule_at t (get_or lists r 0)) (work it reasons changed)) x rs b
      pub bound : rules_to ≤ get_or lists 1 0
      pub ahead : quiet ≤ get_or lists 1 0
      pub passed : QuietRules t lists x.values quiet (r + 1)
      pub rest : QuietRules t lists x.values rules_to (get_or lists 1 0)
      pub top : atoms_to ≤ tb.atoms
      pub above : QuietAtoms t tb x.values atoms_to (suc tb.atoms)

    pub calm_over : (rules_to atoms_to quiet : ℕ) → length reasons ≡ 256 → rules_to ≤ get_or lists 1 0 → quiet ≤ get_or lists 1 0 → QuietRules t lists it.values quiet r
        → QuietRules t lists it.values rules_to (get_or lists 1 0) → atoms_to ≤ tb.atoms → QuietAtoms t tb it.values atoms_to (suc tb.atoms)
        → demand_of (valued it.values) (rule_at t (get_or lists r 0)) ≡ Nothing → Calm it reasons rules_to atoms_to changed quiet
    calm_over rules_to atoms_to quiet n b a p q m u e = record {
      came = rule_nothing it reasons changed (rule_at t (get_or lists r 0)) n e;
      bound = b;
      ahead = a;
      passed = rules_more t lists it.values quiet r p e;
      rest = q;
      top = m;
      above = u;
    }

    pub calm_changes : Laid t tb → Listed t tb lists → get_or lists 0 0 ≤ r → r < get_or lists 1 0 → length reasons ≡ 256
        → (w : List ℕ) → row w ≡ reasons_of (valued it.values) (rows reasons) (head_lits (rule_at t (get_or lists r 0)) ++ body_lits (rule_at t (get_or lists r 0)))
        → (q : ℕ) (v : Bool) (x : Interpretation) → demand_of (valued it.values) (rule_at t (get_or lists r 0)) ≡ Set q v → view x ≡ set_at q v (view it)
        → Calm x (set reasons (q - 1) w) (get_or lists 1 0) tb.atoms true (r + 1)
    calm_changes L I l h n w f q v x e g =
        let k = aim L I l h it.values q v e in
        record {
          came = rule_sets it reasons changed (rule_at t (get_or lists r 0)) w f q v x n k.0 k.1 e g;
          bound = omega arith;
          ahead = omega (arith, h);
          passed = rules_out t lists x.values (r + 1) (r + 1) (omega arith);
          rest = rules_out t lists x.values (get_or lists 1 0) (get_or lists 1 0) (omega arith);
          top = omega arith;
          above = atoms_out t tb x.values tb.atoms (suc tb.atoms) (omega arith);
        }

    pub goes_on : Listed t tb lists → r < get_or lists 1 0 → (x : Interpretation) (rs : List (List ℕ)) (b : Bool) → Stepped it (step_rule (rule_at t (get_or lists r 0)) (work it reasons changed)) x rs b
        → (y : Work) → rule_pass (rules_at t lists r (get_or lists 1 0)) (work it reasons changed) ≡ y → rule_pass (rules_at t lists (r + 1) (get_or lists 1 0)) (work x rs b) ≡ y
    goes_on I h x rs b s y e =
        ap (rule_pass (rules_at t lists (r + 1) (get_or lists 1 0))) (sym s.same) ∙ sym (rules_on t lists r (get_or lists 1 0) (work it reasons changed) h I.all.fits) ∙ e
