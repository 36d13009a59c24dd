-- A search over the rules that take part is the trial of the definition. Assumes nothing.
use mathlib.Core.Path.{◌≡◌, refl, sym, ap, ◌∙◌}
use mathlib.Core.Bool.{Bool}
use mathlib.Core.List.{List, map}
use Prim.Native.Nat.{ℕ}
use lib.IntN.{ℤ}
use Rattle.meaning.specs.Program.{Program}
use Rattle.interpretation.specs.State.{true_atoms}
use Rattle.interpretation.specs.View.{view, valued}
use Rattle.interpretation.specs.declared.Interpretation.{Interpretation}
use Rattle.layout.specs.declared.Table.{Table}
use Rattle.layout.specs.Layout.{rule_at, program_of}
use Rattle.heads.specs.Heads.{list_at, taking}
use Rattle.outcome.specs.declared.Ending.{Ending}
use Rattle.outcome.specs.declared.Ending.TheVariants as ending
use Rattle.outcome.specs.declared.Found.{Found}
use Rattle.search.specs.Search.{jump, solve}
use Rattle.smaller.specs.Cyclic.{base_by}
use Rattle.jumping.specs.Jumping.{result_of, Solves}
use Rattle.jumping.proofs.Plans.{plan_alone}
use Rattle.relaxing.specs.Relaxing.{rules_of, found, by_result, by_outcome, trial}
use Rattle.relaxer.specs.Offering.{kept_places, trial_by}
use Rattle.relaxer.proofs.Places.{kept_rules}

told : (e : Ending) (n : ℕ) (it : Interpretation) → trial_by e (true_atoms n (valued it.values)) ≡ by_result (result_of e (true_atoms n (view it).cell))
told ending.Answer n it = ap found (sym (plan_alone n it.values it.records))
told ending.Nothing n it = refl
told ending.Limit n it = refl

-- list 0 of the lists a has the rules that take part with `kept`
pub searched : (cycles : Bool) (lim : ℕ) (t : List ℤ) (tb : Table) (kept : ℕ → Bool) (a : List ℕ) (f : Found) → list_at a 0 ≡ kept_places kept t tb → Solves (base_by cycles (taking t a) tb.atoms) lim f
    → trial_by f.ending (true_atoms tb.atoms (valued f.it.values)) ≡ trial cycles tb.atoms lim (rules_of (program_of t tb) kept)
unfolding trial
searched cycles lim t tb kept a f e s =
    told f.ending tb.atoms f.it ∙ sym (ap by_outcome s.1)
    ∙ ap (λ (P : Program). by_outcome (solve (base_by cycles P tb.atoms) jump lim)) (ap (map (rule_at t)) e ∙ kept_rules kept t tb)
