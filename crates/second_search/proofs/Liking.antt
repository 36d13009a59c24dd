-- Working states that differ in reasons only stay so through steps a to c, a pass and passes; and one rule further, one pass further, as the code goes.
-- Assumes nothing.
use Prim.Native.Nat.{ℕ, zero, suc}
use mathlib.Core.Path.{◌≡◌, refl, sym, ◌∙◌, ap, ap₂}
use mathlib.Core.Bool.{Bool, true, false, cond}
use mathlib.Core.List.{[], ◌∷◌}
use Rattle.meaning.specs.Program.{Rule, Program}
use Rattle.meaning.proofs.Tools.{clash}
use Rattle.levels.specs.Levels.{Levels}
use Rattle.interpretation.specs.State.{Cell, defined, put}
use Rattle.steps.specs.Steps.{Verdict, settled, conflict, is_settled, Work, set, refuted, if_settled, step_rule, rule_reason, rule_pass, pass, passes}
use Rattle.rules.specs.declared.Step.{Step}
use Rattle.rules.specs.declared.Step.TheVariants.{Nothing, Conflict, Set}
use Rattle.rules.specs.Demand.{demand_of, did}
use Rattle.rules.proofs.Rule.{step_rule_lem}
use Rattle.second_search.specs.Looking.{Like}

pub like_refl : (w : Work) → Like w w
like_refl w = record { level = refl; cells = refl; same = refl; moved = refl }

pub like_then : {w u x : Work} → Like w u → Like u x → Like w x
like_then S T = record { level = S.level ∙ T.level; cells = S.cells ∙ T.cells; same = S.same ∙ T.same; moved = S.moved ∙ T.moved }

-- ---- what a step does

pub like_set : (p : ℕ) (v : Bool) (R Q : Levels) {w u : Work} → Like w u → Like (set p v R w) (set p v Q u)
like_set p v R Q {w} {u} S = record { level = S.level; cells = ap₂ (λ (l : ℕ) (a : ℕ → Cell). put p (defined v l) a) S.level S.cells; same = S.same; moved = refl }

like_refuted : (C D : Levels) {w u : Work} → Like w u → Like (refuted C w) (refuted D u)
like_refuted C D S = record { level = S.level; cells = S.cells; same = refl; moved = S.moved }

like_settled : (v x : Verdict) {w w' u u' : Work} → is_settled v ≡ is_settled x → Like w u → Like w' u' → Like (if_settled v w w') (if_settled x u u')
like_settled settled settled e S T = S
like_settled settled (conflict C) e S T = absurd (clash (sym e) refl)
like_settled (conflict C) settled e S T = absurd (clash e refl)
like_settled (conflict C) (conflict D) e S T = T

like_cond : (b c : Bool) {w w' u u' : Work} → b ≡ c → Like w u → Like w' u' → Like (cond b w w') (cond c u u')
like_cond true true e S T = S
like_cond true false e S T = absurd (clash (sym e) refl)
like_cond false true e S T = absurd (clash e refl)
like_cond false false e S T = T

like_did : (d : Step) (R Q : Levels) {w u : Work} → Like w u → Like (did d R w) (did d Q u)
like_did Nothing R Q S = S
like_did Conflict R Q S = like_refuted R Q S
like_did (Set p v) R Q S = like_set p v R Q S

pub like_rule : (r : Rule) {w u : Work} → Like w u → Like (step_rule r w) (step_rule r u)
like_rule r {w} {u} S =
    let e : demand_of w.cell r ≡ demand_of u.cell r = ap (λ (a : ℕ → Cell). demand_of a r) S.cells in
    rw (step_rule_lem r w, step_rule_lem r u, e)
    (like_settled w.verdict u.verdict S.same (like_did (demand_of u.cell r) (rule_reason r w) (rule_reason r u) S) S)

pub like_rules : (P : Program) {w u : Work} → Like w u → Like (rule_pass P w) (rule_pass P u)
like_rules [] S = S
like_rules (r ∷ s) S = like_rules s (like_rule r S)

-- a pass that has no atoms for the steps d and e
pub like_pass : (P : Program) {w u : Work} → Like w u → Like (pass P 0 w) (pass P 0 u)
like_pass P S = like_rules P (record { level = S.level; cells = S.cells; same = S.same; moved = refl })

-- what follows a pass
abbrev pub go_on : Program → ℕ → Work → Work
go_on P f u = if_settled u.verdict (cond u.changed (passes P 0 f u) u) u

on_from : (P : Program) (f : ℕ) {w u : Work} → Like (passes P 0 f w) (passes P 0 f u) → Like w u → Like (go_on P f w) (go_on P f u)
on_from P f {w} {u} A T = like_settled w.verdict u.verdict T.same (like_cond w.changed u.changed T.moved A T) T

pub like_passes : (P : Program) (f : ℕ) {w u : Work} → Like w u → Like (passes P 0 f w) (passes P 0 f u)
like_passes P zero S = S
like_passes P (suc f) S = let T = like_pass P S in on_from P f (like_passes P f T) T

pub like_on : (P : Program) (f : ℕ) {w u : Work} → Like w u → Like (go_on P f w) (go_on P f u)
like_on P f S = on_from P f (like_passes P f S) S
