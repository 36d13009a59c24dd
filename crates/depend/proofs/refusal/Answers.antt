-- `depend::refusal` meets its contract. The two questions in their order. Assumes nothing.
use mathlib.Core.Path.{ap, ◌∙◌}
use Prim.Native.Nat.{ℕ, suc}
use Rattle.std.specs.Prelude.{Option}
use Rattle.meaning.specs.Cycles.{aggregate_cycle}
use Rattle.layout.specs.Layout.{program_of}
use Rattle.depend.specs.Cycles.{lowest, eighth, ninth, cycle_by}
use Rattle.depend.proofs.refusal.Goals as goal

pub returns-in-Some : goal.returns-in-Some
unfolding cycle_by
returns-in-Some c =
    let a = c.args in
    let P = program_of a.t.now.words.now a.t.now.places in
    ap (λ (p : Option ℕ). eighth p (ninth (lowest (aggregate_cycle (suc a.t.now.places.atoms) P) 1 P))) c.in-Some.ensures

pub returns-in-None : goal.returns-in-None
unfolding cycle_by
returns-in-None c =
    let a = c.args in
    let P = program_of a.t.now.words.now a.t.now.places in
    c.ninth.ensures ∙ ap (λ (p : Option ℕ). eighth p (ninth (lowest (aggregate_cycle (suc a.t.now.places.atoms) P) 1 P))) c.in-None.ensures
