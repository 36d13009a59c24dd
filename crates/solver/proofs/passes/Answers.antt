-- `solver::passes` meets its contract. Assumes nothing.
use mathlib.Core.Path.{sym, ap, ◌∙◌}
use mathlib.Core.List.{List, map}
use Prim.Native.Nat.{ℕ}
use Rattle.meaning.specs.Program.{Program}
use mathlib.Core.Bool.{Bool, not}
use Rattle.interpretation.specs.State.{true_atoms}
use Rattle.interpretation.specs.View.{valued}
use Rattle.layout.specs.Layout.{rule_at, program_of}
use Rattle.heads.proofs.Taking.{whole_rules}
use Rattle.smaller.specs.Cyclic.{has_smaller}
use Rattle.solver.specs.Plans.{passes_by}
use Rattle.solver.proofs.passes.Goals as goal

pub returns-then-cycles : goal.returns-then-cycles
returns-then-cycles c =
    let by : Bool → Bool = λ cycles. let a = c.args in passes_by cycles (program_of a.t.now.words.now a.t.now.places) a.t.now.places.atoms (true_atoms a.t.now.places.atoms (valued a.values.now)) in
    let a = c.args in
    let n = a.t.now.places.atoms in
    let X = true_atoms n (valued a.values.now) in
    ap not (c.has_smaller.ensures ∙ ap (λ (m : List ℕ). has_smaller (map (rule_at a.t.now.words.now) m) n X) c.list-places.ensures ∙ ap (λ (P : Program). has_smaller P n X) (whole_rules a.t.now.words.now a.t.now.places a.lists.now c.requires.0))
    ∙ ap by (sym c.if-cycles.true)
