-- `second_search::held::start` meets its contract. The invariant of its loop: the atoms 1 .. i stand as at the start. Assumes nothing.
use Prim.Native.Nat.{ℕ, suc, ◌+◌}
use native.Mathlib.Omega.{arith}
use native.Mathlib.Numerals.{add-one}
use mathlib.Core.Path.{◌≡◌, sym, ap, ◌∙◌}
use mathlib.Core.Bool.{false}
use Rattle.meaning.specs.Program.{In}
use Rattle.interpretation.specs.State.{truth_of, true_atoms, defined, put}
use Rattle.interpretation.specs.View.{valued}
use Rattle.foundation.proofs.Decided.{true_at}
use Rattle.second_search.specs.Looking.{cells_at, Whole, start_cells}
use Rattle.second_search.proofs.Starting.{start_none, start_out, start_in}
use Rattle.second_search.proofs.held.start.Goals as goal
use Rattle.second_search.proofs.held.start.Goals.{then-not-is_true, else-not-is_true}

pub loop-i-init : goal.loop-i-init
loop-i-init c = (omega arith, c.requires.1, c.requires.2 ∙ sym (start_none _))

pub loop-i-preserved : goal.loop-i-preserved
loop-i-preserved c =
    let came : let a = c.args in
    Whole c.if-not-is_true.values c.if-not-is_true.levels × (cells_at c.if-not-is_true.values c.if-not-is_true.levels ≡ start_cells (c.loop-i.i + 1) (true_atoms a.n (valued a.candidate.now))) =
    let a = c.args in
    let X = true_atoms a.n (valued a.candidate.now) in
    let k = c.loop-i-test.true in
    let j = c.loop-i.i in
    let I : In a.n (suc j) = (omega arith, omega arith) in
    let s : j + 1 ≡ suc j = add-one j in
    let e : X (suc j) ≡ c.is_true.result = true_at a.n (valued a.candidate.now) (suc j) I ∙ ap (λ (p : ℕ). truth_of (valued a.candidate.now p)) (sym s) ∙ sym c.is_true.ensures in
    elim c.if-not-is_true.branch [
      | then-not-is_true w ↦ rw (w.values-is, w.levels-is) (
        w.set.ensures.0,
        w.set.ensures.1 ∙ ap (put (j + 1) (defined false 0)) c.loop-i.invariant.2 ∙ ap (λ (p : ℕ). put p (defined false 0) (start_cells j X)) s
            ∙ sym (start_out X j (e ∙ w.if-not-is_true.true)) ∙ ap (λ (p : ℕ). start_cells p X) (sym s),
      )
      | else-not-is_true w ↦ rw (w.values-is, w.levels-is) (c.loop-i.invariant.1, c.loop-i.invariant.2 ∙ sym (start_in X j (e ∙ w.if-not-is_true.false)) ∙ ap (λ (p : ℕ). start_cells p X) (sym s))
    ] in
    let k = c.loop-i-test.true in let h = came in (omega arith, h.0, h.1)
