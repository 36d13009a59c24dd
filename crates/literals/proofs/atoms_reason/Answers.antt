-- `literals::atoms_reason` meets its contract. Assumes nothing.
use Rattle.std.proofs.Common.{rules, ◌≡◌, ℕ, ◌+◌, nat_abs, pos, get_or, drop, sym, ap, ◌∙◌}
use Rattle.levels.specs.Levels.{Levels, union}
use Rattle.levels.specs.View.{row, rows}
use Rattle.interpretation.specs.View.{valued}
use Rattle.layout.specs.Layout.{atoms}
use Rattle.valuing.specs.Reasons.{reason_at}
use Rattle.literals.specs.Scan.{atoms_reason}
use Rattle.literals.proofs.Walks.{atoms_on, atoms_end}
use Rattle.literals.proofs.atoms_reason.Goals as goal

pub loop-w-preserved : goal.loop-w-preserved
loop-w-preserved c =
    let a = c.args in
    let i = c.loop-w.w-index in
    let X = valued a.values.now in
    let R = rows a.reasons.now in
    let read : c.size.result ≡ nat_abs (get_or a.l.now i (pos 0)) = search rules in
    let next = c.atom_reason-next.ensures ∙ ap (λ (p : ℕ). union (reason_at (X p) (R p)) (row c.loop-w.acc)) read in
    ap (λ (S : Levels). union (atoms_reason X R (atoms (drop (i + 1) a.l.now))) S) next ∙ atoms_on a.l.now i X R c.loop-w-test.true (row c.loop-w.acc) ∙ c.loop-w.invariant

pub returns : goal.returns
returns c =
    let a = c.args in
    sym (atoms_end a.l.now c.loop-w.w-index (valued a.values.now) (rows a.reasons.now) c.loop-w-test.false (row c.loop-w.acc)) ∙ c.loop-w.invariant
