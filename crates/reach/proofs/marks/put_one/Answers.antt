-- `reach::marks::put_one` meets its contract. Assumes nothing.
use mathlib.Core.Path.{sym, ◌∙◌}
use native.Mathlib.Omega.{arith}
use Rattle.meaning.specs.Lists.{Is}
use Rattle.levels.specs.View.{row}
use Rattle.reach.proofs.Putting.{room, put_new}
use Rattle.reach.proofs.marks.put_one.Goals as goal

pub bounds-list-end : goal.bounds-list-end
bounds-list-end c =
    let a = c.args in
    room (row a.seen.marks) a.list.now a.seen.count a.l c.requires.2 c.requires.0 c.requires.1 (sym c.has-2.ensures ∙ c.if-has.false)

pub more-requires : goal.more-requires
more-requires c =
    let a = c.args in
    let h = room (row a.seen.marks) a.list.now a.seen.count a.l c.requires.2 c.requires.0 c.requires.1 (sym c.has-2.ensures ∙ c.if-has.false) in
    (c.requires.0, c.requires.1, omega (arith, h))

pub returns : goal.returns
returns c =
    let a = c.args in
    let T = row a.to in
    let here : Is (T a.l) = sym c.has.ensures ∙ c.if-not-has.false in
    rw c.more.ensures.1
    (put_new _ (row a.seen.marks) (row c.more.result.marks) a.list.now a.seen.count a.l c.requires.2 c.requires.0 c.requires.1 (sym c.has-2.ensures ∙ c.if-has.false)
    c.more.ensures.0 (omega arith, omega arith, here) (λ q t. omega (arith, t.0, t.1)))
