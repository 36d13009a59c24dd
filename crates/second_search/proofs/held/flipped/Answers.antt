-- `second_search::held::flipped` meets its contract: what was set at the present level is undone, and then its choice atom set. Assumes nothing.
use Prim.Native.Nat.{ℕ, ◌-◌}
use native.Mathlib.Omega.{arith}
use mathlib.Core.Path.{sym, ap, ◌∙◌}
use mathlib.Core.Bool.{true}
use lib.ListN.{get_or}
use Rattle.interpretation.specs.State.{Cell, defined, put}
use Rattle.interpretation.proofs.Laws.{choices_at}
use Rattle.second_search.proofs.Arrays.{flips}
use Rattle.second_search.proofs.held.flipped.Goals as goal

pub set-requires : goal.set-requires
set-requires c =
    let e = choices_at c.args.chosen.now c.args.depth c.args.depth c.requires.0 (omega arith) in
    let l = c.requires.2 in
    let h = c.requires.3 in
    (omega arith, omega arith, c.undo.ensures.0)

pub returns : goal.returns
returns c =
    let a = c.args in
    let p = get_or a.chosen.now (a.depth - 1) 0 in (
      c.set.ensures.0,
      flips a.values.now a.levels.now c.set.new.values c.set.new.levels a.chosen.now a.depth p c.requires.0 (sym (choices_at c.args.chosen.now c.args.depth c.args.depth c.requires.0 (omega arith)))
          (c.set.ensures.1 ∙ ap (λ (f : ℕ → Cell). put p (defined true (a.depth - 1)) f) c.undo.ensures.1),
    )
