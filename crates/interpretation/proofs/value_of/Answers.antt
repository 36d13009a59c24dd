-- `interpretation::value_of` meets its contract. Assumes nothing.
use mathlib.Core.Path.{sym, ap, ◌∙◌}
use Prim.Native.Nat.{ℕ, ◌-◌}
use native.Mathlib.Omega.{arith}
use lib.ListN.{get_or}
use Rattle.interpretation.specs.View.{cell_value, cell_by}
use Rattle.interpretation.proofs.Laws.{valued_at, value_false}
use Rattle.interpretation.proofs.value_of.Goals as goal

pub returns-in-0 : goal.returns-in-0
returns-in-0 c = let a = c.args in sym (ap cell_value (valued_at a.values.now a.p c.requires.0 ∙ ap (λ (v : ℕ). cell_by v 0) c.in-0.is))

pub returns-in-1 : goal.returns-in-1
returns-in-1 c = let a = c.args in sym (ap cell_value (valued_at a.values.now a.p c.requires.0 ∙ ap (λ (v : ℕ). cell_by v 0) c.in-1.is))

pub returns-in_default : goal.returns-in_default
returns-in_default c =
    value_false (get_or c.args.values.now (c.args.p - 1) 0) (λ e. omega arith) (λ e. omega arith) ∙ sym (ap cell_value (valued_at c.args.values.now c.args.p c.requires.0))
