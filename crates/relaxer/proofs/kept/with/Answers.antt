-- `relaxer::kept::with` meets its contract. Assumes nothing.
use borrow.Author.Rules.{rules}
use mathlib.Core.Path.{◌≡◌, ap, ◌∙◌}
use Prim.Native.Nat.{ℕ, ◌-◌, ◌/◌}
use native.Mathlib.Omega.{arith}
use lib.Bits.{bit_or}
use lib.ListN.{length, get_or, set}
use Rattle.levels.specs.View.{row}
use Rattle.levels.proofs.Bits.{one_bit}
use Rattle.relaxer.proofs.Numbers.{with_number_lem}
use Rattle.relaxer.proofs.kept.with.Goals as goal

pub returns : goal.returns
returns c =
    let ws = c.args.a in
    let i = c.args.i in
    let n : length ws ≡ 16 = search rules in
    let h = c.requires in
    ap (λ (b : ℕ). row (set ws ((i - 1) / 64) (bit_or (get_or ws ((i - 1) / 64) 0) b))) (one_bit (i - 1)) ∙ with_number_lem ws i h.0 (omega arith)
