-- `levels::without` meets its contract. Assumes nothing.
use borrow.Author.Rules.{rules}
use mathlib.Core.Path.{◌≡◌, ap, ◌∙◌}
use Prim.Native.Nat.{ℕ, ◌-◌, ◌/◌}
use native.Mathlib.Omega.{arith}
use lib.Bits.{bit_or, bit_xor}
use lib.ListN.{length, get_or, set}
use Rattle.levels.specs.View.{row}
use Rattle.levels.proofs.Bits.{one_bit}
use Rattle.levels.proofs.Laws.{row_without}
use Rattle.levels.proofs.without.Goals as goal

pub returns : goal.returns
returns c =
    let ws = c.args.a in
    let l = c.args.l in
    let n : length ws ≡ 4 = search rules in
    let h = c.requires in
    ap (λ (b : ℕ). row (set ws ((l - 1) / 64) (bit_xor (bit_or (get_or ws ((l - 1) / 64) 0) b) b))) (one_bit (l - 1)) ∙ row_without ws l h.0 (omega arith)
