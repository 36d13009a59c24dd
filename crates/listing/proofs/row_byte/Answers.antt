-- `listing::row_byte` meets its contract. Assumes nothing.
use mathlib.Core.Path.{◌≡◌, refl, ◌∙◌}
use mathlib.Core.Bool.{Bool, true, false}
use mir.Val.{bool_byte}
use Rattle.listing.specs.Rows.{bit_by}
use Rattle.listing.proofs.Written.{byte_held, byte_past}
use Rattle.listing.proofs.row_byte.Goals as goal
use Rattle.listing.proofs.row_byte.Goals.{then-i-n, else-i-n}

bit : (b : Bool) → bool_byte b ≡ bit_by b
bit true = refl
bit false = refl

pub returns : goal.returns
returns c =
    let a = c.args in
    let e = c.from.ensures ∙ bit c.if-i-n.from in
    elim c.if-i-n.branch [
      | then-i-n w ↦ byte_held a.n a.values.now a.i c.from.result c.if-i-n.from e w.from-is w.if-i-n.true
      | else-i-n w ↦ byte_past a.n a.values.now a.i c.from.result c.if-i-n.from e w.from-is w.if-i-n.false
    ]
