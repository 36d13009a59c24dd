-- `table::roles::quantity_at` meets its contract: by cases on the word read, then on the tests. Assumes nothing.
use borrow.Author.Rules.{rules}
use mathlib.Core.Path.{◌≡◌, sym, ap, ◌∙◌}
use mathlib.Core.Bool.{true, false}
use lib.IntN.{nat_abs}
use lib.Signed.{lt_z}
use mir.Syntax.{w32}
use mir.Val.{to_z, of_z}
use Prim.Native.Nat.{ℕ}
use Rattle.std.specs.Prelude.{Ok}
use Rattle.table.specs.Roles.{quantity}
use Rattle.table.proofs.Faults.{quantity_low, quantity_high, quantity_in}
use Rattle.table.proofs.Returned.{got_absent, got_bad, got_good}
use Rattle.table.proofs.roles.quantity_at.Goals as goal

pub returns-in_default : goal.returns-in_default
returns-in_default c = sym (got_absent (quantity c.args.low c.args.high) _ _ _ (sym c.word_at.ensures ∙ c.in_default.is))

pub returns-then-w-low : goal.returns-then-w-low
returns-then-w-low c =
    let a = c.args in
    let z = c.in-Ok.w in
    let k : to_z w32 (of_z w32 z) ≡ z = search rules in
    let l : to_z w32 (of_z w32 a.low) ≡ a.low = search rules in
    let h : lt_z z a.low ≡ true = rw (k, l) at c.if-w-low.true in
    sym (got_bad (quantity a.low a.high) _ _ _ _ _ (sym c.in-Ok.ensures) (quantity_low a.low a.high a.i z h))

pub returns-then-high-w : goal.returns-then-high-w
returns-then-high-w c =
    let a = c.args in
    let z = c.in-Ok.w in
    let k : to_z w32 (of_z w32 z) ≡ z = search rules in
    let l : to_z w32 (of_z w32 a.high) ≡ a.high = search rules in
    let h : lt_z a.high z ≡ true = rw (k, l) at c.if-high-w.true in
    sym (got_bad (quantity a.low a.high) _ _ _ _ _ (sym c.in-Ok.ensures) (quantity_high a.low a.high a.i z h))

pub returns : goal.returns
returns c =
    let a = c.args in
    let z = c.in-Ok.w in
    let k : to_z w32 (of_z w32 z) ≡ z = search rules in
    let l : to_z w32 (of_z w32 a.low) ≡ a.low = search rules in
    let m : to_z w32 (of_z w32 a.high) ≡ a.high = search rules in
    let h : lt_z z a.low ≡ false = rw (k, l) at c.if-w-low.false in
    let g : lt_z a.high z ≡ false = rw (k, m) at c.if-high-w.false in
    let s : nat_abs z ≡ c.size-n.result = rw k at (sym c.size-n.ensures) in
    ap (λ (n : ℕ). Ok (n, c.in-Ok.next)) (sym s)
    ∙ sym (got_good (quantity a.low a.high) _ _ _ _ (sym c.in-Ok.ensures) (quantity_in a.low a.high a.i z h g))
