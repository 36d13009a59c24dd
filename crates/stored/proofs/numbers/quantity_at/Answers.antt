-- `stored::numbers::quantity_at` meets its contract. Assumes nothing.
use Rattle.stored.proofs.Steps.{quantity_beyond, quantity_cut, quantity_got}
use lib.ListN.{length}
use Prim.Native.Nat.{◌+◌, ◌≤◌}
use native.Mathlib.Omega.{arith}
use Rattle.stored.proofs.numbers.quantity_at.Goals as goal

pub returns-then-bytes-at-lt2 : goal.returns-then-bytes-at-lt2
returns-then-bytes-at-lt2 c = let a = c.args in quantity_cut a.bytes.now a.at c.if-bytes-at-lt2.true a.high

pub returns-then-high-n : goal.returns-then-high-n
returns-then-high-n c =
    let a = c.args in
    let h : a.at + 2 ≤ length a.bytes.now = omega (arith, c.requires, c.if-bytes-at-lt2.false) in
    quantity_beyond a.bytes.now a.at c.two_at-n.result h c.two_at-n.ensures a.high c.if-high-n.true

pub returns : goal.returns
returns c =
    let a = c.args in
    let h : a.at + 2 ≤ length a.bytes.now = omega (arith, c.requires, c.if-bytes-at-lt2.false) in
    quantity_got a.bytes.now a.at c.two_at-n.result h c.two_at-n.ensures a.high c.if-high-n.false
