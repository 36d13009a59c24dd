-- `stored::numbers::count_at` meets its contract. Assumes nothing.
use Rattle.stored.proofs.Steps.{count_beyond, count_cut, count_got}
use lib.ListN.{length}
use Prim.Native.Nat.{◌+◌, ◌≤◌}
use native.Mathlib.Omega.{arith}
use Rattle.stored.proofs.numbers.count_at.Goals as goal

pub returns-then-bytes-at-lt2 : goal.returns-then-bytes-at-lt2
returns-then-bytes-at-lt2 c = let a = c.args in count_cut a.bytes.now a.at c.if-bytes-at-lt2.true a.most

pub returns-then-most-n : goal.returns-then-most-n
returns-then-most-n c =
    let a = c.args in
    let h : a.at + 2 ≤ length a.bytes.now = omega (arith, c.requires, c.if-bytes-at-lt2.false) in
    count_beyond a.bytes.now a.at c.two_at-n.result h c.two_at-n.ensures a.most c.if-most-n.true

pub returns : goal.returns
returns c =
    let a = c.args in
    let h : a.at + 2 ≤ length a.bytes.now = omega (arith, c.requires, c.if-bytes-at-lt2.false) in
    count_got a.bytes.now a.at c.two_at-n.result h c.two_at-n.ensures a.most c.if-most-n.false
