-- `stored::numbers::threshold_at` meets its contract. Assumes nothing.
use Rattle.stored.proofs.Steps.{threshold_below, threshold_beyond, threshold_cut, threshold_got}
use lib.ListN.{length}
use Prim.Native.Nat.{◌+◌, ◌≤◌}
use native.Mathlib.Omega.{arith}
use Rattle.stored.proofs.numbers.threshold_at.Goals as goal

pub returns-then-bytes-at-lt4 : goal.returns-then-bytes-at-lt4
returns-then-bytes-at-lt4 c = let a = c.args in threshold_cut a.bytes.now a.at c.if-bytes-at-lt4.true

pub returns-then-n-eq4294967295 : goal.returns-then-n-eq4294967295
returns-then-n-eq4294967295 c =
    let a = c.args in
    let h : a.at + 4 ≤ length a.bytes.now = omega (arith, c.requires, c.if-bytes-at-lt4.false) in
    threshold_below a.bytes.now a.at c.four_at-n.result h c.four_at-n.ensures.0 c.if-n-eq4294967295.true

pub returns-then-n-gt4194304 : goal.returns-then-n-gt4194304
returns-then-n-gt4194304 c =
    let a = c.args in
    let h : a.at + 4 ≤ length a.bytes.now = omega (arith, c.requires, c.if-bytes-at-lt4.false) in
    threshold_beyond a.bytes.now a.at c.four_at-n.result h c.four_at-n.ensures.0 c.four_at-n.ensures.1 c.if-n-eq4294967295.false c.if-n-gt4194304.true

pub returns : goal.returns
returns c =
    let a = c.args in
    let h : a.at + 4 ≤ length a.bytes.now = omega (arith, c.requires, c.if-bytes-at-lt4.false) in
    threshold_got a.bytes.now a.at c.four_at-n.result h c.four_at-n.ensures.0 c.if-n-gt4194304.false
