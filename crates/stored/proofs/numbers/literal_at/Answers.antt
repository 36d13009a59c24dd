-- `stored::numbers::literal_at` meets its contract. Assumes nothing.
use Rattle.stored.proofs.Steps.{literal_beyond, literal_cut, literal_descent, literal_got, literal_none}
use lib.ListN.{length}
use Prim.Native.Nat.{◌+◌, ◌≤◌}
use native.Mathlib.Omega.{arith}
use Rattle.stored.proofs.numbers.literal_at.Goals as goal

pub returns-then-bytes-at-lt2 : goal.returns-then-bytes-at-lt2
returns-then-bytes-at-lt2 c = let a = c.args in literal_cut a.bytes.now a.at c.if-bytes-at-lt2.true a.top a.previous

pub returns-then-n-eq0 : goal.returns-then-n-eq0
returns-then-n-eq0 c =
    let a = c.args in
    let h : a.at + 2 ≤ length a.bytes.now = omega (arith, c.requires, c.if-bytes-at-lt2.false) in
    literal_none a.bytes.now a.at c.two_at-code.result h c.two_at-code.ensures a.top a.previous c.if-n-eq0.true

pub returns-then-top-n : goal.returns-then-top-n
returns-then-top-n c =
    let a = c.args in
    let h : a.at + 2 ≤ length a.bytes.now = omega (arith, c.requires, c.if-bytes-at-lt2.false) in
    literal_beyond a.bytes.now a.at c.two_at-code.result h c.two_at-code.ensures a.top a.previous c.if-top-n.true

pub returns-then-n-previous : goal.returns-then-n-previous
returns-then-n-previous c =
    let a = c.args in
    let h : a.at + 2 ≤ length a.bytes.now = omega (arith, c.requires, c.if-bytes-at-lt2.false) in
    literal_descent a.bytes.now a.at c.two_at-code.result h c.two_at-code.ensures a.top a.previous (omega (arith, c.if-n-eq0.false)) c.if-top-n.false c.if-n-previous.true

pub returns : goal.returns
returns c =
    let a = c.args in
    let h : a.at + 2 ≤ length a.bytes.now = omega (arith, c.requires, c.if-bytes-at-lt2.false) in
    literal_got a.bytes.now a.at c.two_at-code.result h c.two_at-code.ensures a.top a.previous c.if-top-n.false c.if-n-previous.false
