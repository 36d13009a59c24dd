-- `stored::reading::names_at` meets its contract. Assumes nothing.
use mathlib.Core.Path.{◌≡◌, sym, ◌∙◌, subst}
use mathlib.Core.Bool.{◌||◌}
use Prim.Native.Nat.{ℕ, ◌+◌, ◌-◌, ◌<◌, ◌≤◌}
use native.Mathlib.Omega.{arith}
use lib.ListN.{drop}
use Rattle.std.proofs.lemmas.Result.{err_from_is_err_and}
use Rattle.stored.specs.Bytes.{name_of}
use Rattle.stored.proofs.NamesTold.{Naming, naming_on, naming_stop, naming_done, name_told_lem, name_refused, or_none}
use Rattle.stored.proofs.reading.names_at.Goals as goal

pub loop-init : goal.loop-init
loop-init c =
    let e : c.args.n - 0 ≡ c.args.n = omega arith in
    (c.requires, rw e (sym (or_none _)))

pub returns-in_err-filled : goal.returns-in_err-filled
returns-in_err-filled c =
    let a = c.args in
    let p = err_from_is_err_and c.from_residual.result c.from_residual.ensures.1 in
    let k : 0 < a.n - c.loop.counter = omega arith in
    rw (p.1, p.2)
    (naming_stop a.bytes.now a.n a.at c.loop.any (a.n - c.loop.counter) c.loop.to c.loop.invariant.1 k _
    (name_refused (name_of c.loop.to (drop c.loop.to a.bytes.now)) _ (sym c.name_at.ensures ∙ c.in_err-filled.was)))

pub loop-preserved : goal.loop-preserved
loop-preserved c =
    let a = c.args in
    let k : 0 < a.n - c.loop.counter = omega arith in
    let d = name_told_lem a.bytes.now c.loop.to c.in_ok-filled.filled c.in_ok-filled.next c.loop.invariant.0 (sym c.name_at.ensures ∙ c.in_ok-filled.was) in
    let e : a.n - c.loop.counter - 1 ≡ a.n - (c.loop.counter + 1) = omega arith in
    let n : Naming a.bytes.now a.n a.at (c.in_ok-filled.filled || c.loop.any) (a.n - c.loop.counter - 1) c.in_ok-filled.next =
    naming_on a.bytes.now a.n a.at c.loop.any (a.n - c.loop.counter) c.loop.to c.loop.invariant.1 k c.in_ok-filled.filled c.in_ok-filled.next d in
    (d.high, subst (λ (m : ℕ). Naming a.bytes.now a.n a.at (c.in_ok-filled.filled || c.loop.any) m c.in_ok-filled.next) e n)

pub returns : goal.returns
returns c =
    let a = c.args in
    let k : a.n - c.loop.counter ≤ 0 = omega arith in
    naming_done a.bytes.now a.n a.at c.loop.any (a.n - c.loop.counter) c.loop.to c.loop.invariant.1 k
