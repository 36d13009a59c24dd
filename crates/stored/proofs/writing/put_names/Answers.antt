-- `stored::writing::put_names` meets its contract. The invariant of its loop: to lay the names left from here is to lay all from the start. Assumes nothing.
use mathlib.Core.Path.{◌≡◌, ap}
use Prim.Native.Nat.{ℕ, suc, ◌+◌, ◌-◌}
use native.Mathlib.Omega.{arith}
use borrow.Author.Rules.{rules}
use Rattle.bytes_out.proofs.Laws.{left_start, left_step, left_done}
use Rattle.stored.specs.Bytes.{names_bytes, no_names}
use Rattle.stored.proofs.writing.put_names.Goals as goal

pub loop-init : goal.loop-init
loop-init c =
    let e : c.args.n - 0 ≡ c.args.n = omega arith in
    rw e (search (rules, left_start))

pub loop-preserved : goal.loop-preserved
loop-preserved c =
    let e : c.args.n - c.loop.counter ≡ suc (c.args.n - (c.loop.counter + 1)) = omega arith in
    left_step (ap (λ (m : ℕ). names_bytes (no_names m)) e) c.loop.invariant c.put_two-to.ensures

pub returns : goal.returns
returns c =
    let e : c.args.n - c.loop.counter ≡ 0 = omega arith in
    left_done (ap (λ (m : ℕ). names_bytes (no_names m)) e) c.loop.invariant
