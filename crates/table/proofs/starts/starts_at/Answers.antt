-- `table::starts::starts_at` meets its contract: the aggregates one by one. Assumes nothing.
use native.Mathlib.Omega.{arith}
use mathlib.Core.Path.{sym, ◌∙◌}
use Prim.Native.Nat.{◌<◌}
use lib.ListN.{length}
use Rattle.table.proofs.Placing.{places_on, places_stop, places_none, aggregate_within}
use Rattle.table.proofs.Returned.{ends}
use Rattle.table.proofs.starts.starts_at.Goals as goal

pub returns-in_err-next : goal.returns-in_err-next
returns-in_err-next c =
    ends _ _ c.from_residual.ensures.1
    ∙ sym (places_stop _ _ c.loop-k.k _ c.loop-k.starts _ _ c.loop-k-test.true (sym c.in_err-next.ensures))
    ∙ c.loop-k.invariant

pub overflow_cast-starts : goal.overflow_cast-starts
overflow_cast-starts c =
    let within : c.loop-k.at < length c.args.t.now = aggregate_within _ _ _ _ (sym c.in_ok-next.ensures) in
    omega (arith, within, c.requires)

pub loop-k-preserved : goal.loop-k-preserved
loop-k-preserved c = sym (places_on _ _ c.loop-k.k _ c.loop-k.starts _ _ c.loop-k-test.true (sym c.in_ok-next.ensures)) ∙ c.loop-k.invariant

pub returns : goal.returns
returns c = sym (places_none _ _ c.loop-k.k _ c.loop-k.starts _ c.loop-k.auto.k-end c.loop-k-test.false) ∙ c.loop-k.invariant
