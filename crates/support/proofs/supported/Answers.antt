-- `support::supported` meets its contract. Assumes nothing.
use mathlib.Core.Path.{ap, ◌∙◌}
use Prim.Native.Nat.{ℕ}
use lib.Dec.{ltb}
use lib.ListN.{length}
use Rattle.interpretation.specs.View.{valued}
use Rattle.support.specs.Asking.{supports_of}
use Rattle.support.proofs.Rounds.{some_skipped}
use Rattle.support.proofs.supported.Goals as goal

pub returns : goal.returns
returns c =
    let a = c.args in
    let f = supports_of (valued a.values.now) a.p in
    ap (λ (k : ℕ). ltb k (length a.l.now)) c.first_support.ensures ∙ some_skipped f a.t.now.words.now a.l.now
