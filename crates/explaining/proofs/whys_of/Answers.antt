-- `explaining::whys_of` meets its contract. The invariant of its loop: below index i stands what the records hold. Assumes nothing.
use borrow.Author.Rules.{rules}
use mathlib.Core.Path.{◌≡◌, subst}
use Prim.Native.Nat.{ℕ}
use native.Mathlib.Omega.{arith}
use lib.ListN.{length, get_or}
use Rattle.rounds.specs.Rounds.{no_why}
use Rattle.interpretation.specs.View.{blank}
use Rattle.explaining.specs.Kept.{why_in}
use Rattle.explaining.proofs.Kept.{Below, read_all}
use Rattle.explaining.proofs.whys_of.Goals as goal

pub returns : goal.returns
returns c =
    let rs = c.args.it.records in
    let l : length rs ≡ 256 = search rules in
    let e : c.loop-i.i ≡ 256 = omega arith in
    read_all rs c.loop-i.whys l c.loop-i.invariant.0 (subst (Below (λ (j : ℕ). why_in (get_or rs j blank)) (λ (j : ℕ). get_or c.loop-i.whys j no_why)) e c.loop-i.invariant.1)
