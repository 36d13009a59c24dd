-- `reach::marks::apart` meets its contract. Assumes nothing.
use borrow.Author.Rules.{rules}
use borrow.Author.Tests.{tests}
use mathlib.Core.Path.{◌≡◌}
use Prim.Native.Nat.{ℕ}
use lib.Bits.{bit_and}
use Rattle.std.proofs.lemmas.Iterator.{cases_from_all, YieldsList-from_slice, YieldsList-from_zip}
use Rattle.reach.proofs.Words.{apart_from}
use Rattle.reach.proofs.marks.apart.Goals as goal

pub returns : goal.returns
returns c = apart_from _ c.args.a c.args.b (search rules) (search rules)
    (cases_from_all c.all.new.self _ _ (λ (p : ℕ × ℕ). bit_and p.0 p.1 ≡ 0) (λ (p : ℕ × ℕ). Unit {0}) c.all.ensures.ran
    (YieldsList-from_zip (YieldsList-from_slice c.args.a cc) (YieldsList-from_slice c.args.b cc)) (λ x q k. search (rules, tests)) (λ x q k. tt))
