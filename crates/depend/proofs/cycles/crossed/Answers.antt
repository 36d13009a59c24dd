-- `depend::cycles::crossed` meets its contract: it asks the members of the list, each of which is in range. Assumes nothing.
use borrow.Author.Rules.{rules}
use mathlib.Core.Path.{◌∙◌}
use Prim.Native.Nat.{ℕ}
use lib.IntN.{ℤ, nat_abs}
use Rattle.std.proofs.lemmas.Iterator.{YieldsList-from_slice}
use Rattle.std.proofs.lemmas.Iterator.Adapters.{serves_from_places}
use Rattle.std.proofs.lemmas.Iterator.Search.{any_from_yields_List}
use Rattle.meaning.specs.Lists.{any}
use Rattle.layout.specs.Layout.{atoms}
use Rattle.depend.specs.Circles.{alike}
use Rattle.depend.specs.Cycles.{crossing}
use mathlib.Core.Bool.{Bool}
use mathlib.Core.List.{List}
use Rattle.depend.proofs.Walk.{any_map, member_of}
use Rattle.depend.proofs.cycles.crossed.Goals as goal

-- the test of a head atom
abbrev passes : List ℕ → List ℤ → ℕ → Bool
passes names head = λ p. any (λ (q : ℕ). crossing (alike names) p q) (atoms head)

pub any-requires-clause-callable : goal.any-requires-clause-callable
any-requires-clause-callable c =
    let l = c.args.head.now in
    serves_from_places (YieldsList-from_slice l cc) (λ x q r. search rules)
    (λ x k h e.
    let m = member_of 256 l c.requires x.now k h e in
    let low = m.0 in
    let high = m.1 in
    search rules)

pub returns : goal.returns
returns c =
    let a = c.args in
    any_from_yields_List (λ (w : ℤ). passes a.names.now a.head.now (nat_abs w)) _ _ _ c.any.ensures.ran (YieldsList-from_slice a.head.now cc) (λ x b q k. search rules)
    ∙ any_map (passes a.names.now a.head.now) nat_abs a.head.now
