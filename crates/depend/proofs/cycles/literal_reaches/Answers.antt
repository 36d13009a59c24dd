-- `depend::cycles::literal_reaches` meets its contract: it asks the members of the list, each of which is in range. Assumes nothing.
use borrow.Author.Rules.{rules}
use mathlib.Core.Path.{◌≡◌, ◌∙◌}
use Prim.Native.Nat.{ℕ}
use lib.IntN.{ℤ, nat_abs}
use Rattle.std.proofs.lemmas.Iterator.{YieldsList-from_slice}
use Rattle.std.proofs.lemmas.Iterator.Adapters.{serves_from_places}
use Rattle.std.proofs.lemmas.Iterator.Search.{any_from_yields_List}
use mathlib.Core.Bool.{Bool}
use mathlib.Core.List.{List, map}
use Prim.Native.Nat.{◌-◌}
use Rattle.std.specs.List.{list_any}
use Rattle.meaning.specs.Lists.{any}
use Rattle.meaning.specs.Program.{Literal}
use Rattle.layout.specs.Layout.{pairs, pairs_at, start_from, literal_of, aggregate_at}
use Rattle.reach.proofs.Walk.{elements_laid}
use Rattle.depend.specs.Circles.{alike}
use Rattle.depend.specs.Cycles.{returning}
use Rattle.depend.proofs.Walk.{any_map, member_of}
use Rattle.depend.proofs.cycles.literal_reaches.Goals as goal

-- the test of a literal
abbrev passes : List ℕ → ℕ → Literal → Bool
passes names p = λ u. returning (alike names) p u.aggregate.elements

-- the same of the pairs that are read for it
abbrev asks : List ℕ → ℕ → List ℤ → ℤ → Bool
asks names p t w = returning (alike names) p (pairs (pairs_at t (start_from t 2 (nat_abs w - 1))))

any_pairs : (names : List ℕ) (p : ℕ) (t l : List ℤ) → list_any (asks names p t) l ≡ any (passes names p) (map (literal_of t) l)
unfolding aggregate_at
any_pairs names p t l = any_map (passes names p) (literal_of t) l

pub any-requires-clause-callable : goal.any-requires-clause-callable
any-requires-clause-callable c =
    let l = c.args.l.now in
    serves_from_places (YieldsList-from_slice l cc) (λ x q r. search rules)
    (λ x k h e.
    let m = member_of c.args.t.now.places.aggregates l c.requires.0 x.now k h e in
    let low = m.0 in
    let high = m.1 in
    let inside = elements_laid c.args.t.now.words.now c.args.t.now.places c.args.t.now.laid (nat_abs x.now) low high in
    search rules)

pub returns : goal.returns
returns c =
    let a = c.args in
    any_from_yields_List (asks a.names.now a.p a.t.now.words.now) _ _ _ c.any.ensures.ran (YieldsList-from_slice a.l.now cc) (λ x b q k. search rules)
    ∙ any_pairs a.names.now a.p a.t.now.words.now a.l.now
