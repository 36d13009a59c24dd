-- `plain::choose` and `plain::try_side` meet their contracts, in one proof: each calls the other. `Invariants.antt` has the measures.
-- Assumes nothing.
use native.Mathlib.Omega.{arith}
use mathlib.Core.Path.{◌≡◌, refl, sym, ap, ◌∙◌, subst}
use mathlib.Core.Bool.{true, false}
use mathlib.Core.Option.{some}
use mathlib.Core.Logic.{◌≢◌}
use mathlib.Core.List.{List}
use lib.ListN.{length}
use Prim.Native.Nat.{ℕ, ◌≤◌}
use Rattle.interpretation.specs.State.{lowest}
use Rattle.interpretation.specs.View.{valued, found}
use Rattle.layout.proofs.Inside.{atoms_in_lem}
use Rattle.search.proofs.Parts.{lowest_some, lowest_none}
use Rattle.results.specs.declared.Counts.{Counts}
use Rattle.std.specs.Prelude.{Ok}
use Rattle.results.specs.declared.Solved.{Solved}
use Rattle.results.specs.declared.Solved.TheVariants as solved
use Rattle.results.specs.Results.{kind_of}
use Rattle.plain.specs.declared.passes.Side.{Side}
use Rattle.plain.proofs.Sides.{no_more, tried, tested_all, at_limit_lem, fewer, calm_still, first_ends, as_was, few_first, other_side}
use Rattle.plain.proofs.+choose_try_side.Goals as goal

-- an atom that is chosen lies in the arrays
aim : (s : Side) (n p : ℕ) → lowest (valued s.values) n ≡ some p → n ≤ 256 → (1 ≤ p) × (p ≤ 256)
aim s n p e f = let h = lowest_some (valued s.values) n p e in (h.0, omega (arith, h.1, f))

-- a first side that is not told to hold nothing
holds_some : (s : Solved) → ((c : Counts) → s ≡ solved.Nothing c → ⊥) → kind_of (Ok s) ≢ 1
holds_some (solved.Answer c) h e = absurd (let z : ◌≡◌ {A = ℕ} 0 1 = e in omega arith)
holds_some (solved.Nothing c) h e = h c refl
holds_some (solved.Limit c) h e = absurd (let z : ◌≡◌ {A = ℕ} 2 1 = e in omega arith)

-- ---- `choose`

pub choose-returns-then-ask-side : goal.choose-returns-then-ask-side
choose-returns-then-ask-side t c =
    let a = c.args in
    at_limit_lem a.ask.cycles a.t.now.words.now a.t.now.places a.ask.limit a.side c.if-side.false c.in-Some.p (sym c.lowest_undefined.ensures ∙ ap found c.in-Some.is) c.if-ask-side.true c.requires.few a.plan.now
    c.counted-then-ask-side.result c.counted-then-ask-side.ensures

pub choose-on-requires : goal.choose-on-requires
choose-on-requires t c = aim c.args.side c.args.t.now.places.atoms c.in-Some.p (sym c.lowest_undefined.ensures ∙ ap found c.in-Some.is) c.requires.laid.few_atoms

pub choose-try_side-first-requires : goal.choose-try_side-first-requires
choose-try_side-first-requires t c =
    let a = c.args in
    let R = c.requires in
    let e = c.decreases in
    let h = c.if-ask-side.false in
    let n = c.on.ensures.1 in
    let l : lowest (valued a.side.values) a.t.now.places.atoms ≡ some c.in-Some.p = sym c.lowest_undefined.ensures ∙ ap found c.in-Some.is in
    let f = fewer a.ask.cycles a.t.now.words.now a.t.now.places a.ask.limit a.side c.if-side.false c.in-Some.p l true c.on.result c.on.ensures.0 in (
      omega (arith, e, f),
      (
        record { laid = R.laid; whole = R.whole; few = omega (arith, h, n); room = R.room },
        calm_still a.ask.cycles a.t.now.words.now a.t.now.places a.ask.limit a.side c.if-side.false c.in-Some.p l true c.on.result c.on.ensures.0,
      ),
    )

pub choose-returns-in_default-first : goal.choose-returns-in_default-first
choose-returns-in_default-first t c =
    let a = c.args in
    first_ends a.ask.cycles a.t.now.words.now a.t.now.places a.ask.limit a.side c.if-side.false c.in-Some.p (sym c.lowest_undefined.ensures ∙ ap found c.in-Some.is) c.if-ask-side.false c.on.result c.on.ensures.0 c.on.ensures.1
    a.plan.now _ c.try_side-first.result c.try_side-first.ensures (holds_some c.try_side-first.result c.in_default-first.not-Nothing)

pub choose-on-requires-in-Some : goal.choose-on-requires-in-Some
choose-on-requires-in-Some t c = aim c.args.side c.args.t.now.places.atoms c.in-Some.p (sym c.lowest_undefined.ensures ∙ ap found c.in-Some.is) c.requires.laid.few_atoms

pub choose-try_side-requires : goal.choose-try_side-requires
choose-try_side-requires t c =
    let a = c.args in
    let R = c.requires in
    let e = c.decreases in
    let n = c.on-in-Some.ensures.1 in
    let l : lowest (valued a.side.values) a.t.now.places.atoms ≡ some c.in-Some.p = sym c.lowest_undefined.ensures ∙ ap found c.in-Some.is in
    let f = fewer a.ask.cycles a.t.now.words.now a.t.now.places a.ask.limit a.side c.if-side.false c.in-Some.p l false c.on-in-Some.result c.on-in-Some.ensures.0 in
    let q = few_first a.ask.cycles a.t.now.words.now a.t.now.places a.ask.limit a.side c.if-side.false c.in-Some.p l c.if-ask-side.false c.on.result c.on.ensures.0 c.on.ensures.1
    a.plan.now _ c.try_side-first.result c.try_side-first.ensures c.in-Nothing.n c.in-Nothing.is in
    let m = as_was a.ask.cycles a.t.now.words.now a.t.now.places a.ask.limit a.side c.if-side.false c.in-Some.p l c.if-ask-side.false c.on.result c.on.ensures.0 c.on.ensures.1
    a.plan.now _ c.try_side-first.result c.try_side-first.ensures c.in-Nothing.n c.in-Nothing.is in (
      omega (arith, e, f),
      (
        record { laid = R.laid; whole = R.whole; few = omega (arith, n, q); room = subst (λ (l : List ℕ). a.t.now.places.atoms ≤ length l) (sym m) R.room },
        calm_still a.ask.cycles a.t.now.words.now a.t.now.places a.ask.limit a.side c.if-side.false c.in-Some.p l false c.on-in-Some.result c.on-in-Some.ensures.0,
      ),
    )

pub choose-returns-in-Some : goal.choose-returns-in-Some
choose-returns-in-Some t c =
    let a = c.args in
    other_side a.ask.cycles a.t.now.words.now a.t.now.places a.ask.limit a.side c.if-side.false c.in-Some.p (sym c.lowest_undefined.ensures ∙ ap found c.in-Some.is) c.if-ask-side.false c.on.result c.on.ensures.0 c.on.ensures.1
    a.plan.now _ c.try_side-first.result c.try_side-first.ensures c.in-Nothing.n c.in-Nothing.is c.on-in-Some.result c.on-in-Some.ensures.0 c.on-in-Some.ensures.1 _ c.try_side.result c.try_side.ensures

pub choose-tested-requires : goal.choose-tested-requires
choose-tested-requires t c =
    let R = c.requires in
    record { laid = R.laid; whole = R.whole; defined = lowest_none _ _ (sym c.lowest_undefined.ensures ∙ ap found c.in_default.is); few = R.few; room = R.room }

pub choose-returns : goal.choose-returns
choose-returns t c =
    let a = c.args in
    tested_all a.ask.cycles a.t.now.words.now a.t.now.places a.ask.limit a.side c.if-side.false (sym c.lowest_undefined.ensures ∙ ap found c.in_default.is) a.plan.now _ c.tested.result c.tested.ensures

-- ---- `try_side`

pub try_side-choose-requires : goal.try_side-choose-requires
try_side-choose-requires t c =
    let a = c.args in
    let R = c.requires in
    let e = c.decreases in
    let n = c.propagate-tried.ensures.kept in
    let l = R.0.few in
    let h = no_more a.ask.cycles a.t.now.words.now a.t.now.places a.ask.limit a.side c.propagate-tried.result R.1 c.propagate-tried.ensures (atoms_in_lem a.t.now.words.now a.t.now.places R.0.laid) in
    (omega (arith, e, h), record { laid = R.0.laid; whole = R.0.whole; few = omega (arith, n, l); room = R.0.room })

pub try_side-returns : goal.try_side-returns
try_side-returns t c =
    let a = c.args in
    let R = c.requires in
    tried a.ask.cycles a.t.now.words.now a.t.now.places a.ask.limit a.side c.propagate-tried.result R.1 c.propagate-tried.ensures (atoms_in_lem a.t.now.words.now a.t.now.places R.0.laid) a.plan.now _ c.choose.result c.choose.ensures
