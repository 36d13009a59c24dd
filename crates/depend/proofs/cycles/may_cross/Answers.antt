-- `depend::cycles::may_cross` meets its contract. Assumes nothing.
use mathlib.Core.Path.{◌≡◌, refl, sym, ap, ap₂, ◌∙◌, subst}
use mathlib.Core.Bool.{Bool, true, false, ◌&&◌, ◌||◌}
use mathlib.Core.List.{List}
use Prim.Native.Nat.{ℕ, ◌+◌, ◌-◌, ◌≤◌, ◌<◌}
use lib.IntN.{ℤ}
use Rattle.meaning.specs.Lists.{any}
use Rattle.meaning.specs.Program.{Rule}
use Rattle.layout.specs.Layout.{past_rule, rule_at, rules_from, RulesLie}
use Rattle.depend.specs.Cycles.{wide, makes_arcs}
use Rattle.depend.proofs.Walk.{lies_next, some_on, some_end}
use Rattle.depend.proofs.cycles.may_cross.Invariants.{Gathers}
use Rattle.depend.proofs.cycles.may_cross.Goals as goal

gathers_on : (f : Rule → Bool) (t : List ℤ) (i₀ n i k j : ℕ) (b hit : Bool) → k < n → j ≡ past_rule t i → hit ≡ f (rule_at t i) → Gathers f t i₀ n i k b → Gathers f t i₀ n j (k + 1) (b || hit)
gathers_on f t i₀ n i k j b hit h e x g =
    ap₂ (λ (m : ℕ) (y : Bool). any f (rules_from t m (n - (k + 1))) || (b || y)) e x
    ∙ move (f (rule_at t i)) (any f (rules_from t (past_rule t i) (n - (k + 1)))) b
    ∙ sym (ap (λ (y : Bool). y || b) (some_on t i k n f h))
    ∙ g
  where
    move : (x y z : Bool) → y || (z || x) ≡ (x || y) || z
    move true true z = refl
    move true false true = refl
    move true false false = refl
    move false true z = refl
    move false false true = refl
    move false false false = refl

gathers_end : (f : Rule → Bool) (t : List ℤ) (i₀ n i k : ℕ) (b : Bool) → n ≤ k → Gathers f t i₀ n i k b → b ≡ any f (rules_from t i₀ n)
gathers_end f t i₀ n i k b h g = sym (ap (λ (x : Bool). x || b) (some_end t i k n f h)) ∙ g

pub is_wide-two-requires : goal.is_wide-two-requires
is_wide-two-requires c =
    let tb = c.args.t.now.places in
    (lies_next c.args.t.now.words.now c.loop.at c.loop.counter tb.rules tb.atoms tb.aggregates c.loop-test.true c.loop.invariant.0).0.heads.fits

pub makes_arcs-arcs-requires : goal.makes_arcs-arcs-requires
makes_arcs-arcs-requires c =
    let tb = c.args.t.now.places in
    let r = (lies_next c.args.t.now.words.now c.loop.at c.loop.counter tb.rules tb.atoms tb.aggregates c.loop-test.true c.loop.invariant.0).0 in
    (r.heads.fits, r.poss.fits)

pub past_rule-at-requires : goal.past_rule-at-requires
past_rule-at-requires c =
    let tb = c.args.t.now.places in
    (lies_next c.args.t.now.words.now c.loop.at c.loop.counter tb.rules tb.atoms tb.aggregates c.loop-test.true c.loop.invariant.0).0.aggs.fits

pub loop-preserved : goal.loop-preserved
loop-preserved c =
    let t = c.args.t.now.words.now in
    let tb = c.args.t.now.places in
    let k = c.loop.counter in
    let e = c.past_rule-at.ensures in (
      subst (λ (j : ℕ). RulesLie tb.atoms tb.aggregates t j (tb.rules - (k + 1))) (sym e) (lies_next t c.loop.at k tb.rules tb.atoms tb.aggregates c.loop-test.true c.loop.invariant.0).1,
      gathers_on wide t tb.first tb.rules c.loop.at k _ c.loop.two _ c.loop-test.true e c.is_wide-two.ensures c.loop.invariant.1,
      gathers_on makes_arcs t tb.first tb.rules c.loop.at k _ c.loop.arcs _ c.loop-test.true e c.makes_arcs-arcs.ensures c.loop.invariant.2,
    )

pub returns-then-two : goal.returns-then-two
returns-then-two c =
    let t = c.args.t.now.words.now in
    let tb = c.args.t.now.places in
    let some = gathers_end wide t tb.first tb.rules c.loop.at c.loop.counter c.loop.two c.loop-test.false c.loop.invariant.1 in
    gathers_end makes_arcs t tb.first tb.rules c.loop.at c.loop.counter c.loop.arcs c.loop-test.false c.loop.invariant.2
    ∙ ap (λ (b : Bool). b && any makes_arcs (rules_from t tb.first tb.rules)) (sym c.if-two.true ∙ some)

pub returns-else-two : goal.returns-else-two
returns-else-two c =
    let t = c.args.t.now.words.now in
    let tb = c.args.t.now.places in
    let some = gathers_end wide t tb.first tb.rules c.loop.at c.loop.counter c.loop.two c.loop-test.false c.loop.invariant.1 in
    c.if-two.false ∙ ap (λ (b : Bool). b && any makes_arcs (rules_from t tb.first tb.rules)) (sym c.if-two.false ∙ some)
