-- The two classes that are refused, as tests on a rule: each is exact.
-- Assumes nothing.
use mathlib.Core.Path.{refl}
use mathlib.Core.Logic.{◌↔◌}
use mathlib.Core.Bool.{false, not, ◌&&◌}
use Prim.Native.Nat.{ℕ, suc}
use native.Mathlib.Omega.{arith}
use lib.Dec.{eqb, ltb}
use Rattle.meaning.specs.Lists.{Is, all, any}
use Rattle.meaning.specs.Dependency.{Free, arc, any_arc, HeadCycle, AggregateCycle}
use Rattle.meaning.specs.Program.{Rule, Program, Below, In, RuleIn, AtomsIn}
use Rattle.meaning.specs.Cycles.{via, mutually, head_cycle, returns, aggregate_cycle, inside, rule_inside, accepted}
use Rattle.meaning.proofs.Tools.{not_is, is_not_lem, and_i, and_l, and_r, eq, neq, any_i, any_e, via_chain, chain_via, contra, all_at, all_i, clash}
use Rattle.meaning.proofs.Bounds.{lt, lt_i}
use Rattle.meaning.proofs.Rank.{arc_low, any_low}

module _ (n : ℕ) (P : Program) (low : Below n P) (r : Rule) where
  pub head_cycle_lem : Is (head_cycle n P r) ↔ HeadCycle P r
  unfolding head_cycle mutually
  head_cycle_lem = (found, tested)
    where
      found : Is (head_cycle n P r) → HeadCycle P r
      found h =
          let s = any_e (λ p. any (λ q. mutually n P p q) r.head) r.head h in
          let t = any_e (λ q. mutually n P s.0 q) r.head s.2 in
          let u = and_l _ _ t.2 in
          record {
            first = s.0;
            second = t.0;
            first_in = s.1;
            second_in = t.1;
            differ = neq s.0 t.0 (not_is _ (and_l _ _ u));
            there = via_chain (arc P) n _ _ (and_r (not (eqb s.0 t.0)) _ u);
            back = via_chain (arc P) n _ _ (and_r (not (eqb s.0 t.0) && via (arc P) n s.0 t.0) _ t.2);
          }

      tested : HeadCycle P r → Is (head_cycle n P r)
      tested c =
          let p = c.first in
          let q = c.second in
          let d : Is (not (eqb p q)) = is_not_lem (eqb p q) (contra (eqb p q) {b = false} (λ e. absurd (c.differ (eq p q e))) refl) in
          any_i (λ p. any (λ q. mutually n P p q) r.head) r.head c.first_in
          (any_i (λ q. mutually n P p q) r.head c.second_in (and_i (and_i d (chain_via (arc P) n (arc_low n P low) c.there)) (chain_via (arc P) n (arc_low n P low) c.back)))

  pub aggregate_cycle_lem : Is (aggregate_cycle n P r) ↔ AggregateCycle P r
  unfolding aggregate_cycle returns
  aggregate_cycle_lem = (found, tested)
    where
      found : Is (aggregate_cycle n P r) → AggregateCycle P r
      found h =
          let s = any_e (λ p. any (λ l. returns n P p l) r.aggs) r.head h in
          let t = any_e (λ l. returns n P s.0 l) r.aggs s.2 in
          let u = any_e (λ e. via (any_arc P) n e.atom s.0) t.0.aggregate.elements t.2 in
          record { from = s.0; from_in = s.1; lit = t.0; lit_in = t.1; elem = u.0; elem_in = u.1; back = via_chain (any_arc P) n _ _ u.2 }

      tested : AggregateCycle P r → Is (aggregate_cycle n P r)
      tested c =
          any_i (λ p. any (λ l. returns n P p l) r.aggs) r.head c.from_in
          (any_i (λ l. returns n P c.from l) r.aggs c.lit_in
          (any_i (λ e. via (any_arc P) n e.atom c.from) c.lit.aggregate.elements c.elem_in (chain_via (any_arc P) n (any_low n P low) c.back)))

-- ---- the test of acceptance is exact

in_e : (n p : ℕ) → Is (inside n p) → In n p
in_e n p h = (lt 0 p (and_l _ _ h), let k = lt p (suc n) (and_r (ltb 0 p) _ h) in omega arith)

in_i : (n p : ℕ) → In n p → Is (inside n p)
in_i n p i = and_i (lt_i 0 p i.0) (lt_i p (suc n) (omega (arith, i.1)))

rule_in_lem : (n : ℕ) (r : Rule) → Is (rule_inside n r) ↔ RuleIn n r
unfolding rule_inside
rule_in_lem n r = (
  λ h.
      let a = and_r (all (inside n) r.head) _ h in
      let b = and_r (all (inside n) r.pos) _ a in
      let c = and_r (all (inside n) r.neg) _ b in
      record {
        heads = λ p m. in_e n p (all_at (inside n) r.head (and_l _ _ h) m);
        poss = λ p m. in_e n p (all_at (inside n) r.pos (and_l _ _ a) m);
        negs = λ p m. in_e n p (all_at (inside n) r.neg (and_l _ _ b) m);
        elems = λ l m e j. in_e n e.atom (all_at (λ e. inside n e.atom) l.aggregate.elements (all_at (λ l. all (λ e. inside n e.atom) l.aggregate.elements) r.aggs c m) j);
      },
  λ I. and_i (all_i (inside n) r.head (λ p m. in_i n p (I.heads p m))) (and_i (all_i (inside n) r.pos (λ p m. in_i n p (I.poss p m))) (and_i (all_i (inside n) r.neg (λ p m. in_i n p (I.negs p m)))
      (all_i (λ l. all (λ e. inside n e.atom) l.aggregate.elements) r.aggs (λ l m. all_i (λ e. inside n e.atom) l.aggregate.elements (λ e j. in_i n e.atom (I.elems l m e j)))))),
)

low_of : (n : ℕ) (P : Program) → AtomsIn n P → Below (suc n) P
low_of n P A r m p h = let i = (A r m).heads p h in omega (arith, i.1)

pub accepted_e : (n : ℕ) (P : Program) → Is (accepted n P) → AtomsIn n P × Free HeadCycle P × Free AggregateCycle P
unfolding accepted
accepted_e n P h =
    let A : AtomsIn n P = λ r m. (rule_in_lem n r).0 (all_at (rule_inside n) P (and_l _ _ h) m) in
    let low = low_of n P A in
    let t = and_r (all (rule_inside n) P) _ h in (
      A,
      λ r m c. clash ((head_cycle_lem (suc n) P low r).1 c) (not_is _ (all_at (λ r. not (head_cycle (suc n) P r)) P (and_l _ _ t) m)),
      λ r m c. clash ((aggregate_cycle_lem (suc n) P low r).1 c) (not_is _ (all_at (λ r. not (aggregate_cycle (suc n) P r)) P (and_r (all (λ r. not (head_cycle (suc n) P r)) P) _ t) m)),
    )

pub accepted_i : (n : ℕ) (P : Program) → AtomsIn n P → Free HeadCycle P → Free AggregateCycle P → Is (accepted n P)
unfolding accepted
accepted_i n P A nh na =
    let low = low_of n P A in
    and_i (all_i (rule_inside n) P (λ r m. (rule_in_lem n r).1 (A r m)))
    (and_i (all_i (λ r. not (head_cycle (suc n) P r)) P (λ r m. is_not_lem (head_cycle (suc n) P r) (contra (head_cycle (suc n) P r) {b = false} (λ h. absurd (nh r m ((head_cycle_lem (suc n) P low r).0 h))) refl)))
    (all_i (λ r. not (aggregate_cycle (suc n) P r)) P (λ r m. is_not_lem (aggregate_cycle (suc n) P r) (contra (aggregate_cycle (suc n) P r) {b = false} (λ h. absurd (na r m ((aggregate_cycle_lem (suc n) P low r).0 h))) refl))))
