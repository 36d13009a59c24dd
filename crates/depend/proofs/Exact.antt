-- The tests are exact: "does p reach q" is whether there is a chain of arcs, and `cycle_by` is 01's refusal 8 or 9 in each mode, with its place, or nothing, which it
-- is exactly if the program is free of both classes. For the solver: with `laid_inside` of `Inside`, a table that is not refused meets the
-- hypotheses of "founded ⇔ answer set" and of the search's theorems.
-- Assumes nothing.
use mathlib.Core.Path.{◌≡◌, refl, ap, ◌∙◌, subst}
use mathlib.Core.Logic.{◌⊎◌, inl, inr, ◌↔◌, ◌≢◌}
use mathlib.Core.Bool.{Bool, true, false}
use mathlib.Core.List.Memᴰ
use mathlib.Core.List.{List, [], ◌∷◌}
use Prim.Native.Nat.{ℕ, zero, suc, ◌+◌, ◌-◌, ◌≤◌, ◌<◌}
use native.Mathlib.Omega.{arith}
use lib.IntN.{ℤ}
use lib.ListN.{length, get_or}
use Rattle.std.specs.Prelude.{Option, Some, None, Result, Ok, Err}
use Rattle.meaning.specs.Lists.{Is, ◌∈◌}
use Rattle.meaning.specs.Program.{Rule, Program, AtomsIn}
use Rattle.meaning.specs.Dependency.{Chain, AggregateCycle, Free}
use Rattle.meaning.specs.Cycles.{via, aggregate_cycle}
use Rattle.meaning.proofs.Tools.{clash, via_chain, chain_via}
use Rattle.meaning.proofs.Cycles.{head_cycle_lem, aggregate_cycle_lem}
use Rattle.meaning.proofs.Cond.{lt_case}
use Rattle.layout.specs.declared.Table.{Table}
use Rattle.layout.specs.Layout.{program_of, Laid}
use Rattle.results.specs.Results.{number_of}
use Rattle.results.specs.declared.Refusal.{Refusal}
use Rattle.results.specs.declared.Refusal.TheVariants as refusal
use Rattle.reach.specs.Arcs.{arcs_of}
use Rattle.depend.specs.Cycles.{or_later, lowest, eighth, ninth, head_cycle_by, cycle_by, HeadCycleBy, no_rule, rule_of, Lowest}
use Rattle.reach.proofs.Inside.{below, laid_inside}
use Rattle.reach.proofs.Graph.{arcs_low}

-- ---- reaching

pub reaches↔chain : (added : Bool) (n : ℕ) (P : Program) → AtomsIn n P → (p q : ℕ) → Is (via (arcs_of added P) (suc n) p q) ↔ Chain (arcs_of added P) p q
reaches↔chain added n P A p q = (via_chain (arcs_of added P) (suc n) p q, chain_via (arcs_of added P) (suc n) (arcs_low added n P A))

-- ---- the lowest rule of a test

-- what the search of the rules numbered from k on found
abbrev Found : (Rule → Bool) → ℕ → Program → Option ℕ → Type 0
Found f k P None = (r : Rule) → r ∈ P → f r ≡ false
Found f k P (Some j) = (i : ℕ) × (j ≡ k + i) × (i < length P) × Is (f (get_or P i no_rule)) × ((h : ℕ) → h < i → f (get_or P h no_rule) ≡ false)

found : (f : Rule → Bool) (k : ℕ) (P : Program) → Found f k P (lowest f k P)
unfolding lowest
found f k [] = λ r m. elim m [ ]
found f k (r ∷ P) = at (lowest f (suc k) P) (f r) refl (found f (suc k) P)
  where
    here : Is (f r) → Found f k (r ∷ P) (Some k)
    here e = (0, omega arith, omega arith, e, λ h l. absurd (omega arith))

    none : f r ≡ false → ((s : Rule) → s ∈ P → f s ≡ false) → (s : Rule) → s ∈ r ∷ P → f s ≡ false
    none e rest s (Memᴰ.head q) = ap f q ∙ e
    none e rest s (Memᴰ.tail m) = rest s m

    before : f r ≡ false → (i : ℕ) → ((h : ℕ) → h < i → f (get_or P h no_rule) ≡ false) → (h : ℕ) → h < suc i → f (get_or (r ∷ P) h no_rule) ≡ false
    before e i rest zero l = e
    before e i rest (suc h) l = rest h (omega arith)

    at : (p : Option ℕ) (b : Bool) → f r ≡ b → Found f (suc k) P p → Found f k (r ∷ P) (or_later b (Some k) p)
    at p true e rest = here e
    at None false e rest = none e rest
    at (Some j) false e rest = (suc rest.0, omega (arith, rest.1), omega (arith, rest.2), rest.3, before e rest.0 rest.4)

-- ---- rules by their number

member_at : (P : Program) (i : ℕ) → i < length P → get_or P i no_rule ∈ P
member_at [] i h = absurd (omega arith)
member_at (r ∷ P) zero h = Memᴰ.head refl
member_at (r ∷ P) (suc i) h = Memᴰ.tail (member_at P i (omega arith))

module _ (P : Program) (f : Rule → Bool) (Test : Rule → Type 0) (exact : (r : Rule) → Is (f r) ↔ Test r) where
  -- the place that is found
  place_e : (k : ℕ) → Found f 1 P (Some k) → Lowest Test P k
  place_e k w =
      let i = w.0 in
      let e : i ≡ k - 1 = omega (arith, w.1) in
      record {
        from = omega (arith, w.1);
        upto = omega (arith, w.1, w.2);
        here = (exact (rule_of P k)).0 (subst (λ (j : ℕ). Is (f (get_or P j no_rule))) e w.3);
        before = λ j a b t. clash ((exact (rule_of P j)).1 t) (w.4 (j - 1) (omega (arith, w.1)));
      }

  -- no rule passes
  none_e : Found f 1 P None → (r : Rule) → r ∈ P → Test r → ⊥
  none_e w r m t = clash ((exact r).1 t) (w r m)

  lowest_in : (k : ℕ) → Lowest Test P k → rule_of P k ∈ P
  lowest_in k l = member_at P (k - 1) (omega (arith, l.from, l.upto))

  one : (j k : ℕ) → Lowest Test P j → Lowest Test P k → j ≡ k
  one j k a b = at (lt_case j k) (lt_case k j)
    where
      at : (j < k) ⊎ (k ≤ j) → (k < j) ⊎ (j ≤ k) → j ≡ k
      at (inl h) d = absurd (b.before j a.from h a.here)
      at (inr h) (inl g) = absurd (a.before k b.from g b.here)
      at (inr h) (inr g) = omega arith

  lowest_at : (k : ℕ) → (lowest f 1 P ≡ Some k) ↔ Lowest Test P k
  lowest_at k = (λ e. place_e k (subst (Found f 1 P) e (found f 1 P)), λ l. at l (lowest f 1 P) (found f 1 P))
    where
      at : Lowest Test P k → (p : Option ℕ) → Found f 1 P p → p ≡ Some k
      at l None w = absurd (none_e w (rule_of P k) (lowest_in k l) l.here)
      at l (Some j) w = ap Some (one j k (place_e j w) l)

  pub lowest_none : (lowest f 1 P ≡ None) ↔ ((r : Rule) → r ∈ P → Test r → ⊥)
  lowest_none = (λ e. none_e (subst (Found f 1 P) e (found f 1 P)), λ free. at free (lowest f 1 P) (found f 1 P))
    where
      at : ((r : Rule) → r ∈ P → Test r → ⊥) → (p : Option ℕ) → Found f 1 P p → p ≡ None
      at free None w = refl
      at free (Some j) w = let l = place_e j w in absurd (free (rule_of P j) (lowest_in j l) l.here)

-- ---- the two places, and the refusal

differ : {c : Result (Unit {0}) Refusal} (r s : Refusal) → number_of r ≢ number_of s → c ≡ Err r → c ≡ Err s → ⊥
differ r s d a b = let e : r ≡ s = cc in d (ap number_of e)

silent : {c : Result (Unit {0}) Refusal} (r : Refusal) → c ≡ Err r → c ≡ Ok tt → ⊥
silent r a b = let z : ◌≡◌ {A = ℕ} 0 1 = cc in omega arith

head_place : (u v : Option ℕ) (k : ℕ) → eighth u (ninth v) ≡ Err (refusal.HeadCycle k) → u ≡ Some k
head_place (Some j) v k e = cc
head_place None None k e = absurd (silent (refusal.HeadCycle k) e refl)
head_place None (Some j) k e = absurd (differ (refusal.HeadCycle k) (refusal.AggregateCycle j) (λ q. omega arith) e refl)

aggregate_place : (u v : Option ℕ) (k : ℕ) → eighth u (ninth v) ≡ Err (refusal.AggregateCycle k) → (u ≡ None) × (v ≡ Some k)
aggregate_place (Some j) v k e = absurd (differ (refusal.AggregateCycle k) (refusal.HeadCycle j) (λ q. omega arith) e refl)
aggregate_place None None k e = absurd (silent (refusal.AggregateCycle k) e refl)
aggregate_place None (Some j) k e = (refl, cc)

nothing_place : (u v : Option ℕ) → eighth u (ninth v) ≡ Ok tt → (u ≡ None) × (v ≡ None)
nothing_place (Some j) v e = absurd (silent (refusal.HeadCycle j) refl e)
nothing_place None None e = (refl, refl)
nothing_place None (Some j) e = absurd (silent (refusal.AggregateCycle j) refl e)

-- the test of a rule for 8, in each mode
heads_by : (cycles : Bool) (n : ℕ) (P : Program) → AtomsIn n P → (r : Rule) → Is (head_cycle_by cycles (suc n) P r) ↔ HeadCycleBy cycles P r
heads_by false n P A r = head_cycle_lem (suc n) P (below n P A) r
heads_by true n P A r = (λ h. clash h refl, λ h. absurd h)

-- in the mode `cycles`
module _ (cycles : Bool) (n : ℕ) (P : Program) (A : AtomsIn n P) where
  heads : (r : Rule) → Is (head_cycle_by cycles (suc n) P r) ↔ HeadCycleBy cycles P r
  heads r = heads_by cycles n P A r

  aggregates : (r : Rule) → Is (aggregate_cycle (suc n) P r) ↔ AggregateCycle P r
  aggregates r = aggregate_cycle_lem (suc n) P (below n P A) r

  abbrev u : Option ℕ
  u = lowest (head_cycle_by cycles (suc n) P) 1 P

  abbrev v : Option ℕ
  v = lowest (aggregate_cycle (suc n) P) 1 P

  -- "8: head cycle, lowest such rule, from 1"
  pub refused_8 : (k : ℕ) → (cycle_by cycles n P ≡ Err (refusal.HeadCycle k)) ↔ Lowest (HeadCycleBy cycles P) P k
  unfolding cycle_by
  refused_8 k = (
    λ e. (lowest_at P (head_cycle_by cycles (suc n) P) (HeadCycleBy cycles P) heads k).0 (head_place u v k e),
    λ l. ap (λ (p : Option ℕ). eighth p (ninth v)) ((lowest_at P (head_cycle_by cycles (suc n) P) (HeadCycleBy cycles P) heads k).1 l),
  )

  -- "9: aggregate cycle, lowest rule with such an arc", after 8
  pub refused_9 : (k : ℕ) → (cycle_by cycles n P ≡ Err (refusal.AggregateCycle k)) ↔ (Free (HeadCycleBy cycles) P × Lowest (AggregateCycle P) P k)
  unfolding cycle_by
  refused_9 k = (
    λ e.
        let w = aggregate_place u v k e in
        ((lowest_none P (head_cycle_by cycles (suc n) P) (HeadCycleBy cycles P) heads).0 w.0, (lowest_at P (aggregate_cycle (suc n) P) (AggregateCycle P) aggregates k).0 w.1),
    λ w.
        ap (λ (p : Option ℕ). eighth p (ninth v)) ((lowest_none P (head_cycle_by cycles (suc n) P) (HeadCycleBy cycles P) heads).1 w.0)
        ∙ ap ninth ((lowest_at P (aggregate_cycle (suc n) P) (AggregateCycle P) aggregates k).1 w.1),
  )

  -- nothing exactly if the program is free of both
  pub not_refused : (cycle_by cycles n P ≡ Ok tt) ↔ (Free (HeadCycleBy cycles) P × Free AggregateCycle P)
  unfolding cycle_by
  not_refused = (
    λ e.
        let w = nothing_place u v e in
        ((lowest_none P (head_cycle_by cycles (suc n) P) (HeadCycleBy cycles P) heads).0 w.0, (lowest_none P (aggregate_cycle (suc n) P) (AggregateCycle P) aggregates).0 w.1),
    λ w.
        ap (λ (p : Option ℕ). eighth p (ninth v)) ((lowest_none P (head_cycle_by cycles (suc n) P) (HeadCycleBy cycles P) heads).1 w.0)
        ∙ ap ninth ((lowest_none P (aggregate_cycle (suc n) P) (AggregateCycle P) aggregates).1 w.1),
  )

-- there is no other result
pub cycle_cases : (cycles : Bool) (n : ℕ) (P : Program) → (cycle_by cycles n P ≡ Ok tt) ⊎ ((k : ℕ) × (cycle_by cycles n P ≡ Err (refusal.HeadCycle k))) ⊎ ((k : ℕ) × (cycle_by cycles n P ≡ Err (refusal.AggregateCycle k)))
unfolding cycle_by
cycle_cases cycles n P = at (lowest (head_cycle_by cycles (suc n) P) 1 P) (lowest (aggregate_cycle (suc n) P) 1 P)
  where
    at : (u v : Option ℕ) → (eighth u (ninth v) ≡ Ok tt) ⊎ ((k : ℕ) × (eighth u (ninth v) ≡ Err (refusal.HeadCycle k))) ⊎ ((k : ℕ) × (eighth u (ninth v) ≡ Err (refusal.AggregateCycle k)))
    at (Some j) v = inr (inl (j, refl))
    at None None = inl refl
    at None (Some j) = inr (inr (j, refl))

-- ---- for the solver: an accepted table that is not refused

pub accepted_table : (cycles : Bool) (t : List ℤ) (tb : Table) → Laid t tb → cycle_by cycles tb.atoms (program_of t tb) ≡ Ok tt
    → AtomsIn tb.atoms (program_of t tb) × Free (HeadCycleBy cycles) (program_of t tb) × Free AggregateCycle (program_of t tb)
accepted_table cycles t tb h e =
    let A = laid_inside t tb h in
    let w = (not_refused cycles tb.atoms (program_of t tb) A).0 e in
    (A, w.0, w.1)

-- ---- for the code: where head cycles are taken, no rule is refused for one

pub nowhere : (k : ℕ) (P : Program) → lowest (λ (r : Rule). false) k P ≡ None
unfolding lowest
nowhere k [] = refl
nowhere k (r ∷ P) = nowhere (suc k) P
