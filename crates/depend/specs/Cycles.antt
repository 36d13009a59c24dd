-- Refusals 8 and 9 (01, "What comes back"): "8 head cycle: lowest such rule, from 1", "9 aggregate cycle: lowest rule with such an arc"; 8 comes
-- before 9. Request 14: "In a mode chosen by the call, 8 is no longer given". Definitions only. The tests of a rule, `head_cycle` and `aggregate_cycle`, are
-- `meaning`'s; `proofs/Exact.antt` shows that `cycle_by` says exactly what `HeadCycle` and `AggregateCycle` mean.
--   may_cross P         some rule has two head atoms, and some rule has head and positive atoms: there may be a head cycle
--   may_return P        some rule has head atoms and aggregate literals: there may be an aggregate cycle
--   may_close b P       the one, or where arcs are added the other
--   crossed X l        two different atoms of the list l that X relates
--   returned X ps ls   X relates an element of one of the aggregate literals ls to one of the atoms ps
--   closes b X r       the test of a rule of either kind by X;  cycle_test b n P r, the same by `meaning`'s tests
--   lowest f k P       the first rule of P that passes f, rules being numbered from k on
--   head_cycle_by b      the test of a rule for 8 in the mode b: none passes where head cycles are taken
--   cycle_by b n P      the refusal of a program over atoms 1 .. n in the mode b, or none;  cycle_of, in the mode that refuses head cycles
--   HeadCycleBy b P r  what 8 is given for in the mode b: a head cycle, or nothing at all
--   rule_of P k         rule k, from 1;  Lowest: rule k is the lowest of the program with a property
-- Reached by public contracts, and so to be believed: `HeadCycleBy`, `no_rule`, `rule_of`, `Lowest`.
-- Assumes nothing.
use Rattle.std.specs.Prelude.{Bool, true, false, not, ◌&&◌, List, [], ◌∷◌, ℕ, suc, ◌-◌, ◌≤◌, ◌<◌, eqb, length, get_or, Option, Some, None, Result, Ok, Err}
use Rattle.meaning.specs.Lists.{any}
use Rattle.meaning.specs.Program.{Element, Literal, Rule, Program}
use Rattle.meaning.specs.Cycles.{head_cycle, aggregate_cycle}
use Rattle.meaning.specs.Dependency.{HeadCycle}
use Rattle.results.specs.declared.Refusal.TheVariants as refusal
use Rattle.results.specs.declared.Refusal.{Refusal}

-- ---- whether there may be a cycle at all; `proofs/Skipped.antt` shows that there is none otherwise

abbrev pub full {ℓ} : {A : Type ℓ} → List A → Bool
full [] = false
full (x ∷ l) = true

abbrev pub more : List ℕ → Bool
more [] = false
more (p ∷ l) = full l

abbrev pub wide : Rule → Bool
wide r = more r.head

-- only such rules make arcs, and only such add any
abbrev pub makes_arcs : Rule → Bool
makes_arcs r = full r.head && full r.pos

abbrev pub adds_arcs : Rule → Bool
adds_arcs r = full r.head && full r.aggs

abbrev pub may_cross : Program → Bool
may_cross P = any wide P && any makes_arcs P

abbrev pub may_return : Program → Bool
may_return P = any adds_arcs P

-- of a kind: head cycles, or where arcs are added aggregate cycles
abbrev pub may_close : Bool → Program → Bool
may_close false P = may_cross P
may_close true P = may_return P

-- ---- the tests of a rule

module _ (X : ℕ → ℕ → Bool) where
  abbrev pub crossing : ℕ → ℕ → Bool
  crossing p q = not (eqb p q) && X p q

  abbrev pub crossed : List ℕ → Bool
  crossed l = any (λ p. any (λ q. crossing p q) l) l

  abbrev pub returning : ℕ → List Element → Bool
  returning p es = any (λ e. X e.atom p) es

  abbrev pub returned : List ℕ → List Literal → Bool
  returned ps ls = any (λ p. any (λ l. returning p l.aggregate.elements) ls) ps

-- of a kind, by what is related and by `meaning`'s tests
abbrev pub closes : Bool → (ℕ → ℕ → Bool) → Rule → Bool
closes false X r = crossed X r.head
closes true X r = returned X r.head r.aggs

abbrev pub cycle_test : Bool → ℕ → Program → Rule → Bool
cycle_test false n P r = head_cycle n P r
cycle_test true n P r = aggregate_cycle n P r

-- ---- the lowest rule, and the refusal

abbrev pub or_later : Bool → Option ℕ → Option ℕ → Option ℕ
or_later true p q = p
or_later false p q = q

unfoldable pub lowest : (Rule → Bool) → ℕ → Program → Option ℕ
lowest f k [] = None
lowest f k (r ∷ P) = or_later (f r) (Some k) (lowest f (suc k) P)

abbrev pub ninth : Option ℕ → Result (Unit {0}) Refusal
ninth None = Ok tt
ninth (Some k) = Err (refusal.AggregateCycle k)

abbrev pub eighth : Option ℕ → Result (Unit {0}) Refusal → Result (Unit {0}) Refusal
eighth None c = c
eighth (Some k) c = Err (refusal.HeadCycle k)

abbrev pub head_cycle_by : Bool → ℕ → Program → Rule → Bool
head_cycle_by false n P r = head_cycle n P r
head_cycle_by true n P r = false

unfoldable pub cycle_by : Bool → ℕ → Program → Result (Unit {0}) Refusal
cycle_by cycles n P = eighth (lowest (head_cycle_by cycles (suc n) P) 1 P) (ninth (lowest (aggregate_cycle (suc n) P) 1 P))

abbrev pub cycle_of : ℕ → Program → Result (Unit {0}) Refusal
cycle_of n P = cycle_by false n P

-- ---- what 8 is given for, by the mode: "8 is no longer given"

abbrev pub HeadCycleBy : Bool → Program → Rule → Type 0
HeadCycleBy false P r = HeadCycle P r
HeadCycleBy true P r = ⊥

-- ---- what "lowest rule" means

abbrev pub no_rule : Rule
no_rule = record { head = []; pos = []; neg = []; aggs = [] }

abbrev pub rule_of : Program → ℕ → Rule
rule_of P k = get_or P (k - 1) no_rule

pub record Lowest (Test : Rule → Type 0) (P : Program) (k : ℕ) : Type 0 where
  pub from : 1 ≤ k
  pub upto : k ≤ length P
  pub here : Test (rule_of P k)
  pub before : (j : ℕ) → 1 ≤ j → j < k → Test (rule_of P j) → ⊥
