-- The two classes that are refused, and what is accepted, as tests (01, "Meaning"; refusals 8 and 9). Definitions only. They need not be believed:
-- `proofs/Cycles.antt` shows each test exact, `HeadCycle`, `AggregateCycle` and `AtomsIn` being what is meant.
-- Reached by public contracts, and so to be believed: `inside`.
-- Assumes nothing.
use Rattle.std.specs.Prelude.{ℕ, zero, suc, Bool, not, ◌&&◌, ◌||◌, eqb, ltb}
use Rattle.meaning.specs.Lists.{all, any}
use Rattle.meaning.specs.Program.{Rule, Program, Literal}
use Rattle.meaning.specs.Dependency.{arc, any_arc}

-- a chain by Warshall's rule: from p to q, with atoms in between below m
unfoldable pub via : (ℕ → ℕ → Bool) → ℕ → ℕ → ℕ → Bool
via R zero p q = eqb p q || R p q
via R (suc m) p q = via R m p q || via R m p m && via R m m q

module _ (n : ℕ) (P : Program) where
  unfoldable pub mutually : ℕ → ℕ → Bool
  mutually p q = not (eqb p q) && via (arc P) n p q && via (arc P) n q p

  unfoldable pub head_cycle : Rule → Bool
  head_cycle r = any (λ p. any (λ q. mutually p q) r.head) r.head

  unfoldable pub returns : ℕ → Literal → Bool
  returns p l = any (λ e. via (any_arc P) n e.atom p) l.aggregate.elements

  unfoldable pub aggregate_cycle : Rule → Bool
  aggregate_cycle r = any (λ p. any (λ l. returns p l) r.aggs) r.head

-- ---- what the theorems ask of a program, as one test

-- p is one of 1 .. n
abbrev pub inside : ℕ → ℕ → Bool
inside n p = ltb 0 p && ltb p (suc n)

unfoldable pub rule_inside : ℕ → Rule → Bool
rule_inside n r = all (inside n) r.head && (all (inside n) r.pos && (all (inside n) r.neg && all (λ l. all (λ e. inside n e.atom) l.aggregate.elements) r.aggs))

unfoldable pub accepted : ℕ → Program → Bool
accepted n P = all (rule_inside n) P && (all (λ r. not (head_cycle (suc n) P r)) P && all (λ r. not (aggregate_cycle (suc n) P r)) P)
