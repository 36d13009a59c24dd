-- What the lists of a table are: laws for callers' proofs.
--   places-lie, with-lie   a rule lies at each place
--   rules_at_lem               the rules at all places are the program
-- Assumes nothing.
use mathlib.Core.Path.{◌≡◌, refl, ap}
use mathlib.Core.Bool.{Bool, true, false, cond}
use mathlib.Core.List.{List, [], ◌∷◌, map}
use Prim.Native.Nat.{ℕ, zero, suc, ◌<◌}
use native.Mathlib.Omega.{arith}
use lib.IntN.{ℤ}
use lib.ListN.{length, get_or}
use Rattle.meaning.specs.Lists.{has}
use Rattle.meaning.specs.Program.{Program}
use Rattle.layout.specs.Layout.{past_rule, rule_at, rules_from, RuleLies, RulesLie}
use Rattle.layout.specs.declared.Table.{Table}
use Rattle.heads.specs.Heads.{places_from, with_head, AllLie}

-- ---- a rule lies at each place

module _ (tb : Table) (t : List ℤ) where
  pub lie_nil : AllLie tb t []
  lie_nil k h = absurd (omega (arith, h))

  pub lie_cons : (i : ℕ) (l : List ℕ) → RuleLies tb.atoms tb.aggregates t i → AllLie tb t l → AllLie tb t (i ∷ l)
  lie_cons i l x f zero h = x
  lie_cons i l x f (suc k) h = f k (omega (arith, h))

  pub lie_head : (i : ℕ) (l : List ℕ) → AllLie tb t (i ∷ l) → RuleLies tb.atoms tb.aggregates t i
  lie_head i l f = f 0 (omega arith)

  pub lie_tail : (i : ℕ) (l : List ℕ) → AllLie tb t (i ∷ l) → AllLie tb t l
  lie_tail i l f k h = f (suc k) (omega (arith, h))

  pub places_lie : (i n : ℕ) → RulesLie tb.atoms tb.aggregates t i n → AllLie tb t (places_from t i n)
  unfolding places_from RulesLie
  places_lie i zero h = lie_nil
  places_lie i (suc n) h = lie_cons i (places_from t (past_rule t i) n) h.0 (places_lie (past_rule t i) n h.1)

  pub with_lie : (p : ℕ) (l : List ℕ) → AllLie tb t l → AllLie tb t (with_head t p l)
  unfolding with_head
  with_lie p [] f = f
  with_lie p (i ∷ l) f = at (has p (rule_at t i).head) (with_lie p l (lie_tail i l f))
    where
      at : (b : Bool) → AllLie tb t (with_head t p l) → AllLie tb t (cond b (i ∷ with_head t p l) (with_head t p l))
      at true g = lie_cons i (with_head t p l) (lie_head i l f) g
      at false g = g

-- ---- the program

pub rules_at_lem : (t : List ℤ) (i n : ℕ) → map (rule_at t) (places_from t i n) ≡ rules_from t i n
unfolding places_from rules_from
rules_at_lem t i zero = refl
rules_at_lem t i (suc n) = ap (λ (P : Program). rule_at t i ∷ P) (rules_at_lem t (past_rule t i) n)

-- ---- every rule of such a list has the atom in its head

pub with_has : (t : List ℤ) (p : ℕ) (l : List ℕ) (k : ℕ) → k < length (with_head t p l) → has p (rule_at t (get_or (with_head t p l) k 0)).head ≡ true
unfolding with_head
with_has t p [] k h = absurd (omega (arith, h))
with_has t p (i ∷ l) k h = at (has p (rule_at t i).head) refl k h (with_has t p l)
  where
    at : (b : Bool) → has p (rule_at t i).head ≡ b → (k : ℕ) → k < length (cond b (i ∷ with_head t p l) (with_head t p l))
        → ((j : ℕ) → j < length (with_head t p l) → has p (rule_at t (get_or (with_head t p l) j 0)).head ≡ true)
        → has p (rule_at t (get_or (cond b (i ∷ with_head t p l) (with_head t p l)) k 0)).head ≡ true
    at true e zero h f = e
    at true e (suc k) h f = f k (omega (arith, h))
    at false e k h f = f k h
