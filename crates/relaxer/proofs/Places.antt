-- The places of the rules that take part in a trial.
--   kept_rules    the rules there are those of the definition
--   kept_part     they are a part of the table's rules, with all that have a head
--   kept_on, kept-none, put_on   one rule at a time, as the code walks, and as list 0 grows
-- Assumes nothing.
use mathlib.Core.Path.{◌≡◌, refl, sym, ap, ◌∙◌}
use mathlib.Core.Bool.{Bool, true, false, cond, ◌||◌}
use mathlib.Core.List.{List, [], ◌∷◌, ◌++◌, map}
use Prim.Native.Nat.{ℕ, zero, suc, ◌+◌, ◌-◌, ◌≤◌, ◌<◌}
use native.Mathlib.Numerals.{add-one}
use native.Mathlib.Omega.{arith}
use lib.IntN.{ℤ}
use lib.ListN.{length, set}
use Rattle.meaning.specs.Lists.{cons_if, has}
use Rattle.meaning.specs.Program.{Program}
use Rattle.layout.specs.Layout.{past_rule, rule_at, rules_from, program_of, RulesLie, Laid}
use Rattle.layout.specs.declared.Table.{Table}
use Rattle.heads.specs.Heads.{bounds, places_from, with_head, AllLie, Part}
use Rattle.heads.proofs.Laws.{lie_nil, lie_cons}
use Rattle.heads.proofs.Lists.{part, moved}
use Rattle.promises.specs.Plans.{bit_of}
use Rattle.relaxing.specs.Relaxing as defined
use Rattle.relaxing.specs.Relaxing.{some_in, headed, rules_of}
use Rattle.relaxer.specs.Offering.{kept_from, kept_places}

-- a constraint has no atom in its head
no_head_lem : (p : ℕ) (l : List ℕ) → some_in l ≡ false → has p l ≡ false
unfolding has
no_head_lem p [] e = refl
no_head_lem p (q ∷ l) e = absurd (let z : ◌≡◌ {A = ℕ} 0 1 = cc in omega arith)

module _ (kept : ℕ → Bool) (t : List ℤ) where
  kept_suc : (i k n : ℕ) → kept_from kept t i k (suc n) ≡ cons_if (headed (rule_at t i) || kept k) i (kept_from kept t (past_rule t i) (suc k) n)
  unfolding kept_from
  kept_suc i k n = refl

  kept_zero : (i k : ℕ) → kept_from kept t i k 0 ≡ []
  unfolding kept_from
  kept_zero i k = refl

  pub kept_on : (i k n : ℕ) → 0 < n → kept_from kept t i k n ≡ cons_if (headed (rule_at t i) || kept k) i (kept_from kept t (past_rule t i) (suc k) (n - 1))
  kept_on i k n h = let e : n ≡ suc (n - 1) = omega arith in ap (kept_from kept t i k) e ∙ kept_suc i k (n - 1)

  pub kept_none : (i k n : ℕ) → n ≤ 0 → kept_from kept t i k n ≡ []
  kept_none i k n h = let e : n ≡ 0 = omega arith in ap (kept_from kept t i k) e ∙ kept_zero i k

  rules_are : (i k n : ℕ) → map (rule_at t) (kept_from kept t i k n) ≡ defined.rules_from kept k (rules_from t i n)
  unfolding kept_from rules_from defined.rules_from
  rules_are i k zero = refl
  rules_are i k (suc n) = at (headed (rule_at t i) || kept k) (rules_are (past_rule t i) (suc k) n)
    where
      at : (b : Bool) → map (rule_at t) (kept_from kept t (past_rule t i) (suc k) n) ≡ defined.rules_from kept (suc k) (rules_from t (past_rule t i) n)
          → map (rule_at t) (cons_if b i (kept_from kept t (past_rule t i) (suc k) n)) ≡ cons_if b (rule_at t i) (defined.rules_from kept (suc k) (rules_from t (past_rule t i) n))
      at true e = ap (λ (Q : Program). rule_at t i ∷ Q) e
      at false e = e

  heads_are : (p i k n : ℕ) → with_head t p (kept_from kept t i k n) ≡ with_head t p (places_from t i n)
  unfolding kept_from places_from with_head
  heads_are p i k zero = refl
  heads_are p i k (suc n) = at (headed (rule_at t i)) (kept k) refl (heads_are p (past_rule t i) (suc k) n)
    where
      at : (b c : Bool) → headed (rule_at t i) ≡ b → with_head t p (kept_from kept t (past_rule t i) (suc k) n) ≡ with_head t p (places_from t (past_rule t i) n)
          → with_head t p (cons_if (b || c) i (kept_from kept t (past_rule t i) (suc k) n)) ≡ cond (has p (rule_at t i).head) (i ∷ with_head t p (places_from t (past_rule t i) n)) (with_head t p (places_from t (past_rule t i) n))
      at true c e h = ap (λ (m : List ℕ). cond (has p (rule_at t i).head) (i ∷ m) m) h
      at false true e h = ap (λ (m : List ℕ). cond (has p (rule_at t i).head) (i ∷ m) m) h
      at false false e h = h ∙ sym (ap (λ (x : Bool). cond x (i ∷ with_head t p (places_from t (past_rule t i) n)) (with_head t p (places_from t (past_rule t i) n))) (no_head_lem p (rule_at t i).head e))

  lie_there : (tb : Table) (i k n : ℕ) → RulesLie tb.atoms tb.aggregates t i n → AllLie tb t (kept_from kept t i k n)
  unfolding kept_from RulesLie
  lie_there tb i k zero h = lie_nil tb t
  lie_there tb i k (suc n) h = at (headed (rule_at t i) || kept k) (lie_there tb (past_rule t i) (suc k) n h.1)
    where
      at : (b : Bool) → AllLie tb t (kept_from kept t (past_rule t i) (suc k) n) → AllLie tb t (cons_if b i (kept_from kept t (past_rule t i) (suc k) n))
      at true g = lie_cons tb t i (kept_from kept t (past_rule t i) (suc k) n) h.0 g
      at false g = g

  pub kept_rules : (tb : Table) → map (rule_at t) (kept_places kept t tb) ≡ rules_of (program_of t tb) kept
  kept_rules tb = rules_are tb.first 1 tb.rules

  pub kept_part : (tb : Table) → Laid t tb → Part t tb (kept_places kept t tb)
  kept_part tb laid = record { lie = lie_there tb tb.first 1 tb.rules laid.rules_lie; heads = λ p. heads_are p tb.first 1 tb.rules }

-- ---- list 0 while it grows: n places stand, and l are to come

pub put_on : (a : List ℕ) (n x : ℕ) (b : Bool) (l w : List ℕ) → bounds + n < length a → part a bounds n ++ cons_if b x l ≡ w → part (cond b (set a (bounds + n) x) a) bounds (n + bit_of b) ++ l ≡ w
put_on a n x true l w h e = moved a bounds n x l w h e
put_on a n x false l w h e = let z : n + 0 ≡ n = omega arith in ap (λ (m : ℕ). part a bounds m ++ l) z ∙ e

-- and as the walk goes on by one rule: the places that stand and those to come are the same all the way
pub places_on : (kept : ℕ → Bool) (t : List ℤ) (a a' : List ℕ) (n n' at at' i m m' : ℕ) (b : Bool) (w : List ℕ)
    → b ≡ headed (rule_at t at) || kept (i + 1) → a' ≡ cond b (set a (bounds + n) at) a → n' ≡ n + bit_of b → at' ≡ past_rule t at → 0 < m → m' ≡ m - 1 → bounds + n < length a
    → part a bounds n ++ kept_from kept t at (suc i) m ≡ w → part a' bounds n' ++ kept_from kept t at' (suc (i + 1)) m' ≡ w
places_on kept t a a' n n' at at' i m m' b w takes list count next more less fits e =
    let j = add-one i in
    let k = kept_on kept t at (suc i) m more in
    let stood : part a bounds n ++ cons_if b at (kept_from kept t (past_rule t at) (suc (suc i)) (m - 1)) ≡ w = cc in
    let s = put_on a n at b (kept_from kept t (past_rule t at) (suc (suc i)) (m - 1)) w fits stood in
    cc

pub bit≤1 : (b : Bool) → bit_of b ≤ 1
bit≤1 true = omega arith
bit≤1 false = omega arith

-- M, the number of rules
pub rules_long : (t : List ℤ) (i n : ℕ) → length (rules_from t i n) ≡ n
unfolding rules_from
rules_long t i zero = refl
rules_long t i (suc n) = ap suc (rules_long t (past_rule t i) n)
