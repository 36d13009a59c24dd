-- How the rules of a table go on by one, and how ranges widen: what the proofs of walks over rules and lists share. Assumes nothing.
use mathlib.Core.Path.{◌≡◌, refl, ap, ◌∙◌, subst}
use mathlib.Core.List.{List, [], ◌∷◌}
use Prim.Native.Nat.{ℕ, suc, ◌-◌, ◌≤◌, ◌<◌}
use native.Mathlib.Omega.{arith}
use lib.IntN.{ℤ}
use Rattle.layout.specs.Layout.{part_at, Members, Listed, past_rule, rule_at, rules_from, RuleLies, RulesLie}

-- ---- the rules from index i on

module _ (t : List ℤ) (i : ℕ) where
  rules_suc : (n : ℕ) → rules_from t i (suc n) ≡ rule_at t i ∷ rules_from t (past_rule t i) n
  unfolding rules_from
  rules_suc n = refl

  pub rules_on : (n : ℕ) → 0 < n → rules_from t i n ≡ rule_at t i ∷ rules_from t (past_rule t i) (n - 1)
  rules_on n h = let e : n ≡ suc (n - 1) = omega arith in ap (rules_from t i) e ∙ rules_suc (n - 1)

  rules_zero : rules_from t i 0 ≡ []
  unfolding rules_from
  rules_zero = refl

  pub rules_none : (n : ℕ) → n ≤ 0 → rules_from t i n ≡ []
  rules_none n h = let e : n ≡ 0 = omega arith in ap (rules_from t i) e ∙ rules_zero

  -- ---- the first of n rules lies there, and so do the others

  lies_suc : (top most n : ℕ) → RulesLie top most t i (suc n) → RuleLies top most t i × RulesLie top most t (past_rule t i) n
  unfolding RulesLie
  lies_suc top most n h = h

  pub lies_on : (top most n : ℕ) → 0 < n → RulesLie top most t i n → RuleLies top most t i × RulesLie top most t (past_rule t i) (n - 1)
  lies_on top most n h k = let e : n ≡ suc (n - 1) = omega arith in lies_suc top most (n - 1) (subst (RulesLie top most t i) e k)

-- ---- members of 1 .. n are members of 1 .. m

pub members_wide : (n m : ℕ) (l : List ℤ) → n ≤ m → Members n l → Members m l
members_wide n m l h f k i = let t = f k i in (t.0, omega (arith, t.1))

pub listed_wide : (n m : ℕ) (t : List ℤ) (i : ℕ) → n ≤ m → Listed n t i → Listed m t i
listed_wide n m t i h l = record { fits = l.fits; members = members_wide n m (part_at t i) h l.members }
