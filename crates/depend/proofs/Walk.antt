-- Walks over a list, over pairs and over the rules of an accepted table, each to the first that passes a test, and the lowest rule that does. Assumes nothing.
use mathlib.Core.Path.{◌≡◌, refl, sym, ap, ◌∙◌, subst}
use mathlib.Core.Bool.{Bool, true, false, ◌||◌}
use mathlib.Core.List.{List, [], ◌∷◌, map}
use Prim.Native.Nat.{ℕ, suc, ◌+◌, ◌-◌, ◌≤◌, ◌<◌}
use native.Mathlib.Omega.{arith}
use lib.IntN.{ℤ, pos, nat_abs}
use lib.ListN.{length, get_or}
use Rattle.std.proofs.lemmas.List.{get_or_default}
use Rattle.std.specs.List.{list_any}
use Rattle.std.specs.Prelude.{Some, None}
use Rattle.meaning.specs.Lists.{any}
use Rattle.meaning.specs.Program.{Rule, Program}
use Rattle.layout.specs.Layout.{Members, rule_at, rules_from, past_rule, RuleLies, RulesLie}
use Rattle.layout.proofs.Rounds.{rules_on, rules_none, lies_on}
use Rattle.depend.specs.Cycles.{or_later, lowest}

-- ---- a walk that has found nothing so far: x is what is left of it, y what is left after the next, whose test is b; z is the whole

pub walk_on : {x z b : Bool} (c y : Bool) → x ≡ b || y → x ≡ z → b ≡ c → c || y ≡ z
walk_on c y e i h = sym (e ∙ ap (λ (a : Bool). a || y) h) ∙ i

-- ---- a list of words of which one passes

module _ {A : Type 0} (f : A → Bool) (g : ℤ → A) where
  pub any_map : (l : List ℤ) → list_any (λ (w : ℤ). f (g w)) l ≡ any f (map g l)
  any_map [] = refl
  any_map (w ∷ l) = ap (λ (b : Bool). f (g w) || b) (any_map l)

-- each of them is in range
pub member_of : (top : ℕ) (l : List ℤ) → Members top l → (w : ℤ) (k : ℕ) → k < length l → w ≡ get_or l k w → (1 ≤ nat_abs w) × (nat_abs w ≤ top)
member_of top l m w k h e = subst (λ (v : ℤ). (1 ≤ nat_abs v) × (nat_abs v ≤ top)) (sym (e ∙ get_or_default l k w (pos 0) h)) (m k h)

-- ---- rules, of which k of n are passed

module _ (t : List ℤ) (i k n : ℕ) where
  pub rules_next : k < n → rules_from t i (n - k) ≡ rule_at t i ∷ rules_from t (past_rule t i) (n - (k + 1))
  rules_next h =
      let e : n - k - 1 ≡ n - (k + 1) = omega arith in
      rules_on t i (n - k) (omega arith) ∙ ap (λ (m : ℕ). rule_at t i ∷ rules_from t (past_rule t i) m) e

  rules_over : n ≤ k → rules_from t i (n - k) ≡ []
  rules_over h = rules_none t i (n - k) (omega arith)

  pub lies_next : (top most : ℕ) → k < n → RulesLie top most t i (n - k) → RuleLies top most t i × RulesLie top most t (past_rule t i) (n - (k + 1))
  lies_next top most h l =
      let e : n - k - 1 ≡ n - (k + 1) = omega arith in
      let w = lies_on t i top most (n - k) (omega arith) l in
      (w.0, subst (RulesLie top most t (past_rule t i)) e w.1)

  module _ (f : Rule → Bool) where
    -- ---- whether some rule passes a test

    pub some_on : k < n → any f (rules_from t i (n - k)) ≡ f (rule_at t i) || any f (rules_from t (past_rule t i) (n - (k + 1)))
    some_on h = ap (any f) (rules_next h)

    pub some_end : n ≤ k → any f (rules_from t i (n - k)) ≡ false
    some_end h = ap (any f) (rules_over h)

    -- ---- the lowest that passes

    low_cons : (j : ℕ) (r : Rule) (P : Program) → lowest f j (r ∷ P) ≡ or_later (f r) (Some j) (lowest f (suc j) P)
    unfolding lowest
    low_cons j r P = refl

    low_nil : (j : ℕ) → lowest f j [] ≡ None
    unfolding lowest
    low_nil j = refl

    pub lowest_here : k < n → f (rule_at t i) ≡ true → lowest f (k + 1) (rules_from t i (n - k)) ≡ Some (k + 1)
    lowest_here h e =
        let P = rules_from t (past_rule t i) (n - (k + 1)) in
        ap (lowest f (k + 1)) (rules_next h) ∙ low_cons (k + 1) (rule_at t i) P ∙ ap (λ (b : Bool). or_later b (Some (k + 1)) (lowest f (suc (k + 1)) P)) e

    pub lowest_later : k < n → f (rule_at t i) ≡ false → lowest f (k + 1) (rules_from t i (n - k)) ≡ lowest f (k + 1 + 1) (rules_from t (past_rule t i) (n - (k + 1)))
    lowest_later h e =
        let P = rules_from t (past_rule t i) (n - (k + 1)) in
        let s : suc (k + 1) ≡ k + 1 + 1 = omega arith in
        ap (lowest f (k + 1)) (rules_next h) ∙ low_cons (k + 1) (rule_at t i) P ∙ ap (λ (b : Bool). or_later b (Some (k + 1)) (lowest f (suc (k + 1)) P)) e ∙ ap (λ (j : ℕ). lowest f j P) s

    pub lowest_end : n ≤ k → lowest f (k + 1) (rules_from t i (n - k)) ≡ None
    lowest_end h = ap (lowest f (k + 1)) (rules_over h) ∙ low_nil (k + 1)
