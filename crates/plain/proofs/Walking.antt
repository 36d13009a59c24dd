-- One rule, one atom and one pass further, up to levels and reasons; and after a conflict nothing is done. Assumes nothing.
use Prim.Native.Nat.{ℕ, suc, ◌+◌, ◌-◌, ◌≤◌, ◌<◌}
use mathlib.Core.Path.{◌≡◌, refl, ap, ◌∙◌, subst}
use mathlib.Core.Bool.{Bool, true, false, cond}
use mathlib.Core.List.{List}
use lib.IntN.{ℤ}
use Rattle.meaning.specs.Program.{Program}
use Rattle.levels.specs.Levels.{Levels, no_levels}
use Rattle.layout.specs.Layout.{past_rule, rule_at, rules_from}
use Rattle.layout.proofs.Rounds.{rules_on, rules_none}
use Rattle.steps.specs.Steps.{Work, refuted, if_settled, step_rule, step_atom, rule_pass, atom_pass, unchanged, pass, passes}
use Rattle.propagation.proofs.Passing.{rules_conflict, atoms_conflict, atoms_on, atoms_none, go_on, passes_on}
use Rattle.plain.specs.declared.passes.Side.{Side}
use Rattle.plain.specs.Passes.{Like, verdict_by, work_of}
use Rattle.plain.proofs.Liking.{like_then, like_rules, like_atoms, like_on}

-- ---- the rules from `at` on

module _ (t : List ℤ) (at left : ℕ) (w x : Work) (S : Like (rule_pass (rules_from t at left) w) x) where
  abbrev later : Program
  later = rules_from t (past_rule t at) (left - 1)

  pub rules_next : 0 < left → (s' : Side) → Like (work_of s') (step_rule (rule_at t at) w) → Like (rule_pass (rules_from t (past_rule t at) (left - 1)) (work_of s')) x
  rules_next h s' g = like_then (like_rules later g) (subst (λ (P : Program). Like (rule_pass P w) x) (rules_on t at left h) S)

  pub rules_end : 0 < left → (s' : Side) (C : Levels) → step_rule (rule_at t at) w ≡ refuted C w → Like (work_of s') (refuted C w) → Like (work_of s') x
  rules_end h s' C e g =
      let z : rule_pass (rules_from t at left) w ≡ refuted C w =
      ap (λ (P : Program). rule_pass P w) (rules_on t at left h) ∙ ap (rule_pass later) e ∙ rules_conflict later (refuted C w) C refl in
      like_then g (subst (λ (u : Work). Like u x) z S)

  pub rules_over : left ≤ 0 → Like w x
  rules_over h = subst (λ (P : Program). Like (rule_pass P w) x) (rules_none t at left h) S

-- ---- the atoms from p on

module _ (P : Program) (n p : ℕ) (w x : Work) (S : Like (atom_pass P (suc n - p) p w) x) where
  pub atoms_next : p ≤ n → (s' : Side) → Like (work_of s') (step_atom P p w) → Like (atom_pass P (suc n - (p + 1)) (p + 1) (work_of s')) x
  atoms_next h s' g = like_then (like_atoms P (suc n - (p + 1)) (p + 1) g) (subst (λ (u : Work). Like u x) (atoms_on P n p w h) S)

  pub atoms_end : p ≤ n → (s' : Side) (C : Levels) → step_atom P p w ≡ refuted C w → Like (work_of s') (refuted C w) → Like (work_of s') x
  atoms_end h s' C e g =
      let z : atom_pass P (suc n - p) p w ≡ refuted C w =
      atoms_on P n p w h ∙ ap (atom_pass P (suc n - (p + 1)) (p + 1)) e ∙ atoms_conflict P (suc n - (p + 1)) (p + 1) (refuted C w) C refl in
      like_then g (subst (λ (u : Work). Like u x) z S)

  pub atoms_over : n < p → Like w x
  atoms_over h = subst (λ (u : Work). Like u x) (atoms_none P n p w h) S

-- ---- a pass

module _ (P : Program) (n f : ℕ) (w x : Work) (fuel : 0 < f) (S : Like (passes P n f w) x) where
  went : Like (go_on P n (f - 1) (pass P n w)) x
  went = subst (λ (u : Work). Like u x) (passes_on P n f w (pass P n w) fuel refl) S

  -- the rules met a conflict: the atoms do nothing
  pub ruled : (s : Side) → s.conflict ≡ true → Like (work_of s) (rule_pass P (unchanged w)) → Like (work_of s) (pass P n w)
  ruled s e g = subst (λ (u : Work). Like u (pass P n w)) (atoms_conflict P n 1 (work_of s) no_levels (ap verdict_by e)) (like_atoms P n 1 g)

  module _ (s : Side) (g : Like (work_of s) (pass P n w)) where
    on : (u : Work) → go_on P n (f - 1) (work_of s) ≡ u → Like u x
    on u e = like_then (subst (λ (y : Work). Like y (go_on P n (f - 1) (pass P n w))) e (like_on P n (f - 1) g)) went

    pub pass_conflict : s.conflict ≡ true → Like (work_of s) x
    pass_conflict e = on (work_of s) (ap (λ (b : Bool). if_settled (verdict_by b) (cond s.changed (passes P n (f - 1) (work_of s)) (work_of s)) (work_of s)) e)

    free : s.conflict ≡ false → go_on P n (f - 1) (work_of s) ≡ cond s.changed (passes P n (f - 1) (work_of s)) (work_of s)
    free e = ap (λ (b : Bool). if_settled (verdict_by b) (cond s.changed (passes P n (f - 1) (work_of s)) (work_of s)) (work_of s)) e

    pub pass_rests : s.conflict ≡ false → s.changed ≡ false → Like (work_of s) x
    pass_rests e c = on (work_of s) (free e ∙ ap (λ (b : Bool). cond b (passes P n (f - 1) (work_of s)) (work_of s)) c)

    pub pass_again : s.conflict ≡ false → s.changed ≡ true → Like (passes P n (f - 1) (work_of s)) x
    pass_again e c = on (passes P n (f - 1) (work_of s)) (free e ∙ ap (λ (b : Bool). cond b (passes P n (f - 1) (work_of s)) (work_of s)) c)
