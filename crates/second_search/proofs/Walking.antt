-- One rule further and one pass further, as the code goes: a law for each arm. After a conflict nothing is done.
-- Assumes nothing.
use Prim.Native.Nat.{ℕ, zero, suc, ◌+◌, ◌-◌, ◌≤◌, ◌<◌}
use native.Mathlib.Numerals.{add-one}
use lib.ListN.{length, get_or, drop, drop_of_length-le}
use lib.Seq.{drop-cons}
use native.Mathlib.Omega.{arith}
use mathlib.Core.Path.{◌≡◌, refl, sym, ◌∙◌, ap, subst}
use mathlib.Core.Bool.{Bool, true, false, cond}
use mathlib.Core.List.{List, [], ◌∷◌, map}
use lib.IntN.{ℤ}
use Rattle.meaning.specs.Aggregates.{Atoms}
use Rattle.meaning.specs.Program.{Rule, Program}
use Rattle.meaning.specs.Answers.{body, reduct}
use Rattle.levels.specs.Levels.{Levels}
use Rattle.interpretation.specs.State.{Cell, defined, put}
use Rattle.interpretation.specs.View.{valued}
use Rattle.layout.specs.Layout.{rule_at}
use Rattle.steps.specs.Steps.{Verdict, settled, Work, set, refuted, if_settled, rule_reason, rule_pass, pass, passes}
use Rattle.rules.specs.declared.Step.{Step}
use Rattle.rules.specs.declared.Step.TheVariants.{Nothing, Conflict, Set}
use Rattle.rules.specs.Demand.{demand_of, did}
use Rattle.rules.proofs.Rule.{step_rule_lem}
use Rattle.rules.proofs.Alone.{demand_alone}
use Rattle.smaller.proofs.Second.{reduct_takes, reduct_skips}
use Rattle.second_search.specs.Looking.{Like, verdict_by, record_at, cells_at, work_of, asked_of}
use Rattle.second_search.proofs.Liking.{like_then, like_rules, go_on, like_on}

-- ---- rules

pub rules_conflict : (P : Program) (C : Levels) (w : Work) → rule_pass P (refuted C w) ≡ refuted C w
rules_conflict [] C w = refl
rules_conflict (r ∷ P) C w = ap (rule_pass P) (step_rule_lem r (refuted C w)) ∙ rules_conflict P C w

module _ (P : Program) (X : Atoms) (r : Rule) (w : Work) (calm : w.verdict ≡ settled) where
  -- a rule of the reduct makes its step, any other makes none
  pub one_rule : (b : Bool) → body X r ≡ b → rule_pass (reduct (r ∷ P) X) w ≡ rule_pass (reduct P X) (did (asked_of b (demand_of w.cell r)) (rule_reason r w) w)
  one_rule true e =
      reduct_takes P X r w e
      ∙ ap (rule_pass (reduct P X)) (step_rule_lem r w ∙ ap (λ (v : Verdict). if_settled v (did (demand_of w.cell r) (rule_reason r w) w) w) calm)
  one_rule false e = reduct_skips P X r w e

-- the rules at the places l from index i on
module _ (X : Atoms) (t : List ℤ) (l : List ℕ) (i d : ℕ) (vs ls : List ℕ) (changed : Bool) (x : Work) (S : Like (rule_pass (reduct (map (rule_at t) (drop i l)) X) (work_of d (cells_at vs ls) changed false)) x) where
  abbrev here : Rule
  here = rule_at t (get_or l i 0)

  abbrev later : Program
  later = map (rule_at t) (drop (i + 1) l)

  split : i < length l → map (rule_at t) (drop i l) ≡ here ∷ later
  split h = ap (map (rule_at t)) (drop-cons l i 0 h ∙ ap (λ (j : ℕ). get_or l i 0 ∷ drop j l) (sym (add-one i)))

  abbrev w : Work
  w = work_of d (cells_at vs ls) changed false

  abbrev R : Levels
  R = rule_reason here w

  turned : i < length l → (s : Step) → asked_of (body X here) (demand_of (valued vs) here) ≡ s → Like (rule_pass (reduct later X) (did s R w)) x
  turned h s e =
      let f : asked_of (body X here) (demand_of (cells_at vs ls) here) ≡ s = ap (asked_of (body X here)) (demand_alone vs (map record_at ls) here) ∙ e in
      subst (λ (y : Work). Like y x)
      (ap (λ (P : Program). rule_pass (reduct P X) w) (split h) ∙ one_rule later X here w refl (body X here) refl ∙ ap (λ (z : Step). rule_pass (reduct later X) (did z R w)) f)
      S

  pub rules_nothing : i < length l → asked_of (body X here) (demand_of (valued vs) here) ≡ Nothing → Like (rule_pass (reduct later X) w) x
  rules_nothing h e = turned h Nothing e

  pub rules_refuted : i < length l → asked_of (body X here) (demand_of (valued vs) here) ≡ Conflict → Like (work_of d (cells_at vs ls) changed true) x
  rules_refuted h e =
      like_then {u = refuted R w} (record { level = refl; cells = refl; same = refl; moved = refl })
      (subst (λ (y : Work). Like y x) (rules_conflict (reduct later X) R w) (turned h Conflict e))

  pub rules_set : i < length l → (p : ℕ) (v : Bool) → asked_of (body X here) (demand_of (valued vs) here) ≡ Set p v → (a : ℕ → Cell) → a ≡ put p (defined v d) (cells_at vs ls)
      → Like (rule_pass (reduct later X) (work_of d a true false)) x
  rules_set h p v e a f =
      let g : Like (work_of d a true false) (set p v R w) = record { level = refl; cells = f; same = refl; moved = refl } in
      like_then (like_rules (reduct later X) g) (turned h (Set p v) e)

  pub rules_over : length l ≤ i → Like w x
  unfolding reduct
  rules_over h = subst (λ (P : Program). Like (rule_pass (reduct P X) w) x) (ap (map (rule_at t)) (drop_of_length-le l h)) S

-- ---- passes

module _ (P : Program) (left : ℕ) (w x : Work) (fuel : 0 < left) (S : Like (passes P 0 left w) x) (d : ℕ) (a : ℕ → Cell) (changed conflicting : Bool) (g : Like (work_of d a changed conflicting) (pass P 0 w)) where
  abbrev s : Work
  s = work_of d a changed conflicting

  on : (u : Work) → go_on P (left - 1) s ≡ u → Like u x
  on u e =
      let f : left ≡ suc (left - 1) = omega arith in
      like_then (subst (λ (y : Work). Like y (go_on P (left - 1) (pass P 0 w))) e (like_on P (left - 1) g)) (subst (λ (k : ℕ). Like (passes P 0 k w) x) f S)

  pub pass_conflict : conflicting ≡ true → Like s x
  pass_conflict e = on s (ap (λ (b : Bool). if_settled (verdict_by b) (cond changed (passes P 0 (left - 1) s) s) s) e)

  free : conflicting ≡ false → go_on P (left - 1) s ≡ cond changed (passes P 0 (left - 1) s) s
  free e = ap (λ (b : Bool). if_settled (verdict_by b) (cond changed (passes P 0 (left - 1) s) s) s) e

  pub pass_rests : conflicting ≡ false → changed ≡ false → Like s x
  pass_rests e c = on s (free e ∙ ap (λ (b : Bool). cond b (passes P 0 (left - 1) s) s) c)

  pub pass_again : conflicting ≡ false → changed ≡ true → Like (passes P 0 (left - 1) (work_of d a true false)) x
  pass_again e c =
      let f : s ≡ work_of d a true false = λ i. work_of d a (c i) (e i) in
      subst (λ (u : Work). Like (passes P 0 (left - 1) u) x) f (on (passes P 0 (left - 1) s) (free e ∙ ap (λ (b : Bool). cond b (passes P 0 (left - 1) s) s) c))

pub passes_over : (P : Program) (left : ℕ) (w x : Work) → left ≤ 0 → Like (passes P 0 left w) x → Like w x
passes_over P zero w x h S = S
passes_over P (suc f) w x h S = absurd (omega arith)
