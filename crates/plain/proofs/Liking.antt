-- Values and conflicts of propagation depend on no level and on no reason: working states that are `Like` each other stay so through steps, passes and a whole
-- propagation. So the code may keep the values alone.
--   like-rules, like-atoms, like-passes     through the rules and the atoms of a pass, and through passes
--   propagate-like                          of a whole propagation, from interpretations whose cells are alike
-- Assumes nothing.
use Prim.Native.Nat.{ℕ, zero, suc}
use mathlib.Core.Path.{◌≡◌, refl, sym, ◌∙◌, ap, fun_ext}
use mathlib.Core.Logic.{◌≢◌, ◌⊎◌, inl, inr}
use mathlib.Core.Bool.{Bool, true, false, cond, ◌&&◌}
use mathlib.Core.Option.{Option, none, some}
use mathlib.Core.List.{List, [], ◌∷◌, ◌++◌}
use Rattle.meaning.specs.Lists.{has}
use Rattle.meaning.specs.Program.{Rule, Program}
use Rattle.meaning.proofs.Tools.{clash}
use Rattle.meaning.proofs.Cond.{if_eq_yes, if_eq_no, eq_case}
use Rattle.levels.specs.Levels.{Levels, union}
use Rattle.interpretation.specs.State.{Cell, undefined, defined, Interpretation, put}
use Rattle.interpretation.specs.View.{cell_value}
use Rattle.interpretation.specs.declared.Value.{Value}
use Rattle.interpretation.specs.declared.Value.TheVariants.{True, False, Undefined}
use Rattle.valuing.specs.Values.{says_true, says_false, says_undefined, Lit}
use Rattle.steps.specs.Steps.{Verdict, settled, conflict, is_settled, head_lits, body_lits, Work, set, refuted, if_settled, first_of, is_other, or_else, step_rule, rule_reason, witness, Support, add_support, support, set_all, step_e, step_d, step_true, step_de, step_atom, rule_pass, atom_pass, pass, passes, begin, propagate}
use Rattle.valuing.proofs.Alike.{value_alike}
use Rattle.rules.specs.declared.Step.{Step}
use Rattle.rules.specs.declared.Step.TheVariants.{Nothing, Conflict, Set}
use Rattle.rules.specs.Demand.{denied_lits, demand_of, did}
use Rattle.rules.proofs.Rule.{step_rule_lem}
use Rattle.rules.proofs.Alone.{asks_same}
use Rattle.propagation.proofs.Passing.{go_on}
use Rattle.plain.specs.Passes.{Alike, Like}

pub like_refl : (w : Work) → Like w w
like_refl w = record { cells = λ p. refl; same = refl; moved = refl }

pub like_sym : {w u : Work} → Like w u → Like u w
like_sym S = record { cells = λ p. sym (S.cells p); same = sym S.same; moved = sym S.moved }

pub like_then : {w u x : Work} → Like w u → Like u x → Like w x
like_then S T = record { cells = λ p. S.cells p ∙ T.cells p; same = S.same ∙ T.same; moved = S.moved ∙ T.moved }

-- ---- what a step does

-- an atom set, whatever the levels
pub put_alike : (p : ℕ) (v : Bool) (l m : ℕ) (a b : ℕ → Cell) → Alike a b → Alike (put p (defined v l) a) (put p (defined v m) b)
put_alike p v l m a b h q = at (eq_case q p)
  where
    at : (q ≡ p) ⊎ (q ≢ p) → cell_value (put p (defined v l) a q) ≡ cell_value (put p (defined v m) b q)
    at (inl e) = ap cell_value (if_eq_yes q p (defined v l) (a q) e) ∙ sym (ap cell_value (if_eq_yes q p (defined v m) (b q) e))
    at (inr n) = ap cell_value (if_eq_no q p (defined v l) (a q) n) ∙ h q ∙ sym (ap cell_value (if_eq_no q p (defined v m) (b q) n))

pub like_set : (p : ℕ) (v : Bool) (R Q : Levels) {w u : Work} → Like w u → Like (set p v R w) (set p v Q u)
like_set p v R Q {w} {u} S = record { cells = put_alike p v w.level u.level w.cell u.cell S.cells; same = S.same; moved = refl }

like_refuted : (C D : Levels) {w u : Work} → Like w u → Like (refuted C w) (refuted D u)
like_refuted C D S = record { cells = S.cells; same = refl; moved = S.moved }

like_cond : (b : Bool) {w w' u u' : Work} → Like w u → Like w' u' → Like (cond b w w') (cond b u u')
like_cond true S T = S
like_cond false S T = T

like_cond₂ : (b c : Bool) {w w' u u' : Work} → b ≡ c → Like w u → Like w' u' → Like (cond b w w') (cond c u u')
like_cond₂ b c e S T = rw e (like_cond c S T)

like_settled : (v x : Verdict) {w w' u u' : Work} → is_settled v ≡ is_settled x → Like w u → Like w' u' → Like (if_settled v w w') (if_settled x u u')
like_settled settled settled e S T = S
like_settled settled (conflict C) e S T = absurd (clash (sym e) refl)
like_settled (conflict C) settled e S T = absurd (clash e refl)
like_settled (conflict C) (conflict D) e S T = T

-- ---- steps a to c

demand_like : (a b : ℕ → Cell) → Alike a b → (r : Rule) → demand_of a r ≡ demand_of b r
unfolding demand_of
demand_like a b h r = asks_same a b (value_alike a b h) (denied_lits r ++ body_lits r)

like_did : (d : Step) (R Q : Levels) {w u : Work} → Like w u → Like (did d R w) (did d Q u)
like_did Nothing R Q S = S
like_did Conflict R Q S = like_refuted R Q S
like_did (Set p v) R Q S = like_set p v R Q S

pub like_rule : (r : Rule) {w u : Work} → Like w u → Like (step_rule r w) (step_rule r u)
like_rule r {w} {u} S =
    rw (step_rule_lem r w, step_rule_lem r u, demand_like w.cell u.cell S.cells r)
    (like_settled w.verdict u.verdict S.same (like_did (demand_of u.cell r) (rule_reason r w) (rule_reason r u) S) S)

-- ---- steps d and e

-- how many rules support an atom, and which
record Backed (a b : Support) : Type 0 where
  number : a.number ≡ b.number
  who : a.who ≡ b.who

backed_cond : (c : Bool) {a a' b b' : Support} → Backed a b → Backed a' b' → Backed (cond c a a') (cond c b b')
backed_cond true S T = S
backed_cond false S T = T

backed_add : (w u : Work) (r : Rule) (o : Option Lit) {a b : Support} → Backed a b → Backed (add_support w r o a) (add_support u r o b)
backed_add w u r none S = record { number = ap suc S.number; who = refl }
backed_add w u r (some x) S = record { number = S.number; who = S.who }

-- the witness, by the literals' values
abbrev witnessed : (Lit → Value) → ℕ → Rule → Option Lit
witnessed g p r = or_else (first_of (λ x. is_other p x && says_true (g x)) (head_lits r)) (first_of (λ x. says_false (g x)) (body_lits r))

witness_like : (w u : Work) → Alike w.cell u.cell → (p : ℕ) (r : Rule) → witness w p r ≡ witness u p r
witness_like w u h p r = ap (λ (g : Lit → Value). witnessed g p r) (fun_ext (value_alike w.cell u.cell h))

backed : (w u : Work) → Alike w.cell u.cell → (p : ℕ) (P : Program) → Backed (support w p P) (support u p P)
backed w u h p [] = record { number = refl; who = refl }
backed w u h p (r ∷ s) =
    let t = backed w u h p s in
    backed_cond (has p r.head) (rw (witness_like w u h p r) (backed_add w u r (witness u p r) t)) t

like_all : (v : Bool) (R Q : Levels) (s : List ℕ) {w u : Work} → Like w u → Like (set_all v R s w) (set_all v Q s u)
like_all v R Q [] S = S
like_all v R Q (p ∷ s) {w} {u} S = like_all v R Q s (rw (S.cells p) (like_cond (says_undefined (cell_value (u.cell p))) (like_set p v R Q S) S))

pub like_e : (o : Option Rule) (R Q : Levels) {w u : Work} → Like w u → Like (step_e o R w) (step_e o Q u)
like_e none R Q S = S
like_e (some r) R Q S = like_all false R Q r.neg (like_all true R Q r.pos (like_all false R Q r.head S))

like_d : (n p : ℕ) (R Q : Levels) {w u : Work} → Like w u → Like (step_d n p R w) (step_d n p Q u)
like_d zero p R Q S = like_set p false R Q S
like_d (suc n) p R Q S = S

like_true : (n : ℕ) (o : Option Rule) (R Q : Levels) {w u : Work} → Like w u → Like (step_true n o R w) (step_true n o Q u)
like_true zero o R Q S = like_refuted R Q S
like_true (suc zero) o R Q S = like_e o R Q S
like_true (suc (suc n)) o R Q S = S

-- d and e, by the atom's value
abbrev by_value : ℕ → Value → Support → Work → Work
by_value p Undefined s w = step_d s.number p s.why w
by_value p True s w = step_true s.number s.who (union (w.reason p) s.why) w
by_value p False s w = w

by_value_lem : (p : ℕ) (c : Cell) (s : Support) (w : Work) → step_de p c s w ≡ by_value p (cell_value c) s w
by_value_lem p undefined s w = refl
by_value_lem p (defined true l) s w = refl
by_value_lem p (defined false l) s w = refl

like_de : (p : ℕ) (x : Value) {a b : Support} → Backed a b → {w u : Work} → Like w u → Like (by_value p x a w) (by_value p x b u)
like_de p Undefined {a} {b} T S = rw T.number (like_d b.number p a.why b.why S)
like_de p True {a} {b} T {w} {u} S = rw (T.number, T.who) (like_true b.number b.who (union (w.reason p) a.why) (union (u.reason p) b.why) S)
like_de p False T S = S

pub like_atom : (P : Program) (p : ℕ) {w u : Work} → Like w u → Like (step_atom P p w) (step_atom P p u)
like_atom P p {w} {u} S =
    like_settled w.verdict u.verdict S.same
    (rw (by_value_lem p (w.cell p) (support w p P) w, by_value_lem p (u.cell p) (support u p P) u, S.cells p) (like_de p (cell_value (u.cell p)) (backed w u S.cells p P) S)) S

-- ---- passes

pub like_rules : (P : Program) {w u : Work} → Like w u → Like (rule_pass P w) (rule_pass P u)
like_rules [] S = S
like_rules (r ∷ s) S = like_rules s (like_rule r S)

pub like_atoms : (P : Program) (n p : ℕ) {w u : Work} → Like w u → Like (atom_pass P n p w) (atom_pass P n p u)
like_atoms P zero p S = S
like_atoms P (suc n) p S = like_atoms P n (suc p) (like_atom P p S)

pub like_pass : (P : Program) (n : ℕ) {w u : Work} → Like w u → Like (pass P n w) (pass P n u)
like_pass P n S = like_atoms P n 1 (like_rules P (record { cells = S.cells; same = S.same; moved = refl }))

-- what follows a pass
on_from : (P : Program) (n f : ℕ) {w u : Work} → Like (passes P n f w) (passes P n f u) → Like w u → Like (go_on P n f w) (go_on P n f u)
on_from P n f {w} {u} A T = like_settled w.verdict u.verdict T.same (like_cond₂ w.changed u.changed T.moved A T) T

pub like_passes : (P : Program) (n f : ℕ) {w u : Work} → Like w u → Like (passes P n f w) (passes P n f u)
like_passes P n zero S = S
like_passes P n (suc f) S = let T = like_pass P n S in on_from P n f (like_passes P n f T) T

pub like_on : (P : Program) (n f : ℕ) {w u : Work} → Like w u → Like (go_on P n f w) (go_on P n f u)
like_on P n f S = on_from P n f (like_passes P n f S) S

-- ---- a whole propagation

pub begin_like : (i j : Interpretation) (r s : ℕ → Levels) → Alike i.cell j.cell → Like (begin i r) (begin j s)
begin_like i j r s h = record { cells = h; same = refl; moved = refl }

module _ (P : Program) (n : ℕ) (i : Interpretation) (r : ℕ → Levels) (w : Work) (S : Like w (passes P n (suc n) (begin i r))) where
  -- what is like the last pass has propagation's values, and is in conflict where that is
  pub propagated_cells : Alike w.cell (propagate P n i r).cell
  unfolding propagate
  propagated_cells = S.cells

  pub propagated_verdict : is_settled w.verdict ≡ is_settled (propagate P n i r).verdict
  unfolding propagate
  propagated_verdict = S.same

module _ (P : Program) (n : ℕ) (i j : Interpretation) (r s : ℕ → Levels) (h : Alike i.cell j.cell) where
  pub propagate_cells : Alike (propagate P n i r).cell (propagate P n j s).cell
  unfolding propagate
  propagate_cells = (like_passes P n (suc n) (begin_like i j r s h)).cells

  pub propagate_verdict : is_settled (propagate P n i r).verdict ≡ is_settled (propagate P n j s).verdict
  unfolding propagate
  propagate_verdict = (like_passes P n (suc n) (begin_like i j r s h)).same
