-- What the code does at one rule and at one atom, as the steps of crate `steps`: a law for each arm of the two matches. Assumes nothing.
use Prim.Native.Nat.{ℕ, zero, suc, ◌-◌, ◌≤◌, ◌<◌}
use native.Mathlib.Omega.{arith}
use mathlib.Core.Path.{◌≡◌, refl, sym, ap, ◌∙◌, subst, fun_ext}
use mathlib.Core.Logic.{◌≢◌, ◌⊎◌, inl, inr}
use mathlib.Core.Bool.{Bool, true, false, cond}
use mathlib.Core.Option.{Option, none, some}
use mathlib.Core.List.{List, [], ◌∷◌}
use lib.IntN.{ℤ}
use lib.ListN.{length, get_or, set}
use lib.Seq.{get_or-set_same, get_or-set_other}
use Rattle.meaning.specs.Cond.{if_eq}
use Rattle.meaning.proofs.Cond.{if_eq_yes, if_eq_no, eq_case}
use Rattle.interpretation.specs.State.{Cell, defined, put}
use Rattle.interpretation.specs.View.{cell_by, valued, byte_of}
use Rattle.interpretation.proofs.Laws.{cells_zero, cells_suc, cell_byte}
use Rattle.meaning.specs.Program.{Rule}
use Rattle.meaning.proofs.Tools.{clash}
use Rattle.levels.specs.Levels.{Levels, no_levels}
use Rattle.interpretation.specs.View.{cell_value}
use Rattle.valuing.specs.Values.{says_undefined}
use Rattle.layout.specs.declared.Table.{Table}
use Rattle.layout.specs.Layout.{rule_at, program_of}
use Rattle.steps.specs.Steps as steps
use Rattle.steps.specs.Steps.{Verdict, settled, is_settled, Work, refuted, if_settled, rule_reason, step_rule, set_all, step_e, step_atom}
use Rattle.rules.specs.declared.Step.{Step}
use Rattle.rules.specs.declared.Step.TheVariants.{Nothing, Conflict, Set}
use Rattle.rules.specs.Demand.{demand_of, did}
use Rattle.rules.proofs.Rule.{step_rule_lem}
use Rattle.support.specs.declared.Ask.TheVariants as ask
use Rattle.support.specs.Asking.{ask_of}
use Rattle.support.proofs.Atom.{ask_nothing, ask_conflict, ask_unset, ask_sole}
use Rattle.plain.specs.declared.passes.Side.{Side}
use Rattle.plain.specs.Passes.{Like, verdict_by, work_of, Comes}
use Rattle.plain.proofs.Liking.{like_refl, like_then, like_set, like_e}

-- ---- a value set

module _ (vs : List ℕ) (n : length vs ≡ 256) where
  at_suc : (i v : ℕ) → i < length vs → (j : ℕ) → (j ≡ i) ⊎ (j ≢ i) → valued (set vs i v) (suc j) ≡ if_eq (suc j) (suc i) (cell_by v 0) (valued vs (suc j))
  at_suc i v h j (inl e) =
      cells_suc (set vs i v) [] j ∙ ap (λ (k : ℕ). cell_by (get_or (set vs i v) k 0) 0) e ∙ ap (λ (x : ℕ). cell_by x 0) (get_or-set_same vs i v 0 h)
      ∙ sym (if_eq_yes (suc j) (suc i) (cell_by v 0) (valued vs (suc j)) (ap suc e))
  at_suc i v h j (inr m) =
      cells_suc (set vs i v) [] j ∙ ap (λ (x : ℕ). cell_by x 0) (get_or-set_other vs i j v 0 m) ∙ sym (cells_suc vs [] j)
      ∙ sym (if_eq_no (suc j) (suc i) (cell_by v 0) (valued vs (suc j)) (λ e. m (omega arith)))

  set_at : (i v : ℕ) → i < length vs → (q : ℕ) → valued (set vs i v) q ≡ put (suc i) (cell_by v 0) (valued vs) q
  set_at i v h zero = cells_zero (set vs i v) [] ∙ sym (cells_zero vs []) ∙ sym (if_eq_no 0 (suc i) (cell_by v 0) (valued vs 0) (λ e. omega arith))
  set_at i v h (suc j) = at_suc i v h j (eq_case j i)

  pub values_set : (p : ℕ) → 1 ≤ p → p ≤ 256 → (v : Bool) (b : ℕ) → b ≡ byte_of v → valued (set vs (p - 1) b) ≡ put p (defined v 0) (valued vs)
  values_set p l h v b e =
      let s : suc (p - 1) ≡ p = omega arith in
      fun_ext (set_at (p - 1) b (omega arith))
      ∙ ap (λ (q : ℕ). put q (cell_by b 0) (valued vs)) s ∙ ap (λ (x : Cell). put p x (valued vs)) (ap (λ (x : ℕ). cell_by x 0) e ∙ cell_byte v 0)

-- ---- working states of the code

-- the side s' with no conflict came of s by the step w
pub record Stepped (s s' : Side) (w : Work) : Type 0 where
  pub like : Like (work_of s') w
  pub free : s'.conflict ≡ false
  pub kept : s'.choices ≡ s.choices

pub moved : {o s s' : Side} {w : Work} → s ≡ s' → Stepped o s' w → Stepped o s w
moved {o} {s} {s'} {w} e x = subst (λ (y : Side). Stepped o y w) (sym e) x

unsettled : (b : Bool) → is_settled (verdict_by b) ≡ true → b ≡ false
unsettled true e = absurd (clash e refl)
unsettled false e = refl

-- what is like a working state without conflict has none
pub free_of : (s : Side) (w : Work) → Like (work_of s) w → w.verdict ≡ settled → s.conflict ≡ false
free_of s w S e = unsettled s.conflict (S.same ∙ ap is_settled e)

-- step e meets no conflict
all_verdict : (v : Bool) (R : Levels) (l : List ℕ) (w : Work) → (set_all v R l w).verdict ≡ w.verdict
all_verdict v R [] w = refl
all_verdict v R (p ∷ l) w = all_verdict v R l _ ∙ at (says_undefined (cell_value (w.cell p)))
  where
    at : (b : Bool) → (cond b (steps.set p v R w) w).verdict ≡ w.verdict
    at true = refl
    at false = refl

e_verdict : (o : Option Rule) (R : Levels) (w : Work) → (step_e o R w).verdict ≡ w.verdict
e_verdict none R w = refl
e_verdict (some r) R w = all_verdict false R r.neg _ ∙ all_verdict true R r.pos _ ∙ all_verdict false R r.head w

module _ (s : Side) (free : s.conflict ≡ false) where
  calm : (work_of s).verdict ≡ settled
  calm = ap verdict_by free

  pub refuted_like : (C : Levels) → Like (work_of (record { values = s.values; choices = s.choices; changed = s.changed; conflict = true })) (refuted C (work_of s))
  refuted_like C = record { cells = λ p. refl; same = refl; moved = refl }

  set_stepped : (p : ℕ) (v : Bool) (R : Levels) (s' : Side) → Comes s s' (steps.set p v no_levels (work_of s)) → Stepped s s' (steps.set p v R (work_of s))
  set_stepped p v R s' g =
      let l = like_then g.like (like_set p v no_levels R (like_refl (work_of s))) in
      record { like = l; free = free_of s' (steps.set p v R (work_of s)) l calm; kept = g.kept }

  -- ---- steps a to c

  module _ (r : Rule) where
    rule_does : (d : Step) → demand_of (valued s.values) r ≡ d → step_rule r (work_of s) ≡ did d (rule_reason r (work_of s)) (work_of s)
    rule_does d e =
        step_rule_lem r (work_of s)
        ∙ ap (λ (v : Verdict). if_settled v (did (demand_of (valued s.values) r) (rule_reason r (work_of s)) (work_of s)) (work_of s)) calm
        ∙ ap (λ (x : Step). did x (rule_reason r (work_of s)) (work_of s)) e

    pub rule_nothing : demand_of (valued s.values) r ≡ Nothing → Stepped s s (step_rule r (work_of s))
    rule_nothing e = rw (rule_does Nothing e) (record { like = like_refl (work_of s); free = free; kept = refl })

    pub rule_refutes : demand_of (valued s.values) r ≡ Conflict → step_rule r (work_of s) ≡ refuted (rule_reason r (work_of s)) (work_of s)
    rule_refutes e = rule_does Conflict e

    pub rule_sets : (p : ℕ) (v : Bool) (s' : Side) → demand_of (valued s.values) r ≡ Set p v → Comes s s' (steps.set p v no_levels (work_of s)) → Stepped s s' (step_rule r (work_of s))
    rule_sets p v s' e g = rw (rule_does (Set p v) e) (set_stepped p v (rule_reason r (work_of s)) s' g)

  -- ---- steps d and e

  module _ (t : List ℤ) (tb : Table) (p : ℕ) where
    pub atom_nothing : ask_of t tb (valued s.values) p ≡ ask.Nothing → Stepped s s (step_atom (program_of t tb) p (work_of s))
    atom_nothing e = rw (ask_nothing p (work_of s) t tb calm e) (record { like = like_refl (work_of s); free = free; kept = refl })

    pub atom_refutes : ask_of t tb (valued s.values) p ≡ ask.Conflict → (C : Levels) × (step_atom (program_of t tb) p (work_of s) ≡ refuted C (work_of s))
    atom_refutes e = (_, ask_conflict p (work_of s) t tb calm e)

    pub atom_unsets : (s' : Side) → ask_of t tb (valued s.values) p ≡ ask.Unset → Comes s s' (steps.set p false no_levels (work_of s)) → Stepped s s' (step_atom (program_of t tb) p (work_of s))
    atom_unsets s' e g = rw (ask_unset p (work_of s) t tb calm e) (set_stepped p false _ s' g)

    pub atom_forces : (i : ℕ) (s' : Side) → ask_of t tb (valued s.values) p ≡ ask.Sole i → Comes s s' (step_e (some (rule_at t i)) no_levels (work_of s)) → Stepped s s' (step_atom (program_of t tb) p (work_of s))
    atom_forces i s' e g = rw (ask_sole p (work_of s) t tb i calm e) (forced_stepped _)
      where
        forced_stepped : (R : Levels) → Stepped s s' (step_e (some (rule_at t i)) R (work_of s))
        forced_stepped R =
            let l = like_then g.like (like_e (some (rule_at t i)) no_levels R (like_refl (work_of s))) in
            record { like = l; free = free_of s' _ l (e_verdict (some (rule_at t i)) R (work_of s) ∙ calm); kept = g.kept }
