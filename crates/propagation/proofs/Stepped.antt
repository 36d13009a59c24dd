-- What one step of the code makes of its interpretation, its reasons and its flag, as the steps of crate `steps` on the working state that these stand for:
-- a law for each arm of the two matches in `propagate`, and for what the loop inside them sets.
--   Kept s x      x has the level and the choices of s
--   Stepped       the step at hand came to this interpretation, these reasons and this flag
-- Assumes nothing.
use Prim.Native.Nat.{ℕ, ◌-◌, ◌≤◌, ◌<◌}
use native.Mathlib.Omega.{arith}
use mathlib.Core.Path.{◌≡◌, refl, sym, ap, ◌∙◌, subst}
use mathlib.Core.Bool.{Bool, true, false}
use mathlib.Core.Option.{some}
use mathlib.Core.List.{List, ◌++◌}
use lib.IntN.{ℤ}
use lib.ListN.{length, set, length-set}
use Rattle.meaning.specs.Cond.{if_eq}
use Rattle.meaning.specs.Program.{Rule}
use Rattle.levels.specs.Levels.{Levels, union}
use Rattle.levels.specs.View.{row, rows}
use Rattle.levels.proofs.Laws.{rows_set}
use Rattle.interpretation.specs.State as state
use Rattle.interpretation.specs.State.{Cell, set_at, with_cells}
use Rattle.interpretation.specs.View.{view, cells, valued}
use Rattle.interpretation.specs.declared.Interpretation.{Interpretation}
use Rattle.layout.specs.declared.Table.{Table}
use Rattle.layout.specs.Layout.{rule_at, program_of}
use Rattle.valuing.specs.Reasons.{reasons_of}
use Rattle.steps.specs.Steps as steps
use Rattle.steps.specs.Steps.{Work, refuted, rule_reason, head_lits, body_lits, step_rule, step_e, step_atom}
use Rattle.rules.specs.declared.Step.{Step}
use Rattle.rules.specs.declared.Step.TheVariants.{Nothing, Conflict, Set}
use Rattle.rules.specs.Demand.{demand_of, did}
use Rattle.support.specs.declared.Ask.{Ask}
use Rattle.support.specs.declared.Ask.TheVariants as ask
use Rattle.std.specs.Prelude.{Some, None}
use Rattle.support.specs.Asking.{ask_of, blame_of, forced_of, did_ask}
use Rattle.propagation.specs.Propagation.{work}
use Rattle.literals.proofs.Alone.{reasons_alone}
use Rattle.rules.proofs.Rule.{step_rule_lem}
use Rattle.rules.proofs.Alone.{demand_alone}
use Rattle.support.proofs.Atom.{step_atom_lem, ask_alone, blame_alone}
use Rattle.support.proofs.Forcing.{forced_nothing, forced_set}

-- ---- level and choices

abbrev pub Kept : state.Interpretation → state.Interpretation → Type 0
Kept s x = (x.level ≡ s.level) × (x.choice ≡ s.choice)

pub kept_set : (s x y : state.Interpretation) (p : ℕ) (v : Bool) → Kept s x → y ≡ set_at p v x → Kept s y
kept_set s x y p v k e = (ap (λ (z : state.Interpretation). z.level) e ∙ k.0, ap (λ (z : state.Interpretation). z.choice) e ∙ k.1)

pub kept_then : (s x y : state.Interpretation) → Kept s x → Kept x y → Kept s y
kept_then s x y k l = (l.0 ∙ k.0, l.1 ∙ k.1)

pub kept_cells : (s x : state.Interpretation) (a : ℕ → Cell) → Kept s x → x.cell ≡ a → x ≡ with_cells s a
kept_cells s x a k e = λ i. record { level = k.0 i; choice = k.1 i; cell = e i }

-- ---- one atom set

pub stored : (it it' : Interpretation) (reasons : List (List ℕ)) (b : Bool) (p : ℕ) (v : Bool) (w : List ℕ) (R : Levels) → length reasons ≡ 256 → 1 ≤ p → p ≤ 256
    → view it' ≡ set_at p v (view it) → row w ≡ R → steps.set p v R (work it reasons b) ≡ work it' (set reasons (p - 1) w) true
stored it it' reasons b p v w R n l h e f =
    let k : p - 1 < length reasons = rw n (omega arith) in
    let z : rows (set reasons (p - 1) w) ≡ (λ (q : ℕ). if_eq q p R (rows reasons q)) =
    rows_set reasons p w l k ∙ ap (λ (A : Levels). λ (q : ℕ). if_eq q p A (rows reasons q)) f in
    sym (λ i. record { level = (e i).level; cell = (e i).cell; reason = z i; verdict = steps.settled; changed = true })

pub record Stepped (it : Interpretation) (w : Work) (it' : Interpretation) (reasons' : List (List ℕ)) (b' : Bool) : Type 0 where
  pub long : length reasons' ≡ 256
  pub kept : Kept (view it) (view it')
  pub same : w ≡ work it' reasons' b'

pub moved : {it : Interpretation} {w : Work} {x x' : Interpretation} {rs rs' : List (List ℕ)} {b b' : Bool} → x ≡ x' → rs ≡ rs' → b ≡ b' → Stepped it w x' rs' b' → Stepped it w x rs b
moved {it} {w} {x} {x'} {rs} {rs'} {b} {b'} e f g s =
    subst (λ (i : Interpretation). Stepped it w i rs b) (sym e)
    (subst (λ (r : List (List ℕ)). Stepped it w x' r b) (sym f) (subst (λ (m : Bool). Stepped it w x' rs' m) (sym g) s))

module _ (it : Interpretation) (reasons : List (List ℕ)) (b : Bool) where
  -- ---- steps a to c

  module _ (r : Rule) where
    rule_does : (d : Step) → demand_of (valued it.values) r ≡ d → step_rule r (work it reasons b) ≡ did d (rule_reason r (work it reasons b)) (work it reasons b)
    rule_does d e = step_rule_lem r (work it reasons b) ∙ ap (λ (s : Step). did s (rule_reason r (work it reasons b)) (work it reasons b)) (demand_alone it.values it.records r ∙ e)

    pub rule_nothing : length reasons ≡ 256 → demand_of (valued it.values) r ≡ Nothing → Stepped it (step_rule r (work it reasons b)) it reasons b
    rule_nothing n e = record { long = n; kept = (refl, refl); same = rule_does Nothing e }

    module _ (w : List ℕ) (f : row w ≡ reasons_of (valued it.values) (rows reasons) (head_lits r ++ body_lits r)) where
      because : row w ≡ rule_reason r (work it reasons b)
      because = f ∙ sym (reasons_alone it.values it.records (rows reasons) (head_lits r ++ body_lits r))

      pub rule_refutes : demand_of (valued it.values) r ≡ Conflict → step_rule r (work it reasons b) ≡ refuted (row w) (work it reasons b)
      rule_refutes e = rule_does Conflict e ∙ ap (λ (C : Levels). refuted C (work it reasons b)) (sym because)

      pub rule_sets : (p : ℕ) (v : Bool) (it' : Interpretation) → length reasons ≡ 256 → 1 ≤ p → p ≤ 256 → demand_of (valued it.values) r ≡ Set p v → view it' ≡ set_at p v (view it)
          → Stepped it (step_rule r (work it reasons b)) it' (set reasons (p - 1) w) true
      rule_sets p v it' n l h e g = record {
        long = simp length-set n;
        kept = kept_set (view it) (view it) (view it') p v (refl, refl) g;
        same = rule_does (Set p v) e ∙ stored it it' reasons b p v w (rule_reason r (work it reasons b)) n l h g because;
      }

  -- ---- steps d and e

  module _ (t : List ℤ) (tb : Table) (p : ℕ) where
    blamed : Levels
    blamed = blame_of (cells it.values it.records) (rows reasons) p (program_of t tb)

    atom_does : (d : Ask) → ask_of t tb (valued it.values) p ≡ d → step_atom (program_of t tb) p (work it reasons b) ≡ did_ask t p d blamed (work it reasons b)
    unfolding blamed
    atom_does d e =
        step_atom_lem p (work it reasons b) t tb
        ∙ ap (λ (s : Ask). did_ask t p s (blame_of (cells it.values it.records) (rows reasons) p (program_of t tb)) (work it reasons b)) (ask_alone it.values it.records t tb p ∙ e)

    pub atom_nothing : length reasons ≡ 256 → ask_of t tb (valued it.values) p ≡ ask.Nothing → Stepped it (step_atom (program_of t tb) p (work it reasons b)) it reasons b
    atom_nothing n e = record { long = n; kept = (refl, refl); same = atom_does ask.Nothing e }

    because_blamed : (w : List ℕ) → row w ≡ blame_of (valued it.values) (rows reasons) p (program_of t tb) → row w ≡ blamed
    unfolding blamed
    because_blamed w f = f ∙ sym (blame_alone it.values it.records (rows reasons) p (program_of t tb))

    pub atom_unsets : (w : List ℕ) (it' : Interpretation) → row w ≡ blame_of (valued it.values) (rows reasons) p (program_of t tb) → length reasons ≡ 256 → 1 ≤ p → p ≤ 256
        → ask_of t tb (valued it.values) p ≡ ask.Unset → view it' ≡ set_at p false (view it) → Stepped it (step_atom (program_of t tb) p (work it reasons b)) it' (set reasons (p - 1) w) true
    atom_unsets w it' f n l h e g = record {
      long = simp length-set n;
      kept = kept_set (view it) (view it) (view it') p false (refl, refl) g;
      same = atom_does ask.Unset e ∙ stored it it' reasons b p false w blamed n l h g (because_blamed w f);
    }

    module _ (w : List ℕ) (f : row w ≡ union (rows reasons p) (blame_of (valued it.values) (rows reasons) p (program_of t tb))) where
      because_whole : row w ≡ union (rows reasons p) blamed
      unfolding blamed
      because_whole = f ∙ ap (union (rows reasons p)) (sym (blame_alone it.values it.records (rows reasons) p (program_of t tb)))

      pub atom_refutes : ask_of t tb (valued it.values) p ≡ ask.Conflict → step_atom (program_of t tb) p (work it reasons b) ≡ refuted (row w) (work it reasons b)
      atom_refutes e = atom_does ask.Conflict e ∙ ap (λ (C : Levels). refuted C (work it reasons b)) (sym because_whole)

      -- what step e sets is a change, whether or not the pass had changed something before
      marked : (r : Rule) (R : Levels) (q : ℕ) (v : Bool) → forced_of (cells it.values it.records) r ≡ Some (q, v) → step_e (some r) R (work it reasons b) ≡ step_e (some r) R (work it reasons true)
      marked r R q v e = forced_set r R (work it reasons b) q v e ∙ sym (forced_set r R (work it reasons true) q v e)

      -- all that step e sets at the rule at i is set
      pub atom_forces : (i q : ℕ) (v : Bool) (it' : Interpretation) (rs : List (List ℕ)) → ask_of t tb (valued it.values) p ≡ ask.Sole i → forced_of (cells it.values it.records) (rule_at t i) ≡ Some (q, v)
          → Kept (view it) (view it') → length rs ≡ 256 → step_e (some (rule_at t i)) (row w) (work it' rs true) ≡ step_e (some (rule_at t i)) (row w) (work it reasons true)
          → forced_of (cells it'.values it'.records) (rule_at t i) ≡ None → Stepped it (step_atom (program_of t tb) p (work it reasons b)) it' rs true
      atom_forces i q v it' rs e g k n z h = record {
        long = n;
        kept = k;
        same =
            atom_does (ask.Sole i) e ∙ marked (rule_at t i) (union (rows reasons p) blamed) q v g ∙ ap (λ (R : Levels). step_e (some (rule_at t i)) R (work it reasons true)) (sym because_whole)
            ∙ sym z ∙ forced_nothing (rule_at t i) (row w) (work it' rs true) h;
      }
