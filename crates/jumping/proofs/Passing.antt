-- The passes of `search_by`, over the values alone: what a pass comes to, that a pass which changed something has left fewer atoms undefined, and the
-- three ways out. A conflict ends the code's loops at once, and the defined passes do nothing after it.
-- Assumes nothing.
use Prim.Native.Nat.{ℕ, suc, ◌+◌, ◌-◌, ◌≤◌, ◌<◌}
use native.Mathlib.Omega.{arith}
use mathlib.Core.Path.{◌≡◌, refl, sym, ap, ◌∙◌, subst}
use mathlib.Core.Bool.{Bool, true, false}
use mathlib.Core.List.{List, ◌++◌}
use lib.IntN.{ℤ}
use lib.ListN.{length, get_or}
use Rattle.meaning.specs.Program.{Program}
use Rattle.meaning.proofs.Tools.{number, number_top}
use Rattle.levels.specs.Levels.{union}
use Rattle.levels.specs.View.{row, rows}
use Rattle.interpretation.specs.View.{view, cells, valued}
use Rattle.interpretation.specs.declared.Interpretation.{Interpretation}
use Rattle.layout.specs.Layout.{rule_at, program_of, Laid}
use Rattle.layout.specs.declared.Table.{Table}
use Rattle.heads.specs.Heads.{list_at, taking, Listed}
use Rattle.heads.proofs.Taking.{part_in}
use Rattle.valuing.specs.Reasons.{reasons_of}
use Rattle.outcome.specs.declared.Outcome.{Outcome}
use Rattle.outcome.specs.declared.Outcome.TheVariants.{Settled, Conflict}
use Rattle.steps.specs.Steps.{Work, refuted, head_lits, body_lits, step_rule, step_atom, rule_pass, atom_pass, pass, passes, further, passes_made}
use Rattle.steps.proofs.Ending.{missing, fewer}
use Rattle.rules.specs.declared.Step.TheVariants as step
use Rattle.rules.specs.Demand.{demand_of}
use Rattle.support.specs.declared.Ask.TheVariants as ask
use Rattle.support.specs.Asking.{ask_of, blame_of}
use Rattle.propagation.specs.Propagation.{work}
use Rattle.propagation.proofs.Quiet.{QuietRules, QuietAtoms, rules_out, rules_fewer, quiet_rules, atoms_out, atoms_join, quiet_atoms}
use Rattle.propagation.proofs.Passing.{rules_at, part_atoms, rules_on, atoms_on, rules_conflict, atoms_conflict, go_on, passes_on, made_on}
use Rattle.propagation.proofs.Stepped.{Kept, kept_then, rule_refutes, atom_refutes}
use Rattle.propagation.proofs.Handing.{Handed, handed}

-- ---- the three loops' invariants, as `search_by` has them

abbrev pub PassesInv : (t : List ℤ) (tb : Table) (lists : List ℕ) (it0 : Interpretation) (reasons0 : List (List ℕ)) (it : Interpretation) (reasons : List (List ℕ)) (made rules_to atoms_to : ℕ) → Type 0
PassesInv t tb lists it0 reasons0 it reasons made rules_to atoms_to =
    (length reasons ≡ 256) × Kept (view it0) (view it)
    × ((f : ℕ) × (b : Bool) × (number tb.atoms (missing (cells it.values it.records)) < f) × (made + f ≡ suc (suc tb.atoms))
    × (passes (taking t lists) tb.atoms f (work it reasons b) ≡ passes (taking t lists) tb.atoms (suc tb.atoms) (work it0 reasons0 false))
    × (made + passes_made (taking t lists) tb.atoms f (work it reasons b) ≡ suc (passes_made (taking t lists) tb.atoms (suc tb.atoms) (work it0 reasons0 false))))
    × (rules_to ≤ get_or lists 1 0) × QuietRules t lists it.values rules_to (get_or lists 1 0) × (atoms_to ≤ tb.atoms) × QuietAtoms t tb it.values atoms_to (suc tb.atoms)

abbrev pub RulesInv : (t : List ℤ) (tb : Table) (lists : List ℕ) (it0 : Interpretation) (reasons0 : List (List ℕ)) (it : Interpretation) (reasons : List (List ℕ)) (rules_to atoms_to : ℕ) (changed : Bool) (quiet r : ℕ) → Type 0
RulesInv t tb lists it0 reasons0 it reasons rules_to atoms_to changed quiet r =
    (get_or lists 0 0 ≤ r) × (length reasons ≡ 256) × Kept (view it0) (view it)
    × (rule_pass (rules_at t lists r (get_or lists 1 0)) (work it reasons changed) ≡ rule_pass (taking t lists) (work it0 reasons0 false))
    × (rules_to ≤ get_or lists 1 0) × (quiet ≤ get_or lists 1 0) × QuietRules t lists it.values quiet r × QuietRules t lists it.values rules_to (get_or lists 1 0)
    × (atoms_to ≤ tb.atoms) × QuietAtoms t tb it.values atoms_to (suc tb.atoms)

abbrev pub AtomsInv : (t : List ℤ) (tb : Table) (lists : List ℕ) (it0 : Interpretation) (reasons0 : List (List ℕ)) (changed0 : Bool) (it : Interpretation) (reasons : List (List ℕ)) (rules_to atoms_to : ℕ) (changed : Bool) (last p : ℕ) → Type 0
AtomsInv t tb lists it0 reasons0 changed0 it reasons rules_to atoms_to changed last p =
    (1 ≤ p) × (p ≤ suc tb.atoms) × (length reasons ≡ 256) × Kept (view it0) (view it)
    × (atom_pass (program_of t tb) (suc tb.atoms - p) p (work it reasons changed) ≡ atom_pass (program_of t tb) tb.atoms 1 (work it0 reasons0 changed0))
    × (rules_to ≤ get_or lists 1 0) × QuietRules t lists it.values rules_to (get_or lists 1 0) × (atoms_to ≤ tb.atoms) × (last < p)
    × QuietAtoms t tb it.values last p × QuietAtoms t tb it.values atoms_to (suc tb.atoms)

-- what propagation hands over, from the turn's start on
abbrev pub Result : (t : List ℤ) (tb : Table) (lists : List ℕ) (it0 : Interpretation) (reasons0 : List (List ℕ)) (made : ℕ) (it : Interpretation) (reasons : List (List ℕ)) (why : List ℕ) (out : Outcome) → Type 0
Result t tb lists it0 reasons0 made it reasons why out = Handed (taking t lists) tb.atoms it0 reasons0 made it reasons why out

-- ---- the table and the lists; a turn's start; its pass at hand: the state from which it began; the state that its rules have come to

module _ (t : List ℤ) (tb : Table) (lists : List ℕ) (laid : Laid t tb) (listed : Listed t tb lists) (it0 : Interpretation) (reasons0 : List (List ℕ)) where
  pub passes_begin : length reasons0 ≡ 256 → PassesInv t tb lists it0 reasons0 it0 reasons0 1 (get_or lists 1 0) tb.atoms
  passes_begin long =
      let n = tb.atoms in
      let e = get_or lists 1 0 in
      let u = number_top n (missing (cells it0.values it0.records)) in
      (long, (refl, refl), (suc n, false, omega (arith, u), omega arith, refl, omega arith), omega arith, rules_out t lists it0.values e e (omega arith), omega arith, atoms_out t tb it0.values n (suc n) (omega arith))

  module _ (it1 : Interpretation) (reasons1 : List (List ℕ)) (made rules_to1 atoms_to1 : ℕ) (I : PassesInv t tb lists it0 reasons0 it1 reasons1 made rules_to1 atoms_to1) where
    pub rules_begin : RulesInv t tb lists it1 reasons1 it1 reasons1 rules_to1 atoms_to1 false (get_or lists 0 0) (get_or lists 0 0)
    rules_begin =
        let first = get_or lists 0 0 in
        (omega arith, I.0, (refl, refl), refl, I.3, listed.all.ordered, rules_out t lists it1.values first first (omega arith), I.4, I.5, I.6)

    module _ (it2 : Interpretation) (reasons2 : List (List ℕ)) (rules_to2 atoms_to2 : ℕ) (changed2 : Bool) (quiet r : ℕ) (J : RulesInv t tb lists it1 reasons1 it2 reasons2 rules_to2 atoms_to2 changed2 quiet r) where
      -- the working state from which the pass at hand began
      abbrev began : Work
      began = work it1 reasons1 I.2.1

      abbrev P : Program
      P = taking t lists

      -- x is what the pass at hand comes to: what is left of the passes is what all come to, and so is their number
      record Passed (x : Work) : Type 0 where
        same : pass (taking t lists) tb.atoms (work it1 reasons1 I.2.1) ≡ x
        goes : go_on (taking t lists) tb.atoms (I.2.0 - 1) x ≡ passes (taking t lists) tb.atoms (suc tb.atoms) (work it0 reasons0 false)
        counts : made + further x.verdict x.changed (passes_made (taking t lists) tb.atoms (I.2.0 - 1) x) ≡ passes_made (taking t lists) tb.atoms (suc tb.atoms) (work it0 reasons0 false)

      -- what the rules came to, y, and then the atoms, x: for these all rules of the table are as good
      rest : (y x : Work) → rule_pass (rules_at t lists r (get_or lists 1 0)) (work it2 reasons2 changed2) ≡ y → atom_pass (program_of t tb) tb.atoms 1 y ≡ x → Passed x
      rest y x e d =
          let n = tb.atoms in
          let f = sym (part_atoms t tb (list_at lists 0) listed.part n 1 y) ∙ d in
          let h = I.2.2 in
          let z : pass (taking t lists) n (work it1 reasons1 I.2.1) ≡ x = ap (atom_pass (taking t lists) n 1) (sym J.3 ∙ e) ∙ f in
          let m = made_on (taking t lists) n I.2.0 (work it1 reasons1 I.2.1) x (omega (arith, h)) z in
          let k = I.2.5 in
          record {
            same = z;
            goes = sym (passes_on (taking t lists) n I.2.0 (work it1 reasons1 I.2.1) x (omega (arith, h)) z) ∙ I.2.4;
            counts = omega (arith, m, k);
          }

      -- the level and the choices are the turn's first ones
      stays : Kept (view it0) (view it2)
      stays = kept_then (view it0) (view it1) (view it2) I.1 J.2

      -- a rule in conflict
      pub rule_conflict : r < rules_to2 → (why : List ℕ) → row why ≡ reasons_of (valued it2.values) (rows reasons2) (head_lits (rule_at t (get_or lists r 0)) ++ body_lits (rule_at t (get_or lists r 0)))
          → demand_of (valued it2.values) (rule_at t (get_or lists r 0)) ≡ step.Conflict → Result t tb lists it0 reasons0 made it2 reasons2 why Conflict
      rule_conflict h why w d =
          let e = get_or lists 1 0 in
          let u = work it2 reasons2 changed2 in
          let z = refuted (row why) u in
          let s : step_rule (rule_at t (get_or lists r 0)) u ≡ z = rule_refutes it2 reasons2 changed2 (rule_at t (get_or lists r 0)) why w d in
          let b = J.4 in
          let q : rule_pass (rules_at t lists r e) u ≡ z =
          rules_on t lists r e u (omega (arith, h, b)) listed.all.fits ∙ ap (rule_pass (rules_at t lists (r + 1) e)) s ∙ rules_conflict (rules_at t lists (r + 1) e) z (row why) refl in
          let y = rest z z q (atoms_conflict (program_of t tb) tb.atoms 1 z (row why) refl) in
          let k = y.counts in
          handed (taking t lists) tb.atoms it0 reasons0 made it2 reasons2 why Conflict changed2 stays y.goes (omega (arith, k))

      -- from where the rule loop stopped, the rules ask nothing; and the state that the atoms have come to
      module _ (left : rules_to2 ≤ r) (it3 : Interpretation) (reasons3 : List (List ℕ)) (rules_to3 atoms_to3 : ℕ) (changed3 : Bool) (last p : ℕ)
          (K : AtomsInv t tb lists it2 reasons2 changed2 it3 reasons3 rules_to3 atoms_to3 changed3 last p) where
        rested : rule_pass (rules_at t lists r (get_or lists 1 0)) (work it2 reasons2 changed2) ≡ work it2 reasons2 changed2
        rested =
            let e = get_or lists 1 0 in
            quiet_rules t lists it2 reasons2 changed2 J.1 e listed.all.fits r (rules_fewer t lists it2.values rules_to2 r e J.7 left)

        stays_on : Kept (view it0) (view it3)
        stays_on = kept_then (view it0) (view it2) (view it3) stays K.3

        -- an atom in conflict
        pub atom_conflict : p ≤ atoms_to3 → (why : List ℕ) → row why ≡ union (rows reasons3 p) (blame_of (valued it3.values) (rows reasons3) p (program_of t tb))
            → ask_of t tb (valued it3.values) p ≡ ask.Conflict → Result t tb lists it0 reasons0 made it3 reasons3 why Conflict
        atom_conflict h why w d =
            let n = tb.atoms in
            let u = work it3 reasons3 changed3 in
            let z = refuted (row why) u in
            let s : step_atom (program_of t tb) p u ≡ z = atom_refutes it3 reasons3 changed3 t tb p why w d in
            let b = K.7 in
            let e : atom_pass (program_of t tb) n 1 (work it2 reasons2 changed2) ≡ z =
            sym K.4 ∙ atoms_on (program_of t tb) n p u (omega (arith, h, b)) ∙ ap (atom_pass (program_of t tb) (suc n - (p + 1)) (p + 1)) s ∙ atoms_conflict (program_of t tb) (suc n - (p + 1)) (p + 1) z (row why) refl in
            let y = rest (work it2 reasons2 changed2) z rested e in
            let k = y.counts in
            handed (taking t lists) n it0 reasons0 made it3 reasons3 why Conflict changed3 stays_on y.goes (omega (arith, k))

        -- at the end of a pass
        module _ (over : atoms_to3 < p) where
          ended : (m : Bool) → changed3 ≡ m → Passed (work it3 reasons3 m)
          ended m e =
              rest (work it2 reasons2 changed2) (work it3 reasons3 m) rested
              (sym K.4 ∙ quiet_atoms t tb it3 reasons3 changed3 K.2 atoms_to3 p over K.10 ∙ ap (work it3 reasons3) e)

          -- a pass that changed nothing
          pub at_rest_lem : changed3 ≡ false → (why : List ℕ) → Result t tb lists it0 reasons0 made it3 reasons3 why Settled
          at_rest_lem e why =
              let y = ended false e in
              let k = y.counts in
              handed (taking t lists) tb.atoms it0 reasons0 made it3 reasons3 why Settled false stays_on y.goes (omega (arith, k))

          -- a pass that changed something has left fewer atoms undefined
          pub falls : changed3 ≡ true → number tb.atoms (missing (cells it3.values it3.records)) < number tb.atoms (missing (cells it1.values it1.records))
          falls e =
              let n = tb.atoms in
              let z = (ended true e).same in
              subst (λ (x : Work). number n (missing x.cell) < number n (missing (cells it1.values it1.records))) z
              (fewer n (taking t lists) (part_in t tb laid (list_at lists 0) listed.part.lie) (work it1 reasons1 I.2.1) (ap (λ (x : Work). x.changed) z))

          -- and goes on
          pub passes_go_on : changed3 ≡ true → PassesInv t tb lists it0 reasons0 it3 reasons3 (made + 1) rules_to3 last
          passes_go_on e =
              let n = tb.atoms in
              let z = ended true e in
              let k = falls e in
              let h = I.2.2 in
              let l = I.2.3 in
              let c = z.counts in
              let a = K.8 in
              let b = K.1 in
              (K.2, stays_on, (I.2.0 - 1, true, omega (arith, h, k), omega (arith, h, l), z.goes, omega (arith, c)), K.5, K.6, omega (arith, a, b), atoms_join t tb it3.values last p atoms_to3 (suc n) K.9 K.10 over)

          -- a pass more, so there are not more than N + 1
          pub few_passes : made + 1 ≤ 258
          few_passes = let h = I.2.2 in let l = I.2.3 in let f = laid.few_atoms in omega (arith, h, l, f)
