-- How the rules of a table, a pass and the passes go on by one; and after a conflict nothing is done.
-- Assumes nothing.
use Prim.Native.Nat.{ℕ, zero, suc, ◌+◌, ◌-◌, ◌≤◌, ◌<◌}
use native.Mathlib.Omega.{arith}
use native.Mathlib.Numerals.{add-one}
use mathlib.Core.Path.{◌≡◌, refl, sym, ap, ◌∙◌, subst}
use mathlib.Core.Bool.{cond}
use mathlib.Core.List.{List, [], ◌∷◌, map}
use lib.IntN.{ℤ}
use lib.ListN.{length, get_or, take, drop, length-drop}
use lib.Seq.{length-take-le, drop-cons, get_or-take, get_or-drop}
use Rattle.meaning.specs.Program.{Rule, Program}
use Rattle.levels.specs.Levels.{Levels}
use Rattle.layout.specs.Layout.{rule_at, RuleLies, program_of}
use Rattle.layout.specs.declared.Table.{Table}
use Rattle.heads.specs.Heads.{list_at, Part, Listed}
use Rattle.support.proofs.Atom.{part_support}
use Rattle.steps.specs.Steps.{Verdict, conflict, Work, if_settled, step_abc, count_of, is_u, body_lits, head_lits, holds_now, step_rule, step_de, Support, support, step_atom, rule_pass, atom_pass, pass, passes, further, passes_made}

-- ---- rules

-- the rules whose places stand in the lists from index i on, before index e
abbrev pub rules_at : List ℤ → List ℕ → ℕ → ℕ → Program
rules_at t a i e = map (rule_at t) (take (e - i) (drop i a))

module _ (t : List ℤ) (a : List ℕ) (i e : ℕ) (w : Work) where
  taken : i < e → e ≤ length a → take (e - i) (drop i a) ≡ get_or a i 0 ∷ take (e - (i + 1)) (drop (i + 1) a)
  taken h l =
      let n : e - i ≡ suc (e - (i + 1)) = omega arith in
      let k : i < length a = omega arith in
      ap (λ (m : ℕ). take m (drop i a)) n ∙ ap (take (suc (e - (i + 1)))) (drop-cons a i 0 k ∙ ap (λ (j : ℕ). get_or a i 0 ∷ drop j a) (sym (add-one i)))

  pub rules_on : i < e → e ≤ length a → rule_pass (rules_at t a i e) w ≡ rule_pass (rules_at t a (i + 1) e) (step_rule (rule_at t (get_or a i 0)) w)
  rules_on h l = ap (λ (m : List ℕ). rule_pass (map (rule_at t) m) w) (taken h l)

  pub rules_none : e ≤ i → rule_pass (rules_at t a i e) w ≡ w
  rules_none h =
      let n : e - i ≡ 0 = omega arith in
      ap (λ (m : ℕ). rule_pass (map (rule_at t) (take m (drop i a))) w) n

-- a rule lies at each place of list 0
pub lies_at : (t : List ℤ) (tb : Table) (a : List ℕ) → Listed t tb a → (i : ℕ) → get_or a 0 0 ≤ i → i < get_or a 1 0 → RuleLies tb.atoms tb.aggregates t (get_or a i 0)
lies_at t tb a listed i l h =
    let f = get_or a 0 0 in
    let e = get_or a 1 0 in
    let m = length-drop f a in
    let n : length (take (e - f) (drop f a)) ≡ e - f = length-take-le (e - f) (drop f a) (omega (arith, m, listed.all.fits)) in
    let k : f + (i - f) ≡ i = omega (arith, l) in
    let q : get_or (list_at a 0) (i - f) 0 ≡ get_or a i 0 = get_or-take (e - f) (drop f a) (i - f) 0 (omega (arith, l, h)) ∙ get_or-drop f a (i - f) 0 ∙ ap (λ (j : ℕ). get_or a j 0) k in
    subst (RuleLies tb.atoms tb.aggregates t) q (listed.part.lie (i - f) (omega (arith, l, h, n)))

-- ---- atoms p .. n

module _ (P : Program) (n p : ℕ) (w : Work) where
  pub atoms_on : p ≤ n → atom_pass P (suc n - p) p w ≡ atom_pass P (suc n - (p + 1)) (p + 1) (step_atom P p w)
  atoms_on h =
      let e : suc n - p ≡ suc (suc n - (p + 1)) = omega arith in
      let f : suc p ≡ p + 1 = omega arith in
      ap (λ (k : ℕ). atom_pass P k p w) e ∙ ap (λ (q : ℕ). atom_pass P (suc n - (p + 1)) q (step_atom P p w)) f

  pub atoms_none : n < p → atom_pass P (suc n - p) p w ≡ w
  atoms_none h =
      let e : suc n - p ≡ 0 = omega arith in
      ap (λ (k : ℕ). atom_pass P k p w) e

-- steps d and e read the rules with an atom in the head alone: so a part that has these is as good as the table
module _ (t : List ℤ) (tb : Table) (l : List ℕ) (part : Part t tb l) where
  part_atom : (p : ℕ) (w : Work) → step_atom (program_of t tb) p w ≡ step_atom (map (rule_at t) l) p w
  part_atom p w = ap (λ (s : Support). if_settled w.verdict (step_de p (w.cell p) s w) w) (sym (part_support p w t tb l part))

  pub part_atoms : (m p : ℕ) (w : Work) → atom_pass (program_of t tb) m p w ≡ atom_pass (map (rule_at t) l) m p w
  part_atoms zero p w = refl
  part_atoms (suc m) p w = ap (atom_pass (program_of t tb) m (suc p)) (part_atom p w) ∙ part_atoms m (suc p) (step_atom (map (rule_at t) l) p w)

-- ---- after a conflict

rule_stays : (r : Rule) (w : Work) (C : Levels) → w.verdict ≡ conflict C → step_rule r w ≡ w
rule_stays r w C e =
    ap (λ (v : Verdict). if_settled v (cond (holds_now r w) w (step_abc (count_of (is_u w) (body_lits r)) (count_of (is_u w) (head_lits r)) r w)) w) e

pub rules_conflict : (P : Program) (w : Work) (C : Levels) → w.verdict ≡ conflict C → rule_pass P w ≡ w
rules_conflict [] w C e = refl
rules_conflict (r ∷ s) w C e = ap (rule_pass s) (rule_stays r w C e) ∙ rules_conflict s w C e

atom_stays : (P : Program) (p : ℕ) (w : Work) (C : Levels) → w.verdict ≡ conflict C → step_atom P p w ≡ w
atom_stays P p w C e = ap (λ (v : Verdict). if_settled v (step_de p (w.cell p) (support w p P) w) w) e

pub atoms_conflict : (P : Program) (m p : ℕ) (w : Work) (C : Levels) → w.verdict ≡ conflict C → atom_pass P m p w ≡ w
atoms_conflict P zero p w C e = refl
atoms_conflict P (suc m) p w C e = ap (atom_pass P m (suc p)) (atom_stays P p w C e) ∙ atoms_conflict P m (suc p) w C e

-- ---- passes

abbrev pub go_on : Program → ℕ → ℕ → Work → Work
go_on P n f x = if_settled x.verdict (cond x.changed (passes P n f x) x) x

-- with what the pass came to
pub passes_on : (P : Program) (n f : ℕ) (w x : Work) → 0 < f → pass P n w ≡ x → passes P n f w ≡ go_on P n (f - 1) x
passes_on P n f w x h d =
    let e : f ≡ suc (f - 1) = omega arith in
    ap (λ (k : ℕ). passes P n k w) e ∙ ap (go_on P n (f - 1)) d

-- and how many there are
pub made_on : (P : Program) (n f : ℕ) (w x : Work) → 0 < f → pass P n w ≡ x → passes_made P n f w ≡ suc (further x.verdict x.changed (passes_made P n (f - 1) x))
made_on P n f w x h d =
    let e : f ≡ suc (f - 1) = omega arith in
    ap (λ (k : ℕ). passes_made P n k w) e ∙ ap (λ (y : Work). suc (further y.verdict y.changed (passes_made P n (f - 1) y))) d
