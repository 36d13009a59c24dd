-- The walk over the words of the rules is the defined walk over the rules, as long as only true atoms are marked; and so the rounds come out as defined.
--   walk_codes_lem    one round over the words of a table is one round of the definition
--   rounds_on     from the marks after k rounds to those after k + 1
--   quiet_ends    a round that adds nothing: the marks are those after all rounds
-- Assumes nothing.
use Prim.Native.Nat.{ℕ, zero, suc, ◌-◌, ◌≤◌, ◌<◌}
use native.Mathlib.Omega.{arith}
use mathlib.Core.Path.{◌≡◌, refl, sym, ap, ap₂, subst, ◌∙◌, fun_ext}
use mathlib.Core.Logic.{◌⊎◌, inl, inr, ◌≢◌}
use mathlib.Core.Bool.{Bool, true, false, cond, not, ◌&&◌}
use mathlib.Core.List.Memᴰ
use mathlib.Core.List.{List, [], ◌∷◌}
use lib.Dec.{eqb, ltb}
use lib.IntN.{ℤ}
use Rattle.meaning.specs.Cond.{if_eq}
use Rattle.meaning.specs.Lists.{Is, ◌∈◌, all}
use Rattle.meaning.specs.Aggregates.{Atoms}
use Rattle.meaning.specs.Program.{Rule, Program, RuleIn, In}
use Rattle.meaning.specs.Foundedness.{supports}
use Rattle.meaning.proofs.Tools.{cases, and_l, neq_i, contra, all_at}
use Rattle.meaning.proofs.Bounds.{lt}
use Rattle.meaning.proofs.Cond.{if_eq_yes, if_eq_no, eq_case}
use Rattle.meaning.proofs.Meaning.{supports_only}
use Rattle.interpretation.specs.State.{Cell, true_atoms, AllDefined}
use Rattle.layout.specs.declared.Table.{Table}
use Rattle.layout.specs.Layout.{atoms, part_at, pos_at, past_rule, rule_at, rules_from, program_of, Listed, RuleLies, RulesLie, Laid}
use Rattle.layout.proofs.Inside.{rule_in_lem}
use Rattle.layout.proofs.Rounds.{listed_wide}
use Rattle.std.specs.Prelude.{Option, None, Some}
use Rattle.foundation.specs.Walk.{could_of, code_of, atom_of, place_of, positives}
use Rattle.foundation.proofs.Adding.{not_atom, could_supports, supports_could}
use Rattle.foundation.proofs.Rules.{could_range}
use Rattle.foundation.proofs.Candidates.{code_place, code_atom, code_is}
use Rattle.rounds.specs.declared.Why.{Why}
use Rattle.rounds.specs.Rounds.{no_why}
use Rattle.rounds.specs.Marks.{earlier, marked, walk, marks_after}
use Rattle.rounds.proofs.Rounds.{why_of_false}
use Rattle.rounds.proofs.Marks.{marked_sole, marked_none, marks_are_whys, quiet_stays}
use Rattle.explaining.specs.Walk.{code_by, codes_from, FitCode, FitCodes, due, mark_by, walk_codes}

-- ---- the walk from a word on

module _ (t : List ℤ) (r i c : ℕ) (l : List ℕ) (w : ℕ → Why) where
  pub walk_on : (b : Bool) → due t r c w ≡ b → walk_codes t r i (c ∷ l) w ≡ walk_codes t r (suc i) l (mark_by b r i c w)
  unfolding walk_codes
  walk_on b e = ap (λ (x : Bool). walk_codes t r (suc i) l (mark_by x r i c w)) e

pub walk_nil : (t : List ℤ) (r i : ℕ) (w : ℕ → Why) → walk_codes t r i [] w ≡ w
unfolding walk_codes
walk_nil t r i w = refl

-- ---- the words of the rules from i on

module _ (a : ℕ → Cell) (t : List ℤ) (i : ℕ) where
  codes_suc : (n : ℕ) → codes_from a t i (suc n) ≡ code_by (could_of a (rule_at t i)) (pos_at t i) ∷ codes_from a t (past_rule t i) n
  unfolding codes_from
  codes_suc n = refl

  codes_zero : codes_from a t i 0 ≡ []
  unfolding codes_from
  codes_zero = refl

  pub codes_on : (n : ℕ) → 0 < n → codes_from a t i n ≡ code_by (could_of a (rule_at t i)) (pos_at t i) ∷ codes_from a t (past_rule t i) (n - 1)
  codes_on n h = let e : n ≡ suc (n - 1) = omega arith in ap (codes_from a t i) e ∙ codes_suc (n - 1)

  pub codes_none : (n : ℕ) → n ≤ 0 → codes_from a t i n ≡ []
  codes_none n h = let e : n ≡ 0 = omega arith in ap (codes_from a t i) e ∙ codes_zero

positive_at : (t : List ℤ) (i : ℕ) → (rule_at t i).pos ≡ atoms (part_at t (pos_at t i))
unfolding rule_at
positive_at t i = refl

module _ (t : List ℤ) (tb : Table) (laid : Laid t tb) (a : ℕ → Cell) where
  -- ---- the word of a rule that could add p

  module _ (i : ℕ) (lies : RuleLies tb.atoms tb.aggregates t i) (p : ℕ) (e : could_of a (rule_at t i) ≡ Some p) where
    abbrev range : In 256 p
    range = could_range t tb laid i lies a p e

    same_atom : atom_of (code_of (pos_at t i) p) ≡ p
    same_atom = code_atom (pos_at t i) p range

    same_place : place_of (code_of (pos_at t i) p) ≡ pos_at t i
    same_place = code_place (pos_at t i) p range

    same_positives : positives t (code_of (pos_at t i) p) ≡ (rule_at t i).pos
    same_positives = ap (λ (j : ℕ). atoms (part_at t j)) same_place ∙ sym (positive_at t i)

    -- it is not 0, since a list begins after its count
    not_zero : eqb (code_of (pos_at t i) p) 0 ≡ false
    not_zero = let c = code_is (pos_at t i) p in neq_i (code_of (pos_at t i) p) 0 (λ z. omega arith)

    fit_here : Listed 256 t (place_of (code_of (pos_at t i) p))
    fit_here = subst (Listed 256 t) (sym same_place) (listed_wide _ 256 t (pos_at t i) laid.few_atoms lies.poss)

  fit_one : (i : ℕ) → RuleLies tb.atoms tb.aggregates t i → (d : Option ℕ) → could_of a (rule_at t i) ≡ d → FitCode t (code_by d (pos_at t i))
  fit_one i l None e n = absurd (n refl)
  fit_one i l (Some p) e n = fit_here i l p e

  pub codes_fit : (i n : ℕ) → RulesLie tb.atoms tb.aggregates t i n → FitCodes t (codes_from a t i n)
  unfolding codes_from RulesLie
  codes_fit i zero h c m = absurd (Memᴰ.not-nil m)
  codes_fit i (suc n) h c m = at (Memᴰ.cases_cons m) (codes_fit (past_rule t i) n h.1 c)
    where
      at : (c ≡ code_by (could_of a (rule_at t i)) (pos_at t i)) ⊎ (c ∈ codes_from a t (past_rule t i) n) → (c ∈ codes_from a t (past_rule t i) n → FitCode t c) → FitCode t c
      at (inl e) f = subst (FitCode t) (sym e) (fit_one i h.0 (could_of a (rule_at t i)) refl)
      at (inr k) f = f k

  -- ---- one rule

  module _ (D : AllDefined tb.atoms a) where
    abbrev X : Atoms
    X = true_atoms tb.atoms a

    -- only true atoms are marked
    abbrev Sound : (ℕ → Why) → Type 0
    Sound w = (q : ℕ) → 1 ≤ (w q).round → Is (X q)

    module _ (i : ℕ) (lies : RuleLies tb.atoms tb.aggregates t i) (r k : ℕ) (w : ℕ → Why) where
      abbrev s : Rule
      s = rule_at t i

      abbrev fits : RuleIn tb.atoms s
      fits = rule_in_lem t tb laid i lies

      adds_none : could_of a s ≡ None → marked X r k s w ≡ w
      adds_none e = marked_none X r k s w (λ p. contra (supports X s p) {b = false} (λ h. absurd (not_atom (sym e ∙ supports_could tb.atoms a D s fits p h))) refl)

      module _ (S : Sound w) (p : ℕ) (e : could_of a s ≡ Some p) where
        abbrev c : ℕ
        c = code_of (pos_at t i) p

        -- its positive atoms are marked, so they are true, and it supports p
        ready : Is (all (earlier w r) s.pos) → Is (supports X s p)
        ready h = could_supports tb.atoms a D s fits p e (λ q m. S q (lt 0 (w q).round (and_l (ltb 0 (w q).round) _ (all_at (earlier w r) s.pos h m))))

        due_is : due t r c w ≡ (eqb (w p).round 0 && all (earlier w r) s.pos)
        due_is =
            ap (λ (b : Bool). not b && (eqb (w (atom_of c)).round 0 && all (earlier w r) (positives t c))) (not_zero i lies p e)
            ∙ ap₂ (λ (q : ℕ) (l : List ℕ). eqb (w q).round 0 && all (earlier w r) l) (same_atom i lies p e) (same_positives i lies p e)

        -- the mark of its atom, where it has no round yet or has one
        kept : (z : Bool) → eqb (w p).round 0 ≡ z → (λ (q : ℕ). if_eq q p (cond (z && true) (record { round = r; rule = k }) (w p)) (w q)) ≡ mark_by (z && true) r k c w
        kept true g = ap (λ (x : ℕ). λ (q : ℕ). if_eq q x (record { round = r; rule = k }) (w q)) (sym (same_atom i lies p e))
        kept false g = fun_ext (λ q. at q (eq_case q p))
          where
            at : (q : ℕ) → (q ≡ p) ⊎ (q ≢ p) → if_eq q p (w p) (w q) ≡ w q
            at q (inl x) = if_eq_yes q p (w p) (w q) x ∙ ap w (sym x)
            at q (inr x) = if_eq_no q p (w p) (w q) x

        both_and : (x : Bool) → (x && false) ≡ false
        both_and true = refl
        both_and false = refl

        adds_atom : (b : Bool) → all (earlier w r) s.pos ≡ b → marked X r k s w ≡ mark_by (due t r c w) r k c w
        adds_atom true h =
            marked_sole X r k s w p (ready h)
            ∙ ap (λ (b : Bool). λ (q : ℕ). if_eq q p (cond (eqb (w p).round 0 && b) (record { round = r; rule = k }) (w p)) (w q)) h
            ∙ kept (eqb (w p).round 0) refl
            ∙ ap (λ (b : Bool). mark_by b r k c w) (sym (due_is ∙ ap (λ (b : Bool). eqb (w p).round 0 && b) h))
        adds_atom false h =
            fun_ext (λ q. ap (λ (b : Bool). cond (eqb (w q).round 0 && (supports X s q && b)) (record { round = r; rule = k }) (w q)) h
            ∙ ap (λ (b : Bool). cond (eqb (w q).round 0 && b) (record { round = r; rule = k }) (w q)) (both_and (supports X s q))
            ∙ ap (λ (b : Bool). cond b (record { round = r; rule = k }) (w q)) (both_and (eqb (w q).round 0)))
            ∙ ap (λ (b : Bool). mark_by b r k c w) (sym (due_is ∙ ap (λ (b : Bool). eqb (w p).round 0 && b) h ∙ both_and (eqb (w p).round 0)))

      -- the word of a rule does what the rule does
      one_rule : Sound w → (d : Option ℕ) → could_of a s ≡ d → mark_by (due t r (code_by d (pos_at t i)) w) r k (code_by d (pos_at t i)) w ≡ marked X r k s w
      one_rule S None e = sym (adds_none e)
      one_rule S (Some p) e = sym (adds_atom S p e (all (earlier w r) s.pos) refl)

    marked_sound : (r k : ℕ) (s : Rule) (w : ℕ → Why) → Sound w → Sound (marked X r k s w)
    marked_sound r k s w S q = at (supports X s q && all (earlier w r) s.pos) refl (eqb (w q).round 0)
      where
        at : (b : Bool) → (supports X s q && all (earlier w r) s.pos) ≡ b → (z : Bool) → 1 ≤ (cond (z && b) (record { round = r; rule = k }) (w q)).round → Is (X q)
        at true e true l = (supports_only X s q (and_l (supports X s q) _ e)).is_true
        at true e false l = S q l
        at false e true l = S q l
        at false e false l = S q l

    pub walk_codes_lem : (r k i n : ℕ) → RulesLie tb.atoms tb.aggregates t i n → (w : ℕ → Why) → Sound w → walk_codes t r k (codes_from a t i n) w ≡ walk X r k (rules_from t i n) w
    unfolding walk_codes codes_from walk rules_from RulesLie
    walk_codes_lem r k i zero h w S = refl
    walk_codes_lem r k i (suc n) h w S =
        ap (walk_codes t r (suc k) (codes_from a t (past_rule t i) n)) (one_rule i h.0 r k w S (could_of a (rule_at t i)) refl)
        ∙ walk_codes_lem r (suc k) (past_rule t i) n h.1 (marked X r k (rule_at t i) w) (marked_sound r k (rule_at t i) w S)

    -- ---- rounds

    abbrev P : Program
    P = program_of t tb

    after_sound : (k : ℕ) → Sound (marks_after P X k)
    after_sound k q l = at (cases (X q))
      where
        at : Is (X q) ⊎ (X q ≡ false) → Is (X q)
        at (inl h) = h
        at (inr h) = absurd (let e : (marks_after P X k q).round ≡ 0 = ap (λ (w : ℕ → Why). (w q).round) (marks_are_whys P X k) ∙ ap (λ (v : Why). v.round) (why_of_false P X k q h) in omega arith)

    after_suc : (k : ℕ) → marks_after P X (suc k) ≡ walk X (suc k) 1 P (marks_after P X k)
    unfolding marks_after
    after_suc k = refl

    pub rounds_on : (k : ℕ) (w : ℕ → Why) → w ≡ marks_after P X k → walk_codes t (suc k) 1 (codes_from a t tb.first tb.rules) w ≡ marks_after P X (suc k)
    rounds_on k w e =
        ap (walk_codes t (suc k) 1 (codes_from a t tb.first tb.rules)) e
        ∙ walk_codes_lem (suc k) 1 tb.first tb.rules laid.rules_lie (marks_after P X k) (after_sound k)
        ∙ sym (after_suc k)

    pub quiet_ends : (k n : ℕ) → k ≤ n → marks_after P X (suc k) ≡ marks_after P X k → marks_after P X (suc k) ≡ marks_after P X n
    quiet_ends k n l e = e ∙ sym (quiet_stays P X k e (n - k)) ∙ ap (marks_after P X) (omega arith)

pub after_none : (P : Program) (X : Atoms) → marks_after P X 0 ≡ (λ (p : ℕ). no_why)
unfolding marks_after
after_none P X = refl
