-- The candidates of a table: each stands for a rule that could add its atom, and each such rule has one.
--   Stems a t P c   the candidate c stands for a rule of P
--   Named t l r p   a candidate of l stands for the rule r and its atom p
-- Assumes nothing.
use Prim.Native.Nat.{ℕ, zero, suc, ◌+◌, ◌-◌, ◌*◌, ◌≤◌, ◌<◌}
use native.Mathlib.Omega.{arith}
use mathlib.Core.Path.{◌≡◌, refl, sym, ap, subst, ◌∙◌}
use mathlib.Core.Logic.{◌⊎◌, inl, inr}
use mathlib.Core.List.Memᴰ
use mathlib.Core.List.{List, [], ◌∷◌}
use lib.IntN.{ℤ}
use Rattle.meaning.specs.Lists.{◌∈◌}
use Rattle.meaning.specs.Program.{Rule, Program, In}
use Rattle.interpretation.specs.State.{Cell}
use Rattle.layout.specs.declared.Table.{Table}
use Rattle.layout.specs.Layout.{atoms, part_at, pos_at, past_rule, rule_at, rules_from, Listed, RuleLies, RulesLie, Laid}
use Rattle.layout.proofs.Rounds.{listed_wide}
use Rattle.std.specs.Prelude.{Option}
use Rattle.std.specs.Prelude.{None, Some}
use Rattle.foundation.specs.Walk.{could_of, code_of, atom_of, place_of, positives, with_candidate, candidates_from}
use Rattle.foundation.proofs.Adding.{not_atom}
use Rattle.foundation.proofs.Rules.{could_range}

-- ---- a candidate as one word

module _ (j p : ℕ) (i : In 256 p) where
  pub code_place : place_of (code_of j p) ≡ j
  unfolding code_of
  code_place = omega (arith, i.0, i.1)

  pub code_atom : atom_of (code_of j p) ≡ p
  unfolding code_of
  code_atom = omega (arith, i.0, i.1)

pub code_is : (j p : ℕ) → code_of j p ≡ j * 256 + (p - 1)
unfolding code_of
code_is j p = refl

-- ---- the candidates among the rules from i on

module _ (a : ℕ → Cell) (t : List ℤ) (i : ℕ) where
  candidates_suc : (n : ℕ) → candidates_from a t i (suc n) ≡ with_candidate (could_of a (rule_at t i)) (pos_at t i) (candidates_from a t (past_rule t i) n)
  unfolding candidates_from
  candidates_suc n = refl

  candidates_zero : candidates_from a t i 0 ≡ []
  unfolding candidates_from
  candidates_zero = refl

  -- those of n rules, once it is known what the first could add
  pub candidates_on : (n : ℕ) → 0 < n → (d : Option ℕ) → could_of a (rule_at t i) ≡ d → candidates_from a t i n ≡ with_candidate d (pos_at t i) (candidates_from a t (past_rule t i) (n - 1))
  candidates_on n h d f =
      let e : n ≡ suc (n - 1) = omega arith in
      ap (candidates_from a t i) e ∙ candidates_suc (n - 1) ∙ ap (λ (x : Option ℕ). with_candidate x (pos_at t i) (candidates_from a t (past_rule t i) (n - 1))) f

  pub candidates_none : (n : ℕ) → n ≤ 0 → candidates_from a t i n ≡ []
  candidates_none n h = let e : n ≡ 0 = omega arith in ap (candidates_from a t i) e ∙ candidates_zero

-- ---- what they stand for

pub record Stems (a : ℕ → Cell) (t : List ℤ) (P : Program) (c : ℕ) : Type 0 where
  pub rule : Rule
  pub inside : rule ∈ P
  pub could : could_of a rule ≡ Some (atom_of c)
  pub same : positives t c ≡ rule.pos
  pub lies : Listed 256 t (place_of c)

pub record Named (t : List ℤ) (l : List ℕ) (r : Rule) (p : ℕ) : Type 0 where
  pub code : ℕ
  pub inside : code ∈ l
  pub atom : atom_of code ≡ p
  pub same : positives t code ≡ r.pos

positive_at : (t : List ℤ) (i : ℕ) → (rule_at t i).pos ≡ atoms (part_at t (pos_at t i))
unfolding rule_at
positive_at t i = refl

module _ (a : ℕ → Cell) (t : List ℤ) (tb : Table) (laid : Laid t tb) where
  -- the candidate of the rule at i
  module _ (i : ℕ) (l : RuleLies tb.atoms tb.aggregates t i) (p : ℕ) (e : could_of a (rule_at t i) ≡ Some p) where
    abbrev range : In 256 p
    range = could_range t tb laid i l a p e

    same_here : positives t (code_of (pos_at t i) p) ≡ (rule_at t i).pos
    same_here = ap (λ (j : ℕ). atoms (part_at t j)) (code_place (pos_at t i) p range) ∙ sym (positive_at t i)

    lies_here : Listed 256 t (place_of (code_of (pos_at t i) p))
    lies_here = subst (Listed 256 t) (sym (code_place (pos_at t i) p range)) (listed_wide _ 256 t (pos_at t i) laid.few_atoms l.poss)

  later : (r : Rule) (P : Program) (c : ℕ) → Stems a t P c → Stems a t (r ∷ P) c
  later r P c s = record { rule = s.rule; inside = Memᴰ.tail s.inside; could = s.could; same = s.same; lies = s.lies }

  pub candidates_e : (i n : ℕ) → RulesLie tb.atoms tb.aggregates t i n → (c : ℕ) → c ∈ candidates_from a t i n → Stems a t (rules_from t i n) c
  unfolding candidates_from rules_from RulesLie
  candidates_e i zero h c m = absurd (Memᴰ.not-nil m)
  candidates_e i (suc n) h c m =
      at (could_of a (rule_at t i)) refl (λ k. later (rule_at t i) (rules_from t (past_rule t i) n) c (candidates_e (past_rule t i) n h.1 c k)) m
    where
      pick : (p : ℕ) → could_of a (rule_at t i) ≡ Some p → (c ∈ candidates_from a t (past_rule t i) n → Stems a t (rule_at t i ∷ rules_from t (past_rule t i) n) c)
          → (c ≡ code_of (pos_at t i) p) ⊎ (c ∈ candidates_from a t (past_rule t i) n)
          → Stems a t (rule_at t i ∷ rules_from t (past_rule t i) n) c
      pick p e rest (inl f) =
          let x = could_range t tb laid i h.0 a p e in
          record {
            rule = rule_at t i;
            inside = Memᴰ.head refl;
            could = e ∙ ap Some (sym (ap (λ (k : ℕ). atom_of k) f ∙ code_atom (pos_at t i) p x));
            same = ap (positives t) f ∙ same_here i h.0 p e;
            lies = subst (λ (k : ℕ). Listed 256 t (place_of k)) (sym f) (lies_here i h.0 p e);
          }
      pick p e rest (inr k) = rest k

      at : (d : Option ℕ) → could_of a (rule_at t i) ≡ d → (c ∈ candidates_from a t (past_rule t i) n → Stems a t (rule_at t i ∷ rules_from t (past_rule t i) n) c)
          → c ∈ with_candidate d (pos_at t i) (candidates_from a t (past_rule t i) n)
          → Stems a t (rule_at t i ∷ rules_from t (past_rule t i) n) c
      at None e rest k = rest k
      at (Some p) e rest k = pick p e rest (Memᴰ.cases_cons k)

  pub candidates_i : (i n : ℕ) → RulesLie tb.atoms tb.aggregates t i n → (r : Rule) → r ∈ rules_from t i n → (p : ℕ) → could_of a r ≡ Some p → Named t (candidates_from a t i n) r p
  unfolding candidates_from rules_from RulesLie
  candidates_i i zero h r m p e = absurd (Memᴰ.not-nil m)
  candidates_i i (suc n) h r m p e = at (Memᴰ.cases_cons m) (λ k. candidates_i (past_rule t i) n h.1 r k p e)
    where
      here : (d : Option ℕ) → could_of a (rule_at t i) ≡ d → d ≡ Some p → r ≡ rule_at t i → Named t (with_candidate d (pos_at t i) (candidates_from a t (past_rule t i) n)) r p
      here None f g k = absurd (not_atom g)
      here (Some q) f g k =
          record {
            code = code_of (pos_at t i) q;
            inside = Memᴰ.head refl;
            atom = code_atom (pos_at t i) q (could_range t tb laid i h.0 a q f) ∙ cc;
            same = same_here i h.0 q f ∙ sym (ap (λ (x : Rule). x.pos) k);
          }

      more : (d : Option ℕ) → Named t (candidates_from a t (past_rule t i) n) r p → Named t (with_candidate d (pos_at t i) (candidates_from a t (past_rule t i) n)) r p
      more None s = s
      more (Some q) s = record { code = s.code; inside = Memᴰ.tail s.inside; atom = s.atom; same = s.same }

      at : (r ≡ rule_at t i) ⊎ (r ∈ rules_from t (past_rule t i) n) → (r ∈ rules_from t (past_rule t i) n → Named t (candidates_from a t (past_rule t i) n) r p)
          → Named t (with_candidate (could_of a (rule_at t i)) (pos_at t i) (candidates_from a t (past_rule t i) n)) r p
      at (inl k) rest = here (could_of a (rule_at t i)) refl (ap (could_of a) (sym k) ∙ e) k
      at (inr k) rest = more (could_of a (rule_at t i)) (rest k)
