-- What a part of the table's rules tells as all of them do. A rule without atoms in the head, a constraint, adds no atom: so the foundedness test says the same of
-- every part that has all rules with heads.
--   whole_rules    all rules of the table are its program
--   part_in        the atoms of a part lie in 1 .. N
--   part_founded   a part's foundedness test is the table's
-- Assumes nothing.
use mathlib.Core.Path.{◌≡◌, refl, sym, ap, ◌∙◌, fun_ext, subst}
use mathlib.Core.Logic.{◌⊎◌, inl, inr}
use mathlib.Core.Bool.{Bool, true, false, cond, not, ◌&&◌, ◌||◌}
use mathlib.Core.List.Memᴰ
use mathlib.Core.List.{List, [], ◌∷◌, map}
use Prim.Native.Nat.{ℕ, zero, suc}
use lib.IntN.{ℤ}
use Rattle.meaning.specs.Lists.{Is, ◌∈◌, all, any, keep, has}
use Rattle.meaning.specs.Aggregates.{Atoms}
use Rattle.meaning.specs.Program.{Rule, Program, RuleIn, AtomsIn}
use Rattle.meaning.specs.Foundedness.{supports, atoms_to, added, next_round, same_list, rounds_from, founded}
use Rattle.meaning.proofs.Tools.{clash, and_l, has_i}
use Rattle.meaning.proofs.Meaning.{supports_only}
use Rattle.layout.specs.Layout.{rule_at, program_of, Laid}
use Rattle.layout.specs.declared.Table.{Table}
use Rattle.layout.proofs.Inside.{rule_in_lem}
use Rattle.heads.specs.Heads.{places_of, with_head, AllLie, Part, taking, Whole}
use Rattle.heads.proofs.Laws.{lie_head, lie_tail, rules_at_lem}

pub whole_rules : (t : List ℤ) (tb : Table) (a : List ℕ) → Whole t tb a → taking t a ≡ program_of t tb
whole_rules t tb a w = ap (map (rule_at t)) w.whole ∙ rules_at_lem t tb.first tb.rules

pub part_in : (t : List ℤ) (tb : Table) → Laid t tb → (l : List ℕ) → AllLie tb t l → AtomsIn tb.atoms (map (rule_at t) l)
part_in t tb laid [] f r m = absurd (Memᴰ.not-nil m)
part_in t tb laid (i ∷ l) f r m = at (Memᴰ.cases_cons m) (λ h. part_in t tb laid l (lie_tail tb t i l f) r h)
  where
    at : (r ≡ rule_at t i) ⊎ (r ∈ map (rule_at t) l) → (r ∈ map (rule_at t) l → RuleIn tb.atoms r) → RuleIn tb.atoms r
    at (inl e) g = subst (RuleIn tb.atoms) (sym e) (rule_in_lem t tb laid i (lie_head tb t i l f))
    at (inr h) g = g h

-- ---- a test that only rules with p in the head pass

any_with : (t : List ℤ) (p : ℕ) (f : Rule → Bool) → ((r : Rule) → Is (f r) → Is (has p r.head)) → (l : List ℕ) → any f (map (rule_at t) (with_head t p l)) ≡ any f (map (rule_at t) l)
unfolding with_head
any_with t p f only [] = refl
any_with t p f only (i ∷ l) = at (has p (rule_at t i).head) (f (rule_at t i)) refl refl (any_with t p f only l)
  where
    at : (b c : Bool) → has p (rule_at t i).head ≡ b → f (rule_at t i) ≡ c → any f (map (rule_at t) (with_head t p l)) ≡ any f (map (rule_at t) l)
        → any f (map (rule_at t) (cond b (i ∷ with_head t p l) (with_head t p l))) ≡ f (rule_at t i) || any f (map (rule_at t) l)
    at true c e g h = ap (λ (x : Bool). f (rule_at t i) || x) h
    at false true e g h = absurd (clash (only (rule_at t i) g) e)
    at false false e g h = h ∙ sym (ap (λ (x : Bool). x || any f (map (rule_at t) l)) g)

-- ---- foundedness

adds_head : (X : Atoms) (F : List ℕ) (p : ℕ) (r : Rule) → Is (supports X r p && all (λ b. has b F) r.pos) → Is (has p r.head)
adds_head X F p r h = has_i (supports_only X r p (and_l (supports X r p) (all (λ b. has b F) r.pos) h)).in_head

rounds_same : (P Q : Program) (n : ℕ) (X : Atoms) → ((F : List ℕ) → added P X F ≡ added Q X F) → (k : ℕ) (F : List ℕ) → rounds_from P n X k F ≡ rounds_from Q n X k F
rounds_same P Q n X h zero F = refl
rounds_same P Q n X h (suc k) F =
    ap (λ (g : ℕ → Bool). cond (same_list F (keep g (atoms_to n))) F (rounds_from P n X k (keep g (atoms_to n)))) (h F)
    ∙ ap (λ (H : List ℕ). cond (same_list F (next_round Q n X F)) F H) (rounds_same P Q n X h k (next_round Q n X F))

module _ (t : List ℤ) (tb : Table) (l : List ℕ) (part : Part t tb l) (X : Atoms) where
  added_same : (F : List ℕ) → added (map (rule_at t) l) X F ≡ added (program_of t tb) X F
  added_same F = fun_ext at
    where
      at : (p : ℕ) → added (map (rule_at t) l) X F p ≡ added (program_of t tb) X F p
      at p =
          let f : Rule → Bool = λ r. supports X r p && all (λ b. has b F) r.pos in
          ap (λ (x : Bool). has p F || x)
          (sym (any_with t p f (adds_head X F p) l) ∙ ap (λ (m : List ℕ). any f (map (rule_at t) m)) (part.heads p) ∙ any_with t p f (adds_head X F p) (places_of t tb)
          ∙ ap (any f) (rules_at_lem t tb.first tb.rules))

  pub part_founded : (n : ℕ) → founded (map (rule_at t) l) n X ≡ founded (program_of t tb) n X
  unfolding founded
  part_founded n = ap (λ (F : List ℕ). all (λ p. not (X p) || has p F) (atoms_to n)) (rounds_same (map (rule_at t) l) (program_of t tb) n X added_same (suc (suc n)) [])
