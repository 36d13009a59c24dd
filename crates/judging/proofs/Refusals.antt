-- In each mode a table is refused with one number and place, or accepted with one contents, and never both. Assumes nothing.
use mathlib.Core.Path.{◌≡◌, refl, sym, ◌∙◌, ap, subst}
use mathlib.Core.Logic.{◌⊎◌, inl, inr}
use mathlib.Core.Bool.{Bool, false}
use mathlib.Core.Option.{Option, none, some}
use mathlib.Core.List.Memᴰ
use mathlib.Core.List.{List, [], ◌∷◌}
use Prim.Native.Nat.{ℕ, zero, suc, ◌-◌, ◌≤◌, ◌<◌}
use native.Mathlib.Omega.{arith}
use lib.IntN.{ℤ}
use lib.ListN.{length, get_or}
use Rattle.meaning.specs.Lists.{◌∈◌}
use Rattle.meaning.specs.Program.{Rule, Program}
use Rattle.meaning.specs.Dependency.{HeadCycle, AggregateCycle, Free}
use Rattle.meaning.proofs.Cond.{lt_case, some_inj}
use Rattle.results.specs.declared.Refusal.{Refusal}
use Rattle.results.specs.Results.{number_of, place_of}
use Rattle.table.specs.Contents.{Contents, program}
use Rattle.table.specs.Grammar as grammar
use Rattle.depend.specs.Cycles.{HeadCycleBy, Lowest, rule_of, no_rule}
use Rattle.judging.specs.declared.Buffer.{Buffer}
use Rattle.judging.specs.Refusals.{AcceptedBy, RefusedBy, words, buffer, table, head, aggregate}

-- ---- the definition of the words' contents says one thing

pub same_contents : {x : grammar.Outcome} {c d : Contents} → x ≡ grammar.accepted c → x ≡ grammar.accepted d → c ≡ d
same_contents e f = cc

same_refusal : {x : grammar.Outcome} {f g : Refusal} → x ≡ grammar.refused_for f → x ≡ grammar.refused_for g → f ≡ g
same_refusal e f = cc

not_both : {x : grammar.Outcome} {c : Contents} {f : Refusal} → x ≡ grammar.accepted c → x ≡ grammar.refused_for f → ⊥
not_both e f = let z : ◌≡◌ {A = ℕ} 0 1 = cc in omega arith

-- a buffer is good or bad
good_bad : {x : Option ℕ} {n : ℕ} → x ≡ none → x ≡ some n → ⊥
good_bad e f = let z : ◌≡◌ {A = ℕ} 0 1 = cc in omega arith

-- ---- the lowest rule is one, and it is a rule of the program

pub lowest_unique : (Test : Rule → Type 0) (P : Program) (k j : ℕ) → Lowest Test P k → Lowest Test P j → k ≡ j
lowest_unique Test P k j a b = at (lt_case k j) (lt_case j k)
  where
    at : (k < j) ⊎ (j ≤ k) → (j < k) ⊎ (k ≤ j) → k ≡ j
    at (inl h) y = absurd (b.before k a.from h a.here)
    at (inr h) (inl l) = absurd (a.before j b.from l b.here)
    at (inr h) (inr l) = omega arith

rule_in_lem : (P : Program) (k : ℕ) → k < length P → get_or P k no_rule ∈ P
rule_in_lem [] k h = absurd (omega arith)
rule_in_lem (r ∷ P) zero h = Memᴰ.head refl
rule_in_lem (r ∷ P) (suc k) h = Memᴰ.tail (rule_in_lem P k (omega arith))

-- a program that has a lowest rule with a cycle is not free of it
pub lowest_not_free : (Cycle : Program → Rule → Type 0) (P : Program) (k : ℕ) → Lowest (Cycle P) P k → Free Cycle P → ⊥
lowest_not_free Cycle P k l free = let a = l.from in let b = l.upto in free (rule_of P k) (rule_in_lem P (k - 1) (omega arith)) l.here

module _ (t : List ℤ) (b : Buffer) where
  -- in 01's mode what is accepted has no head cycle
  pub heads_free : {cycles : Bool} (c : Contents) → AcceptedBy cycles t b c → cycles ≡ false → Free HeadCycle (program c)
  heads_free c a e = subst (λ (m : Bool). Free (HeadCycleBy m) (program c)) e a.no_head

  pub accepted_unique : {cycles : Bool} (c d : Contents) → AcceptedBy cycles t b c → AcceptedBy cycles t b d → c ≡ d
  accepted_unique c d a h = same_contents a.holds h.holds

  pub refused_not_accepted : {cycles : Bool} (n i : ℕ) (c : Contents) → RefusedBy cycles t b n i → AcceptedBy cycles t b c → ⊥
  refused_not_accepted n i c (words l e p) a = let h = a.words in omega arith
  refused_not_accepted n i c (buffer s e p) a = good_bad a.buffer e
  refused_not_accepted n i c (table s g f e u p) a = not_both a.holds e
  refused_not_accepted {cycles} n i c (head s g d e l u) a =
      lowest_not_free (HeadCycleBy cycles) (program c) i (subst (λ (x : Contents). Lowest (HeadCycleBy cycles (program x)) (program x) i) (same_contents e a.holds) l) a.no_head
  refused_not_accepted n i c (aggregate s g d e f l u) a =
      lowest_not_free AggregateCycle (program c) i (subst (λ (x : Contents). Lowest (AggregateCycle (program x)) (program x) i) (same_contents e a.holds) l) a.no_aggregate

  module _ (n i m j : ℕ) where
    abbrev Same : Type 0
    Same = (n ≡ m) × (i ≡ j)

    -- ---- each row against the others

    few_many : length t ≤ 16384 → 16384 < length t → Same
    few_many s l = absurd (omega arith)

    heads : (cycles : Bool) (c d : Contents) → grammar.contents_of t ≡ grammar.accepted c → grammar.contents_of t ≡ grammar.accepted d
        → Lowest (HeadCycleBy cycles (program c)) (program c) i → Lowest (HeadCycleBy cycles (program d)) (program d) j → i ≡ j
    heads cycles c d e f l k = lowest_unique (HeadCycleBy cycles (program c)) (program c) i j l (subst (λ (x : Contents). Lowest (HeadCycleBy cycles (program x)) (program x) j) (same_contents f e) k)

    aggregates : (c d : Contents) → grammar.contents_of t ≡ grammar.accepted c → grammar.contents_of t ≡ grammar.accepted d
        → Lowest (AggregateCycle (program c)) (program c) i → Lowest (AggregateCycle (program d)) (program d) j → i ≡ j
    aggregates c d e f l k = lowest_unique (AggregateCycle (program c)) (program c) i j l (subst (λ (x : Contents). Lowest (AggregateCycle (program x)) (program x) j) (same_contents f e) k)

    free_head : (cycles : Bool) (c d : Contents) → grammar.contents_of t ≡ grammar.accepted c → grammar.contents_of t ≡ grammar.accepted d → (k : ℕ)
        → Lowest (HeadCycleBy cycles (program c)) (program c) k → Free (HeadCycleBy cycles) (program d) → Same
    free_head cycles c d e f k l h = absurd (lowest_not_free (HeadCycleBy cycles) (program c) k l (subst (λ (x : Contents). Free (HeadCycleBy cycles) (program x)) (same_contents f e) h))

    pub refused_unique : {cycles : Bool} → RefusedBy cycles t b n i → RefusedBy cycles t b m j → (n ≡ m) × (i ≡ j)
    refused_unique (words l e p) (words l' e' p') = (e ∙ sym e', p ∙ sym p')
    refused_unique (words l e p) (buffer s' e' p') = few_many s' l
    refused_unique (words l e p) (table s' g' f' h' e' p') = few_many s' l
    refused_unique (words l e p) (head s' g' c' h' k' e') = few_many s' l
    refused_unique (words l e p) (aggregate s' g' c' h' n' k' e') = few_many s' l
    refused_unique (buffer s e p) (words l' e' p') = few_many s l'
    refused_unique (buffer s e p) (buffer s' e' p') = (some_inj (sym e ∙ e'), p ∙ sym p')
    refused_unique (buffer s e p) (table s' g' f' h' e' p') = absurd (good_bad g' e)
    refused_unique (buffer s e p) (head s' g' c' h' k' e') = absurd (good_bad g' e)
    refused_unique (buffer s e p) (aggregate s' g' c' h' n' k' e') = absurd (good_bad g' e)
    refused_unique (table s g f h e p) (words l' e' p') = few_many s l'
    refused_unique (table s g f h e p) (buffer s' e' p') = absurd (good_bad g e')
    refused_unique (table s g f h e p) (table s' g' f' h' e' p') = let q = same_refusal h h' in (e ∙ ap number_of q ∙ sym e', p ∙ ap place_of q ∙ sym p')
    refused_unique (table s g f h e p) (head s' g' c' h' k' e') = absurd (not_both h' h)
    refused_unique (table s g f h e p) (aggregate s' g' c' h' n' k' e') = absurd (not_both h' h)
    refused_unique (head s g c h k e) (words l' e' p') = few_many s l'
    refused_unique (head s g c h k e) (buffer s' e' p') = absurd (good_bad g e')
    refused_unique (head s g c h k e) (table s' g' f' h' e' p') = absurd (not_both h h')
    refused_unique {cycles} (head s g c h k e) (head s' g' c' h' k' e') = (e ∙ sym e', heads cycles c c' h h' k k')
    refused_unique {cycles} (head s g c h k e) (aggregate s' g' c' h' n' k' e') = free_head cycles c c' h h' i k n'
    refused_unique (aggregate s g c h f k e) (words l' e' p') = few_many s l'
    refused_unique (aggregate s g c h f k e) (buffer s' e' p') = absurd (good_bad g e')
    refused_unique (aggregate s g c h f k e) (table s' g' f' h' e' p') = absurd (not_both h h')
    refused_unique {cycles} (aggregate s g c h f k e) (head s' g' c' h' k' e') = free_head cycles c' c h' h j k' f
    refused_unique (aggregate s g c h f k e) (aggregate s' g' c' h' f' k' e') = (e ∙ sym e', aggregates c c' h h' k k')
