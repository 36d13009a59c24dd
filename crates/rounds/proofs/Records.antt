-- The array of records: it is fixed by the rounds and rules that it holds, and where no atom has one, all records are 0 and 0. With the rounds and rules of an
-- answer set it has all that is promised (`answer_recorded`).
-- Assumes nothing.
use mathlib.Core.Path.{◌≡◌, refl, sym, ap, ap₂, subst, ◌∙◌, fun_ext}
use mathlib.Core.Logic.{◌⊎◌, inl, inr}
use mathlib.Core.List.{List, [], ◌∷◌, map}
use Prim.Native.Nat.{ℕ, zero, suc, ◌<◌, ◌≤◌}
use native.Mathlib.Omega.{arith}
use lib.ListN.{length, get_or, replicate, length-map, length-replicate, get_or-replicate, get_or-eq_default}
use Rattle.meaning.specs.Aggregates.{Atoms}
use Rattle.meaning.specs.Program.{Program, AtomsIn}
use Rattle.meaning.specs.Answers.{AnswerSet}
use Rattle.meaning.specs.Dependency.{HeadCycle, Free}
use Rattle.meaning.proofs.Cond.{lt_case}
use Rattle.rounds.specs.declared.Why.{Why}
use Rattle.rounds.specs.Rounds.{no_why, no_whys, why_of, Explains, Shown, whys_in, Recorded, Explained}
use Rattle.rounds.proofs.Rounds.{answer_explained}
use Rattle.rounds.specs.contracts.Why as R

-- an array of records has its length: what owning it tells is said of the mapped list
pub unmapped : (ws : List Why) (n : ℕ) → length (map (R.the_field).into ws) ≡ n → length ws ≡ n
unmapped ws n h = sym (length-map ws (R.the_field).into) ∙ h

same_list_lem : (a b : List Why) → length a ≡ length b → ((i : ℕ) → get_or a i no_why ≡ get_or b i no_why) → a ≡ b
same_list_lem [] [] n f = refl
same_list_lem [] (y ∷ b) n f = absurd (omega arith)
same_list_lem (x ∷ a) [] n f = absurd (omega arith)
same_list_lem (x ∷ a) (y ∷ b) n f = ap₂ (λ (v : Why) (l : List Why). v ∷ l) (f 0) (same_list_lem a b (omega arith) (λ i. f (suc i)))

pub whys_at : (ws : List Why) (i : ℕ) → whys_in ws (suc i) ≡ get_or ws i no_why
unfolding whys_in
whys_at ws i = refl

pub recorded_one : (a b : List Why) (w : ℕ → Why) → Recorded a w → Recorded b w → a ≡ b
recorded_one a b w x y =
    same_list_lem a b (x.number ∙ sym y.number) (λ i. sym (whys_at a i) ∙ ap (λ (v : ℕ → Why). v (suc i)) (x.each ∙ sym y.each) ∙ whys_at b i)

blank : (n i : ℕ) → get_or (replicate n no_why) i no_why ≡ no_why
blank n i = pick (lt_case i n)
  where
    pick : (i < n) ⊎ (n ≤ i) → get_or (replicate n no_why) i no_why ≡ no_why
    pick (inl h) = get_or-replicate n i no_why no_why h
    pick (inr h) = let e = length-replicate n no_why in get_or-eq_default (replicate n no_why) no_why (omega arith)

pub recorded_none : Recorded (replicate 256 no_why) no_whys
unfolding whys_in
recorded_none = record { number = length-replicate 256 no_why; each = fun_ext at }
  where
    at : (p : ℕ) → whys_in (replicate 256 no_why) p ≡ no_why
    at zero = refl
    at (suc i) = blank 256 i

pub answer_recorded : (n : ℕ) (P : Program) → AtomsIn n P → Free HeadCycle P → (X : Atoms) → AnswerSet P X → (ws : List Why) → Recorded ws (why_of P n X) → Explained P n X ws
answer_recorded n P inside free X A ws r =
    let t = answer_explained n P inside free X A in
    let e = sym r.each in
    record { defined = r; explains = subst (Explains P X) e t.0; shown = λ p h. subst (λ (w : ℕ → Why). Shown P n X w p) e (t.1 p h) }
