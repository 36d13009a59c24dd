-- Each promise has one answer only. Assumes nothing.
--   searching_unique   demand 3 fixes the result and the later buffer
--   meaning_unique     demand 2 alone fixes the kind of the result and the plan, short of the limit
use mathlib.Core.Path.{◌≡◌, refl, sym, ◌∙◌, ap}
use mathlib.Core.Logic.{◌≢◌}
use mathlib.Core.List.{List}
use Rattle.std.specs.Prelude.{Result, Ok, Err}
use Prim.Native.Nat.{ℕ}
use Rattle.meaning.specs.Aggregates.{Atoms}
use Rattle.meaning.proofs.Cond.{some_inj}
use Rattle.meaning.proofs.Order.{first_unique}
use Rattle.results.specs.declared.Refusal.{Refusal}
use Rattle.results.specs.declared.Counts.{Counts}
use Rattle.results.specs.declared.Solved.{Solved}
use Rattle.results.specs.declared.Solved.TheVariants as solved
use Rattle.results.specs.Results.{number_of, place_of, kind_of}
use Rattle.search.specs.Search.{Problem, Outcome}
use Rattle.promises.specs.Plans.{plan_with}
use Rattle.promises.specs.Promises.{FirstWritten, Meaning, reported, plan_after, Searching}

pub searching_unique : (AS : Atoms → Type 0) (P : Problem) (lim : ℕ) (old new new' : List ℕ) (r r' : Result Solved Refusal) (o o' : Outcome)
    → Searching AS P r o lim old new → Searching AS P r' o' lim old new' → (r ≡ r') × (new ≡ new')
searching_unique AS P lim old new new' r r' o o' a b =
    let e : o ≡ o' = some_inj (sym a.jumping ∙ b.jumping) in
    (a.result ∙ ap (λ (x : Outcome). Ok (reported x)) e ∙ sym b.result, a.plan ∙ ap (λ (x : Outcome). plan_after P.atoms x.result old) e ∙ sym b.plan)

module _ (n : ℕ) (AS : Atoms → Type 0) (old : List ℕ) where
  pub written_unique : (new new' : List ℕ) → FirstWritten n AS old new → FirstWritten n AS old new' → new ≡ new'
  written_unique new new' a b =
      a.written ∙ ap (λ (X : Atoms). plan_with n X old) (first_unique n AS a.atoms b.atoms a.is_answer a.first b.is_answer b.first) ∙ sym b.written

  module _ (lim : ℕ) (new new' : List ℕ) where
    -- where one says none, the other does not answer
    none_against : (r r' : Result Solved Refusal) → Meaning n AS lim old new r → Meaning n AS lim old new' r' → (k k' : Counts) → r ≡ Ok (solved.Answer k) → r' ≡ Ok (solved.Nothing k') → ⊥
    none_against r r' a b k k' e i = let x = a.answers k e in (b.none k' i).0 x.atoms x.is_answer

    none_other : (r r' : Result Solved Refusal) → Meaning n AS lim old new r → Meaning n AS lim old new' r' → (k k' : Counts) → r ≡ Ok (solved.Nothing k) → r' ≡ Ok (solved.Answer k') → ⊥
    none_other r r' a b k k' e i = let x = b.answers k' i in (a.none k e).0 x.atoms x.is_answer

    pub meaning_unique : (r r' : Result Solved Refusal) → Meaning n AS lim old new r → Meaning n AS lim old new' r' → ((k : Counts) → r ≢ Ok (solved.Limit k)) → ((k : Counts) → r' ≢ Ok (solved.Limit k))
        → (kind_of r ≡ kind_of r') × (new ≡ new')
    meaning_unique (Ok (solved.Answer k)) (Ok (solved.Answer k')) a b u v = (refl, written_unique new new' (a.answers k refl) (b.answers k' refl))
    meaning_unique (Ok (solved.Answer k)) (Ok (solved.Nothing k')) a b u v = absurd (none_against _ _ a b k k' refl refl)
    meaning_unique (Ok (solved.Nothing k)) (Ok (solved.Answer k')) a b u v = absurd (none_other _ _ a b k k' refl refl)
    meaning_unique (Ok (solved.Nothing k)) (Ok (solved.Nothing k')) a b u v = (refl, (a.none k refl).1 ∙ sym (b.none k' refl).1)
    meaning_unique (Ok (solved.Limit k)) r' a b u v = absurd (u k refl)
    meaning_unique (Ok (solved.Answer k)) (Ok (solved.Limit k')) a b u v = absurd (v k' refl)
    meaning_unique (Ok (solved.Nothing k)) (Ok (solved.Limit k')) a b u v = absurd (v k' refl)
    meaning_unique (Err f) r' a b u v = absurd (a.taken (number_of f) (place_of f) refl)
    meaning_unique (Ok (solved.Answer k)) (Err f) a b u v = absurd (b.taken (number_of f) (place_of f) refl)
    meaning_unique (Ok (solved.Nothing k)) (Err f) a b u v = absurd (b.taken (number_of f) (place_of f) refl)
