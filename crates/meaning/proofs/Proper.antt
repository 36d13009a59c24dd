-- "No proper subset is a model of the reduct" is the same as: a subset that is a model of the reduct is the whole. The second form is the one
-- that proofs use.
-- Assumes nothing.
use mathlib.Core.Logic.{◌⊎◌, inl, inr}
use mathlib.Core.Bool.{false}
use mathlib.Core.Path.{◌≡◌}
use Rattle.meaning.specs.Lists.{Is}
use Rattle.meaning.specs.Program.{Program}
use Rattle.meaning.specs.Aggregates.{Atoms}
use Rattle.meaning.specs.Answers.{model, reduct, ◌⊆◌, AnswerSet}
use Rattle.meaning.proofs.Tools.{clash, cases, contra}

pub answer_least : (P : Program) (X : Atoms) → AnswerSet P X → (Y : Atoms) → Y ⊆ X → Is (model (reduct P X) Y) → X ⊆ Y
answer_least P X A Y s m p t = at (cases (Y p))
  where
    at : Is (Y p) ⊎ (Y p ≡ false) → Is (Y p)
    at (inl h) = h
    at (inr f) = absurd (clash m (A.minimal Y (s, (p, t, f))))

pub answer_i : (P : Program) (X : Atoms) → Is (model P X) → ((Y : Atoms) → Y ⊆ X → Is (model (reduct P X) Y) → X ⊆ Y) → AnswerSet P X
answer_i P X M h = record { is_model = M; minimal = λ Y k. contra (model (reduct P X) Y) (λ m. h Y k.0 m k.1.0 k.1.1) k.1.2 }
