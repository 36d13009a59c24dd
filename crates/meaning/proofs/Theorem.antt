-- A model of a program without head cycle and without aggregate cycle is an answer set exactly if it is founded.
-- Assumes nothing.
use mathlib.Core.Logic.{◌↔◌}
use Prim.Native.Nat.{ℕ}
use Rattle.meaning.specs.Lists.{Is}
use Rattle.meaning.specs.Aggregates.{Atoms}
use Rattle.meaning.specs.Program.{Program, Below}
use Rattle.meaning.specs.Answers.{model, AnswerSet}
use Rattle.meaning.specs.Foundedness.{Founded}
use Rattle.meaning.specs.Dependency.{HeadCycle, AggregateCycle, Free}
use Rattle.meaning.proofs.Least.{founded→answer}
use Rattle.meaning.proofs.Unfounded.{answer→founded}

pub founded↔answer : (n : ℕ) (P : Program) → Below n P → Free HeadCycle P → Free AggregateCycle P → (X : Atoms) → Is (model P X) → Founded P X ↔ AnswerSet P X
founded↔answer n P low nh na X M = (λ F. founded→answer n P low na X M F, λ A. answer→founded n P low nh X A)
