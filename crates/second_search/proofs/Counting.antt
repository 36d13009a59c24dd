-- The test with a limit: the present state of the defined search, as far as the code keeps it. Assumes nothing.
use Prim.Native.Nat.{ℕ}
use mathlib.Core.Path.{◌≡◌}
use Rattle.interpretation.specs.State.{Interpretation}
use Rattle.search.specs.Search.{Problem, State, Outcome, plain}
use Rattle.search.specs.Search as theory
use Rattle.search.proofs.Loop.{Ends}

pub record Stands (P : Problem) (lim : ℕ) (s : Interpretation) (k : ℕ) : Type 0 where
  pub state : State
  pub same : state.interpretation ≡ s
  pub count : state.choices ≡ k
  pub ends : (o : Outcome) → Ends P plain lim state o → Ends P plain lim (theory.start P) o
