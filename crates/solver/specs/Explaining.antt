-- What `solve` promises of rounds and rules (02, request 1: "With an answer, each true atom comes with a round and a rule .. false atoms, and other results, have 0
-- in both"; request 14: "Rounds of Wish 1 are 0 in this mode"). Definitions only: to be believed.
--   Explaining      in 01's mode: of an accepted table's answer the records explain the plan as it is written; with every other result all records are 0
--   ExplainingBy m  in the mode m: where the call takes head cycles all records are 0
-- What a round and a rule are, and the statement wanted of each rule shown, is `Explained` of crate `rounds`.
-- Assumes nothing.
use Rattle.std.specs.Prelude.{◌≡◌, ◌≢◌, Bool, true, false, List, ℕ, ℤ, Result}
use Rattle.results.specs.declared.Refusal.{Refusal}
use Rattle.results.specs.declared.Solved.{Solved}
use Rattle.results.specs.Results.{kind_of}
use Rattle.rounds.specs.declared.Why.{Why}
use Rattle.rounds.specs.Rounds.{no_whys, Recorded, Explained}
use Rattle.table.specs.Contents.{Contents, program}
use Rattle.judging.specs.declared.Buffer.{Buffer}
use Rattle.judging.specs.Refusals.{Accepted}
use Rattle.promises.specs.Plans.{plan_atoms}

-- t: the words; b: the buffer that was lent; plan: its bytes afterwards; an answer is of kind 0
pub record Explaining (t : List ℤ) (b : Buffer) (plan : List ℕ) (r : Result Solved Refusal) (ws : List Why) : Type 0 where
  pub answers : (c : Contents) → Accepted t b c → kind_of r ≡ 0 → Explained (program c) c.atoms (plan_atoms c.atoms plan) ws
  pub others : kind_of r ≢ 0 → Recorded ws no_whys

abbrev pub ExplainingBy : Bool → List ℤ → Buffer → List ℕ → Result Solved Refusal → List Why → Type 0
ExplainingBy false t b plan r ws = Explaining t b plan r ws
ExplainingBy true t b plan r ws = Recorded ws no_whys
