-- What the code of the plain engine asks and hands back, in the terms of crate `search`. Definitions only; they need not be believed: the promise of `solve` does not
-- speak of them.
--   Told               r, and the later plan buffer, report what a side of a choice holds, as crate `search` says it
--   Sided, Chosen      what `try_side` and `choose` hand back: what the engine of crate `search` says of the side, however far its fuel is above the undefined atoms
--   Tests              what the final test hands back
--   Ready, Testable    what they ask: the table's places and lists, no more choices than the limit, and room for the plan
-- Assumes nothing.
use Rattle.std.specs.Prelude.{ℕ, ◌-◌, ◌≤◌, ◌<◌, ◌≡◌, Bool, List, ℤ, length, Ok}
use Rattle.interpretation.specs.State.{true_atoms, AllDefined}
use Rattle.interpretation.specs.View.{valued}
use Rattle.results.specs.declared.Solved.{Solved}
use Rattle.results.specs.Results.{counts_of}
use Rattle.layout.specs.declared.Table.{Table}
use Rattle.layout.specs.Layout.{Laid, program_of}
use Rattle.heads.specs.Heads.{Whole}
use Rattle.search.specs.Engine.{Tried, plan, nothing, halted, by_test, goes_on, tries}
use Rattle.smaller.specs.Cyclic.{test_by, base_by}
use Rattle.search.specs.Search.{Result, answer, no_answer, limit}
use Rattle.promises.specs.Promises.{solved_by, plan_after}
use Rattle.plain.specs.declared.passes.Side.{Side}
use Rattle.plain.specs.Passes.{bare, verdict_by, undefined_to}
use Rattle.plain.specs.Promise.{plain_counts}

abbrev pub result_by : Tried → Result
result_by (plan X k) = answer X
result_by (nothing k) = no_answer
result_by halted = limit

-- "at the limit, end with limit": as many choices as the limit allows are opened then
abbrev pub choices_by : ℕ → Tried → ℕ
choices_by lim (plan X k) = k
choices_by lim (nothing k) = k
choices_by lim halted = lim

pub record Told (n lim : ℕ) (e : Tried) (old new : List ℕ) (r : Solved) : Type 0 where
  pub result : r ≡ solved_by (result_by e) (plain_counts (choices_by lim e))
  pub plan : new ≡ plan_after n (result_by e) old

module _ (t : List ℤ) (tb : Table) where
  pub record Ready (lists : List ℕ) (lim : ℕ) (s : Side) (plan : List ℕ) : Type 0 where
    pub laid : Laid t tb
    pub whole : Whole t tb lists
    pub few : s.choices ≤ lim
    pub room : tb.atoms ≤ length plan

  pub record Testable (lists : List ℕ) (lim : ℕ) (values : List ℕ) (choices : ℕ) (plan : List ℕ) : Type 0 where
    pub laid : Laid t tb
    pub whole : Whole t tb lists
    pub defined : AllDefined tb.atoms (valued values)
    pub few : choices ≤ lim
    pub room : tb.atoms ≤ length plan

-- in the mode `cycles`, over the problem with that mode's test (request 14)
module _ (cycles : Bool) (t : List ℤ) (tb : Table) (lim : ℕ) where
  pub record Sided (s : Side) (old new : List ℕ) (r : Solved) : Type 0 where
    pub says : (u : ℕ) → undefined_to tb.atoms (valued s.values) < u
        → Told tb.atoms lim (tries (base_by cycles (program_of t tb) tb.atoms) lim u (bare s.values) s.choices) old new r
    pub few : (counts_of (Ok r)).choices ≤ lim

  pub record Chosen (s : Side) (old new : List ℕ) (r : Solved) : Type 0 where
    pub says : (u : ℕ) → undefined_to tb.atoms (valued s.values) ≤ u
        → Told tb.atoms lim
        (goes_on (base_by cycles (program_of t tb) tb.atoms) lim (tries (base_by cycles (program_of t tb) tb.atoms) lim u) (bare s.values) s.choices (verdict_by s.conflict)) old new r
    pub few : (counts_of (Ok r)).choices ≤ lim

  pub record Tests (values : List ℕ) (choices : ℕ) (old new : List ℕ) (r : Solved) : Type 0 where
    pub says : Told tb.atoms lim
        (by_test (true_atoms tb.atoms (valued values)) choices
        (test_by cycles (program_of t tb) tb.atoms (lim - choices) (true_atoms tb.atoms (valued values)))) old new r
    pub few : (counts_of (Ok r)).choices ≤ lim
