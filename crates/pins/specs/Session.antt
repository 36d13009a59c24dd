-- What the entries of a session promise (02, request 10), for every content of the session's memory, `old` before the call and `new` after it. Definitions only: to be
-- believed.
--   Opening     `open`: "refuses as solving does, without 10"; an accepted table is kept, with no pin, and with the mode of request 14, in which plans are made then
--   Changing    `pin` and `unpin`: 20, 21, 22 in that order, 23, places 0; "The session stays as it stood" where it is refused
--   Planning    `plan`: what `Solving` of crate `solver` says, "over the answer sets that agree with the pins". It has its 10, and of a session that `open` made no
--               other refusal, since its table is accepted
--   PlansOn, Plans   the whole promise of `plan`: of a mode, a table and pins; of a session;  After: what a list of calls makes of a session
-- Assumes nothing.
use Rattle.std.specs.Prelude.{◌≡◌, Bool, ◌↔◌, List, [], ◌∷◌, ℕ, ℤ, length, ⊤, Result, Ok}
use Rattle.std.proofs.Math.Option.{Option, none, some}
use Rattle.results.specs.declared.Refusal.{Refusal}
use Rattle.results.specs.declared.Solved.{Solved}
use Rattle.results.specs.Results.{CheckReport, refusal_check, pinned_report_of, report_of, refusal_report}
use Rattle.search.specs.Search.{Outcome}
use Rattle.smaller.specs.Cyclic.{problem_by}
use Rattle.table.specs.Contents.{Contents, program}
use Rattle.judging.specs.declared.Buffer.TheVariants as lent
use Rattle.judging.specs.Refusals.{AcceptedBy, RefusedBy}
use Rattle.promises.specs.Promises.{Meaning, Searching}
use Rattle.solver.specs.declared.Solution.{Solution}
use Rattle.solver.specs.Explaining.{ExplainingBy}
use Rattle.sessions.specs.Sessions.{Pins, Call, pin, unpin, plan, refusal, next, pins_of, Agrees}
use Rattle.pins.specs.Memory.{table_in, atoms_in, pins_in, taken_of, cycles_in, opened_with, with_pin, without_pin}

-- ---- opening

-- the session on the table t, which holds c, in the mode `cycles`
pub record Opened (cycles : Bool) (t : List ℤ) (c : Contents) (old new : List ℤ) (r : Result ⊤ Refusal) : Type 0 where
  pub done : r ≡ Ok tt
  pub words : new ≡ opened_with cycles t old
  pub table : table_in new ≡ t
  pub atoms : atoms_in new ≡ c.atoms
  pub pins : pins_in new ≡ []
  pub mode : cycles_in new ≡ cycles

pub record Opening (cycles : Bool) (t old new : List ℤ) (r : Result ⊤ Refusal) : Type 0 where
  pub refused : (n i : ℕ) → (pinned_report_of r ≡ refusal_check n i) ↔ RefusedBy cycles t lent.Nothing n i
  pub untouched : (n i : ℕ) → pinned_report_of r ≡ refusal_check n i → new ≡ old
  pub opened : (c : Contents) → AcceptedBy cycles t lent.Nothing c → Opened cycles t c old new r

-- ---- pins and removals

abbrev pub told_for : Option ℕ → CheckReport
told_for none = record { kind = 0; number = 0; place = 0 }
told_for (some k) = refusal_check k 0

abbrev pub changed_by : Call → List ℤ → List ℤ
changed_by (pin p v) s = with_pin p v s
changed_by unpin s = without_pin s
changed_by (plan room lim) s = s

abbrev pub kept_or : Option ℕ → List ℤ → List ℤ → List ℤ
kept_or none old new = new
kept_or (some k) old new = old

pub record Changing (call : Call) (old new : List ℤ) (r : Result ⊤ Refusal) : Type 0 where
  pub told : pinned_report_of r ≡ told_for (refusal (atoms_in old) (pins_in old) call)
  pub words : new ≡ kept_or (refusal (atoms_in old) (pins_in old) call) old (changed_by call old)
  pub table : table_in new ≡ table_in old
  pub atoms : atoms_in new ≡ atoms_in old
  pub pins : pins_in new ≡ next (atoms_in old) call (pins_in old)
  pub mode : cycles_in new ≡ cycles_in old

-- ---- a plan

-- t and pins: the table and the pins of the session, in its mode
pub record Planning (cycles : Bool) (t : List ℤ) (pins : Pins) (lim : ℕ) (old new : List ℕ) (r : Result Solved Refusal) : Type 0 where
  -- demand 1: 10, or the refusal of a table that no `open` accepted; then the whole buffer is as it was
  pub refused : (n i : ℕ) → (report_of r ≡ refusal_report n i) ↔ RefusedBy cycles t (lent.Plan (length old)) n i
  pub untouched : (n i : ℕ) → report_of r ≡ refusal_report n i → new ≡ old
  -- "Demands 2 and 3 read over the answer sets that agree with the pins"
  pub meaning : (c : Contents) → AcceptedBy cycles t (lent.Plan (length old)) c
      → Meaning c.atoms (Agrees (program c) (taken_of c.atoms pins)) lim old new r
  pub searching : (c : Contents) → AcceptedBy cycles t (lent.Plan (length old)) c
      → (o : Outcome) × Searching (Agrees (program c) (taken_of c.atoms pins)) (problem_by cycles (program c) c.atoms (pins_of (taken_of c.atoms pins))) r o lim old new

-- with the rounds and rules of request 1
abbrev pub PlansOn : Bool → List ℤ → Pins → ℕ → List ℕ → List ℕ → Solution → Type 0
PlansOn cycles t pins lim old new r = Planning cycles t pins lim old new r.solved × ExplainingBy cycles t (lent.Plan (length old)) new r.solved r.whys

-- of the session s
abbrev pub Plans : List ℤ → ℕ → List ℕ → List ℕ → Solution → Type 0
Plans s lim old new r = PlansOn (cycles_in s) (table_in s) (pins_in s) lim old new r

-- ---- a list of calls

-- the calls lead from the memory s to u; a plan only reads it
abbrev pub After : List ℤ → List Call → List ℤ → Type 0
After s [] u = s ≡ u
After s (pin p v ∷ calls) u = (w : List ℤ) × (r : Result ⊤ Refusal) × Changing (pin p v) s w r × After w calls u
After s (unpin ∷ calls) u = (w : List ℤ) × (r : Result ⊤ Refusal) × Changing unpin s w r × After w calls u
After s (plan room lim ∷ calls) u = After s calls u
