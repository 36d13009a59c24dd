-- "When an answer is an enum, a definition states this paper's number and values for each enum case" (01): the refusals' numbers and places,
-- and what a result reports. Definitions only: to be believed.
--   number_of, place_of    01's table "What comes back": the columns No. and Place; from 14 on the refusals that 02 adds ("place 0 unless it names another")
--   report_of             what each result of solving says; refusal_report n i: "for a refusal its number and place with counts 0"
--   check_report_of        what each result of the check says; refusal_check n i: "refused with number and place"
--   list_report_of         what each result of a listing says (request 7); refusal_listing n i: a refusal's number and place, with nothing listed and counts 0
--   relax_report_of        what each result of giving up constraints says (02, request 13); refusal_relaxed n i: a refusal's number and place, with nothing dropped
--   pinned_report_of       what each result of a call that changes a session says (02, request 10); told as that of the check
--   kind_of, counts_of, check_kind, list_kind, listed_of, list_counts, pinned_kind   parts of these
-- Assumes nothing.
use Rattle.std.specs.Prelude.{ℕ, Bool, true, false, ⊤, Result, Ok, Err}
use Rattle.results.specs.declared.Refusal.{Refusal}
use Rattle.results.specs.declared.Refusal.TheVariants as refusal
use Rattle.results.specs.declared.Counts.{Counts}
use Rattle.results.specs.declared.Solved.{Solved}
use Rattle.results.specs.declared.Solved.TheVariants as solved
use Rattle.results.specs.declared.Listed.{Listed}
use Rattle.results.specs.declared.Listed.TheVariants as listed
use Rattle.results.specs.declared.Relaxed.{Relaxed}
use Rattle.results.specs.declared.Relaxed.TheVariants as relaxed

abbrev pub number_of : Refusal → ℕ
number_of refusal.TooManyWords = 1
number_of (refusal.Absent i) = 2
number_of (refusal.Trailing i) = 3
number_of (refusal.Count i) = 4
number_of (refusal.Number i) = 5
number_of (refusal.Descent i) = 6
number_of (refusal.Quantity i) = 7
number_of (refusal.HeadCycle r) = 8
number_of (refusal.AggregateCycle r) = 9
number_of refusal.ShortPlan = 10
number_of (refusal.PlanByte i) = 11
number_of (refusal.BadNumber k) = 12
number_of refusal.TooManyBytes = 13
number_of (refusal.OutsideSubset l) = 14
number_of (refusal.BeyondRange l) = 15
number_of refusal.ShortBuffer = 16
number_of refusal.PartRow = 17
number_of refusal.PinNumber = 20
number_of refusal.PinTwice = 21
number_of refusal.PinsFull = 22
number_of refusal.NoPin = 23
number_of refusal.NamesLost = 24
number_of refusal.ShortWords = 25
number_of refusal.ShortList = 26

abbrev pub place_of : Refusal → ℕ
place_of refusal.TooManyWords = 0
place_of (refusal.Absent i) = i
place_of (refusal.Trailing i) = i
place_of (refusal.Count i) = i
place_of (refusal.Number i) = i
place_of (refusal.Descent i) = i
place_of (refusal.Quantity i) = i
place_of (refusal.HeadCycle r) = r
place_of (refusal.AggregateCycle r) = r
place_of refusal.ShortPlan = 0
place_of (refusal.PlanByte i) = i
place_of (refusal.BadNumber k) = k
place_of refusal.TooManyBytes = 0
place_of (refusal.OutsideSubset l) = l
place_of (refusal.BeyondRange l) = l
place_of refusal.ShortBuffer = 0
place_of refusal.PartRow = 0
place_of refusal.PinNumber = 0
place_of refusal.PinTwice = 0
place_of refusal.PinsFull = 0
place_of refusal.NoPin = 0
place_of refusal.NamesLost = 0
place_of refusal.ShortWords = 0
place_of refusal.ShortList = 0

-- ---- what a result of solving says: "for a refusal its number and place with counts 0; otherwise the choices and the skips", and the passes (request 11)

-- the kind is 0 answer, 1 none, 2 limit, 3 refused; number and place are 0 where nothing is refused
pub record Report : Type 0 where
  pub kind : ℕ
  pub number : ℕ
  pub place : ℕ
  pub counts : Counts

abbrev pub no_counts : Counts
no_counts = record { choices = 0; skips = 0; passes = 0 }

abbrev pub report_of : Result Solved Refusal → Report
report_of (Ok (solved.Answer k)) = record { kind = 0; number = 0; place = 0; counts = k }
report_of (Ok (solved.Nothing k)) = record { kind = 1; number = 0; place = 0; counts = k }
report_of (Ok (solved.Limit k)) = record { kind = 2; number = 0; place = 0; counts = k }
report_of (Err f) = record { kind = 3; number = number_of f; place = place_of f; counts = no_counts }

-- refused with this number and place
abbrev pub refusal_report : ℕ → ℕ → Report
refusal_report n i = record { kind = 3; number = n; place = i; counts = no_counts }

abbrev pub kind_of : Result Solved Refusal → ℕ
kind_of r = (report_of r).kind

abbrev pub counts_of : Result Solved Refusal → Counts
counts_of r = (report_of r).counts

-- ---- what the check says: "yes, no or refused with number and place"

-- the kind is 0 yes, 1 no, 3 refused
pub record CheckReport : Type 0 where
  pub kind : ℕ
  pub number : ℕ
  pub place : ℕ

abbrev pub check_report_of : Result Bool Refusal → CheckReport
check_report_of (Ok true) = record { kind = 0; number = 0; place = 0 }
check_report_of (Ok false) = record { kind = 1; number = 0; place = 0 }
check_report_of (Err f) = record { kind = 3; number = number_of f; place = place_of f }

abbrev pub refusal_check : ℕ → ℕ → CheckReport
refusal_check n i = record { kind = 3; number = n; place = i }

abbrev pub check_kind : Result Bool Refusal → ℕ
check_kind r = (check_report_of r).kind

-- ---- what a listing says (request 7): "Ends are complete, full and limit", "with the number listed, choices and skips", and the passes

-- the kind is 0 complete, 1 full, 2 limit, 3 refused
pub record ListReport : Type 0 where
  pub kind : ℕ
  pub listed : ℕ
  pub number : ℕ
  pub place : ℕ
  pub counts : Counts

abbrev pub list_report_of : Result Listed Refusal → ListReport
list_report_of (Ok (listed.Complete m k)) = record { kind = 0; listed = m; number = 0; place = 0; counts = k }
list_report_of (Ok (listed.Full m k)) = record { kind = 1; listed = m; number = 0; place = 0; counts = k }
list_report_of (Ok (listed.Limit m k)) = record { kind = 2; listed = m; number = 0; place = 0; counts = k }
list_report_of (Err f) = record { kind = 3; listed = 0; number = number_of f; place = place_of f; counts = no_counts }

abbrev pub refusal_listing : ℕ → ℕ → ListReport
refusal_listing n i = record { kind = 3; listed = 0; number = n; place = i; counts = no_counts }

abbrev pub list_kind : Result Listed Refusal → ℕ
list_kind r = (list_report_of r).kind

-- how many plans are listed
abbrev pub listed_of : Result Listed Refusal → ℕ
listed_of r = (list_report_of r).listed

abbrev pub list_counts : Result Listed Refusal → Counts
list_counts r = (list_report_of r).counts

-- ---- what giving up constraints says (request 13): how many rules are dropped, none or limit; "no choices or skips are reported"

-- the kind is 0 answer, 1 none, 2 limit, 3 refused
pub record RelaxReport : Type 0 where
  pub kind : ℕ
  pub dropped : ℕ
  pub number : ℕ
  pub place : ℕ

abbrev pub relax_report_of : Result Relaxed Refusal → RelaxReport
relax_report_of (Ok (relaxed.Answer k)) = record { kind = 0; dropped = k; number = 0; place = 0 }
relax_report_of (Ok relaxed.Nothing) = record { kind = 1; dropped = 0; number = 0; place = 0 }
relax_report_of (Ok relaxed.Limit) = record { kind = 2; dropped = 0; number = 0; place = 0 }
relax_report_of (Err f) = record { kind = 3; dropped = 0; number = number_of f; place = place_of f }

abbrev pub refusal_relaxed : ℕ → ℕ → RelaxReport
refusal_relaxed n i = record { kind = 3; dropped = 0; number = n; place = i }

-- ---- what a call that changes a session says: done or refused with number and place

-- the kind is 0 done, 3 refused
abbrev pub pinned_report_of : Result ⊤ Refusal → CheckReport
pinned_report_of (Ok d) = record { kind = 0; number = 0; place = 0 }
pinned_report_of (Err f) = record { kind = 3; number = number_of f; place = place_of f }

abbrev pub pinned_kind : Result ⊤ Refusal → ℕ
pinned_kind r = (pinned_report_of r).kind
