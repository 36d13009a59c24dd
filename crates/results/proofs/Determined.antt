-- A refusal is determined by its number and place, and a result by what it says: so a promise that names these fixes the result. Assumes nothing.
--   refusal_determined                    of a refusal
--   report-refusal, check-refusal, list-refusal   what says that it is refused with a number and a place is that refusal
--   report-determines, check-determines   of a result of solving, and of the check;  refusal-determines: of a refused listing;  relax-determines: of a refused giving up;  pinned-determines: of a call that changes a session
--   number_unique, place_unique           the promises of `number` and `place` have one answer each
use mathlib.Core.Path.{◌≡◌, refl, sym, ◌∙◌, ap}
use mathlib.Core.List.{[], ◌∷◌}
use Prim.Native.Nat.{ℕ}
use native.Mathlib.Omega.{arith}
use lib.ListN.{get_or}
use Rattle.std.specs.Prelude.{Bool, true, false, ⊤, Result, Ok, Err}
use Rattle.results.specs.declared.Refusal.{Refusal}
use Rattle.results.specs.declared.Refusal.TheVariants as refusal
use Rattle.results.specs.declared.Solved.{Solved}
use Rattle.results.specs.declared.Solved.TheVariants as solved
use Rattle.results.specs.declared.Listed.{Listed}
use Rattle.results.specs.declared.Listed.TheVariants as listed
use Rattle.results.specs.Results.{number_of, place_of, Report, report_of, refusal_report, CheckReport, check_report_of, refusal_check, ListReport, list_report_of, refusal_listing, RelaxReport, relax_report_of, refusal_relaxed, pinned_report_of}
use Rattle.results.specs.declared.Relaxed.{Relaxed}
use Rattle.results.specs.declared.Relaxed.TheVariants as relaxed

-- the refusal with a number and a place; 0, 18 and 19 are no refusal's number
abbrev refusal_at : ℕ → ℕ → Refusal
refusal_at n i =
    get_or
    (refusal.TooManyWords
    ∷ refusal.TooManyWords
    ∷ refusal.Absent i
    ∷ refusal.Trailing i
    ∷ refusal.Count i
    ∷ refusal.Number i
    ∷ refusal.Descent i
    ∷ refusal.Quantity i
    ∷ refusal.HeadCycle i
    ∷ refusal.AggregateCycle i
    ∷ refusal.ShortPlan
    ∷ refusal.PlanByte i
    ∷ refusal.BadNumber i
    ∷ refusal.TooManyBytes
    ∷ refusal.OutsideSubset i
    ∷ refusal.BeyondRange i
    ∷ refusal.ShortBuffer
    ∷ refusal.PartRow
    ∷ refusal.TooManyWords
    ∷ refusal.TooManyWords
    ∷ refusal.PinNumber
    ∷ refusal.PinTwice
    ∷ refusal.PinsFull
    ∷ refusal.NoPin
    ∷ refusal.NamesLost
    ∷ refusal.ShortWords
    ∷ refusal.ShortList
    ∷ [])
    n
    refusal.TooManyWords

refusal_back : (f : Refusal) → refusal_at (number_of f) (place_of f) ≡ f
refusal_back refusal.TooManyWords = refl
refusal_back (refusal.Absent i) = refl
refusal_back (refusal.Trailing i) = refl
refusal_back (refusal.Count i) = refl
refusal_back (refusal.Number i) = refl
refusal_back (refusal.Descent i) = refl
refusal_back (refusal.Quantity i) = refl
refusal_back (refusal.HeadCycle r) = refl
refusal_back (refusal.AggregateCycle r) = refl
refusal_back refusal.ShortPlan = refl
refusal_back (refusal.PlanByte i) = refl
refusal_back (refusal.BadNumber k) = refl
refusal_back refusal.TooManyBytes = refl
refusal_back (refusal.OutsideSubset l) = refl
refusal_back (refusal.BeyondRange l) = refl
refusal_back refusal.ShortBuffer = refl
refusal_back refusal.PartRow = refl
refusal_back refusal.PinNumber = refl
refusal_back refusal.PinTwice = refl
refusal_back refusal.PinsFull = refl
refusal_back refusal.NoPin = refl
refusal_back refusal.NamesLost = refl
refusal_back refusal.ShortWords = refl
refusal_back refusal.ShortList = refl

pub refusal_determined : (f g : Refusal) → number_of f ≡ number_of g → place_of f ≡ place_of g → f ≡ g
refusal_determined f g n i = sym (refusal_back f) ∙ ap (λ (k : ℕ). refusal_at k (place_of f)) n ∙ ap (refusal_at (number_of g)) i ∙ refusal_back g

-- ---- results of solving

-- two kinds
kinds : {x y : Report} → x ≡ y → x.kind ≡ y.kind
kinds e = ap (λ (r : Report). r.kind) e

pub report_refusal : (r : Result Solved Refusal) (n i : ℕ) → report_of r ≡ refusal_report n i → (f : Refusal) × (r ≡ Err f) × (number_of f ≡ n) × (place_of f ≡ i)
report_refusal (Ok (solved.Answer k)) n i e = absurd (let z = kinds e in omega arith)
report_refusal (Ok (solved.Nothing k)) n i e = absurd (let z = kinds e in omega arith)
report_refusal (Ok (solved.Limit k)) n i e = absurd (let z = kinds e in omega arith)
report_refusal (Err f) n i e = (f, refl, ap (λ (r : Report). r.number) e, ap (λ (r : Report). r.place) e)

pub report_determines : (r s : Result Solved Refusal) → report_of r ≡ report_of s → r ≡ s
report_determines (Ok (solved.Answer k)) (Ok (solved.Answer k')) e = ap (λ (r : Report). Ok (solved.Answer r.counts)) e
report_determines (Ok (solved.Answer k)) (Ok (solved.Nothing k')) e = absurd (let z = kinds e in omega arith)
report_determines (Ok (solved.Answer k)) (Ok (solved.Limit k')) e = absurd (let z = kinds e in omega arith)
report_determines (Ok (solved.Answer k)) (Err f) e = absurd (let z = kinds e in omega arith)
report_determines (Ok (solved.Nothing k)) (Ok (solved.Answer k')) e = absurd (let z = kinds e in omega arith)
report_determines (Ok (solved.Nothing k)) (Ok (solved.Nothing k')) e = ap (λ (r : Report). Ok (solved.Nothing r.counts)) e
report_determines (Ok (solved.Nothing k)) (Ok (solved.Limit k')) e = absurd (let z = kinds e in omega arith)
report_determines (Ok (solved.Nothing k)) (Err f) e = absurd (let z = kinds e in omega arith)
report_determines (Ok (solved.Limit k)) (Ok (solved.Answer k')) e = absurd (let z = kinds e in omega arith)
report_determines (Ok (solved.Limit k)) (Ok (solved.Nothing k')) e = absurd (let z = kinds e in omega arith)
report_determines (Ok (solved.Limit k)) (Ok (solved.Limit k')) e = ap (λ (r : Report). Ok (solved.Limit r.counts)) e
report_determines (Ok (solved.Limit k)) (Err f) e = absurd (let z = kinds e in omega arith)
report_determines (Err f) s e =
    let w = report_refusal s (number_of f) (place_of f) (sym e) in
    ap Err (refusal_determined f w.0 (sym w.2) (sym w.3)) ∙ sym w.1

-- ---- results of the check

checks : {x y : CheckReport} → x ≡ y → x.kind ≡ y.kind
checks e = ap (λ (r : CheckReport). r.kind) e

pub check_refusal : (r : Result Bool Refusal) (n i : ℕ) → check_report_of r ≡ refusal_check n i → (f : Refusal) × (r ≡ Err f) × (number_of f ≡ n) × (place_of f ≡ i)
check_refusal (Ok true) n i e = absurd (let z = checks e in omega arith)
check_refusal (Ok false) n i e = absurd (let z = checks e in omega arith)
check_refusal (Err f) n i e = (f, refl, ap (λ (r : CheckReport). r.number) e, ap (λ (r : CheckReport). r.place) e)

pub check_determines : (r s : Result Bool Refusal) → check_report_of r ≡ check_report_of s → r ≡ s
check_determines (Ok true) (Ok true) e = refl
check_determines (Ok true) (Ok false) e = absurd (let z = checks e in omega arith)
check_determines (Ok true) (Err f) e = absurd (let z = checks e in omega arith)
check_determines (Ok false) (Ok true) e = absurd (let z = checks e in omega arith)
check_determines (Ok false) (Ok false) e = refl
check_determines (Ok false) (Err f) e = absurd (let z = checks e in omega arith)
check_determines (Err f) s e =
    let w = check_refusal s (number_of f) (place_of f) (sym e) in
    ap Err (refusal_determined f w.0 (sym w.2) (sym w.3)) ∙ sym w.1

-- ---- results of a listing

list_kinds : {x y : ListReport} → x ≡ y → x.kind ≡ y.kind
list_kinds e = ap (λ (r : ListReport). r.kind) e

pub list_refusal : (r : Result Listed Refusal) (n i : ℕ) → list_report_of r ≡ refusal_listing n i → (f : Refusal) × (r ≡ Err f) × (number_of f ≡ n) × (place_of f ≡ i)
list_refusal (Ok (listed.Complete m k)) n i e = absurd (let z = list_kinds e in omega arith)
list_refusal (Ok (listed.Full m k)) n i e = absurd (let z = list_kinds e in omega arith)
list_refusal (Ok (listed.Limit m k)) n i e = absurd (let z = list_kinds e in omega arith)
list_refusal (Err f) n i e = (f, refl, ap (λ (r : ListReport). r.number) e, ap (λ (r : ListReport). r.place) e)

pub refusal_determines : (r s : Result Listed Refusal) (n i : ℕ) → list_report_of r ≡ refusal_listing n i → list_report_of s ≡ refusal_listing n i → r ≡ s
refusal_determines r s n i e h =
    let x = list_refusal r n i e in
    let y = list_refusal s n i h in
    x.1 ∙ ap Err (refusal_determined x.0 y.0 (x.2 ∙ sym y.2) (x.3 ∙ sym y.3)) ∙ sym y.1

-- ---- results of giving up constraints

pub relax_refusal : (r : Result Relaxed Refusal) (n i : ℕ) → relax_report_of r ≡ refusal_relaxed n i → (f : Refusal) × (r ≡ Err f) × (number_of f ≡ n) × (place_of f ≡ i)
relax_refusal (Ok (relaxed.Answer k)) n i e = absurd (let z = ap (λ (r : RelaxReport). r.kind) e in omega arith)
relax_refusal (Ok relaxed.Nothing) n i e = absurd (let z = ap (λ (r : RelaxReport). r.kind) e in omega arith)
relax_refusal (Ok relaxed.Limit) n i e = absurd (let z = ap (λ (r : RelaxReport). r.kind) e in omega arith)
relax_refusal (Err f) n i e = (f, refl, ap (λ (r : RelaxReport). r.number) e, ap (λ (r : RelaxReport). r.place) e)

pub relax_determines : (r s : Result Relaxed Refusal) (n i : ℕ) → relax_report_of r ≡ refusal_relaxed n i → relax_report_of s ≡ refusal_relaxed n i → r ≡ s
relax_determines r s n i e h =
    let x = relax_refusal r n i e in
    let y = relax_refusal s n i h in
    x.1 ∙ ap Err (refusal_determined x.0 y.0 (x.2 ∙ sym y.2) (x.3 ∙ sym y.3)) ∙ sym y.1

-- ---- results of a call that changes a session

pub pinned_refusal : (r : Result ⊤ Refusal) (n i : ℕ) → pinned_report_of r ≡ refusal_check n i → (f : Refusal) × (r ≡ Err f) × (number_of f ≡ n) × (place_of f ≡ i)
pinned_refusal (Ok d) n i e = absurd (let z = checks e in omega arith)
pinned_refusal (Err f) n i e = (f, refl, ap (λ (r : CheckReport). r.number) e, ap (λ (r : CheckReport). r.place) e)

pub pinned_determines : (r s : Result ⊤ Refusal) → pinned_report_of r ≡ pinned_report_of s → r ≡ s
pinned_determines (Ok d) (Ok d') e = refl
pinned_determines (Ok d) (Err f) e = absurd (let z = checks e in omega arith)
pinned_determines (Err f) s e =
    let w = pinned_refusal s (number_of f) (place_of f) (sym e) in
    ap Err (refusal_determined f w.0 (sym w.2) (sym w.3)) ∙ sym w.1

-- ---- the public functions

pub number_unique : (f : Refusal) (n n' : ℕ) → n ≡ number_of f → n' ≡ number_of f → n ≡ n'
number_unique f n n' e e' = e ∙ sym e'

pub place_unique : (f : Refusal) (i i' : ℕ) → i ≡ place_of f → i' ≡ place_of f → i ≡ i'
place_unique f i i' e e' = e ∙ sym e'
