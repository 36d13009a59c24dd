-- In each mode every table is refused or accepted, and the judge says which. Assumes nothing.
use mathlib.Core.Path.{◌≡◌, refl, sym, ◌∙◌, ap, subst}
use mathlib.Core.Logic.{◌≢◌, ◌⊎◌, inl, inr}
use mathlib.Core.Bool.{Bool, false}
use mathlib.Core.Option.{Option, none, some}
use mathlib.Core.List.{List}
use Prim.Native.Nat.{ℕ, ◌≤◌, ◌<◌, ◌%◌}
use native.Mathlib.Omega.{arith}
use lib.IntN.{ℤ}
use lib.ListN.{length}
use Rattle.std.specs.Prelude.{Result, Ok, Err}
use Rattle.meaning.specs.Program.{AtomsIn}
use Rattle.meaning.proofs.Cond.{lt_case, eq_case, if_lt_yes, if_lt_no, if_eq_yes, if_eq_no}
use Rattle.results.specs.declared.Refusal.{Refusal}
use Rattle.results.specs.declared.Refusal.TheVariants as refusal
use Rattle.results.specs.Results.{number_of, place_of}
use Rattle.layout.specs.declared.Table.{Table}
use Rattle.layout.specs.Layout.{program_of}
use Rattle.table.specs.Contents.{Contents, program}
use Rattle.table.specs.Grammar as grammar
use Rattle.table.specs.Places.{table_of}
use Rattle.table.proofs.Accepted.{accepted_laid, accepted_program, accepted_atoms, table_atoms}
use Rattle.depend.specs.Cycles.{cycle_by}
use Rattle.depend.proofs.Exact.{refused_8, refused_9, not_refused, cycle_cases}
use Rattle.judging.specs.declared.Buffer.{Buffer}
use Rattle.judging.specs.declared.Buffer.TheVariants as lent
use Rattle.judging.specs.Refusals.{earns, AcceptedBy, RefusedBy, words, buffer, table, head, aggregate}
use Rattle.judging.specs.Judging.{Placed, fault_of, JudgedBy, refused, taken}

-- an answer is a value or a refusal, and one of them
pub no_fault : {A : Type 0} {x : Result A Refusal} {f : Refusal} {y : A} → x ≡ Err f → x ≡ Ok y → ⊥
no_fault e i = let z : ◌≡◌ {A = ℕ} 0 1 = cc in omega arith

same_fault : {A : Type 0} {x : Result A Refusal} {f g : Refusal} → x ≡ Err f → x ≡ Err g → f ≡ g
same_fault e i = cc

pub same_table : {x : Result Table Refusal} {a b : Table} → x ≡ Ok a → x ≡ Ok b → a ≡ b
same_table e i = cc

-- ---- the entry's own buffer

-- it is good, or it earns a number
abbrev pub Earned : Buffer → Type 0
Earned b = (earns b ≡ none) ⊎ ((n : ℕ) × (earns b ≡ some n))

pub earned : (b : Buffer) → Earned b
earned b = at (earns b) refl
  where
    at : (x : Option ℕ) → earns b ≡ x → Earned b
    at none e = inl e
    at (some n) e = inr (n, e)

bad : {x : Option ℕ} {n : ℕ} → x ≡ some n → x ≡ none → ⊥
bad e i = let z : ◌≡◌ {A = ℕ} 0 1 = cc in omega arith

-- a plan buffer that earns nothing has its 256 bytes
pub plan_wide : (room : ℕ) → earns (lent.Plan room) ≡ none → 256 ≤ room
plan_wide room e = at (lt_case room 256)
  where
    at : (room < 256) ⊎ (256 ≤ room) → 256 ≤ room
    at (inl l) = absurd (bad (if_lt_yes room 256 (some 10) none l) e)
    at (inr l) = l

pub plan_good : (room : ℕ) → 256 ≤ room → earns (lent.Plan room) ≡ none
plan_good room l = if_lt_no room 256 (some 10) none l

-- a buffer for rows that earns nothing has whole rows
pub rows_whole : (room : ℕ) → earns (lent.Rows room) ≡ none → room % 256 ≡ 0
rows_whole room e = at (eq_case (room % 256) 0)
  where
    at : (room % 256 ≡ 0) ⊎ (room % 256 ≢ 0) → room % 256 ≡ 0
    at (inl h) = h
    at (inr h) = absurd (bad (if_eq_no (room % 256) 0 none (some 17) h) e)

pub rows_good : (room : ℕ) → room % 256 ≡ 0 → earns (lent.Rows room) ≡ none
rows_good room h = if_eq_yes (room % 256) 0 none (some 17) h

-- the refusal that is found is the one that is earned
pub fault_good : (b : Buffer) → fault_of b ≡ Ok tt → earns b ≡ none
fault_good lent.Nothing e = refl
fault_good (lent.Plan room) e = at (lt_case room 256)
  where
    at : (room < 256) ⊎ (256 ≤ room) → earns (lent.Plan room) ≡ none
    at (inl l) = absurd (no_fault (if_lt_yes room 256 _ _ l) e)
    at (inr l) = plan_good room l
fault_good (lent.Rows room) e = at (eq_case (room % 256) 0)
  where
    at : (room % 256 ≡ 0) ⊎ (room % 256 ≢ 0) → earns (lent.Rows room) ≡ none
    at (inl h) = rows_good room h
    at (inr h) = absurd (no_fault (if_eq_no (room % 256) 0 _ _ h) e)

pub fault_bad : (b : Buffer) (f : Refusal) → fault_of b ≡ Err f → (earns b ≡ some (number_of f)) × (place_of f ≡ 0)
fault_bad lent.Nothing f e = absurd (no_fault e refl)
fault_bad (lent.Plan room) f e = at (lt_case room 256)
  where
    at : (room < 256) ⊎ (256 ≤ room) → (earns (lent.Plan room) ≡ some (number_of f)) × (place_of f ≡ 0)
    at (inl l) =
        let i = same_fault (if_lt_yes room 256 _ _ l) e in
        (if_lt_yes room 256 (some 10) none l ∙ ap (λ (g : Refusal). some (number_of g)) i, sym (ap place_of i))
    at (inr l) = absurd (no_fault e (if_lt_no room 256 _ _ l))
fault_bad (lent.Rows room) f e = at (eq_case (room % 256) 0)
  where
    at : (room % 256 ≡ 0) ⊎ (room % 256 ≢ 0) → (earns (lent.Rows room) ≡ some (number_of f)) × (place_of f ≡ 0)
    at (inl h) = absurd (no_fault e (if_eq_yes (room % 256) 0 _ _ h))
    at (inr h) =
        let i = same_fault (if_eq_no (room % 256) 0 _ _ h) e in
        (if_eq_no (room % 256) 0 none (some 17) h ∙ ap (λ (g : Refusal). some (number_of g)) i, sym (ap place_of i))

-- ---- the words

-- the cycles of the words are those of the contents
pub same_cycles : (cycles : Bool) (t : List ℤ) (c : Contents) → grammar.contents_of t ≡ grammar.accepted c → cycle_by cycles (table_of c).atoms (program_of t (table_of c)) ≡ cycle_by cycles c.atoms (program c)
same_cycles cycles t c holds = ap (λ (n : ℕ). cycle_by cycles n (program_of t (table_of c))) (table_atoms c) ∙ ap (cycle_by cycles c.atoms) (accepted_program t c holds)

-- the table is refused, or accepted
abbrev pub DecidedBy : Bool → List ℤ → Buffer → Type 0
DecidedBy cycles t b = ((f : Refusal) × RefusedBy cycles t b (number_of f) (place_of f)) ⊎ ((c : Contents) × AcceptedBy cycles t b c)

abbrev pub Decided : List ℤ → Buffer → Type 0
Decided t b = DecidedBy false t b

module _ (t : List ℤ) (b : Buffer) where
  module _ (few : length t ≤ 16384) (good : earns b ≡ none) (c : Contents) (holds : grammar.contents_of t ≡ grammar.accepted c) where
    inside : AtomsIn c.atoms (program c)
    inside = accepted_atoms t c holds

    pub cycle_refuses : {cycles : Bool} (f : Refusal) → cycle_by cycles c.atoms (program c) ≡ Err f → RefusedBy cycles t b (number_of f) (place_of f)
    cycle_refuses {cycles} f e = at (cycle_cases cycles c.atoms (program c))
      where
        told : (g : Refusal) → cycle_by cycles c.atoms (program c) ≡ Err g → RefusedBy cycles t b (number_of g) (place_of g) → RefusedBy cycles t b (number_of f) (place_of f)
        told g i = subst (λ (x : Refusal). RefusedBy cycles t b (number_of x) (place_of x)) (same_fault i e)

        at : (cycle_by cycles c.atoms (program c) ≡ Ok tt) ⊎ ((k : ℕ) × (cycle_by cycles c.atoms (program c) ≡ Err (refusal.HeadCycle k)))
            ⊎ ((k : ℕ) × (cycle_by cycles c.atoms (program c) ≡ Err (refusal.AggregateCycle k))) → RefusedBy cycles t b (number_of f) (place_of f)
        at (inl n) = absurd (no_fault e n)
        at (inr (inl (k, i))) = told (refusal.HeadCycle k) i (head few good c holds ((refused_8 cycles c.atoms (program c) inside k).0 i) refl)
        at (inr (inr (k, i))) = let w = (refused_9 cycles c.atoms (program c) inside k).0 i in told (refusal.AggregateCycle k) i (aggregate few good c holds w.0 w.1 refl)

    pub none_accepts : {cycles : Bool} → cycle_by cycles c.atoms (program c) ≡ Ok tt → AcceptedBy cycles t b c
    none_accepts {cycles} e =
        let w = (not_refused cycles c.atoms (program c) inside).0 e in
        record { words = few; buffer = good; holds = holds; no_head = w.0; no_aggregate = w.1 }

  -- every table is refused or accepted
  pub decided : {cycles : Bool} → DecidedBy cycles t b
  decided {cycles} = by_words (lt_case 16384 (length t)) (earned b)
    where
      by_cycle : (few : length t ≤ 16384) → (good : earns b ≡ none) → (c : Contents) → grammar.contents_of t ≡ grammar.accepted c → (x : Result (Unit {0}) Refusal) → cycle_by cycles c.atoms (program c) ≡ x → DecidedBy cycles t b
      by_cycle few good c h (Ok tt) e = inr (c, none_accepts few good c h e)
      by_cycle few good c h (Err f) e = inl (f, cycle_refuses few good c h f e)

      by_table : length t ≤ 16384 → earns b ≡ none → (x : grammar.Outcome) → grammar.contents_of t ≡ x → DecidedBy cycles t b
      by_table few good (grammar.accepted c) e = by_cycle few good c e (cycle_by cycles c.atoms (program c)) refl
      by_table few good (grammar.refused_for f) e = inl (f, table few good f e refl refl)

      by_buffer : length t ≤ 16384 → (x : Result (Unit {0}) Refusal) → fault_of b ≡ x → DecidedBy cycles t b
      by_buffer few (Ok tt) e = by_table few (fault_good b e) (grammar.contents_of t) refl
      by_buffer few (Err f) e = let w = fault_bad b f e in inl (f, buffer few w.0 w.1)

      by_words : (16384 < length t) ⊎ (length t ≤ 16384) → Earned b → DecidedBy cycles t b
      by_words (inl l) y = inl (refusal.TooManyWords, words l refl refl)
      by_words (inr s) y = by_buffer s (fault_of b) refl

-- ---- for callers: what a judgement says

module _ (t : List ℤ) (b : Buffer) (r : Result Table Refusal) where
  pub judged_refused : {cycles : Bool} (f : Refusal) → JudgedBy cycles t b r → r ≡ Err f → RefusedBy cycles t b (number_of f) (place_of f)
  judged_refused {cycles} f (refused g h e) i = subst (λ (x : Refusal). RefusedBy cycles t b (number_of x) (place_of x)) (same_fault e i) h
  judged_refused f (taken c a e) i = absurd (no_fault i e)

  pub judged_taken : {cycles : Bool} (tb : Table) → JudgedBy cycles t b r → r ≡ Ok tb → (c : Contents) × AcceptedBy cycles t b c × Placed t tb c
  judged_taken tb (refused f h e) i = absurd (no_fault e i)
  judged_taken tb (taken c a e) i = (
    c,
    a,
    subst (λ (x : Table). Placed t x c) (same_table e i) (record { laid = accepted_laid t c a.holds; atoms = table_atoms c; rules = accepted_program t c a.holds }),
  )
