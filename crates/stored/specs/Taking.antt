-- The way back as the code goes it: what its functions return of names, of the words after them, and of the whole. Definitions only; `proofs/` ties them to
-- `read_bytes`.
--   names_told         whether a name is not empty, and the next place
--   names_fault        "24 going back while some name isn't empty"
--   Takes             what taking the words of all bytes leaves in a buffer, and returns
-- Assumes nothing.
use Rattle.std.specs.Prelude.{◌≡◌, Bool, true, false, List, [], ◌∷◌, ℕ, suc, ltb, ℤ, pos, length, set, Option, Some, None, Result, Ok, Err}
use Rattle.std.proofs.lemmas.List.Edits.{sets}
use Rattle.meaning.specs.Cond.{if_lt}
use Rattle.results.specs.declared.Refusal.{Refusal}
use Rattle.results.specs.declared.Refusal.TheVariants.{Trailing, NamesLost}
use Rattle.stored.specs.Bytes.{Name, unread, name, Names, nameless, names, named, Scan, refused, taken, scan, sections, Reading, refused_for, holds}

-- ---- names: whether one is not empty, and the next place

abbrev pub Named : Type 0
Named = Result (Bool × ℕ) Refusal

abbrev pub name_told : Name → Named
name_told (unread f) = Err f
name_told (name x j bs) = Ok (ltb 0 (length x), j)

abbrev pub names_told : Names → Named
names_told (nameless f) = Err f
names_told (names xs j bs) = Ok (named xs, j)

abbrev pub names_fault : Bool → Option Refusal
names_fault true = Some NamesLost
names_fault false = None

-- ---- words, as far as there is room: how many, and whether some name is not empty

abbrev pub Taken : Type 0
Taken = Result (ℕ × Bool) Refusal

-- of `long` bytes those from `at` on are too many
abbrev pub ended_at : ℕ → ℕ → ℕ → Bool → Taken
ended_at long at k filled = if_lt at long (Err (Trailing at)) (Ok (k, filled))

-- the words after the first, which is already there
abbrev pub TakesScan : Scan → Bool → List ℤ → List ℤ → Taken → Type 0
TakesScan (refused f) filled old new r = r ≡ Err f
TakesScan (taken ws i []) filled old new r = (r ≡ Ok (suc (length ws), filled)) × (new ≡ sets old 1 ws)
TakesScan (taken ws i (b ∷ bs)) filled old new r = r ≡ Err (Trailing i)

-- the names of `top` atoms, and what follows them
abbrev pub TakesAfter : ℕ → Names → List ℤ → List ℤ → Taken → Type 0
TakesAfter top (nameless f) old new r = r ≡ Err f
TakesAfter top (names xs i bs) old new r = TakesScan (scan (sections top) i bs) (named xs) (set old 0 (pos top)) new r

abbrev pub Takes : Reading → List ℤ → List ℤ → Taken → Type 0
Takes (refused_for f) old new r = r ≡ Err f
Takes (holds ws xs) old new r = (r ≡ Ok (length ws, named xs)) × (new ≡ sets old 0 ws)
