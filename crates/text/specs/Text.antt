-- What a text says (01, "The text program reads standard input: decimal numbers, a minus sign allowed, parted by spaces or newlines; first the
-- limit, then the words"): bytes give a limit and words, or a refusal. Definitions only: to be believed.
--   runs bs         the runs of bytes between spaces and newlines, in their order
--   number run      the number that a run writes, or none: "a run that isn't one or more digits after at most one minus"
--   limit run       a number of 0 to 4,294,967,295, or none
--   word run        a number of signed 32 bits, or none
--   text_of bs       the limit and the words; or refusal 13; or refusal 12 with the first bad number, from 0
--   ReadAs          the contract of `read`: what it returns of that, and what it leaves in the buffer of words
-- Assumes nothing.
use Rattle.std.specs.Prelude.{◌≡◌, Bool, true, false, ◌&&◌, ◌||◌, List, [], ◌∷◌, ◌++◌, ℕ, suc, ◌+◌, ◌*◌, ◌-◌, eqb, leb, ltb, ℤ, pos, negsuc, neg_ℤ, length, Result, Ok, Err}
use Rattle.std.proofs.Math.Option.{Option, some, none}
use Rattle.results.specs.declared.Refusal.{Refusal}
use Rattle.results.specs.declared.Refusal.TheVariants.{BadNumber, TooManyBytes}

abbrev pub pick : {A : Type 0} → Bool → A → A → A
pick true a b = a
pick false a b = b

-- ---- "parted by spaces or newlines": any other byte belongs to a run

unfoldable pub parting : ℕ → Bool
parting b = eqb b 32 || eqb b 10

-- a run that has ended, before those that follow; no bytes are no run
abbrev pub ended : List ℕ → List (List ℕ) → List (List ℕ)
ended [] rs = rs
ended (b ∷ run) rs = (b ∷ run) ∷ rs

-- the runs, where `run` has been read of the present one
unfoldable pub runs_from : List ℕ → List ℕ → List (List ℕ)
runs_from run [] = ended run []
runs_from run (b ∷ bs) = elim (parting b) [ true ↦ ended run (runs_from [] bs) | false ↦ runs_from (run ++ (b ∷ [])) bs ]

abbrev pub runs : List ℕ → List (List ℕ)
runs bs = runs_from [] bs

-- ---- "one or more digits after at most one minus"

unfoldable pub digit : ℕ → Bool
digit b = leb 48 b && leb b 57

-- digits after such as come to v; none where a byte is no digit
unfoldable pub digits_from : ℕ → List ℕ → Option ℕ
digits_from v [] = some v
digits_from v (b ∷ bs) = elim (digit b) [ true ↦ digits_from (v * 10 + (b - 48)) bs | false ↦ none ]

-- one or more
abbrev pub digits : List ℕ → Option ℕ
digits [] = none
digits (b ∷ bs) = digits_from 0 (b ∷ bs)

abbrev pub plain : Option ℕ → Option ℤ
plain none = none
plain (some n) = some (pos n)

abbrev pub negative : Option ℕ → Option ℤ
negative none = none
negative (some n) = some (neg_ℤ (pos n))

unfoldable pub number : List ℕ → Option ℤ
number [] = none
number (b ∷ bs) = pick (eqb b 45) (negative (digits bs)) (plain (digits (b ∷ bs)))

-- ---- "a word outside signed 32 bits; for the limit, one .. outside 0 to 4,294,967,295" (negsuc n is -(n + 1))

abbrev pub unsigned32 : Option ℤ → Option ℕ
unsigned32 none = none
unsigned32 (some (pos n)) = pick (leb n 4294967295) (some n) none
unsigned32 (some (negsuc n)) = none

abbrev pub signed32 : Option ℤ → Option ℤ
signed32 none = none
signed32 (some (pos n)) = pick (leb n 2147483647) (some (pos n)) none
signed32 (some (negsuc n)) = pick (leb n 2147483647) (some (negsuc n)) none

unfoldable pub limit : List ℕ → Option ℕ
limit run = unsigned32 (number run)

unfoldable pub word : List ℕ → Option ℤ
word run = signed32 (number run)

-- ---- "first the limit, then the words": the first bad number decides, "which number, from 0"

pub data Words : Type 0 where
  all : List ℤ → Words
  bad_at : ℕ → Words

abbrev pub before : ℤ → Words → Words
before z (all zs) = all (z ∷ zs)
before z (bad_at k) = bad_at k

-- the words of runs of which the first is number k
unfoldable pub words_from : ℕ → List (List ℕ) → Words
words_from k [] = all []
words_from k (run ∷ rs) = elim (word run) [ some z ↦ before z (words_from (suc k) rs) | none ↦ bad_at k ]

pub data Text : Type 0 where
  text : ℕ → List ℤ → Text
  refused : Refusal → Text

abbrev pub with_words : ℕ → Words → Text
with_words l (all zs) = text l zs
with_words l (bad_at k) = refused (BadNumber k)

abbrev pub with_limit : Option ℕ → List (List ℕ) → Text
with_limit none rs = refused (BadNumber 0)
with_limit (some l) rs = with_words l (words_from 1 rs)

-- a limit that is missing is bad, and is number 0
abbrev pub text_of_runs : List (List ℕ) → Text
text_of_runs [] = refused (BadNumber 0)
text_of_runs (run ∷ rs) = with_limit (limit run) rs

-- 13, "more than 65,536 bytes", comes before 12
unfoldable pub text_of : List ℕ → Text
text_of bs = elim (ltb 65536 (length bs)) [ true ↦ refused TooManyBytes | false ↦ text_of_runs (runs bs) ]

-- ---- what `read` returns, and what it leaves in the buffer: the words in place of its first ones and the rest kept, or all of it kept

abbrev pub reading_of : Text → Result (ℕ × ℕ) Refusal
reading_of (text l zs) = Ok (l, length zs)
reading_of (refused r) = Err r

-- words laid over the front of a buffer; there is room for all (`proofs/Callers.antt`, `words_few`)
abbrev pub over : List ℤ → List ℤ → List ℤ
over [] old = old
over (z ∷ zs) [] = []
over (z ∷ zs) (o ∷ old) = z ∷ over zs old

abbrev pub words_left : Text → List ℤ → List ℤ
words_left (text l zs) old = over zs old
words_left (refused r) old = old

-- the contract of `read`: its result, and the buffer of words after it
pub record ReadAs (bs : List ℕ) (old : List ℤ) (r : Result (ℕ × ℕ) Refusal) (new : List ℤ) : Type 0 where
  pub result : r ≡ reading_of (text_of bs)
  pub words : new ≡ words_left (text_of bs) old
