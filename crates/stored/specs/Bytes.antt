-- The stored form (02, Wish 12): "The new form is bytes, with the same sections in the same order". The grammar is that of the words (`table`'s `Grammar`);
-- here stands how a number of each role lies in bytes, where the names stand, and how bytes are read from the left. Definitions only: to be believed.
--   number_bytes role w    the bytes of the number w
--   stored c names        the bytes of the contents c with these names
--   step_of role i bs      the number of this role at the front of the bytes bs, whose first has place i; or the refusal
--   read_bytes bs          the words and the names that the bytes hold, or 02's refusal: numbers from the left, then 3
-- Assumes nothing.
use Rattle.std.specs.Prelude.{Bool, true, false, List, [], ◌∷◌, ◌++◌, ℕ, zero, suc, ◌+◌, ◌-◌, ◌*◌, ◌/◌, ◌%◌, ◌≤◌, ◌<◌, leb, ℤ, pos, negsuc, neg_ℤ, nat_abs, length, take, drop}
use Rattle.std.proofs.Math.Option.{Option, none, some}
use Rattle.meaning.specs.Cond.{if_lt, if_eq}
use Rattle.results.specs.declared.Refusal.{Refusal}
use Rattle.results.specs.declared.Refusal.TheVariants.{Absent, Trailing}
use Rattle.table.specs.Roles.{Role, count, quantity, member, fault, Format, done, word, ◌>>=◌}
use Rattle.table.specs.Contents.{Contents, encode}
use Rattle.table.specs.Grammar.{aggregates, rules}

-- ---- a number in bytes

-- "2-byte counts and numbers, low byte first"
abbrev pub two : ℕ → List ℕ
two n = n % 256 ∷ n / 256 % 256 ∷ []

abbrev pub four : ℕ → List ℕ
four n = n % 256 ∷ n / 256 % 256 ∷ n / 256 / 256 % 256 ∷ n / 256 / 256 / 256 % 256 ∷ []

-- "4-byte thresholds in two's complement": -1 - n is 2^32 - 1 - n
abbrev pub complement : ℤ → ℕ
complement (pos n) = n
complement (negsuc n) = 4294967295 - n

abbrev pub from_complement : ℕ → ℤ
from_complement n = if_lt n 2147483648 (pos n) (negsuc (4294967295 - n))

-- "an aggregate literal is twice its number, plus one if negated"
abbrev pub twice : ℤ → ℕ
twice (pos n) = 2 * n
twice (negsuc n) = 2 * suc n + 1

abbrev pub from_twice : ℕ → ℤ
from_twice n = if_eq (n % 2) 0 (pos (n / 2)) (neg_ℤ (pos (n / 2)))

-- each role's form; a quantity that may be below 0 is a threshold, a member that may be is an aggregate literal
abbrev pub number_bytes : Role → ℤ → List ℕ
number_bytes (count most) w = two (nat_abs w)
number_bytes (quantity (pos low) high) w = two (nat_abs w)
number_bytes (quantity (negsuc low) high) w = four (complement w)
number_bytes (member false top previous) w = two (nat_abs w)
number_bytes (member true top previous) w = two (twice w)

-- ---- the whole

-- the words of a format, each in the bytes of its role
unfoldable pub laid : {A : Type 0} → Format A → List ℤ → List ℕ
laid (done x) ws = []
laid (word role next) [] = []
laid (word role next) (w ∷ ws) = number_bytes role w ++ laid (next w) ws

-- what follows the names of n atoms: aggregates and rules, as in the words
unfoldable pub sections : ℕ → Format Contents
sections n = do
  gs ← aggregates n
  rs ← rules n (length gs)
  done (record { atoms = n; aggregates = gs; rules = rs })

-- "after N comes, for each atom, a name's length (0 to 32) and its bytes"
abbrev pub names_bytes : List (List ℕ) → List ℕ
names_bytes [] = []
names_bytes (x ∷ names) = two (length x) ++ (x ++ names_bytes names)

unfoldable pub stored : Contents → List (List ℕ) → List ℕ
stored c names = two c.atoms ++ (names_bytes names ++ laid (sections c.atoms) (drop 1 (encode c)))

abbrev pub Bytes : List ℕ → Type 0
Bytes [] = Unit {0}
Bytes (b ∷ bs) = (b < 256) × Bytes bs

-- names of at most 32 bytes
abbrev pub Short : List (List ℕ) → Type 0
Short [] = Unit {0}
Short (x ∷ names) = (length x ≤ 32) × Bytes x × Short names

-- "with empty names"
abbrev pub no_names : ℕ → List (List ℕ)
no_names zero = []
no_names (suc n) = [] ∷ no_names n

-- whether some name is not empty
abbrev pub named : List (List ℕ) → Bool
named [] = false
named ([] ∷ names) = named names
named ((b ∷ bs) ∷ names) = true

-- ---- bytes from the left

-- the first bytes as a number, and the bytes after them; or they are not all there
pub data Number : Type 0 where
  cut : Number
  whole : ℕ → List ℕ → Number

abbrev pub two_of : List ℕ → Number
two_of [] = cut
two_of (a ∷ []) = cut
two_of (a ∷ b ∷ bs) = whole (a + 256 * b) bs

abbrev pub four_of : List ℕ → Number
four_of [] = cut
four_of (a ∷ []) = cut
four_of (a ∷ b ∷ []) = cut
four_of (a ∷ b ∷ c ∷ []) = cut
four_of (a ∷ b ∷ c ∷ d ∷ bs) = whole (a + 256 * b + 65536 * c + 16777216 * d) bs

-- a number that was read, the next place, and the bytes from there on; or the refusal
pub data Step : Type 0 where
  stop : Refusal → Step
  go : ℤ → ℕ → List ℕ → Step

-- 01's test of a word, at the place of the number's first byte
abbrev pub tested : Option Refusal → ℤ → ℕ → List ℕ → Step
tested none w j bs = go w j bs
tested (some r) w j bs = stop r

-- "a number or name that is not there whole is 2 at its first byte"
abbrev pub step_by : Role → ℕ → ℕ → (ℕ → ℤ) → Number → Step
step_by role i width value cut = stop (Absent i)
step_by role i width value (whole n bs) = tested (fault role i (value n)) (value n) (i + width) bs

unfoldable pub step_of : Role → ℕ → List ℕ → Step
step_of (count most) i bs = step_by (count most) i 2 pos (two_of bs)
step_of (quantity (pos low) high) i bs = step_by (quantity (pos low) high) i 2 pos (two_of bs)
step_of (quantity (negsuc low) high) i bs = step_by (quantity (negsuc low) high) i 4 from_complement (four_of bs)
step_of (member false top previous) i bs = step_by (member false top previous) i 2 pos (two_of bs)
step_of (member true top previous) i bs = step_by (member true top previous) i 2 from_twice (two_of bs)

-- the words of a format, with the next place and the bytes from there on; or the first refusal
pub data Scan : Type 0 where
  refused : Refusal → Scan
  taken : List ℤ → ℕ → List ℕ → Scan

abbrev pub after : ℤ → Scan → Scan
after w (refused r) = refused r
after w (taken ws i bs) = taken (w ∷ ws) i bs

unfoldable pub scan : {A : Type 0} → Format A → ℕ → List ℕ → Scan
scan (done x) i bs = taken [] i bs
scan (word role next) i bs = elim (step_of role i bs) [ stop r ↦ refused r | go w j rest ↦ after w (scan (next w) j rest) ]

-- the names of n atoms: "a name's length above 32 is 4"
pub data Names : Type 0 where
  nameless : Refusal → Names
  names : List (List ℕ) → ℕ → List ℕ → Names

abbrev pub name_first : List ℕ → Names → Names
name_first x (nameless r) = nameless r
name_first x (names xs i bs) = names (x ∷ xs) i bs

-- a name of n bytes, whose first has place i
pub data Name : Type 0 where
  unread : Refusal → Name
  name : List ℕ → ℕ → List ℕ → Name

abbrev pub name_by : Bool → ℕ → ℕ → List ℕ → Name
name_by true n i bs = name (take n bs) (i + n) (drop n bs)
name_by false n i bs = unread (Absent i)

abbrev pub name_after : Step → Name
name_after (stop r) = unread r
name_after (go w i bs) = name_by (leb (nat_abs w) (length bs)) (nat_abs w) i bs

unfoldable pub name_of : ℕ → List ℕ → Name
name_of i bs = name_after (step_of (count 32) i bs)

unfoldable pub names_of : ℕ → ℕ → List ℕ → Names
names_of zero i bs = names [] i bs
names_of (suc n) i bs = elim (name_of i bs) [ unread r ↦ nameless r | name x j rest ↦ name_first x (names_of n j rest) ]

-- ---- the whole, read

pub data Reading : Type 0 where
  refused_for : Refusal → Reading
  holds : List ℤ → List (List ℕ) → Reading

-- "then 3 at the first byte too many"
abbrev pub ended : ℤ → List (List ℕ) → Scan → Reading
ended n xs (refused r) = refused_for r
ended n xs (taken ws i []) = holds (n ∷ ws) xs
ended n xs (taken ws i (b ∷ bs)) = refused_for (Trailing i)

abbrev pub sections_after : ℤ → Names → Reading
sections_after n (nameless r) = refused_for r
sections_after n (names xs i bs) = ended n xs (scan (sections (nat_abs n)) i bs)

abbrev pub names_after : Step → Reading
names_after (stop r) = refused_for r
names_after (go n i bs) = sections_after n (names_of (nat_abs n) i bs)

unfoldable pub read_bytes : List ℕ → Reading
read_bytes bs = names_after (step_of (count 256) 0 bs)
