-- Reading words from the left (01, "What comes back"): "the first faulty word from the left, each word tested for 2, 4, 7, 5, 6 as far as
-- they apply to it". Definitions only: to be believed.
--   Role            what a word stands for, with its range: a count, a quantity, a member of a list
--   fault role i w  the refusal of the word w at index i, if it has one
--   Format A        what words are to come, and what is made of them: nothing more, or a word and then what its value asks for
--   run F i ws      reads F from the words ws, the first of which has index i
-- Assumes nothing.
use Rattle.std.specs.Prelude.{Bool, true, false, ◌&&◌, ◌||◌, List, [], ◌∷◌, ℕ, suc, leb, ltb, ℤ, pos, nat_abs}
use Rattle.std.proofs.Math.Option.{Option, none, some}
use Rattle.std.specs.Int.Signed.{le_z, non_neg}
use Rattle.results.specs.declared.Refusal.{Refusal}
use Rattle.results.specs.declared.Refusal.TheVariants.{Absent, Count, Number, Descent, Quantity}

-- ---- one word

pub data Role : Type 0 where
  -- "a count" of 0 to most
  count : (most : ℕ) → Role
  -- "a function, comparison, threshold or value" of low to high
  quantity : (low high : ℤ) → Role
  -- "an atom or aggregate number" of 1 to top, in a list whose previous number is `previous` (0 for the first); only aggregate literals
  -- are signed, and theirs is "the number without its sign"
  member : (signed : Bool) → (top previous : ℕ) → Role

abbrev pub within : ℤ → ℤ → ℤ → Bool
within low high w = le_z low w && le_z w high

-- "an atom or aggregate number is 0 or outside its range": it is not
abbrev pub numbers : Bool → ℕ → ℤ → Bool
numbers signed top w = (non_neg w || signed) && ltb 0 (nat_abs w) && leb (nat_abs w) top

-- the refusal where a test fails, else what comes after it
abbrev pub unless : Bool → Refusal → Option Refusal → Option Refusal
unless true r after = after
unless false r after = some r

-- 4; 7; 5 and then 6
unfoldable pub fault : Role → ℕ → ℤ → Option Refusal
fault (count most) i w = unless (within (pos 0) (pos most) w) (Count i) none
fault (quantity low high) i w = unless (within low high w) (Quantity i) none
fault (member signed top previous) i w = unless (numbers signed top w) (Number i) (unless (ltb previous (nat_abs w)) (Descent i) none)

-- ---- words from the left

pub data Format (A : Type 0) : Type 0 where
  done : A → Format A
  word : Role → (ℤ → Format A) → Format A

-- one format after another
infixl 20 ◌>>=◌
abbrev pub ◌>>=◌ : {A B : Type 0} → Format A → (A → Format B) → Format B
◌>>=◌ (done x) f = f x
◌>>=◌ (word role next) f = word role (λ w. next w >>= f)

-- what was read, with the next index and the words from there on; or the first refusal
pub data Result (A : Type 0) : Type 0 where
  read : A → ℕ → List ℤ → Result A
  refused : Refusal → Result A

-- 2, "a needed word is absent"; then the word's own tests; then what follows it
unfoldable pub run : {A : Type 0} → Format A → ℕ → List ℤ → Result A
run (done x) i ws = read x i ws
run (word role next) i [] = refused (Absent i)
run (word role next) i (w ∷ ws) = elim (fault role i w) [ none ↦ run (next w) (suc i) ws | some r ↦ refused r ]
