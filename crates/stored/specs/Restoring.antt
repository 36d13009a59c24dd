-- What `restore` promises (02, Wish 12). Definitions only: to be believed.
--   RestoreRefused    "before all a word buffer too short 25"; the bytes' own faults; "1 after 3", 8 and 9 of the words; "24 going back while some name isn't empty,
--                     after all faults of the table itself"
--   Encodes           the bytes are the stored form of contents within 01's ranges, with names of at most 32 bytes
--   Restores          the whole promise, for every input
-- Assumes nothing.
use Rattle.std.specs.Prelude.{◌≡◌, true, false, ◌↔◌, List, ◌++◌, ℕ, ◌≤◌, ◌<◌, ℤ, length, take, drop, Result, Ok, Err}
use Rattle.results.specs.Results.{number_of, place_of}
use Rattle.results.specs.declared.Refusal.{Refusal}
use Rattle.table.specs.Contents.{Contents, InRange, encode}
use Rattle.judging.specs.declared.Buffer.TheVariants.{Nothing}
use Rattle.judging.specs.Refusals.{Accepted, Refused}
use Rattle.stored.specs.Bytes.{stored, Short, named, holds, refused_for, read_bytes}
use Rattle.stored.specs.Promises.{plainly}

pub data RestoreRefused (bytes : List ℕ) (room number place : ℕ) : Type 0 where
  room : room < 16384 → number ≡ 25 → place ≡ 0 → RestoreRefused bytes room number place
  bytes : 16384 ≤ room → (f : Refusal) → read_bytes bytes ≡ refused_for f → number ≡ number_of f → place ≡ place_of f → RestoreRefused bytes room number place
  -- 1, 8 and 9: the bytes hold words that a table is refused for
  words : 16384 ≤ room → (ws : List ℤ) (names : List (List ℕ)) → read_bytes bytes ≡ holds ws names → Refused ws Nothing number place → RestoreRefused bytes room number place
  names : 16384 ≤ room → (ws : List ℤ) (names : List (List ℕ)) (c : Contents) → read_bytes bytes ≡ holds ws names → Accepted ws Nothing c → named names ≡ true
      → number ≡ 24 → place ≡ 0 → RestoreRefused bytes room number place

-- the bytes are the stored form of these contents and names
pub record Encodes (bytes : List ℕ) (ws : List ℤ) (names : List (List ℕ)) (c : Contents) : Type 0 where
  pub range : InRange c
  pub all : length names ≡ c.atoms
  pub short : Short names
  pub words : ws ≡ encode c
  pub stands : bytes ≡ stored c names

pub record Restores (bytes : List ℕ) (old new : List ℤ) (r : Result ℕ Refusal) : Type 0 where
  -- refused exactly with these, and then nothing is written
  pub refused : (f : Refusal) → (r ≡ Err f) ↔ RestoreRefused bytes (length old) (number_of f) (place_of f)
  pub untouched : (f : Refusal) → r ≡ Err f → new ≡ old
  -- otherwise the words at the front, the rest of the buffer kept
  pub wrote : (ws : List ℤ) (names : List (List ℕ)) (c : Contents) → 16384 ≤ length old → read_bytes bytes ≡ holds ws names → Accepted ws Nothing c → named names ≡ false
      → (r ≡ Ok (length ws)) × (new ≡ ws ++ drop (length ws) old)
  -- "New to old to new gives the same bytes when all names are empty": of the words that were written
  pub back : (n : ℕ) → r ≡ Ok n → (c : Contents) × Accepted (take n new) Nothing c × (plainly c ≡ bytes)
  -- the bytes hold words exactly if they are the stored form of contents within 01's ranges, with names of at most 32 bytes
  pub exact : (ws : List ℤ) (names : List (List ℕ)) → (read_bytes bytes ≡ holds ws names) ↔ ((c : Contents) × Encodes bytes ws names c)
