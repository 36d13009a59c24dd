-- What `store` promises (02, Wish 12). Definitions only: to be believed.
--   plainly           the stored form of an accepted table, with empty names
--   StoreRefused      01's refusals without 10, and "at the end a byte buffer too short 16"
--   Stores            the whole promise, for every input
-- Assumes nothing.
use Rattle.std.specs.Prelude.{◌≡◌, ◌↔◌, List, ◌++◌, ℕ, ◌≤◌, ◌<◌, ℤ, length, take, drop, Result, Ok, Err}
use Rattle.results.specs.Results.{number_of, place_of}
use Rattle.results.specs.declared.Refusal.{Refusal}
use Rattle.table.specs.Contents.{Contents}
use Rattle.judging.specs.declared.Buffer.TheVariants.{Nothing}
use Rattle.judging.specs.Refusals.{Accepted, Refused}
use Rattle.stored.specs.Bytes.{stored, no_names, holds, read_bytes}

-- the stored form of an accepted table, "with empty names"
abbrev pub plainly : Contents → List ℕ
plainly c = stored c (no_names c.atoms)

pub data StoreRefused (t : List ℤ) (room number place : ℕ) : Type 0 where
  before : Refused t Nothing number place → StoreRefused t room number place
  short : (c : Contents) → Accepted t Nothing c → room < length (plainly c) → number ≡ 16 → place ≡ 0 → StoreRefused t room number place

-- old is the buffer before, new after
pub record Stores (t : List ℤ) (old new : List ℕ) (r : Result ℕ Refusal) : Type 0 where
  -- refused exactly with these, and then nothing is written
  pub refused : (f : Refusal) → (r ≡ Err f) ↔ StoreRefused t (length old) (number_of f) (place_of f)
  pub untouched : (f : Refusal) → r ≡ Err f → new ≡ old
  -- an accepted table whose bytes have room: how many, the bytes at the front, the rest of the buffer kept
  pub wrote : (c : Contents) → Accepted t Nothing c → length (plainly c) ≤ length old → (r ≡ Ok (length (plainly c))) × (new ≡ plainly c ++ drop (length (plainly c)) old)
  -- "Old to new to old gives the same words": of the bytes that were written
  pub back : (n : ℕ) → r ≡ Ok n → (c : Contents) × Accepted t Nothing c × (read_bytes (take n new) ≡ holds t (no_names c.atoms))
