-- What `show` promises. Definitions only: to be believed.
--   Laying     what writing a text into a buffer comes to: the whole text, or 16 and nothing
--   Shows      the whole promise, for every input: 1 to 7 as the reader gives them, then 16
-- The text is `text_of c` of crate `notation`, where c is what the words hold.
-- Assumes nothing.
use Rattle.std.specs.Prelude.{◌≡◌, List, ◌++◌, ℕ, ◌≤◌, ◌<◌, ℤ, length, take, drop, Result, Ok, Err}
use Rattle.results.specs.declared.Refusal.{Refusal}
use Rattle.results.specs.declared.Refusal.TheVariants.{ShortBuffer}
use Rattle.table.specs.Contents.{Contents}
use Rattle.table.specs.Grammar.{accepted, refused_for, contents_of}
use Rattle.notation.specs.Notation.{text_of}
use Rattle.notation.specs.Reading.{words, read_text}

pub record Laying (text old new : List ℕ) (r : Result ℕ Refusal) : Type 0 where
  pub fits : length text ≤ length old → (r ≡ Ok (length text)) × (new ≡ text ++ drop (length text) old)
  pub short : length old < length text → (r ≡ Err ShortBuffer) × (new ≡ old)

-- old is the buffer before, new after
pub record Shows (t : List ℤ) (old new : List ℕ) (r : Result ℕ Refusal) : Type 0 where
  -- refused as the reader refuses, and then nothing is written
  pub refused : (f : Refusal) → contents_of t ≡ refused_for f → (r ≡ Err f) × (new ≡ old)
  -- the text of what the words hold, if there is room for it
  pub wrote : (c : Contents) → contents_of t ≡ accepted c → Laying (text_of c) old new r
  -- what was written is read back as the words
  pub back : (n : ℕ) → r ≡ Ok n → read_text (take n new) ≡ words t
