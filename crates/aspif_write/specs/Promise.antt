-- What `write` promises (02, "Write aspif"). Definitions only: to be believed.
--   WriteRefused    01's refusals without 10, and after 9 "16 the lent text buffer is too short for the whole text"
--   Writes          the whole promise, for every input
-- The text is `text_of (written c)` of crate `aspif`, where c is what the words hold; what a text says and means, `said` and `meant`, and what reading it
-- gives, `read_text` and `read`, stand there too.
-- Assumes nothing.
use Rattle.std.specs.Prelude.{◌≡◌, ◌↔◌, List, ◌++◌, ℕ, ◌≤◌, ◌<◌, ℤ, length, take, drop, Result, Ok, Err}
use Rattle.std.proofs.Math.Option.{some}
use Rattle.results.specs.Results.{number_of, place_of}
use Rattle.results.specs.declared.Refusal.{Refusal}
use Rattle.table.specs.Contents.{Contents, encode, program}
use Rattle.judging.specs.declared.Buffer.TheVariants.{Nothing}
use Rattle.judging.specs.Refusals.{Accepted, Refused}
use Rattle.aspif.specs.Statements.{Statement, meant}
use Rattle.aspif.specs.Reading.{read}
use Rattle.aspif.specs.Writing.{written}
use Rattle.aspif.specs.Lines.{accepted, read_text, said, text_of}
use Rattle.aspif.specs.Promises.{SameAnswers, Whole}

-- no buffer stands in the place of 10: "it follows 01's order after 9"
pub data WriteRefused (t : List ℤ) (room number place : ℕ) : Type 0 where
  before : Refused t Nothing number place → WriteRefused t room number place
  short : (c : Contents) → Accepted t Nothing c → room < length (text_of (written c)) → number ≡ 16 → place ≡ 0 → WriteRefused t room number place

-- old is the buffer before, new after
pub record Writes (t : List ℤ) (old new : List ℕ) (r : Result ℕ Refusal) : Type 0 where
  -- refused exactly with these, and then nothing is written
  pub refused : (f : Refusal) → (r ≡ Err f) ↔ WriteRefused t (length old) (number_of f) (place_of f)
  pub untouched : (f : Refusal) → r ≡ Err f → new ≡ old
  -- an accepted table whose text has room: "returns how much it wrote and keeps the rest of the buffer" (01)
  pub wrote : (c : Contents) → Accepted t Nothing c → length (text_of (written c)) ≤ length old
      → (r ≡ Ok (length (text_of (written c)))) × (new ≡ text_of (written c) ++ drop (length (text_of (written c))) old)
  -- "Restricted to atoms 1 to N, the answer sets of the text are those of the table, each from exactly one of the text's": of the bytes that were written
  pub means : (n : ℕ) → r ≡ Ok n → (c : Contents) × Accepted t Nothing c × ((ss : List Statement) × (said (take n new) ≡ some ss) × SameAnswers c.atoms (program c) (meant ss))
  -- "For tables with no aggregates where N is 0 or atom N occurs in a rule, reading the text back gives the same words"
  pub back : (n : ℕ) → r ≡ Ok n → (c : Contents) → Accepted t Nothing c → Whole c → (ss : List Statement) × (read_text (take n new) ≡ accepted ss) × (encode (read ss) ≡ t)
