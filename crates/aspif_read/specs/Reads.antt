-- What reading aspif promises (02, Wish 2). Definitions only: to be believed.
--   Reads        the contract of `read`: 25 "a word buffer below 16,384 words, first"; 14 and 15 with the line as `read_text` has them; otherwise
--                the words are those of what was read, a table that 1 to 7 accept and whose program has exactly the answer sets of the text
-- Assumes nothing.
use Rattle.std.specs.Prelude.{◌≡◌, ◌↔◌, Bool, true, false, List, ℕ, ltb, ℤ, length, Result, Ok, Err}
use Rattle.std.proofs.Math.Option.{some}
use Rattle.meaning.specs.Aggregates.{Atoms}
use Rattle.meaning.specs.Answers.{AnswerSet}
use Rattle.results.specs.declared.Refusal.{Refusal}
use Rattle.results.specs.declared.Refusal.TheVariants.{OutsideSubset, BeyondRange, ShortWords}
use Rattle.text.specs.Text.{over}
use Rattle.table.specs.Contents.{encode, program}
use Rattle.table.specs.Grammar.{contents_of, accepted as acceptedTable}
use Rattle.aspif.specs.Statements.{Statement, meant}
use Rattle.aspif.specs.Reading as R
use Rattle.aspif.specs.Lines.{Outcome, accepted, refused14, refused15, read_text, said}

-- a refusal: nothing is written
pub record Refuses (old : List ℤ) (why : Refusal) (r : Result ℕ Refusal) (new : List ℤ) : Type 0 where
  pub result : r ≡ Err why
  pub kept : new ≡ old

-- an accepted text: its statements ss are what it says
pub record Accepts (text : List ℕ) (old : List ℤ) (ss : List Statement) (r : Result ℕ Refusal) (new : List ℤ) : Type 0 where
  -- the number of words, the words at the front, the rest of the buffer kept
  pub result : r ≡ Ok (length (encode (R.read ss)))
  pub words : new ≡ over (encode (R.read ss)) old
  -- what the text says, and that the words are a table of ours
  pub says : said text ≡ some ss
  pub table : contents_of (encode (R.read ss)) ≡ acceptedTable (R.read ss)
  -- "What it accepts has exactly the answer sets of the text"
  pub answers : (X : Atoms) → AnswerSet (program (R.read ss)) X ↔ AnswerSet (meant ss) X

abbrev pub ReadsAs : List ℕ → List ℤ → Outcome → Result ℕ Refusal → List ℤ → Type 0
ReadsAs text old (accepted ss) r new = Accepts text old ss r new
ReadsAs text old (refused14 k) r new = Refuses old (OutsideSubset k) r new
ReadsAs text old (refused15 k) r new = Refuses old (BeyondRange k) r new

-- 25 comes first
abbrev pub ReadsFirst : Bool → List ℕ → List ℤ → Result ℕ Refusal → List ℤ → Type 0
ReadsFirst true text old r new = Refuses old ShortWords r new
ReadsFirst false text old r new = ReadsAs text old (read_text text) r new

unfoldable pub Reads : List ℕ → List ℤ → Result ℕ Refusal → List ℤ → Type 0
Reads text old r new = ReadsFirst (ltb (length old) 16384) text old r new
