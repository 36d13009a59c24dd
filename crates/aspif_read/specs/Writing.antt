-- The second and third pass, as the code does them. Definitions only, for the contracts of inner functions; `proofs/` ties them to `Reading`.
--   Put           words stored from an index on, as far as there is room, and the index after them
--   section_from   the words of all lines' aggregates, or of all lines' rules
--   table_from     the words of the table
-- Assumes nothing.
use Rattle.std.specs.Prelude.{◌≡◌, Bool, true, false, List, [], ◌∷◌, ◌++◌, ℕ, ◌+◌, ◌≤◌, min, eqb, ℤ, pos, length, get_or}
use Rattle.std.proofs.Math.IntN.{pred_ℤ}
use Rattle.std.proofs.lemmas.List.Edits.{sets}
use Rattle.text.specs.Text.{pick, runs}
use Rattle.table.specs.Contents.{encode_atoms, encode_elements}
use Rattle.aspif_scan.specs.declared.machine.State.{State}
use Rattle.aspif_scan.specs.declared.kind.Kind.{Kind}
use Rattle.aspif_scan.specs.declared.kind.Kind.TheVariants as kind
use Rattle.aspif_scan.specs.Marks.{row_from, weights_from}
use Rattle.aspif_scan.specs.Scan.{kind_of}
use Rattle.aspif_read.specs.declared.survey.Totals.{Totals}
use Rattle.aspif_read.specs.declared.putting.Next.{Next}
use Rattle.aspif_read.specs.declared.taking.Taken.{Taken}
use Rattle.aspif_read.specs.Survey.{weighs, count_of, state_of, marks_of, judged_line}

pub record Put (old : List ℤ) (at : ℕ) (words : List ℤ) (to : ℕ) (new : List ℤ) : Type 0 where
  pub ends : to ≡ min (at + length words) (length old)
  pub has : new ≡ sets old at words

-- the same, with the number of aggregates before what follows
pub record Wrote (old : List ℤ) (at : ℕ) (words : List ℤ) (before : ℕ) (to : Next) (new : List ℤ) : Type 0 where
  pub put : Put old at words to.at new
  pub next : to.before ≡ before

-- no number of the marks is above 65,536
abbrev pub Capped : List ℕ → Type 0
Capped m = (i : ℕ) → get_or m i 0 ≤ 65536

-- ---- a statement

-- 1 for sum, 1 for greater, the threshold, the elements after their count
unfoldable pub aggregate_words : ℕ → List ℕ → List ℤ
aggregate_words bound m = pos 1 ∷ pos 1 ∷ pred_ℤ (pos bound) ∷ pos (count_of m 3) ∷ encode_elements (weights_from m 768 1 256)

-- none, or the aggregate after `before` others
unfoldable pub literal_words : ℕ → ℕ → List ℤ
literal_words own before = pick (eqb own 0) (pos 0 ∷ []) (pos 1 ∷ pos (before + 1) ∷ [])

unfoldable pub rule_words : ℕ → ℕ → List ℕ → List ℤ
rule_words own before m = encode_atoms (row_from m 0 1 256) ++ (encode_atoms (row_from m 256 1 256) ++ (encode_atoms (row_from m 512 1 256) ++ literal_words own before))

abbrev pub own_words : ℕ → State → List ℕ → List ℤ
own_words own s m = pick (eqb own 0) [] (aggregate_words s.bound m)

unfoldable pub statement_words : Bool → ℕ → List ℕ → List ℤ
statement_words rules before line =
    pick rules (rule_words (weighs (state_of line).stage) before (marks_of line)) (own_words (weighs (state_of line).stage) (state_of line) (marks_of line))

unfoldable pub weighed_line : List ℕ → ℕ
weighed_line line = weighs (state_of line).stage

-- what one call takes from a statement: its judgement, and then nothing is asked of the words; or what it adds to a section
pub record Takes (judging rules : Bool) (before : ℕ) (line : List ℕ) (old : List ℤ) (at : ℕ) (r : Taken) (new : List ℤ) : Type 0 where
  pub judges : judging ≡ true → r.judged ≡ judged_line line
  pub puts : judging ≡ false → Put old at (statement_words rules before line) r.at new
  pub next : judging ≡ false → r.before ≡ before + weighed_line line

-- ---- a section

abbrev pub kind_words : Bool → ℕ → List ℕ → Kind → List ℤ
kind_words rules before line kind.Closing = []
kind_words rules before line kind.Comment = []
kind_words rules before line kind.Other = statement_words rules before line

unfoldable pub line_words : Bool → ℕ → List ℕ → List ℤ
line_words rules before line = kind_words rules before line (kind_of (runs line))

abbrev pub kind_aggregates : List ℕ → Kind → ℕ
kind_aggregates line kind.Closing = 0
kind_aggregates line kind.Comment = 0
kind_aggregates line kind.Other = weighed_line line

unfoldable pub line_aggregates : List ℕ → ℕ
line_aggregates line = kind_aggregates line (kind_of (runs line))

-- the aggregates of all lines
abbrev pub weighed_in : List (List ℕ) → ℕ
weighed_in [] = 0
weighed_in (l ∷ ls) = line_aggregates l + weighed_in ls

-- after `before` aggregates
abbrev pub section_from : Bool → ℕ → List (List ℕ) → List ℤ
section_from rules before [] = []
section_from rules before (l ∷ ls) = line_words rules before l ++ section_from rules (before + line_aggregates l) ls

unfoldable pub table_from : Totals → List (List ℕ) → List ℤ
table_from t ls = pos t.top ∷ pos t.aggregates ∷ (section_from false 0 ls ++ (pos t.rules ∷ section_from true 0 ls))
