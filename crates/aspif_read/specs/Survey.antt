-- The first pass, as the code does it. Definitions only, for the contracts of inner functions; `proofs/` ties them to `Lines`.
--   line_length    how many bytes a line has that begins here
--   judged_line    a line that is neither the closing 0 nor a comment: outside the subset, beyond the ranges, or a rule with the words it takes
--   after_line     the table so far after one line more
--   survey_from    the table of all lines, or the line of a refusal
-- Assumes nothing.
use Rattle.std.specs.Prelude.{Bool, true, false, ◌&&◌, not, List, [], ◌∷◌, ℕ, suc, ◌+◌, ◌*◌, ◌≤◌, max, eqb, leb, length, replicate, Option, Some, None, Result, Ok, Err}
use Rattle.text.specs.Text.{pick, runs}
use Rattle.aspif_scan.specs.declared.machine.Stage.{Stage}
use Rattle.aspif_scan.specs.declared.machine.Stage.TheVariants.{Rule, Disjunction, HeadCount, Head, Body, LiteralCount, Literal, Bound, PairCount, Pair, Weight, NormalEnd, WeightEnd, Outside}
use Rattle.aspif_scan.specs.declared.machine.State.{State}
use Rattle.aspif_scan.specs.declared.kind.Kind.{Kind}
use Rattle.aspif_scan.specs.declared.kind.Kind.TheVariants as kind
use Rattle.aspif_scan.specs.Machine.{start_of, read_by}
use Rattle.aspif_scan.specs.Marks.{marks_by, row_from, light_from}
use Rattle.aspif_scan.specs.Scan.{kind_of, numbers_in}
use Rattle.results.specs.declared.Refusal.{Refusal}
use Rattle.results.specs.declared.Refusal.TheVariants.{OutsideSubset, BeyondRange}
use Rattle.aspif_read.specs.declared.judge.Judged.{Judged}
use Rattle.aspif_read.specs.declared.judge.Fault.{Fault}
use Rattle.aspif_read.specs.declared.judge.Fault.TheVariants as fault
use Rattle.aspif_read.specs.declared.survey.Totals.{Totals}

-- 10 is a newline
unfoldable pub line_length : List ℕ → ℕ
line_length [] = 0
line_length (b ∷ bs) = elim (eqb b 10) [ true ↦ 0 | false ↦ suc (line_length bs) ]

-- ---- one line

abbrev pub is_whole : Stage → Bool
is_whole Rule = false
is_whole Disjunction = false
is_whole HeadCount = false
is_whole Head = false
is_whole Body = false
is_whole LiteralCount = false
is_whole Literal = false
is_whole Bound = false
is_whole PairCount = false
is_whole Pair = false
is_whole Weight = false
is_whole NormalEnd = true
is_whole WeightEnd = true
is_whole Outside = false

abbrev pub weighs : Stage → ℕ
weighs Rule = 0
weighs Disjunction = 0
weighs HeadCount = 0
weighs Head = 0
weighs Body = 0
weighs LiteralCount = 0
weighs Literal = 0
weighs Bound = 0
weighs PairCount = 0
weighs Pair = 0
weighs Weight = 0
weighs NormalEnd = 0
weighs WeightEnd = 1
weighs Outside = 0

abbrev pub no_marks : List ℕ
no_marks = replicate 1280 0

-- how many atoms a row has
abbrev pub count_of : List ℕ → ℕ → ℕ
count_of m row = length (row_from m (row * 256) 1 256)

abbrev pub few_of : List ℕ → Bool
few_of m = leb (count_of m 0) 16 && (leb (count_of m 1) 64 && (leb (count_of m 2) 64 && leb (count_of m 3) 64))

-- the words that a rule takes for its own aggregate: none, or its literal, four words and two for each element
unfoldable pub own_words : ℕ → ℕ → ℕ
own_words own elements = pick (eqb own 0) 0 (5 + 2 * elements)

abbrev pub words_of : ℕ → List ℕ → ℕ
words_of own m = 4 + count_of m 0 + count_of m 1 + count_of m 2 + own_words own (count_of m 3)

-- a rule with so many words and aggregates, and this highest atom
abbrev pub rule_of : ℕ → ℕ → ℕ → Result Judged Fault
rule_of w a p = Ok (record { words = w; aggregates = a; top = p })

unfoldable pub judged_of : State → List ℕ → Result Judged Fault
judged_of s m =
    pick (not (is_whole s.stage)) (Err fault.Outside) (pick (not (s.within && (few_of m && light_from m 1024 256))) (Err fault.Beyond) (rule_of (words_of (weighs s.stage) m) (weighs s.stage) s.top))

abbrev pub state_of : List ℕ → State
state_of line = read_by start_of (numbers_in line)

abbrev pub marks_of : List ℕ → List ℕ
marks_of line = marks_by start_of (numbers_in line) no_marks

unfoldable pub judged_line : List ℕ → Result Judged Fault
judged_line line = judged_of (state_of line) (marks_of line)

-- ---- the table so far

-- no rules: three counts
abbrev pub no_rules : Totals
no_rules = record { words = 3; aggregates = 0; rules = 0; top = 0 }

abbrev pub with_rule : Totals → ℕ → ℕ → ℕ → Totals
with_rule t words aggregates top = record { words = t.words + words; aggregates = t.aggregates + aggregates; rules = t.rules + 1; top = max t.top top }

abbrev pub in_range : Totals → Bool
in_range t = leb t.aggregates 64 && (leb t.rules 1024 && leb t.words 16384)

pub record Fitting (t : Totals) : Type 0 where
  pub words : t.words ≤ 16384
  pub aggregates : t.aggregates ≤ 64
  pub rules : t.rules ≤ 1024
  pub top : t.top ≤ 256

abbrev pub next_of : Totals → Result (Option Totals) Fault
next_of t = pick (in_range t) (Ok (Some t)) (Err fault.Beyond)

abbrev pub after_rule : Totals → Result Judged Fault → Result (Option Totals) Fault
after_rule t (Ok r) = next_of (with_rule t r.words r.aggregates r.top)
after_rule t (Err f) = Err f

-- the closing 0 has no table after it
abbrev pub after_kind : Totals → List ℕ → Kind → Result (Option Totals) Fault
after_kind t line kind.Closing = Ok None
after_kind t line kind.Comment = Ok (Some t)
after_kind t line kind.Other = after_rule t (judged_line line)

unfoldable pub after_line : Totals → List ℕ → Result (Option Totals) Fault
after_line t line = after_kind t line (kind_of (runs line))

-- the refusal of line k
abbrev pub refusal_of : Fault → ℕ → Refusal
refusal_of fault.Beyond k = BeyondRange k
refusal_of fault.Outside k = OutsideSubset k

-- nothing may follow the closing 0
abbrev pub closed_of : ℕ → Totals → List (List ℕ) → Result Totals Refusal
closed_of k t [] = Ok t
closed_of k t (l ∷ ls) = Err (OutsideSubset k)

-- the lines from line k on
unfoldable pub survey_from : ℕ → Totals → List (List ℕ) → Result Totals Refusal
survey_from k t [] = Err (OutsideSubset k)
survey_from k t (l ∷ ls) =
    elim (after_line t l) [
      | Ok next ↦ elim next [ Some u ↦ survey_from (suc k) u ls | None ↦ closed_of (suc k) t ls ]
      | Err f ↦ Err (refusal_of f k)
    ]
