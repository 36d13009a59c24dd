-- A line, as the code takes it. Definitions only, for the contracts of inner functions; `proofs/` ties them to `Lines`.
--   kind_of      the closing 0, a comment, or another line, by its fields
--   numbers_in   the numbers of a line's fields, where they are numbers
-- Assumes nothing.
use Rattle.std.specs.Prelude.{◌&&◌, List, [], ◌∷◌, map, ℕ, Option}
use Rattle.meaning.specs.Foundedness.{same_list}
use Rattle.text.specs.Text.{pick, runs, number}
use Rattle.aspif.specs.Lines.{is_nil}
use Rattle.aspif_scan.specs.declared.number.Number.{Number}
use Rattle.aspif_scan.specs.declared.kind.Kind.{Kind}
use Rattle.aspif_scan.specs.declared.kind.Kind.TheVariants.{Closing, Comment, Other}
use Rattle.aspif_scan.specs.Number.{number_in}

-- by the first field: 48 is the digit 0, and 49 48 are those of 10
abbrev pub kind_of : List (List ℕ) → Kind
kind_of [] = Other
kind_of (f ∷ fs) = pick (same_list f (48 ∷ []) && is_nil fs) Closing (pick (same_list f (49 ∷ 48 ∷ [])) Comment Other)

abbrev pub number_of : List ℕ → Option Number
number_of f = number_in (number f)

unfoldable pub numbers_in : List ℕ → List (Option Number)
numbers_in line = map number_of (runs line)
