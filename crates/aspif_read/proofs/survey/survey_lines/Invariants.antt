-- `aspif_read::survey::survey_lines` meets its contract. Assumes nothing.
use Rattle.aspif_read.specs.Survey.{Fitting, no_rules, survey_from}
use Rattle.aspif.specs.Lines.{lines_of}
use lib.ListN.{length, drop}
use Prim.Native.Nat.{◌-◌, ◌≤◌}
use mathlib.Core.Path.{◌≡◌}
use Rattle.aspif_read.proofs.survey.survey_lines.Given as goal

abbrev pub invariant-loop-at : goal.invariant-loop-at
invariant-loop-at l = (l.at ≤ length l.text) × (l.k ≤ l.at) × Fitting l.t × (survey_from l.k l.t (lines_of (drop l.at l.text)) ≡ survey_from 2 no_rules (lines_of (drop l.from l.text)))

abbrev pub decreases-loop-at : goal.decreases-loop-at
decreases-loop-at l = length l.text - l.at
