-- How the code offers constraints, in the terms of crate `relaxing`. Definitions only.
--   kept_from, kept_places   where the rules of a trial begin: those that have a head, and those whose numbers are kept
--   trial_of                the trial that a search's end and values stand for
--   goes_on                 what offering the rules `rest`, numbered from i on, makes of what is held
--   held_by                 and with none to come
-- Assumes nothing.
use Rattle.std.specs.Prelude.{Bool, true, false, ◌||◌, List, [], ℕ, zero, suc, ℤ}
use Rattle.meaning.specs.Lists.{cons_if}
use Rattle.meaning.specs.Aggregates.{Atoms}
use Rattle.meaning.specs.Program.{Program}
use Rattle.levels.specs.View.{row}
use Rattle.interpretation.specs.State.{true_atoms}
use Rattle.interpretation.specs.View.{valued}
use Rattle.layout.specs.declared.Table.{Table}
use Rattle.layout.specs.Layout.{past_rule, rule_at}
use Rattle.outcome.specs.declared.Ending.{Ending}
use Rattle.outcome.specs.declared.Ending.TheVariants as ending
use Rattle.relaxing.specs.Relaxing.{headed, Trial, found, nothing, stopped, Relaxed, relaxed, no_plan, after, offer}
use Rattle.relaxer.specs.declared.Offered.{Offered}

unfoldable pub kept_from : (ℕ → Bool) → List ℤ → ℕ → ℕ → ℕ → List ℕ
kept_from kept t i k zero = []
kept_from kept t i k (suc n) = cons_if (headed (rule_at t i) || kept k) i (kept_from kept t (past_rule t i) (suc k) n)

abbrev pub kept_places : (ℕ → Bool) → List ℤ → Table → List ℕ
kept_places kept t tb = kept_from kept t tb.first 1 tb.rules

abbrev pub is_answer : Ending → Bool
is_answer ending.Answer = true
is_answer ending.Nothing = false
is_answer ending.Limit = false

abbrev pub is_nothing : Ending → Bool
is_nothing ending.Answer = false
is_nothing ending.Nothing = true
is_nothing ending.Limit = false

abbrev pub trial_by : Ending → Atoms → Trial
trial_by ending.Answer X = found X
trial_by ending.Nothing X = nothing
trial_by ending.Limit X = stopped

abbrev pub trial_of : ℕ → Offered → Trial
trial_of n o = trial_by o.ending (true_atoms n (valued o.values))

abbrev pub goes_on : (Program → Trial) → Program → ℕ → Offered → ℕ → Program → Relaxed
goes_on try P n o i rest = after (λ X. offer try P (row o.kept) X i rest) no_plan (trial_of n o)

abbrev pub held_by : ℕ → Offered → Relaxed
held_by n o = after (λ X. relaxed (row o.kept) X) no_plan (trial_of n o)
