-- What passes without reasons hand back, in the terms of crate `steps`, up to levels and reasons, which they do not keep. Definitions only; they need not be believed:
-- no promise of a public function speaks of them.
--   Alike, Like      cells that say the same of each atom; working states that differ in levels and reasons only
--   bare             the interpretation of the values alone: each atom at level 0
--   work_of           the working state that a side of the code stands for
--   Comes            a side that came of another, which stands as a working state says and counts as many choices
--   undefined_to n a  how many of the atoms 1 .. n are undefined
-- Assumes nothing.
use Rattle.std.specs.Prelude.{ℕ, zero, suc, ◌+◌, ◌≡◌, Bool, true, false, List}
use Rattle.levels.specs.Levels.{Levels, no_levels}
use Rattle.interpretation.specs.State.{Cell, undefined, defined, Interpretation}
use Rattle.interpretation.specs.View.{cell_value, valued}
use Rattle.steps.specs.Steps.{Verdict, settled, conflict, is_settled, Work}
use Rattle.plain.specs.declared.passes.Side.{Side}

abbrev pub Alike : (ℕ → Cell) → (ℕ → Cell) → Type 0
Alike a b = (p : ℕ) → cell_value (a p) ≡ cell_value (b p)

pub record Like (w u : Work) : Type 0 where
  pub cells : Alike w.cell u.cell
  pub same : is_settled w.verdict ≡ is_settled u.verdict
  pub moved : w.changed ≡ u.changed

abbrev pub bare : List ℕ → Interpretation
bare values = record { level = 0; choice = λ l. 0; cell = valued values }

-- no reason at all
abbrev pub no_reasons : ℕ → Levels
no_reasons = λ p l. false

abbrev pub verdict_by : Bool → Verdict
verdict_by true = conflict no_levels
verdict_by false = settled

abbrev pub work_of : Side → Work
work_of s = record { level = 0; cell = valued s.values; reason = no_reasons; verdict = verdict_by s.conflict; changed = s.changed }

pub record Comes (s r : Side) (w : Work) : Type 0 where
  pub like : Like (work_of r) w
  pub kept : r.choices ≡ s.choices

-- ---- what falls from pass to pass

abbrev pub one : Cell → ℕ
one undefined = 1
one (defined v l) = 0

unfoldable pub undefined_to : ℕ → (ℕ → Cell) → ℕ
undefined_to zero a = 0
undefined_to (suc n) a = one (a (suc n)) + undefined_to n a
