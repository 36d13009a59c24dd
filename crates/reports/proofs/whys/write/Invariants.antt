-- `reports::whys::write` meets its contract. The invariant of its loop: the numbers of the first i atoms stand at the front, and what follows is as it was.
-- Assumes nothing.
use mathlib.Core.Path.{◌≡◌}
use Rattle.reports.proofs.Numbers.{front}
use Rattle.reports.proofs.whys.write.Given as goal

abbrev pub invariant-loop-i : goal.invariant-loop-i
invariant-loop-i l = l.numbers ≡ front l.fn.whys l.initial.numbers l.i
