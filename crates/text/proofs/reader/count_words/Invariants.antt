-- `text::reader::count_words` meets its contract. The invariant of its loop: `at` is where a run starts, and the words counted with those from
-- `at` on are all. Assumes nothing.
use mathlib.Core.Path.{◌≡◌}
use Prim.Native.Nat.{◌+◌, ◌-◌, ◌≤◌}
use lib.ListN.{length, drop}
use Rattle.text.specs.Text.{runs, words_from}
use Rattle.text.specs.Scan.{count_of}
use Rattle.text.proofs.Runs.{Starts}
use Rattle.text.proofs.reader.count_words.Given as goal

abbrev pub invariant-loop-at : goal.invariant-loop-at
invariant-loop-at l =
    (l.n ≤ l.at) × Starts l.bytes l.at × (count_of l.n (words_from (l.n + 1) (runs (drop l.at l.bytes))) ≡ count_of 0 (words_from 1 (runs (drop l.from l.bytes))))

abbrev pub decreases-loop-at : goal.decreases-loop-at
decreases-loop-at l = length l.bytes - l.at
