-- `text::reader::write_words` meets its contract. The invariant of its loop: `at` is where a run starts, each word has had two bytes, and the
-- words written, with those from `at` on after them, are all. Assumes nothing.
use mathlib.Core.Path.{◌≡◌}
use Prim.Native.Nat.{◌-◌, ◌*◌, ◌≤◌, ◌<◌}
use lib.ListN.{length, drop}
use lib.Seq.{sets}
use Rattle.text.specs.Text.{runs}
use Rattle.text.specs.Scan.{listed}
use Rattle.text.proofs.Runs.{Starts}
use Rattle.text.proofs.reader.write_words.Given as goal

abbrev pub invariant-loop-at : goal.invariant-loop-at
invariant-loop-at l =
    Starts l.bytes l.at × (l.at < length l.bytes → 2 * l.n ≤ l.at) × (sets l.words l.n (listed (runs (drop l.at l.bytes))) ≡ sets l.initial.words 0 (listed (runs (drop l.from l.bytes))))

abbrev pub decreases-loop-at : goal.decreases-loop-at
decreases-loop-at l = length l.bytes - l.at
