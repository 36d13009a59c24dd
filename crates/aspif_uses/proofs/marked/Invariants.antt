-- `aspif_uses::marked` meets its contract. The invariant of its loop: the marks with the rules left are those of all rules. Assumes nothing.
use mathlib.Core.Path.{◌≡◌}
use Prim.Native.Nat.{ℕ, ◌-◌, ◌≤◌}
use lib.ListN.{replicate}
use Rattle.layout.specs.Layout.{RulesLie}
use Rattle.aspif_parts.specs.Held.{numbered_from}
use Rattle.aspif_parts.specs.Uses.{mark_rules}
use Rattle.aspif_uses.proofs.marked.Given as goal

abbrev pub invariant-loop : goal.invariant-loop
invariant-loop l =
    (top : ℕ) × (most : ℕ) × (most ≤ 64) × RulesLie top most l.t.words.now l.at (l.fn.t.places.rules - l.counter) × (mark_rules l.marks (numbered_from l.t.words.now l.at (l.fn.t.places.rules - l.counter)) ≡ mark_rules (replicate 128 0) (numbered_from l.t.words.now l.initial.at l.fn.t.places.rules))
