-- `relaxer::offer_all` meets its contract. The invariant of its loop: what offering the rules to come makes of what is held is what the definition comes to. Assumes nothing.
use mathlib.Core.Path.{◌≡◌}
use Prim.Native.Nat.{suc, ◌-◌, ◌≤◌}
use Rattle.layout.specs.Layout.{rules_from, program_of, RulesLie}
use Rattle.heads.specs.Heads.{Listed}
use Rattle.relaxing.specs.Relaxing.{trial, relax}
use Rattle.relaxer.specs.Offering.{goes_on}
use Rattle.relaxer.proofs.offer_all.Given as goal

abbrev pub invariant-loop-i : goal.invariant-loop-i
invariant-loop-i l =
    Listed l.t.words.now l.t.places l.lists × RulesLie l.t.places.atoms l.t.places.aggregates l.t.words.now l.at (l.t.places.rules - l.i)
    × (goes_on (trial l.cycles l.t.places.atoms l.limit) (program_of l.t.words.now l.t.places) l.t.places.atoms l.held (suc l.i) (rules_from l.t.words.now l.at (l.t.places.rules - l.i)) ≡ relax l.cycles l.t.places.atoms l.limit (program_of l.t.words.now l.t.places))
