use Prim.Native.Nat.{ℕ, suc, ◌+◌, ◌-◌, ◌*◌, ◌≤◌, ◌<◌}
use mathlib.Core.Path.{◌≡◌}
use mathlib.Core.Bool.{Bool, true, false}
use mathlib.Core.Option.{some}
use mathlib.Core.List.{List}
use lib.ListN.{length}
use Rattle.meaning.proofs.Tools.{number}
use Rattle.levels.specs.View.{row}
use Rattle.interpretation.specs.View.{view, cells}
use Rattle.layout.specs.Layout.{rule_at, program_of}
use Rattle.heads.specs.Heads.{taking}
use Rattle.steps.specs.Steps.{step_e, rule_pass, atom_pass, passes, passes_made}
use Rattle.steps.proofs.Ending.{missing}
use Rattle.propagation.specs.Propagation.{work}
use Rattle.propagation.proofs.Passing.{rules_at}
use Rattle.propagation.proofs.Quiet.{QuietRules, QuietAtoms}
use Rattle.propagation.proofs.Stepped.{Kept}
use Rattle.search.specs.Search.{Branch}
use Rattle.jumping.specs.Jumping.{Ordered, Led}
use Rattle.jumping.proofs.States.{problem, config}
use Rattle.jumping.proofs.search_by.Given as goal

-- The loops of `search_by`: invariants, measures and the places that the proofs name. What is left comes to the same as the whole: of a pass, the
-- rules from r on, and then the atoms from p on; of step e, what its rule still sets; of the passes, f of them, f being above the number of
-- undefined atoms, which is the measure; beyond `rules_to` and `atoms_to` nothing is asked, nor by what was passed since the last change; of the turns, the start has led to the present state, and their measure is that of the defined search.
-- Assumes nothing.
abbrev pub invariant-rules : goal.invariant-rules
invariant-rules l =
    (l.first ≤ l.r) × (length l.reasons ≡ 256) × Kept (view l.initial.it) (view l.it)
    × (rule_pass (rules_at l.t.words.now l.lists l.r l.end) (work l.it l.reasons l.changed) ≡ rule_pass (taking l.t.words.now l.lists) (work l.initial.it l.initial.reasons false))
    × (l.rules_to ≤ l.end) × (l.quiet ≤ l.end) × QuietRules l.t.words.now l.lists l.it.values l.quiet l.r × QuietRules l.t.words.now l.lists l.it.values l.rules_to l.end
    × (l.atoms_to ≤ l.t.places.atoms) × QuietAtoms l.t.words.now l.t.places l.it.values l.atoms_to (suc l.t.places.atoms)

abbrev pub decreases-rules : goal.decreases-rules
decreases-rules l = l.end - l.r

-- step e's sets at the rule at `place`: what it makes of the state at hand is what it makes of the first one
abbrev pub invariant-sets : goal.invariant-sets
invariant-sets l =
    (length l.reasons ≡ 256) × Kept (view l.initial.it) (view l.it)
    × (step_e (some (rule_at l.t.words.now l.place)) (row l.whole) (work l.it l.reasons true) ≡ step_e (some (rule_at l.t.words.now l.place)) (row l.whole) (work l.initial.it l.initial.reasons true))

abbrev pub decreases-sets : goal.decreases-sets
decreases-sets l = number l.t.places.atoms (missing (cells l.it.values l.it.records))

abbrev pub invariant-atoms : goal.invariant-atoms
invariant-atoms l =
    (1 ≤ l.p) × (l.p ≤ suc l.t.places.atoms) × (length l.reasons ≡ 256) × Kept (view l.initial.it) (view l.it)
    × (atom_pass (program_of l.t.words.now l.t.places) (suc l.t.places.atoms - l.p) l.p (work l.it l.reasons l.changed) ≡ atom_pass (program_of l.t.words.now l.t.places) l.t.places.atoms 1 (work l.initial.it l.initial.reasons l.initial.changed))
    × (l.rules_to ≤ l.end) × QuietRules l.t.words.now l.lists l.it.values l.rules_to l.end × (l.atoms_to ≤ l.t.places.atoms) × (l.last < l.p)
    × QuietAtoms l.t.words.now l.t.places l.it.values l.last l.p × QuietAtoms l.t.words.now l.t.places l.it.values l.atoms_to (suc l.t.places.atoms)

abbrev pub decreases-atoms : goal.decreases-atoms
decreases-atoms l = suc l.t.places.atoms - l.p

abbrev pub invariant-passes : goal.invariant-passes
invariant-passes l =
    (length l.reasons ≡ 256) × Kept (view l.initial.it) (view l.it)
    × ((f : ℕ) × (b : Bool) × (number l.t.places.atoms (missing (cells l.it.values l.it.records)) < f) × (l.made + f ≡ suc (suc l.t.places.atoms))
    × (passes (taking l.t.words.now l.lists) l.t.places.atoms f (work l.it l.reasons b) ≡ passes (taking l.t.words.now l.lists) l.t.places.atoms (suc l.t.places.atoms) (work l.initial.it l.initial.reasons false))
    × (l.made + passes_made (taking l.t.words.now l.lists) l.t.places.atoms f (work l.it l.reasons b) ≡ suc (passes_made (taking l.t.words.now l.lists) l.t.places.atoms (suc l.t.places.atoms) (work l.initial.it l.initial.reasons false))))
    × (l.rules_to ≤ l.end) × QuietRules l.t.words.now l.lists l.it.values l.rules_to l.end × (l.atoms_to ≤ l.t.places.atoms) × QuietAtoms l.t.words.now l.t.places l.it.values l.atoms_to (suc l.t.places.atoms)

abbrev pub decreases-passes : goal.decreases-passes
decreases-passes l = number l.t.places.atoms (missing (cells l.it.values l.it.records))

abbrev pub invariant-turns : goal.invariant-turns
invariant-turns l =
    Ordered l.t.places.atoms (view l.it) × (l.skips + l.it.depth ≤ l.choices) × (l.choices ≤ l.limit) × (length l.reasons ≡ 256)
    × ((s : List Branch) → (g : List Branch) × Led (problem l.cycles l.t.words.now l.t.places l.lists) l.limit (config l.initial.it l.initial.reasons l.initial.choices l.initial.skips l.initial.most s) (config l.it l.reasons l.choices l.skips l.most g))

abbrev pub decreases-turns : goal.decreases-turns
decreases-turns l = (l.limit - l.choices) * suc l.t.places.atoms + l.it.depth
