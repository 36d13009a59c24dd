-- `jumping::search_by` meets its contract: the start, the loops of a pass, the passes, the turn that they begin, and its ways on and out. Assumes nothing.
use Rattle.interpretation.specs.State as state
use Rattle.jumping.proofs.RuleTurn as rule_turn
use Prim.Native.Nat.{ℕ, suc, ◌+◌, ◌-◌, ◌≤◌, ◌<◌}
use mathlib.Core.Path.{◌≡◌, sym, ap, ◌∙◌, subst, refl}
use mathlib.Core.Bool.{false}
use mathlib.Core.List.{[], ◌++◌}
use lib.ListN.{length, get_or, length-set}
use Rattle.meaning.proofs.Tools.{number_top}
use Rattle.levels.specs.View.{row}
use Rattle.interpretation.specs.View.{view, cells, choices}
use Rattle.heads.specs.Heads.{taking}
use Rattle.steps.proofs.Ending.{missing}
use Rattle.propagation.proofs.Quiet.{rules_out, atoms_out}
use Rattle.propagation.proofs.Stepped.{kept_then, kept_set}
use Rattle.search.specs.Search.{jump, branches, answer, no_answer, limit, end}
use Rattle.jumping.specs.Jumping.{Ordered, on, Searches, here}
use borrow.Author.Rules.{rules}
use native.Mathlib.Omega.{arith}
use Rattle.interpretation.specs.State.{undefined, lowest, true_atoms}
use Rattle.propagation.proofs.Handing.{Handed}
use Rattle.jumping.proofs.Ordered.{ordered_open, ordered_jump}
use Rattle.jumping.proofs.Turns.{answers, limits}
use Rattle.search.proofs.Fuel.{meas, turn_less}
use Rattle.turns.specs.declared.Turn.TheVariants.{Answer, Limit}
use Rattle.jumping.proofs.States.{problem}
use Rattle.jumping.proofs.Settled.{Turned, ordered, depth, chosen, began, reached, turned, decides, spends, opens, picked, chose, struck, passed, back, over, jumps}
use Rattle.jumping.proofs.AtomTurn.{sole_rule, aimed, sets_fewer, sets_long, sets_on, Calm2, calm_over, calm_unsets, calm_forces, passes_one}
use Rattle.jumping.proofs.Passing.{Result, rule_conflict, atom_conflict, at_rest_lem, falls, passes_go_on}
use Rattle.jumping.proofs.search_by.Goals as goal
use Rattle.jumping.proofs.search_by.Goals.{Left-rules, After-decide-turn, in-Nothing, in-Set, in-Nothing-a, in-Unset, in-Sole+in_default, then-rules-test+in-Conflict, else-rules-test+then-atoms-test+in-Conflict-a, else-rules-test+else-atoms-test+then-not-changed}

-- ---- the start

pub turns-init : goal.turns-init
turns-init c =
    let h = c.requires.1 in
    let k : length c.args.rows0 ≡ 256 = search rules in
    (h.ordered, h.paid, h.few, k, λ g. (g, here refl))

pub passes-init : goal.passes-init
passes-init c =
    let t = c.turns in
    let a = c.args in
    let n = a.t.now.places.atoms in
    let e = get_or a.lists.now 1 0 in
    let u = number_top n (missing (cells t.it.values t.it.records)) in (
      t.invariant.3,
      (refl, refl),
      (suc n, false, omega arith, omega arith, refl, omega arith),
      omega arith,
      rules_out a.t.now.words.now a.lists.now t.it.values e e (omega arith),
      omega arith,
      atoms_out a.t.now.words.now a.t.now.places t.it.values n (suc n) (omega arith),
    )

-- ---- the rules

pub demand-s-requires : goal.demand-s-requires
demand-s-requires c =
    let a = c.args in
    (rule_turn.lies a.t.now.words.now a.t.now.places a.lists.now c.rules.r c.requires.0 c.rules.invariant.0 (omega (arith, c.rules-test.true, c.rules.invariant.4)))

pub reason-reason-requires : goal.reason-reason-requires
reason-reason-requires c =
    let a = c.args in
    (rule_turn.lies a.t.now.words.now a.t.now.places a.lists.now c.rules.r c.requires.0 c.rules.invariant.0 (omega (arith, c.rules-test.true, c.rules.invariant.4)))

pub reason-reason-requires-in-Set : goal.reason-reason-requires-in-Set
reason-reason-requires-in-Set c =
    let a = c.args in
    (rule_turn.lies a.t.now.words.now a.t.now.places a.lists.now c.rules.r c.requires.0 c.rules.invariant.0 (omega (arith, c.rules-test.true, c.rules.invariant.4)))

pub overflow_sub-i : goal.overflow_sub-i
overflow_sub-i c =
    let a = c.args in
    (rule_turn.aim a.t.now.words.now a.t.now.places a.lists.now c.rules.r c.args.t.now.laid c.requires.0 c.rules.invariant.0 (omega (arith, c.rules-test.true, c.rules.invariant.4)) c.rules.it.values c.in-Set.q c.in-Set.v
    (sym c.demand-s.ensures ∙ c.in-Set.is)).0

pub offset_bounds-reasons-i : goal.offset_bounds-reasons-i
offset_bounds-reasons-i c =
    let a = c.args in
    let h =
    rule_turn.aim a.t.now.words.now a.t.now.places a.lists.now c.rules.r c.args.t.now.laid c.requires.0 c.rules.invariant.0 (omega (arith, c.rules-test.true, c.rules.invariant.4)) c.rules.it.values c.in-Set.q c.in-Set.v
    (sym c.demand-s.ensures ∙ c.in-Set.is) in
    omega (arith, h.0, h.1)

pub bounds-reasons-i : goal.bounds-reasons-i
bounds-reasons-i c =
    let a = c.args in
    let h =
    rule_turn.aim a.t.now.words.now a.t.now.places a.lists.now c.rules.r c.args.t.now.laid c.requires.0 c.rules.invariant.0 (omega (arith, c.rules-test.true, c.rules.invariant.4)) c.rules.it.values c.in-Set.q c.in-Set.v
    (sym c.demand-s.ensures ∙ c.in-Set.is) in
    omega (arith, h.0, h.1)

pub set-it-requires : goal.set-it-requires
set-it-requires c =
    let a = c.args in
    rule_turn.aim a.t.now.words.now a.t.now.places a.lists.now c.rules.r c.args.t.now.laid c.requires.0 c.rules.invariant.0 (omega (arith, c.rules-test.true, c.rules.invariant.4)) c.rules.it.values c.in-Set.q c.in-Set.v
    (sym c.demand-s.ensures ∙ c.in-Set.is)

pub rules-preserved : goal.rules-preserved
rules-preserved c =
    let a = c.args in
    let l = c.rules in
    let m = c.match-s in
    let i = l.invariant in
    let inside : l.r < get_or a.lists.now 1 0 = omega (arith, c.rules-test.true, i.4) in
    let y : rule_turn.Calm a.t.now.words.now a.t.now.places a.lists.now l.r l.it l.reasons l.changed m.it m.reasons m.rules_to m.atoms_to m.changed m.quiet =
    elim c.match-s.branch [
      | in-Nothing w ↦ rw (w.it-is, w.reasons-is, w.rules_to-is, w.atoms_to-is, w.changed-is, w.quiet-is)
          (rule_turn.calm_over a.t.now.words.now a.t.now.places a.lists.now l.r l.it l.reasons l.changed l.rules_to l.atoms_to l.quiet i.1 i.4 i.5 i.6 i.7 i.8 i.9 (sym c.demand-s.ensures ∙ w.in-Nothing.is))
      | in-Set w ↦ rw (w.it-is, w.reasons-is, w.rules_to-is, w.atoms_to-is, w.changed-is, w.quiet-is)
          (rule_turn.calm_changes a.t.now.words.now a.t.now.places a.lists.now l.r l.it l.reasons l.changed c.args.t.now.laid c.requires.0 i.0 inside i.1
          w.reason-reason-in-Set.result w.reason-reason-in-Set.ensures w.in-Set.q w.in-Set.v w.set-it.result (sym c.demand-s.ensures ∙ w.in-Set.is) w.set-it.ensures)
    ] in
    let x = y.came in (
      omega arith,
      x.long,
      kept_then (view c.passes.it) (view l.it) (view m.it) i.2 x.kept,
      rule_turn.goes_on a.t.now.words.now a.t.now.places a.lists.now l.r l.it l.reasons l.changed c.requires.0 inside m.it m.reasons m.changed x _ i.3,
      y.bound,
      y.ahead,
      y.passed,
      y.rest,
      y.top,
      y.above,
    )

-- ---- the atom loop, and step e's loop inside it

pub forced-requires : goal.forced-requires
forced-requires c =
    let a = c.args in
    (sole_rule a.t.now.words.now a.t.now.places c.atoms.it c.atoms.p c.in-Sole.place c.args.t.now.laid (sym c.asked-a.ensures ∙ c.in-Sole.is)).lies

pub overflow_sub-j : goal.overflow_sub-j
overflow_sub-j c =
    let a = c.args in
    let s = sole_rule a.t.now.words.now a.t.now.places c.atoms.it c.atoms.p c.in-Sole.place c.args.t.now.laid (sym c.asked-a.ensures ∙ c.in-Sole.is) in
    (aimed a.t.now.words.now a.t.now.places c.sets.it c.atoms.it c.in-Sole.place c.in-Some.q c.in-Some.v c.args.t.now.laid s (sym c.forced.ensures ∙ c.in-Some.is)).above

pub offset_bounds-reasons-j : goal.offset_bounds-reasons-j
offset_bounds-reasons-j c =
    let a = c.args in
    let s = sole_rule a.t.now.words.now a.t.now.places c.atoms.it c.atoms.p c.in-Sole.place c.args.t.now.laid (sym c.asked-a.ensures ∙ c.in-Sole.is) in
    let x = aimed a.t.now.words.now a.t.now.places c.sets.it c.atoms.it c.in-Sole.place c.in-Some.q c.in-Some.v c.args.t.now.laid s (sym c.forced.ensures ∙ c.in-Some.is) in
    let l = x.above in
    let h = x.few in
    omega (arith, l, h)

pub bounds-reasons-j : goal.bounds-reasons-j
bounds-reasons-j c =
    let a = c.args in
    let s = sole_rule a.t.now.words.now a.t.now.places c.atoms.it c.atoms.p c.in-Sole.place c.args.t.now.laid (sym c.asked-a.ensures ∙ c.in-Sole.is) in
    let x = aimed a.t.now.words.now a.t.now.places c.sets.it c.atoms.it c.in-Sole.place c.in-Some.q c.in-Some.v c.args.t.now.laid s (sym c.forced.ensures ∙ c.in-Some.is) in
    let l = x.above in
    let h = x.few in
    omega (arith, l, h)

pub set-it-requires-in-Some : goal.set-it-requires-in-Some
set-it-requires-in-Some c =
    let a = c.args in
    let s = sole_rule a.t.now.words.now a.t.now.places c.atoms.it c.atoms.p c.in-Sole.place c.args.t.now.laid (sym c.asked-a.ensures ∙ c.in-Sole.is) in
    let x = aimed a.t.now.words.now a.t.now.places c.sets.it c.atoms.it c.in-Sole.place c.in-Some.q c.in-Some.v c.args.t.now.laid s (sym c.forced.ensures ∙ c.in-Some.is) in
    (x.above, x.few)

pub sets-smaller : goal.sets-smaller
sets-smaller c =
    let a = c.args in
    let s = sole_rule a.t.now.words.now a.t.now.places c.atoms.it c.atoms.p c.in-Sole.place c.args.t.now.laid (sym c.asked-a.ensures ∙ c.in-Sole.is) in
    let x = aimed a.t.now.words.now a.t.now.places c.sets.it c.atoms.it c.in-Sole.place c.in-Some.q c.in-Some.v c.args.t.now.laid s (sym c.forced.ensures ∙ c.in-Some.is) in
    sets_fewer a.t.now.words.now a.t.now.places c.sets.it c.in-Sole.place c.in-Some.q c.in-Some.v x c.set-it-in-Some.result c.set-it-in-Some.ensures

pub sets-preserved : goal.sets-preserved
sets-preserved c =
    let a = c.args in
    let i = c.sets.invariant in
    let q = c.in-Some.q in
    let v = c.in-Some.v in
    let n = c.set-it-in-Some in
    let why = c.whole_reason-whole-in-Sole.result in
    let s = sole_rule a.t.now.words.now a.t.now.places c.atoms.it c.atoms.p c.in-Sole.place c.args.t.now.laid (sym c.asked-a.ensures ∙ c.in-Sole.is) in
    let x = aimed a.t.now.words.now a.t.now.places c.sets.it c.atoms.it c.in-Sole.place q v c.args.t.now.laid s (sym c.forced.ensures ∙ c.in-Some.is) in (
      sets_long a.t.now.words.now a.t.now.places c.sets.it c.in-Sole.place q v x n.result n.ensures c.sets.reasons i.0 why,
      kept_set (view c.atoms.it) (view c.sets.it) (view n.result) q v i.1 n.ensures,
      sets_on a.t.now.words.now a.t.now.places c.sets.it c.in-Sole.place q v x n.result n.ensures c.sets.reasons i.0 why ∙ i.2,
    )

pub atoms-preserved : goal.atoms-preserved
atoms-preserved c =
    let a = c.args in
    let l = c.atoms in
    let m = c.match-a in
    let i = l.invariant in
    let h : l.p ≤ a.t.now.places.atoms = let x = c.atoms-test.true in let z = i.7 in omega (arith, x, z) in
    let y : Calm2 a.t.now.words.now a.t.now.places a.lists.now l.it l.reasons l.changed l.p m.it m.reasons m.rules_to m.atoms_to m.changed m.last =
    elim c.match-a.branch [
      | in-Nothing-a w ↦
          rw (w.it-is, w.reasons-is, w.rules_to-is, w.atoms_to-is, w.changed-is, w.last-is)
          (calm_over a.t.now.words.now a.t.now.places a.lists.now l.it l.reasons l.changed l.p l.rules_to l.atoms_to l.last i.2 (sym c.asked-a.ensures ∙ w.in-Nothing-a.is) i.5 i.6 i.7 i.8 i.9 i.10)
      | in-Unset w ↦
          rw (w.it-is, w.reasons-is, w.rules_to-is, w.atoms_to-is, w.changed-is, w.last-is)
          (calm_unsets a.t.now.words.now a.t.now.places a.lists.now l.it l.reasons l.changed l.p w.blame-others.result w.set-it-in-Unset.result w.blame-others.ensures i.2 c.args.t.now.laid i.0 h
          (sym c.asked-a.ensures ∙ w.in-Unset.is) w.set-it-in-Unset.ensures)
      | in-Sole+in_default w ↦
          rw (w.it-is, w.reasons-is, w.rules_to-is, w.atoms_to-is, w.changed-is, w.last-is)
          (calm_forces a.t.now.words.now a.t.now.places a.lists.now l.it l.reasons l.changed l.p w.whole_reason-whole-in-Sole.result w.whole_reason-whole-in-Sole.ensures c.args.t.now.laid w.in-Sole.place w.sets.it w.sets.reasons
          (sym c.asked-a.ensures ∙ w.in-Sole.is) w.sets.invariant.0 w.sets.invariant.1 w.sets.invariant.2 (sym w.forced.ensures ∙ w.in_default.is))
    ] in (
      omega arith,
      omega (arith, h),
      y.came.long,
      kept_then (view c.rules.it) (view l.it) (view m.it) i.3 y.came.kept,
      passes_one a.t.now.words.now a.t.now.places a.lists.now l.it l.reasons l.changed l.p h m.it m.reasons m.changed y.came _ i.4,
      y.bound,
      y.rest,
      y.top,
      y.low,
      y.passed,
      y.above,
    )

-- ---- the passes

pub passes-smaller : goal.passes-smaller
passes-smaller c =
    falls c.args.t.now.words.now c.args.t.now.places c.args.lists.now c.args.t.now.laid c.requires.0 c.turns.it c.turns.reasons
    c.passes.it c.passes.reasons c.passes.made c.passes.rules_to c.passes.atoms_to c.passes.invariant
    c.rules.it c.rules.reasons c.rules.rules_to c.rules.atoms_to c.rules.changed c.rules.quiet c.rules.r c.rules.invariant
    c.rules-test.false c.atoms.it c.atoms.reasons c.atoms.rules_to c.atoms.atoms_to c.atoms.changed c.atoms.last c.atoms.p c.atoms.invariant
    c.atoms-test.false c.if-not-changed.false

pub passes-preserved : goal.passes-preserved
passes-preserved c =
    passes_go_on c.args.t.now.words.now c.args.t.now.places c.args.lists.now c.args.t.now.laid c.requires.0 c.turns.it c.turns.reasons
    c.passes.it c.passes.reasons c.passes.made c.passes.rules_to c.passes.atoms_to c.passes.invariant
    c.rules.it c.rules.reasons c.rules.rules_to c.rules.atoms_to c.rules.changed c.rules.quiet c.rules.r c.rules.invariant
    c.rules-test.false c.atoms.it c.atoms.reasons c.atoms.rules_to c.atoms.atoms_to c.atoms.changed c.atoms.last c.atoms.p c.atoms.invariant
    c.atoms-test.false c.if-not-changed.false

-- what the passes hand over, at all goals behind them: `propagates (goal.at.GOAL c).Left-rules`
propagates : (c : Left-rules) → Result c.args.t.now.words.now c.args.t.now.places c.args.lists.now c.turns.it c.turns.reasons c.passes.made c.rules-test.it c.rules-test.reasons c.rules-test.why c.rules-test.out
propagates c =
    let t = c.args.t.now.words.now in
    let tb = c.args.t.now.places in
    let lists = c.args.lists.now in
    elim c.rules-test.branch [
      | then-rules-test+in-Conflict w ↦
          rw (w.it-is, w.reasons-is, w.why-is, w.out-is)
          (rule_conflict t tb lists c.args.t.now.laid c.requires.0 c.turns.it c.turns.reasons
          c.passes.it c.passes.reasons c.passes.made c.passes.rules_to c.passes.atoms_to c.passes.invariant
          c.rules.it c.rules.reasons c.rules.rules_to c.rules.atoms_to c.rules.changed c.rules.quiet c.rules.r c.rules.invariant
          w.rules-test.true w.reason-reason.result w.reason-reason.ensures (sym w.demand-s.ensures ∙ w.in-Conflict.is))
      | else-rules-test+then-atoms-test+in-Conflict-a w ↦
          rw (w.it-is, w.reasons-is, w.why-is, w.out-is)
          (atom_conflict t tb lists c.args.t.now.laid c.requires.0 c.turns.it c.turns.reasons
          c.passes.it c.passes.reasons c.passes.made c.passes.rules_to c.passes.atoms_to c.passes.invariant
          c.rules.it c.rules.reasons c.rules.rules_to c.rules.atoms_to c.rules.changed c.rules.quiet c.rules.r c.rules.invariant
          w.rules-test.false w.atoms.it w.atoms.reasons w.atoms.rules_to w.atoms.atoms_to w.atoms.changed w.atoms.last w.atoms.p w.atoms.invariant
          w.atoms-test.true w.whole_reason-whole.result w.whole_reason-whole.ensures (sym w.asked-a.ensures ∙ w.in-Conflict-a.is))
      | else-rules-test+else-atoms-test+then-not-changed w ↦
          rw (w.it-is, w.reasons-is, w.why-is, w.out-is)
          (at_rest_lem t tb lists c.args.t.now.laid c.requires.0 c.turns.it c.turns.reasons
          c.passes.it c.passes.reasons c.passes.made c.passes.rules_to c.passes.atoms_to c.passes.invariant
          c.rules.it c.rules.reasons c.rules.rules_to c.rules.atoms_to c.rules.changed c.rules.quiet c.rules.r c.rules.invariant
          w.rules-test.false w.atoms.it w.atoms.reasons w.atoms.rules_to w.atoms.atoms_to w.atoms.changed w.atoms.last w.atoms.p w.atoms.invariant
          w.atoms-test.false w.if-not-changed.true w.atoms.why)
    ]

-- the rows are 256 still
long : (c : Left-rules) → length c.rules-test.reasons ≡ 256
long c =
    elim c.rules-test.branch [
      | then-rules-test+in-Conflict w ↦ rw w.reasons-is c.rules.invariant.1
      | else-rules-test+then-atoms-test+in-Conflict-a w ↦ rw w.reasons-is w.atoms.invariant.2
      | else-rules-test+else-atoms-test+then-not-changed w ↦ rw w.reasons-is w.atoms.invariant.2
    ]

-- ---- the turn

abbrev turn_at : (c : After-decide-turn)
    → Handed (taking c.args.t.now.words.now c.args.lists.now) c.args.t.now.places.atoms c.turns.it c.turns.reasons c.passes.made c.rules-test.it c.rules-test.reasons c.rules-test.why c.rules-test.out → Turned
turn_at c h = record {
  t = c.args.t.now.words.now;
  tb = c.args.t.now.places;
  cycles = c.args.cycles;
  lists = c.args.lists.now;
  limit = c.args.limit;
  laid = c.args.t.now.laid;
  listed = c.requires.0;
  it0 = c.turns.it;
  rows0 = c.turns.reasons;
  made0 = c.turns.choices;
  skips0 = c.turns.skips;
  most0 = c.turns.most;
  began_ordered = c.turns.invariant.0;
  made = c.passes.made;
  it = c.rules-test.it;
  reasons = c.rules-test.reasons;
  why = c.rules-test.why;
  out = c.rules-test.out;
  h = h;
  passes = c.greater-most.result;
  greatest = c.greater-most.ensures;
}

pub overflow_add-choices : goal.overflow_add-choices
overflow_add-choices c =
    let T = turn_at (goal.at.overflow_add-choices c).After-decide-turn (propagates (goal.at.overflow_add-choices c).Left-rules) in
    let k = spends T _ (sym c.in-Answer.is ∙ c.decide-turn.ensures) in
    omega (arith, k, c.turns.invariant.2, c.ranges.limit)

pub overflow_add-choices-in-Limit : goal.overflow_add-choices-in-Limit
overflow_add-choices-in-Limit c =
    let T = turn_at (goal.at.overflow_add-choices-in-Limit c).After-decide-turn (propagates (goal.at.overflow_add-choices-in-Limit c).Left-rules) in
    let k = spends T _ (sym c.in-Limit.is ∙ c.decide-turn.ensures) in
    omega (arith, k, c.turns.invariant.2, c.ranges.limit)

pub overflow_add-choices-in-Conflict-turn : goal.overflow_add-choices-in-Conflict-turn
overflow_add-choices-in-Conflict-turn c =
    let T = turn_at (goal.at.overflow_add-choices-in-Conflict-turn c).After-decide-turn (propagates (goal.at.overflow_add-choices-in-Conflict-turn c).Left-rules) in
    let k = spends T _ (sym c.in-Conflict-turn.is ∙ c.decide-turn.ensures) in
    omega (arith, k, c.turns.invariant.2, c.ranges.limit)

pub returns-in-Answer : goal.returns-in-Answer
returns-in-Answer c =
    let T = turn_at (goal.at.returns-in-Answer c).After-decide-turn (propagates (goal.at.returns-in-Answer c).Left-rules) in
    let d = depth T in
    let l = spends T _ (sym c.in-Answer.is ∙ c.decide-turn.ensures) in
    let v = c.turns.invariant.1 in
    let w = c.turns.invariant.2 in
    subst (Searches (problem c.args.cycles c.args.t.now.words.now c.args.t.now.places c.args.lists.now) c.args.limit c.args.from c.args.rows0) (sym c.pack.ensures) λ s. (let b = (c.turns.invariant.4 s).0 in
    let k = c.in-Answer.spent in
    let z : k + c.turns.choices ≡ c.turns.choices + k = omega arith in
    let r = answers c.args.cycles (taking c.args.t.now.words.now c.args.lists.now) c.args.t.now.places.atoms c.args.limit (reached T b) c.rules-test.out (row c.rules-test.why) k (decides T (Answer k) (sym c.in-Answer.is ∙ c.decide-turn.ensures) b) in
    record {
      last = began T b;
      skipped = b;
      led = (c.turns.invariant.4 s).1;
      ends = turned T b ∙ r ∙ (λ j. end (record { result = answer (true_atoms c.args.t.now.places.atoms (cells c.rules-test.it.values c.rules-test.it.records)); choices = z j; skips = c.turns.skips; passes = c.greater-most.result; skipped = b }));
      state = T.h.state;
      reasoned = T.h.reasoned;
      again = λ _. record { ordered = ordered T; paid = omega (arith, l, d.0, v, w); few = omega (arith, l, w) };
    })

pub returns-in-Limit : goal.returns-in-Limit
returns-in-Limit c =
    let T = turn_at (goal.at.returns-in-Limit c).After-decide-turn (propagates (goal.at.returns-in-Limit c).Left-rules) in
    subst (Searches (problem c.args.cycles c.args.t.now.words.now c.args.t.now.places c.args.lists.now) c.args.limit c.args.from c.args.rows0) (sym c.pack-in-Limit.ensures) λ s. (let b = (c.turns.invariant.4 s).0 in
    let k = c.in-Limit.spent in
    let z : k + c.turns.choices ≡ c.turns.choices + k = omega arith in
    let r = limits c.args.cycles (taking c.args.t.now.words.now c.args.lists.now) c.args.t.now.places.atoms c.args.limit (reached T b) c.rules-test.out (row c.rules-test.why) k (decides T (Limit k) (sym c.in-Limit.is ∙ c.decide-turn.ensures) b) in
    record {
      last = began T b;
      skipped = b;
      led = (c.turns.invariant.4 s).1;
      ends = turned T b ∙ r ∙ (λ j. end (record { result = limit; choices = z j; skips = c.turns.skips; passes = c.greater-most.result; skipped = b }));
      state = T.h.state;
      reasoned = T.h.reasoned;
      again = λ e. absurd (let z : ◌≡◌ {A = ℕ} 0 1 = cc in omega arith);
    })

pub returns-in-End : goal.returns-in-End
returns-in-End c =
    let T = turn_at (goal.at.returns-in-End c).After-decide-turn (propagates (goal.at.returns-in-End c).Left-rules) in
    subst (Searches (problem c.args.cycles c.args.t.now.words.now c.args.t.now.places c.args.lists.now) c.args.limit c.args.from c.args.rows0) (sym c.pack-in-End.ensures) λ s. (let b = (c.turns.invariant.4 s).0 in
    let i = c.rules-test.it in
    let k = c.in-Conflict-turn.spent in
    let m = branches (choices i.chosen i.depth) 0 i.depth ++ b in
    let z : k + c.turns.choices ≡ c.turns.choices + k = omega arith in
    record {
      last = began T b;
      skipped = m;
      led = (c.turns.invariant.4 s).1;
      ends = struck T c.in-Conflict-turn.spent (sym c.in-Conflict-turn.is ∙ c.decide-turn.ensures) c.blame-reason.result c.blame-reason.ensures _ (sym c.in-End.is ∙ c.go_back-back.ensures) b ∙ (λ j. end (record { result = no_answer; choices = z j; skips = c.turns.skips + c.in-End.passed; passes = c.greater-most.result; skipped = m }));
      state = T.h.state;
      reasoned = T.h.reasoned;
      again = λ e. absurd (let z : ◌≡◌ {A = ℕ} 0 1 = cc in omega arith);
    })

pub overflow_sub-i-in-Choose : goal.overflow_sub-i-in-Choose
overflow_sub-i-in-Choose c =
    let T = turn_at (goal.at.overflow_sub-i-in-Choose c).After-decide-turn (propagates (goal.at.overflow_sub-i-in-Choose c).Left-rules) in
    let x = picked T c.in-Choose.a (sym c.in-Choose.is ∙ c.decide-turn.ensures) in
    x.0

pub single-own-requires : goal.single-own-requires
single-own-requires c =
    let T = turn_at (goal.at.single-own-requires c).After-decide-turn (propagates (goal.at.single-own-requires c).Left-rules) in
    let x = picked T c.in-Choose.a (sym c.in-Choose.is ∙ c.decide-turn.ensures) in
    let y = x.2 in omega arith

pub offset_bounds-reasons-i-in-Choose : goal.offset_bounds-reasons-i-in-Choose
offset_bounds-reasons-i-in-Choose c =
    let T = turn_at (goal.at.offset_bounds-reasons-i-in-Choose c).After-decide-turn (propagates (goal.at.offset_bounds-reasons-i-in-Choose c).Left-rules) in
    let x = picked T c.in-Choose.a (sym c.in-Choose.is ∙ c.decide-turn.ensures) in
    let y = x.1 in omega arith

pub bounds-reasons-i-in-Choose : goal.bounds-reasons-i-in-Choose
bounds-reasons-i-in-Choose c =
    let T = turn_at (goal.at.bounds-reasons-i-in-Choose c).After-decide-turn (propagates (goal.at.bounds-reasons-i-in-Choose c).Left-rules) in
    let x = picked T c.in-Choose.a (sym c.in-Choose.is ∙ c.decide-turn.ensures) in
    let y = x.0 in let z = x.1 in omega arith

pub open-it-requires : goal.open-it-requires
open-it-requires c =
    let T = turn_at (goal.at.open-it-requires c).After-decide-turn (propagates (goal.at.open-it-requires c).Left-rules) in
    let x = picked T c.in-Choose.a (sym c.in-Choose.is ∙ c.decide-turn.ensures) in
    x

pub turns-smaller-in-Choose : goal.turns-smaller-in-Choose
unfolding meas
turns-smaller-in-Choose c =
    let T = turn_at (goal.at.turns-smaller-in-Choose c).After-decide-turn (propagates (goal.at.turns-smaller-in-Choose c).Left-rules) in
    let len : length c.rules-test.reasons ≡ 256 = long (goal.at.turns-smaller-in-Choose c).Left-rules in
    turn_less (problem c.args.cycles c.args.t.now.words.now c.args.t.now.places c.args.lists.now) jump c.args.limit _ _ (chose T c.in-Choose.a (sym c.in-Choose.is ∙ c.decide-turn.ensures) len _ c.single-own.ensures _ c.open-it.ensures [])

pub turns-preserved-in-Choose : goal.turns-preserved-in-Choose
turns-preserved-in-Choose c =
    let T = turn_at (goal.at.turns-preserved-in-Choose c).After-decide-turn (propagates (goal.at.turns-preserved-in-Choose c).Left-rules) in
    let len : length c.rules-test.reasons ≡ 256 = long (goal.at.turns-preserved-in-Choose c).Left-rules in
    let e : c.open-it.result.depth ≡ suc c.rules-test.it.depth = ap (λ (s : state.Interpretation). s.level) c.open-it.ensures in
    let d = (depth T).0 in
    let o = opens T c.in-Choose.a (sym c.in-Choose.is ∙ c.decide-turn.ensures) [] in
    let m = o.2 in
    let v = c.turns.invariant.1 in (
      subst (Ordered c.args.t.now.places.atoms) (sym c.open-it.ensures) (ordered_open c.args.t.now.places.atoms (view c.rules-test.it) (ordered T) c.in-Choose.a o.1),
      omega arith,
      omega arith,
      simp length-set len,
      λ s. (let i = c.turns.invariant.4 s in (i.0, on i.1 (chose T c.in-Choose.a (sym c.in-Choose.is ∙ c.decide-turn.ensures) len _ c.single-own.ensures _ c.open-it.ensures i.0))),
    )

pub blame-reason-requires : goal.blame-reason-requires
blame-reason-requires c =
    let T = turn_at (goal.at.blame-reason-requires c).After-decide-turn (propagates (goal.at.blame-reason-requires c).Left-rules) in
    (depth T).1

pub go_back-back-requires : goal.go_back-back-requires
go_back-back-requires c =
    let T = turn_at (goal.at.go_back-back-requires c).After-decide-turn (propagates (goal.at.go_back-back-requires c).Left-rules) in
    ((depth T).1, chosen T)

pub overflow_sub-i-in-Level : goal.overflow_sub-i-in-Level
overflow_sub-i-in-Level c =
    let T = turn_at (goal.at.overflow_sub-i-in-Level c).After-decide-turn (propagates (goal.at.overflow_sub-i-in-Level c).Left-rules) in
    let x = back T c.in-Conflict-turn.spent (sym c.in-Conflict-turn.is ∙ c.decide-turn.ensures) c.blame-reason.result c.blame-reason.ensures c.in-Level.m c.in-Level.a c.in-Level.passed (sym c.in-Level.is ∙ c.go_back-back.ensures) in
    x.4

pub without-rest-requires : goal.without-rest-requires
without-rest-requires c =
    let T = turn_at (goal.at.without-rest-requires c).After-decide-turn (propagates (goal.at.without-rest-requires c).Left-rules) in
    let x = back T c.in-Conflict-turn.spent (sym c.in-Conflict-turn.is ∙ c.decide-turn.ensures) c.blame-reason.result c.blame-reason.ensures c.in-Level.m c.in-Level.a c.in-Level.passed (sym c.in-Level.is ∙ c.go_back-back.ensures) in
    omega (arith, x.0, x.1, x.6)

pub offset_bounds-reasons-i-in-Level : goal.offset_bounds-reasons-i-in-Level
offset_bounds-reasons-i-in-Level c =
    let T = turn_at (goal.at.offset_bounds-reasons-i-in-Level c).After-decide-turn (propagates (goal.at.offset_bounds-reasons-i-in-Level c).Left-rules) in
    let x = back T c.in-Conflict-turn.spent (sym c.in-Conflict-turn.is ∙ c.decide-turn.ensures) c.blame-reason.result c.blame-reason.ensures c.in-Level.m c.in-Level.a c.in-Level.passed (sym c.in-Level.is ∙ c.go_back-back.ensures) in
    let y = x.5 in omega arith

pub bounds-reasons-i-in-Level : goal.bounds-reasons-i-in-Level
bounds-reasons-i-in-Level c =
    let T = turn_at (goal.at.bounds-reasons-i-in-Level c).After-decide-turn (propagates (goal.at.bounds-reasons-i-in-Level c).Left-rules) in
    let x = back T c.in-Conflict-turn.spent (sym c.in-Conflict-turn.is ∙ c.decide-turn.ensures) c.blame-reason.result c.blame-reason.ensures c.in-Level.m c.in-Level.a c.in-Level.passed (sym c.in-Level.is ∙ c.go_back-back.ensures) in
    omega (arith, x.4, x.5)

pub overflow_cast-m : goal.overflow_cast-m
overflow_cast-m c =
    let T = turn_at (goal.at.overflow_cast-m c).After-decide-turn (propagates (goal.at.overflow_cast-m c).Left-rules) in
    let x = back T c.in-Conflict-turn.spent (sym c.in-Conflict-turn.is ∙ c.decide-turn.ensures) c.blame-reason.result c.blame-reason.ensures c.in-Level.m c.in-Level.a c.in-Level.passed (sym c.in-Level.is ∙ c.go_back-back.ensures) in
    omega (arith, x.1, x.6)

pub jump-it-requires : goal.jump-it-requires
jump-it-requires c =
    let T = turn_at (goal.at.jump-it-requires c).After-decide-turn (propagates (goal.at.jump-it-requires c).Left-rules) in
    let x = back T c.in-Conflict-turn.spent (sym c.in-Conflict-turn.is ∙ c.decide-turn.ensures) c.blame-reason.result c.blame-reason.ensures c.in-Level.m c.in-Level.a c.in-Level.passed (sym c.in-Level.is ∙ c.go_back-back.ensures) in
    let e = x.2 in let lo = x.4 in let hi = x.5 in (x.0, x.1, x.6, omega (arith, e, lo), omega (arith, e, hi))

pub overflow_add-skips : goal.overflow_add-skips
overflow_add-skips c =
    let T = turn_at (goal.at.overflow_add-skips c).After-decide-turn (propagates (goal.at.overflow_add-skips c).Left-rules) in
    let e = passed T c.in-Conflict-turn.spent (sym c.in-Conflict-turn.is ∙ c.decide-turn.ensures) c.blame-reason.result c.blame-reason.ensures _ (sym c.in-End.is ∙ c.go_back-back.ensures) in
    let d = (depth T).0 in
    let v = c.turns.invariant.1 in
    let w = c.turns.invariant.2 in
    omega (arith, e, d, v, w, c.ranges.limit)

pub overflow_add-skips-in-Level : goal.overflow_add-skips-in-Level
overflow_add-skips-in-Level c =
    let T = turn_at (goal.at.overflow_add-skips-in-Level c).After-decide-turn (propagates (goal.at.overflow_add-skips-in-Level c).Left-rules) in
    let e = (back T c.in-Conflict-turn.spent (sym c.in-Conflict-turn.is ∙ c.decide-turn.ensures) c.blame-reason.result c.blame-reason.ensures c.in-Level.m c.in-Level.a c.in-Level.passed (sym c.in-Level.is ∙ c.go_back-back.ensures)).3 in
    let d = (depth T).0 in
    let v = c.turns.invariant.1 in
    let w = c.turns.invariant.2 in
    omega (arith, e, d, v, w, c.ranges.limit)

pub turns-smaller : goal.turns-smaller
unfolding meas
turns-smaller c =
    let T = turn_at (goal.at.turns-smaller c).After-decide-turn (propagates (goal.at.turns-smaller c).Left-rules) in
    let len : length c.rules-test.reasons ≡ 256 = long (goal.at.turns-smaller c).Left-rules in
    turn_less (problem c.args.cycles c.args.t.now.words.now c.args.t.now.places c.args.lists.now) jump c.args.limit _ _ (jumps T c.in-Conflict-turn.spent (sym c.in-Conflict-turn.is ∙ c.decide-turn.ensures) c.blame-reason.result c.blame-reason.ensures c.in-Level.m c.in-Level.a c.in-Level.passed (sym c.in-Level.is ∙ c.go_back-back.ensures) len _ c.without-rest.ensures _ c.jump-it.ensures [])

pub turns-preserved : goal.turns-preserved
turns-preserved c =
    let T = turn_at (goal.at.turns-preserved c).After-decide-turn (propagates (goal.at.turns-preserved c).Left-rules) in
    let len : length c.rules-test.reasons ≡ 256 = long (goal.at.turns-preserved c).Left-rules in
    let q : c.jump-it.result.depth ≡ c.in-Level.m - 1 = ap (λ (s : state.Interpretation). s.level) c.jump-it.ensures in
    let d = (depth T).0 in
    let x = back T c.in-Conflict-turn.spent (sym c.in-Conflict-turn.is ∙ c.decide-turn.ensures) c.blame-reason.result c.blame-reason.ensures c.in-Level.m c.in-Level.a c.in-Level.passed (sym c.in-Level.is ∙ c.go_back-back.ensures) in
    let lo = x.0 in
    let hi = x.1 in
    let sk = x.3 in
    let k = spends T _ (sym c.in-Conflict-turn.is ∙ c.decide-turn.ensures) in
    let v = c.turns.invariant.1 in
    let w = c.turns.invariant.2 in (
      subst (Ordered c.args.t.now.places.atoms) (sym c.jump-it.ensures) (ordered_jump c.args.t.now.places.atoms (view c.rules-test.it) (ordered T) (c.in-Level.m - 1) (omega (arith, lo, hi))),
      omega (arith, q, d, lo, hi, sk, v),
      omega (arith, k, w),
      simp length-set len,
      λ s. (let i = c.turns.invariant.4 s in (over T c.in-Conflict-turn.spent (sym c.in-Conflict-turn.is ∙ c.decide-turn.ensures) c.blame-reason.result c.blame-reason.ensures c.in-Level.m c.in-Level.a c.in-Level.passed (sym c.in-Level.is ∙ c.go_back-back.ensures) i.0, on i.1 (jumps T c.in-Conflict-turn.spent (sym c.in-Conflict-turn.is ∙ c.decide-turn.ensures) c.blame-reason.result c.blame-reason.ensures c.in-Level.m c.in-Level.a c.in-Level.passed (sym c.in-Level.is ∙ c.go_back-back.ensures) len _ c.without-rest.ensures _ c.jump-it.ensures i.0))),
    )
