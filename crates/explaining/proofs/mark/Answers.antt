-- `explaining::mark` meets its contract. The invariant of its loop: the marks are those of the rounds so far. A round that adds nothing is the last one.
-- Assumes nothing.
use mathlib.Core.Path.{◌≡◌, sym, ap, subst, ◌∙◌}
use mathlib.Core.List.{List}
use Prim.Native.Nat.{ℕ, suc}
use native.Mathlib.Omega.{arith}
use native.Mathlib.Numerals.{add-one}
use lib.ListN.{take}
use Rattle.interpretation.specs.State.{true_atoms}
use Rattle.interpretation.specs.View.{valued}
use Rattle.layout.specs.Layout.{program_of}
use Rattle.rounds.specs.Rounds.{whys_in}
use Rattle.rounds.specs.Marks.{marks_after}
use Rattle.rounds.proofs.Records.{recorded_none}
use Rattle.explaining.specs.Walk.{walk_codes, FitCodes}
use Rattle.explaining.proofs.Walks.{codes_fit, rounds_on, quiet_ends, after_none}
use Rattle.explaining.proofs.mark.Goals as goal

pub loop-k-init : goal.loop-k-init
loop-k-init c = recorded_none.each ∙ sym (after_none _ _)

pub walk-requires : goal.walk-requires
walk-requires c =
    let tb = c.args.t.now.places in
    let laid = c.args.t.now.laid in
    let e = c.collect.ensures in (
      subst (FitCodes c.args.t.now.words.now) (sym e.same) (codes_fit c.args.t.now.words.now tb laid (valued c.args.values.now) tb.first tb.rules laid.rules_lie),
      laid.few_rules,
      omega (arith, e.sized, laid.few_rules),
    )

-- it adds nothing: the marks are those of all rounds
pub returns-then-not-walk : goal.returns-then-not-walk
returns-then-not-walk c =
    let t = c.args.t.now.words.now in
    let tb = c.args.t.now.places in
    let a = valued c.args.values.now in
    let k = c.loop-k.k in
    let w = whys_in c.loop-k.marks in
    let on : whys_in c.walk.new.marks ≡ marks_after (program_of t tb) (true_atoms tb.atoms a) (suc k) =
    c.walk.ensures.0
    ∙ ap (λ (r : ℕ). walk_codes t r 1 (take tb.rules c.collect.new.list) w) (add-one k)
    ∙ ap (λ (l : List ℕ). walk_codes t (suc k) 1 l w) c.collect.ensures.same
    ∙ rounds_on t tb c.args.t.now.laid a c.requires k w c.loop-k.invariant in
    on ∙ quiet_ends t tb c.args.t.now.laid a c.requires k tb.atoms (omega arith) (sym on ∙ c.walk.ensures.1 c.if-not-walk.true ∙ c.loop-k.invariant)

pub loop-k-preserved : goal.loop-k-preserved
loop-k-preserved c =
    let t = c.args.t.now.words.now in
    let tb = c.args.t.now.places in
    let a = valued c.args.values.now in
    let k = c.loop-k.k in
    let w = whys_in c.loop-k.marks in
    let on : whys_in c.walk.new.marks ≡ marks_after (program_of t tb) (true_atoms tb.atoms a) (suc k) =
    c.walk.ensures.0
    ∙ ap (λ (r : ℕ). walk_codes t r 1 (take tb.rules c.collect.new.list) w) (add-one k)
    ∙ ap (λ (l : List ℕ). walk_codes t (suc k) 1 l w) c.collect.ensures.same
    ∙ rounds_on t tb c.args.t.now.laid a c.requires k w c.loop-k.invariant in
    on ∙ ap (marks_after (program_of t tb) (true_atoms tb.atoms a)) (sym (add-one k))
