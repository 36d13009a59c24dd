-- `explaining::explain` meets its contract: the marks after N rounds are the defined rounds and rules, and go into the records. The invariant of its loop: the
-- interpretation is as it was, and the records below index i hold what the marks say. Assumes nothing.
use mathlib.Core.Path.{◌≡◌, refl, subst, ◌∙◌}
use Prim.Native.Nat.{ℕ}
use native.Mathlib.Omega.{arith}
use lib.ListN.{length-set, get_or}
use Rattle.interpretation.specs.State.{true_atoms}
use Rattle.interpretation.specs.View.{valued, blank, choices}
use Rattle.interpretation.specs.declared.Record.{Record}
use Rattle.layout.specs.Layout.{program_of}
use Rattle.rounds.specs.Rounds.{no_why}
use Rattle.rounds.proofs.Marks.{marks_are_whys}
use Rattle.explaining.specs.Kept.{why_in}
use Rattle.explaining.proofs.Kept.{Below, below_on, cells_kept, kept_all}
use Rattle.explaining.proofs.explain.Goals as goal

pub loop-i-preserved : goal.loop-i-preserved
loop-i-preserved c =
    let ws = c.mark-marks.result in
    let s = c.loop-i.it in
    let i = c.loop-i.i in
    let n = c.loop-i.invariant.1 in
    let new : Record = record { level = (get_or s.records i blank).level; round = (get_or ws i no_why).round; rule = (get_or ws i no_why).rule } in
    let e = cells_kept s.values s.records i new (omega arith) refl in (
      c.loop-i.invariant.0,
      length-set s.records i _ ∙ n,
      (λ t. record { level = s.depth; choice = choices s.chosen s.depth; cell = e t }) ∙ c.loop-i.invariant.2,
      below_on why_in blank (λ (j : ℕ). get_or ws j no_why) s.records i new (omega arith) refl c.loop-i.invariant.3,
    )

pub returns : goal.returns
returns c =
    let n = c.args.t.now.places.atoms in
    let ws = c.mark-marks.result in
    let rs = c.loop-i.it.records in
    let e : c.loop-i.i ≡ 256 = omega arith in
    record {
      same = c.loop-i.invariant.2;
      whys = kept_all ws rs c.loop-i.invariant.0 c.loop-i.invariant.1
          (subst (Below (λ (j : ℕ). get_or ws j no_why) (λ (j : ℕ). why_in (get_or rs j blank))) e c.loop-i.invariant.3)
          ∙ c.mark-marks.ensures ∙ marks_are_whys (program_of c.args.t.now.words.now c.args.t.now.places) (true_atoms n (valued c.args.it.values)) n;
    }
