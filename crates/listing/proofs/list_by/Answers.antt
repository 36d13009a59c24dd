-- `listing::list_by` meets its contract. The invariant of its loop: whatever the defined listing ends with from the present state, with the plans listed so far, it ends with from the
-- start; the rows of these plans are written. The measure is that of the defined search. Assumes nothing.
use borrow.Author.Rules.{rules}
use Prim.Native.Nat.{suc, ◌+◌, ◌-◌, ◌*◌, ◌/◌, ◌≤◌, ◌<◌}
use native.Mathlib.Omega.{arith}
use mathlib.Core.Path.{◌≡◌, refl, sym, ap, ◌∙◌, subst}
use mathlib.Core.List.{[]}
use lib.ListN.{length, set}
use Rattle.meaning.specs.Aggregates.{Atoms}
use Rattle.levels.specs.Levels.{up_to, without}
use Rattle.levels.specs.View.{row, rows}
use Rattle.interpretation.specs.State.{Interpretation, true_atoms}
use Rattle.interpretation.specs.View.{view}
use Rattle.heads.specs.Heads.{taking}
use Rattle.outcome.specs.declared.Start.{Start}
use Rattle.search.specs.Search.{State, jump, start}
use Rattle.smaller.specs.Cyclic.{base_by}
use Rattle.search.specs.Listing.{alone}
use Rattle.search.proofs.ListRuns.{ListEnds}
use Rattle.jumping.specs.Jumping.{Ordered, Ready, start_at}
use Rattle.jumping.proofs.Ordered.{ordered_start}
use Rattle.listing.specs.Rows.{row_put}
use Rattle.listing.proofs.Written.{listed_none, room_fits, put_long, trues_alone}
use Rattle.listing.proofs.Listing.{Done, stops_none, stops_met, stops_over}
use Rattle.listing.proofs.Going.{back_ended, Leaves, deep, chosen_in, leaves, ready_on, listed_end, goes_by, falls_by}
use Rattle.listing.proofs.list_by.Goals as goal
use Rattle.listing.proofs.list_by.Goals.{In-Answer, In-Level, After-write_row, After-again-from}

pub loop-plan-init : goal.loop-plan-init
loop-plan-init c =
    let a = c.args in
    let s = c.begin-from.result in
    let g = c.begin-from.ensures in
    let e = g.0 in
    let z = g.1 in
    let y = g.2 in
    let d : s.it.depth ≡ 0 = ap (λ (x : Interpretation). x.level) e in
    let Q = base_by a.cycles (taking a.t.now.words.now a.lists.now) a.t.now.places.atoms in
    let f : record { interpretation = view s.it; reason = rows c.no_rows-reasons.result; choices = s.choices; skips = s.skips; passes = s.passes; skipped = [] } ≡ start Q =
    λ j. record { interpretation = e j; reason = c.no_rows-reasons.ensures j; choices = z j; skips = y j; passes = g.3 j; skipped = [] } in (
      record { ordered = subst (Ordered a.t.now.places.atoms) (sym e) (ordered_start a.t.now.places.atoms); paid = omega (arith, d, z, y); few = omega (arith, z) },
      omega arith,
      refl,
      record { plans = []; past = []; skipped = []; count = refl; rows = listed_none a.rows.now; ends = λ o x. subst (λ (k : State). ListEnds Q jump a.limit (length a.rows.now / 256) (alone k) o) f x },
    )

-- ---- the search ended

pub returns-in-Nothing : goal.returns-in-Nothing
returns-in-Nothing c =
    let D = c.loop-plan.invariant.3 in
    stops_none _ _ _ _ _ _ _ _ D _ (c.search_by-halt.ensures D.skipped) c.in-Nothing.is c.report.result c.report.ensures

pub returns-in-Limit : goal.returns-in-Limit
returns-in-Limit c =
    let D = c.loop-plan.invariant.3 in
    stops_met _ _ _ _ _ _ _ _ D _ (c.search_by-halt.ensures D.skipped) c.in-Limit.is c.report-in-Limit.result c.report-in-Limit.ensures

pub returns-then-room-number : goal.returns-then-room-number
returns-then-room-number c =
    let D = c.loop-plan.invariant.3 in
    stops_over _ _ _ _ _ _ _ _ D _ (c.search_by-halt.ensures D.skipped) c.in-Answer.is c.if-room-number.true c.report-then-room-number.result c.report-then-room-number.ensures

-- ---- a plan was found: the search may go on from there

ready : (c : In-Answer) → Ready c.args.t.now.places.atoms c.args.limit (start_at c.search_by-halt.result.found)
ready c = (c.search_by-halt.ensures c.loop-plan.invariant.3.skipped).again c.in-Answer.is

pub after_plan-back-requires : goal.after_plan-back-requires
after_plan-back-requires c =
    let h = c.search_by-halt.result in
    let R = ready (goal.at.after_plan-back-requires c).In-Answer in
    (deep c.args.t.now.places.atoms c.args.limit c.args.t.now.laid.few_atoms h R, chosen_in c.args.t.now.places.atoms c.args.limit c.args.t.now.laid.few_atoms h R)

-- ---- its row was written

module _ (c : After-write_row) where
  free : c.loop-plan.number < length c.args.rows.now / 256
  free = c.if-room-number.false

  fits : c.loop-plan.number * 256 + 256 ≤ length c.loop-plan.rows
  fits = room_fits c.loop-plan.number (length c.args.rows.now) free c.loop-plan.invariant.2

  wrote : c.write_row.new.rows ≡ row_put (true_atoms c.args.t.now.places.atoms (view c.search_by-halt.result.found.it).cell) (c.loop-plan.number * 256) 256 c.loop-plan.rows
  wrote =
      let i = c.search_by-halt.result.found.it in
      c.write_row.ensures ∙ ap (λ (Y : Atoms). row_put Y (c.loop-plan.number * 256) 256 c.loop-plan.rows) (sym (trues_alone c.args.t.now.places.atoms i.values i.records))

  kept : length c.write_row.new.rows ≡ length c.args.rows.now
  kept =
      ap length wrote ∙ put_long (true_atoms c.args.t.now.places.atoms (view c.search_by-halt.result.found.it).cell) (c.loop-plan.number * 256) 256 c.loop-plan.rows fits
      ∙ c.loop-plan.invariant.2

pub returns-in-End : goal.returns-in-End
returns-in-End c =
    let D = c.loop-plan.invariant.3 in
    let w = (goal.at.returns-in-End c).After-write_row in
    let i = c.search_by-halt.result.found.it in
    listed_end _ _ _ _ _ _ _ _ _ _ _ D _ (c.search_by-halt.ensures D.skipped) c.in-Answer.is (free w) (wrote w)
    (back_ended (view i).choice i.depth _ (sym c.after_plan-back.ensures ∙ c.in-End.is)) c.report-in-End.result c.report-in-End.ensures

-- ---- back to a level

left : (c : In-Level) → Leaves c.search_by-halt.result.found.it c.in-Level.m c.in-Level.a
left c =
    leaves c.args.t.now.places.atoms c.args.limit c.args.t.now.laid.few_atoms c.search_by-halt.result ((c.search_by-halt.ensures c.loop-plan.invariant.3.skipped).again c.in-Answer.is)
    c.in-Level.m c.in-Level.a c.in-Level.field-2 (sym c.after_plan-back.ensures ∙ c.in-Level.is)

pub overflow_sub-i : goal.overflow_sub-i
overflow_sub-i c = (left (goal.at.overflow_sub-i c).In-Level).above

pub upto-why-requires : goal.upto-why-requires
upto-why-requires c = (left (goal.at.upto-why-requires c).In-Level).within

pub without-rest-requires : goal.without-rest-requires
without-rest-requires c = let x = left (goal.at.without-rest-requires c).In-Level in (omega arith, omega arith)

pub offset_bounds-reasons-i : goal.offset_bounds-reasons-i
offset_bounds-reasons-i c = let x = left (goal.at.offset_bounds-reasons-i c).In-Level in omega arith

pub bounds-reasons-i : goal.bounds-reasons-i
bounds-reasons-i c = let x = left (goal.at.bounds-reasons-i c).In-Level in omega arith

pub overflow_cast-m : goal.overflow_cast-m
overflow_cast-m c = let x = left (goal.at.overflow_cast-m c).In-Level in omega arith

pub jump-it-requires : goal.jump-it-requires
jump-it-requires c =
    let x = left (goal.at.jump-it-requires c).In-Level in
    let e = x.atom ∙ ap (view c.search_by-halt.result.found.it).choice (sym x.level) in
    (omega arith, omega arith, x.within, omega arith, omega arith)

-- ---- and on

module _ (c : After-again-from) where
  rest : row c.without-rest.result ≡ without c.in-Level.m (up_to c.search_by-halt.result.found.it.depth)
  rest = c.without-rest.ensures ∙ ap (without c.in-Level.m) c.upto-why.ensures

  long : length c.rows_of-next.result ≡ 256
  long = search rules

pub loop-plan-smaller : goal.loop-plan-smaller
loop-plan-smaller c =
    let D = c.loop-plan.invariant.3 in
    let w = (goal.at.loop-plan-smaller c).After-write_row in
    let x = left (goal.at.loop-plan-smaller c).In-Level in
    let n = c.args.t.now.places.atoms in
    let lim = c.args.limit in
    subst (λ (s : Start). (lim - s.choices) * suc n + s.it.depth < (lim - c.loop-plan.from.choices) * suc n + c.loop-plan.from.it.depth) (sym c.again-from.ensures)
    (falls_by _ _ _ _ _ _ _ _ _ _ _ D _ (c.search_by-halt.ensures D.skipped) c.in-Answer.is (free w) (wrote w) c.in-Level.m c.in-Level.a x
    c.rows_of-next.result (long c) c.rows_of-next.ensures c.without-rest.result (rest c) c.jump-it.result c.jump-it.ensures)

pub loop-plan-preserved : goal.loop-plan-preserved
loop-plan-preserved c =
    let D = c.loop-plan.invariant.3 in
    let S = c.search_by-halt.ensures D.skipped in
    let w = (goal.at.loop-plan-preserved c).After-write_row in
    let x = left (goal.at.loop-plan-preserved c).In-Level in
    let n = c.args.t.now.places.atoms in
    let lim = c.args.limit in
    let old = c.args.rows.now in
    let P = base_by c.args.cycles (taking c.args.t.now.words.now c.args.lists.now) n in (
      subst (Ready n lim) (sym c.again-from.ensures)
          (ready_on n lim c.args.t.now.laid.few_atoms c.search_by-halt.result (S.again c.in-Answer.is) c.in-Level.m c.in-Level.a x c.jump-it.result c.jump-it.ensures),
      let l = free w in omega arith,
      kept w,
      subst (λ (s : Start). Done P lim (length old / 256) old c.write_row.new.rows s (set c.rows_of-next.result (c.in-Level.a - 1) c.without-rest.result) (c.loop-plan.number + 1)) (sym c.again-from.ensures)
          (goes_by _ _ _ _ _ _ _ _ _ _ _ D _ S c.in-Answer.is (free w) (wrote w) c.in-Level.m c.in-Level.a x
          c.rows_of-next.result (long c) c.rows_of-next.ensures c.without-rest.result (rest c) c.jump-it.result c.jump-it.ensures),
    )
