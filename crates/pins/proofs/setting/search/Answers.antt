-- `pins::setting::search` meets its contract: the start of the defined search with the pins is the interpretation in which they are set, with no reasons. Assumes
-- nothing.
use mathlib.Core.Path.{◌≡◌, sym, ap, subst, ◌∙◌}
use mathlib.Core.List.{[]}
use native.Mathlib.Omega.{arith}
use Rattle.levels.specs.View.{rows}
use Rattle.interpretation.specs.State.{Interpretation}
use Rattle.interpretation.specs.View.{view}
use Rattle.heads.specs.Heads.{taking}
use Rattle.search.specs.Search.{start}
use Rattle.smaller.specs.Cyclic.{problem_by}
use Rattle.jumping.specs.Jumping.{Ordered}
use Rattle.jumping.proofs.Leading.{solves_by}
use Rattle.sessions.specs.Sessions.{settings, pins_of}
use Rattle.sessions.proofs.Held.{held_good}
use Rattle.sessions.proofs.Plans.{start_cells_lem}
use Rattle.pins.specs.Memory.{pins_in, taken_of}
use Rattle.pins.proofs.Starting.{ordered_pins, searched_pinned}
use Rattle.pins.proofs.setting.search.Goals as goal

pub search_by-halt-requires : goal.search_by-halt-requires
search_by-halt-requires c =
    let n = c.args.t.now.places.atoms in
    let e = c.start-it.ensures in
    let d : c.start-it.result.depth ≡ 0 = ap (λ (x : Interpretation). x.level) e in
    let o = subst (Ordered n) (sym e) (ordered_pins n (taken_of n (pins_in c.args.s.now)) (held_good n (settings (pins_in c.args.s.now)))) in
    (c.requires.0, record { ordered = o; paid = omega (arith, d); few = omega arith })

pub returns : goal.returns
returns c =
    let r = c.search_by-halt in
    let a = c.args in
    let pins = taken_of a.t.now.places.atoms (pins_in a.s.now) in
    let P = problem_by a.cycles (taking a.t.now.words.now a.lists.now) a.t.now.places.atoms (pins_of pins) in
    let cell : (view c.start-it.result).cell ≡ (start P).interpretation.cell = ap (λ (x : Interpretation). x.cell) c.start-it.ensures ∙ start_cells_lem pins in
    let f : record { interpretation = view c.start-it.result; reason = rows c.no_rows-reasons.result; choices = 0; skips = 0; passes = 0; skipped = [] } ≡ start P = λ j. record {
      interpretation = record { level = (c.start-it.ensures j).level; choice = (c.start-it.ensures j).choice; cell = cell j };
      reason = c.no_rows-reasons.ensures j;
      choices = 0;
      skips = 0;
      passes = 0;
      skipped = [];
    } in
    solves_by P a.limit _ r.result f (searched_pinned a.cycles (taking a.t.now.words.now a.lists.now) a.t.now.places.atoms (pins_of pins) a.limit _ r.result (r.ensures []))
