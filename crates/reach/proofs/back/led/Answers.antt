-- `reach::back::led` meets its contract. Assumes nothing.
use mathlib.Core.Path.{◌≡◌, refl, sym, ap, ◌∙◌, subst}
use mathlib.Core.Bool.{Bool, true, false}
use native.Mathlib.Omega.{arith}
use Rattle.layout.specs.Layout.{program_of}
use Rattle.levels.specs.Levels.{Levels}
use Rattle.levels.specs.View.{row}
use Rattle.reach.specs.Arcs.{arcs_of}
use Rattle.reach.specs.Visits.{Meeting, Led}
use Rattle.reach.proofs.Inside.{laid_inside}
use Rattle.reach.proofs.Graph.{arcs_inside}
use Rattle.reach.proofs.Putting.{size_top}
use Rattle.reach.proofs.Leading.{led_none, led_one}
use Rattle.reach.proofs.Members.{arcs_more}
use Rattle.reach.proofs.back.led.Goals as goal

pub more-requires : goal.more-requires
more-requires c = (c.requires.1, omega (arith, c.requires.2, c.args.t.now.laid.few_atoms), omega (arith, c.requires.3, size_top (row c.args.found.marks) 256))

pub returns-then-touches : goal.returns-then-touches
returns-then-touches c =
    let a = c.args in
    let P = program_of a.t.now.words.now a.t.now.places in
    let A = row a.found.marks in
    let w = c.touches.ensures refl c.if-touches.true in
    subst (Led (arcs_of a.added P) a.q A a.found.count (row c.more.result.marks)) (sym c.more.ensures.1)
    (led_one (arcs_of a.added P) a.q A a.found.count c.requires.3 (row c.more.result.marks) c.more.ensures.0 c.requires.1 (omega (arith, c.requires.2, c.args.t.now.laid.few_atoms))
    (sym c.has.ensures ∙ c.if-has.false) w.0 (arcs_more a.added P a.q w.0 w.1) w.2)

pub returns-then-not-meets : goal.returns-then-not-meets
returns-then-not-meets c =
    let a = c.args in
    let P = program_of a.t.now.words.now a.t.now.places in
    let T = row c.from_atom-to.result in
    let A = row a.found.marks in
    let e : c.meets.result ≡ false = c.if-not-meets.true in
    let apart : Meeting a.t.now.places.atoms T A false = subst (λ (b : Bool). Meeting a.t.now.places.atoms T A b) e c.meets.ensures in
    led_none (arcs_of a.added P) a.q A a.found.count c.requires.3
    (λ u r i. absurd (apart u (arcs_inside a.added a.t.now.places.atoms P (laid_inside a.t.now.words.now a.t.now.places c.args.t.now.laid) a.q u r) (ap (λ (X : Levels). X u) c.from_atom-to.ensures ∙ r) i))

pub more-requires-2 : goal.more-requires-2
more-requires-2 c = (c.requires.1, omega (arith, c.requires.2, c.args.t.now.laid.few_atoms), omega (arith, c.requires.3, size_top (row c.args.found.marks) 256))

pub returns : goal.returns
returns c =
    let a = c.args in
    let P = program_of a.t.now.words.now a.t.now.places in
    let T = row c.from_atom-to.result in
    let A = row a.found.marks in
    let y : c.meets.result ≡ true = c.if-not-meets.false in
    let w : Meeting a.t.now.places.atoms T A true = subst (λ (b : Bool). Meeting a.t.now.places.atoms T A b) y c.meets.ensures in
    subst (Led (arcs_of a.added P) a.q A a.found.count (row c.more-2.result.marks)) (sym c.more-2.ensures.1)
    (led_one (arcs_of a.added P) a.q A a.found.count c.requires.3 (row c.more-2.result.marks) c.more-2.ensures.0 c.requires.1 (omega (arith, c.requires.2, c.args.t.now.laid.few_atoms))
    (sym c.has.ensures ∙ c.if-has.false) w.0 (sym (ap (λ (X : Levels). X w.0) c.from_atom-to.ensures) ∙ w.1) w.2)
