-- `aspif_rules::put_literal` meets its contract. Assumes nothing.
use mathlib.Core.Path.{◌≡◌, ap, ◌∙◌}
use Prim.Native.Nat.{ℕ, ◌-◌, ◌≤◌, ◌<◌}
use native.Mathlib.Omega.{arith}
use lib.IntN.{pos, nat_abs}
use lib.ListN.{get_or}
use Rattle.layout.specs.Layout.{start_from}
use Rattle.aspif_parts.proofs.Marking.{place_low}
use Rattle.aspif_rules.proofs.Literals.{literal_is, in_use_lem}
use Rattle.aspif_rules.proofs.put_literal.Goals as goal

pub offset_bounds-news-slot : goal.offset_bounds-news-slot
offset_bounds-news-slot c =
    let ranged : (1 ≤ nat_abs (get_or c.args.l.now c.args.i (pos 0))) × (nat_abs (get_or c.args.l.now c.args.i (pos 0)) ≤ c.args.t.now.places.aggregates) = c.requires.1 c.args.i c.requires.3 in
    let slot-low : c.place-slot.result < 128 =
    let k = ranged in
    let f = c.args.t.now.laid.few_aggregates in
    rw c.place-slot.ensures (place_low (get_or c.args.l.now c.args.i (pos 0)) k.0 (omega arith)) in
    omega (arith, slot-low)

pub bounds-news-slot : goal.bounds-news-slot
bounds-news-slot c =
    let ranged : (1 ≤ nat_abs (get_or c.args.l.now c.args.i (pos 0))) × (nat_abs (get_or c.args.l.now c.args.i (pos 0)) ≤ c.args.t.now.places.aggregates) = c.requires.1 c.args.i c.requires.3 in
    let slot-low : c.place-slot.result < 128 =
    let k = ranged in
    let f = c.args.t.now.laid.few_aggregates in
    rw c.place-slot.ensures (place_low (get_or c.args.l.now c.args.i (pos 0)) k.0 (omega arith)) in
    slot-low

pub returns : goal.returns
returns c =
    let ranged : (1 ≤ nat_abs (get_or c.args.l.now c.args.i (pos 0))) × (nat_abs (get_or c.args.l.now c.args.i (pos 0)) ≤ c.args.t.now.places.aggregates) = c.requires.1 c.args.i c.requires.3 in
    let begins : c.start-begin.result ≡ start_from c.args.t.now.words.now 2 (nat_abs (get_or c.args.l.now c.args.i (pos 0)) - 1) =
    let k = ranged in
    c.start-begin.ensures ∙ ap (λ (j : ℕ). get_or c.args.t.now.places.starts (j - 1) 0) c.atom-number.ensures ∙ c.args.t.now.laid.starts (nat_abs (get_or c.args.l.now c.args.i (pos 0)) - 1) (omega arith) in
    let k = ranged in
    let w = get_or c.args.l.now c.args.i (pos 0) in
    let e =
    literal_is c.args.t.now.words.now c.args.t.now.places c.args.news.now c.requires.0 (get_or c.args.l.now c.args.i (pos 0)) k.0 k.1 c.start-begin.result (begins)
    (in_use_lem c.args.t.now.words.now c.args.t.now.places c.args.l.now c.args.i c.requires.3 c.requires.2) c.negated.result c.negated.ensures (get_or c.args.news.now c.place-slot.result 0)
    (ap (λ (j : ℕ). get_or c.args.news.now j 0) c.place-slot.ensures) in
    rw e at c.put_new.ensures
