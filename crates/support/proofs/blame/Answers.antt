-- `support::blame` meets its contract. Assumes nothing.
use mathlib.Core.Path.{◌≡◌, sym, ap, ◌∙◌, subst}
use Prim.Native.Nat.{ℕ, ◌+◌, ◌<◌}
use Rattle.std.proofs.Common.{rules}
use native.Mathlib.Omega.{arith}
use lib.ListN.{length, get_or, drop}
use Rattle.levels.specs.Levels.{Levels, union}
use Rattle.levels.specs.View.{row, rows}
use Rattle.interpretation.specs.View.{valued}
use Rattle.layout.specs.Layout.{rule_at, program_of}
use Rattle.heads.specs.Heads.{places_of, with_head}
use Rattle.valuing.specs.Reasons.{reason_of}
use Rattle.support.specs.Asking.{witness_of, Candidates, blamed_by}
use Rattle.support.proofs.Rounds.{candidates, blame_among, blame_all, blame_on, blame_end, blame_is}
use Rattle.support.proofs.blame.Goals as goal

pub loop-k-init : goal.loop-k-init
loop-k-init c =
    let listed : let a = c.args in c.list-l.result.now ≡ with_head a.t.now.words.now a.p (places_of a.t.now.words.now a.t.now.places) = c.list-l.ensures ∙ (c.requires.0.each c.args.p c.requires.1 c.requires.2).same in
    let a = c.args in
    let t = a.t.now.words.now in
    let x = witness_of (valued a.values.now) a.p in
    let y = reason_of (valued a.values.now) (rows a.reasons.now) in
    ap (λ (B : Levels). union B (blame_among x y a.p t c.list-l.result.now)) c.empty-acc.ensures
    ∙ ap (blame_among x y a.p t) (listed) ∙ blame_all x y a.p t a.t.now.places ∙ sym (blame_is (valued a.values.now) (rows a.reasons.now) a.p (program_of t a.t.now.places))

pub blamed-more-requires : goal.blamed-more-requires
blamed-more-requires c =
    let listed : let a = c.args in c.list-l.result.now ≡ with_head a.t.now.words.now a.p (places_of a.t.now.words.now a.t.now.places) = c.list-l.ensures ∙ (c.requires.0.each c.args.p c.requires.1 c.requires.2).same in
    let fit : let a = c.args in Candidates a.t.now.words.now a.t.now.places a.p c.list-l.result.now =
    let a = c.args in
    subst (Candidates a.t.now.words.now a.t.now.places a.p) (sym (listed)) (candidates a.t.now.words.now a.t.now.places c.args.t.now.laid a.p) in
    let h : c.loop-k.k < length c.list-l.result.now = omega arith in
    let f = fit in
    let at : c.from-at.result ≡ get_or c.list-l.result.now c.loop-k.k 0 = search rules in
    rw at (f.lie c.loop-k.k h, f.headed c.loop-k.k h)

pub loop-k-preserved : goal.loop-k-preserved
loop-k-preserved c =
    let a = c.args in
    let t = a.t.now.words.now in
    let i = c.loop-k.k in
    let m = c.list-l.result.now in
    let x = witness_of (valued a.values.now) a.p in
    let y = reason_of (valued a.values.now) (rows a.reasons.now) in
    let at : c.from-at.result ≡ get_or m i 0 = search rules in
    ap (λ (B : Levels). union B (blame_among x y a.p t (drop (i + 1) m))) (c.blamed-more.ensures ∙ ap (λ (j : ℕ). blamed_by x y a.p (rule_at t j) (row c.loop-k.acc)) at)
    ∙ blame_on x y a.p t m i (row c.loop-k.acc) (omega arith)
    ∙ c.loop-k.invariant

pub returns : goal.returns
returns c =
    let a = c.args in
    sym (blame_end (witness_of (valued a.values.now) a.p) (reason_of (valued a.values.now) (rows a.reasons.now)) a.p a.t.now.words.now c.list-l.result.now c.loop-k.k (row c.loop-k.acc) (omega arith)) ∙ c.loop-k.invariant
