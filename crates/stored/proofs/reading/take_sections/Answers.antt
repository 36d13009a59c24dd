-- `stored::reading::take_sections` meets its contract. The invariant of its loop is `Taking`; the measure is the number of bytes left. Assumes nothing.
use mathlib.Core.Path.{◌≡◌, refl, sym, ap, ◌∙◌, subst}
use mathlib.Core.Bool.{true, false}
use Prim.Native.Nat.{◌+◌}
use native.Mathlib.Omega.{arith}
use lib.ListN.{drop}
use Rattle.std.specs.Prelude.{Option, Err, is_none}
use Rattle.std.proofs.lemmas.Result.{err_from_is_err_and}
use Rattle.stored.specs.Bytes.{step_of, Scan}
use Rattle.stored.specs.Machine.{asked_at, role_of, got_of}
use Rattle.stored.specs.Taking.{TakesScan}
use Rattle.stored.specs.declared.points.Asked.{Asked}
use Rattle.stored.specs.declared.points.Point.{Point}
use Rattle.stored.proofs.Telling.{said_number, said_refused}
use Rattle.stored.proofs.Scanning.{Taking, On, taking_start, taking_on, taking_stop, taking_ends}
use Rattle.stored.proofs.reading.take_sections.Goals as goal

pub loop-what-init : goal.loop-what-init
loop-what-init c = let a = c.args in taking_start a.bytes.now a.top a.at a.words.now c.requires.0 c.requires.1

pub returns-in_default : goal.returns-in_default
returns-in_default c =
    let a = c.args in
    let e : is_none (asked_at a.top c.loop-what.point) ≡ true = ap is_none (sym c.asks.ensures ∙ c.in_default.is) in
    taking_ends a.bytes.now a.top a.at a.words.now c.loop-what.words c.loop-what.to c.loop-what.k c.loop-what.point c.loop-what.invariant a.filled c.ended.result e c.ended.ensures

pub returns-in_err-n : goal.returns-in_err-n
returns-in_err-n c =
    let more : is_none (asked_at c.args.top c.loop-what.point) ≡ false = ap is_none (sym c.asks.ensures ∙ c.in-Some.is) in
    let given : let a = c.args in
    c.number_at.result ≡ got_of (step_of (role_of (asked_at a.top c.loop-what.point)) c.loop-what.to (drop c.loop-what.to a.bytes.now)) =
    let a = c.args in
    c.number_at.ensures ∙ ap (λ (x : Option Asked). got_of (step_of (role_of x) c.loop-what.to (drop c.loop-what.to a.bytes.now))) (sym c.in-Some.is ∙ c.asks.ensures) in
    let a = c.args in
    let p = err_from_is_err_and c.from_residual.result c.from_residual.ensures.1 in
    let f = c.in_err-n.field-0.0 in
    rw (p.1, p.2)
    (subst (λ (s : Scan). TakesScan s a.filled a.words.now c.loop-what.words (Err f))
    (sym (taking_stop a.bytes.now a.top a.at a.words.now c.loop-what.words c.loop-what.to c.loop-what.k c.loop-what.point c.loop-what.invariant f more
    (said_refused _ f (sym given ∙ c.in_err-n.was)))) refl)

pub put-requires : goal.put-requires
put-requires c =
    let more : is_none (asked_at c.args.top c.loop-what.point) ≡ false = ap is_none (sym c.asks.ensures ∙ c.in-Some.is) in
    let given : let a = c.args in
    c.number_at.result ≡ got_of (step_of (role_of (asked_at a.top c.loop-what.point)) c.loop-what.to (drop c.loop-what.to a.bytes.now)) =
    let a = c.args in
    c.number_at.ensures ∙ ap (λ (x : Option Asked). got_of (step_of (role_of x) c.loop-what.to (drop c.loop-what.to a.bytes.now))) (sym c.in-Some.is ∙ c.asks.ensures) in
    let on : let a = c.args in
    On a.bytes.now a.top a.at a.words.now c.loop-what.words c.loop-what.to c.loop-what.k c.loop-what.point c.loop-what.invariant c.in_ok-n.next c.in_ok-n.n c.in_ok-n.minus =
    let a = c.args in
    taking_on a.bytes.now a.top a.at a.words.now c.loop-what.words c.loop-what.to c.loop-what.k c.loop-what.point c.loop-what.invariant c.in_ok-n.n c.in_ok-n.minus c.in_ok-n.next (more)
    (said_number _ c.in_ok-n.n c.in_ok-n.minus c.in_ok-n.next (sym (given) ∙ c.in_ok-n.was)) in
    (on).small

pub loop-what-smaller : goal.loop-what-smaller
loop-what-smaller c =
    let more : is_none (asked_at c.args.top c.loop-what.point) ≡ false = ap is_none (sym c.asks.ensures ∙ c.in-Some.is) in
    let given : let a = c.args in
    c.number_at.result ≡ got_of (step_of (role_of (asked_at a.top c.loop-what.point)) c.loop-what.to (drop c.loop-what.to a.bytes.now)) =
    let a = c.args in
    c.number_at.ensures ∙ ap (λ (x : Option Asked). got_of (step_of (role_of x) c.loop-what.to (drop c.loop-what.to a.bytes.now))) (sym c.in-Some.is ∙ c.asks.ensures) in
    let on : let a = c.args in
    On a.bytes.now a.top a.at a.words.now c.loop-what.words c.loop-what.to c.loop-what.k c.loop-what.point c.loop-what.invariant c.in_ok-n.next c.in_ok-n.n c.in_ok-n.minus =
    let a = c.args in
    taking_on a.bytes.now a.top a.at a.words.now c.loop-what.words c.loop-what.to c.loop-what.k c.loop-what.point c.loop-what.invariant c.in_ok-n.n c.in_ok-n.minus c.in_ok-n.next (more)
    (said_number _ c.in_ok-n.n c.in_ok-n.minus c.in_ok-n.next (sym (given) ∙ c.in_ok-n.was)) in
    let o = on in
    omega (arith, o.later, o.high)

pub loop-what-preserved : goal.loop-what-preserved
loop-what-preserved c =
    let more : is_none (asked_at c.args.top c.loop-what.point) ≡ false = ap is_none (sym c.asks.ensures ∙ c.in-Some.is) in
    let given : let a = c.args in
    c.number_at.result ≡ got_of (step_of (role_of (asked_at a.top c.loop-what.point)) c.loop-what.to (drop c.loop-what.to a.bytes.now)) =
    let a = c.args in
    c.number_at.ensures ∙ ap (λ (x : Option Asked). got_of (step_of (role_of x) c.loop-what.to (drop c.loop-what.to a.bytes.now))) (sym c.in-Some.is ∙ c.asks.ensures) in
    let on : let a = c.args in
    On a.bytes.now a.top a.at a.words.now c.loop-what.words c.loop-what.to c.loop-what.k c.loop-what.point c.loop-what.invariant c.in_ok-n.next c.in_ok-n.n c.in_ok-n.minus =
    let a = c.args in
    taking_on a.bytes.now a.top a.at a.words.now c.loop-what.words c.loop-what.to c.loop-what.k c.loop-what.point c.loop-what.invariant c.in_ok-n.n c.in_ok-n.minus c.in_ok-n.next (more)
    (said_number _ c.in_ok-n.n c.in_ok-n.minus c.in_ok-n.next (sym (given) ∙ c.in_ok-n.was)) in
    let a = c.args in
    subst (λ (x : Point). Taking a.bytes.now a.top a.at a.words.now c.put.new.words c.in_ok-n.next (c.loop-what.k + 1) x) (sym c.step-point.ensures)
    ((on).on c.put.new.words c.put.ensures)
