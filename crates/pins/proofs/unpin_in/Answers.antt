-- `pins::unpin_in` meets its contract. Assumes nothing.
use mathlib.Core.Path.{refl, sym, subst}
use Prim.Native.Nat.{◌<◌}
use native.Mathlib.Omega.{arith}
use mathlib.Core.List.{List}
use lib.IntN.{ℤ}
use Rattle.results.specs.declared.Refusal.TheVariants.{NoPin}
use Rattle.std.specs.Prelude.{Ok, Err}
use Rattle.sessions.specs.Sessions.{unpin}
use Rattle.pins.specs.Memory.{atoms_in, held_in}
use Rattle.pins.specs.Session.{Changing}
use Rattle.pins.proofs.Words.{number_small}
use Rattle.pins.proofs.Changes.{unpin_refused, unpin_taken, changing_refused, changing_unpin}
use Rattle.pins.proofs.unpin_in.Goals as goal

pub returns-then-held-lt1 : goal.returns-then-held-lt1
returns-then-held-lt1 c =
    let a = c.args in
    let h = c.if-held-lt1.true in
    let e = c.number-held.ensures in
    changing_refused unpin a.s.now (Err NoPin) 23 (unpin_refused (atoms_in a.s.now) a.s.now (omega arith)) refl

pub pop-requires : goal.pop-requires
pop-requires c =
    let h = c.if-held-lt1.false in
    let e = c.number-held.ensures in
    let l = number_small c.args.s.now 16385 64 in
    (omega arith, e, omega arith, c.requires)

pub returns : goal.returns
returns c =
    let a = c.args in
    let h = c.if-held-lt1.false in
    let e = c.number-held.ensures in
    let k : 0 < held_in a.s.now = omega arith in
    subst (λ (u : List ℤ). Changing unpin a.s.now u (Ok tt)) (sym c.pop.ensures) (changing_unpin a.s.now c.requires (unpin_taken (atoms_in a.s.now) a.s.now k) k)
