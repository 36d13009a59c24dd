-- `show::naming::turn` meets its contract. Assumes nothing.
use mathlib.Core.Path.{sym, ap, ◌∙◌}
use Prim.Native.Nat.{ℕ, ◌+◌}
use lib.IntN.{pos}
use lib.ListN.{get_or}
use Rattle.notation.proofs.InTurn.{turn_named, turn_next, turn_out}
use native.Mathlib.Omega.{arith}
use Rattle.show.proofs.naming.turn.Goals as goal

pub returns-then-n-d : goal.returns-then-n-d
returns-then-n-d c =
    let args = c.args in
    let at_atom = c.atom-n in
    let at-if1 = c.if-n-d in
    sym (turn_named args.d args.e (get_or args.l.now args.i (pos 0)) (omega (arith, at_atom.ensures, at-if1.true)))

pub returns-then-n-e : goal.returns-then-n-e
returns-then-n-e c =
    let args = c.args in
    let at_atom = c.atom-n in
    let at-if1 = c.if-n-d in
    let at-if2 = c.if-n-e in
    ap (λ (k : ℕ). k + 1) at_atom.ensures ∙ sym (turn_next args.d args.e (get_or args.l.now args.i (pos 0)) (omega (arith, at_atom.ensures, at-if1.false)) (sym at_atom.ensures ∙ at-if2.true))

pub returns : goal.returns
returns c =
    let args = c.args in
    let at_atom = c.atom-n in
    let at-if1 = c.if-n-d in
    let at-if2 = c.if-n-e in
    sym (turn_out args.d args.e (get_or args.l.now args.i (pos 0)) (omega (arith, at_atom.ensures, at-if1.false)) (λ k. at-if2.false (at_atom.ensures ∙ k)))
