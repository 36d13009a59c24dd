-- `reach::touching::atoms_lie` meets its contract: the atom at which it stops is one of the list's. Assumes nothing.
use borrow.Author.Rules.{rules}
use mathlib.Core.Path.{◌≡◌, sym, subst}
use Prim.Native.Nat.{ℕ}
use native.Mathlib.Omega.{arith}
use lib.IntN.{pos, nat_abs}
use lib.ListN.{get_or}
use Rattle.meaning.specs.Lists.{Is}
use Rattle.reach.specs.Arcs.{listed}
use Rattle.reach.proofs.Members.{listed_at}
use Rattle.reach.proofs.touching.atoms_lie.Goals as goal

pub returns-then-lies : goal.returns-then-lies
returns-then-lies c = λ w r.
    let l = c.args.l.now in
    let e : c.size.result ≡ nat_abs (get_or l c.loop-w.w-index (pos 0)) = search rules in
    (c.size.result, subst (λ (q : ℕ). Is (listed l q)) (sym e) (listed_at l c.loop-w.w-index (omega arith)), c.lies.ensures w c.if-lies.true)
