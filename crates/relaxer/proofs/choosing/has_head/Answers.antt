-- `relaxer::choosing::has_head` meets its contract. Assumes nothing.
use borrow.Author.Tests.{ne_eqb}
use native.Mathlib.Omega.{arith}
use mathlib.Core.Path.{◌≡◌, refl, sym, ap, ◌∙◌}
use mathlib.Core.Bool.{not}
use mathlib.Core.List.{List, [], ◌∷◌}
use lib.IntN.{ℤ}
use lib.ListN.{length}
use Rattle.std.specs.Prelude.{◌==◌}
use Rattle.layout.specs.Layout.{atoms, part_at}
use Rattle.heads.proofs.Walks.{head_is}
use Rattle.relaxing.specs.Relaxing.{some_in}
use Rattle.relaxer.proofs.choosing.has_head.Goals as goal

-- a list has a member exactly if it is not empty
some_long : (l : List ℤ) → not (length l == 0) ≡ some_in (atoms l)
some_long [] = refl
some_long (w ∷ l) = ap not (ne_eqb (length (w ∷ l)) 0 (λ e. omega arith))

pub returns : goal.returns
returns c =
    ap not c.is_empty.ensures ∙ ap (λ (l : List ℤ). not (length l == 0)) c.part-head.ensures ∙ some_long (part_at c.args.t.now c.args.at) ∙ ap some_in (sym (head_is c.args.t.now c.args.at))
