-- `table::roles::count_at` meets its contract: by cases on the word read, then on the tests. Assumes nothing.
use borrow.Author.Rules.{rules}
use mathlib.Core.Path.{◌≡◌, sym, ap, ◌∙◌}
use mathlib.Core.Bool.{true, false}
use lib.IntN.{pos, nat_abs}
use lib.Signed.{lt_z}
use mir.Syntax.{w32}
use mir.Val.{to_z, of_z}
use Prim.Native.Nat.{ℕ, ◌≤◌, ◌<◌}
use Rattle.std.specs.Prelude.{Ok}
use Rattle.table.specs.Roles.{count}
use Rattle.table.proofs.Faults.{below_zero, count_minus, count_over, count_in_lem}
use Rattle.table.proofs.Returned.{got_absent, got_bad, got_good}
use Rattle.table.proofs.roles.count_at.Goals as goal

pub returns-in_default : goal.returns-in_default
returns-in_default c = sym (got_absent (count c.args.most) _ _ _ (sym c.word_at.ensures ∙ c.in_default.is))

pub returns-then-below : goal.returns-then-below
returns-then-below c =
    let z = c.in-Ok.w in
    let k : to_z w32 (of_z w32 z) ≡ z = search rules in
    let h : lt_z z (pos 0) ≡ true = rw k at c.if-below.true in
    sym (got_bad (count c.args.most) _ _ _ _ _ (sym c.in-Ok.ensures) (count_minus c.args.most c.args.i z (sym (below_zero z) ∙ h)))

pub returns-then-most-n : goal.returns-then-most-n
returns-then-most-n c =
    let z = c.in-Ok.w in
    let k : to_z w32 (of_z w32 z) ≡ z = search rules in
    let s : nat_abs z ≡ c.size-n.result = rw k at (sym c.size-n.ensures) in
    let h : c.args.most < nat_abs z = rw s c.if-most-n.true in
    sym (got_bad (count c.args.most) _ _ _ _ _ (sym c.in-Ok.ensures) (count_over c.args.most c.args.i z h))

pub returns : goal.returns
returns c =
    let z = c.in-Ok.w in
    let k : to_z w32 (of_z w32 z) ≡ z = search rules in
    let s : nat_abs z ≡ c.size-n.result = rw k at (sym c.size-n.ensures) in
    let f : lt_z z (pos 0) ≡ false = rw k at c.if-below.false in
    let h : nat_abs z ≤ c.args.most = rw s c.if-most-n.false in
    ap (λ (n : ℕ). Ok (n, c.in-Ok.next)) (sym s)
    ∙ sym (got_good (count c.args.most) _ _ _ _ (sym c.in-Ok.ensures) (count_in_lem c.args.most c.args.i z (sym (below_zero z) ∙ f) h))
