-- `table::roles::member_at` meets its contract: by cases on the word read, then on the tests. Assumes nothing.
use borrow.Author.Rules.{rules}
use mathlib.Core.Path.{◌≡◌, sym, ap, ◌∙◌}
use mathlib.Core.Bool.{not, ◌&&◌, true, false}
use native.Mathlib.Omega.{arith}
use lib.IntN.{pos, nat_abs}
use lib.Signed.{lt_z, non_neg}
use mir.Syntax.{w32}
use mir.Val.{to_z, of_z}
use Prim.Native.Nat.{ℕ, ◌<◌, ◌≤◌}
use Rattle.std.specs.Prelude.{Ok}
use Rattle.table.specs.Roles.{member}
use Rattle.table.proofs.Faults.{barred_yes, barred_signed, barred_plain, member_barred, member_zero, member_over, member_falls, member_passes}
use Rattle.table.proofs.Returned.{got_absent, got_bad, got_good}
use Rattle.table.proofs.roles.member_at.Goals as goal
use Rattle.table.proofs.roles.member_at.Goals.{else-w-lt0-via-then-w-lt0+else-not-signed, else-w-lt0-via-else-w-lt0}

pub returns-in_default : goal.returns-in_default
returns-in_default c = let a = c.args in sym (got_absent (member a.signed a.top a.previous) _ _ _ (sym c.word_at.ensures ∙ c.in_default.is))

pub returns-then-not-signed : goal.returns-then-not-signed
returns-then-not-signed c =
    let a = c.args in
    let z = c.in-Ok.w in
    let k : to_z w32 (of_z w32 z) ≡ z = search rules in
    let h : lt_z z (pos 0) ≡ true = rw k at c.if-w-lt0.true in
    sym (got_bad (member a.signed a.top a.previous) _ _ _ _ _ (sym c.in-Ok.ensures) (member_barred a.signed a.top a.previous a.i z (barred_yes a.signed z h c.if-not-signed.true)))

pub returns-then-n-eq0 : goal.returns-then-n-eq0
returns-then-n-eq0 c =
    let a = c.args in
    let z = c.in-Ok.w in
    let k : to_z w32 (of_z w32 z) ≡ z = search rules in
    let s : nat_abs z ≡ c.size-n.result = rw k at (sym c.size-n.ensures) in
    sym (got_bad (member a.signed a.top a.previous) _ _ _ _ _ (sym c.in-Ok.ensures) (member_zero a.signed a.top a.previous a.i z (s ∙ c.if-n-eq0.true)))

pub returns-then-top-n : goal.returns-then-top-n
returns-then-top-n c =
    let a = c.args in
    let z = c.in-Ok.w in
    let k : to_z w32 (of_z w32 z) ≡ z = search rules in
    let s : nat_abs z ≡ c.size-n.result = rw k at (sym c.size-n.ensures) in
    let h : a.top < nat_abs z = rw s c.if-top-n.true in
    sym (got_bad (member a.signed a.top a.previous) _ _ _ _ _ (sym c.in-Ok.ensures) (member_over a.signed a.top a.previous a.i z h))

pub returns-then-n-previous : goal.returns-then-n-previous
returns-then-n-previous c =
    let a = c.args in
    let z = c.in-Ok.w in
    let k : to_z w32 (of_z w32 z) ≡ z = search rules in
    let s : nat_abs z ≡ c.size-n.result = rw k at (sym c.size-n.ensures) in
    let plain : (not (non_neg z) && not a.signed) ≡ false = elim c.else-w-lt0.branch [
      | else-w-lt0-via-then-w-lt0+else-not-signed w ↦ barred_signed a.signed z w.if-not-signed.false
      | else-w-lt0-via-else-w-lt0 w ↦ barred_plain a.signed z (rw k at w.if-w-lt0.false)
    ] in
    let positive : 0 < nat_abs z = let h = c.if-n-eq0.false in rw s (omega (arith, h)) in
    let inside : nat_abs z ≤ a.top = rw s c.if-top-n.false in
    let h : nat_abs z ≤ a.previous = rw s c.if-n-previous.true in
    sym (got_bad (member a.signed a.top a.previous) _ _ _ _ _ (sym c.in-Ok.ensures) (member_falls a.signed a.top a.previous a.i z plain positive inside h))

pub returns : goal.returns
returns c =
    let a = c.args in
    let z = c.in-Ok.w in
    let k : to_z w32 (of_z w32 z) ≡ z = search rules in
    let s : nat_abs z ≡ c.size-n.result = rw k at (sym c.size-n.ensures) in
    let plain : (not (non_neg z) && not a.signed) ≡ false = elim c.else-w-lt0.branch [
      | else-w-lt0-via-then-w-lt0+else-not-signed w ↦ barred_signed a.signed z w.if-not-signed.false
      | else-w-lt0-via-else-w-lt0 w ↦ barred_plain a.signed z (rw k at w.if-w-lt0.false)
    ] in
    let inside : nat_abs z ≤ a.top = rw s c.if-top-n.false in
    let h : a.previous < nat_abs z = rw s c.if-n-previous.false in
    ap (λ (n : ℕ). Ok (n, c.in-Ok.next)) (sym s)
    ∙ sym (got_good (member a.signed a.top a.previous) _ _ _ _ (sym c.in-Ok.ensures) (member_passes a.signed a.top a.previous a.i z plain inside h))
