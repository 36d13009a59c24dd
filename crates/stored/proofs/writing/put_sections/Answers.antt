-- `stored::writing::put_sections` meets its contract. The invariant of its loop is `Going`. Assumes nothing.
use mathlib.Core.Path.{◌≡◌, sym, ap, ◌∙◌, subst}
use mathlib.Core.Bool.{Bool, not}
use mathlib.Core.List.{List}
use Prim.Native.Nat.{ℕ, ◌+◌}
use native.Mathlib.Omega.{arith}
use native.Mathlib.Numerals.{add-one}
use lib.IntN.{pos, nat_abs}
use lib.ListN.{get_or}
use lib.Signed.{lt_z, non_neg}
use Rattle.std.specs.Prelude.{Option, Some}
use mir.Syntax.{w32}
use mir.Val.{to_z, of_z}
use Rattle.bytes_out.specs.Putting.{Put}
use Rattle.stored.specs.Bytes.{number_bytes}
use Rattle.stored.specs.Machine.{Fits, asked_at, role_of, point_after, bytes_by}
use Rattle.stored.specs.declared.points.Asked.{Asked}
use Rattle.stored.specs.declared.points.Point.{Point}
use Rattle.stored.proofs.NumberLaws.{fits_size}
use Rattle.stored.proofs.Going.{Going, On, second, going_start, going_on, going_done, below_size, below_is, bytes_by_lem}
use borrow.Author.Rules.{rules}
use Rattle.stored.proofs.writing.put_sections.Goals as goal

pub loop-k-init : goal.loop-k-init
loop-k-init c =
    let a = c.args in
    let p = c.requires in
    ((second a.t.now p.0 p.1).1, going_start a.t.now p.0 p.1 a.top a.out.now a.at p.2 (omega arith) (omega arith))

pub unreachable-requires : goal.unreachable-requires
unreachable-requires c =
    let a = c.args in
    let on : On a.t.now a.top a.out.now a.at c.loop-k.out c.loop-k.to c.loop-k.k c.loop-k.point c.loop-k.invariant.1 =
    going_on a.t.now a.top a.out.now a.at c.loop-k.out c.loop-k.to c.loop-k.k c.loop-k.point c.loop-k.invariant.1 c.loop-k-test.true in
    subst Fits (sym c.asks.ensures ∙ c.in_default.is) on.fits

pub put_word-to-requires : goal.put_word-to-requires
put_word-to-requires c =
    let on : let a = c.args in On a.t.now a.top a.out.now a.at c.loop-k.out c.loop-k.to c.loop-k.k c.loop-k.point c.loop-k.invariant.1 =
    let a = c.args in
    going_on a.t.now a.top a.out.now a.at c.loop-k.out c.loop-k.to c.loop-k.k c.loop-k.point c.loop-k.invariant.1 c.loop-k-test.true in
    let sized : c.size-n.result ≡ nat_abs (get_or c.args.t.now c.loop-k.k (pos 0)) =
    let z = get_or c.args.t.now c.loop-k.k (pos 0) in
    let k : to_z w32 (of_z w32 z) ≡ z = search rules in
    rw k at c.size-n.ensures in
    let signs : lt_z (to_z w32 (of_z w32 (get_or c.args.t.now c.loop-k.k (pos 0)))) (pos 0) ≡ not (non_neg (get_or c.args.t.now c.loop-k.k (pos 0))) =
    let z = get_or c.args.t.now c.loop-k.k (pos 0) in
    let k : to_z w32 (of_z w32 z) ≡ z = search rules in
    rw k (below_is z) in
    let o = on in
    let a = c.args in
    let n = fits_size (asked_at a.top c.loop-k.point) c.loop-k.k (get_or a.t.now c.loop-k.k (pos 0)) o.fits o.good in
    (rw (sized) n, λ e. rw (sized) (below_size (get_or a.t.now c.loop-k.k (pos 0)) (sym (signs) ∙ e)))

pub loop-k-preserved : goal.loop-k-preserved
loop-k-preserved c =
    let on : let a = c.args in On a.t.now a.top a.out.now a.at c.loop-k.out c.loop-k.to c.loop-k.k c.loop-k.point c.loop-k.invariant.1 =
    let a = c.args in
    going_on a.t.now a.top a.out.now a.at c.loop-k.out c.loop-k.to c.loop-k.k c.loop-k.point c.loop-k.invariant.1 c.loop-k-test.true in
    let sized : c.size-n.result ≡ nat_abs (get_or c.args.t.now c.loop-k.k (pos 0)) =
    let z = get_or c.args.t.now c.loop-k.k (pos 0) in
    let k : to_z w32 (of_z w32 z) ≡ z = search rules in
    rw k at c.size-n.ensures in
    let a = c.args in
    let o = on in
    let z = get_or a.t.now c.loop-k.k (pos 0) in
    let p = asked_at a.top c.loop-k.point in
    let signs : lt_z (to_z w32 (of_z w32 (get_or c.args.t.now c.loop-k.k (pos 0)))) (pos 0) ≡ not (non_neg (get_or c.args.t.now c.loop-k.k (pos 0))) =
    let z = get_or c.args.t.now c.loop-k.k (pos 0) in
    let k : to_z w32 (of_z w32 z) ≡ z = search rules in
    rw k (below_is z) in
    let e : bytes_by (Some c.in-Some.what) (lt_z (to_z w32 (of_z w32 z)) (pos 0)) c.size-n.result ≡ number_bytes (role_of p) z =
    ap (λ (x : Option Asked). bytes_by x (lt_z (to_z w32 (of_z w32 z)) (pos 0)) c.size-n.result) (sym c.in-Some.is ∙ c.asks.ensures)
    ∙ ap (λ (x : Bool). bytes_by p x c.size-n.result) (signs)
    ∙ ap (bytes_by p (not (non_neg z))) (sized)
    ∙ bytes_by_lem p z o.fits in
    let put = subst (λ (bs : List ℕ). Put c.loop-k.out c.loop-k.to bs c.put_word-to.result c.put_word-to.new.out) e c.put_word-to.ensures in
    let g = o.on c.put_word-to.result c.put_word-to.new.out put in
    let f : point_after c.loop-k.point (nat_abs z) ≡ c.step-point.result = sym (c.step-point.ensures ∙ ap (point_after c.loop-k.point) (sized)) in (
      omega (arith, c.loop-k-test.true),
      subst (λ (x : Point). Going a.t.now a.top a.out.now a.at c.put_word-to.new.out c.put_word-to.result (c.loop-k.k + 1) x) f
          (subst (λ (m : ℕ). Going a.t.now a.top a.out.now a.at c.put_word-to.new.out c.put_word-to.result m (point_after c.loop-k.point (nat_abs z))) (sym (add-one c.loop-k.k)) g),
    )

pub returns : goal.returns
returns c =
    let a = c.args in
    going_done a.t.now a.top a.out.now a.at c.loop-k.out c.loop-k.to c.loop-k.k c.loop-k.point c.loop-k.invariant.1 c.loop-k-test.false
