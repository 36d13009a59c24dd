-- `explaining::walk` meets its contract. The invariant of its loop: the walk over the words from the k-th on, with the marks so far, comes to what the whole
-- walk comes to; and as long as nothing was added the marks are as they were.
-- Assumes nothing.
use mathlib.Core.Path.{◌≡◌, refl, sym, ap, subst, ◌∙◌}
use mathlib.Core.Bool.{Bool, true, false}
use mathlib.Core.List.Memᴰ
use mathlib.Core.List.{List, ◌∷◌}
use Prim.Native.Nat.{ℕ, ◌+◌, ◌%◌}
use native.Mathlib.Omega.{arith}
use native.Mathlib.Numerals.{add-one}
use lib.ListN.{length-set, get_or, set, take}
use Rattle.meaning.specs.Lists.{◌∈◌}
use Rattle.meaning.proofs.Tools.{clash}
use Rattle.foundation.proofs.Words.{rest, rest_on, rest_end}
use Rattle.rounds.specs.Rounds.{whys_in}
use Rattle.explaining.specs.Walk.{due, mark_by, walk_codes, FitCodes}
use Rattle.explaining.proofs.Arrays.{whys_set}
use Rattle.explaining.proofs.Walks.{walk_on, walk_nil}
use Rattle.explaining.proofs.walk.Goals as goal
use Rattle.explaining.proofs.walk.Goals.{then-is_due, else-is_due}

pub is_due-requires : goal.is_due-requires
is_due-requires c =
    let x = get_or c.args.list.now c.loop-k.k 0 in
    let first : rest c.args.list.now c.args.number c.loop-k.k ≡ x ∷ rest c.args.list.now c.args.number (c.loop-k.k + 1) = rest_on c.args.list.now c.args.number c.loop-k.k c.loop-k-test.true c.requires.2 in
    c.loop-k.invariant.1 x (subst (λ (l : List ℕ). x ∈ l) (sym first) (Memᴰ.head refl))

pub loop-k-preserved : goal.loop-k-preserved
loop-k-preserved c =
    let t = c.args.t.now in
    let b = c.args.list.now in
    let n = c.args.number in
    let r = c.args.round in
    let k = c.loop-k.k in
    let x = get_or b k 0 in
    let w = whys_in c.loop-k.marks in
    let later = rest b n (k + 1) in
    let first : rest b n k ≡ x ∷ later = rest_on b n k c.loop-k-test.true c.requires.2 in
    let fit_on : FitCodes t later = λ y m. c.loop-k.invariant.1 y (subst (λ (l : List ℕ). y ∈ l) (sym first) (Memᴰ.tail m)) in
    let turn : (y : Bool) → due t r x w ≡ y → walk_codes t r (k + 1 + 1) later (mark_by y r (k + 1) x w) ≡ walk_codes t r 1 (take n b) (whys_in c.args.marks.now) = λ y e.
    ap (λ (i : ℕ). walk_codes t r i later (mark_by y r (k + 1) x w)) (add-one (k + 1))
    ∙ sym (walk_on t r (k + 1) x later w y e)
    ∙ ap (λ (l : List ℕ). walk_codes t r (k + 1) l w) (sym first)
    ∙ c.loop-k.invariant.2 in
    elim c.if-is_due.branch [
      | then-is_due v ↦
          let e : whys_in (set c.loop-k.marks (x % 256) (record { round = r; rule = k + 1 })) ≡ mark_by true r (k + 1) x w = whys_set c.loop-k.marks (x % 256) (record { round = r; rule = k + 1 }) (omega (arith, c.loop-k.invariant.0)) in
          rw (v.marks-is, v.any-is) (
            length-set c.loop-k.marks (x % 256) (record { round = r; rule = k + 1 }) ∙ c.loop-k.invariant.0,
            fit_on,
            ap (walk_codes t r (k + 1 + 1) later) e ∙ turn true (sym c.is_due.ensures ∙ v.if-is_due.true),
            λ f. absurd (clash refl f),
          )
      | else-is_due v ↦
          rw (v.marks-is, v.any-is) (c.loop-k.invariant.0, fit_on, turn false (sym c.is_due.ensures ∙ v.if-is_due.false), c.loop-k.invariant.3)
    ]

pub returns : goal.returns
returns c =
    let w = whys_in c.loop-k.marks in
    let e = rest_end c.args.list.now c.args.number c.loop-k.k c.loop-k-test.false c.requires.2 in
    (sym (ap (λ (l : List ℕ). walk_codes c.args.t.now c.args.round (c.loop-k.k + 1) l w) e ∙ walk_nil c.args.t.now c.args.round (c.loop-k.k + 1) w) ∙ c.loop-k.invariant.2, c.loop-k.invariant.3)
