-- `foundation::walk` meets its contract. The invariant of its loop: the walk over the candidates from the k-th on, with the marks so far, comes to the marks
-- that the whole walk comes to, and those left so far with those that it leaves are all that are left.
-- Assumes nothing.
use mathlib.Core.Path.{◌≡◌, refl, sym, ap, subst, ◌∙◌}
use mathlib.Core.Bool.{Bool, true, false}
use mathlib.Core.List.Memᴰ
use mathlib.Core.List.{List, ◌∷◌, ◌++◌}
use Prim.Native.Nat.{ℕ, ◌+◌, ◌%◌, ◌<◌}
use native.Mathlib.Omega.{arith}
use lib.IntN.{ℤ}
use lib.ListN.{length, length-set, get_or, set, take}
use Rattle.meaning.specs.Lists.{◌∈◌, all}
use Rattle.meaning.specs.Aggregates.{Atoms}
use Rattle.foundation.specs.Walk.{marked, atom_of, positives, Fit, with_atom, marks_by, left_by, walk_marks, walk_left}
use Rattle.foundation.proofs.Words.{marked_next, marked_with, grown, stands_i, rest, rest_on, rest_end, rest_set}
use Rattle.foundation.proofs.Walks.{marks_on, left_on, marks_nil, left_nil}
use Rattle.foundation.proofs.walk.Goals as goal
use Rattle.foundation.proofs.walk.Goals.{then-not-marks-i+then-is_ready, then-not-marks-i+else-is_ready, else-not-marks-i}

-- the walk from the candidate c on, once the two tests are made
turn_marks : (t : List ℤ) (now later : List ℕ) (c : ℕ) (G M : Atoms) (x y : Bool) → now ≡ c ∷ later → G (atom_of c) ≡ x → all G (positives t c) ≡ y
    → walk_marks t now G ≡ M → walk_marks t later (marks_by x y c G) ≡ M
turn_marks t now later c G M x y h e f i = sym (ap (λ (l : List ℕ). walk_marks t l G) h ∙ marks_on t c later G x y e f) ∙ i

turn_left : (t : List ℤ) (now later : List ℕ) (c : ℕ) (G : Atoms) (front whole : List ℕ) (x y : Bool) → now ≡ c ∷ later → G (atom_of c) ≡ x → all G (positives t c) ≡ y
    → front ++ walk_left t now G ≡ whole → front ++ left_by x y c (walk_left t later (marks_by x y c G)) ≡ whole
turn_left t now later c G front whole x y h e f i =
    ap (λ (l : List ℕ). front ++ l) (sym (ap (λ (l : List ℕ). walk_left t l G) h ∙ left_on t c later G x y e f)) ∙ i

pub is_ready-requires : goal.is_ready-requires
is_ready-requires c =
    let x = get_or c.loop-k.list c.loop-k.k 0 in
    let first : rest c.loop-k.list c.args.number c.loop-k.k ≡ x ∷ rest c.loop-k.list c.args.number (c.loop-k.k + 1) =
    rest_on c.loop-k.list c.args.number c.loop-k.k c.loop-k-test.true (omega (arith, c.requires.1, c.loop-k.invariant.1)) in
    c.loop-k.invariant.2 x (subst (λ (l : List ℕ). x ∈ l) (sym first) (Memᴰ.head refl))

pub loop-k-preserved : goal.loop-k-preserved
loop-k-preserved c =
    let t = c.args.t.now in
    let n = c.args.number in
    let b = c.loop-k.list in
    let k = c.loop-k.k in
    let x = get_or b k 0 in
    let G = marked c.loop-k.marks in
    let first : rest b n k ≡ x ∷ rest b n (k + 1) = rest_on b n k c.loop-k-test.true (omega (arith, c.requires.1, c.loop-k.invariant.1)) in
    let fit_on : Fit t (rest b n (k + 1)) = λ y m. c.loop-k.invariant.2 y (subst (λ (l : List ℕ). y ∈ l) (sym first) (Memᴰ.tail m)) in
    let l = rest b n (k + 1) in
    elim c.if-not-marks-i.branch [
      | then-not-marks-i+then-is_ready w ↦
          let u = marked_next c.loop-k.marks (x % 256) ∙ w.if-not-marks-i.true in
          let a = sym w.is_ready.ensures ∙ w.if-is_ready.true in
          let m : marked (set c.loop-k.marks (x % 256) true) ≡ with_atom (atom_of x) G = marked_with c.loop-k.marks (x % 256) (omega arith) in
          rw (w.left-is, w.list-is, w.marks-is) (
            omega (arith, c.loop-k.invariant.0),
            c.loop-k.invariant.1,
            fit_on,
            ap (walk_marks t l) m ∙ turn_marks t _ l x G _ false true first u a c.loop-k.invariant.3,
            ap (λ (H : Atoms). take c.loop-k.left b ++ walk_left t l H) m ∙ turn_left t _ l x G (take c.loop-k.left b) _ false true first u a c.loop-k.invariant.4,
          )
      | then-not-marks-i+else-is_ready w ↦
          let u = marked_next c.loop-k.marks (x % 256) ∙ w.if-not-marks-i.true in
          let a = sym w.is_ready.ensures ∙ w.if-is_ready.false in
          let e : rest (set b c.loop-k.left x) n (k + 1) ≡ l = rest_set b n (k + 1) c.loop-k.left x (omega (arith, c.loop-k.invariant.0)) in
          let room : c.loop-k.left < length b = omega (arith, c.loop-k-test.true, c.loop-k.invariant.0, c.loop-k.invariant.1, c.requires.1) in
          rw (w.left-is, w.list-is, w.marks-is) (
            omega (arith, c.loop-k.invariant.0),
            length-set b c.loop-k.left x ∙ c.loop-k.invariant.1,
            subst (Fit t) (sym e) fit_on,
            ap (λ (l : List ℕ). walk_marks t l G) e ∙ turn_marks t _ l x G _ false false first u a c.loop-k.invariant.3,
            ap (λ (l : List ℕ). take (c.loop-k.left + 1) (set b c.loop-k.left x) ++ walk_left t l G) e
                ∙ grown b c.loop-k.left x (walk_left t l G) _ room (turn_left t _ l x G (take c.loop-k.left b) _ false false first u a c.loop-k.invariant.4),
          )
      | else-not-marks-i w ↦
          let u = marked_next c.loop-k.marks (x % 256) ∙ w.if-not-marks-i.false in
          rw (w.left-is, w.list-is, w.marks-is) (
            omega (arith, c.loop-k.invariant.0),
            c.loop-k.invariant.1,
            fit_on,
            turn_marks t _ l x G _ true (all G (positives t x)) first u refl c.loop-k.invariant.3,
            turn_left t _ l x G (take c.loop-k.left b) _ true (all G (positives t x)) first u refl c.loop-k.invariant.4,
          )
    ]

pub returns : goal.returns
returns c =
    let e = rest_end c.loop-k.list c.args.number c.loop-k.k c.loop-k-test.false (omega (arith, c.requires.1, c.loop-k.invariant.1)) in (
      sym (ap (λ (l : List ℕ). walk_marks (c.args.t.now) l (marked c.loop-k.marks)) e ∙ marks_nil (c.args.t.now) (marked c.loop-k.marks)) ∙ c.loop-k.invariant.3,
      stands_i c.loop-k.list c.loop-k.left (walk_left (c.args.t.now) (rest c.loop-k.list c.args.number c.loop-k.k) (marked c.loop-k.marks)) _ c.loop-k.invariant.1
          (omega (arith, c.loop-k.invariant.0, c.requires.1)) c.loop-k.invariant.4
          (ap (λ (l : List ℕ). walk_left (c.args.t.now) l (marked c.loop-k.marks)) e ∙ left_nil (c.args.t.now) (marked c.loop-k.marks)),
    )
