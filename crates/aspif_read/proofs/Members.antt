-- The machine over the members of a list agrees with what `Lines` takes. Assumes nothing.
use mathlib.Core.Path.{◌≡◌, refl, sym, ap, ap₂, ◌∙◌, subst}
use mathlib.Core.Bool.{Bool, true, false, ◌&&◌}
use mathlib.Core.List.{List, [], ◌∷◌, map}
use mathlib.Core.Option as T
use mathlib.Core.Option.{none}
use Rattle.std.specs.Prelude.{Option, Some, None}
use Prim.Native.Nat.{ℕ, zero, suc, ◌-◌, ◌<◌, ◌≤◌, min}
use native.Mathlib.Omega.{arith}
use borrow.Author.Tests.{leb-true, leb-false, ne_eqb}
use lib.Dec.{eqb, leb, ltb}
use lib.IntN.{ℤ, pos, negsuc}
use lib.ListN.{length}
use Rattle.text.specs.Text.{pick}
use Rattle.aspif.specs.Statements.{Signed}
use Rattle.aspif.specs.Lines.{Weighed, Raw, take_atoms, take_literals, take_pairs}
use Rattle.aspif_scan.specs.declared.number.Number.{Number}
use Rattle.aspif_scan.specs.declared.machine.Stage.{Stage}
use Rattle.aspif_scan.specs.declared.machine.Stage.TheVariants.{HeadCount, Head, Body, LiteralCount, Literal, Bound, PairCount, Pair, Weight, NormalEnd, WeightEnd, Outside}
use Rattle.aspif_scan.specs.declared.machine.State.{State}
use Rattle.aspif_scan.specs.Machine.{higher_of, step_at, step_of, read_by}
use Rattle.aspif_scan.specs.Marks.{slot_of, add_of, mark_at, mark_of, marks_by}
use Rattle.aspif_read.specs.Survey.{is_whole}
use Rattle.aspif_read.proofs.Leaves.{cap, capped, cap_some, st, top_all, within_all, mark_atoms, atoms_in, mark_literals, pair_atoms, fine, within_pairs, mark_pairs, LowAll, Agree}

-- ---- one number

outside_stays : (s : State) (ns : List (Option Number)) → s.stage ≡ Outside → (read_by s ns).stage ≡ Outside
unfolding read_by step_of
outside_stays s [] e = e
outside_stays s (None ∷ ns) e = outside_stays (step_of s None) ns refl
outside_stays s (Some n ∷ ns) e = outside_stays (step_of s (Some n)) ns (ap (λ (x : Stage). (step_at x s n).stage) e)

not_whole : (s : State) (ns : List (Option Number)) → s.stage ≡ Outside → is_whole (read_by s ns).stage ≡ false
not_whole s ns e = ap is_whole (outside_stays s ns e)

pub read_step : (s : State) (n : Option Number) (ns : List (Option Number)) → read_by s (n ∷ ns) ≡ read_by (step_of s n) ns
unfolding read_by
read_step s n ns = refl

mark_step : (s : State) (n : Option Number) (ns : List (Option Number)) (m : List ℕ) → marks_by s (n ∷ ns) m ≡ marks_by (step_of s n) ns (mark_of s n m)
unfolding marks_by
mark_step s n ns m = refl

-- where the next state and marks are known
agree_on : (o : T.Option Raw) (s u : State) (n : Option Number) (ns : List (Option Number)) (m k : List ℕ) → step_of s n ≡ u → mark_of s n m ≡ k
    → Agree o (read_by u ns) (marks_by u ns k) → Agree o (read_by s (n ∷ ns)) (marks_by s (n ∷ ns) m)
agree_on o s u n ns m k e f g =
    let a : read_by s (n ∷ ns) ≡ read_by u ns = read_step s n ns ∙ ap (λ (x : State). read_by x ns) e in
    let b : marks_by s (n ∷ ns) m ≡ marks_by u ns k = mark_step s n ns m ∙ ap₂ (λ (x : State) (y : List ℕ). marks_by x ns y) e f in
    subst (λ (y : List ℕ). Agree o (read_by s (n ∷ ns)) y) (sym b) (subst (λ (x : State). Agree o x (marks_by u ns k)) (sym a) g)

pub agree_off : (s : State) (n : Option Number) (ns : List (Option Number)) → (step_of s n).stage ≡ Outside → is_whole (read_by s (n ∷ ns)).stage ≡ false
agree_off s n ns e = ap (λ (x : State). is_whole x.stage) (read_step s n ns) ∙ not_whole (step_of s n) ns e

read_nil : (s : State) → read_by s [] ≡ s
unfolding read_by
read_nil s = refl

marks_nil : (s : State) (m : List ℕ) → marks_by s [] m ≡ m
unfolding marks_by
marks_nil s m = refl

agree_nil : (s : State) → is_whole s.stage ≡ false → is_whole (read_by s []).stage ≡ false
agree_nil s e = ap (λ (x : State). is_whole x.stage) (read_nil s) ∙ e

-- ---- too many for the numbers that are left

module _ {A : Type 0} where
  pub atoms_short : (n : ℕ) (next : List ℕ → List ℤ → T.Option A) (zs : List ℤ) → length zs < n → take_atoms n next zs ≡ none
  atoms_short zero next zs h = absurd (omega arith)
  atoms_short (suc n) next [] h = refl
  atoms_short (suc n) next (ℤ.pos zero ∷ zs) h = refl
  atoms_short (suc n) next (ℤ.pos (suc p) ∷ zs) h = atoms_short n (λ l. next (suc p ∷ l)) zs (omega arith)
  atoms_short (suc n) next (negsuc p ∷ zs) h = refl

  pub literals_short : (n : ℕ) (next : List Signed → List ℤ → T.Option A) (zs : List ℤ) → length zs < n → take_literals n next zs ≡ none
  literals_short zero next zs h = absurd (omega arith)
  literals_short (suc n) next [] h = refl
  literals_short (suc n) next (ℤ.pos zero ∷ zs) h = refl
  literals_short (suc n) next (ℤ.pos (suc p) ∷ zs) h = literals_short n (λ l. next (record { plain = true; atom = suc p } ∷ l)) zs (omega arith)
  literals_short (suc n) next (negsuc p ∷ zs) h = literals_short n (λ l. next (record { plain = false; atom = suc p } ∷ l)) zs (omega arith)

  pub pairs_short : (n : ℕ) (next : List Weighed → List ℤ → T.Option A) (zs : List ℤ) → length zs < n → take_pairs n next zs ≡ none
  pairs_short zero next zs h = absurd (omega arith)
  pairs_short (suc n) next [] h = refl
  pairs_short (suc n) next (z ∷ []) h = refl
  pairs_short (suc n) next (ℤ.pos zero ∷ w ∷ zs) h = refl
  pairs_short (suc n) next (ℤ.pos (suc p) ∷ w ∷ zs) h = pairs_short n (λ l. next (record { atom = suc p; weight = w } ∷ l)) zs (omega arith)
  pairs_short (suc n) next (negsuc p ∷ w ∷ zs) h = refl

-- a list function that fails where the count is too large sees no difference in a count that is held
pub held_count : (f : ℕ → T.Option Raw) (k : ℕ) → k < 18446744073709551615 → ((n : ℕ) → k < n → f n ≡ none) → (n : ℕ) → f n ≡ f (cap n)
held_count f k h short n = at (leb n 18446744073709551615) refl
  where
    at : (b : Bool) → leb n 18446744073709551615 ≡ b → f n ≡ f (cap n)
    at true e = let q = leb-true n 18446744073709551615 e in ap f (omega arith)
    at false e = let q = leb-false n 18446744073709551615 e in short n (omega arith) ∙ sym (short (cap n) (omega arith))

-- ---- members of a list

-- what is expected where n members are left
abbrev pub again : Stage → Stage → ℕ → Stage
again after member zero = after
again after member (suc n) = member

again_of : (after member : Stage) (n : ℕ) → pick (eqb n 0) after member ≡ again after member n
again_of after member zero = refl
again_of after member (suc n) = ap (λ (b : Bool). pick b after member) (ne_eqb (suc n) 0 (λ q. omega arith))

again_next : (after member : Stage) (n : ℕ) → pick (eqb (suc n) 1) after member ≡ again after member n
again_next after member zero = refl
again_next after member (suc n) = ap (λ (b : Bool). pick b after member) (ne_eqb (suc (suc n)) 1 (λ q. omega arith))

one_off : (n : ℕ) → suc n - 1 ≡ n
one_off n = omega arith

cap_none : ltb 0 (cap 0) ≡ false
cap_none = refl

module _ (n a b t : ℕ) (w : Bool) where
  head_step : (p : ℕ) → step_of (st Head (suc n) a b t w) (Some (capped (pos (suc p)))) ≡ st (again Body Head n) n (cap (suc p)) b (higher_of t (cap (suc p))) (w && leb (cap (suc p)) 256)
  unfolding step_of
  head_step p = rw (cap_some p, again_next Body Head n, one_off n)

  literal_step : (p : ℕ) → step_of (st Literal (suc n) a b t w) (Some (capped (pos (suc p)))) ≡ st (again NormalEnd Literal n) n (cap (suc p)) b (higher_of t (cap (suc p))) (w && leb (cap (suc p)) 256)
  unfolding step_of
  literal_step p = rw (cap_some p, again_next NormalEnd Literal n, one_off n)

  negated_step : (p : ℕ) → step_of (st Literal (suc n) a b t w) (Some (capped (negsuc p))) ≡ st (again NormalEnd Literal n) n (cap (suc p)) b (higher_of t (cap (suc p))) (w && leb (cap (suc p)) 256)
  unfolding step_of
  negated_step p = rw (cap_some p, again_next NormalEnd Literal n, one_off n)

  pair_step : (p : ℕ) → step_of (st Pair (suc n) a b t w) (Some (capped (pos (suc p)))) ≡ st Weight n (cap (suc p)) b (higher_of t (cap (suc p))) (w && leb (cap (suc p)) 256)
  unfolding step_of
  pair_step p = rw (cap_some p, again_next Weight Weight n, same n, one_off n)
    where
      same : (k : ℕ) → again Weight Weight k ≡ Weight
      same zero = refl
      same (suc k) = refl

  weight_step : (z : ℤ) → step_of (st Weight n a b t w) (Some (capped z)) ≡ st (again WeightEnd Pair n) n a b t (w && fine 65535 z)
  unfolding step_of
  weight_step (ℤ.pos v) = rw (again_of WeightEnd Pair n)
  weight_step (negsuc v) = rw (again_of WeightEnd Pair n)

  pub bound_step : (z : ℤ) → step_of (st Bound n a b t w) (Some (capped z)) ≡ st PairCount n a (min (capped z).size 4194306) t (w && fine 4194305 z)
  unfolding step_of
  bound_step (ℤ.pos v) = refl
  bound_step (negsuc v) = refl

  pub head_count_step : (k : ℕ) → step_of (st HeadCount n a b t w) (Some (capped (pos k))) ≡ st (again Body Head (cap k)) (cap k) a b t w
  unfolding step_of
  head_count_step k = rw (again_of Body Head (cap k))

  pub literal_count_step : (k : ℕ) → step_of (st LiteralCount n a b t w) (Some (capped (pos k))) ≡ st (again NormalEnd Literal (cap k)) (cap k) a b t w
  unfolding step_of
  literal_count_step k = rw (again_of NormalEnd Literal (cap k))

  pub pair_count_step : (k : ℕ) → step_of (st PairCount n a b t w) (Some (capped (pos k))) ≡ st (again WeightEnd Pair (cap k)) (cap k) a b t w
  unfolding step_of
  pair_count_step k = rw (again_of WeightEnd Pair (cap k))

-- the field that a number stands in
abbrev pub given : ℤ → Option Number
given z = Some (capped z)

-- the state and the marks after numbers
abbrev pub Then : T.Option Raw → State → List ℤ → List ℕ → Type 0
Then o s zs m = Agree o (read_by s (map given zs)) (marks_by s (map given zs) m)

marks_of_lem : (s : State) (n : Number) (m : List ℕ) → mark_of s (Some n) m ≡ mark_at s.stage s.atom n m
unfolding mark_of
marks_of_lem s n m = refl

-- a number that is outside where it stands
pub off : (s : State) (z : ℤ) (zs : List ℤ) (m : List ℕ) → (step_at s.stage s (capped z)).stage ≡ Outside → Then none s (z ∷ zs) m
off s z zs m e = agree_off s (given z) (map given zs) (step_stage s (capped z) ∙ e)
  where
    step_stage : (s : State) (n : Number) → (step_of s (Some n)).stage ≡ (step_at s.stage s n).stage
    step_stage s n = unfold step_of in refl

pub on : (o : T.Option Raw) (s u : State) (z : ℤ) (zs : List ℤ) (m : List ℕ) → step_of s (given z) ≡ u → Then o u zs (mark_at s.stage s.atom (capped z) m) → Then o s (z ∷ zs) m
on o s u z zs m e g = agree_on o s u (given z) (map given zs) m (mark_at s.stage s.atom (capped z) m) e (marks_of_lem s (capped z) m) g

pub stop : (s : State) (m : List ℕ) → is_whole s.stage ≡ false → Then none s [] m
stop s m e = agree_nil s e

pub atoms_agree : (k : ℕ) (next : List ℕ → List ℤ → T.Option Raw) (a b t : ℕ) (w : Bool) (m : List ℕ) (zs : List ℤ)
    → ((l : List ℕ) (ys : List ℤ) (q : ℕ) → LowAll l → length ys ≤ length zs → Then (next l ys) (st Body 0 q b (top_all t l) (within_all w l)) ys (mark_atoms m l))
    → Then (take_atoms k next zs) (st (again Body Head k) k a b t w) zs m
atoms_agree zero next a b t w m zs h = h [] zs a tt (omega arith)
atoms_agree (suc n) next a b t w m [] h = stop (st Head (suc n) a b t w) m refl
atoms_agree (suc n) next a b t w m (ℤ.pos zero ∷ zs) h = off (st Head (suc n) a b t w) (pos 0) zs m refl
atoms_agree (suc n) next a b t w m (ℤ.pos (suc p) ∷ zs) h =
    on (take_atoms n (λ l. next (suc p ∷ l)) zs) (st Head (suc n) a b t w) (st (again Body Head n) n (cap (suc p)) b (higher_of t (cap (suc p))) (w && leb (cap (suc p)) 256)) (pos (suc p)) zs m
    (head_step n a b t w p)
    (atoms_agree n (λ l. next (suc p ∷ l)) (cap (suc p)) b (higher_of t (cap (suc p))) (w && leb (cap (suc p)) 256) (add_of m (slot_of 0 (cap (suc p))) 1) zs
    (λ l ys q u i. h (suc p ∷ l) ys q (omega arith, u) (omega arith)))
atoms_agree (suc n) next a b t w m (negsuc p ∷ zs) h = off (st Head (suc n) a b t w) (negsuc p) zs m refl

pub literals_agree : (k : ℕ) (next : List Signed → List ℤ → T.Option Raw) (a b t : ℕ) (w : Bool) (m : List ℕ) (zs : List ℤ)
    → ((l : List Signed) (ys : List ℤ) (q : ℕ) → LowAll (atoms_in l) → Then (next l ys) (st NormalEnd 0 q b (top_all t (atoms_in l)) (within_all w (atoms_in l))) ys (mark_literals m l))
    → Then (take_literals k next zs) (st (again NormalEnd Literal k) k a b t w) zs m
literals_agree zero next a b t w m zs h = h [] zs a tt
literals_agree (suc n) next a b t w m [] h = stop (st Literal (suc n) a b t w) m refl
literals_agree (suc n) next a b t w m (ℤ.pos zero ∷ zs) h = off (st Literal (suc n) a b t w) (pos 0) zs m refl
literals_agree (suc n) next a b t w m (ℤ.pos (suc p) ∷ zs) h =
    let x : Signed = record { plain = true; atom = suc p } in
    on (take_literals n (λ l. next (x ∷ l)) zs) (st Literal (suc n) a b t w) (st (again NormalEnd Literal n) n (cap (suc p)) b (higher_of t (cap (suc p))) (w && leb (cap (suc p)) 256)) (pos (suc p)) zs m
    (literal_step n a b t w p)
    (literals_agree n (λ l. next (x ∷ l)) (cap (suc p)) b (higher_of t (cap (suc p))) (w && leb (cap (suc p)) 256) (add_of m (slot_of 1 (cap (suc p))) 1) zs
    (λ l ys q u. h (x ∷ l) ys q (omega arith, u)))
literals_agree (suc n) next a b t w m (negsuc p ∷ zs) h =
    let x : Signed = record { plain = false; atom = suc p } in
    on (take_literals n (λ l. next (x ∷ l)) zs) (st Literal (suc n) a b t w) (st (again NormalEnd Literal n) n (cap (suc p)) b (higher_of t (cap (suc p))) (w && leb (cap (suc p)) 256)) (negsuc p) zs m
    (negated_step n a b t w p)
    (literals_agree n (λ l. next (x ∷ l)) (cap (suc p)) b (higher_of t (cap (suc p))) (w && leb (cap (suc p)) 256) (add_of m (slot_of 2 (cap (suc p))) 1) zs
    (λ l ys q u. h (x ∷ l) ys q (omega arith, u)))

pub pairs_agree : (k : ℕ) (next : List Weighed → List ℤ → T.Option Raw) (a b t : ℕ) (w : Bool) (m : List ℕ) (zs : List ℤ)
    → ((l : List Weighed) (ys : List ℤ) (q : ℕ) → LowAll (pair_atoms l) → Then (next l ys) (st WeightEnd 0 q b (top_all t (pair_atoms l)) (within_pairs w l)) ys (mark_pairs m l))
    → Then (take_pairs k next zs) (st (again WeightEnd Pair k) k a b t w) zs m
pairs_agree zero next a b t w m zs h = h [] zs a tt
pairs_agree (suc n) next a b t w m [] h = stop (st Pair (suc n) a b t w) m refl
pairs_agree (suc n) next a b t w m (ℤ.pos zero ∷ []) h = off (st Pair (suc n) a b t w) (pos 0) [] m refl
pairs_agree (suc n) next a b t w m (ℤ.pos (suc p) ∷ []) h =
    on none (st Pair (suc n) a b t w) (st Weight n (cap (suc p)) b (higher_of t (cap (suc p))) (w && leb (cap (suc p)) 256)) (pos (suc p)) [] m
    (pair_step n a b t w p) (stop (st Weight n (cap (suc p)) b (higher_of t (cap (suc p))) (w && leb (cap (suc p)) 256)) (add_of m (slot_of 3 (cap (suc p))) 1) refl)
pairs_agree (suc n) next a b t w m (negsuc p ∷ []) h = off (st Pair (suc n) a b t w) (negsuc p) [] m refl
pairs_agree (suc n) next a b t w m (ℤ.pos zero ∷ v ∷ zs) h = off (st Pair (suc n) a b t w) (pos 0) (v ∷ zs) m refl
pairs_agree (suc n) next a b t w m (ℤ.pos (suc p) ∷ v ∷ zs) h =
    let x : Weighed = record { atom = suc p; weight = v } in
    let t₁ = higher_of t (cap (suc p)) in
    let w₁ = w && leb (cap (suc p)) 256 in
    let m₁ = add_of m (slot_of 3 (cap (suc p))) 1 in
    on (take_pairs n (λ l. next (x ∷ l)) zs) (st Pair (suc n) a b t w) (st Weight n (cap (suc p)) b t₁ w₁) (pos (suc p)) (v ∷ zs) m
    (pair_step n a b t w p)
    (on (take_pairs n (λ l. next (x ∷ l)) zs) (st Weight n (cap (suc p)) b t₁ w₁) (st (again WeightEnd Pair n) n (cap (suc p)) b t₁ (w₁ && fine 65535 v)) v zs m₁
    (weight_step n (cap (suc p)) b t₁ w₁ v)
    (pairs_agree n (λ l. next (x ∷ l)) (cap (suc p)) b t₁ (w₁ && fine 65535 v) (add_of m₁ (slot_of 4 (cap (suc p))) (capped v).size) zs (λ l ys q u. h (x ∷ l) ys q (omega arith, u))))
pairs_agree (suc n) next a b t w m (negsuc p ∷ v ∷ zs) h = off (st Pair (suc n) a b t w) (negsuc p) (v ∷ zs) m refl
