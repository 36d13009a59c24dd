-- The machine over a line's numbers ends whole exactly where `Lines` parses them, and then holds what the statement says (`Leaves`). Assumes nothing.
use mathlib.Core.Path.{◌≡◌, refl, sym, ap, ap₂, ◌∙◌, subst}
use mathlib.Core.Bool.{Bool, true, false, ◌&&◌}
use mathlib.Core.List.{List, [], ◌∷◌, map}
use mathlib.Core.Option.{Option, some, none}
use Prim.Native.Nat.{ℕ, zero, suc, ◌<◌, ◌≤◌, min}
use native.Mathlib.Omega.{arith}
use borrow.Author.Tests.{ne_eqb}
use lib.Dec.{eqb}
use lib.IntN.{ℤ, pos, negsuc}
use lib.ListN.{length}
use Rattle.std.specs.Prelude as R
use Rattle.text.specs.Text.{pick, number}
use Rattle.aspif.specs.Statements.{Signed}
use Rattle.aspif.specs.Lines.{cons_number, numbers_of, Weighed, plain, weighed, Raw, taking, counted, exactly, take_atoms, take_literals, take_pairs, done, kind_parsed, parsed}
use Rattle.aspif_scan.specs.declared.number.Number.{Number}
use Rattle.aspif_scan.specs.declared.machine.Stage.{Stage}
use Rattle.aspif_scan.specs.declared.machine.Stage.TheVariants.{Disjunction, HeadCount, Head, Body, LiteralCount, Literal, Bound, PairCount, Pair, NormalEnd, WeightEnd, Outside}
use Rattle.aspif_scan.specs.declared.machine.State.{State}
use Rattle.aspif_scan.specs.Number.{number_in}
use Rattle.aspif_scan.specs.Machine.{plainly, start_of, step_at, step_of, read_by}
use Rattle.aspif_scan.specs.Marks.{marks_by}
use Rattle.aspif_scan.specs.Scan.{number_of}
use Rattle.aspif_read.specs.Survey.{is_whole, no_marks}
use Rattle.aspif_read.proofs.Leaves.{cap, capped, cap_is, st, top_all, within_all, mark_atoms, atoms_in, mark_literals, pair_atoms, fine, within_pairs, mark_pairs, LowAll, Agree}
use Rattle.aspif_read.proofs.Members.{read_step, agree_off, atoms_short, literals_short, pairs_short, held_count, again, bound_step, head_count_step, literal_count_step, pair_count_step, given, Then, off, on, stop, atoms_agree, literals_agree, pairs_agree}

-- ---- the body

body_step : (n l a b t : ℕ) (w : Bool) → step_at Body (st Body l a b t w) (capped (pos n)) ≡ st (pick (eqb n 0) LiteralCount (pick (eqb n 1) Bound Outside)) l a b t w
body_step n l a b t w = rw (cap_is n 0 (omega arith), cap_is n 1 (omega arith))

step_is : (s : State) (n : Number) → step_of s (R.Some n) ≡ step_at s.stage s n
unfolding step_of
step_is s n = refl

module _ (h : List ℕ) (low : LowAll h) where
  plain_done : (l : List Signed) (ys : List ℤ) (q : ℕ) → LowAll (atoms_in l)
      → Then (done (record { head = h; form = plain l }) ys) (st NormalEnd 0 q 0 (top_all (top_all 0 h) (atoms_in l)) (within_all (within_all true h) (atoms_in l))) ys (mark_literals (mark_atoms no_marks h) l)
  unfolding read_by marks_by
  plain_done l [] q u = (record { stage = refl; bound = refl; top = refl; within = refl; marks = refl }, low, u)
  plain_done l (z ∷ ys) q u = off (st NormalEnd 0 q 0 (top_all (top_all 0 h) (atoms_in l)) (within_all (within_all true h) (atoms_in l))) z ys (mark_literals (mark_atoms no_marks h) l) refl

  weighed_done : (b : ℤ) (l : List Weighed) (ys : List ℤ) (q : ℕ) → LowAll (pair_atoms l)
      → Then (done (record { head = h; form = weighed b l }) ys) (st WeightEnd 0 q (min (capped b).size 4194306) (top_all (top_all 0 h) (pair_atoms l)) (within_pairs (within_all true h && fine 4194305 b) l)) ys
      (mark_pairs (mark_atoms no_marks h) l)
  unfolding read_by marks_by
  weighed_done b l [] q u = (record { stage = refl; bound = refl; top = refl; within = refl; marks = refl }, low, u)
  weighed_done b l (z ∷ ys) q u =
      off (st WeightEnd 0 q (min (capped b).size 4194306) (top_all (top_all 0 h) (pair_atoms l)) (within_pairs (within_all true h && fine 4194305 b) l)) z ys (mark_pairs (mark_atoms no_marks h) l) refl

  literals_body : (q : ℕ) (ys : List ℤ) → length ys ≤ 18446744073709551615
      → Then (counted (λ n. take_literals n (λ l. done (record { head = h; form = plain l }))) ys) (st LiteralCount 0 q 0 (top_all 0 h) (within_all true h)) ys (mark_atoms no_marks h)
  literals_body q [] i = stop (st LiteralCount 0 q 0 (top_all 0 h) (within_all true h)) (mark_atoms no_marks h) refl
  literals_body q (ℤ.pos k ∷ ys) i =
      let next : List Signed → List ℤ → Option Raw = λ l. done (record { head = h; form = plain l }) in
      let u = st (again NormalEnd Literal (cap k)) (cap k) q 0 (top_all 0 h) (within_all true h) in
      on (take_literals k next ys) (st LiteralCount 0 q 0 (top_all 0 h) (within_all true h)) u (pos k) ys (mark_atoms no_marks h) (literal_count_step 0 q 0 (top_all 0 h) (within_all true h) k)
      (subst (λ (o : Option Raw). Then o u ys (mark_atoms no_marks h)) (sym (held_count (λ n. take_literals n next ys) (length ys) (omega arith) (λ n j. literals_short n next ys j) k))
      (literals_agree (cap k) next q 0 (top_all 0 h) (within_all true h) (mark_atoms no_marks h) ys plain_done))
  literals_body q (negsuc k ∷ ys) i = off (st LiteralCount 0 q 0 (top_all 0 h) (within_all true h)) (negsuc k) ys (mark_atoms no_marks h) refl

  pairs_body : (q : ℕ) (b : ℤ) (ys : List ℤ) → length ys ≤ 18446744073709551615
      → Then (counted (λ n. take_pairs n (λ l. done (record { head = h; form = weighed b l }))) ys)
      (st PairCount 0 q (min (capped b).size 4194306) (top_all 0 h) (within_all true h && fine 4194305 b)) ys (mark_atoms no_marks h)
  pairs_body q b [] i = stop (st PairCount 0 q (min (capped b).size 4194306) (top_all 0 h) (within_all true h && fine 4194305 b)) (mark_atoms no_marks h) refl
  pairs_body q b (ℤ.pos k ∷ ys) i =
      let next : List Weighed → List ℤ → Option Raw = λ l. done (record { head = h; form = weighed b l }) in
      let c = min (capped b).size 4194306 in
      let w = within_all true h && fine 4194305 b in
      let u = st (again WeightEnd Pair (cap k)) (cap k) q c (top_all 0 h) w in
      on (take_pairs k next ys) (st PairCount 0 q c (top_all 0 h) w) u (pos k) ys (mark_atoms no_marks h) (pair_count_step 0 q c (top_all 0 h) w k)
      (subst (λ (o : Option Raw). Then o u ys (mark_atoms no_marks h)) (sym (held_count (λ n. take_pairs n next ys) (length ys) (omega arith) (λ n j. pairs_short n next ys j) k))
      (pairs_agree (cap k) next q c (top_all 0 h) w (mark_atoms no_marks h) ys (weighed_done b)))
  pairs_body q b (negsuc k ∷ ys) i = off (st PairCount 0 q (min (capped b).size 4194306) (top_all 0 h) (within_all true h && fine 4194305 b)) (negsuc k) ys (mark_atoms no_marks h) refl

  bound_body_lem : (q : ℕ) (ys : List ℤ) → length ys ≤ 18446744073709551615
      → Then (taking (λ b. counted (λ n. take_pairs n (λ l. done (record { head = h; form = weighed b l })))) ys) (st Bound 0 q 0 (top_all 0 h) (within_all true h)) ys (mark_atoms no_marks h)
  bound_body_lem q [] i = stop (st Bound 0 q 0 (top_all 0 h) (within_all true h)) (mark_atoms no_marks h) refl
  bound_body_lem q (b ∷ ys) i =
      on (counted (λ n. take_pairs n (λ l. done (record { head = h; form = weighed b l }))) ys) (st Bound 0 q 0 (top_all 0 h) (within_all true h))
      (st PairCount 0 q (min (capped b).size 4194306) (top_all 0 h) (within_all true h && fine 4194305 b)) b ys (mark_atoms no_marks h) (bound_step 0 q 0 (top_all 0 h) (within_all true h) b)
      (pairs_body q b ys (omega arith))

  body_agree : (q : ℕ) (ys : List ℤ) → length ys ≤ 18446744073709551615 → Then (counted (kind_parsed h) ys) (st Body 0 q 0 (top_all 0 h) (within_all true h)) ys (mark_atoms no_marks h)
  body_agree q [] i = stop (st Body 0 q 0 (top_all 0 h) (within_all true h)) (mark_atoms no_marks h) refl
  body_agree q (ℤ.pos zero ∷ ys) i =
      let s = st Body 0 q 0 (top_all 0 h) (within_all true h) in
      on (kind_parsed h zero ys) s (st LiteralCount 0 q 0 (top_all 0 h) (within_all true h)) (pos 0) ys (mark_atoms no_marks h)
      (step_is s (capped (pos 0)) ∙ body_step 0 0 q 0 (top_all 0 h) (within_all true h)) (literals_body q ys (omega arith))
  body_agree q (ℤ.pos (suc zero) ∷ ys) i =
      let s = st Body 0 q 0 (top_all 0 h) (within_all true h) in
      on (kind_parsed h (suc zero) ys) s (st Bound 0 q 0 (top_all 0 h) (within_all true h)) (pos 1) ys (mark_atoms no_marks h)
      (step_is s (capped (pos 1)) ∙ body_step 1 0 q 0 (top_all 0 h) (within_all true h)) (bound_body_lem q ys (omega arith))
  body_agree q (ℤ.pos (suc (suc k)) ∷ ys) i =
      off (st Body 0 q 0 (top_all 0 h) (within_all true h)) (pos (suc (suc k))) ys (mark_atoms no_marks h)
      (ap (λ (s : State). s.stage) (body_step (suc (suc k)) 0 q 0 (top_all 0 h) (within_all true h)) ∙ (rw (ne_eqb (suc (suc k)) 0 (λ e. omega arith), ne_eqb (suc (suc k)) 1 (λ e. omega arith))))
  body_agree q (negsuc k ∷ ys) i = off (st Body 0 q 0 (top_all 0 h) (within_all true h)) (negsuc k) ys (mark_atoms no_marks h) refl

-- ---- the statement

abbrev rest : ℕ → List ℤ → Option Raw
rest n = take_atoms n (λ h. counted (kind_parsed h))

head_agree : (zs : List ℤ) → length zs ≤ 18446744073709551615 → Then (counted rest zs) (st HeadCount 0 0 0 0 true) zs no_marks
head_agree [] i = stop (st HeadCount 0 0 0 0 true) no_marks refl
head_agree (ℤ.pos k ∷ zs) i =
    let u = st (again Body Head (cap k)) (cap k) 0 0 0 true in
    on (rest k zs) (st HeadCount 0 0 0 0 true) u (pos k) zs no_marks (head_count_step 0 0 0 0 true k)
    (subst (λ (o : Option Raw). Then o u zs no_marks) (sym (held_count (λ n. rest n zs) (length zs) (omega arith) (λ n j. atoms_short n (λ h. counted (kind_parsed h)) zs j) k))
    (atoms_agree (cap k) (λ h. counted (kind_parsed h)) 0 0 0 true no_marks zs (λ l ys q u j. body_agree l u q ys (omega arith))))
head_agree (negsuc k ∷ zs) i = off (st HeadCount 0 0 0 0 true) (negsuc k) zs no_marks refl

exact_step : (x y : Stage) (n k : ℕ) → k < 18446744073709551615 → ((s : State) (m : Number) → (step_at x s m).stage ≡ pick (plainly m && eqb m.size k) y Outside)
    → (step_at x (st x 0 0 0 0 true) (capped (pos n))).stage ≡ pick (eqb n k) y Outside
exact_step x y n k i e = e (st x 0 0 0 0 true) (capped (pos n)) ∙ (rw (cap_is n k i))

second_agree : (zs : List ℤ) → length zs ≤ 18446744073709551615 → Then (exactly 0 (counted rest) zs) (st Disjunction 0 0 0 0 true) zs no_marks
second_agree [] i = stop (st Disjunction 0 0 0 0 true) no_marks refl
second_agree (ℤ.pos n ∷ zs) i = at (eqb n 0) refl
  where
    at : (b : Bool) → eqb n 0 ≡ b → Then (pick b (counted rest zs) none) (st Disjunction 0 0 0 0 true) (pos n ∷ zs) no_marks
    at true e =
        on (counted rest zs) (st Disjunction 0 0 0 0 true) (st HeadCount 0 0 0 0 true) (pos n) zs no_marks
        (step_is (st Disjunction 0 0 0 0 true) (capped (pos n)) ∙ (rw (cap_is n 0 (omega arith), e))) (head_agree zs (omega arith))
    at false e = off (st Disjunction 0 0 0 0 true) (pos n) zs no_marks (rw (cap_is n 0 (omega arith), e))
second_agree (negsuc n ∷ zs) i = off (st Disjunction 0 0 0 0 true) (negsuc n) zs no_marks refl

pub parsed_agree : (zs : List ℤ) → length zs ≤ 18446744073709551615 → Then (parsed zs) start_of zs no_marks
unfolding parsed
parsed_agree [] i = stop start_of no_marks refl
parsed_agree (ℤ.pos n ∷ zs) i = at (eqb n 1) refl
  where
    at : (b : Bool) → eqb n 1 ≡ b → Then (pick b (exactly 0 (counted rest) zs) none) start_of (pos n ∷ zs) no_marks
    at true e =
        on (exactly 0 (counted rest) zs) start_of (st Disjunction 0 0 0 0 true) (pos n) zs no_marks
        (step_is start_of (capped (pos n)) ∙ (rw (cap_is n 1 (omega arith), e))) (second_agree zs (omega arith))
    at false e = off start_of (pos n) zs no_marks (rw (cap_is n 1 (omega arith), e))
parsed_agree (negsuc n ∷ zs) i = off start_of (negsuc n) zs no_marks refl

-- ---- fields

some_numbers : (fs : List (List ℕ)) (zs : List ℤ) → numbers_of fs ≡ some zs → (map number_of fs ≡ map given zs) × (length zs ≡ length fs)
some_numbers [] zs e = let q : zs ≡ [] = cc in (sym (ap (map given) q), ap length q)
some_numbers (f ∷ fs) zs e = at (number f) refl (numbers_of fs) refl (λ ys g. some_numbers fs ys g)
  where
    at : (o : Option ℤ) → number f ≡ o → (r : Option (List ℤ)) → numbers_of fs ≡ r
        → ((ys : List ℤ) → numbers_of fs ≡ some ys → (map number_of fs ≡ map given ys) × (length ys ≡ length fs)) → (map number_of (f ∷ fs) ≡ map given zs) × (length zs ≡ suc (length fs))
    at none d r g k = absurd (let q : cons_number none r ≡ some zs = cc in let z : ◌≡◌ {A = ℕ} 0 1 = cc in omega arith)
    at (some z) d none g k = absurd (let q : cons_number (some z) none ≡ some zs = cc in let z : ◌≡◌ {A = ℕ} 0 1 = cc in omega arith)
    at (some z) d (some ys) g k =
        let q : some (z ∷ ys) ≡ some zs = cc in
        let p : z ∷ ys ≡ zs = cc in
        let t = k ys g in
        (ap₂ (λ (x : R.Option Number) (l : List (R.Option Number)). x ∷ l) (ap number_in d) t.0 ∙ ap (map given) p, ap length (sym p) ∙ ap suc t.1)

none_step : (s : State) → (step_of s R.None).stage ≡ Outside
unfolding step_of
none_step s = refl

no_numbers : (fs : List (List ℕ)) (s : State) → numbers_of fs ≡ none → is_whole (read_by s (map number_of fs)).stage ≡ false
no_numbers [] s e = absurd (let z : ◌≡◌ {A = ℕ} 0 1 = cc in omega arith)
no_numbers (f ∷ fs) s e = at (number f) refl (numbers_of fs) refl (λ u g. no_numbers fs u g)
  where
    at : (o : Option ℤ) → number f ≡ o → (r : Option (List ℤ)) → numbers_of fs ≡ r → ((u : State) → numbers_of fs ≡ none → is_whole (read_by u (map number_of fs)).stage ≡ false)
        → is_whole (read_by s (map number_of (f ∷ fs))).stage ≡ false
    at none d r g k = agree_off s (number_of f) (map number_of fs) (ap (λ (n : R.Option Number). (step_of s n).stage) (ap number_in d) ∙ none_step s)
    at (some z) d none g k = ap (λ (x : State). is_whole x.stage) (read_step s (number_of f) (map number_of fs)) ∙ k (step_of s (number_of f)) g
    at (some z) d (some ys) g k = absurd (let q : cons_number (some z) (some ys) ≡ none = cc in let z : ◌≡◌ {A = ℕ} 0 1 = cc in omega arith)

-- what the machine holds after a line's fields
abbrev pub AgreeFields : Option (List ℤ) → State → List ℕ → Type 0
AgreeFields none s m = is_whole s.stage ≡ false
AgreeFields (some zs) s m = Agree (parsed zs) s m

pub fields_agree : (fs : List (List ℕ)) → length fs ≤ 18446744073709551615 → AgreeFields (numbers_of fs) (read_by start_of (map number_of fs)) (marks_by start_of (map number_of fs) no_marks)
fields_agree fs i = at (numbers_of fs) refl
  where
    at : (o : Option (List ℤ)) → numbers_of fs ≡ o → AgreeFields o (read_by start_of (map number_of fs)) (marks_by start_of (map number_of fs) no_marks)
    at none e = no_numbers fs start_of e
    at (some zs) e =
        let t = some_numbers fs zs e in
        let l = t.1 in
        subst (λ (ns : List (R.Option Number)). Agree (parsed zs) (read_by start_of ns) (marks_by start_of ns no_marks)) (sym t.0) (parsed_agree zs (omega arith))
