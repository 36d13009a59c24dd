-- The promise of `restore`, refused and accepted; that bytes have one judgement only. Assumes nothing.
use mathlib.Core.Path.{◌≡◌, refl, sym, ap, ◌∙◌, subst}
use mathlib.Core.Bool.{Bool, true, false}
use mathlib.Core.List.{List, ◌++◌}
use mathlib.Core.Logic.{◌⊎◌, inl, inr}
use Prim.Native.Nat.{ℕ, ◌+◌, ◌≤◌, ◌<◌}
use native.Mathlib.Omega.{arith}
use lib.Dec.{T}
use lib.IntN.{ℤ}
use lib.ListN.{length, take, drop}
use lib.Seq.{sets, sets-eq, length-sets, take-append_seam}
use Rattle.std.specs.Prelude.{Some, None, Result, Ok, Err}
use Rattle.std.specs.Option.{option_or}
use Rattle.std.specs.Result.{result_err}
use Rattle.meaning.proofs.Tools.{clash}
use Rattle.results.specs.Results.{number_of, place_of}
use Rattle.results.specs.declared.Refusal.{Refusal}
use Rattle.results.specs.declared.Refusal.TheVariants.{NamesLost, TooManyWords}
use Rattle.results.proofs.Determined.{refusal_determined}
use Rattle.table.specs.Contents.{Contents}
use Rattle.table.proofs.Theorem.{encoding_accepted}
use Rattle.judging.specs.declared.Buffer.TheVariants.{Nothing}
use Rattle.layout.specs.declared.Table.{Table}
use Rattle.judging.specs.Refusals.{Accepted, Refused}
use Rattle.judging.specs.Refusals as judged
use Rattle.judging.specs.Judging.{Judged}
use Rattle.judging.proofs.Judged.{judged_refused, judged_taken}
use Rattle.judging.proofs.Refusals.{refused_not_accepted, refused_unique, same_contents}
use Rattle.stored.specs.Bytes.{Bytes, named, stored, Reading, refused_for, holds, read_bytes}
use Rattle.stored.specs.Promises.{plainly}
use Rattle.stored.specs.Restoring.{RestoreRefused, room, bytes, words, names, Restores}
use Rattle.stored.specs.Taking.{Taken, Takes, names_fault}
use Rattle.stored.proofs.Exact.{exact, held_encodes, refused≢holds, same_words, same_names}
use Rattle.stored.proofs.NameLaws.{unnamed_empty}
use Rattle.stored.proofs.Storing.{wrote≢refused, same_refusal, same_length}

abbrev refusal_in : Refusal → Reading → Refusal
refusal_in d (refused_for f) = f
refusal_in d (holds ws xs) = d

same_fault : {f g : Refusal} → refused_for f ≡ refused_for g → f ≡ g
same_fault {f} e = ap (refusal_in f) e

module _ (bs : List ℕ) (wide : ℕ) where
  -- ---- one judgement

  one_refusal : (n i m j : ℕ) → RestoreRefused bs wide n i → RestoreRefused bs wide m j → (n ≡ m) × (i ≡ j)
  one_refusal n i m j (room h a b) (room k c d) = (a ∙ sym c, b ∙ sym d)
  one_refusal n i m j (room h a b) (bytes k f e c d) = absurd (omega arith)
  one_refusal n i m j (room h a b) (words k ws xs e c) = absurd (omega arith)
  one_refusal n i m j (room h a b) (names k ws xs z e g p c d) = absurd (omega arith)
  one_refusal n i m j (bytes h f e a b) (room k c d) = absurd (omega arith)
  one_refusal n i m j (bytes h f e a b) (bytes k g q c d) =
      let z : f ≡ g = same_fault (sym e ∙ q) in
      (a ∙ ap number_of z ∙ sym c, b ∙ ap place_of z ∙ sym d)
  one_refusal n i m j (bytes h f e a b) (words k ws xs q c) = refused≢holds (sym e ∙ q)
  one_refusal n i m j (bytes h f e a b) (names k ws xs z q g p c d) = refused≢holds (sym e ∙ q)
  one_refusal n i m j (words h ws xs e a) (room k c d) = absurd (omega arith)
  one_refusal n i m j (words h ws xs e a) (bytes k f q c d) = refused≢holds (sym q ∙ e)
  one_refusal n i m j (words h ws xs e a) (words k vs ys q c) = refused_unique vs Nothing n i m j (subst (λ (l : List ℤ). Refused l Nothing n i) (same_words (sym e ∙ q)) a) c
  one_refusal n i m j (words h ws xs e a) (names k vs ys z q g p c d) = absurd (refused_not_accepted vs Nothing n i z (subst (λ (l : List ℤ). Refused l Nothing n i) (same_words (sym e ∙ q)) a) g)
  one_refusal n i m j (names h ws xs y e g p a b) (room k c d) = absurd (omega arith)
  one_refusal n i m j (names h ws xs y e g p a b) (bytes k f q c d) = refused≢holds (sym q ∙ e)
  one_refusal n i m j (names h ws xs y e g p a b) (words k vs ys q c) = absurd (refused_not_accepted vs Nothing m j y c (subst (λ (l : List ℤ). Accepted l Nothing y) (same_words (sym e ∙ q)) g))
  one_refusal n i m j (names h ws xs y e g p a b) (names k vs ys z q o s c d) = (a ∙ sym c, b ∙ sym d)

  -- what is written is not refused
  not_both : (n i : ℕ) → RestoreRefused bs wide n i → 16384 ≤ wide → (ws : List ℤ) (xs : List (List ℕ)) (c : Contents) → read_bytes bs ≡ holds ws xs → Accepted ws Nothing c → named xs ≡ false → ⊥
  not_both n i (room h a b) k ws xs c e g p = omega arith
  not_both n i (bytes h f q a b) k ws xs c e g p = refused≢holds (sym q ∙ e)
  not_both n i (words h vs ys q a) k ws xs c e g p = refused_not_accepted ws Nothing n i c (subst (λ (l : List ℤ). Refused l Nothing n i) (same_words (sym q ∙ e)) a) g
  not_both n i (names h vs ys z q o s a b) k ws xs c e g p = clash s (ap named (same_names (sym q ∙ e)) ∙ p)

-- "New to old to new gives the same bytes when all names are empty"
unnamed_back : (bs : List ℕ) (ws : List ℤ) (xs : List (List ℕ)) (c : Contents) → Bytes bs → read_bytes bs ≡ holds ws xs → Accepted ws Nothing c → named xs ≡ false → plainly c ≡ bs
unnamed_back bs ws xs c b e a p =
    let h = held_encodes bs ws xs b e in
    let d = h.0 in
    let z : c ≡ d = same_contents a.holds (encoding_accepted ws d (record { short = a.words; words = h.1.words; range = h.1.range })) in
    ap plainly z ∙ sym (h.1.stands ∙ ap (stored d) (unnamed_empty xs d.atoms h.1.all p))

module _ (bs : List ℕ) (old new : List ℤ) (r : Result ℕ Refusal) (b : Bytes bs) where
  pub restores_refused : (g : Refusal) → RestoreRefused bs (length old) (number_of g) (place_of g) → r ≡ Err g → new ≡ old → Restores bs old new r
  restores_refused g h e u = record {
    refused = λ f. (
      λ k. subst (λ (x : Refusal). RestoreRefused bs (length old) (number_of x) (place_of x)) (same_refusal r g f e k) h,
      λ w. let q = one_refusal bs (length old) (number_of g) (place_of g) (number_of f) (place_of f) h w in e ∙ ap Err (refusal_determined g f q.0 q.1),
    );
    untouched = λ f k. u;
    wrote = λ ws xs c k q a p. absurd (not_both bs (length old) (number_of g) (place_of g) h k ws xs c q a p);
    back = λ n k. wrote≢refused r n g k e;
    exact = λ ws xs. exact bs ws xs b;
  }

  pub restores_whole : (ws : List ℤ) (xs : List (List ℕ)) (c : Contents) → 16384 ≤ length old → read_bytes bs ≡ holds ws xs → Accepted ws Nothing c → named xs ≡ false
      → r ≡ Ok (length ws) → new ≡ sets old 0 ws → Restores bs old new r
  restores_whole ws xs c k q a p e u = record {
    refused = λ f. (λ z. wrote≢refused r (length ws) f e z, λ w. absurd (not_both bs (length old) (number_of f) (place_of f) w k ws xs c q a p));
    untouched = λ f z. wrote≢refused r (length ws) f e z;
    wrote = λ vs ys d m o g s. subst (λ (l : List ℤ). (r ≡ Ok (length l)) × (new ≡ l ++ drop (length l) old)) (same_words (sym q ∙ o)) (e, whole);
    back = λ n z. (c, subst (λ (l : List ℤ). Accepted l Nothing c) (sym (front n z)) a, unnamed_back bs ws xs c b q a p);
    exact = λ vs ys. exact bs vs ys b;
  }
    where
      whole : new ≡ ws ++ drop (length ws) old
      whole =
          let m = a.words in
          let z : 0 + length ws ≡ length ws = omega arith in
          u ∙ sets-eq ws old 0 (omega arith) ∙ ap (λ (x : ℕ). ws ++ drop x old) z

      front : (n : ℕ) → r ≡ Ok n → take n new ≡ ws
      front n z = ap (λ (m : ℕ). take m new) (sym (same_length r (length ws) n e z)) ∙ ap (take (length ws)) whole ∙ take-append_seam ws (drop (length ws) old)

-- ---- what was taken from the bytes

abbrev is_words : Taken → Bool
is_words (Ok (n, filled)) = true
is_words (Err f) = false

abbrev count_in : Taken → ℕ
count_in (Ok (n, filled)) = n
count_in (Err f) = 0

abbrev filled_in : Taken → Bool
filled_in (Ok (n, filled)) = filled
filled_in (Err f) = false

abbrev fault_in : Refusal → Taken → Refusal
fault_in d (Ok (n, filled)) = d
fault_in d (Err f) = f

pub record Took (bs : List ℕ) (n : ℕ) (filled : Bool) (old new : List ℤ) : Type 0 where
  pub ws : List ℤ
  pub xs : List (List ℕ)
  pub reads : read_bytes bs ≡ holds ws xs
  pub counts : n ≡ length ws
  pub fills : filled ≡ named xs
  pub held : new ≡ sets old 0 ws

pub took_words : (bs : List ℕ) (old new : List ℤ) (n : ℕ) (filled : Bool) (r : Taken) → Takes (read_bytes bs) old new r → r ≡ Ok (n, filled) → Took bs n filled old new
took_words bs old new n filled r h e = at (read_bytes bs) refl h
  where
    at : (s : Reading) → read_bytes bs ≡ s → Takes s old new r → Took bs n filled old new
    at (refused_for f) q k = absurd (subst T (sym (ap is_words (sym k ∙ e))) tt)
    at (holds ws xs) q k =
        let z : Ok (n, filled) ≡ Ok (length ws, named xs) = sym e ∙ k.0 in
        record { ws = ws; xs = xs; reads = q; counts = ap count_in z; fills = ap filled_in z; held = k.1 }

pub took_refused : (bs : List ℕ) (old new : List ℤ) (f : Refusal) (r : Taken) → Takes (read_bytes bs) old new r → r ≡ Err f → read_bytes bs ≡ refused_for f
took_refused bs old new f r h e = at (read_bytes bs) refl h
  where
    at : (s : Reading) → read_bytes bs ≡ s → Takes s old new r → read_bytes bs ≡ refused_for f
    at (refused_for g) q k = q ∙ ap refused_for (ap (fault_in f) (sym k ∙ e))
    at (holds ws xs) q k = absurd (subst T (ap is_words (sym k.0 ∙ e)) tt)

-- the same bytes, taken again
pub took_again : (bs : List ℕ) (old new : List ℤ) (r : Taken) (ws : List ℤ) (xs : List (List ℕ)) → read_bytes bs ≡ holds ws xs → Takes (read_bytes bs) old new r → new ≡ sets old 0 ws
took_again bs old new r ws xs q h = (subst (λ (s : Reading). Takes s old new r) q h).1

-- of the judge's fault and the names' the first
pub earlier_refused : (x : Result Table Refusal) (filled : Bool) (f : Refusal) → option_or (result_err x) (names_fault filled) ≡ Some f
    → (x ≡ Err f) ⊎ ((tb : Table) × (x ≡ Ok tb) × (filled ≡ true) × (f ≡ NamesLost))
earlier_refused (Err g) filled f h = inl cc
earlier_refused (Ok tb) true f h = inr (tb, refl, refl, cc)
earlier_refused (Ok tb) false f h = cc

pub earlier_none : (x : Result Table Refusal) (filled : Bool) → option_or (result_err x) (names_fault filled) ≡ None → (tb : Table) × (x ≡ Ok tb) × (filled ≡ false)
earlier_none (Err g) filled h = cc
earlier_none (Ok tb) true h = cc
earlier_none (Ok tb) false h = (tb, refl, refl)

-- ---- the words where they are judged

module _ (bs : List ℕ) (n : ℕ) (filled : Bool) (memory after : List ℤ) (t : Took bs n filled memory after) where
  pub took_long : length after ≡ length memory
  took_long = ap length t.held ∙ length-sets memory 0 t.ws

  pub took_front : n ≤ length memory → take n after ≡ t.ws
  took_front h =
      let e = t.counts in
      ap (λ (m : ℕ). take m after) e ∙ ap (take (length t.ws)) (t.held ∙ sets-eq t.ws memory 0 (omega arith)) ∙ take-append_seam t.ws (drop (0 + length t.ws) memory)

  module _ (old : List ℤ) (b : Bytes bs) (wide : 16384 ≤ length old) where
    pub restores_many : 16384 < n → Restores bs old old (Err TooManyWords)
    restores_many h =
        let e = t.counts in
        restores_refused bs old old (Err TooManyWords) b TooManyWords (words wide t.ws t.xs t.reads (judged.words (omega arith) refl refl)) refl refl

    module _ (x : Result Table Refusal) (j : Judged t.ws Nothing x) where
      -- 8 or 9 of the words
      pub restores_judged : (f : Refusal) → x ≡ Err f → Restores bs old old (Err f)
      restores_judged f k = restores_refused bs old old (Err f) b f (words wide t.ws t.xs t.reads (judged_refused t.ws Nothing x f j k)) refl refl

      -- and only then 24
      pub restores_named : (tb : Table) → x ≡ Ok tb → filled ≡ true → Restores bs old old (Err NamesLost)
      restores_named tb k y =
          let a = judged_taken t.ws Nothing x tb j k in
          restores_refused bs old old (Err NamesLost) b NamesLost (names wide t.ws t.xs a.0 t.reads a.1 (sym t.fills ∙ y) refl refl) refl refl

      pub restores_good : (tb : Table) → x ≡ Ok tb → filled ≡ false → (new : List ℤ) (r : Taken) → Takes (read_bytes bs) old new r → Restores bs old new (Ok n)
      restores_good tb k y new r h =
          let a = judged_taken t.ws Nothing x tb j k in
          restores_whole bs old new (Ok n) b t.ws t.xs a.0 wide t.reads a.1 (sym t.fills ∙ y) (ap Ok t.counts) (took_again bs old new r t.ws t.xs t.reads h)

      -- 8 or 9 of the words, and only then 24
      pub restores_faulty : (f : Refusal) → option_or (result_err x) (names_fault filled) ≡ Some f → Restores bs old old (Err f)
      restores_faulty f h = at (earlier_refused x filled f h)
        where
          at : (x ≡ Err f) ⊎ ((tb : Table) × (x ≡ Ok tb) × (filled ≡ true) × (f ≡ NamesLost)) → Restores bs old old (Err f)
          at (inl k) = restores_judged f k
          at (inr (tb, k, y, e)) = subst (λ (g : Refusal). Restores bs old old (Err g)) (sym e) (restores_named tb k y)

      pub restores_whole_table : option_or (result_err x) (names_fault filled) ≡ None → (new : List ℤ) (r : Taken) → Takes (read_bytes bs) old new r → Restores bs old new (Ok n)
      restores_whole_table h new r k = let a = earlier_none x filled h in restores_good a.0 a.1 a.2 new r k
