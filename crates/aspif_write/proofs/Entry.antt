-- The promise of `write`, refused and accepted. Assumes nothing.
use mathlib.Core.Path.{◌≡◌, refl, sym, ap, ◌∙◌, subst}
use mathlib.Core.Logic.{◌⊎◌, inl, inr}
use mathlib.Core.Option.{some}
use mathlib.Core.List.{List, ◌++◌}
use Prim.Native.Nat.{ℕ, ◌≤◌, ◌<◌}
use native.Mathlib.Omega.{arith}
use lib.IntN.{ℤ}
use lib.ListN.{length, take, drop}
use lib.Seq.{take-append_seam}
use Rattle.std.specs.Prelude.{Result, Ok, Err}
use Rattle.meaning.proofs.Cond.{lt_case}
use Rattle.results.specs.Results.{number_of, place_of}
use Rattle.results.specs.declared.Refusal.{Refusal}
use Rattle.results.specs.declared.Refusal.TheVariants.{ShortBuffer}
use Rattle.results.proofs.Determined.{refusal_determined}
use Rattle.table.specs.Contents.{Contents, encode, program}
use Rattle.judging.specs.declared.Buffer.TheVariants.{Nothing}
use Rattle.judging.specs.Refusals.{Accepted, Refused}
use Rattle.judging.proofs.Judged.{no_fault}
use Rattle.judging.proofs.Refusals.{accepted_unique, refused_not_accepted, refused_unique}
use Rattle.aspif.specs.Statements.{Statement, meant}
use Rattle.aspif.specs.Reading.{read}
use Rattle.aspif.specs.Writing.{written}
use Rattle.aspif.specs.Lines.{accepted, read_text, said, text_of}
use Rattle.aspif.specs.Promises.{SameAnswers, Whole}
use Rattle.aspif.proofs.Words.{writes_text, reads_back}
use Rattle.aspif_write.specs.Laying.{Laying}
use Rattle.aspif_write.specs.Promise.{WriteRefused, before, short, Writes}

-- ---- results taken apart

pub wrote≢refused {ℓ} : {X : Type ℓ} (r : Result ℕ Refusal) (n : ℕ) (f : Refusal) → r ≡ Ok n → r ≡ Err f → X
wrote≢refused r n f a b = absurd (no_fault b a)

pub same_refusal : (r : Result ℕ Refusal) (f g : Refusal) → r ≡ Err f → r ≡ Err g → f ≡ g
same_refusal r f g a b = cc

pub same_length : (r : Result ℕ Refusal) (m n : ℕ) → r ≡ Ok m → r ≡ Ok n → m ≡ n
same_length r m n a b = cc

-- ---- a refusal of the judge

module _ (t : List ℤ) (old new : List ℕ) (r : Result ℕ Refusal) where
  pub writes_refused : (g : Refusal) → Refused t Nothing (number_of g) (place_of g) → r ≡ Err g → new ≡ old → Writes t old new r
  writes_refused g h e u = record {
    refused = λ f. (λ k. subst (λ (x : Refusal). WriteRefused t (length old) (number_of x) (place_of x)) (same_refusal r g f e k) (before h), λ w. e ∙ ap Err (is f w));
    untouched = λ f k. u;
    wrote = λ c a k. absurd (refused_not_accepted t Nothing (number_of g) (place_of g) c h a);
    means = λ n k. wrote≢refused r n g k e;
    back = λ n k c a w. wrote≢refused r n g k e;
  }
    where
      is : (f : Refusal) → WriteRefused t (length old) (number_of f) (place_of f) → g ≡ f
      is f (before k) = let w = refused_unique t Nothing (number_of g) (place_of g) (number_of f) (place_of f) h k in refusal_determined g f w.0 w.1
      is f (short c a k n p) = absurd (refused_not_accepted t Nothing (number_of g) (place_of g) c h a)

  -- ---- an accepted table

  module _ (c : Contents) (a : Accepted t Nothing c) (l : Laying (text_of (written c)) old new r) where
    text : List ℕ
    text = text_of (written c)

    -- the buffer is too short
    writes_short : length old < length (text_of (written c)) → Writes t old new r
    writes_short h = record {
      refused = λ f. (
        λ k. subst (λ (x : Refusal). WriteRefused t (length old) (number_of x) (place_of x)) (same_refusal r ShortBuffer f e k) (short c a h refl refl),
        λ w. e ∙ ap Err (is f w),
      );
      untouched = λ f k. (l.short h).1;
      wrote = λ d b k. absurd (let z = ap (λ (x : Contents). length (text_of (written x))) (accepted_unique t Nothing c d a b) in omega arith);
      means = λ n k. wrote≢refused r n ShortBuffer k e;
      back = λ n k d b w. wrote≢refused r n ShortBuffer k e;
    }
      where
        e : r ≡ Err ShortBuffer
        e = (l.short h).0

        is : (f : Refusal) → WriteRefused t (length old) (number_of f) (place_of f) → ShortBuffer ≡ f
        is f (before k) = absurd (refused_not_accepted t Nothing (number_of f) (place_of f) c k a)
        is f (short d b k n p) = refusal_determined ShortBuffer f (sym n) (sym p)

    -- it has room
    writes_whole : length (text_of (written c)) ≤ length old → Writes t old new r
    writes_whole h = record {
      refused = λ f. (λ k. wrote≢refused r (length (text_of (written c))) f e k, λ w. none f w);
      untouched = λ f k. wrote≢refused r (length (text_of (written c))) f e k;
      wrote = λ d b k. subst (λ (x : Contents). (r ≡ Ok (length (text_of (written x)))) × (new ≡ text_of (written x) ++ drop (length (text_of (written x))) old)) (accepted_unique t Nothing c d a b) (l.fits h);
      means = λ n k. (c, a, subst (λ (bs : List ℕ). (ss : List Statement) × (said bs ≡ some ss) × SameAnswers c.atoms (program c) (meant ss)) (sym (front n k)) (writes_text t c a.holds a.no_aggregate));
      back = λ n k d b w.
          subst (λ (bs : List ℕ). (ss : List Statement) × (read_text bs ≡ accepted ss) × (encode (read ss) ≡ t)) (sym (front n k)) (reads_back t c a.holds (subst Whole (sym (accepted_unique t Nothing c d a b)) w));
    }
      where
        e : r ≡ Ok (length (text_of (written c)))
        e = (l.fits h).0

        -- the bytes written are the text
        front : (n : ℕ) → r ≡ Ok n → take n new ≡ text_of (written c)
        front n k =
            ap (λ (m : ℕ). take m new) (sym (same_length r (length (text_of (written c))) n e k))
            ∙ ap (take (length (text_of (written c)))) (l.fits h).1
            ∙ take-append_seam (text_of (written c)) (drop (length (text_of (written c))) old)

        none : (f : Refusal) → WriteRefused t (length old) (number_of f) (place_of f) → r ≡ Err f
        none f (before k) = absurd (refused_not_accepted t Nothing (number_of f) (place_of f) c k a)
        none f (short d b k n p) = absurd (let z = ap (λ (x : Contents). length (text_of (written x))) (accepted_unique t Nothing c d a b) in omega arith)

    pub writes_laid : Writes t old new r
    writes_laid = at (lt_case (length old) (length (text_of (written c))))
      where
        at : (length old < length (text_of (written c))) ⊎ (length (text_of (written c)) ≤ length old) → Writes t old new r
        at (inl h) = writes_short h
        at (inr h) = writes_whole h
