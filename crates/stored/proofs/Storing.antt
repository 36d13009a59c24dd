-- The promise of `store`, refused and accepted. Assumes nothing.
use mathlib.Core.Path.{◌≡◌, refl, sym, ap, ◌∙◌, subst}
use mathlib.Core.Logic.{◌⊎◌, inl, inr}
use mathlib.Core.Bool.{Bool, true, false}
use mathlib.Core.List.{List, ◌++◌}
use Prim.Native.Nat.{ℕ, ◌≤◌, ◌<◌}
use native.Mathlib.Omega.{arith}
use lib.IntN.{ℤ}
use lib.ListN.{length, take, drop}
use lib.Seq.{take-append_seam}
use Rattle.std.specs.Prelude.{Result, Ok, Err}
use Rattle.meaning.proofs.Tools.{clash}
use Rattle.meaning.proofs.Cond.{lt_case}
use Rattle.results.specs.Results.{number_of, place_of}
use Rattle.results.specs.declared.Refusal.{Refusal}
use Rattle.results.specs.declared.Refusal.TheVariants.{ShortBuffer}
use Rattle.results.proofs.Determined.{refusal_determined}
use Rattle.table.specs.Contents.{Contents}
use Rattle.table.specs.Grammar.{contents_of, accepted}
use Rattle.table.proofs.Accepted.{accepted_encoding}
use Rattle.judging.specs.declared.Buffer.TheVariants.{Nothing}
use Rattle.judging.specs.Refusals.{Accepted, Refused}
use Rattle.judging.proofs.Refusals.{accepted_unique, refused_not_accepted, refused_unique}
use Rattle.stored.specs.Bytes.{no_names, holds, read_bytes}
use Rattle.stored.specs.Machine.{Laying}
use Rattle.stored.specs.Promises.{plainly, StoreRefused, before, short, Stores}
use Rattle.stored.proofs.Exact.{encodes_held}
use Rattle.stored.proofs.NameLaws.{empty_short, empty_length}

-- ---- results taken apart

abbrev is_refused : Result ℕ Refusal → Bool
is_refused (Ok n) = false
is_refused (Err f) = true

abbrev refusal_in : Refusal → Result ℕ Refusal → Refusal
refusal_in d (Ok n) = d
refusal_in d (Err f) = f

abbrev length_in : Result ℕ Refusal → ℕ
length_in (Ok n) = n
length_in (Err f) = 0

pub wrote≢refused {ℓ} : {X : Type ℓ} (r : Result ℕ Refusal) (n : ℕ) (f : Refusal) → r ≡ Ok n → r ≡ Err f → X
wrote≢refused r n f a b = absurd (clash (ap is_refused b) (ap is_refused a))

pub same_refusal : (r : Result ℕ Refusal) (f g : Refusal) → r ≡ Err f → r ≡ Err g → f ≡ g
same_refusal r f g a b = ap (refusal_in f) (sym a ∙ b)

pub same_length : (r : Result ℕ Refusal) (m n : ℕ) → r ≡ Ok m → r ≡ Ok n → m ≡ n
same_length r m n a b = ap length_in (sym a ∙ b)

-- "Old to new to old gives the same words"
pub stored_held : (t : List ℤ) (c : Contents) → contents_of t ≡ accepted c → read_bytes (plainly c) ≡ holds t (no_names c.atoms)
stored_held t c e =
    let d = accepted_encoding t c e in
    encodes_held (plainly c) t (no_names c.atoms) c (record { range = d.range; all = empty_length c.atoms; short = empty_short c.atoms; words = d.words; stands = refl })

-- ---- a refusal of the judge

module _ (t : List ℤ) (old new : List ℕ) (r : Result ℕ Refusal) where
  pub stores_refused : (g : Refusal) → Refused t Nothing (number_of g) (place_of g) → r ≡ Err g → new ≡ old → Stores t old new r
  stores_refused g h e u = record {
    refused = λ f. (λ k. subst (λ (x : Refusal). StoreRefused t (length old) (number_of x) (place_of x)) (same_refusal r g f e k) (before h), λ w. e ∙ ap Err (is f w));
    untouched = λ f k. u;
    wrote = λ c a k. absurd (refused_not_accepted t Nothing (number_of g) (place_of g) c h a);
    back = λ n k. wrote≢refused r n g k e;
  }
    where
      is : (f : Refusal) → StoreRefused t (length old) (number_of f) (place_of f) → g ≡ f
      is f (before k) = let w = refused_unique t Nothing (number_of g) (place_of g) (number_of f) (place_of f) h k in refusal_determined g f w.0 w.1
      is f (short c a k n p) = absurd (refused_not_accepted t Nothing (number_of g) (place_of g) c h a)

  -- ---- an accepted table

  module _ (c : Contents) (a : Accepted t Nothing c) (l : Laying (plainly c) old new r) where
    -- the buffer is too short
    stores_short : length old < length (plainly c) → Stores t old new r
    stores_short h = record {
      refused = λ f. (
        λ k. subst (λ (x : Refusal). StoreRefused t (length old) (number_of x) (place_of x)) (same_refusal r ShortBuffer f e k) (short c a h refl refl),
        λ w. e ∙ ap Err (is f w),
      );
      untouched = λ f k. (l.short h).1;
      wrote = λ d b k. absurd (let z = ap (λ (x : Contents). length (plainly x)) (accepted_unique t Nothing c d a b) in omega arith);
      back = λ n k. wrote≢refused r n ShortBuffer k e;
    }
      where
        e : r ≡ Err ShortBuffer
        e = (l.short h).0

        is : (f : Refusal) → StoreRefused t (length old) (number_of f) (place_of f) → ShortBuffer ≡ f
        is f (before k) = absurd (refused_not_accepted t Nothing (number_of f) (place_of f) c k a)
        is f (short d b k n p) = refusal_determined ShortBuffer f (sym n) (sym p)

    -- it has room
    stores_whole : length (plainly c) ≤ length old → Stores t old new r
    stores_whole h = record {
      refused = λ f. (λ k. wrote≢refused r (length (plainly c)) f e k, λ w. none f w);
      untouched = λ f k. wrote≢refused r (length (plainly c)) f e k;
      wrote = λ d b k. subst (λ (x : Contents). (r ≡ Ok (length (plainly x))) × (new ≡ plainly x ++ drop (length (plainly x)) old)) (accepted_unique t Nothing c d a b) (l.fits h);
      back = λ n k. (c, a, ap read_bytes (front n k) ∙ stored_held t c a.holds);
    }
      where
        e : r ≡ Ok (length (plainly c))
        e = (l.fits h).0

        -- the bytes written are the stored form
        front : (n : ℕ) → r ≡ Ok n → take n new ≡ plainly c
        front n k =
            ap (λ (m : ℕ). take m new) (sym (same_length r (length (plainly c)) n e k)) ∙ ap (take (length (plainly c))) (l.fits h).1 ∙ take-append_seam (plainly c) (drop (length (plainly c)) old)

        none : (f : Refusal) → StoreRefused t (length old) (number_of f) (place_of f) → r ≡ Err f
        none f (before k) = absurd (refused_not_accepted t Nothing (number_of f) (place_of f) c k a)
        none f (short d b k n p) = absurd (let z = ap (λ (x : Contents). length (plainly x)) (accepted_unique t Nothing c d a b) in omega arith)

    pub stores_laid : Stores t old new r
    stores_laid = at (lt_case (length old) (length (plainly c)))
      where
        at : (length old < length (plainly c)) ⊎ (length (plainly c) ≤ length old) → Stores t old new r
        at (inl h) = stores_short h
        at (inr h) = stores_whole h
