-- The promise of `show`, refused and accepted. Assumes nothing.
use mathlib.Core.Path.{◌≡◌, refl, sym, ap, ◌∙◌, subst}
use mathlib.Core.Logic.{◌⊎◌, inl, inr}
use mathlib.Core.Bool.{Bool, true, false}
use mathlib.Core.List.{List}
use Prim.Native.Nat.{ℕ, ◌≤◌, ◌<◌}
use lib.Dec.{T}
use lib.IntN.{ℤ}
use lib.ListN.{length, take, drop}
use lib.Seq.{take-append_seam}
use Rattle.std.specs.Prelude.{Result, Ok, Err}
use Rattle.meaning.proofs.Cond.{lt_case}
use Rattle.results.specs.declared.Refusal.{Refusal}
use Rattle.results.specs.declared.Refusal.TheVariants.{ShortBuffer}
use Rattle.table.specs.Contents.{Contents}
use Rattle.table.specs.Grammar.{Outcome, accepted, refused_for, contents_of}
use Rattle.table.proofs.Accepted.{accepted≢refused, same_contents}
use Rattle.notation.specs.Notation.{text_of}
use Rattle.notation.specs.Reading.{words, read_text}
use Rattle.notation.proofs.Back.{read_back}
use Rattle.show.specs.Promise.{Laying, Shows}

abbrev refusal_in : Refusal → Outcome → Refusal
refusal_in d (accepted c) = d
refusal_in d (refused_for f) = f

abbrev wrote_in : Result ℕ Refusal → ℕ
wrote_in (Ok n) = n
wrote_in (Err f) = 0

abbrev is_wrote : Result ℕ Refusal → Bool
is_wrote (Ok n) = true
is_wrote (Err f) = false

refused≢wrote {ℓ} : {X : Type ℓ} (f : Refusal) (n : ℕ) → ◌≡◌ {A = Result ℕ Refusal} (Err f) (Ok n) → X
refused≢wrote f n e = absurd (subst T (sym (ap is_wrote e)) tt)

module _ (t : List ℤ) (old : List ℕ) where
  pub shows_refused : (f : Refusal) → contents_of t ≡ refused_for f → Shows t old old (Err f)
  shows_refused f e = record {
    refused = λ g k. (ap Err (ap (refusal_in f) (sym e ∙ k)), refl);
    wrote = λ c k. accepted≢refused (sym k ∙ e);
    back = λ n k. refused≢wrote f n k;
  }

  module _ (new : List ℕ) (r : Result ℕ Refusal) (c : Contents) (e : contents_of t ≡ accepted c) (l : Laying (text_of c) old new r) where
    reads_back : (n : ℕ) → r ≡ Ok n → (length old < length (text_of c)) ⊎ (length (text_of c) ≤ length old) → read_text (take n new) ≡ words t
    reads_back n k (inl h) = refused≢wrote ShortBuffer n (sym (l.short h).0 ∙ k)
    reads_back n k (inr h) =
        let m : length (text_of c) ≡ n = ap wrote_in (sym (l.fits h).0 ∙ k) in
        let x : take n new ≡ text_of c =
        ap (λ (i : ℕ). take i new) (sym m) ∙ ap (take (length (text_of c))) (l.fits h).1 ∙ take-append_seam (text_of c) (drop (length (text_of c)) old) in
        ap read_text x ∙ read_back t c e

    pub shows_laid : Shows t old new r
    shows_laid = record {
      refused = λ g k. accepted≢refused (sym e ∙ k);
      wrote = λ d k. subst (λ (x : Contents). Laying (text_of x) old new r) (same_contents (sym e ∙ k)) l;
      back = λ n k. reads_back n k (lt_case (length old) (length (text_of c)));
    }
