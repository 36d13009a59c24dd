-- The promise of `show` has one answer only: two results, and two later buffers, that meet it for the same input are equal. Assumes nothing.
use mathlib.Core.Path.{◌≡◌, refl, sym, ◌∙◌}
use mathlib.Core.Logic.{◌⊎◌, inl, inr}
use mathlib.Core.List.{List}
use Prim.Native.Nat.{ℕ, ◌≤◌, ◌<◌}
use lib.IntN.{ℤ}
use lib.ListN.{length}
use Rattle.std.specs.Prelude.{Result}
use Rattle.meaning.proofs.Cond.{lt_case}
use Rattle.results.specs.declared.Refusal.{Refusal}
use Rattle.table.specs.Grammar.{Outcome, accepted, refused_for, contents_of}
use Rattle.notation.specs.Notation.{text_of}
use Rattle.show.specs.Promise.{Laying, Shows}

module _ {text old new new' : List ℕ} {r r' : Result ℕ Refusal} (a : Laying text old new r) (b : Laying text old new' r') where
  laying_unique : (length old < length text) ⊎ (length text ≤ length old) → (r ≡ r') × (new ≡ new')
  laying_unique (inl h) =
      let x = a.short h in
      let y = b.short h in
      (x.0 ∙ sym y.0, x.1 ∙ sym y.1)
  laying_unique (inr h) =
      let x = a.fits h in
      let y = b.fits h in
      (x.0 ∙ sym y.0, x.1 ∙ sym y.1)

module _ (t : List ℤ) (old : List ℕ) (new new' : List ℕ) (r r' : Result ℕ Refusal) (a : Shows t old new r) (b : Shows t old new' r') where
  pub shows_unique : (r ≡ r') × (new ≡ new')
  shows_unique = by (contents_of t) refl
    where
      by : (o : Outcome) → contents_of t ≡ o → (r ≡ r') × (new ≡ new')
      by (accepted c) e = laying_unique (a.wrote c e) (b.wrote c e) (lt_case (length old) (length (text_of c)))
      by (refused_for f) e =
          let x = a.refused f e in
          let y = b.refused f e in
          (x.0 ∙ sym y.0, x.1 ∙ sym y.1)
