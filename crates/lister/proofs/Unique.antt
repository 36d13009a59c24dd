-- The promise of `list` has one answer only: two results, and two later buffers, that meet it for the same input are equal. Assumes nothing.
use mathlib.Core.Path.{◌≡◌, sym, ◌∙◌}
use mathlib.Core.Logic.{inl, inr}
use mathlib.Core.List.{List}
use Rattle.std.specs.Prelude.{Result}
use Prim.Native.Nat.{ℕ}
use lib.IntN.{ℤ}
use lib.ListN.{length}
use Rattle.meaning.specs.Answers.{AnswerSet}
use Rattle.results.specs.declared.Refusal.{Refusal}
use Rattle.results.specs.declared.Ask.{Ask}
use Rattle.results.specs.declared.Listed.{Listed}
use Rattle.results.specs.Results.{number_of, place_of}
use Rattle.results.proofs.Determined.{refusal_determines}
use Rattle.smaller.specs.Cyclic.{base_by}
use Rattle.table.specs.Contents.{program}
use Rattle.judging.specs.declared.Buffer.TheVariants.{Rows}
use Rattle.judging.proofs.Judged.{DecidedBy, decided}
use Rattle.promises.proofs.Listed.{listing_unique}
use Rattle.lister.specs.Listing.{Listing}

module _ (t : List ℤ) (ask : Ask) (old : List ℕ) where
  unique_by : DecidedBy ask.cycles t (Rows (length old)) → (new new' : List ℕ) (r r' : Result Listed Refusal) → Listing t ask old new r → Listing t ask old new' r' → (r ≡ r') × (new ≡ new')
  unique_by (inl (f, h)) new new' r r' a b =
      let e = (a.refused (number_of f) (place_of f)).1 h in
      let i = (b.refused (number_of f) (place_of f)).1 h in
      (refusal_determines r r' (number_of f) (place_of f) e i, a.untouched (number_of f) (place_of f) e ∙ sym (b.untouched (number_of f) (place_of f) i))
  unique_by (inr (c, h)) new new' r r' a b =
      let x = a.searching c h in
      let y = b.searching c h in
      listing_unique (AnswerSet (program c)) (base_by ask.cycles (program c) c.atoms) ask.limit old new new' r r' x.0 y.0 x.1 y.1

  pub lists_unique : (new new' : List ℕ) (r r' : Result Listed Refusal) → Listing t ask old new r → Listing t ask old new' r' → (r ≡ r') × (new ≡ new')
  lists_unique = unique_by (decided t (Rows (length old)))
