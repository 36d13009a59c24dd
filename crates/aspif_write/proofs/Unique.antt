-- The promise of `write` has one answer only: two results, and two later buffers, that meet it for the same input are equal. Assumes nothing.
use mathlib.Core.Path.{◌≡◌, refl, sym, ◌∙◌}
use mathlib.Core.Logic.{◌⊎◌, inl, inr}
use mathlib.Core.List.{List}
use Prim.Native.Nat.{ℕ, ◌≤◌, ◌<◌}
use lib.IntN.{ℤ}
use lib.ListN.{length}
use Rattle.std.specs.Prelude.{Result}
use Rattle.meaning.proofs.Cond.{lt_case}
use Rattle.results.specs.declared.Refusal.{Refusal}
use Rattle.results.specs.declared.Refusal.TheVariants.{ShortBuffer}
use Rattle.table.specs.Contents.{Contents}
use Rattle.judging.specs.declared.Buffer.TheVariants.{Nothing}
use Rattle.judging.specs.Refusals.{Accepted}
use Rattle.judging.proofs.Judged.{Decided, decided}
use Rattle.aspif.specs.Writing.{written}
use Rattle.aspif.specs.Lines.{text_of}
use Rattle.aspif_write.specs.Promise.{before, short, Writes}

module _ (t : List ℤ) (old : List ℕ) (new new' : List ℕ) (r r' : Result ℕ Refusal) (a : Writes t old new r) (b : Writes t old new' r') where
  by_room : (c : Contents) → Accepted t Nothing c → (length old < length (text_of (written c))) ⊎ (length (text_of (written c)) ≤ length old) → (r ≡ r') × (new ≡ new')
  by_room c h (inl k) =
      let x = (a.refused ShortBuffer).1 (short c h k refl refl) in
      let y = (b.refused ShortBuffer).1 (short c h k refl refl) in
      (x ∙ sym y, a.untouched ShortBuffer x ∙ sym (b.untouched ShortBuffer y))
  by_room c h (inr k) =
      let x = a.wrote c h k in
      let y = b.wrote c h k in
      (x.0 ∙ sym y.0, x.1 ∙ sym y.1)

  by_table : Decided t Nothing → (r ≡ r') × (new ≡ new')
  by_table (inl (f, h)) =
      let x = (a.refused f).1 (before h) in
      let y = (b.refused f).1 (before h) in
      (x ∙ sym y, a.untouched f x ∙ sym (b.untouched f y))
  by_table (inr (c, h)) = by_room c h (lt_case (length old) (length (text_of (written c))))

  pub writes_unique : (r ≡ r') × (new ≡ new')
  writes_unique = by_table (decided t Nothing)
