-- The promises of `store` and `restore` have one answer only: two results, and two later buffers, that meet one for the same input are equal. Assumes nothing.
use mathlib.Core.Path.{◌≡◌, refl, sym, ◌∙◌}
use mathlib.Core.Bool.{true, false}
use mathlib.Core.Logic.{◌⊎◌, inl, inr}
use mathlib.Core.List.{List}
use Prim.Native.Nat.{ℕ, ◌≤◌, ◌<◌}
use lib.IntN.{ℤ}
use lib.ListN.{length}
use Rattle.std.specs.Prelude.{Result}
use Rattle.meaning.proofs.Cond.{lt_case, bool_case}
use Rattle.results.specs.Results.{number_of, place_of}
use Rattle.results.specs.declared.Refusal.{Refusal}
use Rattle.results.specs.declared.Refusal.TheVariants.{ShortBuffer, NamesLost, ShortWords}
use Rattle.table.specs.Contents.{Contents}
use Rattle.judging.specs.declared.Buffer.TheVariants.{Nothing}
use Rattle.judging.specs.Refusals.{Accepted}
use Rattle.judging.proofs.Judged.{Decided, decided}
use Rattle.stored.specs.Bytes.{named, Reading, refused_for, holds, read_bytes}
use Rattle.stored.specs.Promises.{plainly, before, short, Stores}
use Rattle.stored.specs.Restoring.{RestoreRefused, room, bytes, words, names, Restores}

module _ (t : List ℤ) (old : List ℕ) (new new' : List ℕ) (r r' : Result ℕ Refusal) (a : Stores t old new r) (b : Stores t old new' r') where
  by_room : (c : Contents) → Accepted t Nothing c → (length old < length (plainly c)) ⊎ (length (plainly c) ≤ length old) → (r ≡ r') × (new ≡ new')
  by_room c h (inl k) =
      let x = (a.refused ShortBuffer).1 (short c h k refl refl) in
      let y = (b.refused ShortBuffer).1 (short c h k refl refl) in
      (x ∙ sym y, a.untouched ShortBuffer x ∙ sym (b.untouched ShortBuffer y))
  by_room c h (inr k) =
      let x = a.wrote c h k in
      let y = b.wrote c h k in
      (x.0 ∙ sym y.0, x.1 ∙ sym y.1)

  by_table : Decided t Nothing → (r ≡ r') × (new ≡ new')
  by_table (inl (f, h)) =
      let x = (a.refused f).1 (before h) in
      let y = (b.refused f).1 (before h) in
      (x ∙ sym y, a.untouched f x ∙ sym (b.untouched f y))
  by_table (inr (c, h)) = by_room c h (lt_case (length old) (length (plainly c)))

  pub stores_unique : (r ≡ r') × (new ≡ new')
  stores_unique = by_table (decided t Nothing)

module _ (bs : List ℕ) (old new new' : List ℤ) (r r' : Result ℕ Refusal) (a : Restores bs old new r) (b : Restores bs old new' r') where
  by_refusal : (f : Refusal) → RestoreRefused bs (length old) (number_of f) (place_of f) → (r ≡ r') × (new ≡ new')
  by_refusal f h =
      let x = (a.refused f).1 h in
      let y = (b.refused f).1 h in
      (x ∙ sym y, a.untouched f x ∙ sym (b.untouched f y))

  by_names : (ws : List ℤ) (xs : List (List ℕ)) (c : Contents) → 16384 ≤ length old → read_bytes bs ≡ holds ws xs → Accepted ws Nothing c → (named xs ≡ true) ⊎ (named xs ≡ false) → (r ≡ r') × (new ≡ new')
  by_names ws xs c k e h (inl p) = by_refusal NamesLost (names k ws xs c e h p refl refl)
  by_names ws xs c k e h (inr p) =
      let x = a.wrote ws xs c k e h p in
      let y = b.wrote ws xs c k e h p in
      (x.0 ∙ sym y.0, x.1 ∙ sym y.1)

  by_words : (ws : List ℤ) (xs : List (List ℕ)) → 16384 ≤ length old → read_bytes bs ≡ holds ws xs → Decided ws Nothing → (r ≡ r') × (new ≡ new')
  by_words ws xs k e (inl (f, h)) = by_refusal f (words k ws xs e h)
  by_words ws xs k e (inr (c, h)) = by_names ws xs c k e h (bool_case (named xs))

  by_bytes : 16384 ≤ length old → (s : Reading) → read_bytes bs ≡ s → (r ≡ r') × (new ≡ new')
  by_bytes k (refused_for f) e = by_refusal f (bytes k f e refl refl)
  by_bytes k (holds ws xs) e = by_words ws xs k e (decided ws Nothing)

  by_width : (length old < 16384) ⊎ (16384 ≤ length old) → (r ≡ r') × (new ≡ new')
  by_width (inl k) = by_refusal ShortWords (room k refl refl)
  by_width (inr k) = by_bytes k (read_bytes bs) refl

  pub restores_unique : (r ≡ r') × (new ≡ new')
  restores_unique = by_width (lt_case (length old) 16384)
