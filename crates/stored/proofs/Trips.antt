-- Both ways, one after the other: "Old to new to old gives the same words. New to old to new gives the same bytes when all names are empty." Assumes nothing.
use mathlib.Core.Path.{◌≡◌, refl, subst}
use mathlib.Core.List.{List, ◌++◌}
use Prim.Native.Nat.{ℕ, ◌≤◌}
use lib.IntN.{ℤ}
use lib.ListN.{length, take, drop}
use Rattle.std.specs.Prelude.{Result, Ok}
use Rattle.results.specs.declared.Refusal.{Refusal}
use Rattle.stored.specs.Bytes.{no_names}
use Rattle.stored.specs.Promises.{Stores}
use Rattle.stored.specs.Restoring.{Restores}
use Rattle.stored.proofs.NameLaws.{empty_unnamed}

-- what `store` wrote is restored to the same words
pub there_and_back : (t : List ℤ) (old new : List ℕ) (n : ℕ) → Stores t old new (Ok n) → (words words' : List ℤ) (r : Result ℕ Refusal) → 16384 ≤ length words → Restores (take n new) words words' r
    → (r ≡ Ok (length t)) × (words' ≡ t ++ drop (length t) words)
there_and_back t old new n a words words' r h b =
    let k = a.back n refl in
    b.wrote t (no_names k.0.atoms) k.0 h k.2 k.1 (empty_unnamed k.0.atoms)

-- what `restore` wrote is stored as the same bytes
pub back_and_there : (bytes : List ℕ) (words words' : List ℤ) (n : ℕ) → Restores bytes words words' (Ok n) → (old new : List ℕ) (r : Result ℕ Refusal) → length bytes ≤ length old → Stores (take n words') old new r
    → (r ≡ Ok (length bytes)) × (new ≡ bytes ++ drop (length bytes) old)
back_and_there bytes words words' n a old new r h b =
    let k = a.back n refl in
    subst (λ (l : List ℕ). length l ≤ length old → (r ≡ Ok (length l)) × (new ≡ l ++ drop (length l) old)) k.2 (b.wrote k.0 k.1) h
