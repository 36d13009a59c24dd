-- Where runs begin and end: the laws of `skipped` and `spanned`, and the runs of a text one by one. Assumes nothing.
use mathlib.Core.Path.{◌≡◌, refl, sym, ap, ◌∙◌}
use mathlib.Core.Bool.{Bool, true, false}
use mathlib.Core.List.{List, [], ◌∷◌, ◌++◌, append_assoc, append-nil}
use Prim.Native.Nat.{ℕ, suc, ◌+◌, ◌<◌, ◌≤◌}
use native.Mathlib.Numerals.{add-one}
use native.Mathlib.Omega.{arith}
use lib.ListN.{length, get_or, take, drop, drop_of_length-le}
use lib.Seq.{drop-cons}
use Rattle.text.specs.Text.{parting, runs_from, runs, ended}
use Rattle.text.specs.Scan.{skipped, spanned}

-- ---- one byte

pub skipped_yes : (b : ℕ) (bs : List ℕ) → parting b ≡ true → skipped (b ∷ bs) ≡ suc (skipped bs)
unfolding skipped
skipped_yes b bs e = rw (e, skipped)

pub skipped_no : (b : ℕ) (bs : List ℕ) → parting b ≡ false → skipped (b ∷ bs) ≡ 0
unfolding skipped
skipped_no b bs e = rw (e, skipped)

pub skipped_none : skipped [] ≡ 0
unfolding skipped
skipped_none = refl

pub spanned_yes : (b : ℕ) (bs : List ℕ) → parting b ≡ false → spanned (b ∷ bs) ≡ suc (spanned bs)
unfolding spanned
spanned_yes b bs e = rw (e, spanned)

pub spanned_no : (b : ℕ) (bs : List ℕ) → parting b ≡ true → spanned (b ∷ bs) ≡ 0
unfolding spanned
spanned_no b bs e = rw (e, spanned)

pub spanned_none : spanned [] ≡ 0
unfolding spanned
spanned_none = refl

pub runs_parted : (run : List ℕ) (b : ℕ) (bs : List ℕ) → parting b ≡ true → runs_from run (b ∷ bs) ≡ ended run (runs bs)
unfolding runs_from
runs_parted run b bs e = rw (e, runs_from)

pub runs_longer : (run : List ℕ) (b : ℕ) (bs : List ℕ) → parting b ≡ false → runs_from run (b ∷ bs) ≡ runs_from (run ++ (b ∷ [])) bs
unfolding runs_from
runs_longer run b bs e = rw (e, runs_from)

pub runs_none : (run : List ℕ) → runs_from run [] ≡ ended run []
unfolding runs_from
runs_none run = refl

-- ---- a loop's step: at index i of the bytes

module _ (bs : List ℕ) (i : ℕ) (h : i < length bs) where
  pub skip_on : parting (get_or bs i 0) ≡ true → i + skipped (drop i bs) ≡ i + 1 + skipped (drop (i + 1) bs)
  skip_on e =
      let s = skipped_yes (get_or bs i 0) (drop (suc i) bs) e in
      rw (drop-cons bs i 0 h, s, add-one) (omega arith)

  pub skip_stop : parting (get_or bs i 0) ≡ false → i ≡ i + skipped (drop i bs)
  skip_stop e =
      let s = skipped_no (get_or bs i 0) (drop (suc i) bs) e in
      rw (drop-cons bs i 0 h, s) (omega arith)

  pub span_on : parting (get_or bs i 0) ≡ false → i + spanned (drop i bs) ≡ i + 1 + spanned (drop (i + 1) bs)
  span_on e =
      let s = spanned_yes (get_or bs i 0) (drop (suc i) bs) e in
      rw (drop-cons bs i 0 h, s, add-one) (omega arith)

  pub span_stop : parting (get_or bs i 0) ≡ true → i ≡ i + spanned (drop i bs)
  span_stop e =
      let s = spanned_no (get_or bs i 0) (drop (suc i) bs) e in
      rw (drop-cons bs i 0 h, s) (omega arith)

pub skip_end : (bs : List ℕ) (i : ℕ) → length bs ≤ i → i ≡ i + skipped (drop i bs)
skip_end bs i h = rw (drop_of_length-le bs h, skipped_none) (omega arith)

pub span_end : (bs : List ℕ) (i : ℕ) → length bs ≤ i → i ≡ i + spanned (drop i bs)
span_end bs i h = rw (drop_of_length-le bs h, spanned_none) (omega arith)

-- ---- on lists

pub skipped_le : (bs : List ℕ) → skipped bs ≤ length bs
skipped_le [] = rw skipped_none (omega arith)
skipped_le (b ∷ bs) = at (parting b) refl (skipped_le bs)
  where
    at : (t : Bool) → parting b ≡ t → skipped bs ≤ length bs → skipped (b ∷ bs) ≤ suc (length bs)
    at true e h = rw (skipped_yes b bs e) (omega arith)
    at false e h = rw (skipped_no b bs e) (omega arith)

pub spanned_le : (bs : List ℕ) → spanned bs ≤ length bs
spanned_le [] = rw spanned_none (omega arith)
spanned_le (b ∷ bs) = at (parting b) refl (spanned_le bs)
  where
    at : (t : Bool) → parting b ≡ t → spanned bs ≤ length bs → spanned (b ∷ bs) ≤ suc (length bs)
    at false e h = rw (spanned_yes b bs e) (omega arith)
    at true e h = rw (spanned_no b bs e) (omega arith)

-- what was skipped holds no run
pub runs_skipped : (bs : List ℕ) → runs (drop (skipped bs) bs) ≡ runs bs
runs_skipped [] = rw skipped_none
runs_skipped (b ∷ bs) = at (parting b) refl (runs_skipped bs)
  where
    at : (t : Bool) → parting b ≡ t → runs (drop (skipped bs) bs) ≡ runs bs → runs (drop (skipped (b ∷ bs)) (b ∷ bs)) ≡ runs (b ∷ bs)
    at true e h = rw (skipped_yes b bs e) (h ∙ sym (runs_parted [] b bs e))
    at false e h = rw (skipped_no b bs e)

-- after what was skipped a run begins
pub skipped_stops : (bs : List ℕ) → skipped bs < length bs → parting (get_or bs (skipped bs) 0) ≡ false
skipped_stops [] h = absurd (le_no h)
  where
    le_no : skipped [] < 0 → ⊥
    le_no k = omega arith
skipped_stops (b ∷ bs) h = at (parting b) refl (λ k. skipped_stops bs k) h
  where
    at : (t : Bool) → parting b ≡ t → (skipped bs < length bs → parting (get_or bs (skipped bs) 0) ≡ false) → skipped (b ∷ bs) < suc (length bs) → parting (get_or (b ∷ bs) (skipped (b ∷ bs)) 0) ≡ false
    at true e f k =
        let s = skipped_yes b bs e in
        let k' : skipped bs < length bs = omega arith in
        rw s (f k')
    at false e f k = rw (skipped_no b bs e) e

-- a run ends at its span
pub runs_spanned : (run bs : List ℕ) → runs_from run bs ≡ ended (run ++ take (spanned bs) bs) (runs (drop (spanned bs) bs))
runs_spanned run [] = rw (spanned_none, runs_none, append-nil run) (rw (runs_none []))
runs_spanned run (b ∷ bs) = at (parting b) refl (runs_spanned (run ++ (b ∷ [])) bs)
  where
    at : (t : Bool) → parting b ≡ t → runs_from (run ++ (b ∷ [])) bs ≡ ended ((run ++ (b ∷ [])) ++ take (spanned bs) bs) (runs (drop (spanned bs) bs))
        → runs_from run (b ∷ bs) ≡ ended (run ++ take (spanned (b ∷ bs)) (b ∷ bs)) (runs (drop (spanned (b ∷ bs)) (b ∷ bs)))
    at true e h = rw (spanned_no b bs e, append-nil run, runs_parted run b bs e, runs_parted [] b bs e)
    at false e h = rw (spanned_yes b bs e, runs_longer run b bs e) (h ∙ ap (λ (l : List ℕ). ended l (runs (drop (spanned bs) bs))) (append_assoc run (b ∷ []) (take (spanned bs) bs)))
