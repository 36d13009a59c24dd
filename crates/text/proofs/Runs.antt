-- The runs of a text one by one, as the reader's loops meet them: where a run starts, what it is, and where the next one starts.
-- Assumes nothing.
use mathlib.Core.Path.{◌≡◌, refl, sym, ap, ◌∙◌}
use mathlib.Core.Bool.{Bool, true, false}
use mathlib.Core.List.{List, [], ◌∷◌}
use Prim.Native.Nat.{ℕ, suc, ◌+◌, ◌-◌, ◌<◌, ◌≤◌}
use native.Mathlib.Omega.{arith}
use lib.ListN.{length, get_or, take, drop, length-drop, drop_of_length-le}
use lib.Seq.{drop-cons, drop-drop, get_or-drop, length-take-le}
use Rattle.text.specs.Text.{parting, runs, ended}
use Rattle.text.specs.Scan.{skipped, spanned}
use Rattle.text.proofs.Scanning.{skipped_yes, spanned_yes, spanned_no, spanned_none, skipped_le, spanned_le, runs_skipped, skipped_stops, runs_spanned, runs_none}

-- an index at which a run starts, or the end
pub record Starts (bs : List ℕ) (at : ℕ) : Type 0 where
  pub inside : at ≤ length bs
  pub stops : at < length bs → parting (get_or bs at 0) ≡ false

-- ---- from any index to the start of a run

module _ (bs : List ℕ) (i : ℕ) (h : i ≤ length bs) where
  start_inside : i + skipped (drop i bs) ≤ length bs
  start_inside =
      let k = skipped_le (drop i bs) in
      let l = length-drop i bs in
      omega arith

  start_stops : i + skipped (drop i bs) < length bs → parting (get_or bs (i + skipped (drop i bs)) 0) ≡ false
  start_stops k =
      let l = length-drop i bs in
      let k' : skipped (drop i bs) < length (drop i bs) = omega arith in
      sym (ap parting (get_or-drop i bs (skipped (drop i bs)) 0)) ∙ skipped_stops (drop i bs) k'

  pub starts : Starts bs (i + skipped (drop i bs))
  starts = record { inside = start_inside; stops = start_stops }

pub start_runs : (bs : List ℕ) (i : ℕ) → runs (drop (i + skipped (drop i bs)) bs) ≡ runs (drop i bs)
start_runs bs i = sym (ap runs (drop-drop (skipped (drop i bs)) i bs)) ∙ runs_skipped (drop i bs)

-- ---- the run that starts at an index

ended_some : (run : List ℕ) (rs : List (List ℕ)) → 0 < length run → ended run rs ≡ run ∷ rs
ended_some [] rs h = absurd (omega arith)
ended_some (b ∷ run) rs h = refl

spanned_stops : (bs : List ℕ) → spanned bs < length bs → parting (get_or bs (spanned bs) 0) ≡ true
spanned_stops [] h = absurd (omega arith)
spanned_stops (b ∷ bs) h = at (parting b) refl (λ k. spanned_stops bs k) h
  where
    at : (t : Bool) → parting b ≡ t → (spanned bs < length bs → parting (get_or bs (spanned bs) 0) ≡ true) → spanned (b ∷ bs) < suc (length bs) → parting (get_or (b ∷ bs) (spanned (b ∷ bs)) 0) ≡ true
    at false e f k =
        let s = spanned_yes b bs e in
        let k' : spanned bs < length bs = omega arith in
        rw s (f k')
    at true e f k = rw (spanned_no b bs e) e

module _ (bs : List ℕ) (at : ℕ) (s : Starts bs at) (h : at < length bs) where
  some_span : 0 < spanned (drop at bs)
  some_span = rw (drop-cons bs at 0 h, spanned_yes (get_or bs at 0) (drop (suc at) bs) (s.stops h)) (omega arith)

  pub end_after : at < at + spanned (drop at bs)
  end_after = let k = some_span in omega arith

  pub end_inside : at + spanned (drop at bs) ≤ length bs
  end_inside =
      let k = spanned_le (drop at bs) in
      let l = length-drop at bs in
      omega arith

  pub run_first : runs (drop at bs) ≡ take (at + spanned (drop at bs) - at) (drop at bs) ∷ runs (drop (at + spanned (drop at bs)) bs)
  run_first =
      let n = spanned (drop at bs) in
      let e : at + n - at ≡ n = omega arith in
      let l : length (take n (drop at bs)) ≡ n = length-take-le n (drop at bs) (spanned_le (drop at bs)) in
      let k : 0 < length (take n (drop at bs)) = let z = some_span in omega arith in
      rw (e, ← drop-drop n at bs) (runs_spanned [] (drop at bs) ∙ ended_some (take n (drop at bs)) (runs (drop n (drop at bs))) k)

  -- a parting byte stands between two runs
  pub next_far : at + spanned (drop at bs) + skipped (drop (at + spanned (drop at bs)) bs) < length bs
      → at + 2 ≤ at + spanned (drop at bs) + skipped (drop (at + spanned (drop at bs)) bs)
  next_far k =
      let n = spanned (drop at bs) in
      let z = some_span in
      let l = length-drop at bs in
      let i : at + n < length bs = omega arith in
      let i' : n < length (drop at bs) = omega arith in
      let p : parting (get_or bs (at + n) 0) ≡ true = sym (ap parting (get_or-drop at bs n 0)) ∙ spanned_stops (drop at bs) i' in
      let q : skipped (drop (at + n) bs) ≡ suc (skipped (drop (suc (at + n)) bs)) = rw (drop-cons bs (at + n) 0 i) (skipped_yes (get_or bs (at + n) 0) (drop (suc (at + n)) bs) p) in
      omega arith

-- at the end there is none
pub runs_end : (bs : List ℕ) (at : ℕ) → length bs ≤ at → runs (drop at bs) ≡ []
runs_end bs at h = rw (drop_of_length-le bs h) (runs_none [])

pub span_end_run : (bs : List ℕ) (at : ℕ) → length bs ≤ at → take (at + spanned (drop at bs) - at) (drop at bs) ≡ []
span_end_run bs at h =
    let e : at + 0 - at ≡ 0 = omega arith in
    rw (drop_of_length-le bs h, spanned_none, e)

pub span_inside : (bs : List ℕ) (i : ℕ) → i ≤ length bs → i + spanned (drop i bs) ≤ length bs
span_inside bs i h =
    let k = spanned_le (drop i bs) in
    let l = length-drop i bs in
    omega arith
