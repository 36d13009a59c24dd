-- The promise of `relax` has one answer only: two results, two later lists and two later plan buffers that meet it for the same input are equal. Assumes nothing.
--   relaxing_unique   of the promise
--   lent_unique       two calls of `relax_with` that differ only in what the lent memory holds
use mathlib.Core.Path.{◌≡◌, refl, sym, ◌∙◌}
use mathlib.Core.Logic.{◌⊎◌, inl, inr}
use mathlib.Core.List.{List}
use Rattle.std.specs.Prelude.{Result}
use Prim.Native.Nat.{ℕ, ◌≤◌, ◌<◌}
use lib.IntN.{ℤ}
use lib.ListN.{length}
use Rattle.meaning.proofs.Cond.{lt_case}
use Rattle.results.specs.declared.Refusal.{Refusal}
use Rattle.results.specs.declared.Ask.{Ask}
use Rattle.results.specs.declared.Relaxed.{Relaxed}
use Rattle.results.specs.Results.{number_of, place_of}
use Rattle.results.proofs.Determined.{relax_determines}
use Rattle.table.specs.Contents.{Contents, program}
use Rattle.judging.specs.declared.Buffer.TheVariants.{Plan}
use Rattle.judging.specs.Refusals.{AcceptedBy}
use Rattle.judging.proofs.Judged.{DecidedBy, decided}
use Rattle.relaxer.specs.Promise.{RelaxRefused, before, short, Relaxing}

module _ (t : List ℤ) (ask : Ask) (list plan : List ℕ) where
  abbrev Same : List ℕ → List ℕ → Result Relaxed Refusal → List ℕ → List ℕ → Result Relaxed Refusal → Type 0
  Same list' plan' r list'' plan'' s = (r ≡ s) × (list' ≡ list'') × (plan' ≡ plan'')

  module _ (list' plan' : List ℕ) (r : Result Relaxed Refusal) (list'' plan'' : List ℕ) (s : Result Relaxed Refusal) (a : Relaxing t ask list list' plan plan' r) (b : Relaxing t ask list list'' plan plan'' s) where
    refused : (n i : ℕ) → RelaxRefused ask.cycles t (length plan) (length list) n i → Same list' plan' r list'' plan'' s
    refused n i h =
        let e = (a.refused n i).1 h in
        let f = (b.refused n i).1 h in
        let u = a.untouched n i e in
        let v = b.untouched n i f in
        (relax_determines r s n i e f, u.0 ∙ sym v.0, u.1 ∙ sym v.1)

    taken : (c : Contents) → AcceptedBy ask.cycles t (Plan (length plan)) c → length (program c) ≤ length list → Same list' plan' r list'' plan'' s
    taken c h l =
        let x = a.relaxes c h l in
        let y = b.relaxes c h l in
        (x.result ∙ sym y.result, x.listed ∙ sym y.listed, x.written ∙ sym y.written)

    by_list : (c : Contents) → AcceptedBy ask.cycles t (Plan (length plan)) c → (length list < length (program c)) ⊎ (length (program c) ≤ length list) → Same list' plan' r list'' plan'' s
    by_list c h (inl l) = refused 26 0 (short c h l refl refl)
    by_list c h (inr l) = taken c h l

    by_table : DecidedBy ask.cycles t (Plan (length plan)) → Same list' plan' r list'' plan'' s
    by_table (inl (f, h)) = refused (number_of f) (place_of f) (before h)
    by_table (inr (c, h)) = by_list c h (lt_case (length list) (length (program c)))

    pub relaxing_unique : Same list' plan' r list'' plan'' s
    relaxing_unique = by_table (decided t (Plan (length plan)))

  -- what the lent lists and candidates held before and hold after is in no promise: so two calls over any contents give the same
  pub lent_unique : (lists candidates lists' candidates' : List ℕ) (list' plan' : List ℕ) (r : Result Relaxed Refusal) (list'' plan'' : List ℕ) (s : Result Relaxed Refusal)
      → Relaxing t ask list list' plan plan' r → Relaxing t ask list list'' plan plan'' s → Same list' plan' r list'' plan'' s
  lent_unique lists candidates lists' candidates' list' plan' r list'' plan'' s a b = relaxing_unique list' plan' r list'' plan'' s a b
