-- What `saucepebbly_list` promises, for every input: what the listing promises of a result, with the result's kind and its four numbers. Definitions only: to be
-- believed.
--   counted_in, refused_in, numbers_of   the number listed, choices, skips and passes; of a refusal its number and place, and twice 0
--   four_written                       a lent report afterwards: the four numbers at its front, if it has four places; else nothing is written
-- Assumes nothing.
use Rattle.std.specs.Prelude.{◌≡◌, List, [], ◌∷◌, ◌++◌, ℕ, ℤ, Result, Ok, Err}
use Rattle.results.specs.Results.{number_of, place_of, list_kind}
use Rattle.results.specs.declared.Refusal.{Refusal}
use Rattle.results.specs.declared.Counts.{Counts}
use Rattle.results.specs.declared.Listed.{Listed}
use Rattle.results.specs.declared.Listed.TheVariants as listed
use Rattle.lister.specs.Listing.{Listing}
use Rattle.reports.specs.Report.{ask_of, narrow}

abbrev pub counted_in : ℕ → Counts → List ℕ
counted_in m k = narrow m ∷ k.choices ∷ k.skips ∷ k.passes ∷ []

abbrev pub refused_in : Refusal → List ℕ
refused_in f = number_of f ∷ narrow (place_of f) ∷ 0 ∷ 0 ∷ []

abbrev pub numbers_of : Result Listed Refusal → List ℕ
numbers_of (Ok (listed.Complete m k)) = counted_in m k
numbers_of (Ok (listed.Full m k)) = counted_in m k
numbers_of (Ok (listed.Limit m k)) = counted_in m k
numbers_of (Err f) = refused_in f

abbrev pub four_written : List ℕ → List ℕ → List ℕ
four_written four [] = []
four_written four (a ∷ []) = a ∷ []
four_written four (a ∷ b ∷ []) = a ∷ b ∷ []
four_written four (a ∷ b ∷ c ∷ []) = a ∷ b ∷ c ∷ []
four_written four (a ∷ b ∷ c ∷ d ∷ rest) = four ++ rest

pub record ListsPlans (t : List ℤ) (mode lim : ℕ) (oldRows newRows oldReport newReport : List ℕ) (k : ℕ) : Type 0 where
  pub result : Result Listed Refusal
  pub listing : Listing t (ask_of mode lim) oldRows newRows result
  pub kind : k ≡ list_kind result
  pub report : newReport ≡ four_written (numbers_of result) oldReport
