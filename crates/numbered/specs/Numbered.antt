-- Rules by their numbers (01: "lowest such rule, from 1"). Definitions only: to be believed.
--   NumberedFrom i P k r   of the rules P, numbered from i on, number k is r;  Numbered: from 1
--   lowest_from f i P       the number of the first rule of P that passes f, or 0 where none does
-- Assumes nothing.
use Rattle.std.specs.Prelude.{◌≡◌, ◌⊎◌, Bool, cond, [], ◌∷◌, ℕ, suc}
use Rattle.meaning.specs.Program.{Rule, Program}

abbrev pub NumberedFrom : ℕ → Program → ℕ → Rule → Type 0
NumberedFrom i [] k r = ⊥
NumberedFrom i (s ∷ P) k r = ((k ≡ i) × (r ≡ s)) ⊎ NumberedFrom (suc i) P k r

abbrev pub Numbered : Program → ℕ → Rule → Type 0
Numbered = NumberedFrom 1

abbrev pub lowest_from : (Rule → Bool) → ℕ → Program → ℕ
lowest_from f i [] = 0
lowest_from f i (r ∷ P) = cond (f r) i (lowest_from f (suc i) P)

abbrev pub lowest_rule : (Rule → Bool) → Program → ℕ
lowest_rule f P = lowest_from f 1 P
