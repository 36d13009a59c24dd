-- Foundedness (01, "Reasons and jumps"): "starting from none, repeatedly add p if some rule has body true, p its only true head atom and all
-- positive body atoms added. All true atoms added: answer." Definitions only: to be believed.
--   Added, Founded   what is added in the end; each true atom is
--   founded          the same as a test: rounds over the atoms 1 to n, until one adds nothing (`proofs/Tested.antt` shows it exact)
-- Assumes nothing.
use Rattle.std.specs.Prelude.{ℕ, zero, suc, Bool, true, false, cond, not, ◌&&◌, ◌||◌, List, [], ◌∷◌, eqb}
use Rattle.meaning.specs.Lists.{Is, ◌∈◌, all, any, keep, has}
use Rattle.meaning.specs.Program.{Rule, Program}
use Rattle.meaning.specs.Aggregates.{Atoms}
use Rattle.meaning.specs.Answers.{body}

-- p is true, and the rule's only true head atom
unfoldable pub only_head : Atoms → Rule → ℕ → Bool
only_head X r p = X p && has p r.head && all (λ h. not (X h) || eqb h p) r.head

unfoldable pub supports : Atoms → Rule → ℕ → Bool
supports X r p = body X r && only_head X r p

pub data Added (P : Program) (X : Atoms) : ℕ → Type 0 where
  add : {p : ℕ} (r : Rule) → r ∈ P → Is (supports X r p) → ((b : ℕ) → b ∈ r.pos → Added P X b) → Added P X p

abbrev pub Founded : Program → Atoms → Type 0
Founded P X = (p : ℕ) → Is (X p) → Added P X p

-- ---- as a test

-- the atoms n .. 1
abbrev pub atoms_to : ℕ → List ℕ
atoms_to zero = []
atoms_to (suc n) = suc n ∷ atoms_to n

-- p is added already, or can be
abbrev pub added : Program → Atoms → List ℕ → ℕ → Bool
added P X F p = has p F || any (λ r. supports X r p && all (λ b. has b F) r.pos) P

abbrev pub next_round : Program → ℕ → Atoms → List ℕ → List ℕ
next_round P n X F = keep (added P X F) (atoms_to n)

abbrev pub same_list : List ℕ → List ℕ → Bool
same_list [] [] = true
same_list [] (q ∷ t) = false
same_list (p ∷ s) [] = false
same_list (p ∷ s) (q ∷ t) = eqb p q && same_list s t

abbrev pub rounds_from : Program → ℕ → Atoms → ℕ → List ℕ → List ℕ
rounds_from P n X zero F = F
rounds_from P n X (suc k) F = let G = next_round P n X F in let H = rounds_from P n X k G in cond (same_list F G) F H

unfoldable pub founded : Program → ℕ → Atoms → Bool
founded P n X = let F = rounds_from P n X (suc (suc n)) [] in all (λ p. not (X p) || has p F) (atoms_to n)
