-- The literals in use and their new atoms, as the code finds them: a mark for each literal, then the numbers in one walk. Definitions only.
--   place_of      the place of a literal: that of aggregate j, and after it that of its negation
--   mark_all      marks for the literals of a list;  mark_rules: for those of rules
--   numbered_by   the free numbers from `next` on, given to the marked places; 0 for the others
--   NewAtoms     what the numbers are to say: the new atom of each literal in use, and 0 of every other
-- Assumes nothing.
use Rattle.std.specs.Prelude.{◌≡◌, Bool, true, false, cond, List, [], ◌∷◌, ℕ, zero, suc, ◌+◌, ◌-◌, ◌*◌, ◌≤◌, ℤ, nat_abs, length, get_or, set, replicate}
use Rattle.std.specs.Int.Signed.{non_neg}
use Rattle.table.specs.Contents.{NumberedRule, Contents}
use Rattle.aspif.specs.Writing.{uses, new_atom}

abbrev pub sign_place : Bool → ℕ
sign_place true = 0
sign_place false = 1

unfoldable pub place_of : ℤ → ℕ
place_of w = 2 * (nat_abs w - 1) + sign_place (non_neg w)

unfoldable pub mark_all : List ℕ → List ℤ → List ℕ
mark_all ms [] = ms
mark_all ms (w ∷ l) = mark_all (set ms (place_of w) 1) l

unfoldable pub mark_rules : List ℕ → List NumberedRule → List ℕ
mark_rules ms [] = ms
mark_rules ms (r ∷ rs) = mark_rules (mark_all ms r.aggs) rs

abbrev pub atom_by : ℕ → ℕ → ℕ
atom_by zero next = 0
atom_by (suc m) next = next

abbrev pub next_by : ℕ → ℕ → ℕ
next_by zero next = next
next_by (suc m) next = suc next

unfoldable pub numbered_by : ℕ → List ℕ → List ℕ
numbered_by next [] = []
numbered_by next (m ∷ ms) = atom_by m next ∷ numbered_by (next_by m next) ms

unfoldable pub new_atoms : ℕ → List NumberedRule → List ℕ
new_atoms n rules = numbered_by (suc n) (mark_rules (replicate 128 0) rules)

-- the new atom, or 0
unfoldable pub new_or_none : Contents → ℤ → ℕ
new_or_none c w = cond (uses c.rules w) (new_atom c w) 0

pub record NewAtoms (c : Contents) (news : List ℕ) : Type 0 where
  pub each : (w : ℤ) → 1 ≤ nat_abs w → nat_abs w ≤ length c.aggregates → get_or news (place_of w) 0 ≡ new_or_none c w
