-- Sets of choice levels, and a reason for each atom (01, "Reasons and jumps": "a reason, a set of choice levels 1 to 256"). Definitions only: to be believed.
--   Levels         a set of levels
--   no_levels       the empty set;  union A B;  only l  the set of l alone
--   without m A    "C without m";  up_to k  all present levels 1 .. k
--   highest A k    the highest of A in 1 .. k, or 0
-- Assumes nothing.
use Rattle.std.specs.Prelude.{Bool, true, false, cond, ◌||◌, ℕ, zero, suc}
use Rattle.meaning.specs.Cond.{if_lt, if_eq}

abbrev pub Levels : Type 0
Levels = ℕ → Bool

abbrev pub no_levels : Levels
no_levels = λ l. false

abbrev pub union : Levels → Levels → Levels
union A B = λ l. A l || B l

abbrev pub only : ℕ → Levels
only m = λ l. if_eq l m true false

abbrev pub without : ℕ → Levels → Levels
without m A = λ l. if_eq l m false (A l)

abbrev pub up_to : ℕ → Levels
up_to k = λ l. if_lt 0 l (if_lt k l false true) false

unfoldable pub highest : Levels → ℕ → ℕ
highest A zero = zero
highest A (suc k) = cond (A (suc k)) (suc k) (highest A k)
