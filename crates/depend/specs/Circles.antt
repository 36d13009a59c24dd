-- Names of circles. Definitions only; they need not be believed: `proofs/Exact.antt` shows that equal names say exactly which atoms reach each other.
--   name_of x q         the name of q's circle: an atom, less one
--   alike x p q        p and q have the same name
--   Apart n x          the first n names are those of the atoms themselves
--   Renamed i n A p x y   y is x, where those of A among the atoms above i, up to n, have the name of p
--   Named R n k x      each name is that of an atom of the circle; the circles of the atoms 1 .. k have one name each
--   Final R n x A      no arc leads out of A, and the circles of its atoms have one name each
-- Assumes nothing.
use Rattle.std.specs.Prelude.{◌≡◌, Bool, false, ◌⊎◌, List, ℕ, suc, ◌-◌, ◌≤◌, ◌<◌, eqb, length, get_or}
use Rattle.meaning.specs.Lists.{Is}
use Rattle.meaning.specs.Program.{In}
use Rattle.levels.specs.Levels.{Levels}
use Rattle.reach.specs.Visits.{Circle, Closed}

abbrev pub name_of : List ℕ → ℕ → ℕ
name_of x q = get_or x (q - 1) 0

abbrev pub alike : List ℕ → ℕ → ℕ → Bool
alike x p q = eqb (name_of x p) (name_of x q)

abbrev pub Apart : ℕ → List ℕ → Type 0
Apart n x = (i : ℕ) → i < n → get_or x i 0 ≡ i

pub record Renamed (i n : ℕ) (A : Levels) (p : ℕ) (x y : List ℕ) : Type 0 where
  pub sized : length y ≡ 256
  pub low : (q : ℕ) → 1 ≤ q → q ≤ i → name_of y q ≡ name_of x q
  pub put : (q : ℕ) → i < q → q ≤ n → Is (A q) → name_of y q ≡ p - 1
  pub kept : (q : ℕ) → i < q → q ≤ n → A q ≡ false → name_of y q ≡ name_of x q

pub record Named (R : ℕ → ℕ → Bool) (n k : ℕ) (x : List ℕ) : Type 0 where
  pub sized : length x ≡ 256
  pub own : (q : ℕ) → In n q → Circle R (suc (name_of x q)) q
  pub low : (q : ℕ) → In n q → (name_of x q ≡ q - 1) ⊎ (name_of x q < k)
  pub done : (p q : ℕ) → In n p → In n q → p ≤ k → Circle R p q → name_of x q ≡ name_of x p

pub record Final (R : ℕ → ℕ → Bool) (n : ℕ) (x : List ℕ) (A : Levels) : Type 0 where
  pub closed : Closed R A
  pub one : (p q : ℕ) → In n p → In n q → Is (A p) → Circle R p q → name_of x q ≡ name_of x p
