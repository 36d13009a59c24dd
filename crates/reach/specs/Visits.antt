-- What a visit, a walk back and settling are to leave. Definitions only; they need not be believed: what reaches what is `meaning`'s `Chain`.
--   Part A B            all of the set A is in B
--   Apart A B           no atom is in both
--   Meeting n A B r     r says whether one of the atoms 1 .. n is in both
--   size A n            how many of the atoms 1 .. n are in A
--   within i j A        those of A from i to j
--   Queue A l k         the first k of the list l, each plus one, are the atoms of A, and no more than A has
--   Put T A l k B m j   what was marked is A, on the list l up to k; with those of T it is B, on the list m up to j, which goes on where l ended
--   Visited R p A l k   A is exactly what p reaches by arcs R, and stands on the list l up to k
--   Reached R p l k     the first k of the list l, each plus one, are exactly what p reaches
--   Led R q A a B b     the marked atoms A, a at least in number, with q if an arc goes from it to one of them
--   Walked R l i k ..   the same for the atoms on the list l from i to k, one after the other
--   Circle R p q        p and q reach each other
--   Closed R A          no arc leads out of A
--   Off R p             no chain of arcs leads from p back to it
--   Settling R A B      B is A with atoms on no cycle, and closed;  Settled R B: the same with no atom before
-- Assumes nothing.
use Rattle.std.specs.Prelude.{◌≡◌, Bool, true, false, cond, ◌⊎◌, ◌↔◌, List, ℕ, zero, suc, ◌≤◌, ◌<◌, length, get_or}
use Rattle.meaning.specs.Lists.{Is}
use Rattle.meaning.specs.Program.{In}
use Rattle.meaning.specs.Dependency.{Chain}
use Rattle.levels.specs.Levels.{Levels, no_levels}

abbrev pub Part : Levels → Levels → Type 0
Part A B = (q : ℕ) → Is (A q) → Is (B q)

abbrev pub Apart : Levels → Levels → Type 0
Apart A B = (q : ℕ) → In 256 q → Is (A q) → Is (B q) → ⊥

abbrev pub Meeting : ℕ → Levels → Levels → Bool → Type 0
Meeting n A B true = (q : ℕ) × Is (A q) × Is (B q)
Meeting n A B false = (q : ℕ) → In n q → Is (A q) → Is (B q) → ⊥

-- ---- marks and the list

unfoldable pub size : Levels → ℕ → ℕ
size A zero = zero
size A (suc n) = cond (A (suc n)) (suc (size A n)) (size A n)

abbrev pub within : ℕ → ℕ → Levels → ℕ → Type 0
within i j A = λ q. (i ≤ q) × (q ≤ j) × Is (A q)

pub record Queue (A : Levels) (l : List ℕ) (k : ℕ) : Type 0 where
  pub sized : length l ≡ 256
  pub few : k ≤ size A 256
  pub each : (i : ℕ) → i < k → Is (A (suc (get_or l i 0)))
  pub all : (q : ℕ) → Is (A q) → (i : ℕ) × (i < k) × (suc (get_or l i 0) ≡ q)

pub record Put (T : ℕ → Type 0) (A : Levels) (l : List ℕ) (k : ℕ) (B : Levels) (m : List ℕ) (j : ℕ) : Type 0 where
  pub queue : Queue B m j
  pub kept : Part A B
  pub added : (q : ℕ) → T q → Is (B q)
  pub only : (q : ℕ) → Is (B q) → Is (A q) ⊎ T q
  pub longer : k ≤ j
  pub same : (i : ℕ) → i < k → get_or m i 0 ≡ get_or l i 0

-- ---- the visit

pub record Visited (R : ℕ → ℕ → Bool) (p : ℕ) (A : Levels) (l : List ℕ) (k : ℕ) : Type 0 where
  pub queue : Queue A l k
  pub exact : (q : ℕ) → Is (A q) ↔ Chain R p q

-- ---- back

-- the list has exactly what p reaches
pub record Reached (R : ℕ → ℕ → Bool) (p : ℕ) (l : List ℕ) (k : ℕ) : Type 0 where
  pub few : k ≤ 256
  pub each : (i : ℕ) → i < k → Chain R p (suc (get_or l i 0))
  pub all : (q : ℕ) → Chain R p q → (i : ℕ) × (i < k) × (suc (get_or l i 0) ≡ q)

-- where the number stays, nothing was marked, and q has no arc to a marked atom unless it is one
pub record Led (R : ℕ → ℕ → Bool) (q : ℕ) (A : Levels) (a : ℕ) (B : Levels) (b : ℕ) : Type 0 where
  pub kept : Part A B
  pub only : (s : ℕ) → Is (B s) → Is (A s) ⊎ ((s ≡ q) × ((u : ℕ) × Is (R q u) × Is (A u)))
  pub sized : b ≤ size B 256
  pub more : a ≤ b
  pub still : b ≡ a → Part B A
  pub done : b ≡ a → (u : ℕ) → Is (R q u) → Is (A u) → Is (A q)

pub record Walked (R : ℕ → ℕ → Bool) (l : List ℕ) (i k : ℕ) (A : Levels) (a : ℕ) (B : Levels) (b : ℕ) : Type 0 where
  pub kept : Part A B
  pub from : (s : ℕ) → Is (B s) → Is (A s) ⊎ ((j : ℕ) × (j < k) × (suc (get_or l j 0) ≡ s))
  pub sound : (p : ℕ) → ((s : ℕ) → Is (A s) → Chain R s p) → (s : ℕ) → Is (B s) → Chain R s p
  pub sized : b ≤ size B 256
  pub more : a ≤ b
  pub still : b ≡ a → Part B A
  pub done : b ≡ a → (j : ℕ) → i ≤ j → j < k → (u : ℕ) → Is (R (suc (get_or l j 0)) u) → Is (A u) → Is (A (suc (get_or l j 0)))

pub record Circle (R : ℕ → ℕ → Bool) (p q : ℕ) : Type 0 where
  pub there : Chain R p q
  pub back : Chain R q p

-- ---- settling

abbrev pub Closed : (ℕ → ℕ → Bool) → Levels → Type 0
Closed R A = (p q : ℕ) → Is (A p) → Is (R p q) → Is (A q)

abbrev pub Off : (ℕ → ℕ → Bool) → ℕ → Type 0
Off R p = (q : ℕ) → Is (R p q) → Chain R q p → ⊥

pub record Settling (R : ℕ → ℕ → Bool) (A B : Levels) : Type 0 where
  pub kept : Part A B
  pub closed : Closed R B
  pub off : (p : ℕ) → Is (B p) → Is (A p) ⊎ Off R p

abbrev pub Settled : (ℕ → ℕ → Bool) → Levels → Type 0
Settled R B = Settling R no_levels B
