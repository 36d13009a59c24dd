-- What the machine holds stays small: the bound, the highest atom, the marks. Assumes nothing.
use mathlib.Core.Path.{◌≡◌, refl, ap}
use mathlib.Core.Bool.{Bool, true, false}
use mathlib.Core.List.{List, [], ◌∷◌}
use Prim.Native.Nat.{ℕ, zero, suc, ◌+◌, ◌≤◌, min}
use native.Mathlib.Omega.{arith}
use borrow.Author.Tests.{ltb-false}
use lib.Dec.{ltb}
use lib.IntN.{pos, pred_ℤ}
use Prim.Native.Nat.{◌-◌}
use lib.ListN.{get_or, set, replicate}
use Rattle.std.specs.Prelude.{Option, Some, None}
use Rattle.text.specs.Text.{pick}
use Rattle.aspif_scan.specs.declared.number.Number.{Number}
use Rattle.aspif_scan.specs.declared.machine.Stage.{Stage}
use Rattle.aspif_scan.specs.declared.machine.Stage.TheVariants.{Rule, Disjunction, HeadCount, Head, Body, LiteralCount, Literal, Bound, PairCount, Pair, Weight, NormalEnd, WeightEnd, Outside}
use Rattle.aspif_scan.specs.declared.machine.State.{State}
use Rattle.aspif_scan.specs.Machine.{higher_of, start_of, step_at, step_of, read_by}
use Rattle.aspif_scan.specs.Marks.{slot_of, literal_row, add_of, mark_at, mark_of, marks_by}
use Rattle.aspif_scan.specs.Number.{nought}
use Rattle.aspif_scan.specs.Scan.{numbers_in}
use Rattle.aspif_read.specs.Survey.{no_marks, state_of, marks_of}
use Rattle.aspif_read.specs.Writing.{Capped}

-- ---- the state

higher_low : (t p : ℕ) → t ≤ 256 → higher_of t p ≤ 256
unfolding higher_of
higher_low t p h = at (ltb 256 p) refl (ltb t p)
  where
    at : (b : Bool) → ltb 256 p ≡ b → (c : Bool) → pick b t (pick c p t) ≤ 256
    at true e c = h
    at false e true = ltb-false 256 p e
    at false e false = h

record Low (s : State) : Type 0 where
  bound : s.bound ≤ 4194306
  top : s.top ≤ 256

step_low : (t : Stage) (s : State) (n : Number) → Low s → Low (step_at t s n)
step_low Rule s n h = record { bound = h.bound; top = h.top }
step_low Disjunction s n h = record { bound = h.bound; top = h.top }
step_low HeadCount s n h = record { bound = h.bound; top = h.top }
step_low Head s n h = record { bound = h.bound; top = higher_low s.top n.size h.top }
step_low Body s n h = record { bound = h.bound; top = h.top }
step_low LiteralCount s n h = record { bound = h.bound; top = h.top }
step_low Literal s n h = record { bound = h.bound; top = higher_low s.top n.size h.top }
step_low Bound s n h = record { bound = omega arith; top = h.top }
step_low PairCount s n h = record { bound = h.bound; top = h.top }
step_low Pair s n h = record { bound = h.bound; top = higher_low s.top n.size h.top }
step_low Weight s n h = record { bound = h.bound; top = h.top }
step_low NormalEnd s n h = record { bound = h.bound; top = h.top }
step_low WeightEnd s n h = record { bound = h.bound; top = h.top }
step_low Outside s n h = record { bound = h.bound; top = h.top }

read_low : (s : State) (ns : List (Option Number)) → Low s → Low (read_by s ns)
unfolding read_by step_of
read_low s [] h = h
read_low s (None ∷ ns) h = let l = step_low s.stage s nought h in read_low (step_of s None) ns (record { bound = l.bound; top = l.top })
read_low s (Some n ∷ ns) h = read_low (step_of s (Some n)) ns (step_low s.stage s n h)

line_low : (line : List ℕ) → Low (state_of line)
line_low line = read_low start_of (numbers_in line) (record { bound = omega arith; top = omega arith })

pub top_low : (line : List ℕ) → (state_of line).top ≤ 256
top_low line = (line_low line).top

pub bound_low : (line : List ℕ) → (state_of line).bound ≤ 4194306
bound_low line = (line_low line).bound

-- ---- the marks

set_capped : (m : List ℕ) (i v j : ℕ) → ((k : ℕ) → get_or m k 0 ≤ 65536) → v ≤ 65536 → get_or (set m i v) j 0 ≤ 65536
set_capped [] i v j h k = h j
set_capped (x ∷ m) zero v zero h k = k
set_capped (x ∷ m) zero v (suc j) h k = h (suc j)
set_capped (x ∷ m) (suc i) v zero h k = h 0
set_capped (x ∷ m) (suc i) v (suc j) h k = set_capped m i v j (λ l. h (suc l)) k

pub add_capped : (m : List ℕ) (slot : Option ℕ) (more : ℕ) → Capped m → Capped (add_of m slot more)
unfolding add_of
add_capped m None more h j = h j
add_capped m (Some i) more h j = set_capped m i (min (get_or m i 0 + more) 65536) j h (omega arith)

mark_capped : (t : Stage) (p : ℕ) (n : Number) (m : List ℕ) → Capped m → Capped (mark_at t p n m)
mark_capped Rule p n m h = h
mark_capped Disjunction p n m h = h
mark_capped HeadCount p n m h = h
mark_capped Head p n m h = add_capped m (slot_of 0 n.size) 1 h
mark_capped Body p n m h = h
mark_capped LiteralCount p n m h = h
mark_capped Literal p n m h = add_capped m (slot_of (literal_row n.minus) n.size) 1 h
mark_capped Bound p n m h = h
mark_capped PairCount p n m h = h
mark_capped Pair p n m h = add_capped m (slot_of 3 n.size) 1 h
mark_capped Weight p n m h = add_capped m (slot_of 4 p) n.size h
mark_capped NormalEnd p n m h = h
mark_capped WeightEnd p n m h = h
mark_capped Outside p n m h = h

by_capped : (s : State) (ns : List (Option Number)) (m : List ℕ) → Capped m → Capped (marks_by s ns m)
unfolding marks_by mark_of
by_capped s [] m h = h
by_capped s (None ∷ ns) m h = by_capped (step_of s None) ns (mark_of s None m) (mark_capped s.stage s.atom nought m h)
by_capped s (Some n ∷ ns) m h = by_capped (step_of s (Some n)) ns (mark_of s (Some n) m) (mark_capped s.stage s.atom n m h)

pub none_at : (n i : ℕ) → ◌≡◌ {A = ℕ} (get_or (replicate n 0) i 0) 0
none_at zero i = refl
none_at (suc n) zero = refl
none_at (suc n) (suc i) = none_at n i

pub marks_capped : (line : List ℕ) → Capped (marks_of line)
marks_capped line = by_capped start_of (numbers_in line) no_marks (λ i. let e = none_at 1280 i in omega arith)

pub pred_pos : (n : ℕ) → (n ≡ 0 → ⊥) → pred_ℤ (pos n) ≡ pos (n - 1)
pred_pos zero h = absurd (h refl)
pred_pos (suc n) h = let e : n ≡ suc n - 1 = omega arith in ap pos e
