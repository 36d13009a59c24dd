-- What the machine holds after lists, and what a whole statement leaves: its marks, its highest atom, its bound, whether its numbers are in range. Assumes nothing.
use mathlib.Core.Path.{◌≡◌, refl}
use mathlib.Core.Bool.{Bool, true, false, ◌&&◌, not}
use mathlib.Core.List.{List, [], ◌∷◌}
use mathlib.Core.Option.{Option, some, none}
use Prim.Native.Nat.{ℕ, suc, ◌<◌, ◌≤◌, min}
use native.Mathlib.Omega.{arith}
use borrow.Author.Tests.{lt-ltb, eqb-true, eqb-false, eq-eqb, ne_eqb}
use lib.Dec.{eqb, leb, ltb}
use lib.IntN.{ℤ}
use Rattle.aspif.specs.Statements.{Signed}
use Rattle.aspif.specs.Lines.{Weighed, Form, plain, weighed, Raw}
use Rattle.aspif_scan.specs.declared.number.Number.{Number}
use Rattle.aspif_scan.specs.declared.machine.Stage.{Stage}
use Rattle.aspif_scan.specs.declared.machine.Stage.TheVariants.{NormalEnd, WeightEnd}
use Rattle.aspif_scan.specs.declared.machine.State.{State}
use Rattle.aspif_scan.specs.Number.{sized}
use Rattle.aspif_scan.specs.Machine.{higher_of}
use Rattle.aspif_scan.specs.Marks.{slot_of, literal_row, add_of}
use Rattle.aspif_read.specs.Survey.{is_whole, no_marks}

-- ---- sizes as the code holds them

abbrev pub cap : ℕ → ℕ
cap n = min n 18446744073709551615

abbrev pub capped : ℤ → Number
capped z = sized z

pub cap_is : (n k : ℕ) → k < 18446744073709551615 → eqb (cap n) k ≡ eqb n k
cap_is n k h = at (eqb n k) refl
  where
    at : (b : Bool) → eqb n k ≡ b → eqb (cap n) k ≡ b
    at true e = let q = eqb-true n k e in eq-eqb (cap n) k (omega arith)
    at false e = ne_eqb (cap n) k (λ q. eqb-false n k e (omega arith))

pub cap_some : (p : ℕ) → ltb 0 (cap (suc p)) ≡ true
cap_some p = lt-ltb 0 (cap (suc p)) (omega arith)

-- ---- a state by its parts

abbrev pub st : Stage → ℕ → ℕ → ℕ → ℕ → Bool → State
st x l a b t w = record { stage = x; left = l; atom = a; bound = b; top = t; within = w }

-- ---- what lists do to it

abbrev pub top_all : ℕ → List ℕ → ℕ
top_all t [] = t
top_all t (p ∷ l) = top_all (higher_of t (cap p)) l

abbrev pub within_all : Bool → List ℕ → Bool
within_all w [] = w
within_all w (p ∷ l) = within_all (w && leb (cap p) 256) l

abbrev pub mark_atoms : List ℕ → List ℕ → List ℕ
mark_atoms m [] = m
mark_atoms m (p ∷ l) = mark_atoms (add_of m (slot_of 0 (cap p)) 1) l

abbrev pub atoms_in : List Signed → List ℕ
atoms_in [] = []
atoms_in (x ∷ l) = x.atom ∷ atoms_in l

abbrev pub mark_literals : List ℕ → List Signed → List ℕ
mark_literals m [] = m
mark_literals m (x ∷ l) = mark_literals (add_of m (slot_of (literal_row (not x.plain)) (cap x.atom)) 1) l

abbrev pub pair_atoms : List Weighed → List ℕ
pair_atoms [] = []
pair_atoms (x ∷ l) = x.atom ∷ pair_atoms l

abbrev pub fine : ℕ → ℤ → Bool
fine most z = not (capped z).minus && leb (capped z).size most

abbrev pub within_pairs : Bool → List Weighed → Bool
within_pairs w [] = w
within_pairs w (x ∷ l) = within_pairs ((w && leb (cap x.atom) 256) && fine 65535 x.weight) l

abbrev pub mark_pairs : List ℕ → List Weighed → List ℕ
mark_pairs m [] = m
mark_pairs m (x ∷ l) = mark_pairs (add_of (add_of m (slot_of 3 (cap x.atom)) 1) (slot_of 4 (cap x.atom)) (capped x.weight).size) l

-- ---- what a statement leaves

pub record Ends (x : Stage) (b t : ℕ) (w : Bool) (k : List ℕ) (s : State) (m : List ℕ) : Type 0 where
  pub stage : s.stage ≡ x
  pub bound : s.bound ≡ b
  pub top : s.top ≡ t
  pub within : s.within ≡ w
  pub marks : m ≡ k

abbrev pub EndsBy : List ℕ → Form → State → List ℕ → Type 0
EndsBy h (plain l) s m = Ends NormalEnd 0 (top_all (top_all 0 h) (atoms_in l)) (within_all (within_all true h) (atoms_in l)) (mark_literals (mark_atoms no_marks h) l) s m
EndsBy h (weighed b l) s m =
    Ends WeightEnd (min (capped b).size 4194306) (top_all (top_all 0 h) (pair_atoms l)) (within_pairs (within_all true h && fine 4194305 b) l) (mark_pairs (mark_atoms no_marks h) l) s m

-- no atom is 0
abbrev pub LowAll : List ℕ → Type 0
LowAll [] = Unit {0}
LowAll (p ∷ l) = (1 ≤ p) × LowAll l

abbrev pub form_atoms : Form → List ℕ
form_atoms (plain l) = atoms_in l
form_atoms (weighed b l) = pair_atoms l

abbrev pub Agree : Option Raw → State → List ℕ → Type 0
Agree none s m = is_whole s.stage ≡ false
Agree (some r) s m = EndsBy r.head r.form s m × LowAll r.head × LowAll (form_atoms r.form)
