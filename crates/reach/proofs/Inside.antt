-- An accepted table's program is over the atoms 1 .. N, as `layout` shows, in the two forms that theorems ask. Assumes nothing.
use Prim.Native.Nat.{ℕ, suc}
use mathlib.Core.List.{List}
use native.Mathlib.Omega.{arith}
use lib.IntN.{ℤ}
use Rattle.meaning.specs.Program.{Program, AtomsIn, Below}
use Rattle.layout.specs.declared.Table.{Table}
use Rattle.layout.specs.Layout.{program_of, Laid}
use Rattle.layout.proofs.Inside.{atoms_in_lem}

pub laid_inside : (t : List ℤ) (tb : Table) → Laid t tb → AtomsIn tb.atoms (program_of t tb)
laid_inside t tb h = atoms_in_lem t tb h

-- as the theorem "founded ⇔ answer set" asks it
pub below : (n : ℕ) (P : Program) → AtomsIn n P → Below (suc n) P
below n P A r m p h = let i = (A r m).heads p h in omega (arith, i.1)

pub laid_below : (t : List ℤ) (tb : Table) → Laid t tb → Below (suc tb.atoms) (program_of t tb)
laid_below t tb h = below tb.atoms (program_of t tb) (laid_inside t tb h)
