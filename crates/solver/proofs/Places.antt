-- The place of a refusal of the check is small, as that of `solve` is (`place_small` of crate `judging`): it fits any number that a caller may want it in.
-- Assumes nothing.
use mathlib.Core.Bool.{Bool}
use mathlib.Core.List.{List}
use Prim.Native.Nat.{ℕ, ◌≤◌}
use native.Mathlib.Omega.{arith}
use lib.IntN.{ℤ}
use lib.ListN.{length}
use Rattle.judging.specs.declared.Buffer.TheVariants.{Plan}
use Rattle.judging.proofs.Places.{ranges, place_small}
use Rattle.solver.specs.Approving.{CheckRefusedBy, before, byte}

pub check_place_small : {cycles : Bool} (t : List ℤ) (p : List ℕ) (n i : ℕ) → CheckRefusedBy cycles t p n i → i ≤ 16384
check_place_small t p n i (before r) = place_small t (Plan (length p)) n i r
check_place_small t p n i (byte c a b e) = let m = (ranges t c a.holds).few_atoms in let u = b.inside in omega (arith, m, u)
