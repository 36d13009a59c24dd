-- -1 less a number of 31 bits fits 32 bits, as a negative number of the input does. Assumes nothing.
use Rattle.std.proofs.Common.{◌≡◌, ℕ, zero, suc, pos, negsuc, ◌-ℤ◌, arith, w32, SFits, to_z, of_z}
use mir.ValLaws.{to_z-of_z}

pub back : (n : ℕ) → SFits w32 (pos n) → to_z w32 (of_z w32 (pos n)) ≡ pos n
back n h = to_z-of_z w32 (pos n) h

pub less_fits : (n : ℕ) → SFits w32 (pos n) → SFits w32 (negsuc 0 -ℤ pos n)
less_fits zero h = record { sfits = omega arith }
less_fits (suc n) h = record { sfits = omega (arith, h.sfits) }
