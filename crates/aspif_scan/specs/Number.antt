-- The number of a field, as the code holds it. Definitions only, for the contracts of inner functions; `proofs/` ties them to `Lines`.
--   nought     what a field counts as that is no number
--   sized      the sign and the size of a number, held at 2 to the 64 less 1;  number_in: those of a field, where it is a number
-- Assumes nothing.
use Rattle.std.specs.Prelude.{true, false, suc, min, ℤ, pos, negsuc, Option, Some, None}
use Rattle.std.proofs.Math.Option as T
use Rattle.aspif_scan.specs.declared.number.Number.{Number}

abbrev pub nought : Number
nought = record { minus = false; size = 0 }

abbrev pub sized : ℤ → Number
sized (pos n) = record { minus = false; size = min n 18446744073709551615 }
sized (negsuc n) = record { minus = true; size = min (suc n) 18446744073709551615 }

abbrev pub number_in : T.Option ℤ → Option Number
number_in T.none = None
number_in (T.some z) = Some (sized z)
