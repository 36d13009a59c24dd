-- The function that the code found in a word, as `notation` has it. Assumes nothing.
use Rattle.std.specs.Prelude as Prelude
use Rattle.std.specs.Prelude.{Some, None}
use Rattle.std.proofs.Math.Option.{Option, none, some}
use Rattle.meaning.specs.declared.Function.{Function}

abbrev pub named_of : Prelude.Option Function → Option Function
named_of (Some f) = some f
named_of None = none
