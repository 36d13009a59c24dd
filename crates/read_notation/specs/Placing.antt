-- Where one stands after a byte: `notation`'s `stepped`, by its parts, for the contracts of the code that counts them. Assumes nothing.
use Rattle.std.specs.Prelude.{cond, ℕ, ◌+◌, eqb}

abbrev pub line_after : ℕ → ℕ → ℕ
line_after line b = cond (eqb b 10) (line + 1) line

abbrev pub column_after : ℕ → ℕ → ℕ
column_after column b = cond (eqb b 10) 1 (column + 1)
