-- The memory of a session (02, request 10: "A session keeps the accepted table and at most 64 pins"), as 16,451 words. Definitions only: to be believed.
--   number_at            a number kept at an index
--   count_in, table_in    how many words the table has (at index 16,384), and the words, from index 0 on
--   atoms_in             the table's N
--   held_in, pins_in      how many pins are held (at index 16,385), and the pins, whose words stand from index 16,386 on, in order; here the last first
--   taken_of n pins      the pins with which a plan is made: those that a new session on a table over the atoms 1 to n holds after being given `pins` in order
--   cycles_in            whether the session takes head cycles (request 14; at index 16,450): any word but 0 says so
--   opened_with, with_pin, without_pin   the memory after an opening, a pin, a removal
-- A pin's word is its atom's number, and 256 more where it is pinned false. Every content is read so, one that no `open` made too: a number that is too
-- large counts as 0, a negative one is taken without its sign, and `taken_of` passes over what `pin` would refuse. Of a session that `open` made, it passes over nothing (`pins_kept` of `proofs/History.antt`).
-- Assumes nothing.
use Rattle.std.specs.Prelude.{Bool, true, false, not, List, [], ◌∷◌, ◌++◌, ℕ, zero, suc, ◌+◌, ◌-◌, ltb, eqb, ℤ, pos, nat_abs, length, get_or, take, drop, set}
use Rattle.meaning.specs.Cond.{if_lt}
use Rattle.sessions.specs.Sessions.{Pins, held, settings}

unfoldable pub number_at : List ℤ → ℕ → ℕ → ℕ
number_at s i most = if_lt most (nat_abs (get_or s i (pos 0))) 0 (nat_abs (get_or s i (pos 0)))

abbrev pub count_in : List ℤ → ℕ
count_in s = number_at s 16384 16384

abbrev pub table_in : List ℤ → List ℤ
table_in s = take (count_in s) s

abbrev pub atoms_in : List ℤ → ℕ
atoms_in s = number_at s 0 256

-- ---- the pins

abbrev pub atom_as : ℕ → ℕ
atom_as m = if_lt 256 m (m - 256) m

abbrev pub value_as : ℕ → Bool
value_as m = not (ltb 256 m)

abbrev pub pin_word : ℕ → Bool → ℕ
pin_word p true = p
pin_word p false = p + 256

abbrev pub word_at : List ℤ → ℕ → ℕ
word_at s i = nat_abs (get_or s (16386 + i) (pos 0))

-- the first k
unfoldable pub pins_to : List ℤ → ℕ → Pins
pins_to s zero = []
pins_to s (suc k) = record { atom = atom_as (word_at s k); value = value_as (word_at s k) } ∷ pins_to s k

abbrev pub held_in : List ℤ → ℕ
held_in s = number_at s 16385 64

abbrev pub pins_in : List ℤ → Pins
pins_in s = pins_to s (held_in s)

abbrev pub taken_of : ℕ → Pins → Pins
taken_of n pins = held n (settings pins)

-- ---- the mode

abbrev pub mode_word : Bool → ℕ
mode_word false = 0
mode_word true = 1

abbrev pub cycles_in : List ℤ → Bool
cycles_in s = not (eqb (nat_abs (get_or s 16450 (pos 0))) 0)

-- ---- what the calls make of it

abbrev pub opened_with : Bool → List ℤ → List ℤ → List ℤ
opened_with cycles t s = set (set (set (t ++ drop (length t) s) 16384 (pos (length t))) 16385 (pos 0)) 16450 (pos (mode_word cycles))

abbrev pub with_pin : ℕ → Bool → List ℤ → List ℤ
with_pin p v s = set (set s (16386 + held_in s) (pos (pin_word p v))) 16385 (pos (held_in s + 1))

abbrev pub without_pin : List ℤ → List ℤ
without_pin s = set s 16385 (pos (held_in s - 1))
