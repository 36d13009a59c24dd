-- What the functions of this crate do, for their contracts. Definitions only.
--   Put          a text laid from index `at` on, as far as there is room, and the index after it, which goes on past the buffer's end
--   field_text    a space and a number;  signed_text: with a minus where it is not plain
-- `proofs/Laws.antt` puts texts one after the other. Assumes nothing.
use Rattle.std.specs.Prelude.{◌≡◌, Bool, true, false, List, ◌∷◌, ℕ, ◌+◌, ◌≤◌, min, length}
use Rattle.std.proofs.lemmas.List.Edits.{sets}
use Rattle.text.specs.Line.{decimal}

-- no buffer is as long as the highest index, so that the index stands for the length of a text wherever the text could fit
pub record Put (old : List ℕ) (at : ℕ) (text : List ℕ) (to : ℕ) (new : List ℕ) : Type 0 where
  pub fits : length old ≤ 18446744073709551615
  pub ends : to ≡ min (at + length text) 18446744073709551615
  pub has : new ≡ sets old at text

abbrev pub field_text : ℕ → List ℕ
field_text n = 32 ∷ decimal n

abbrev pub signed_text : Bool → ℕ → List ℕ
signed_text true n = field_text n
signed_text false n = 32 ∷ 45 ∷ decimal n
