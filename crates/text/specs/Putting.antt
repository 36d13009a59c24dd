-- What the printer's inner functions do, for their contracts: a text stored from index `at` on, as far as there is room, and the index after it.
-- `proofs/Putting.antt` puts texts one after the other, and `proofs/Lines.antt` ties them to `Line`'s. Assumes nothing.
use Rattle.std.specs.Prelude.{◌≡◌, List, ℕ, ◌+◌, min, length}
use Rattle.std.proofs.lemmas.List.Edits.{sets}

pub record Put (old : List ℕ) (at : ℕ) (text : List ℕ) (to : ℕ) (new : List ℕ) : Type 0 where
  pub ends : to ≡ min (at + length text) (length old)
  pub has : new ≡ sets old at text
