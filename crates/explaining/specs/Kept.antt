-- The round and the rule in the record kept for an atom (02, request 1: "The record kept for an atom gains both fields"). Definitions only; they need not be
-- believed: what a caller gets are the records of crate `rounds`.
--   why_in r          the round and the rule that a record holds
--   kept_in rs        those of all atoms, atom p's at index p - 1
--   Kept old new w   w stands in the records of the new interpretation; values, levels and choice atoms are those of the old one
-- Assumes nothing.
use Rattle.std.specs.Prelude.{ℕ, zero, suc, ◌≡◌, List, get_or}
use Rattle.interpretation.specs.View.{blank, view}
use Rattle.interpretation.specs.declared.Record.{Record}
use Rattle.interpretation.specs.declared.Interpretation.{Interpretation}
use Rattle.rounds.specs.declared.Why.{Why}
use Rattle.rounds.specs.Rounds.{no_why}

abbrev pub why_in : Record → Why
why_in r = record { round = r.round; rule = r.rule }

unfoldable pub kept_in : List Record → ℕ → Why
kept_in rs zero = no_why
kept_in rs (suc i) = why_in (get_or rs i blank)

pub record Kept (old new : Interpretation) (w : ℕ → Why) : Type 0 where
  pub same : view new ≡ view old
  pub whys : kept_in new.records ≡ w
