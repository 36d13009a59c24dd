-- What an accepted table holds: `Layout.antt` read at its words and its places. Definitions only.
--   program_in a   its program;  rule_in a i: the rule that begins at i
--   RuleIn a i     a rule lies at i
-- Assumes nothing.
use Rattle.std.specs.Prelude.{ℕ}
use Rattle.meaning.specs.Program.{Rule, Program}
use Rattle.layout.specs.declared.Accepted.{Accepted}
use Rattle.layout.specs.Layout.{rule_at, program_of, RuleLies}

abbrev pub program_in : Accepted → Program
program_in a = program_of a.words.now a.places

abbrev pub rule_in : Accepted → ℕ → Rule
rule_in a i = rule_at a.words.now i

abbrev pub RuleIn : Accepted → ℕ → Type 0
RuleIn a i = RuleLies a.places.atoms a.places.aggregates a.words.now i
