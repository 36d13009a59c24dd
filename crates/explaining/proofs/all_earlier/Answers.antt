-- `explaining::all_earlier` meets its contract: each word's atom lies in its range, and what the chain finds of the words is what holds of their atoms.
-- Assumes nothing.
use mathlib.Core.Path.{◌≡◌, ◌∙◌}
use lib.IntN.{ℤ}
use Rattle.std.proofs.Common.{rules, ◌≤◌, nat_abs}
use Rattle.std.proofs.lemmas.Iterator.{YieldsList-from_slice}
use Rattle.std.proofs.lemmas.Iterator.Adapters.{serves_from_places}
use Rattle.std.proofs.lemmas.Iterator.Search.{all_from_yields_List}
use Rattle.std.specs.List.{list_all}
use Rattle.rounds.specs.Rounds.{whys_in}
use Rattle.rounds.specs.Marks.{earlier}
use Rattle.foundation.proofs.Words.{all_words, in_range}
use Rattle.explaining.proofs.all_earlier.Goals as goal

pub all-requires-clause-callable : goal.all-requires-clause-callable
all-requires-clause-callable c =
    serves_from_places (YieldsList-from_slice c.args.l.now (cc)) (λ x q k. search rules) (λ x k h e. let r : (1 ≤ nat_abs x.now) × (nat_abs x.now ≤ 256) = in_range c.args.l.now c.requires k x.now h e in search rules)

pub returns : goal.returns
returns c =
    let found : c.all.result ≡ list_all (λ (w : ℤ). (earlier (whys_in c.args.marks.now) c.args.round) (nat_abs w)) c.args.l.now =
    all_from_yields_List (λ (w : ℤ). (earlier (whys_in c.args.marks.now) c.args.round) (nat_abs w)) _ _ _ c.all.ensures.ran (YieldsList-from_slice c.args.l.now (cc)) (λ x b q k. search rules) in
    found ∙ all_words (earlier (whys_in c.args.marks.now) c.args.round) c.args.l.now
