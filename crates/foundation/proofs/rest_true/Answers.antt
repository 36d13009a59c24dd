-- `foundation::rest_true` meets its contract. Assumes nothing.
use mathlib.Core.Path.{◌≡◌, sym, ap, ◌∙◌}
use mathlib.Core.Bool.{false}
use Prim.Native.Nat.{ℕ}
use Rattle.interpretation.specs.View.{valued}
use Rattle.layout.specs.Layout.{part_at, past_at, pos_at, neg_at}
use Rattle.literals.specs.Scan.{atom_lits, literal_lits}
use Rattle.rules.specs.Demand.{together, asks, is_conflict}
use Rattle.std.proofs.Common.{rules}
use Rattle.rules.proofs.Asks.{conflict_by}
use Rattle.foundation.proofs.Reading.{rest_at}
use Rattle.foundation.proofs.rest_true.Goals as goal

-- ---- the answer
pub returns : goal.returns
returns c =
    let second : c.past-i.result ≡ pos_at (c.args.t.now.words.now) c.args.at = c.past-i.ensures in
    let third : c.past-j.result ≡ neg_at (c.args.t.now.words.now) c.args.at = c.past-j.ensures ∙ ap (past_at (c.args.t.now.words.now)) (second) in
    let t = (c.args.t.now.words.now) in
    conflict_by c.eq.result c.with_rest.result (λ e. search rules) (λ e f. search rules)
    ∙ ap is_conflict (c.with_rest.ensures ∙ ap (λ (i : ℕ). together (asks (valued c.args.values.now) (atom_lits false (part_at t i))) (asks (valued c.args.values.now) (literal_lits t (part_at t (past_at t i))))) (third))
    ∙ sym (rest_at (valued c.args.values.now) t c.args.at)
