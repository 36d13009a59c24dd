-- `rules::reason` meets its contract: the union over the aggregate literals, then over the negated, the positive and the head atoms too.
-- Assumes nothing.
use mathlib.Core.Path.{◌≡◌, sym, ap, ap₂, ◌∙◌}
use mathlib.Core.List.{List}
use lib.IntN.{ℤ}
use Rattle.levels.specs.Levels.{Levels, union}
use Rattle.levels.specs.View.{rows}
use Rattle.interpretation.specs.View.{valued}
use Rattle.valuing.specs.Reasons.{reasons_of}
use Rattle.layout.specs.Layout.{atoms, part_at, past_at, pos_at, neg_at, aggs_at}
use Rattle.literals.specs.Scan.{literal_lits, atoms_reason}
use Rattle.rules.proofs.Scanned.{reasons_at_lem}
use Rattle.rules.proofs.reason.Goals as goal

-- ---- the answer
pub returns : goal.returns
returns c =
    let second : c.past-i.result ≡ pos_at (c.args.t.now.words.now) c.args.at = c.past-i.ensures in
    let third : c.past-j.result ≡ neg_at (c.args.t.now.words.now) c.args.at = c.past-j.ensures ∙ ap (past_at (c.args.t.now.words.now)) (second) in
    let fourth : c.past-k.result ≡ aggs_at (c.args.t.now.words.now) c.args.at = c.past-k.ensures ∙ ap (past_at (c.args.t.now.words.now)) (third) in
    let literals : c.part-aggregates.result.now ≡ part_at (c.args.t.now.words.now) (aggs_at (c.args.t.now.words.now) c.args.at) = c.part-aggregates.ensures ∙ ap (part_at (c.args.t.now.words.now)) (fourth) in
    let negated : c.part-negated.result.now ≡ part_at (c.args.t.now.words.now) (neg_at (c.args.t.now.words.now) c.args.at) = c.part-negated.ensures ∙ ap (part_at (c.args.t.now.words.now)) (third) in
    let positive : c.part-positive.result.now ≡ part_at (c.args.t.now.words.now) (pos_at (c.args.t.now.words.now) c.args.at) = c.part-positive.ensures ∙ ap (part_at (c.args.t.now.words.now)) (second) in
    let head : c.part-head.result.now ≡ part_at (c.args.t.now.words.now) c.args.at = c.part-head.ensures in
    let atoms_of : List ℤ → Levels → Levels = λ l R. union (atoms_reason (valued c.args.values.now) (rows c.args.reasons.now) (atoms l)) R in
    let a = c.literals_reason-a.ensures
    ∙ ap₂ (λ (l : List ℤ) (R : Levels). union (reasons_of (valued c.args.values.now) (rows c.args.reasons.now) (literal_lits (c.args.t.now.words.now) l)) R) (literals) c.empty.ensures in
    let b = c.atoms_reason-b.ensures ∙ ap₂ atoms_of (negated) a in
    let d = c.atoms_reason-c.ensures ∙ ap₂ atoms_of (positive) b in
    c.atoms_reason.ensures ∙ ap₂ atoms_of (head) d ∙ sym (reasons_at_lem (valued c.args.values.now) (rows c.args.reasons.now) (c.args.t.now.words.now) c.args.at)
