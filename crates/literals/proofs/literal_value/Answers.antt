-- `literals::literal_value` meets its contract. Assumes nothing.
use mathlib.Core.Path.{ap, ◌∙◌}
use mathlib.Core.Bool.{Bool}
use Rattle.std.proofs.Common.{rules, int_le, to_z, of_z, w32, ◌≡◌}
use Prim.Native.Nat.{ℕ}
use lib.IntN.{pos}
use lib.ListN.{get_or}
use lib.Signed.{non_neg}
use Rattle.interpretation.specs.View.{valued}
use Rattle.layout.specs.Layout.{aggregate_at}
use Rattle.valuing.specs.Values.{signed, aggregate_value, literal_value}
use Rattle.literals.proofs.Pairs.{place}
use Rattle.literals.proofs.literal_value.Goals as goal

pub returns : goal.returns
unfolding literal_value
returns c =
    let a = c.args in
    let p = c.requires in
    let X = valued a.values.now in
    let sign : int_le (pos 0) (to_z w32 (of_z w32 (get_or a.l.now a.k (pos 0)))) ≡ non_neg (get_or a.l.now a.k (pos 0)) = search rules in
    c.signed.ensures ∙ ap (λ (b : Bool). signed b c.aggregate_value-v.result) sign
    ∙ ap (signed (non_neg (get_or a.l.now a.k (pos 0)))) (c.aggregate_value-v.ensures
    ∙ ap (λ (i : ℕ). aggregate_value X (aggregate_at a.t.now.words.now i)) (c.start-at.ensures ∙ place a.t.now.words.now a.t.now.places c.args.t.now.laid a.l.now p.0 a.k p.1))
