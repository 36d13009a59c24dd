-- `foundation::sole` meets its contract: what is asked of the first true atom. Assumes nothing.
use mathlib.Core.Path.{◌≡◌, sym, ap, ◌∙◌}
use mathlib.Core.Bool.{Bool}
use Prim.Native.Nat.{ℕ}
use Rattle.meaning.specs.Lists.{all}
use Rattle.interpretation.specs.View.{valued}
use Rattle.layout.specs.Layout.{atoms}
use Rattle.foundation.specs.Walk.{fits, add_if, sole_of}
use Rattle.foundation.proofs.Reading.{sole_at, first_within, sole_nothing, then_if}
use Rattle.foundation.proofs.sole.Goals as goal

pub returns-in_err-k : goal.returns-in_err-k
returns-in_err-k c = c.from_residual.ensures ∙ sym (sole_nothing (valued c.args.values.now) c.args.l.now (sym c.false_atom.ensures ∙ c.in_err-k.was))

pub atom-p-requires : goal.atom-p-requires
atom-p-requires c = first_within (valued c.args.values.now) c.args.l.now _ (sym c.false_atom.ensures ∙ c.in_ok-k.was)

pub returns : goal.returns
returns c =
    let a = valued c.args.values.now in
    let l = c.args.l.now in
    let tested : sole_of a (atoms l) ≡ add_if c.none_but.result c.atom-p.result =
    sole_at a l c.in_ok-k.k (sym c.false_atom.ensures ∙ c.in_ok-k.was)
    ∙ ap (λ (p : ℕ). add_if (all (fits a p) (atoms l)) p) (sym c.atom-p.ensures)
    ∙ ap (λ (b : Bool). add_if b c.atom-p.result) (sym c.none_but.ensures) in
    c.then_some.ensures ∙ then_if c.none_but.result c.atom-p.result ∙ sym tested
