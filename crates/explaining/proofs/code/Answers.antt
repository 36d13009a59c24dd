-- `explaining::code` meets its contract. Assumes nothing.
use mathlib.Core.Path.{◌≡◌, sym, ap, ◌∙◌}
use Prim.Native.Nat.{ℕ, ◌+◌, ◌-◌, ◌*◌, ◌≤◌}
use native.Mathlib.Omega.{arith}
use Rattle.meaning.specs.Program.{In}
use Rattle.interpretation.specs.View.{valued}
use Rattle.layout.specs.Layout.{pos_at, rule_at}
use Rattle.std.specs.Prelude.{Option, Some}
use Rattle.foundation.specs.Walk.{could_of}
use Rattle.foundation.proofs.Rules.{could_range}
use Rattle.foundation.proofs.Candidates.{code_is}
use Rattle.explaining.specs.Walk.{code_by}
use Rattle.explaining.proofs.code.Goals as goal

pub overflow_sub-result : goal.overflow_sub-result
overflow_sub-result c =
    let could : could_of (valued c.args.values.now) (rule_at c.args.t.now.words.now c.args.at) ≡ Some c.in-Some.p = sym c.could_add.ensures ∙ c.in-Some.is in
    let range : In 256 c.in-Some.p =
    could_range c.args.t.now.words.now c.args.t.now.places c.args.t.now.laid c.args.at c.requires (valued c.args.values.now) c.in-Some.p (could) in
    (range).0

pub overflow_add-result : goal.overflow_add-result
overflow_add-result c =
    let place : c.past-place.result ≤ 16384 =
    omega (arith, c.past-place.ensures, c.requires.poss.fits, c.args.t.now.laid.short) in
    let could : could_of (valued c.args.values.now) (rule_at c.args.t.now.words.now c.args.at) ≡ Some c.in-Some.p = sym c.could_add.ensures ∙ c.in-Some.is in
    let range : In 256 c.in-Some.p =
    could_range c.args.t.now.words.now c.args.t.now.places c.args.t.now.laid c.args.at c.requires (valued c.args.values.now) c.in-Some.p (could) in
    omega (arith, place, (range).1)

pub overflow_cast-result : goal.overflow_cast-result
overflow_cast-result c =
    let place : c.past-place.result ≤ 16384 =
    omega (arith, c.past-place.ensures, c.requires.poss.fits, c.args.t.now.laid.short) in
    let could : could_of (valued c.args.values.now) (rule_at c.args.t.now.words.now c.args.at) ≡ Some c.in-Some.p = sym c.could_add.ensures ∙ c.in-Some.is in
    let range : In 256 c.in-Some.p =
    could_range c.args.t.now.words.now c.args.t.now.places c.args.t.now.laid c.args.at c.requires (valued c.args.values.now) c.in-Some.p (could) in
    omega (arith, place, (range).1)

pub returns : goal.returns
returns c =
    let could : could_of (valued c.args.values.now) (rule_at c.args.t.now.words.now c.args.at) ≡ Some c.in-Some.p = sym c.could_add.ensures ∙ c.in-Some.is in
    let p = c.in-Some.p in
    let j = pos_at c.args.t.now.words.now c.args.at in
    sym (ap (λ (x : Option ℕ). code_by x j) (could) ∙ code_is j p ∙ ap (λ (k : ℕ). k * 256 + (p - 1)) (sym c.past-place.ensures))
