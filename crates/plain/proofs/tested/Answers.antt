-- `plain::tested` meets its contract: the final test of the mode, and only an answer writes. Assumes nothing.
use native.Mathlib.Omega.{arith}
use mathlib.Core.Path.{◌≡◌, sym, ap, ◌∙◌}
use Prim.Native.Nat.{◌-◌}
use Rattle.search.specs.Search.{passed, failed}
use Rattle.layout.specs.Layout.{program_of}
use Rattle.layout.proofs.Inside.{atoms_in_lem}
use Rattle.meaning.specs.Program.{Program}
use Rattle.heads.proofs.Taking.{whole_rules}
use Rattle.interpretation.specs.State.{true_atoms}
use Rattle.interpretation.specs.View.{valued}
use Rattle.smaller.specs.Cyclic.{test_by}
use Rattle.second_search.specs.Looking.{tested_of}
use Rattle.plain.proofs.Sides.{spends, passes_test, fails_test, limit_test}
use Rattle.plain.proofs.tested.Goals as goal

pub overflow_add-side : goal.overflow_add-side
overflow_add-side c =
    let over-all : let a = c.args in
    test_by a.ask.cycles (program_of a.t.now.words.now a.t.now.places) a.t.now.places.atoms (a.ask.limit - a.side.choices) (true_atoms a.t.now.places.atoms (valued a.side.values)) ≡ tested_of c.test-found.result =
    let a = c.args in
    ap (λ (P : Program). test_by a.ask.cycles P a.t.now.places.atoms (a.ask.limit - a.side.choices) (true_atoms a.t.now.places.atoms (valued a.side.values))) (sym (whole_rules a.t.now.words.now a.t.now.places _ c.requires.whole)) ∙ sym c.test-found.ensures in
    let passes : let a = c.args in
    test_by a.ask.cycles (program_of a.t.now.words.now a.t.now.places) a.t.now.places.atoms (a.ask.limit - a.side.choices) (true_atoms a.t.now.places.atoms (valued a.side.values)) ≡ passed c.in-Passed.spent = over-all ∙ ap tested_of c.in-Passed.is in
    let a = c.args in
    let s = spends a.ask.cycles a.t.now.words.now a.t.now.places (atoms_in_lem a.t.now.words.now a.t.now.places c.requires.laid) a.ask.limit a.side.values a.side.choices c.requires.few (passed c.in-Passed.spent) passes in
    omega (arith, s)

pub overflow_add-side-in-Failed : goal.overflow_add-side-in-Failed
overflow_add-side-in-Failed c =
    let over-all : let a = c.args in
    test_by a.ask.cycles (program_of a.t.now.words.now a.t.now.places) a.t.now.places.atoms (a.ask.limit - a.side.choices) (true_atoms a.t.now.places.atoms (valued a.side.values)) ≡ tested_of c.test-found.result =
    let a = c.args in
    ap (λ (P : Program). test_by a.ask.cycles P a.t.now.places.atoms (a.ask.limit - a.side.choices) (true_atoms a.t.now.places.atoms (valued a.side.values))) (sym (whole_rules a.t.now.words.now a.t.now.places _ c.requires.whole)) ∙ sym c.test-found.ensures in
    let fails : let a = c.args in
    test_by a.ask.cycles (program_of a.t.now.words.now a.t.now.places) a.t.now.places.atoms (a.ask.limit - a.side.choices) (true_atoms a.t.now.places.atoms (valued a.side.values)) ≡ failed c.in-Failed.spent = over-all ∙ ap tested_of c.in-Failed.is in
    let a = c.args in
    let s = spends a.ask.cycles a.t.now.words.now a.t.now.places (atoms_in_lem a.t.now.words.now a.t.now.places c.requires.laid) a.ask.limit a.side.values a.side.choices c.requires.few (failed c.in-Failed.spent) fails in
    omega (arith, s)

pub returns-in-Passed : goal.returns-in-Passed
returns-in-Passed c =
    let over-all : let a = c.args in
    test_by a.ask.cycles (program_of a.t.now.words.now a.t.now.places) a.t.now.places.atoms (a.ask.limit - a.side.choices) (true_atoms a.t.now.places.atoms (valued a.side.values)) ≡ tested_of c.test-found.result =
    let a = c.args in
    ap (λ (P : Program). test_by a.ask.cycles P a.t.now.places.atoms (a.ask.limit - a.side.choices) (true_atoms a.t.now.places.atoms (valued a.side.values))) (sym (whole_rules a.t.now.words.now a.t.now.places _ c.requires.whole)) ∙ sym c.test-found.ensures in
    let passes : let a = c.args in
    test_by a.ask.cycles (program_of a.t.now.words.now a.t.now.places) a.t.now.places.atoms (a.ask.limit - a.side.choices) (true_atoms a.t.now.places.atoms (valued a.side.values)) ≡ passed c.in-Passed.spent = over-all ∙ ap tested_of c.in-Passed.is in
    let a = c.args in
    passes_test a.ask.cycles a.t.now.words.now a.t.now.places (atoms_in_lem a.t.now.words.now a.t.now.places c.requires.laid) a.ask.limit a.side.values a.side.choices c.requires.few a.plan.now
    c.counted.result c.in-Passed.spent passes c.counted.ensures _ c.write.ensures

pub returns-in-Failed : goal.returns-in-Failed
returns-in-Failed c =
    let over-all : let a = c.args in
    test_by a.ask.cycles (program_of a.t.now.words.now a.t.now.places) a.t.now.places.atoms (a.ask.limit - a.side.choices) (true_atoms a.t.now.places.atoms (valued a.side.values)) ≡ tested_of c.test-found.result =
    let a = c.args in
    ap (λ (P : Program). test_by a.ask.cycles P a.t.now.places.atoms (a.ask.limit - a.side.choices) (true_atoms a.t.now.places.atoms (valued a.side.values))) (sym (whole_rules a.t.now.words.now a.t.now.places _ c.requires.whole)) ∙ sym c.test-found.ensures in
    let fails : let a = c.args in
    test_by a.ask.cycles (program_of a.t.now.words.now a.t.now.places) a.t.now.places.atoms (a.ask.limit - a.side.choices) (true_atoms a.t.now.places.atoms (valued a.side.values)) ≡ failed c.in-Failed.spent = over-all ∙ ap tested_of c.in-Failed.is in
    let a = c.args in
    fails_test a.ask.cycles a.t.now.words.now a.t.now.places (atoms_in_lem a.t.now.words.now a.t.now.places c.requires.laid) a.ask.limit a.side.values a.side.choices c.requires.few a.plan.now
    c.counted-in-Failed.result c.in-Failed.spent fails c.counted-in-Failed.ensures

pub returns-in-Exhausted : goal.returns-in-Exhausted
returns-in-Exhausted c =
    let over-all : let a = c.args in
    test_by a.ask.cycles (program_of a.t.now.words.now a.t.now.places) a.t.now.places.atoms (a.ask.limit - a.side.choices) (true_atoms a.t.now.places.atoms (valued a.side.values)) ≡ tested_of c.test-found.result =
    let a = c.args in
    ap (λ (P : Program). test_by a.ask.cycles P a.t.now.places.atoms (a.ask.limit - a.side.choices) (true_atoms a.t.now.places.atoms (valued a.side.values))) (sym (whole_rules a.t.now.words.now a.t.now.places _ c.requires.whole)) ∙ sym c.test-found.ensures in
    let a = c.args in
    limit_test a.ask.cycles a.t.now.words.now a.t.now.places (atoms_in_lem a.t.now.words.now a.t.now.places c.requires.laid) a.ask.limit a.side.values a.side.choices c.requires.few a.plan.now
    c.counted-in-Exhausted.result (over-all ∙ ap tested_of c.in-Exhausted.is) c.counted-in-Exhausted.ensures
