-- `turns::test` meets its contract: the second search in the mode, else foundedness. Assumes nothing.
use mathlib.Core.Path.{◌≡◌, sym, ap, ◌∙◌}
use mathlib.Core.List.{List, map}
use Prim.Native.Nat.{ℕ}
use mathlib.Core.Bool.{Bool}
use Rattle.interpretation.specs.State.{true_atoms}
use Rattle.interpretation.specs.View.{valued}
use Rattle.meaning.specs.Foundedness.{founded}
use Rattle.layout.specs.Layout.{rule_at, program_of}
use Rattle.heads.specs.Heads.{list_at, taking}
use Rattle.heads.proofs.Taking.{part_founded}
use Rattle.search.specs.Search.{Tested}
use Rattle.search.specs.Base.{verdict_of}
use Rattle.smaller.specs.Smaller.{smaller_test}
use Rattle.smaller.specs.Cyclic.{test_by}
use Rattle.turns.proofs.test.Goals as goal

pub returns-then-cycles : goal.returns-then-cycles
returns-then-cycles c =
    let by : Bool → Tested = λ cycles. let a = c.args in test_by cycles (taking a.t.now.words.now a.lists.now) a.t.now.places.atoms a.left (true_atoms a.t.now.places.atoms (valued a.values.now)) in
    let a = c.args in
    c.look.ensures
    ∙ ap (λ (m : List ℕ). smaller_test (map (rule_at a.t.now.words.now) m) a.t.now.places.atoms a.left (true_atoms a.t.now.places.atoms (valued a.values.now))) c.list-places.ensures
    ∙ ap by (sym c.if-cycles.true)

pub returns-then-founded_by : goal.returns-then-founded_by
returns-then-founded_by c =
    let founds : let a = c.args in let X = true_atoms a.t.now.places.atoms (valued a.values.now) in
    founded (program_of a.t.now.words.now a.t.now.places) a.t.now.places.atoms X ≡ founded (taking a.t.now.words.now a.lists.now) a.t.now.places.atoms X = let a = c.args in sym (part_founded a.t.now.words.now a.t.now.places (list_at a.lists.now 0) c.requires.0.part (true_atoms a.t.now.places.atoms (valued a.values.now)) a.t.now.places.atoms) in
    let by : Bool → Tested = λ cycles. let a = c.args in test_by cycles (taking a.t.now.words.now a.lists.now) a.t.now.places.atoms a.left (true_atoms a.t.now.places.atoms (valued a.values.now)) in
    ap verdict_of (sym c.if-founded_by.true ∙ c.founded_by.ensures ∙ founds) ∙ ap by (sym c.if-cycles.false)

pub returns : goal.returns
returns c =
    let founds : let a = c.args in let X = true_atoms a.t.now.places.atoms (valued a.values.now) in
    founded (program_of a.t.now.words.now a.t.now.places) a.t.now.places.atoms X ≡ founded (taking a.t.now.words.now a.lists.now) a.t.now.places.atoms X = let a = c.args in sym (part_founded a.t.now.words.now a.t.now.places (list_at a.lists.now 0) c.requires.0.part (true_atoms a.t.now.places.atoms (valued a.values.now)) a.t.now.places.atoms) in
    let by : Bool → Tested = λ cycles. let a = c.args in test_by cycles (taking a.t.now.words.now a.lists.now) a.t.now.places.atoms a.left (true_atoms a.t.now.places.atoms (valued a.values.now)) in
    ap verdict_of (sym c.if-founded_by.false ∙ c.founded_by.ensures ∙ founds) ∙ ap by (sym c.if-cycles.false)
