-- `support::asked` meets its contract. Assumes nothing.
use mathlib.Core.Path.{◌≡◌, sym, ap, ◌∙◌, subst}
use mathlib.Core.Bool.{Bool, true, false}
use Rattle.interpretation.specs.View.{valued}
use Rattle.interpretation.specs.declared.Value.TheVariants.{True, False, Undefined}
use Rattle.heads.specs.Heads.{places_of, with_head}
use Rattle.support.specs.Asking.{supports_of, Candidates, some_rule, forced_of, open_by, true_by, ask_of}
use Rattle.support.proofs.Rounds.{candidates}
use Rattle.support.proofs.Atom.{ask_by_lem}
use Rattle.support.proofs.asked.Goals as goal

pub supported-requires : goal.supported-requires
supported-requires c =
    let listed : let a = c.args in c.list-l.result.now ≡ with_head a.t.now.words.now a.p (places_of a.t.now.words.now a.t.now.places) = c.list-l.ensures ∙ (c.requires.0.each c.args.p c.requires.1 c.requires.2).same in
    let a = c.args in
    subst (Candidates a.t.now.words.now a.t.now.places a.p) (sym (listed)) (candidates a.t.now.words.now a.t.now.places c.args.t.now.laid a.p)

pub asked_true-requires : goal.asked_true-requires
asked_true-requires c =
    let listed-2 : let a = c.args in c.list-l-in-True.result.now ≡ with_head a.t.now.words.now a.p (places_of a.t.now.words.now a.t.now.places) = c.list-l-in-True.ensures ∙ (c.requires.0.each c.args.p c.requires.1 c.requires.2).same in
    let a = c.args in
    subst (Candidates a.t.now.words.now a.t.now.places a.p) (sym (listed-2)) (candidates a.t.now.words.now a.t.now.places c.args.t.now.laid a.p)

pub returns-then-supported : goal.returns-then-supported
returns-then-supported c =
    let listed : let a = c.args in c.list-l.result.now ≡ with_head a.t.now.words.now a.p (places_of a.t.now.words.now a.t.now.places) = c.list-l.ensures ∙ (c.requires.0.each c.args.p c.requires.1 c.requires.2).same in
    let open_is : (b : Bool) → c.supported.result ≡ b → let a = c.args in ask_of a.t.now.words.now a.t.now.places (valued a.values.now) a.p ≡ open_by b = λ b e.
    let a = c.args in
    ask_by_lem a.t.now.words.now a.t.now.places (valued a.values.now) a.p Undefined (sym c.value_of.ensures ∙ c.in-Undefined.is)
    ∙ ap open_by (ap (some_rule (supports_of (valued a.values.now) a.p) a.t.now.words.now) (sym (listed)) ∙ sym c.supported.ensures ∙ e) in
    sym (open_is true c.if-supported.true)

pub returns-in-False : goal.returns-in-False
returns-in-False c =
    let a = c.args in
    sym (ask_by_lem a.t.now.words.now a.t.now.places (valued a.values.now) a.p False (sym c.value_of.ensures ∙ c.in-False.is))

pub returns-else-supported : goal.returns-else-supported
returns-else-supported c =
    let listed : let a = c.args in c.list-l.result.now ≡ with_head a.t.now.words.now a.p (places_of a.t.now.words.now a.t.now.places) = c.list-l.ensures ∙ (c.requires.0.each c.args.p c.requires.1 c.requires.2).same in
    let open_is : (b : Bool) → c.supported.result ≡ b → let a = c.args in ask_of a.t.now.words.now a.t.now.places (valued a.values.now) a.p ≡ open_by b = λ b e.
    let a = c.args in
    ask_by_lem a.t.now.words.now a.t.now.places (valued a.values.now) a.p Undefined (sym c.value_of.ensures ∙ c.in-Undefined.is)
    ∙ ap open_by (ap (some_rule (supports_of (valued a.values.now) a.p) a.t.now.words.now) (sym (listed)) ∙ sym c.supported.ensures ∙ e) in
    sym (open_is false c.if-supported.false)

pub returns-in-True : goal.returns-in-True
returns-in-True c =
    let listed-2 : let a = c.args in c.list-l-in-True.result.now ≡ with_head a.t.now.words.now a.p (places_of a.t.now.words.now a.t.now.places) = c.list-l-in-True.ensures ∙ (c.requires.0.each c.args.p c.requires.1 c.requires.2).same in
    let a = c.args in
    c.asked_true.ensures
    ∙ ap (true_by (supports_of (valued a.values.now) a.p) (forced_of (valued a.values.now)) a.t.now.words.now) (listed-2)
    ∙ sym (ask_by_lem a.t.now.words.now a.t.now.places (valued a.values.now) a.p True (sym c.value_of.ensures ∙ c.in-True.is))
