-- `solver::check` meets its contract: each way out is one clause of `checked_by`. Assumes nothing.
use mathlib.Core.Path.{◌≡◌, refl, sym, ap, ◌∙◌}
use mathlib.Core.Bool.{Bool, true, false}
use Prim.Native.Nat.{ℕ}
use Rattle.std.specs.Prelude.{Option, None, Result, Ok}
use Rattle.results.specs.declared.Refusal.{Refusal}
use Rattle.meaning.specs.Answers.{model}
use Rattle.layout.specs.Layout.{program_of}
use Rattle.solver.specs.Plans.{passes_by, checked_by}
use Rattle.solver.proofs.check.Goals as goal

says : (f : Bool) → ◌≡◌ {A = Result Bool Refusal} (Ok f) (checked_by None true f)
says true = refl
says false = refl

-- good bytes, and a model or none
passed : (o : Option ℕ) (m f : Bool) → o ≡ None → m ≡ true → ◌≡◌ {A = Result Bool Refusal} (Ok f) (checked_by o m f)
passed o m f a b = says f ∙ sym (ap (λ (x : Option ℕ). checked_by x m f) a ∙ ap (λ (x : Bool). checked_by None x f) b)

no_model : (o : Option ℕ) (m f : Bool) → o ≡ None → m ≡ false → ◌≡◌ {A = Result Bool Refusal} (Ok false) (checked_by o m f)
no_model o m f a b = sym (ap (λ (x : Option ℕ). checked_by x m f) a ∙ ap (λ (x : Bool). checked_by None x f) b)

pub returns-then-model : goal.returns-then-model
returns-then-model c =
    let a = c.args in
    let P = program_of a.t.now.words.now a.t.now.places in
    let plan = c.values_of-values.ensures.says in
    let b = c.in_default.ensures in
    ap Ok (c.passes-approved.ensures ∙ ap (passes_by a.cycles P a.t.now.places.atoms) plan) ∙ passed _ _ _ (cc) (ap (model P) (sym plan) ∙ sym c.is_model-model.ensures ∙ c.if-model.true)

pub returns-else-model : goal.returns-else-model
returns-else-model c =
    let a = c.args in
    let P = program_of a.t.now.words.now a.t.now.places in
    let plan = c.values_of-values.ensures.says in
    let b = c.in_default.ensures in
    ap Ok c.if-model.false ∙ no_model _ _ _ (cc) (ap (model P) (sym plan) ∙ sym c.is_model-model.ensures ∙ c.if-model.false)
