-- `stored::reading::take_named` meets its contract: the names, then the words after the first. Assumes nothing.
use mathlib.Core.Path.{refl, sym, ◌∙◌, subst}
use mathlib.Core.Bool.{Bool}
use mathlib.Core.List.{List}
use lib.IntN.{ℤ, pos}
use lib.ListN.{drop, set}
use Rattle.std.specs.Prelude.{Err}
use Rattle.std.proofs.lemmas.Result.{err_from_is_err_and}
use Rattle.stored.specs.Bytes.{Names, names_of, sections, scan}
use Rattle.stored.specs.Taking.{TakesScan, TakesAfter}
use Rattle.stored.proofs.NamesTold.{All, names_told_lem, names_refused}
use Rattle.stored.proofs.reading.take_named.Goals as goal

pub returns-in_err-filled : goal.returns-in_err-filled
returns-in_err-filled c =
    let a = c.args in
    let p = err_from_is_err_and c.from_residual.result c.from_residual.ensures.1 in
    let f = c.in_err-filled.field-0.0 in
    rw (p.1, p.2)
    (subst (λ (x : Names). TakesAfter a.top x a.words.now a.words.now (Err f)) (sym (names_refused (names_of a.top a.at (drop a.at a.bytes.now)) f (sym c.names_at.ensures ∙ c.in_err-filled.was))) refl)

pub take_sections-requires : goal.take_sections-requires
take_sections-requires c =
    let all : let a = c.args in All a.bytes.now a.top a.at c.in_ok-filled.filled c.in_ok-filled.first =
    let a = c.args in
    names_told_lem a.bytes.now a.top a.at c.in_ok-filled.filled c.in_ok-filled.first c.requires.0 (sym c.names_at.ensures ∙ c.in_ok-filled.was) in
    ((all).high, c.requires.1)

pub returns : goal.returns
returns c =
    let all : let a = c.args in All a.bytes.now a.top a.at c.in_ok-filled.filled c.in_ok-filled.first =
    let a = c.args in
    names_told_lem a.bytes.now a.top a.at c.in_ok-filled.filled c.in_ok-filled.first c.requires.0 (sym c.names_at.ensures ∙ c.in_ok-filled.was) in
    let a = c.args in
    let d = all in
    let w = c.take_sections.new.words in
    let r = c.take_sections.result in
    let s = scan (sections a.top) c.in_ok-filled.first (drop c.in_ok-filled.first a.bytes.now) in
    subst (λ (x : Names). TakesAfter a.top x a.words.now w r) (sym d.are)
    (subst (λ (b : Bool). TakesScan s b (set a.words.now 0 (pos a.top)) w r) d.fills
    (subst (λ (x : List ℤ). TakesScan s c.in_ok-filled.filled x w r) c.put.ensures c.take_sections.ensures))
