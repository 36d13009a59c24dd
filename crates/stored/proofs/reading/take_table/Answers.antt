-- `stored::reading::take_table` meets its contract: the number of atoms, then what follows it. Assumes nothing.
use mathlib.Core.Path.{refl, sym, ◌∙◌, subst}
use lib.ListN.{drop}
use Rattle.std.specs.Prelude.{Err}
use Rattle.std.proofs.lemmas.Result.{err_from_is_err_and}
use Rattle.table.specs.Roles.{count}
use Rattle.stored.specs.Bytes.{step_of, stop, names_of, Reading}
use Rattle.stored.specs.Taking.{Takes}
use Rattle.stored.proofs.Exact.{read_is}
use Rattle.stored.proofs.Telling.{said_number, said_refused}
use Rattle.stored.proofs.Scanning.{Topped, topped, after_takes}
use Rattle.stored.proofs.reading.take_table.Goals as goal

pub take_named-requires : goal.take_named-requires
take_named-requires c =
    let top : Topped c.args.bytes.now c.in_ok-top.top c.in_ok-top.at =
    topped c.args.bytes.now c.in_ok-top.top c.in_ok-top.field-0-1 c.in_ok-top.at (said_number _ c.in_ok-top.top c.in_ok-top.field-0-1 c.in_ok-top.at (sym c.count_at.ensures ∙ c.in_ok-top.was)) in
    let t = top in (t.inside, t.small)

pub returns-in_err-top : goal.returns-in_err-top
returns-in_err-top c =
    let a = c.args in
    let p = err_from_is_err_and c.from_residual.result c.from_residual.ensures.1 in
    let f = c.in_err-top.field-0.0 in
    rw (p.1, p.2)
    (subst (λ (s : Reading). Takes s a.words.now a.words.now (Err f))
    (sym (read_is a.bytes.now (stop f) (said_refused (step_of (count 256) 0 a.bytes.now) f (sym c.count_at.ensures ∙ c.in_err-top.was)))) refl)

pub returns : goal.returns
returns c =
    let top : Topped c.args.bytes.now c.in_ok-top.top c.in_ok-top.at =
    topped c.args.bytes.now c.in_ok-top.top c.in_ok-top.field-0-1 c.in_ok-top.at (said_number _ c.in_ok-top.top c.in_ok-top.field-0-1 c.in_ok-top.at (sym c.count_at.ensures ∙ c.in_ok-top.was)) in
    let a = c.args in
    let w = c.take_named.new.words in
    let r = c.take_named.result in
    subst (λ (s : Reading). Takes s a.words.now w r) (sym (top).reads) (after_takes c.in_ok-top.top a.words.now w r (names_of c.in_ok-top.top c.in_ok-top.at (drop c.in_ok-top.at a.bytes.now)) c.take_named.ensures)
