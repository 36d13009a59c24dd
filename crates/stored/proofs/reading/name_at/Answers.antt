-- `stored::reading::name_at` meets its contract. Assumes nothing.
use mathlib.Core.Path.{sym, ◌∙◌}
use lib.ListN.{drop}
use Rattle.table.specs.Roles.{count}
use Rattle.stored.specs.Bytes.{step_of}
use Rattle.std.specs.Prelude.{Some}
use Rattle.std.proofs.lemmas.Result.{err_from_is_err_and}
use Rattle.stored.specs.declared.points.Asked.TheVariants as asked
use Rattle.stored.proofs.Telling.{Stands, number_stands, Said, said_number, said_refused}
use Rattle.stored.proofs.NamesTold.{name_cut, name_whole, name_stop}
use Rattle.stored.proofs.reading.name_at.Goals as goal

pub returns-in_err-n : goal.returns-in_err-n
returns-in_err-n c =
    let a = c.args in
    let p = err_from_is_err_and c.from_residual.result c.from_residual.ensures.1 in
    rw (p.1, p.2) (name_stop a.bytes.now a.at _ (said_refused (step_of (count 32) a.at (drop a.at a.bytes.now)) _ (sym c.count_at.ensures ∙ c.in_err-n.was)))

pub overflow_sub-bytes : goal.overflow_sub-bytes
overflow_sub-bytes c =
    let a = c.args in
    let read : Said (step_of (count 32) a.at (drop a.at a.bytes.now)) c.in_ok-n.n c.in_ok-n.field-0-1 c.in_ok-n.first = said_number _ _ _ _ (sym c.count_at.ensures ∙ c.in_ok-n.was) in
    let said : Stands (count 32) a.bytes.now a.at read.w c.in_ok-n.first read.rest = number_stands (Some (asked.Count 32)) _ _ _ _ _ c.requires read.step in
    said.high

pub returns-then-bytes-first : goal.returns-then-bytes-first
returns-then-bytes-first c =
    let a = c.args in
    let read : Said (step_of (count 32) a.at (drop a.at a.bytes.now)) c.in_ok-n.n c.in_ok-n.field-0-1 c.in_ok-n.first = said_number _ _ _ _ (sym c.count_at.ensures ∙ c.in_ok-n.was) in
    name_cut _ _ _ _ _ read c.requires c.if-bytes-first.true

pub returns : goal.returns
returns c =
    let a = c.args in
    let read : Said (step_of (count 32) a.at (drop a.at a.bytes.now)) c.in_ok-n.n c.in_ok-n.field-0-1 c.in_ok-n.first = said_number _ _ _ _ (sym c.count_at.ensures ∙ c.in_ok-n.was) in
    name_whole _ _ _ _ _ read c.requires c.if-bytes-first.false
