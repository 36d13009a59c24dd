-- `stored::restore_in` meets its contract: the words are taken into the memory, judged there, and taken again where nothing is at fault. Assumes nothing.
use mathlib.Core.Path.{◌≡◌, refl, sym, ap, ap₂, ◌∙◌, subst}
use mathlib.Core.List.{List}
use native.Mathlib.Omega.{arith}
use lib.IntN.{ℤ}
use Rattle.std.specs.Prelude.{Err}
use Rattle.std.specs.Option.{option_or}
use Rattle.std.specs.Result.{result_err}
use Rattle.stored.specs.Taking.{names_fault}
use Rattle.std.proofs.lemmas.Result.{err_from_is_err_and}
use Rattle.results.specs.declared.Refusal.TheVariants.{ShortWords}
use Rattle.judging.specs.declared.Buffer.TheVariants.{Nothing}
use Rattle.judging.specs.Judging.{Judged}
use Rattle.stored.specs.Bytes.{Bytes}
use Rattle.stored.specs.Restoring.{room, bytes}
use Rattle.stored.proofs.Exact.{bytes_of, refused≢holds}
use Rattle.stored.proofs.Restored.{restores_refused, Took, took_words, took_refused, took_front, restores_many, restores_faulty, restores_whole_table}
use Rattle.stored.proofs.restore_in.Goals as goal

pub returns-then-words-lt-WORDS : goal.returns-then-words-lt-WORDS
returns-then-words-lt-WORDS c =
    let all-bytes : Bytes c.args.bytes.now = bytes_of c.args.bytes.now (λ i. omega (arith, c.type_inv.bytes i)) in
    let a = c.args in
    restores_refused a.bytes.now a.words.now a.words.now (Err ShortWords) all-bytes ShortWords (room c.if-words-lt-WORDS.true refl refl) refl refl

pub returns-in_err-n : goal.returns-in_err-n
returns-in_err-n c =
    let all-bytes : Bytes c.args.bytes.now = bytes_of c.args.bytes.now (λ i. omega (arith, c.type_inv.bytes i)) in
    let a = c.args in
    let p = err_from_is_err_and c.from_residual.result c.from_residual.ensures.1 in
    let f = c.in_err-n.field-0.0 in
    rw (p.1, p.2)
    (restores_refused a.bytes.now a.words.now a.words.now (Err f) all-bytes f
    (bytes c.if-words-lt-WORDS.false f (took_refused a.bytes.now a.memory.now c.take_table.new.words f c.take_table.result c.take_table.ensures c.in_err-n.was) refl refl) refl refl)

pub returns-then-n-gt-WORDS : goal.returns-then-n-gt-WORDS
returns-then-n-gt-WORDS c =
    let a = c.args in
    let took : Took a.bytes.now c.in_ok-n.n c.in_ok-n.filled a.memory.now c.take_table.new.words =
    took_words a.bytes.now a.memory.now c.take_table.new.words c.in_ok-n.n c.in_ok-n.filled c.take_table.result c.take_table.ensures c.in_ok-n.was in
    let all-bytes : Bytes c.args.bytes.now = bytes_of c.args.bytes.now (λ i. omega (arith, c.type_inv.bytes i)) in
    restores_many a.bytes.now c.in_ok-n.n c.in_ok-n.filled a.memory.now c.take_table.new.words took a.words.now all-bytes c.if-words-lt-WORDS.false c.if-n-gt-WORDS.true

pub returns-in-Some : goal.returns-in-Some
returns-in-Some c =
    let a = c.args in
    let took : Took a.bytes.now c.in_ok-n.n c.in_ok-n.filled a.memory.now c.take_table.new.words =
    took_words a.bytes.now a.memory.now c.take_table.new.words c.in_ok-n.n c.in_ok-n.filled c.take_table.result c.take_table.ensures c.in_ok-n.was in
    let all-bytes : Bytes c.args.bytes.now = bytes_of c.args.bytes.now (λ i. omega (arith, c.type_inv.bytes i)) in
    let judges : Judged took.ws Nothing c.judge_by.result =
    let p = c.requires in
    subst (λ (l : List ℤ). Judged l Nothing c.judge_by.result)
    (took_front a.bytes.now c.in_ok-n.n c.in_ok-n.filled a.memory.now c.take_table.new.words took (omega (arith, p, c.if-n-gt-WORDS.false)))
    c.judge_by.ensures.0 in
    let first : c.or.result ≡ option_or (result_err c.judge_by.result) (names_fault c.in_ok-n.filled) = c.or.ensures ∙ ap₂ option_or c.err-judged.ensures.value c.names_fault-named.ensures in
    restores_faulty a.bytes.now c.in_ok-n.n c.in_ok-n.filled a.memory.now c.take_table.new.words took a.words.now all-bytes c.if-words-lt-WORDS.false c.judge_by.result judges c.in-Some.fault (sym first ∙ c.in-Some.is)

pub returns-in_err-take_table : goal.returns-in_err-take_table
returns-in_err-take_table c =
    let a = c.args in
    let took : Took a.bytes.now c.in_ok-n.n c.in_ok-n.filled a.memory.now c.take_table.new.words =
    took_words a.bytes.now a.memory.now c.take_table.new.words c.in_ok-n.n c.in_ok-n.filled c.take_table.result c.take_table.ensures c.in_ok-n.was in
    absurd (refused≢holds (sym (took_refused a.bytes.now a.words.now c.take_table-2.new.words _ c.take_table-2.result c.take_table-2.ensures c.in_err-take_table.was) ∙ took.reads))

pub returns : goal.returns
returns c =
    let a = c.args in
    let took : Took a.bytes.now c.in_ok-n.n c.in_ok-n.filled a.memory.now c.take_table.new.words =
    took_words a.bytes.now a.memory.now c.take_table.new.words c.in_ok-n.n c.in_ok-n.filled c.take_table.result c.take_table.ensures c.in_ok-n.was in
    let all-bytes : Bytes c.args.bytes.now = bytes_of c.args.bytes.now (λ i. omega (arith, c.type_inv.bytes i)) in
    let judges : Judged took.ws Nothing c.judge_by.result =
    let p = c.requires in
    subst (λ (l : List ℤ). Judged l Nothing c.judge_by.result)
    (took_front a.bytes.now c.in_ok-n.n c.in_ok-n.filled a.memory.now c.take_table.new.words took (omega (arith, p, c.if-n-gt-WORDS.false)))
    c.judge_by.ensures.0 in
    let first : c.or.result ≡ option_or (result_err c.judge_by.result) (names_fault c.in_ok-n.filled) = c.or.ensures ∙ ap₂ option_or c.err-judged.ensures.value c.names_fault-named.ensures in
    restores_whole_table a.bytes.now c.in_ok-n.n c.in_ok-n.filled a.memory.now c.take_table.new.words took a.words.now all-bytes c.if-words-lt-WORDS.false c.judge_by.result judges (sym first ∙ c.in_default.is)
    c.take_table-2.new.words c.take_table-2.result c.take_table-2.ensures
