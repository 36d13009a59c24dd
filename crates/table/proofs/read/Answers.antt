-- `table::read` meets its contract: the number of words, the count of the atoms, the aggregates, the rules. Assumes nothing.
use mathlib.Core.Path.{◌≡◌, sym, ap, ◌∙◌}
use Prim.Native.Nat.{ℕ}
use lib.ListN.{drop}
use Rattle.std.specs.Prelude.{Ok, Err}
use Rattle.table.specs.Roles.{count, run}
use Rattle.table.specs.Grammar.{one}
use Rattle.table.specs.Places.{got_of}
use Rattle.table.proofs.Returned.{ends}
use Rattle.table.proofs.Whole.{reading_many, reading_stop, reading_stop2, reading_on}
use Rattle.table.proofs.read.Goals as goal

pub returns-then-words-gt-WORDS : goal.returns-then-words-gt-WORDS
returns-then-words-gt-WORDS c = sym (reading_many c.args.words.now c.if-words-gt-WORDS.true)

pub returns-in_err-atoms : goal.returns-in_err-atoms
returns-in_err-atoms c =
    let t = c.args.words.now in
    let e : got_of (run (one (count 256)) 0 t) ≡ Err c.in_err-atoms.field-0.0 =
    ap (λ (i : ℕ). got_of (run (one (count 256)) i (drop i t))) (sym c.start-start.ensures) ∙ sym c.in_err-atoms.ensures in
    ends _ _ c.from_residual.ensures.1 ∙ sym (reading_stop t c.if-words-gt-WORDS.false _ e)

pub returns-in_err-places : goal.returns-in_err-places
returns-in_err-places c =
    let t = c.args.words.now in
    let e : got_of (run (one (count 256)) 0 t) ≡ Ok (c.in_ok-atoms.atoms, c.in_ok-atoms.next) =
    ap (λ (i : ℕ). got_of (run (one (count 256)) i (drop i t))) (sym c.start-start.ensures) ∙ sym c.in_ok-atoms.ensures in
    ends _ _ c.from_residual-in_err-places.ensures.1 ∙ sym (reading_stop2 t c.if-words-gt-WORDS.false _ _ e _ (sym c.in_err-places.ensures))

pub returns : goal.returns
returns c =
    let t = c.args.words.now in
    let e : got_of (run (one (count 256)) 0 t) ≡ Ok (c.in_ok-atoms.atoms, c.in_ok-atoms.next) =
    ap (λ (i : ℕ). got_of (run (one (count 256)) i (drop i t))) (sym c.start-start.ensures) ∙ sym c.in_ok-atoms.ensures in
    c.finish.ensures ∙ sym (reading_on t c.if-words-gt-WORDS.false _ _ e c.in_ok-places.places (sym c.in_ok-places.ensures))
