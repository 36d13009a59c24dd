-- `aspif_read::taking::take` meets its contract. Assumes nothing.
use Rattle.aspif_read.specs.Survey.{judged_line}
use Rattle.aspif_read.specs.Writing.{Wrote, Takes, statement_words, weighed_line}
use Rattle.std.specs.Prelude.{Err}
use Rattle.aspif_read.specs.declared.judge.Fault.TheVariants.{Outside}
use Rattle.aspif_read.proofs.Bounds.{bound_low, marks_capped}
use Rattle.aspif_read.proofs.Laws.{statement_rule, statement_none, statement_aggregate, weighed_as}
use Rattle.aspif_read.proofs.Puts.{wrote_as, put_none}
use Prim.Native.Nat.{ℕ, ◌+◌}
use mathlib.Core.Bool.{Bool, false, false≢true}
use mathlib.Core.List.{List}
use mathlib.Core.Path.{◌≡◌, refl, sym, ap, ◌∙◌}
use lib.IntN.{ℤ}
use borrow.Author.Rules.{rules}
use Rattle.aspif_read.proofs.taking.take.Goals as goal

-- a pass that writes
written : (judging rules : Bool) (before : ℕ) (line : List ℕ) (old new : List ℤ) (at to after : ℕ) → judging ≡ false
    → Wrote old at (statement_words rules before line) (before + weighed_line line) (record { at = to; before = after }) new
    → Takes judging rules before line old at (record { judged = Err Outside; at = to; before = after }) new
written judging rules before line old new at to after e w = record {
  judges = λ t. absurd (false≢true (sym e ∙ t));
  puts = λ _. w.put;
  next = λ _. w.next;
}

pub returns-then-judging : goal.returns-then-judging
unfolding judged_line
returns-then-judging c =
    let judged : c.judged_by-judged.result ≡ judged_line c.args.line.now = (rw (c.scan-s.ensures.value, c.scan-s.ensures.marks_after) at c.judged_by-judged.ensures) in
    record {
      judges = λ _. judged;
      puts = λ e. absurd (false≢true (sym e ∙ c.if-judging.true));
      next = λ e. absurd (false≢true (sym e ∙ c.if-judging.true));
    }

pub returns-then-rules : goal.returns-then-rules
returns-then-rules c =
    let a = c.args in
    written _ _ _ _ _ _ _ _ _ c.if-judging.false
    (wrote_as _ _ _ _ _ _ _ _ c.put_rule-to.ensures
    (statement_rule a.rules a.before a.line.now _ _ _ c.if-rules.true c.scan-s.ensures.value c.scan-s.ensures.marks_after c.aggregates-own.ensures.value) refl
    (ap (λ (o : ℕ). a.before + o) (weighed_as a.rules a.before a.line.now _ _ c.scan-s.ensures.value c.aggregates-own.ensures.value)))

pub returns-then-own-eq0 : goal.returns-then-own-eq0
returns-then-own-eq0 c =
    let a = c.args in
    written _ _ _ _ _ _ _ _ _ c.if-judging.false
    (wrote_as _ _ _ _ _ _ _ _ (put_none _ _ c.requires.0)
    (statement_none a.rules a.before a.line.now _ _ c.if-rules.false c.scan-s.ensures.value c.aggregates-own.ensures.value c.if-own-eq0.true) refl
    (ap (λ (o : ℕ). a.before + o) (weighed_as a.rules a.before a.line.now _ _ c.scan-s.ensures.value c.aggregates-own.ensures.value)))

pub put_aggregate-to-requires : goal.put_aggregate-to-requires
put_aggregate-to-requires c =
    (c.requires.0, rw c.scan-s.ensures.value (bound_low c.args.line.now), rw c.scan-s.ensures.marks_after (marks_capped c.args.line.now))

pub returns : goal.returns
returns c =
    let a = c.args in
    written _ _ _ _ _ _ _ _ _ c.if-judging.false
    (wrote_as _ _ _ _ _ _ _ _ c.put_aggregate-to.ensures
    (statement_aggregate a.rules a.before a.line.now _ _ _ c.if-rules.false c.scan-s.ensures.value c.scan-s.ensures.marks_after c.aggregates-own.ensures.value c.if-own-eq0.false) refl
    (ap (λ (o : ℕ). a.before + o) (weighed_as a.rules a.before a.line.now _ _ c.scan-s.ensures.value c.aggregates-own.ensures.value)))
