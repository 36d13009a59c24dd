-- `judging::words_judged` meets its contract: each way out is one of 01's refusals of the words, or what they hold. Assumes nothing.
use mathlib.Core.Path.{◌≡◌, refl, sym, ap, ◌∙◌, subst}
use mathlib.Core.List.{List}
use lib.IntN.{ℤ}
use Rattle.std.specs.Prelude.{Ok}
use Rattle.layout.specs.declared.Table.{Table}
use Rattle.layout.specs.Layout.{Laid, program_of}
use Rattle.heads.specs.Heads.{Whole}
use Rattle.table.specs.Places.{reading_of}
use Rattle.table.proofs.Accepted.{fault_nothing, fault_refused, accepted_laid}
use Rattle.table.proofs.Returned.{ends}
use Rattle.depend.specs.Cycles.{cycle_by}
use Rattle.judging.specs.Refusals.{table}
use Rattle.judging.specs.Judging.{refused, taken}
use Rattle.judging.proofs.Judged.{cycle_refuses, none_accepts, same_cycles, no_fault, same_table}
use Rattle.judging.proofs.words_judged.Goals as goal

-- the table that is read is laid
laid : (t : List ℤ) (tb : Table) → reading_of t ≡ Ok tb → Laid t tb
laid t tb e = let w = fault_nothing t tb e in subst (Laid t) (sym w.2) (accepted_laid t w.0 w.1)

pub invariant_of-t : goal.invariant_of-t
invariant_of-t c = record { laid = laid c.args.words.now c.in_ok-places.places (sym c.in_ok-places.ensures) }

pub refusal-requires : goal.refusal-requires
refusal-requires c = c.fill.ensures.listed

pub returns-in_err-places : goal.returns-in_err-places
returns-in_err-places c =
    let t = c.args.words.now in
    let f = c.in_err-places.field-0.0 in
    let e = ends c.from_residual.result f c.from_residual.ensures.1 in
    (λ few b good. refused f (table few good f (fault_refused t f (sym c.in_err-places.ensures)) refl refl) e, λ tb i. absurd (no_fault e i))

pub returns-in_err-refusal : goal.returns-in_err-refusal
returns-in_err-refusal c =
    let a = c.args in
    let t = a.words.now in
    let h = fault_nothing t c.in_ok-places.places (sym c.in_ok-places.ensures) in
    let f = c.in_err-refusal.field-0.0 in
    let e = ends c.from_residual-in_err-refusal.result f c.from_residual-in_err-refusal.ensures.1 in
    let cycles = sym (same_cycles a.cycles t h.0 h.1) ∙ ap (λ (tb : Table). cycle_by a.cycles tb.atoms (program_of t tb)) (sym h.2) ∙ sym c.in_err-refusal.ensures in
    (λ few b good. refused f (cycle_refuses t b few good h.0 h.1 f cycles) e, λ tb i. absurd (no_fault e i))

pub returns : goal.returns
returns c =
    let a = c.args in
    let t = a.words.now in
    let h = fault_nothing t c.in_ok-places.places (sym c.in_ok-places.ensures) in
    let cycles = sym (same_cycles a.cycles t h.0 h.1) ∙ ap (λ (tb : Table). cycle_by a.cycles tb.atoms (program_of t tb)) (sym h.2) ∙ sym c.in_ok-refusal.ensures in
    (λ few b good. taken h.0 (none_accepts t b few good h.0 h.1 cycles) (ap Ok h.2), λ tb i. subst (λ (x : Table). Whole t x c.fill.new.lists) (same_table refl i) c.fill.ensures)
