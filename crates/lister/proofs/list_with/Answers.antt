-- `lister::list_with` meets its contract: the judge's refusal, or the report of the defined jumping listing on the accepted table. Assumes nothing.
use mathlib.Core.Path.{◌≡◌, refl, sym, ap, ◌∙◌}
use mathlib.Core.Option.{some}
use Prim.Native.Nat.{ℕ}
use lib.ListN.{length}
use Rattle.std.specs.Prelude.{Ok, Err}
use Rattle.meaning.specs.Program.{Program}
use Rattle.heads.proofs.Taking.{whole_rules}
use Rattle.table.specs.Contents.{program}
use Rattle.table.proofs.Accepted.{accepted_atoms}
use Rattle.table.proofs.Returned.{ends}
use Rattle.search.specs.Search.{jump}
use Rattle.search.specs.Listing.{list_all}
use Rattle.smaller.specs.Cyclic.{base_by}
use Rattle.judging.specs.declared.Buffer.TheVariants.{Rows}
use Rattle.judging.proofs.Judged.{judged_refused, judged_taken}
use Rattle.judging.proofs.Places.{ranges}
use Rattle.promises.specs.Listings.{rooms}
use Rattle.lister.specs.Telling.{result_of}
use Rattle.lister.proofs.Entry.{listing_refused, listing_accepted, told_by_lem}
use Rattle.lister.proofs.list_with.Goals as goal

pub invariant_of-t : goal.invariant_of-t
invariant_of-t c =
    record { laid = (judged_taken c.args.words.now (Rows (length c.args.rows.now)) (Ok c.in_ok-places.places) c.in_ok-places.places c.in_ok-places.ensures.0 refl).2.laid }

pub list_by-told-requires : goal.list_by-told-requires
list_by-told-requires c =
    let a = c.args in
    let tb = c.in_ok-places.places in
    let j = c.in_ok-places.ensures in
    (j.1 tb refl).listed

pub returns-in_err-places : goal.returns-in_err-places
returns-in_err-places c =
    let a = c.args in
    let f = c.in_err-places.field-0.0 in
    listing_refused a.words.now a.ask a.rows.now a.rows.now c.from_residual.result f (judged_refused a.words.now (Rows (length a.rows.now)) (Err f) f c.in_err-places.ensures.0 refl)
    (ends _ _ c.from_residual.ensures.1) refl

pub returns : goal.returns
returns c =
    let a = c.args in
    let tb = c.in_ok-places.places in
    let j = c.in_ok-places.ensures in
    let x = judged_taken a.words.now (Rows (length a.rows.now)) (Ok tb) tb j.0 refl in
    let d = x.0 in
    let p = x.2 in
    let g = c.list_by-told.ensures in
    let o = g.outcome in
    let e : list_all (base_by a.ask.cycles (program d) d.atoms) jump a.ask.limit (rooms a.rows.now) ≡ some o =
    ap (λ (n : ℕ). list_all (base_by a.ask.cycles (program d) n) jump a.ask.limit (rooms a.rows.now)) (sym p.atoms)
    ∙ ap (λ (P : Program). list_all (base_by a.ask.cycles P tb.atoms) jump a.ask.limit (rooms a.rows.now)) (sym (whole_rules a.words.now tb _ (j.1 tb refl) ∙ p.rules)) ∙ g.listed in
    listing_accepted a.words.now a.ask a.rows.now c.list_by-told.new.rows d x.1 (accepted_atoms a.words.now d x.1.holds) (ranges a.words.now d x.1.holds).few_atoms o e
    (Ok c.result.result) (ap Ok (c.result.ensures ∙ ap result_of g.result ∙ told_by_lem o)) g.rows
