-- A table has one judgement in each mode: two that meet the judge's promise for the same words and buffer are equal. Assumes nothing.
use mathlib.Core.Path.{◌≡◌, sym, ◌∙◌, ap}
use mathlib.Core.Bool.{Bool}
use mathlib.Core.List.{List}
use lib.IntN.{ℤ}
use Rattle.std.specs.Prelude.{Result, Ok, Err}
use Rattle.results.specs.declared.Refusal.{Refusal}
use Rattle.results.specs.Results.{number_of, place_of}
use Rattle.results.proofs.Determined.{refusal_determined}
use Rattle.layout.specs.declared.Table.{Table}
use Rattle.table.specs.Contents.{Contents}
use Rattle.table.specs.Places.{table_of}
use Rattle.judging.specs.declared.Buffer.{Buffer}
use Rattle.judging.specs.Judging.{JudgedBy, refused, taken}
use Rattle.judging.proofs.Refusals.{accepted_unique, refused_not_accepted, refused_unique}

pub judged_unique : {cycles : Bool} (t : List ℤ) (b : Buffer) (r r' : Result Table Refusal) → JudgedBy cycles t b r → JudgedBy cycles t b r' → r ≡ r'
judged_unique t b r r' (refused f h e) (refused f' h' e') =
    let w = refused_unique t b (number_of f) (place_of f) (number_of f') (place_of f') h h' in
    e ∙ ap Err (refusal_determined f f' w.0 w.1) ∙ sym e'
judged_unique t b r r' (refused f h e) (taken c a e') = absurd (refused_not_accepted t b (number_of f) (place_of f) c h a)
judged_unique t b r r' (taken c a e) (refused f h e') = absurd (refused_not_accepted t b (number_of f) (place_of f) c h a)
judged_unique t b r r' (taken c a e) (taken d b' e') = e ∙ ap (λ (x : Contents). Ok (table_of x)) (accepted_unique t b c d a b') ∙ sym e'
