-- `interpretation::Interpretation::open` meets its contract. Assumes nothing.
use borrow.Author.Rules.{rules}
use mathlib.Core.Path.{◌≡◌, ap, ◌∙◌}
use Prim.Native.Nat.{ℕ, ◌+◌}
use native.Mathlib.Omega.{arith}
use native.Mathlib.Numerals.{add-one}
use mathlib.Core.Bool.{true}
use lib.ListN.{set, length}
use Rattle.interpretation.specs.State.{defined, put}
use Rattle.interpretation.specs.View.{cells, choices}
use Rattle.interpretation.proofs.Laws.{cells_set_at, choices_open}
use Rattle.interpretation.proofs.Interpretation.open.Goals as goal

pub returns : goal.returns
returns c =
    let s = c.args.self in
    let m : length s.values ≡ 256 = search rules in
    let l : length s.records ≡ 256 = search rules in
    let n : length s.chosen ≡ 256 = search rules in
    let p = c.args.p in
    let h = c.requires in
    let d = s.depth in
    let e = cells_set_at s.values s.records p 1 (record { level = d + 1; round = 0; rule = 0 }) h.0 (omega arith) (omega arith)
    ∙ ap (λ (k : ℕ). put p (defined true k) (cells s.values s.records)) (add-one d) in
    let f = ap (choices (set s.chosen d p)) (add-one d) ∙ choices_open s.chosen d p (omega arith) in
    λ t. record { level = add-one d t; choice = f t; cell = e t }
