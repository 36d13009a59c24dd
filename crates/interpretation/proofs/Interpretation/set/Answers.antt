-- `interpretation::Interpretation::set` meets its contract. Assumes nothing.
use borrow.Author.Rules.{rules}
use mathlib.Core.Path.{◌≡◌, ap, ◌∙◌}
use Prim.Native.Nat.{ℕ}
use native.Mathlib.Omega.{arith}
use lib.ListN.{length}
use Rattle.interpretation.specs.State.{Cell, put}
use Rattle.interpretation.specs.View.{cell_by, cells, choices}
use Rattle.interpretation.proofs.Laws.{cell_byte, cells_set_at}
use Rattle.interpretation.proofs.Interpretation.set.Goals as goal

pub returns : goal.returns
returns c =
    let s = c.args.self in
    let n : length s.values ≡ 256 = search rules in
    let l : length s.records ≡ 256 = search rules in
    let p = c.args.p in
    let h = c.requires in
    let e = cells_set_at s.values s.records p c.byte.result (record { level = s.depth; round = 0; rule = 0 }) h.0 (omega arith) (omega arith)
    ∙ ap (λ (x : Cell). put p x (cells s.values s.records)) (ap (λ (n : ℕ). cell_by n s.depth) c.byte.ensures ∙ cell_byte c.args.v s.depth) in
    λ t. record { level = s.depth; choice = choices s.chosen s.depth; cell = e t }
