-- `heads::fill` meets its contract: each step leaves what the next one asks. Assumes nothing.
use mathlib.Core.Path.{◌≡◌, ap, ◌∙◌, sym}
use mathlib.Core.List.{List}
use Prim.Native.Nat.{ℕ, ◌<◌}
use native.Mathlib.Omega.{arith}
use lib.ListN.{get_or}
use lib.Seq.{get_or-take}
use Rattle.heads.specs.Heads.{bounds}
use Rattle.heads.proofs.Counting.{counts_start}
use Rattle.heads.proofs.Placing.{fits}
use Rattle.heads.proofs.fill.Goals as goal

pub count-requires : goal.count-requires
count-requires c =
    let t = c.args.t.now.words.now in
    let a = c.clear.new.lists in
    let b = c.rules.new.lists in
    let e = c.rules.ensures in
    let zeros : (i : ℕ) → i < bounds → get_or b i 0 ≡ 0 = λ i h. sym (get_or-take bounds b i 0 h) ∙ ap (λ (l : List ℕ). get_or l i 0) e.1 ∙ get_or-take bounds a i 0 h ∙ c.clear.ensures.1 i h in
    counts_start t c.args.t.now.places b e.0 e.2 zeros

pub ends-requires : goal.ends-requires
ends-requires c =
    (c.count.ensures.sized, fits c.args.t.now.words.now c.args.t.now.places c.args.t.now.laid c.count.new.lists c.count.ensures 256 (omega arith))
