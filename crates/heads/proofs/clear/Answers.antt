-- `heads::clear` meets its contract. Assumes nothing.
use mathlib.Core.Path.{◌≡◌, ap, ◌∙◌}
use mathlib.Core.List.{List}
use native.Mathlib.Omega.{arith}
use lib.ListN.{length, get_or, take, drop, replicate, length-take, get_or-replicate, get_or-append, length-append, length-drop}
use Prim.Native.Nat.{ℕ}
use Rattle.heads.proofs.clear.Goals as goal

pub slice_bounds-fill-end-2 : goal.slice_bounds-fill-end-2
slice_bounds-fill-end-2 c = omega (arith, c.requires, length-take {A = ℕ})

pub returns : goal.returns
returns c =
    let l = c.args.lists.now in
    let many : length (take 514 l) ≡ 514 = omega (arith, c.requires, length-take {A = ℕ}) in
    let short : length c.fill.new.self ≡ 514 = c.fill.ensures.len ∙ many in
    let zeros : c.fill.new.self ≡ replicate 514 0 = c.fill.ensures.after (λ y e. e) ∙ ap (λ (n : ℕ). replicate n 0) many in (
      omega (arith, length-append c.fill.new.self (drop 514 l), length-drop 514 l, short, c.requires),
      λ i h. get_or-append c.fill.new.self (drop 514 l) 0 i (omega (arith, short, h)) ∙ ap (λ (m : List ℕ). get_or m i 0) zeros ∙ get_or-replicate 514 i 0 0 h,
    )
