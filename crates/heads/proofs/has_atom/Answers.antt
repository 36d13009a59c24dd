-- `heads::has_atom` meets its contract. Assumes nothing.
use borrow.Author.Rules.{rules}
use mathlib.Core.Path.{◌≡◌, ◌∙◌}
use lib.Dec.{eqb}
use lib.IntN.{ℤ, nat_abs}
use Rattle.std.specs.List.{list_any}
use Rattle.std.proofs.lemmas.Iterator.{YieldsList-from_slice}
use Rattle.std.proofs.lemmas.Iterator.Search.{any_from_yields_List}
use Rattle.heads.proofs.Walks.{has_any}
use Rattle.heads.proofs.has_atom.Goals as goal

pub returns : goal.returns
returns c =
    let l = c.args.l.now in
    let asked : c.any.result ≡ list_any (λ (w : ℤ). eqb (nat_abs w) c.args.p) l =
    any_from_yields_List (λ (w : ℤ). eqb (nat_abs w) c.args.p) _ _ _ c.any.ensures.ran (YieldsList-from_slice l cc) (λ x b q k. search rules) in
    asked ∙ has_any c.args.p l
