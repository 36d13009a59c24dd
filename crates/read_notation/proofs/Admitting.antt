-- What is tested of a member is what `notation` tests. Assumes nothing.
use mathlib.Core.Path.{◌≡◌, refl}
use mathlib.Core.Bool.{Bool, true, false, ◌&&◌}
use mathlib.Core.List.{List, [], ◌∷◌, ◌++◌}
use Prim.Native.Nat.{ℕ}
use lib.Dec.{leb, ltb}
use lib.ListN.{length}
use Rattle.notation.specs.Parser.{last_from, member}
use Rattle.read_notation.specs.Admitting.{tested, admitted}

pub member_admitted : (k top most : ℕ) (l : List ℕ) (p : ℕ) → member k top most l p ≡ tested (admitted top most (length l) (last_from 0 l) p) k (l ++ (p ∷ []))
unfolding member admitted
member_admitted k top most l p = at (ltb 0 p && leb p top) refl (ltb (last_from 0 l) p) refl (ltb (length l) most) refl
  where
    at : (x : Bool) → (ltb 0 p && leb p top) ≡ x → (y : Bool) → ltb (last_from 0 l) p ≡ y → (z : Bool) → ltb (length l) most ≡ z
        → member k top most l p ≡ tested (admitted top most (length l) (last_from 0 l) p) k (l ++ (p ∷ []))
    at false a y b z c = rw a
    at true a false b z c = rw (a, b)
    at true a true b false c = rw (a, b, c)
    at true a true b true c = rw (a, b, c)
