-- Laws of rows: a walk over the marks of a row reads its atoms out. Assumes nothing.
use mathlib.Core.Path.{◌≡◌}
use mathlib.Core.List.{List, [], ◌∷◌}
use Prim.Native.Nat.{ℕ, suc, ◌+◌, ◌<◌, ◌≤◌}
use borrow.Author.Tests.{lt-ltb, le-ltb}
use lib.ListN.{get_or}
use Rattle.aspif_scan.specs.Marks.{row_from, weights_from}

-- ---- rows

module _ (m : List ℕ) (i p n j q k : ℕ) (a : n ≡ suc k) (b : j ≡ suc i) (c : q ≡ suc p) where
  pub row_yes : 0 < get_or m i 0 → row_from m i p n ≡ p ∷ row_from m j q k
  unfolding row_from
  row_yes t = rw (a, b, c, row_from, lt-ltb 0 (get_or m i 0) t)

  pub row_no : get_or m i 0 ≤ 0 → row_from m i p n ≡ row_from m j q k
  unfolding row_from
  row_no t = rw (a, b, c, row_from, le-ltb 0 (get_or m i 0) t)

  pub weights_yes : 0 < get_or m i 0 → weights_from m i p n ≡ record { value = get_or m (i + 256) 0; atom = p } ∷ weights_from m j q k
  unfolding weights_from
  weights_yes t = rw (a, b, c, weights_from, lt-ltb 0 (get_or m i 0) t)

  pub weights_no : get_or m i 0 ≤ 0 → weights_from m i p n ≡ weights_from m j q k
  unfolding weights_from
  weights_no t = rw (a, b, c, weights_from, le-ltb 0 (get_or m i 0) t)

pub row_none : (m : List ℕ) (i p n : ℕ) → n ≡ 0 → row_from m i p n ≡ []
unfolding row_from
row_none m i p n e = rw e

pub weights_none : (m : List ℕ) (i p n : ℕ) → n ≡ 0 → weights_from m i p n ≡ []
unfolding weights_from
weights_none m i p n e = rw e
