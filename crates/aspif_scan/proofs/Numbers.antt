-- The number that a field writes, from digits whose value is held at 2 to the 64 less 1. Assumes nothing.
use mathlib.Core.Path.{◌≡◌, refl, sym, ap, ◌∙◌}
use mathlib.Core.Bool.{Bool, true, false}
use mathlib.Core.List.{List, [], ◌∷◌}
use mathlib.Core.Option.{Option, some, none}
use Prim.Native.Nat.{ℕ, zero, suc, min}
use native.Mathlib.Omega.{arith}
use borrow.Author.Tests.{lt-ltb}
use lib.Dec.{eqb, ltb}
use lib.ListN.{get_or, take, drop}
use Rattle.std.specs.Prelude as Prelude
use Rattle.std.specs.Prelude.{Some, None}
use Rattle.std.specs.Cmp.Lexicographic.{pointwise}
use Rattle.text.specs.Text.{digits, plain, negative, number, pick}
use Rattle.text.specs.Scan.{held}
use Rattle.text.proofs.Numbers.{starts_minus}
use Rattle.aspif_scan.specs.Number.{number_in}

first_minus : (run : List ℕ) (t : Bool) → eqb (get_or run 0 0) 45 ≡ t → number run ≡ pick t (negative (digits (drop 1 run))) (plain (digits run))
unfolding number
first_minus [] true e = cc
first_minus [] false e = refl
first_minus (b ∷ bs) t e = rw e

below : (o : Option ℕ) (v : ℕ) → held o ≡ Some v → number_in (negative o) ≡ Some (record { minus = ltb 0 v; size = v })
below none v e = cc
below (some zero) v e = let k : min 0 18446744073709551615 ≡ v = cc in let m : v ≡ 0 = omega arith in rw m
below (some (suc n)) v e =
    let k : min (suc n) 18446744073709551615 ≡ v = cc in
    rw (lt-ltb 0 v (omega arith), k)

above : (o : Option ℕ) (v : ℕ) → held o ≡ Some v → number_in (plain o) ≡ Some (record { minus = false; size = v })
above none v e = cc
above (some n) v e = let k : min n 18446744073709551615 ≡ v = cc in rw k

bad : (o : Option ℕ) → held o ≡ None → o ≡ none
bad none e = refl
bad (some n) e = cc

module _ (run ds : List ℕ) (m : pointwise eqb (take 1 run) (45 ∷ []) ≡ true) (d : ds ≡ drop 1 run) (o : Prelude.Option ℕ) (g : o ≡ held (digits ds)) where
  here : o ≡ held (digits (drop 1 run))
  here = g ∙ ap (λ (l : List ℕ). held (digits l)) d

  pub minus_number : (v : ℕ) → o ≡ Some v → Some (record { minus = ltb 0 v; size = v }) ≡ number_in (number run)
  minus_number v e = sym (ap number_in (first_minus run true (starts_minus run true m)) ∙ below (digits (drop 1 run)) v (sym here ∙ e))

  pub minus_bad : o ≡ None → None ≡ number_in (number run)
  minus_bad e = sym (ap number_in (first_minus run true (starts_minus run true m)) ∙ ap (λ (x : Option ℕ). number_in (negative x)) (bad (digits (drop 1 run)) (sym here ∙ e)))

module _ (run : List ℕ) (m : pointwise eqb (take 1 run) (45 ∷ []) ≡ false) (o : Prelude.Option ℕ) (g : o ≡ held (digits run)) where
  pub plain_number : (v : ℕ) → o ≡ Some v → Some (record { minus = false; size = v }) ≡ number_in (number run)
  plain_number v e = sym (ap number_in (first_minus run false (starts_minus run false m)) ∙ above (digits run) v (sym g ∙ e))

  pub plain_bad : o ≡ None → None ≡ number_in (number run)
  plain_bad e = sym (ap number_in (first_minus run false (starts_minus run false m)) ∙ ap (λ (x : Option ℕ). number_in (plain x)) (bad (digits run) (sym g ∙ e)))
