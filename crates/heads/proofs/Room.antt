-- The lists fit: all lists of atoms together have no more members than the table has words. An atom is counted once for a rule, so a rule is in at most as
-- many lists as its head has words (`number_has`), and the rules' words lie one after the other in the table (`RulesLie`).
--   total t l n   the number of members of lists 1 .. n, over the rules at l
-- Assumes nothing.
use mathlib.Core.Path.{◌≡◌, refl, sym, ap, ◌∙◌}
use mathlib.Core.Bool.{Bool, true, false, cond, ◌||◌}
use mathlib.Core.List.{List, [], ◌∷◌}
use Prim.Native.Nat.{ℕ, zero, suc, ◌+◌, ◌-◌, ◌≤◌, ◌<◌, zero-le}
use native.Mathlib.Omega.{arith}
use lib.Dec.{eqb}
use lib.IntN.{ℤ, nat_abs}
use lib.ListN.{length, drop, length-map, length-take}
use Rattle.meaning.specs.Lists.{has}
use Rattle.meaning.proofs.Tools.{bit, number, contra, eq}
use Rattle.layout.specs.Layout.{nat_at, part_at, past_rule, rule_at, RulesLie, Laid}
use Rattle.layout.specs.declared.Table.{Table}
use Rattle.heads.specs.Heads.{places_from, places_of, with_head}

-- ---- how many of 1 .. n are in a list

bit_or : (a b : Bool) → bit (a || b) ≤ bit a + bit b
unfolding bit
bit_or true b = omega arith
bit_or false b = omega arith

number_or : (n : ℕ) (f g : ℕ → Bool) → number n (λ q. f q || g q) ≤ number n f + number n g
unfolding number
number_or zero f g = zero-le
number_or (suc n) f g = omega (arith, bit_or (f n) (g n), number_or n f g)

number_none : (n : ℕ) (f : ℕ → Bool) → ((q : ℕ) → q < n → f q ≡ false) → number n f ≡ 0
unfolding number bit
number_none zero f h = refl
number_none (suc n) f h = omega (arith, ap bit (h n (omega arith)), number_none n f (λ q k. h q (omega arith)))

number_one : (n x : ℕ) → number n (λ q. eqb (suc q) x) ≤ 1
unfolding number bit
number_one zero x = zero-le
number_one (suc n) x = at (eqb (suc n) x) refl (number_one n x)
  where
    at : (b : Bool) → eqb (suc n) x ≡ b → number n (λ q. eqb (suc q) x) ≤ 1 → bit b + number n (λ q. eqb (suc q) x) ≤ 1
    at true e r =
        let x≡ : suc n ≡ x = eq (suc n) x e in
        omega (arith, number_none n (λ q. eqb (suc q) x) (λ q k. contra (eqb (suc q) x) {b = false} (λ h. absurd (let y = eq (suc q) x h in omega arith)) refl))
    at false e r = omega arith

number_has : (n : ℕ) (l : List ℕ) → number n (λ q. has (suc q) l) ≤ length l
unfolding has
number_has n [] = omega (arith, number_none n (λ q. false) (λ q k. refl))
number_has n (x ∷ l) = omega (arith, number_or n (λ q. eqb (suc q) x) (λ q. has (suc q) l), number_one n x, number_has n l)

-- ---- the lists together

unfoldable pub total : List ℤ → List ℕ → ℕ → ℕ
total t l zero = 0
total t l (suc n) = length (with_head t (suc n) l) + total t l n

module _ (t : List ℤ) where
  pub total_zero : (l : List ℕ) → total t l 0 ≡ 0
  unfolding total
  total_zero l = refl

  pub total_suc : (l : List ℕ) (n : ℕ) → total t l (suc n) ≡ length (with_head t (suc n) l) + total t l n
  unfolding total
  total_suc l n = refl

  pub total_on : (l : List ℕ) (n : ℕ) → total t l (n + 1) ≡ length (with_head t (n + 1) l) + total t l n
  total_on l n =
      let e : suc n ≡ n + 1 = omega arith in
      ap (total t l) (sym e) ∙ total_suc l n ∙ ap (λ (m : ℕ). length (with_head t m l) + total t l n) e

  total_add : (l : List ℕ) (n k : ℕ) → total t l n ≤ total t l (n + k)
  total_add l n zero =
      let e : n + 0 ≡ n = omega arith in
      omega (arith, ap (total t l) e)
  total_add l n (suc k) =
      let e : n + suc k ≡ n + k + 1 = omega arith in
      omega (arith, ap (total t l) e, total_on l (n + k), total_add l n k)

  pub total_rise : (l : List ℕ) (m n : ℕ) → m ≤ n → total t l m ≤ total t l n
  total_rise l m n h =
      let e : m + (n - m) ≡ n = omega arith in
      omega (arith, ap (total t l) e, total_add l m (n - m))

  total_nil : (n : ℕ) → total t [] n ≡ 0
  unfolding total with_head
  total_nil zero = refl
  total_nil (suc n) = omega (arith, total_nil n)

  -- one rule more: it is in as many lists as there are atoms in its head
  total_cons : (i : ℕ) (l : List ℕ) (n : ℕ) → total t (i ∷ l) n ≡ number n (λ q. has (suc q) (rule_at t i).head) + total t l n
  unfolding total with_head number bit
  total_cons i l zero = refl
  total_cons i l (suc n) = omega (arith, one (has (suc n) (rule_at t i).head), total_cons i l n)
    where
      one : (b : Bool) → length (cond b (i ∷ with_head t (suc n) l) (with_head t (suc n) l)) ≡ bit b + length (with_head t (suc n) l)
      one true = omega arith
      one false = omega arith

  head_words : (i : ℕ) → length (rule_at t i).head ≤ nat_at t i
  unfolding rule_at
  head_words i = omega (arith, length-map (part_at t i) nat_abs, length-take (nat_at t i) (drop (i + 1) t))

  -- the words from the first of these rules on
  total_within : (top most i m n : ℕ) → RulesLie top most t i m → total t (places_from t i m) n ≤ length t - i
  unfolding places_from RulesLie
  total_within top most i zero n h = omega (arith, total_nil n)
  total_within top most i (suc m) n h =
      let P = places_from t (past_rule t i) m in
      omega (
        arith,
        total_cons i P n,
        number_has n (rule_at t i).head,
        head_words i,
        h.0.aggs.fits,
        total_within top most (past_rule t i) m n h.1,
      )

pub total_fits : (t : List ℤ) (tb : Table) → Laid t tb → (n : ℕ) → total t (places_of t tb) n ≤ 16384
total_fits t tb h n = omega (arith, total_within t tb.atoms tb.aggregates tb.first tb.rules n h.rules_lie, h.short)
