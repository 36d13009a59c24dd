-- An offered plan: its first bad byte, and the values that it gives the atoms. Assumes nothing.
use mathlib.Core.Path.{◌≡◌, refl, sym, ap, ◌∙◌, fun_ext, subst}
use mathlib.Core.Logic.{◌⊎◌, inl, inr}
use mathlib.Core.Bool.{Bool, true, false}
use mathlib.Core.List.{List, [], ◌∷◌}
use Rattle.std.specs.Prelude.{Option, Some, None, cond}
use Rattle.std.specs.List.{position_from}
use Prim.Native.Nat.{ℕ, zero, suc, ◌+◌, ◌-◌, ◌≤◌, ◌<◌}
use native.Mathlib.Omega.{arith}
use native.Mathlib.Numerals.{add-one}
use lib.Dec.{eqb, ltb}
use lib.ListN.{length, get_or, take, drop}
use lib.Seq.{drop-cons}
use borrow.Author.Tests.{lt-ltb, le-ltb}
use Rattle.meaning.specs.Cond.{if_lt}
use Rattle.meaning.proofs.Cond.{if_lt_no, lt_case}
use Rattle.interpretation.specs.State.{Cell, defined, truth_of, true_atoms}
use Rattle.interpretation.specs.View.{cell_by, byte_of, valued}
use Rattle.interpretation.proofs.Laws.{cells_suc}
use Rattle.promises.specs.Plans.{plan_atoms}
use Rattle.solver.specs.Approving.{Bit, is_zero, is_one, Bits, BadByte}
use Rattle.solver.specs.Plans.{bad_or, bad_from, Offers}

-- ---- the first bad byte

bad_suc : (plan : List ℕ) (i k : ℕ) → bad_from plan i (suc k) ≡ bad_or (ltb 1 (get_or plan i 0)) i (bad_from plan (suc i) k)
unfolding bad_from
bad_suc plan i k = refl

pub bad_none : (plan : List ℕ) (i : ℕ) → bad_from plan i 0 ≡ None
unfolding bad_from
bad_none plan i = refl

pub bad_here : (plan : List ℕ) (i k : ℕ) → 0 < k → 1 < get_or plan i 0 → bad_from plan i k ≡ Some i
bad_here plan i zero h b = absurd (omega arith)
bad_here plan i (suc k) h b = bad_suc plan i k ∙ ap (λ (x : Bool). bad_or x i (bad_from plan (suc i) k)) (lt-ltb _ _ b)

pub bad_later : (plan : List ℕ) (i k : ℕ) → 0 < k → get_or plan i 0 ≤ 1 → bad_from plan i k ≡ bad_from plan (i + 1) (k - 1)
bad_later plan i zero h b = absurd (omega arith)
bad_later plan i (suc k) h b =
    let e : suc k - 1 ≡ k = omega arith in
    bad_suc plan i k ∙ ap (λ (x : Bool). bad_or x i (bad_from plan (suc i) k)) (le-ltb _ _ b) ∙ sym (ap (bad_from plan (i + 1)) e ∙ ap (λ (j : ℕ). bad_from plan j k) (add-one i))

-- the byte that the library's `position` finds
bad_cond : (b : Bool) (i : ℕ) (o : Option ℕ) → bad_or b i o ≡ cond b (Some i) o
bad_cond true i o = refl
bad_cond false i o = refl

pub bad_position : (plan : List ℕ) (k i : ℕ) → i + k ≤ length plan → bad_from plan i k ≡ position_from (λ b. ltb 1 b) i (take k (drop i plan))
bad_position plan zero i h = bad_none plan i
bad_position plan (suc k) i h =
    let e : drop i plan ≡ get_or plan i 0 ∷ drop (suc i) plan = drop-cons plan i 0 (omega arith) in
    bad_suc plan i k
    ∙ bad_cond (ltb 1 (get_or plan i 0)) i (bad_from plan (suc i) k)
    ∙ ap (λ (o : Option ℕ). cond (ltb 1 (get_or plan i 0)) (Some i) o) (bad_position plan k (suc i) (omega arith))
    ∙ ap (λ (j : ℕ). cond (ltb 1 (get_or plan i 0)) (Some i) (position_from (λ b. ltb 1 b) j (take k (drop (suc i) plan)))) (sym (add-one i))
    ∙ ap (λ (l : List ℕ). position_from (λ b. ltb 1 b) i (take (suc k) l)) (sym e)

-- ---- what it says

bit_of_lem : (b : ℕ) → b ≤ 1 → Bit b
bit_of_lem zero h = is_zero refl
bit_of_lem (suc zero) h = is_one refl
bit_of_lem (suc (suc b)) h = absurd (omega arith)

bit_small : (b : ℕ) → Bit b → 1 < b → ⊥
bit_small b (is_zero e) h = omega arith
bit_small b (is_one e) h = omega arith

-- what is said where all bytes before i are 0 or 1
Says : List ℕ → ℕ → Option ℕ → Type 0
Says plan n (Some j) = BadByte n plan j
Says plan n None = Bits n plan

says_from : (plan : List ℕ) (k i : ℕ) → Bits i plan → Says plan (i + k) (bad_from plan i k)
unfolding Says
says_from plan zero i h = subst (Says plan (i + 0)) (sym (bad_none plan i)) (λ j l. h j (omega arith))
says_from plan (suc k) i h = at (λ g. says_from plan k (suc i) g) (lt_case 1 (get_or plan i 0))
  where
    more : get_or plan i 0 ≤ 1 → Bits (suc i) plan
    more b j l = pick (lt_case j i)
      where
        pick : (j < i) ⊎ (i ≤ j) → Bit (get_or plan j 0)
        pick (inl s) = h j s
        pick (inr s) = let e : i ≡ j = omega arith in subst (λ (m : ℕ). Bit (get_or plan m 0)) e (bit_of_lem (get_or plan i 0) b)

    at : (Bits (suc i) plan → Says plan (suc i + k) (bad_from plan (suc i) k)) → (1 < get_or plan i 0) ⊎ (get_or plan i 0 ≤ 1) → Says plan (i + suc k) (bad_from plan i (suc k))
    at ih (inl b) =
        subst (Says plan (i + suc k)) (sym (bad_here plan i (suc k) (omega arith) b)) (record { inside = omega arith; bad = λ x. bit_small (get_or plan i 0) x b; before = λ j l. h j l })
    at ih (inr b) =
        let e : suc i + k ≡ i + suc k = omega arith in
        subst (λ (n : ℕ). Says plan n (bad_from plan i (suc k))) e
        (subst (Says plan (suc i + k)) (sym (bad_suc plan i k ∙ ap (λ (x : Bool). bad_or x i (bad_from plan (suc i) k)) (le-ltb _ _ b))) (ih (more b)))

says : (plan : List ℕ) (n : ℕ) → Says plan n (bad_from plan 0 n)
says plan n = let e : 0 + n ≡ n = omega arith in subst (λ (k : ℕ). Says plan k (bad_from plan 0 n)) e (says_from plan n 0 (λ j l. absurd (omega arith)))

pub bad_byte : (plan : List ℕ) (n j : ℕ) → bad_from plan 0 n ≡ Some j → BadByte n plan j
unfolding Says
bad_byte plan n j e = subst (Says plan n) e (says plan n)

pub good_bits : (plan : List ℕ) (n : ℕ) → bad_from plan 0 n ≡ None → Bits n plan
unfolding Says
good_bits plan n e = subst (Says plan n) e (says plan n)

pub bad_or_good : (plan : List ℕ) (n : ℕ) → ((i : ℕ) × BadByte n plan i) ⊎ Bits n plan
bad_or_good plan n = at (bad_from plan 0 n) refl
  where
    at : (o : Option ℕ) → bad_from plan 0 n ≡ o → ((i : ℕ) × BadByte n plan i) ⊎ Bits n plan
    at (Some i) e = inl (i, bad_byte plan n i e)
    at None e = inr (good_bits plan n e)

-- ---- the values of a plan

module _ (n : ℕ) (plan vs : List ℕ) (h : (j : ℕ) → j < n → get_or vs j 0 ≡ byte_of (eqb (get_or plan j 0) 1)) where
  cell_of : (b : Bool) → cell_by (byte_of b) 0 ≡ defined b 0
  cell_of true = refl
  cell_of false = refl

  cell_at : (i : ℕ) → i < n → valued vs (suc i) ≡ defined (eqb (get_or plan i 0) 1) 0
  cell_at i l = cells_suc vs [] i ∙ ap (λ (v : ℕ). cell_by v 0) (h i l) ∙ cell_of (eqb (get_or plan i 0) 1)

  atom_at : (p : ℕ) → true_atoms n (valued vs) p ≡ plan_atoms n plan p
  atom_at zero = refl
  atom_at (suc i) = pick (lt_case i n)
    where
      pick : (i < n) ⊎ (n ≤ i) → if_lt i n (truth_of (valued vs (suc i))) false ≡ if_lt i n (eqb (get_or plan i 0) 1) false
      pick (inl l) = ap (λ (c : Cell). if_lt i n (truth_of c) false) (cell_at i l)
      pick (inr l) = if_lt_no i n (truth_of (valued vs (suc i))) false l ∙ sym (if_lt_no i n (eqb (get_or plan i 0) 1) false l)

  pub offers : Offers n plan vs
  offers = record {
    says = fun_ext atom_at;
    whole = λ p a b.
        let e : suc (p - 1) ≡ p = omega arith in
        (eqb (get_or plan (p - 1) 0) 1, 0, subst (λ (q : ℕ). valued vs q ≡ defined (eqb (get_or plan (p - 1) 0) 1) 0) e (cell_at (p - 1) (omega arith)));
  }
