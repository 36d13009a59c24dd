-- The array of marks, read as rounds and rules of atoms.
-- Assumes nothing.
use Prim.Native.Nat.{ℕ, zero, suc, ◌+◌, ◌-◌, ◌%◌, ◌≤◌, ◌<◌}
use native.Mathlib.Omega.{arith}
use native.Mathlib.Numerals.{add-one}
use mathlib.Core.Path.{◌≡◌, refl, sym, ap, ◌∙◌, fun_ext}
use mathlib.Core.Logic.{◌⊎◌, inl, inr, ◌≢◌}
use mathlib.Core.Bool.{Bool, true, false, not, ◌&&◌}
use mathlib.Core.List.{List}
use lib.Dec.{eqb}
use lib.IntN.{ℤ}
use lib.ListN.{length, get_or, set}
use lib.Seq.{get_or-set_same, get_or-set_other}
use Rattle.meaning.specs.Cond.{if_eq}
use Rattle.meaning.specs.Lists.{all}
use Rattle.meaning.proofs.Tools.{eq_i, neq_i}
use Rattle.meaning.proofs.Cond.{if_eq_yes, if_eq_no, eq_case}
use Rattle.foundation.specs.Walk.{atom_of, positives}
use Rattle.rounds.specs.declared.Why.{Why}
use Rattle.rounds.specs.Rounds.{no_why, whys_in}
use Rattle.rounds.specs.Marks.{earlier}
use Rattle.explaining.specs.Walk.{due}

-- ---- an atom of the array

pub whys_suc : (ws : List Why) (i : ℕ) → whys_in ws (suc i) ≡ get_or ws i no_why
unfolding whys_in
whys_suc ws i = refl

pub whys_zero : (ws : List Why) → whys_in ws 0 ≡ no_why
unfolding whys_in
whys_zero ws = refl

-- the round of the atom at index i, and of the atom p
pub round_next : (ws : List Why) (i : ℕ) → (whys_in ws (i + 1)).round ≡ (get_or ws i no_why).round
round_next ws i = ap (λ (p : ℕ). (whys_in ws p).round) (add-one i) ∙ ap (λ (v : Why). v.round) (whys_suc ws i)

pub round_at : (ws : List Why) (p : ℕ) → 1 ≤ p → (whys_in ws p).round ≡ (get_or ws (p - 1) no_why).round
round_at ws p h = let e : p ≡ p - 1 + 1 = omega arith in ap (λ (q : ℕ). (whys_in ws q).round) e ∙ round_next ws (p - 1)

-- ---- whether a word is due

module _ (t : List ℤ) (r c : ℕ) where
  pub due_none : (w : ℕ → Why) → c ≡ 0 → due t r c w ≡ false
  due_none w e = ap (λ (b : Bool). not b && (eqb (w (atom_of c)).round 0 && all (earlier w r) (positives t c))) (eq_i e)

  module _ (ws : List Why) (n : c ≢ 0) where
    due_some : (b : Bool) → eqb ((get_or ws (c % 256) no_why).round) 0 ≡ b → due t r c (whys_in ws) ≡ (b && all (earlier (whys_in ws) r) (positives t c))
    due_some b e =
        ap (λ (d : Bool). not d && (eqb (whys_in ws (atom_of c)).round 0 && all (earlier (whys_in ws) r) (positives t c))) (neq_i c 0 n)
        ∙ ap (λ (k : ℕ). eqb k 0 && all (earlier (whys_in ws) r) (positives t c)) (round_next ws (c % 256))
        ∙ ap (λ (d : Bool). d && all (earlier (whys_in ws) r) (positives t c)) e

    pub due_marked : (get_or ws (c % 256) no_why).round ≢ 0 → due t r c (whys_in ws) ≡ false
    due_marked m = due_some false (neq_i ((get_or ws (c % 256) no_why).round) 0 m)

    pub due_open : (get_or ws (c % 256) no_why).round ≡ 0 → due t r c (whys_in ws) ≡ all (earlier (whys_in ws) r) (positives t c)
    due_open e = due_some true (eq_i e)

-- ---- one atom marked

pub whys_set : (ws : List Why) (i : ℕ) (v : Why) → i < length ws → whys_in (set ws i v) ≡ (λ (q : ℕ). if_eq q (i + 1) v (whys_in ws q))
whys_set ws i v h = fun_ext (λ q. at q (eq_case q (i + 1)))
  where
    at : (q : ℕ) → (q ≡ i + 1) ⊎ (q ≢ i + 1) → whys_in (set ws i v) q ≡ if_eq q (i + 1) v (whys_in ws q)
    at q (inl e) = ap (whys_in (set ws i v)) (e ∙ add-one i) ∙ whys_suc (set ws i v) i ∙ get_or-set_same ws i v no_why h ∙ sym (if_eq_yes q (i + 1) _ _ e)
    at zero (inr n) = whys_zero (set ws i v) ∙ sym (whys_zero ws) ∙ sym (if_eq_no 0 (i + 1) _ _ n)
    at (suc j) (inr n) =
        let m : j ≢ i = λ e. n (omega arith) in
        whys_suc (set ws i v) j ∙ get_or-set_other ws i j v no_why m ∙ sym (whys_suc ws j) ∙ sym (if_eq_no (suc j) (i + 1) _ _ n)
