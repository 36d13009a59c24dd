-- The list of the dropped rules' numbers while it grows: n stand, and l are to come; the rest is as it was. Assumes nothing.
use mathlib.Core.Path.{◌≡◌, refl, sym, ap, ◌∙◌}
use mathlib.Core.Bool.{Bool, true, false, cond, not, ◌||◌}
use mathlib.Core.List.{List, [], ◌∷◌, ◌++◌, append-nil}
use Prim.Native.Nat.{ℕ, suc, ◌+◌, ◌-◌, ◌≤◌, ◌<◌}
use native.Mathlib.Numerals.{add-one}
use native.Mathlib.Omega.{arith}
use lib.IntN.{ℤ}
use lib.ListN.{length, set, take, drop, take-append-drop}
use lib.Seq.{append_snoc, take-suc-set, drop-set-lt, drop-drop, length-take-le}
use Rattle.meaning.specs.Lists.{cons_if}
use Rattle.meaning.specs.Program.{Rule, Program}
use Rattle.layout.specs.Layout.{past_rule, rule_at, rules_from}
use Rattle.layout.proofs.Rounds.{rules_on, rules_none}
use Rattle.promises.specs.Plans.{bit_of}
use Rattle.relaxing.specs.Relaxing.{headed, dropped_from}

-- ---- one rule at a time

module _ (kept : ℕ → Bool) (t : List ℤ) (i k n : ℕ) where
  dropped_cons : (r : Rule) (P : Program) → dropped_from kept k (r ∷ P) ≡ cons_if (not (headed r || kept k)) k (dropped_from kept (suc k) P)
  unfolding dropped_from
  dropped_cons r P = refl

  dropped_nil : dropped_from kept k [] ≡ []
  unfolding dropped_from
  dropped_nil = refl

  pub dropped_on : 0 < n → dropped_from kept k (rules_from t i n) ≡ cons_if (not (headed (rule_at t i) || kept k)) k (dropped_from kept (suc k) (rules_from t (past_rule t i) (n - 1)))
  dropped_on h = ap (dropped_from kept k) (rules_on t i n h) ∙ dropped_cons (rule_at t i) (rules_from t (past_rule t i) (n - 1))

  pub dropped_none : n ≤ 0 → dropped_from kept k (rules_from t i n) ≡ []
  dropped_none h = ap (dropped_from kept k) (rules_none t i n h) ∙ dropped_nil

-- ---- the list

module _ (a old : List ℕ) (n x : ℕ) (l w : List ℕ) (h : n < length a) where
  pub grows : (b : Bool) → take n a ++ cons_if b x l ≡ w → take (n + bit_of b) (cond b (set a n x) a) ++ l ≡ w
  grows true e =
      ap (λ (m : ℕ). take m (set a n x) ++ l) (add-one n) ∙ ap (λ (m : List ℕ). m ++ l) (take-suc-set a n x h) ∙ append_snoc (take n a) x l ∙ e
  grows false e = let z : n + 0 ≡ n = omega arith in ap (λ (m : ℕ). take m a ++ l) z ∙ e

  pub stays : (b : Bool) → drop n a ≡ drop n old → drop (n + bit_of b) (cond b (set a n x) a) ≡ drop (n + bit_of b) old
  stays true e = drop-set-lt (n + 1) a n x (omega arith) ∙ later a old e
    where
      later : (a old : List ℕ) → drop n a ≡ drop n old → drop (n + 1) a ≡ drop (n + 1) old
      later a old e = sym (drop-drop 1 n a) ∙ ap (drop 1) e ∙ drop-drop 1 n old
  stays false e = let z : n + 0 ≡ n = omega arith in ap (λ (m : ℕ). drop m a) z ∙ e ∙ sym (ap (λ (m : ℕ). drop m old) z)

-- when all have been walked past
pub whole : (a old : List ℕ) (n : ℕ) (w : List ℕ) → n ≤ length a → take n a ++ [] ≡ w → drop n a ≡ drop n old → (n ≡ length w) × (a ≡ w ++ drop (length w) old)
whole a old n w h e f =
    let g : take n a ≡ w = sym (append-nil (take n a)) ∙ e in
    let m : n ≡ length w = sym (length-take-le n a h) ∙ ap (λ (l : List ℕ). length l) g in
    (m, sym (take-append-drop n a) ∙ ap (λ (l : List ℕ). l ++ drop n a) g ∙ ap (λ (l : List ℕ). w ++ l) f ∙ ap (λ (k : ℕ). w ++ drop k old) m)

-- as the walk goes on by one rule: the numbers that stand and those to come are the same all the way
pub drops_on : (kept : ℕ → Bool) (t : List ℤ) (a a' : List ℕ) (n n' at at' i m m' : ℕ) (b : Bool) (w : List ℕ)
    → b ≡ not (headed (rule_at t at) || kept (i + 1)) → a' ≡ cond b (set a n (i + 1)) a → n' ≡ n + bit_of b → at' ≡ past_rule t at → 0 < m → m' ≡ m - 1 → n < length a
    → take n a ++ dropped_from kept (suc i) (rules_from t at m) ≡ w → take n' a' ++ dropped_from kept (suc (i + 1)) (rules_from t at' m') ≡ w
drops_on kept t a a' n n' at at' i m m' b w drops list count next more less fits e =
    let j = add-one i in
    let d = dropped_on kept t at (suc i) m more in
    let stood : take n a ++ cons_if b (suc i) (dropped_from kept (suc (suc i)) (rules_from t (past_rule t at) (m - 1))) ≡ w = cc in
    let s = grows a a n (suc i) (dropped_from kept (suc (suc i)) (rules_from t (past_rule t at) (m - 1))) w fits b stood in
    cc
