-- The plan's bytes: written one further, and what each says of its atom. Assumes nothing.
use mathlib.Core.Path.{◌≡◌, refl, sym, ap, ◌∙◌}
use mathlib.Core.Bool.{false}
use mathlib.Core.List.{List, [], ◌∷◌, ◌++◌}
use Prim.Native.Nat.{ℕ, zero, suc, ◌+◌, ◌<◌, ◌≤◌}
use native.Mathlib.Numerals.{add-one}
use native.Mathlib.Omega.{arith}
use lib.Dec.{eqb}
use borrow.Author.Tests.{ne_eqb}
use lib.ListN.{length, get_or, set, drop, length-append, length-drop}
use lib.Seq.{drop-cons, append_snoc, set_at}
use Rattle.meaning.specs.Aggregates.{Atoms}
use Rattle.meaning.proofs.Cond.{if_lt_yes}
use Rattle.interpretation.specs.State.{truth_of, true_atoms}
use Rattle.interpretation.specs.View.{cell_by, valued}
use Rattle.interpretation.proofs.Laws.{cells_suc}
use Rattle.promises.specs.Plans.{bit_of, bytes_from, plan_with}

pub bytes_length : (X : Atoms) (p n : ℕ) → length (bytes_from X p n) ≡ n
bytes_length X p zero = refl
bytes_length X p (suc n) = ap suc (bytes_length X (suc p) n)

bytes_more : (X : Atoms) (p n : ℕ) → bytes_from X p (suc n) ≡ bytes_from X p n ++ (bit_of (X (p + n)) ∷ [])
bytes_more X p zero = let e : p ≡ p + 0 = omega arith in ap (λ (q : ℕ). bit_of (X q) ∷ []) e
bytes_more X p (suc n) =
    let e : suc p + n ≡ p + suc n = omega arith in
    ap (λ (l : List ℕ). bit_of (X p) ∷ l) (bytes_more X (suc p) n ∙ ap (λ (q : ℕ). bytes_from X (suc p) n ++ (bit_of (X q) ∷ [])) e)

module _ (X : Atoms) (old : List ℕ) (i : ℕ) (h : i < length old) where
  pub plan_more : (b : ℕ) → b ≡ bit_of (X (suc i)) → set (plan_with i X old) i b ≡ plan_with (i + 1) X old
  plan_more b e =
      let s : 1 + i ≡ suc i = omega arith in
      ap (λ (l : List ℕ). set (bytes_from X 1 i ++ l) i b) (drop-cons old i 0 h)
      ∙ set_at (bytes_from X 1 i) (get_or old i 0) (drop (suc i) old) b i (bytes_length X 1 i)
      ∙ sym (append_snoc (bytes_from X 1 i) b (drop (suc i) old))
      ∙ ap (λ (c : ℕ). (bytes_from X 1 i ++ (c ∷ [])) ++ drop (suc i) old) (e ∙ ap (λ (q : ℕ). bit_of (X q)) (sym s))
      ∙ ap (λ (l : List ℕ). l ++ drop (suc i) old) (sym (bytes_more X 1 i))
      ∙ ap (λ (k : ℕ). plan_with k X old) (sym (add-one i))

pub plan_long : (X : Atoms) (old : List ℕ) (n : ℕ) → n ≤ length old → length (plan_with n X old) ≡ length old
plan_long X old n h = let e = bytes_length X 1 n in simp (length-append, length-drop) (omega arith)

-- the byte of an atom's value, and whether the atom is true
truth_byte : (v : ℕ) → truth_of (cell_by v 0) ≡ eqb v 1
truth_byte zero = refl
truth_byte (suc zero) = refl
truth_byte (suc (suc v)) = sym (ne_eqb (suc (suc v)) 1 (λ e. omega arith))

pub plan_byte : (vs : List ℕ) (n i : ℕ) → i < n → bit_of (eqb (get_or vs i 0) 1) ≡ bit_of (true_atoms n (valued vs) (suc i))
plan_byte vs n i h =
    ap bit_of
    (sym (if_lt_yes i n (truth_of (valued vs (suc i))) false h ∙ ap truth_of (cells_suc vs [] i) ∙ truth_byte (get_or vs i 0)))
