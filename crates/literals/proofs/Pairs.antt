-- The pairs of value and atom of an aggregate that lies in the table, walked from the first to the last. Assumes nothing.
use mathlib.Core.Path.{◌≡◌, refl, sym, ◌∙◌, ap, subst}
use mathlib.Core.Logic.{◌⊎◌, inl, inr}
use mathlib.Core.List.{List, [], ◌∷◌}
use Prim.Native.Nat.{ℕ, zero, suc, ◌+◌, ◌-◌, ◌*◌, ◌/◌, ◌≤◌, ◌<◌}
use native.Mathlib.Omega.{arith}
use lib.IntN.{ℤ, pos, negsuc, nat_abs}
use lib.ListN.{length, get_or, take, drop, drop_of_length-le}
use lib.Seq.{drop-cons, get_or-take, get_or-drop}
use Rattle.std.proofs.lemmas.List.{drop-drop}
use Rattle.std.specs.Simd.{first_chunks}
use Rattle.meaning.proofs.Cond.{lt_case}
use Rattle.meaning.specs.Program.{Element}
use Rattle.layout.specs.Layout.{nat_at, pairs, pairs_at, start_from, AggregateLies, Laid, Members}
use Rattle.layout.specs.declared.Table.{Table}
use Rattle.literals.specs.Elements.{Paired}
use Rattle.std.specs.Prelude.{T}
use lib.Signed.{non_neg}

-- ---- one pair at a time

-- the pair at index 2 i
abbrev pub pair_on : List ℤ → ℕ → Element
pair_on w i = record { value = nat_abs (get_or w (2 * i) (pos 0)); atom = nat_abs (get_or w (2 * i + 1) (pos 0)) }

module _ (w : List ℤ) (i : ℕ) where
  words_on : 2 * i + 1 < length w → drop (2 * i) w ≡ get_or w (2 * i) (pos 0) ∷ get_or w (2 * i + 1) (pos 0) ∷ drop (2 * (i + 1)) w
  words_on h =
      let e : suc (suc (2 * i)) ≡ 2 * (i + 1) = omega arith in
      let s : suc (2 * i) ≡ 2 * i + 1 = omega arith in
      drop-cons w (2 * i) (pos 0) (omega arith)
      ∙ ap (λ (m : List ℤ). get_or w (2 * i) (pos 0) ∷ m) (drop-cons w (suc (2 * i)) (pos 0) (omega arith))
      ∙ ap (λ (j : ℕ). get_or w (2 * i) (pos 0) ∷ get_or w j (pos 0) ∷ drop (suc (suc (2 * i))) w) s
      ∙ ap (λ (j : ℕ). get_or w (2 * i) (pos 0) ∷ get_or w (2 * i + 1) (pos 0) ∷ drop j w) e

  pub pairs_on : 2 * i + 1 < length w → pairs (drop (2 * i) w) ≡ pair_on w i ∷ pairs (drop (2 * (i + 1)) w)
  unfolding pairs
  pairs_on h = ap pairs (words_on h)

  pub pairs_end : length w ≤ 2 * i + 1 → pairs (drop (2 * i) w) ≡ []
  unfolding pairs
  pairs_end h = at (lt_case (2 * i) (length w))
    where
      at : (2 * i < length w) ⊎ (length w ≤ 2 * i) → pairs (drop (2 * i) w) ≡ []
      at (inl k) = ap pairs (drop-cons w (2 * i) (pos 0) k ∙ ap (λ (m : List ℤ). get_or w (2 * i) (pos 0) ∷ m) (drop_of_length-le w {i = suc (2 * i)} (omega arith)))
      at (inr k) = ap pairs (drop_of_length-le w k)

-- ---- the words as arrays of two: the words of pair i

chunk_at : (w : List ℤ) (n i : ℕ) (d : List ℤ) → i < n → get_or (first_chunks 2 n w) i d ≡ take 2 (drop (2 * i) w)
chunk_at w zero i d h = absurd (omega arith)
chunk_at w (suc n) zero d h = refl
chunk_at w (suc n) (suc i) d h =
    let e : 2 + 2 * i ≡ 2 * suc i = omega arith in
    chunk_at (drop 2 w) n i d (omega arith) ∙ ap (take 2) (drop-drop (2 * i) 2 w ∙ ap (λ (j : ℕ). drop j w) e)

module _ (w : List ℤ) (front : List (List ℤ)) (e : front ≡ first_chunks 2 (length w / 2) w) (n : length front ≡ length w / 2) (i : ℕ) (h : i < length front) where
  read : (j : ℕ) → j < 2 → get_or (get_or front i []) j (pos 0) ≡ get_or w (2 * i + j) (pos 0)
  read j g =
      ap (λ (l : List (List ℤ)). get_or (get_or l i []) j (pos 0)) e ∙ ap (λ (l : List ℤ). get_or l j (pos 0)) (chunk_at w (length w / 2) i [] (omega arith))
      ∙ get_or-take 2 (drop (2 * i) w) j (pos 0) g ∙ get_or-drop (2 * i) w j (pos 0)

  pub value_read : get_or (get_or front i []) 0 (pos 0) ≡ get_or w (2 * i) (pos 0)
  value_read = let z : 2 * i + 0 ≡ 2 * i = omega arith in read 0 (omega arith) ∙ ap (λ (j : ℕ). get_or w j (pos 0)) z

  pub atom_read : get_or (get_or front i []) 1 (pos 0) ≡ get_or w (2 * i + 1) (pos 0)
  atom_read = read 1 (omega arith)

  -- what is asked of a word that names an atom, and of one that is a value
  pub atom_asked : Paired w → (z : ℤ) → z ≡ get_or (get_or front i []) 1 (pos 0) → (1 ≤ nat_abs z) × (nat_abs z ≤ 256) × T (non_neg z)
  atom_asked P z f =
      let g = f ∙ atom_read in
      let k = P.atoms i (omega arith) in
      rw g (k.0, k.1, P.plain (2 * i + 1) (omega arith))

  pub value_asked : Paired w → (z : ℤ) → z ≡ get_or (get_or front i []) 0 (pos 0) → T (non_neg z)
  value_asked P z f = let g = f ∙ value_read in rw g (P.plain (2 * i) (omega arith))

  pub atom_within : Paired w → (p : ℕ) → p ≡ nat_abs (get_or (get_or front i []) 1 (pos 0)) → (1 ≤ p) × (p ≤ 256)
  atom_within P p f = let k = atom_asked P (get_or (get_or front i []) 1 (pos 0)) refl in rw f (k.0, k.1)

  pub pairs_read : pairs (drop (2 * i) w) ≡ pair_on w i ∷ pairs (drop (2 * (i + 1)) w)
  pairs_read = pairs_on w i (omega arith)

pub pairs_length : (w : List ℤ) → length (pairs w) ≡ length w / 2
unfolding pairs
pairs_length [] = refl
pairs_length (v ∷ []) = omega arith
pairs_length (v ∷ p ∷ w) = let h = pairs_length w in omega arith

-- ---- what lies in the table

pub threshold_most : (z : ℤ) → ((n : ℕ) → z ≡ pos n → n ≤ 4194304) → ((n : ℕ) → z ≡ negsuc n → n ≡ 0) → nat_abs z ≤ 4194304
threshold_most (ℤ.pos n) f g = f n refl
threshold_most (negsuc n) f g = let e = g n refl in omega arith

module _ (t : List ℤ) (i : ℕ) (L : AggregateLies 256 t i) where
  pub limit_most : nat_abs (get_or t (i + 2) (pos 0)) ≤ 4194304
  limit_most = threshold_most (get_or t (i + 2) (pos 0)) L.threshold L.lowest

  take_most : (n : ℕ) (l : List ℤ) → length (take n l) ≤ n
  take_most zero l = omega arith
  take_most (suc n) [] = omega arith
  take_most (suc n) (x ∷ l) = let h = take_most n l in omega arith

  word : (k : ℕ) → k < 2 * nat_at t (i + 3) → get_or (pairs_at t i) k (pos 0) ≡ get_or t (i + 4 + k) (pos 0)
  word k h = get_or-take (2 * nat_at t (i + 3)) (drop (i + 4) t) k (pos 0) h ∙ get_or-drop (i + 4) t k (pos 0)

  pub paired : Paired (pairs_at t i)
  paired = record {
    short = let h = take_most (2 * nat_at t (i + 3)) (drop (i + 4) t) in let f = L.few in omega arith;
    values = λ k h.
        let m = take_most (2 * nat_at t (i + 3)) (drop (i + 4) t) in
        subst (λ (z : ℤ). nat_abs z ≤ 65535) (sym (word (2 * k) (omega arith))) (L.values k (omega arith));
    atoms = λ k h.
        let m = take_most (2 * nat_at t (i + 3)) (drop (i + 4) t) in
        let e : i + 4 + 2 * k + 1 ≡ i + 4 + (2 * k + 1) = omega arith in
        subst (λ (z : ℤ). (1 ≤ nat_abs z) × (nat_abs z ≤ 256)) (ap (λ (j : ℕ). get_or t j (pos 0)) e ∙ sym (word (2 * k + 1) (omega arith))) (L.atoms k (omega arith));
    plain = L.plain;
  }

pub ranged : (t : List ℤ) (i : ℕ) → AggregateLies 256 t i → (w : List ℤ) → w ≡ pairs_at t i → Paired w
ranged t i L w e = rw e (paired t i L)

-- the aggregate of a literal lies where its place says
module _ (t : List ℤ) (tb : Table) (L : Laid t tb) (l : List ℤ) (M : Members tb.aggregates l) (k : ℕ) (h : k < length l) where
  abbrev j : ℕ
  j = nat_abs (get_or l k (pos 0))

  pub numbered : (1 ≤ j) × (j ≤ 64)
  numbered = let m = M k h in let f = L.few_aggregates in (m.0, omega arith)

  pub place : get_or tb.starts (j - 1) 0 ≡ start_from t 2 (j - 1)
  place = let m = M k h in L.starts (j - 1) (omega arith)

  pub lies : AggregateLies 256 t (start_from t 2 (j - 1))
  lies =
      let m = M k h in
      let f = L.few_atoms in
      let G = L.aggregates (j - 1) (omega arith) in
      record {
        fits = G.fits;
        few = G.few;
        functions = G.functions;
        comparisons = G.comparisons;
        threshold = G.threshold;
        lowest = G.lowest;
        values = G.values;
        atoms = λ q g. let b = G.atoms q g in (b.0, omega arith);
        ascend = G.ascend;
        plain = G.plain;
      }

  pub lies_at : (s : ℕ) → s ≡ get_or tb.starts (j - 1) 0 → AggregateLies 256 t s
  lies_at s e = subst (AggregateLies 256 t) (sym (e ∙ place)) lies
