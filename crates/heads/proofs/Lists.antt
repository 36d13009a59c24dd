-- Parts of an array: one that grows at its end, and its words.
--   part a i n   the n words from index i on
-- Assumes nothing.
use mathlib.Core.Path.{◌≡◌, sym, ap, ◌∙◌}
use mathlib.Core.List.{List, [], ◌∷◌, ◌++◌}
use Prim.Native.Nat.{ℕ, suc, ◌+◌, ◌<◌}
use native.Mathlib.Omega.{arith}
use lib.ListN.{length, get_or, take, drop, set, length-drop}
use lib.Seq.{append_snoc, drop-set-add, take-suc-set, get_or-take, get_or-drop}

abbrev pub part : List ℕ → ℕ → ℕ → List ℕ
part a i n = take n (drop i a)

-- ---- a list that grows at its end

-- one more behind the n words from i on
pub grown : (a : List ℕ) (i n x : ℕ) → i + n < length a → part (set a (i + n) x) i (n + 1) ≡ part a i n ++ (x ∷ [])
grown a i n x h =
    let s : n + 1 ≡ suc n = omega arith in
    ap (part (set a (i + n) x) i) s ∙ ap (take (suc n)) (drop-set-add i a n x) ∙ take-suc-set (drop i a) n x (omega (arith, length-drop i a))

-- those that stand and those to come are the same as before where the first to come is written
pub moved : (a : List ℕ) (i n x : ℕ) (l w : List ℕ) → i + n < length a → part a i n ++ x ∷ l ≡ w → part (set a (i + n) x) i (n + 1) ++ l ≡ w
moved a i n x l w h e = ap (λ (m : List ℕ). m ++ l) (grown a i n x h) ∙ append_snoc (part a i n) x l ∙ e

-- ---- words of a part

pub part_word : (a : List ℕ) (i n k : ℕ) (w : List ℕ) → part a i n ≡ w → k < n → get_or a (i + k) 0 ≡ get_or w k 0
part_word a i n k w e h = sym (get_or-drop i a k 0) ∙ sym (get_or-take n (drop i a) k 0 h) ∙ ap (λ (m : List ℕ). get_or m k 0) e
