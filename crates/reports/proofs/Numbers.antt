-- The numbers of the records, written one atom after the other. Assumes nothing.
use mathlib.Core.Path.{◌≡◌, refl, sym, ap, ap₂, ◌∙◌}
use mathlib.Core.Bool.{Bool}
use mathlib.Core.List.{List, [], ◌∷◌, ◌++◌, append_assoc}
use Prim.Native.Nat.{ℕ, suc, ◌+◌, ◌*◌, ◌≤◌, ◌<◌}
use native.Mathlib.Omega.{arith}
use native.Mathlib.Numerals.{add-one}
use borrow.Author.Tests.{lt-ltb, le-ltb}
use lib.ListN.{length, length-append, get_or, set, take, drop}
use lib.Seq.{set_at, append_snoc, drop-cons, take-suc, take_all, length-take-le}
use Rattle.rounds.specs.declared.Why.{Why}
use Rattle.rounds.specs.Rounds.{no_why}
use Rattle.reports.specs.Whys.{numbers_of, written_by, whys_written}

numbers_length : (l : List Why) → length (numbers_of l) ≡ 2 * length l
numbers_length [] = refl
numbers_length (v ∷ l) = let e = numbers_length l in omega arith

numbers_append : (a b : List Why) → numbers_of (a ++ b) ≡ numbers_of a ++ numbers_of b
numbers_append [] b = refl
numbers_append (v ∷ a) b = ap (λ (l : List ℕ). v.round ∷ v.rule ∷ l) (numbers_append a b)

-- two stores at a seam
two : (a : List ℕ) (x y r k : ℕ) (rest : List ℕ) (n : ℕ) → length a ≡ n → set (set (a ++ x ∷ y ∷ rest) n r) (n + 1) k ≡ a ++ r ∷ k ∷ rest
two a x y r k rest n e =
    ap (λ (l : List ℕ). set l (n + 1) k) (set_at a x (y ∷ rest) r n e)
    ∙ ap (λ (l : List ℕ). set l (n + 1) k) (sym (append_snoc a r (y ∷ rest)))
    ∙ set_at (a ++ (r ∷ [])) y rest k (n + 1) (let h = length-append a (r ∷ []) in omega arith)
    ∙ append_snoc a r (k ∷ rest)

-- the numbers of the first i atoms stand at the front
abbrev pub front : List Why → List ℕ → ℕ → List ℕ
front ws old i = numbers_of (take i ws) ++ drop (2 * i) old

pub front_on : (ws : List Why) (old : List ℕ) (i : ℕ) → i < length ws → 2 * i + 1 < length old
    → set (set (front ws old i) (2 * i) (get_or ws i no_why).round) (2 * i + 1) (get_or ws i no_why).rule ≡ front ws old (i + 1)
front_on ws old i h g =
    let v = get_or ws i no_why in
    let n : length (numbers_of (take i ws)) ≡ 2 * i = numbers_length (take i ws) ∙ ap (λ (m : ℕ). 2 * m) (length-take-le i ws (omega arith)) in
    let d : drop (2 * i) old ≡ get_or old (2 * i) 0 ∷ get_or old (suc (2 * i)) 0 ∷ drop (suc (suc (2 * i))) old =
    drop-cons old (2 * i) 0 (omega arith) ∙ ap (λ (l : List ℕ). get_or old (2 * i) 0 ∷ l) (drop-cons old (suc (2 * i)) 0 (omega arith)) in
    let e : suc (suc (2 * i)) ≡ 2 * (i + 1) = omega arith in
    let m : numbers_of (take (i + 1) ws) ≡ numbers_of (take i ws) ++ (v.round ∷ v.rule ∷ []) =
    ap (λ (j : ℕ). numbers_of (take j ws)) (add-one i) ∙ ap numbers_of (take-suc ws i no_why h) ∙ numbers_append (take i ws) (v ∷ []) in
    ap (λ (l : List ℕ). set (set (numbers_of (take i ws) ++ l) (2 * i) v.round) (2 * i + 1) v.rule) d
    ∙ two (numbers_of (take i ws)) _ _ v.round v.rule (drop (suc (suc (2 * i))) old) (2 * i) n
    ∙ sym (append_assoc (numbers_of (take i ws)) (v.round ∷ v.rule ∷ []) (drop (suc (suc (2 * i))) old))
    ∙ ap₂ (λ (l : List ℕ) (j : ℕ). l ++ drop j old) (sym m) e

pub front_all : (ws : List Why) (old : List ℕ) (i : ℕ) → length ws ≡ i → front ws old i ≡ numbers_of ws ++ drop (2 * i) old
front_all ws old i e = ap (λ (l : List Why). numbers_of l ++ drop (2 * i) old) (take_all i ws (omega arith))

pub whys_short : (ws : List Why) (old : List ℕ) → length old < 512 → old ≡ whys_written ws old
whys_short ws old h = ap (λ (b : Bool). written_by b (numbers_of ws) old) (sym (lt-ltb (length old) 512 h))

pub whys_whole : (ws : List Why) (old : List ℕ) → 512 ≤ length old → numbers_of ws ++ drop 512 old ≡ whys_written ws old
whys_whole ws old h = ap (λ (b : Bool). written_by b (numbers_of ws) old) (sym (le-ltb (length old) 512 h))
