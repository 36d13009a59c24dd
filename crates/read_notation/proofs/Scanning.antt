-- Where tokens begin and end, and what digits come to: the laws of `gap`, `span` and `value_from`, a byte at a time. Assumes nothing.
use mathlib.Core.Path.{◌≡◌, refl}
use mathlib.Core.Bool.{Bool, true, false, and-false}
use mathlib.Core.List.{List, [], ◌∷◌}
use Prim.Native.Nat.{ℕ, suc, ◌+◌, ◌*◌, ◌-◌, ◌<◌, ◌≤◌, max, min}
use native.Mathlib.Numerals.{add-one}
use native.Mathlib.Omega.{arith}
use borrow.Author.Tests.{le-leb, lt-leb, leb-true, leb-false}
use lib.Dec.{leb}
use lib.ListN.{length, get_or, drop, drop_of_length-le}
use lib.Seq.{drop-cons}
use Rattle.notation.specs.Tokens.{digit}
use Rattle.read_notation.specs.Scanning.{between, comment_after, gap, among, span, value_from}

-- ---- one byte

module _ (c : Bool) (b : ℕ) (bs : List ℕ) where
  pub gap_yes : between c b ≡ true → gap c (b ∷ bs) ≡ suc (gap (comment_after c b) bs)
  unfolding gap
  gap_yes e = rw (e, gap)

  pub gap_no : between c b ≡ false → gap c (b ∷ bs) ≡ 0
  unfolding gap
  gap_no e = rw (e, gap)

pub gap_none : (c : Bool) → gap c [] ≡ 0
unfolding gap
gap_none c = refl

module _ (kind : ℕ → Bool) (b : ℕ) (bs : List ℕ) where
  pub span_yes : kind b ≡ true → span kind (b ∷ bs) ≡ suc (span kind bs)
  unfolding span
  span_yes e = rw (e, span)

  pub span_no : kind b ≡ false → span kind (b ∷ bs) ≡ 0
  unfolding span
  span_no e = rw (e, span)

pub span_none : (kind : ℕ → Bool) → span kind [] ≡ 0
unfolding span
span_none kind = refl

module _ (n b : ℕ) (bs : List ℕ) where
  pub value_yes : digit b ≡ true → value_from n (b ∷ bs) ≡ value_from (n * 10 + (b - 48)) bs
  unfolding value_from
  value_yes e = rw (e, value_from)

  pub value_no : digit b ≡ false → value_from n (b ∷ bs) ≡ n
  unfolding value_from
  value_no e = rw (e, value_from)

pub value_none : (n : ℕ) → value_from n [] ≡ n
unfolding value_from
value_none n = refl

-- ---- the bytes from low to high

module _ (low high b : ℕ) where
  pub among_low : b < low → among low high b ≡ false
  among_low h = rw (lt-leb low b h)

  pub among_high : high < b → among low high b ≡ false
  among_high h = rw (lt-leb b high h) (and-false (leb low b))

  pub among_in : low ≤ b → b ≤ high → among low high b ≡ true
  among_in h k = rw (le-leb low b h, le-leb b high k)

-- ---- a loop's step: at index i of the bytes

module _ (bs : List ℕ) (i : ℕ) (h : i < length bs) where
  pub gap_on : (c : Bool) → between c (get_or bs i 0) ≡ true → i + gap c (drop i bs) ≡ i + 1 + gap (comment_after c (get_or bs i 0)) (drop (i + 1) bs)
  gap_on c e =
      let s = gap_yes c (get_or bs i 0) (drop (suc i) bs) e in
      rw (drop-cons bs i 0 h, s, add-one) (omega arith)

  pub gap_stop : (c : Bool) → between c (get_or bs i 0) ≡ false → i ≡ i + gap c (drop i bs)
  gap_stop c e =
      let s = gap_no c (get_or bs i 0) (drop (suc i) bs) e in
      rw (drop-cons bs i 0 h, s) (omega arith)

  pub span_on : (kind : ℕ → Bool) → kind (get_or bs i 0) ≡ true → i + span kind (drop i bs) ≡ i + 1 + span kind (drop (i + 1) bs)
  span_on kind e =
      let s = span_yes kind (get_or bs i 0) (drop (suc i) bs) e in
      rw (drop-cons bs i 0 h, s, add-one) (omega arith)

  pub span_stop : (kind : ℕ → Bool) → kind (get_or bs i 0) ≡ false → i ≡ i + span kind (drop i bs)
  span_stop kind e =
      let s = span_no kind (get_or bs i 0) (drop (suc i) bs) e in
      rw (drop-cons bs i 0 h, s) (omega arith)

-- past the end, or after a walk to the end
module _ (bs : List ℕ) (from i : ℕ) where
  past_end : (m n : ℕ) → (length bs ≤ i → m ≡ 0) → (length bs ≤ from → n ≡ 0) → length bs ≤ i → (from ≤ length bs → i ≤ length bs) → i + m ≡ from + n → max from (length bs) ≡ from + n
  past_end m n y z h e q = at (leb from (length bs)) refl
    where
      at : (b : Bool) → leb from (length bs) ≡ b → max from (length bs) ≡ from + n
      at true f = let g = e (leb-true from (length bs) f) in let u = y h in omega arith
      at false f = let g = leb-false from (length bs) f in let u = z (omega arith) in omega arith

  -- a loop that has ended at i, in a comment or not
  pub gap_past : (c : Bool) → length bs ≤ i → (from ≤ length bs → i ≤ length bs) → i + gap c (drop i bs) ≡ from + gap false (drop from bs) → max from (length bs) ≡ from + gap false (drop from bs)
  gap_past c = past_end _ _ (λ h. rw (drop_of_length-le bs h) (gap_none c)) (λ h. rw (drop_of_length-le bs h) (gap_none false))

  pub span_past : (kind : ℕ → Bool) → length bs ≤ i → (from ≤ length bs → i ≤ length bs) → i + span kind (drop i bs) ≡ from + span kind (drop from bs) → max from (length bs) ≡ from + span kind (drop from bs)
  span_past kind = past_end _ _ (λ h. rw (drop_of_length-le bs h) (span_none kind)) (λ h. rw (drop_of_length-le bs h) (span_none kind))

-- ---- values that are held at the cap: what is above it stays above

pub held_same : (l : List ℕ) (v w : ℕ) → min v 4194305 ≡ min w 4194305 → min (value_from v l) 4194305 ≡ min (value_from w l) 4194305
held_same [] v w e = rw (value_none v, value_none w) e
held_same (b ∷ bs) v w e = at (digit b) refl (λ x y f. held_same bs x y f)
  where
    at : (t : Bool) → digit b ≡ t → ((x y : ℕ) → min x 4194305 ≡ min y 4194305 → min (value_from x bs) 4194305 ≡ min (value_from y bs) 4194305) → min (value_from v (b ∷ bs)) 4194305 ≡ min (value_from w (b ∷ bs)) 4194305
    at true d f = rw (value_yes v b bs d, value_yes w b bs d) (f (v * 10 + (b - 48)) (w * 10 + (b - 48)) (omega arith))
    at false d f = rw (value_no v b bs d, value_no w b bs d) e

module _ (bs : List ℕ) (i : ℕ) (h : i < length bs) (v : ℕ) where
  pub held_on : digit (get_or bs i 0) ≡ true → min (value_from (min (v * 10 + (get_or bs i 0 - 48)) 4194305) (drop (i + 1) bs)) 4194305 ≡ min (value_from v (drop i bs)) 4194305
  held_on e =
      let b = get_or bs i 0 in
      rw (drop-cons bs i 0 h, value_yes v b (drop (suc i) bs) e, add-one)
      (held_same (drop (suc i) bs) (min (v * 10 + (b - 48)) 4194305) (v * 10 + (b - 48)) (omega arith))

  pub held_stop : digit (get_or bs i 0) ≡ false → v ≤ 4194305 → v ≡ min (value_from v (drop i bs)) 4194305
  held_stop e k = rw (drop-cons bs i 0 h, value_no v (get_or bs i 0) (drop (suc i) bs) e) (omega arith)

pub held_end : (bs : List ℕ) (i v : ℕ) → length bs ≤ i → v ≤ 4194305 → v ≡ min (value_from v (drop i bs)) 4194305
held_end bs i v h k = rw (drop_of_length-le bs h, value_none v) (omega arith)
