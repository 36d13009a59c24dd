-- How the memory of a session is read after a word was stored in it. Assumes nothing.
--   number-*    a number kept at an index
--   copied-*    the table's words copied to the front
--   pins-*      the pins
use mathlib.Core.Path.{◌≡◌, refl, sym, ap, ◌∙◌}
use mathlib.Core.Logic.{◌≢◌, ◌⊎◌, inl, inr}
use mathlib.Core.Bool.{Bool, true, false, not, ◌||◌}
use mathlib.Core.List.{List, ◌∷◌, ◌++◌}
use Prim.Native.Nat.{ℕ, zero, suc, ◌+◌, ◌-◌, ◌≤◌, ◌<◌}
use native.Mathlib.Omega.{arith}
use native.Mathlib.Numerals.{add-one}
use borrow.Author.Tests.{lt-ltb, le-ltb, le-leb, lt-leb, eq-eqb, ne_eqb}
use lib.Dec.{ltb, leb, eqb}
use lib.IntN.{ℤ, pos, nat_abs}
use lib.ListN.{length, get_or, take, drop, set}
use lib.Seq.{take-suc, drop-cons, append_snoc, set-append_seam, length-take-le, get_or-set_same, get_or-set_other, take-set-le}
use mir.Syntax.{w32}
use mir.Val.{SFits}
use Rattle.std.specs.List.{list_any, range_with_len}
use Rattle.meaning.specs.Cond.{if_lt}
use Rattle.meaning.proofs.Cond.{if_lt_yes, if_lt_no, lt_case}
use Rattle.sessions.specs.Sessions.{Pin, Pins, is_held}
use Rattle.pins.specs.Memory.{number_at, count_in, table_in, atom_as, value_as, pin_word, word_at, pins_to, mode_word, cycles_in}

-- a small number as a signed word
pub fits : (n : ℕ) → n ≤ 16384 → SFits w32 (pos n)
fits n h = record { sfits = omega arith }

-- ---- numbers

pub number_big : (s : List ℤ) (i most : ℕ) → most < nat_abs (get_or s i (pos 0)) → number_at s i most ≡ 0
unfolding number_at
number_big s i most h = if_lt_yes most (nat_abs (get_or s i (pos 0))) 0 (nat_abs (get_or s i (pos 0))) h

pub number_is : (s : List ℤ) (i most : ℕ) → nat_abs (get_or s i (pos 0)) ≤ most → number_at s i most ≡ nat_abs (get_or s i (pos 0))
unfolding number_at
number_is s i most h = if_lt_no most (nat_abs (get_or s i (pos 0))) 0 (nat_abs (get_or s i (pos 0))) h

pub number_small : (s : List ℤ) (i most : ℕ) → number_at s i most ≤ most
number_small s i most = at (lt_case most (nat_abs (get_or s i (pos 0))))
  where
    at : (most < nat_abs (get_or s i (pos 0))) ⊎ (nat_abs (get_or s i (pos 0)) ≤ most) → number_at s i most ≤ most
    at (inl h) = let e = number_big s i most h in omega arith
    at (inr h) = let e = number_is s i most h in omega arith

pub number_by : (s u : List ℤ) (i most : ℕ) → get_or s i (pos 0) ≡ get_or u i (pos 0) → number_at s i most ≡ number_at u i most
unfolding number_at
number_by s u i most e = ap (λ (z : ℤ). if_lt most (nat_abs z) 0 (nat_abs z)) e

pub number_other : (s : List ℤ) (j : ℕ) (a : ℤ) (i most : ℕ) → i ≢ j → number_at (set s j a) i most ≡ number_at s i most
number_other s j a i most d = number_by (set s j a) s i most (get_or-set_other s j i a (pos 0) d)

pub number_same : (s : List ℤ) (i n most : ℕ) → i < length s → n ≤ most → number_at (set s i (pos n)) i most ≡ n
number_same s i n most h k =
    let e : nat_abs (get_or (set s i (pos n)) i (pos 0)) ≡ n = ap nat_abs (get_or-set_same s i (pos n) (pos 0) h) in
    number_is (set s i (pos n)) i most (omega arith) ∙ e

-- ---- the words

pub copied_more : (t s : List ℤ) (i : ℕ) → i < length t → i < length s → set (take i t ++ drop i s) i (get_or t i (pos 0)) ≡ take (i + 1) t ++ drop (i + 1) s
copied_more t s i h k =
    let l : length (take i t) ≡ i = length-take-le i t (omega arith) in
    ap (λ (d : List ℤ). set (take i t ++ d) i (get_or t i (pos 0))) (drop-cons s i (pos 0) k)
    ∙ ap (λ (j : ℕ). set (take i t ++ (get_or s i (pos 0) ∷ drop (suc i) s)) j (get_or t i (pos 0))) (sym l)
    ∙ set-append_seam (take i t) (get_or s i (pos 0)) (drop (suc i) s) (get_or t i (pos 0))
    ∙ sym (append_snoc (take i t) (get_or t i (pos 0)) (drop (suc i) s))
    ∙ ap (λ (x : List ℤ). x ++ drop (suc i) s) (sym (take-suc t i (pos 0) h))
    ∙ ap (λ (j : ℕ). take j t ++ drop j s) (sym (add-one i))

-- ---- the table

pub table_other : (s : List ℤ) (j : ℕ) (a : ℤ) → 16384 < j → table_in (set s j a) ≡ table_in s
table_other s j a h =
    let n : count_in (set s j a) ≡ count_in s = number_other s j a 16384 16384 (λ e. omega arith) in
    let l = number_small s 16384 16384 in
    ap (λ (k : ℕ). take k (set s j a)) n ∙ take-set-le (count_in s) s j a (omega arith)

-- ---- the mode

pub mode_other : (s : List ℤ) (j : ℕ) (a : ℤ) → 16450 ≢ j → cycles_in (set s j a) ≡ cycles_in s
mode_other s j a d = ap (λ (z : ℤ). not (eqb (nat_abs z) 0)) (get_or-set_other s j 16450 a (pos 0) d)

kept_mode : (cycles : Bool) → not (eqb (mode_word cycles) 0) ≡ cycles
kept_mode true = refl
kept_mode false = refl

pub mode_same : (s : List ℤ) (cycles : Bool) → 16450 < length s → cycles_in (set s 16450 (pos (mode_word cycles))) ≡ cycles
mode_same s cycles h = ap (λ (z : ℤ). not (eqb (nat_abs z) 0)) (get_or-set_same s 16450 (pos (mode_word cycles)) (pos 0) h) ∙ kept_mode cycles

pub mode_small : (cycles : Bool) → mode_word cycles ≤ 1
mode_small true = omega arith
mode_small false = omega arith

-- ---- the pins

pub pins_length : (s : List ℤ) (k : ℕ) → length (pins_to s k) ≡ k
unfolding pins_to
pins_length s zero = refl
pins_length s (suc k) = ap suc (pins_length s k)

pub pins_other : (s : List ℤ) (j : ℕ) (a : ℤ) (k : ℕ) → ((i : ℕ) → i < k → 16386 + i ≢ j) → pins_to (set s j a) k ≡ pins_to s k
unfolding pins_to
pins_other s j a zero d = refl
pins_other s j a (suc k) d =
    let e : word_at (set s j a) k ≡ word_at s k = ap nat_abs (get_or-set_other s j (16386 + k) a (pos 0) (d k (omega arith))) in
    ap (λ (m : ℕ). record { atom = atom_as m; value = value_as m } ∷ pins_to (set s j a) k) e
    ∙ ap (λ (l : Pins). record { atom = atom_as (word_at s k); value = value_as (word_at s k) } ∷ l) (pins_other s j a k (λ i h. d i (omega arith)))

-- a pin's word says the pin
pub word_pin : (p : ℕ) (v : Bool) → 1 ≤ p → p ≤ 256 → ◌≡◌ {A = Pin} (record { atom = atom_as (pin_word p v); value = value_as (pin_word p v) }) (record { atom = p; value = v })
word_pin p true h k =
    let a : atom_as p ≡ p = if_lt_no 256 p (p - 256) p k in
    let b : value_as p ≡ true = ap not (le-ltb 256 p k) in
    λ i. record { atom = a i; value = b i }
word_pin p false h k =
    let z : p + 256 - 256 ≡ p = omega arith in
    let a : atom_as (p + 256) ≡ p = if_lt_yes 256 (p + 256) (p + 256 - 256) (p + 256) (omega arith) ∙ z in
    let b : value_as (p + 256) ≡ false = ap not (lt-ltb 256 (p + 256) (omega arith)) in
    λ i. record { atom = a i; value = b i }

-- one pin more
pub pins_more : (s : List ℤ) (k p : ℕ) (v : Bool) → length s ≡ 16451 → k < 64 → 1 ≤ p → p ≤ 256 → pins_to (set s (16386 + k) (pos (pin_word p v))) (suc k) ≡ record { atom = p; value = v } ∷ pins_to s k
unfolding pins_to
pins_more s k p v l h i j =
    let u = set s (16386 + k) (pos (pin_word p v)) in
    let e : word_at u k ≡ pin_word p v = ap nat_abs (get_or-set_same s (16386 + k) (pos (pin_word p v)) (pos 0) (omega arith)) in
    ap (λ (m : ℕ). record { atom = atom_as m; value = value_as m } ∷ pins_to u k) e
    ∙ ap (λ (x : Pin). x ∷ pins_to u k) (word_pin p v i j)
    ∙ ap (λ (r : Pins). record { atom = p; value = v } ∷ r) (pins_other s (16386 + k) (pos (pin_word p v)) k (λ q g. λ z. omega arith))

-- ---- whether an atom is pinned

swap : (a b c : Bool) → (a || (b || c)) ≡ (b || (a || c))
swap true true c = refl
swap true false c = refl
swap false b c = refl

-- one number more in a range
any_more : (t : ℕ → Bool) (n a : ℕ) → list_any t (range_with_len a (suc n)) ≡ (t (a + n) || list_any t (range_with_len a n))
any_more t zero a = let e : a ≡ a + 0 = omega arith in ap (λ (k : ℕ). t k || false) e
any_more t (suc n) a =
    let e : a + 1 + n ≡ a + suc n = omega arith in
    ap (λ (b : Bool). t a || b) (any_more t n (a + 1) ∙ ap (λ (k : ℕ). t k || list_any t (range_with_len (a + 1) n)) e)
    ∙ swap (t a) (t (a + suc n)) (list_any t (range_with_len (a + 1) n))

pub held_none : (s : List ℤ) (p : ℕ) → is_held p (pins_to s 0) ≡ false
unfolding is_held pins_to
held_none s p = refl

pub held_here : (s : List ℤ) (p i : ℕ) → 0 < i → p ≡ atom_as (word_at s (i - 1)) → is_held p (pins_to s i) ≡ true
unfolding is_held pins_to
held_here s p zero h e = absurd (omega arith)
held_here s p (suc i) h e =
    let z : suc i - 1 ≡ i = omega arith in
    let f : p ≡ atom_as (word_at s i) = e ∙ ap (λ (k : ℕ). atom_as (word_at s k)) z in
    ap (λ (b : Bool). b || is_held p (pins_to s i)) (eq-eqb p (atom_as (word_at s i)) f)

pub held_later : (s : List ℤ) (p i : ℕ) → 0 < i → (p ≡ atom_as (word_at s (i - 1)) → ⊥) → is_held p (pins_to s i) ≡ is_held p (pins_to s (i - 1))
unfolding is_held pins_to
held_later s p zero h d = absurd (omega arith)
held_later s p (suc i) h d =
    let z : suc i - 1 ≡ i = omega arith in
    let f : p ≡ atom_as (word_at s i) → ⊥ = λ e. d (e ∙ ap (λ (k : ℕ). atom_as (word_at s k)) (sym z)) in
    ap (λ (b : Bool). b || is_held p (pins_to s i)) (ne_eqb p (atom_as (word_at s i)) f) ∙ ap (λ (k : ℕ). is_held p (pins_to s k)) (sym z)

pub held_any : (s : List ℤ) (p k : ℕ) → list_any (λ (i : ℕ). eqb p (atom_as (word_at s i))) (range_with_len 0 k) ≡ is_held p (pins_to s k)
unfolding is_held pins_to
held_any s p zero = refl
held_any s p (suc k) =
    let e : 0 + k ≡ k = omega arith in
    any_more (λ (i : ℕ). eqb p (atom_as (word_at s i))) k 0
    ∙ ap (λ (i : ℕ). eqb p (atom_as (word_at s i)) || list_any (λ (j : ℕ). eqb p (atom_as (word_at s j))) (range_with_len 0 k)) e
    ∙ ap (λ (b : Bool). eqb p (atom_as (word_at s k)) || b) (held_any s p k)

-- ---- tests of the code

pub leb_ltb : (a b : ℕ) → leb a b ≡ ltb a (suc b)
leb_ltb a b = at (lt_case b a)
  where
    at : (b < a) ⊎ (a ≤ b) → leb a b ≡ ltb a (suc b)
    at (inl h) = lt-leb a b h ∙ sym (le-ltb a (suc b) (omega arith))
    at (inr h) = le-leb a b h ∙ sym (lt-ltb a (suc b) (omega arith))

pub word_small : (p : ℕ) (v : Bool) → p ≤ 256 → pin_word p v ≤ 512
word_small p true h = omega arith
word_small p false h = omega arith
