-- The line of a result: its atoms one by one, and how long it can be. Assumes nothing.
use mathlib.Core.Path.{◌≡◌, refl, sym, ap, ◌∙◌}
use mathlib.Core.Bool.{Bool, true, false}
use mathlib.Core.List.{List, [], ◌∷◌, ◌++◌, append_assoc, append-nil}
use Prim.Native.Nat.{ℕ, zero, suc, ◌+◌, ◌*◌, ◌<◌, ◌≤◌, ◌^◌, min}
use native.Mathlib.Numerals.{add-one}
use native.Mathlib.Omega.{arith}
use borrow.Author.Tests.{eq-eqb, ne_eqb, lt-ltb, le-ltb}
use lib.Dec.{eqb}
use lib.ListN.{length, take, get_or, length-append, length-take}
use lib.Seq.{take-suc, length-take-le}
use Rattle.results.specs.declared.Refusal.{Refusal}
use Rattle.results.specs.declared.Solved.{Solved}
use Rattle.std.specs.Prelude.{Result}
use Rattle.text.specs.Text.{pick}
use Rattle.text.specs.Line.{decimal, pair, atom, atoms_from, answer_word, line, answer_line, line_of, PrintAs}
use Rattle.text.specs.Putting.{Put}
use Rattle.text.proofs.Decimal.{decimal_length}
use Rattle.text.proofs.Putting.{put_length, put_whole}

-- ---- one atom

pub atom_true : (p b : ℕ) → b ≡ 1 → atom p b ≡ 32 ∷ decimal p
unfolding atom
atom_true p b e = rw (eq-eqb b 1 e)

pub atom_false : (p b : ℕ) → (b ≡ 1 → ⊥) → atom p b ≡ []
unfolding atom
atom_false p b e = rw (ne_eqb b 1 e)

atoms_cons : (p b : ℕ) (l : List ℕ) → atoms_from p (b ∷ l) ≡ atom p b ++ atoms_from (suc p) l
unfolding atoms_from
atoms_cons p b l = refl

pub atoms_none : (p : ℕ) → atoms_from p [] ≡ []
unfolding atoms_from
atoms_none p = refl

-- ---- one atom more

atoms_snoc : (l : List ℕ) (p b : ℕ) → atoms_from p (l ++ (b ∷ [])) ≡ atoms_from p l ++ atom (p + length l) b
atoms_snoc [] p b =
    let e : p + 0 ≡ p = omega arith in
    rw (atoms_cons p b [], atoms_none (suc p), atoms_none p, e) (append-nil (atom p b))
atoms_snoc (x ∷ l) p b =
    let e : suc p + length l ≡ p + suc (length l) = omega arith in
    rw (atoms_cons p x (l ++ (b ∷ [])), atoms_cons p x l, atoms_snoc l (suc p) b, e) (sym (append_assoc (atom p x) (atoms_from (suc p) l) (atom (p + suc (length l)) b)))

pub atoms_more : (plan : List ℕ) (i : ℕ) → i < length plan → atoms_from 1 (take (i + 1) plan) ≡ atoms_from 1 (take i plan) ++ atom (i + 1) (get_or plan i 0)
atoms_more plan i h =
    let l : length (take i plan) ≡ i = length-take-le i plan (omega arith) in
    let e : 1 + i ≡ i + 1 = omega arith in
    rw (add-one i, take-suc plan i 0 h, atoms_snoc (take i plan) 1 (get_or plan i 0), l, ← add-one i, e)

pub take_min : (k : ℕ) (l : List ℕ) → take (min k (length l)) l ≡ take k l
take_min zero l = let e : min 0 (length l) ≡ 0 = omega arith in rw e
take_min (suc k) [] = let e : min (suc k) 0 ≡ 0 = omega arith in rw e
take_min (suc k) (x ∷ l) =
    let e : min (suc k) (suc (length l)) ≡ suc (min k (length l)) = omega arith in
    rw e (ap (λ (m : List ℕ). x ∷ m) (take_min k l))

-- ---- lengths

atom_short : (p b : ℕ) → p < 1000 → length (atom p b) ≤ 4
unfolding atom
atom_short p b h = at (eqb b 1)
  where
    at : (t : Bool) → length (pick t (32 ∷ decimal p) []) ≤ 4
    at true = let d = decimal_length 2 p h in omega arith
    at false = omega arith

atoms_short : (l : List ℕ) (p : ℕ) → p + length l ≤ 1000 → length (atoms_from p l) ≤ 4 * length l
atoms_short [] p h = rw (atoms_none p) (omega arith)
atoms_short (b ∷ l) p h =
    let a = atom_short p b (omega arith) in
    let r = atoms_short l (suc p) (omega arith) in
    let e = length-append (atom p b) (atoms_from (suc p) l) in
    rw (atoms_cons p b l) (omega arith)

pub pair_short : (word : List ℕ) (m n : ℕ) → m < 2 ^ 64 → n < 2 ^ 64 → length (pair word m n) ≤ length word + 41
pair_short word m n h k =
    let a : m < 10 ^ 20 = omega arith in
    let b : n < 10 ^ 20 = omega arith in
    let d = decimal_length 19 m a in
    let f = decimal_length 19 n b in
    let e = length-append word (decimal m) in
    let g = length-append (word ++ decimal m) (32 ∷ decimal n) in
    omega arith

pub line_short : (word : List ℕ) (m n : ℕ) → length (pair word m n) ≤ length word + 41 → length (line word m n) ≤ length word + 42
line_short word m n h =
    let e = length-append (pair word m n) (10 ∷ []) in
    omega arith

pub answer_short : (c s n : ℕ) (plan : List ℕ) → length (pair answer_word c s) ≤ length answer_word + 41 → length (answer_line c s n plan) ≤ 1100
answer_short c s n plan h =
    let l = take (min n 256) plan in
    let t = length-take (min n 256) plan in
    let a = atoms_short l 1 (omega arith) in
    let e = length-append (pair answer_word c s) (58 ∷ atoms_from 1 l) in
    let f = length-append (pair answer_word c s ++ 58 ∷ atoms_from 1 l) (10 ∷ []) in
    omega arith

-- ---- the contract of `print`

pub print_short : (r : Result Solved Refusal) (n : ℕ) (plan old : List ℕ) → length old < 1100 → PrintAs r n plan old 0 old
print_short r n plan old h = record { result = rw (lt-ltb (length old) 1100 h); out = rw (lt-ltb (length old) 1100 h) }

pub print_whole : (r : Result Solved Refusal) (n : ℕ) (plan old new : List ℕ) (wrote : ℕ) → 1100 ≤ length old → Put old 0 (line_of r n plan) wrote new → length (line_of r n plan) ≤ 1100 → PrintAs r n plan old wrote new
print_whole r n plan old new wrote h p k =
    record {
      result = rw (le-ltb (length old) 1100 h) (put_length old new (line_of r n plan) wrote p (omega arith));
      out = rw (le-ltb (length old) 1100 h) (put_whole old new (line_of r n plan) wrote p (omega arith));
    }

-- the same with the line as it was put
pub print_as : (r : Result Solved Refusal) (n : ℕ) (plan old new l : List ℕ) (wrote : ℕ) → line_of r n plan ≡ l → 1100 ≤ length old → Put old 0 l wrote new → length l ≤ 1100 → PrintAs r n plan old wrote new
print_as r n plan old new l wrote e h p k = print_whole r n plan old new wrote h (rw e p) (rw e k)

-- one result, one buffer
pub print_unique : (r : Result Solved Refusal) (n : ℕ) (plan old new other : List ℕ) (wrote too : ℕ) → PrintAs r n plan old wrote new → PrintAs r n plan old too other → (wrote ≡ too) × (new ≡ other)
print_unique r n plan old new other wrote too a b = (a.result ∙ sym b.result, a.out ∙ sym b.out)
