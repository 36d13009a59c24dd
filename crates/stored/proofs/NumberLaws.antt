-- One number in bytes: what is laid is read back, and what is read was laid. Assumes nothing.
use mathlib.Core.Path.{◌≡◌, refl, sym, ap, ◌∙◌, subst}
use mathlib.Core.Bool.{Bool, true, false, ◌||◌}
use mathlib.Core.List.{List, [], ◌++◌}
use mathlib.Core.Option.{Option, none, some}
use Prim.Native.Nat.{ℕ, ◌+◌, ◌/◌, ◌≤◌}
use native.Mathlib.Omega.{arith}
use lib.Dec.{T, ltb}
use lib.IntN.{ℤ, pos, negsuc, nat_abs}
use lib.Signed.{le_z, non_neg}
use Rattle.std.specs.Prelude as Prelude
use Rattle.std.specs.Prelude.{Some, None}
use borrow.Author.Tests.{leb-true}
use Rattle.results.specs.declared.Refusal.{Refusal}
use Rattle.results.specs.declared.Refusal.TheVariants as refusal
use Rattle.table.specs.Roles.{Role, count, quantity, member, numbers, unless, fault, within}
use Rattle.table.proofs.Faults.{count_good, quantity_good, within_number, and_left, and_right, member_good}
use Rattle.stored.specs.Bytes.{two, four, complement, from_complement, twice, from_twice, number_bytes, Bytes, Number, cut, whole, two_of, four_of, Step, stop, go, tested, step_by, step_of}
use Rattle.stored.specs.Machine.{role_of, Fits}
use Rattle.stored.specs.declared.points.Asked.{Asked}
use Rattle.stored.specs.declared.points.Asked.TheVariants as asked
use Rattle.stored.proofs.Forms.{two_read, four_read, two_written, four_written_lem, complement_back, complement_again, twice_back, twice_again, from_twice_size}
use Rattle.stored.proofs.Steps.{finish, count_form, quantity_form, threshold_form, member_form, literal_form}

-- ---- a word without fault has none at any place

same_tests : (b : Bool) (r s : Refusal) (o u : Option Refusal) → (o ≡ none → u ≡ none) → unless b r o ≡ none → unless b s u ≡ none
same_tests true r s o u f e = f e
same_tests false r s o u f e = absurd (subst T (ap is_some e) tt)
  where
    is_some : Option Refusal → Bool
    is_some none = false
    is_some (some x) = true

pub any_place : (role : Role) (i k : ℕ) (w : ℤ) → fault role i w ≡ none → fault role k w ≡ none
unfolding fault
any_place (count most) i k w e = same_tests (within (pos 0) (pos most) w) (refusal.Count i) (refusal.Count k) none none (λ h. h) e
any_place (quantity low high) i k w e = same_tests (within low high w) (refusal.Quantity i) (refusal.Quantity k) none none (λ h. h) e
any_place (member signed top previous) i k w e =
    same_tests (numbers signed top w) (refusal.Number i) (refusal.Number k) (unless (ltb previous (nat_abs w)) (refusal.Descent i) none) (unless (ltb previous (nat_abs w)) (refusal.Descent k) none)
    (λ h. same_tests (ltb previous (nat_abs w)) (refusal.Descent i) (refusal.Descent k) none none (λ z. z) h) e

-- ---- steps taken apart

abbrev is_go : Step → Bool
is_go (stop r) = false
is_go (go w j bs) = true

pub stop≢go {ℓ} : {X : Type ℓ} {r : Refusal} {w : ℤ} {j : ℕ} {bs : List ℕ} → stop r ≡ go w j bs → X
stop≢go e = absurd (subst T (ap is_go (sym e)) tt)

abbrev word_in : Step → ℤ
word_in (stop r) = pos 0
word_in (go w j bs) = w

abbrev place_in : Step → ℕ
place_in (stop r) = 0
place_in (go w j bs) = j

abbrev bytes_in : Step → List ℕ
bytes_in (stop r) = []
bytes_in (go w j bs) = bs

-- a number that was read: it was there, and had no fault
pub record Gone (role : Role) (i width : ℕ) (value : ℕ → ℤ) (num : Number) (w : ℤ) (j : ℕ) (rest : List ℕ) : Type 0 where
  pub n : ℕ
  pub there : num ≡ whole n rest
  pub word : value n ≡ w
  pub good : fault role i w ≡ none
  pub next : j ≡ i + width

pub gone : (role : Role) (i width : ℕ) (value : ℕ → ℤ) (num : Number) (w : ℤ) (j : ℕ) (rest : List ℕ) → step_by role i width value num ≡ go w j rest → Gone role i width value num w j rest
gone role i width value cut w j rest e = stop≢go e
gone role i width value (whole n bs) w j rest e = at (fault role i (value n)) refl
  where
    at : (o : Option Refusal) → fault role i (value n) ≡ o → Gone role i width value (whole n bs) w j rest
    at none f =
        let g : go (value n) (i + width) bs ≡ go w j rest = sym (ap (λ (x : Option Refusal). tested x (value n) (i + width) bs) f) ∙ e in
        record { n = n; there = ap (whole n) (ap bytes_in g); word = ap word_in g; good = ap (fault role i) (sym (ap word_in g)) ∙ f; next = sym (ap place_in g) }
    at (some r) f = stop≢go (sym (ap (λ (x : Option Refusal). tested x (value n) (i + width) bs) f) ∙ e)

-- ---- a number that is laid

abbrev pub width_of : Prelude.Option Asked → ℕ
width_of (Some (asked.Count m)) = 2
width_of (Some (asked.Quantity h)) = 2
width_of (Some asked.Threshold) = 4
width_of (Some (asked.Member top p)) = 2
width_of (Some (asked.Literal top p)) = 2
width_of None = 2

threshold_size : (w : ℤ) → within (negsuc 0) (pos 4194304) w ≡ true → nat_abs w ≤ 4194304
threshold_size (pos n) h = leb-true n 4194304 (and_right (le_z (negsuc 0) (pos n)) (le_z (pos n) (pos 4194304)) h)
threshold_size (negsuc n) h = let k = leb-true n 0 (and_left (le_z (negsuc 0) (negsuc n)) (le_z (negsuc n) (pos 4194304)) h) in omega arith

complement_size : (w : ℤ) → nat_abs w ≤ 4194304 → complement w ≤ 4294967295
complement_size (pos n) h = omega arith
complement_size (negsuc n) h = omega arith

twice_size : (w : ℤ) (m : ℕ) → nat_abs w ≤ m → m ≤ 32767 → twice w ≤ 65535
twice_size (pos n) m h k = omega arith
twice_size (negsuc n) m h k = omega arith

-- its size
pub fits_size : (a : Prelude.Option Asked) (i : ℕ) (w : ℤ) → Fits a → fault (role_of a) i w ≡ none → nat_abs w ≤ 4194304
fits_size (Some (asked.Count m)) i w f e = let h = (count_good m i w e).1 in omega arith
fits_size (Some (asked.Quantity m)) i w f e = let h = (within_number w m (quantity_good (pos 0) (pos m) i w e)).1 in omega arith
fits_size (Some asked.Threshold) i w f e = threshold_size w (quantity_good (negsuc 0) (pos 4194304) i w e)
fits_size (Some (asked.Member top p)) i w f e = let h = (member_good false top p i w e).most in omega arith
fits_size (Some (asked.Literal top p)) i w f e = let h = (member_good true top p i w e).most in omega arith
fits_size None i w f e = absurd f

plain_sign : (w : ℤ) → (non_neg w || false) ≡ true → pos (nat_abs w) ≡ w
plain_sign (pos n) e = refl
plain_sign (negsuc n) e = absurd (subst T (sym e) tt)

pub number_read : (a : Prelude.Option Asked) (i : ℕ) (w : ℤ) (rest : List ℕ) → Fits a → fault (role_of a) i w ≡ none → step_of (role_of a) i (number_bytes (role_of a) w ++ rest) ≡ go w (i + width_of a) rest
number_read (Some (asked.Count m)) i w rest f e =
    let g = count_good m i w e in
    finish (count m) i 2 pos _ (nat_abs w) rest none _ (count_form m i _) (two_read (nat_abs w) rest (let h = g.1 in omega arith)) (ap (fault (count m) i) g.0 ∙ e) ∙ ap (λ (v : ℤ). go v (i + 2) rest) g.0
number_read (Some (asked.Quantity m)) i w rest f e =
    let g = within_number w m (quantity_good (pos 0) (pos m) i w e) in
    finish (quantity (pos 0) (pos m)) i 2 pos _ (nat_abs w) rest none _ (quantity_form m i _) (two_read (nat_abs w) rest (let h = g.1 in omega arith)) (ap (fault (quantity (pos 0) (pos m)) i) g.0 ∙ e)
    ∙ ap (λ (v : ℤ). go v (i + 2) rest) g.0
number_read (Some asked.Threshold) i w rest f e =
    let k = threshold_size w (quantity_good (negsuc 0) (pos 4194304) i w e) in
    let g = complement_back w (complement_size w k) k in
    finish (quantity (negsuc 0) (pos 4194304)) i 4 from_complement _ (complement w) rest none _ (threshold_form i _) (four_read (complement w) rest (complement_size w k)) (ap (fault (quantity (negsuc 0) (pos 4194304)) i) g ∙ e)
    ∙ ap (λ (v : ℤ). go v (i + 4) rest) g
number_read (Some (asked.Member top p)) i w rest f e =
    let m = member_good false top p i w e in
    let g = plain_sign w m.sign in
    finish (member false top p) i 2 pos _ (nat_abs w) rest none _ (member_form top p i _) (two_read (nat_abs w) rest (let h = m.most in omega arith)) (ap (fault (member false top p) i) g ∙ e)
    ∙ ap (λ (v : ℤ). go v (i + 2) rest) g
number_read (Some (asked.Literal top p)) i w rest f e =
    let m = member_good true top p i w e in
    finish (member true top p) i 2 from_twice _ (twice w) rest none _ (literal_form top p i _) (two_read (twice w) rest (twice_size w top m.most f)) (ap (fault (member true top p) i) (twice_back w) ∙ e)
    ∙ ap (λ (v : ℤ). go v (i + 2) rest) (twice_back w)
number_read None i w rest f e = absurd f

-- ---- a number that was read

pub record Read (a : Prelude.Option Asked) (i : ℕ) (bs : List ℕ) (w : ℤ) (j : ℕ) (rest : List ℕ) : Type 0 where
  pub good : fault (role_of a) i w ≡ none
  pub next : j ≡ i + width_of a
  pub stands : bs ≡ number_bytes (role_of a) w ++ rest
  pub bytes : Bytes rest

pub number_written : (a : Prelude.Option Asked) (i : ℕ) (bs : List ℕ) (w : ℤ) (j : ℕ) (rest : List ℕ) → Fits a → Bytes bs → step_of (role_of a) i bs ≡ go w j rest → Read a i bs w j rest
number_written (Some (asked.Count m)) i bs w j rest f b e =
    let g = gone (count m) i 2 pos (two_of bs) w j rest (sym (count_form m i bs) ∙ e) in
    let v = two_written bs g.n rest b g.there in
    record { good = g.good; next = g.next; stands = v.0 ∙ ap (λ (x : ℤ). two (nat_abs x) ++ rest) g.word; bytes = v.2 }
number_written (Some (asked.Quantity m)) i bs w j rest f b e =
    let g = gone (quantity (pos 0) (pos m)) i 2 pos (two_of bs) w j rest (sym (quantity_form m i bs) ∙ e) in
    let v = two_written bs g.n rest b g.there in
    record { good = g.good; next = g.next; stands = v.0 ∙ ap (λ (x : ℤ). two (nat_abs x) ++ rest) g.word; bytes = v.2 }
number_written (Some asked.Threshold) i bs w j rest f b e =
    let g = gone (quantity (negsuc 0) (pos 4194304)) i 4 from_complement (four_of bs) w j rest (sym (threshold_form i bs) ∙ e) in
    let v = four_written_lem bs g.n rest b g.there in
    record {
      good = g.good;
      next = g.next;
      stands = v.0 ∙ ap (λ (m : ℕ). four m ++ rest) (sym (complement_again g.n v.1)) ∙ ap (λ (x : ℤ). four (complement x) ++ rest) g.word;
      bytes = v.2;
    }
number_written (Some (asked.Member top p)) i bs w j rest f b e =
    let g = gone (member false top p) i 2 pos (two_of bs) w j rest (sym (member_form top p i bs) ∙ e) in
    let v = two_written bs g.n rest b g.there in
    record { good = g.good; next = g.next; stands = v.0 ∙ ap (λ (x : ℤ). two (nat_abs x) ++ rest) g.word; bytes = v.2 }
number_written (Some (asked.Literal top p)) i bs w j rest f b e =
    let g = gone (member true top p) i 2 from_twice (two_of bs) w j rest (sym (literal_form top p i bs) ∙ e) in
    let v = two_written bs g.n rest b g.there in
    let s : nat_abs w ≡ g.n / 2 = ap nat_abs (sym g.word) ∙ from_twice_size g.n in
    let a = (member_good true top p i w g.good).above in
    record {
      good = g.good;
      next = g.next;
      stands = v.0 ∙ ap (λ (m : ℕ). two m ++ rest) (sym (twice_again g.n (omega arith))) ∙ ap (λ (x : ℤ). two (twice x) ++ rest) g.word;
      bytes = v.2;
    }
number_written None i bs w j rest f b e = absurd f
