-- The first faulty word from the left. Of every format at once: where reading stops at an index, each shorter beginning of the words is
-- refused only because its next word is absent, so no word before that index is at fault; and whatever stands after that index, the
-- refusal is the same. Assumes nothing.
use mathlib.Core.Path.{◌≡◌, refl, sym, ap, ◌∙◌, subst}
use mathlib.Core.Bool.{Bool, true, false}
use mathlib.Core.List.{List, [], ◌∷◌}
use mathlib.Core.Option.{Option, none, some}
use Prim.Native.Nat.{ℕ, zero, suc, ◌+◌, ◌≤◌, ◌<◌}
use native.Mathlib.Omega.{arith}
use lib.Dec.{T, ltb}
use lib.IntN.{ℤ, pos, nat_abs}
use lib.ListN.{length, take, drop}
use Rattle.results.specs.declared.Refusal.{Refusal}
use Rattle.results.specs.declared.Refusal.TheVariants.{Absent, Count, Number, Descent, Quantity}
use Rattle.results.specs.Results.{place_of}
use Rattle.table.specs.Roles.{Role, count, quantity, member, within, numbers, unless, fault, Format, done, word, read, refused, run}
use Rattle.table.proofs.Run.{read≢refused, same_what, same_index, same_words, same_refusal, run_done, run_absent, run_good, run_bad, taken}

-- ---- a word's refusal has its index for its place

abbrev is_some : Option Refusal → Bool
is_some none = false
is_some (some r) = true

none≢some : {X : Type 0} {r : Refusal} → none ≡ some r → X
none≢some e = absurd (subst T (sym (ap is_some e)) tt)

abbrev refusal_in : Refusal → Option Refusal → Refusal
refusal_in d none = d
refusal_in d (some r) = r

unless_place : (b : Bool) (s r : Refusal) (o : Option Refusal) (i : ℕ) → place_of s ≡ i → (o ≡ some r → place_of r ≡ i) → unless b s o ≡ some r → place_of r ≡ i
unless_place true s r o i p q e = q e
unless_place false s r o i p q e = ap place_of (sym (ap (refusal_in s) e)) ∙ p

fault_place : (role : Role) (i : ℕ) (w : ℤ) (r : Refusal) → fault role i w ≡ some r → place_of r ≡ i
unfolding fault
fault_place (count most) i w r e = unless_place (within (pos 0) (pos most) w) (Count i) r none i refl none≢some e
fault_place (quantity low high) i w r e = unless_place (within low high w) (Quantity i) r none i refl none≢some e
fault_place (member signed top previous) i w r e =
    unless_place (numbers signed top w) (Number i) r (unless (ltb previous (nat_abs w)) (Descent i) none) i refl
    (unless_place (ltb previous (nat_abs w)) (Descent i) r none i refl none≢some) e

-- ---- words that begin alike

abbrev is_cons : List ℤ → Bool
is_cons [] = false
is_cons (v ∷ vs) = true

abbrev head_in : ℤ → List ℤ → ℤ
head_in d [] = d
head_in d (v ∷ vs) = v

abbrev tail_in : List ℤ → List ℤ
tail_in [] = []
tail_in (v ∷ vs) = vs

-- a list whose beginning has a first word has that word
pub record Begins (vs : List ℤ) (m : ℕ) (w : ℤ) (ws : List ℤ) : Type 0 where
  pub after : List ℤ
  pub there : vs ≡ w ∷ after
  pub alike : take m after ≡ take m ws

pub begins : (vs : List ℤ) (m : ℕ) (w : ℤ) (ws : List ℤ) → take (suc m) vs ≡ w ∷ take m ws → Begins vs m w ws
begins [] m w ws e = absurd (subst T (sym (ap is_cons e)) tt)
begins (v ∷ vs) m w ws e = record { after = vs; there = ap (λ (u : ℤ). u ∷ vs) (ap (head_in v) e); alike = ap tail_in e }

-- ---- reading that stops

pub record Stopped {A : Type 0} (F : Format A) (i : ℕ) (ws : List ℤ) (r : Refusal) : Type 0 where
  pub m : ℕ
  pub place : place_of r ≡ i + m
  pub inside : m ≤ length ws
  pub before : (k : ℕ) → k ≤ m → run F i (take k ws) ≡ refused (Absent (i + k))
  pub after : (vs : List ℤ) → take (suc m) vs ≡ take (suc m) ws → run F i vs ≡ refused r

module _ {A : Type 0} where
  absent_first : (role : Role) (f : ℤ → Format A) (i k : ℕ) → k ≤ 0 → (ws : List ℤ) → run (word role f) i (take k ws) ≡ refused (Absent (i + k))
  absent_first role f i k h ws =
      let z : k ≡ 0 = omega arith in
      let y : i ≡ i + k = omega arith in
      ap (λ (n : ℕ). run (word role f) i (take n ws)) z ∙ run_absent role f i ∙ ap (λ (n : ℕ). refused (Absent n)) y

  pub stopped : (F : Format A) (i : ℕ) (ws : List ℤ) (r : Refusal) → run F i ws ≡ refused r → Stopped F i ws r
  stopped (done x) i ws r e = read≢refused (sym (run_done x i ws) ∙ e)
  stopped (word role f) i [] r e =
      let h : Absent i ≡ r = same_refusal (sym (run_absent role f i) ∙ e) in
      record {
        m = 0;
        place = sym (ap place_of h) ∙ zero_more;
        inside = omega arith;
        before = λ k l. absent_first role f i k l [];
        after = λ vs q. ap (run (word role f) i) (nothing vs q) ∙ e;
      }
    where
      zero_more : i ≡ i + 0
      zero_more = omega arith

      nothing : (vs : List ℤ) → take 1 vs ≡ [] → vs ≡ []
      nothing [] q = refl
      nothing (v ∷ vs) q = absurd (subst T (ap is_cons q) tt)
  stopped (word role f) i (w ∷ ws) r e = go (λ h. stopped (f w) (suc i) ws r h) (fault role i w) refl
    where
      zero_more : i ≡ i + 0
      zero_more = omega arith

      go : (run (f w) (suc i) ws ≡ refused r → Stopped (f w) (suc i) ws r) → (o : Option Refusal) → fault role i w ≡ o → Stopped (word role f) i (w ∷ ws) r
      go rec (some s) h =
          let g : s ≡ r = same_refusal (sym (run_bad role f i w ws s h) ∙ e) in
          record {
            m = 0;
            place = sym (ap place_of g) ∙ fault_place role i w s h ∙ zero_more;
            inside = omega arith;
            before = λ k l. absent_first role f i k l (w ∷ ws);
            after = λ vs q.
                let b = begins vs 0 w ws q in
                ap (run (word role f) i) b.there ∙ run_bad role f i w b.after s h ∙ ap refused g;
          }
      go rec none h =
          let g = rec (sym (run_good role f i w ws h) ∙ e) in
          let n = g.m in
          let p : suc i + n ≡ i + suc n = omega arith in
          record {
            m = suc n;
            place = g.place ∙ p;
            inside = let l = g.inside in omega arith;
            before = λ k l. earlier g k l;
            after = λ vs q.
                let b = begins vs (suc n) w ws q in
                ap (run (word role f) i) b.there ∙ run_good role f i w b.after h ∙ g.after b.after b.alike;
          }
        where
          earlier : (g : Stopped (f w) (suc i) ws r) (k : ℕ) → k ≤ suc g.m → run (word role f) i (take k (w ∷ ws)) ≡ refused (Absent (i + k))
          earlier g zero l = absent_first role f i 0 (omega arith) (w ∷ ws)
          earlier g (suc k) l =
              let y : suc i + k ≡ i + suc k = omega arith in
              run_good role f i w (take k ws) h ∙ g.before k (omega arith) ∙ ap (λ (n : ℕ). refused (Absent n)) y

-- ---- reading that goes through

pub record Went {A : Type 0} (F : Format A) (i : ℕ) (ws : List ℤ) (x : A) (j : ℕ) (rest : List ℤ) : Type 0 where
  pub m : ℕ
  pub index : j ≡ i + m
  pub left : rest ≡ drop m ws
  pub before : (k : ℕ) → k < m → run F i (take k ws) ≡ refused (Absent (i + k))
  pub after : (vs : List ℤ) → take m vs ≡ take m ws → run F i vs ≡ read x j (drop m vs)

module _ {A : Type 0} where
  pub went : (F : Format A) (i : ℕ) (ws : List ℤ) (x : A) (j : ℕ) (rest : List ℤ) → run F i ws ≡ read x j rest → Went F i ws x j rest
  went (done y) i ws x j rest e =
      let h = sym (run_done y i ws) ∙ e in
      let z : i ≡ i + 0 = omega arith in
      record {
        m = 0;
        index = sym (same_index h) ∙ z;
        left = sym (same_words h);
        before = λ k l. absurd (omega arith);
        after = λ vs q. run_done y i vs ∙ (λ s. read (same_what h s) (same_index h s) vs);
      }
  went (word role f) i ws x j rest e =
      let t = taken role f i ws x j rest e in
      let g = went (f t.w) (suc i) t.after x j rest t.on in
      let n = g.m in
      let p : suc i + n ≡ i + suc n = omega arith in
      record {
        m = suc n;
        index = g.index ∙ p;
        left = g.left ∙ sym (ap (drop (suc n)) t.there);
        before = λ k l. ap (λ (us : List ℤ). run (word role f) i (take k us)) t.there ∙ earlier t.w t.after t.good n g.before k l;
        after = λ vs q.
            let b = begins vs n t.w t.after (q ∙ ap (take (suc n)) t.there) in
            ap (run (word role f) i) b.there ∙ run_good role f i t.w b.after t.good ∙ g.after b.after b.alike ∙ ap (λ (us : List ℤ). read x j (drop (suc n) us)) (sym b.there);
      }
    where
      earlier : (w : ℤ) (us : List ℤ) → fault role i w ≡ none → (n : ℕ) → ((k : ℕ) → k < n → run (f w) (suc i) (take k us) ≡ refused (Absent (suc i + k)))
          → (k : ℕ) → k < suc n → run (word role f) i (take k (w ∷ us)) ≡ refused (Absent (i + k))
      earlier w us h n g zero l = absent_first role f i 0 (omega arith) (w ∷ us)
      earlier w us h n g (suc k) l =
          let y : suc i + k ≡ i + suc k = omega arith in
          run_good role f i w (take k us) h ∙ g k (omega arith) ∙ ap (λ (q : ℕ). refused (Absent q)) y
