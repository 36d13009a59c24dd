-- Laws of `run`, of all formats at once: how it goes on by a word, how one format follows another, which index and which words are left.
-- Assumes nothing.
use mathlib.Core.Path.{◌≡◌, refl, sym, ap, ◌∙◌, subst}
use mathlib.Core.Bool.{Bool, true, false}
use mathlib.Core.List.{List, [], ◌∷◌}
use mathlib.Core.Option.{Option, none, some}
use Prim.Native.Nat.{ℕ, suc, ◌+◌}
use native.Mathlib.Omega.{arith}
use lib.Dec.{T}
use lib.IntN.{ℤ}
use lib.ListN.{length, drop}
use Rattle.results.specs.declared.Refusal.{Refusal}
use Rattle.results.specs.declared.Refusal.TheVariants.{Absent}
use Rattle.table.specs.Roles.{Role, fault, Format, done, word, ◌>>=◌, Result, read, refused, run}
use Rattle.table.proofs.Drops.{at_next}

-- ---- results taken apart

module _ {A : Type 0} where
  abbrev is_read : Result A → Bool
  is_read (read x i ws) = true
  is_read (refused r) = false

  abbrev what_of : A → Result A → A
  what_of d (read x i ws) = x
  what_of d (refused r) = d

  abbrev index_of : Result A → ℕ
  index_of (read x i ws) = i
  index_of (refused r) = 0

  abbrev words_of : Result A → List ℤ
  words_of (read x i ws) = ws
  words_of (refused r) = []

  abbrev refusal_of : Refusal → Result A → Refusal
  refusal_of d (read x i ws) = d
  refusal_of d (refused r) = r

  pub read≢refused {ℓ} : {X : Type ℓ} {x : A} {i : ℕ} {ws : List ℤ} {r : Refusal} → ◌≡◌ {A = Result A} (read x i ws) (refused r) → X
  read≢refused e = absurd (subst T (ap is_read e) tt)

  pub same_what : {x y : A} {i j : ℕ} {ws vs : List ℤ} → ◌≡◌ {A = Result A} (read x i ws) (read y j vs) → x ≡ y
  same_what {x = x} e = ap (what_of x) e

  pub same_index : {x y : A} {i j : ℕ} {ws vs : List ℤ} → ◌≡◌ {A = Result A} (read x i ws) (read y j vs) → i ≡ j
  same_index e = ap index_of e

  pub same_words : {x y : A} {i j : ℕ} {ws vs : List ℤ} → ◌≡◌ {A = Result A} (read x i ws) (read y j vs) → ws ≡ vs
  same_words e = ap words_of e

  pub same_refusal : {r s : Refusal} → ◌≡◌ {A = Result A} (refused r) (refused s) → r ≡ s
  same_refusal {r} e = ap (refusal_of r) e

  -- ---- a word

  pub run_done : (x : A) (i : ℕ) (ws : List ℤ) → run (done x) i ws ≡ read x i ws
  unfolding run
  run_done x i ws = refl

  pub run_absent : (role : Role) (k : ℤ → Format A) (i : ℕ) → run (word role k) i [] ≡ refused (Absent i)
  unfolding run
  run_absent role k i = refl

  pub run_good : (role : Role) (k : ℤ → Format A) (i : ℕ) (w : ℤ) (ws : List ℤ) → fault role i w ≡ none → run (word role k) i (w ∷ ws) ≡ run (k w) (suc i) ws
  unfolding run
  run_good role k i w ws e = rw (e, run)

  pub run_bad : (role : Role) (k : ℤ → Format A) (i : ℕ) (w : ℤ) (ws : List ℤ) (r : Refusal) → fault role i w ≡ some r → run (word role k) i (w ∷ ws) ≡ refused r
  unfolding run
  run_bad role k i w ws r e = rw (e, run)

  -- a word that was read: it was there, and had no fault
  pub record Taken (role : Role) (k : ℤ → Format A) (i : ℕ) (ws : List ℤ) (x : A) (j : ℕ) (rest : List ℤ) : Type 0 where
    pub w : ℤ
    pub after : List ℤ
    pub there : ws ≡ w ∷ after
    pub good : fault role i w ≡ none
    pub on : run (k w) (suc i) after ≡ read x j rest

  pub taken : (role : Role) (k : ℤ → Format A) (i : ℕ) (ws : List ℤ) (x : A) (j : ℕ) (rest : List ℤ) → run (word role k) i ws ≡ read x j rest → Taken role k i ws x j rest
  taken role k i [] x j rest e = read≢refused (sym e ∙ run_absent role k i)
  taken role k i (w ∷ ws) x j rest e = go (fault role i w) refl
    where
      go : (o : Option Refusal) → fault role i w ≡ o → Taken role k i (w ∷ ws) x j rest
      go none f = record { w = w; after = ws; there = refl; good = f; on = sym (run_good role k i w ws f) ∙ e }
      go (some r) f = read≢refused (sym e ∙ run_bad role k i w ws r f)

-- ---- one format after another

module _ {A B : Type 0} where
  abbrev pub and_then : Result A → (A → Format B) → Result B
  and_then (read x i ws) f = run (f x) i ws
  and_then (refused r) f = refused r

  pub run_bind : (F : Format A) (f : A → Format B) (i : ℕ) (ws : List ℤ) → run (F >>= f) i ws ≡ and_then (run F i ws) f
  run_bind (done x) f i ws = sym (ap (λ (r : Result A). and_then r f) (run_done x i ws))
  run_bind (word role k) f i [] = run_absent role (λ w. k w >>= f) i ∙ sym (ap (λ (r : Result A). and_then r f) (run_absent role k i))
  run_bind (word role k) f i (w ∷ ws) = go (run_bind (k w) f (suc i) ws) (fault role i w) refl
    where
      go : run (k w >>= f) (suc i) ws ≡ and_then (run (k w) (suc i) ws) f → (o : Option Refusal) → fault role i w ≡ o
          → run (word role k >>= f) i (w ∷ ws) ≡ and_then (run (word role k) i (w ∷ ws)) f
      go h none e = run_good role (λ v. k v >>= f) i w ws e ∙ h ∙ sym (ap (λ (r : Result A). and_then r f) (run_good role k i w ws e))
      go h (some r) e = run_bad role (λ v. k v >>= f) i w ws r e ∙ sym (ap (λ (s : Result A). and_then s f) (run_bad role k i w ws r e))

  -- the first was read: the second goes on
  pub bind_on : (F : Format A) (f : A → Format B) (i : ℕ) (ws : List ℤ) (x : A) (j : ℕ) (rest : List ℤ)
      → run F i ws ≡ read x j rest → run (F >>= f) i ws ≡ run (f x) j rest
  bind_on F f i ws x j rest e = run_bind F f i ws ∙ ap (λ (r : Result A). and_then r f) e

  -- it was refused: so is the whole
  pub bind_stop : (F : Format A) (f : A → Format B) (i : ℕ) (ws : List ℤ) (r : Refusal) → run F i ws ≡ refused r → run (F >>= f) i ws ≡ refused r
  bind_stop F f i ws r e = run_bind F f i ws ∙ ap (λ (s : Result A). and_then s f) e

  -- both were read
  pub record Both (F : Format A) (f : A → Format B) (i : ℕ) (ws : List ℤ) (y : B) (j : ℕ) (rest : List ℤ) : Type 0 where
    pub x : A
    pub k : ℕ
    pub mid : List ℤ
    pub first : run F i ws ≡ read x k mid
    pub second : run (f x) k mid ≡ read y j rest

  pub both : (F : Format A) (f : A → Format B) (i : ℕ) (ws : List ℤ) (y : B) (j : ℕ) (rest : List ℤ) → run (F >>= f) i ws ≡ read y j rest → Both F f i ws y j rest
  both F f i ws y j rest e = go (run F i ws) refl
    where
      go : (r : Result A) → run F i ws ≡ r → Both F f i ws y j rest
      go (read x k mid) h = record { x = x; k = k; mid = mid; first = h; second = sym (bind_on F f i ws x k mid h) ∙ e }
      go (refused r) h = read≢refused (sym e ∙ bind_stop F f i ws r h)

-- ---- what is left

module _ {A : Type 0} where
  -- the index has gone on by as many words as were read
  pub run_length : (F : Format A) (i : ℕ) (ws : List ℤ) (x : A) (j : ℕ) (rest : List ℤ) → run F i ws ≡ read x j rest → j + length rest ≡ i + length ws
  run_length (done y) i ws x j rest e =
      let h = sym (run_done y i ws) ∙ e in
      let p : i ≡ j = same_index h in
      let q : length ws ≡ length rest = ap length (same_words h) in
      omega arith
  run_length (word role k) i ws x j rest e =
      let t = taken role k i ws x j rest e in
      let h = run_length (k t.w) (suc i) t.after x j rest t.on in
      let q : length ws ≡ suc (length t.after) = ap length t.there in
      omega arith

  -- what is left are the table's words from the next index on
  pub run_rest : (t : List ℤ) (F : Format A) (i : ℕ) (ws : List ℤ) (x : A) (j : ℕ) (rest : List ℤ)
      → ws ≡ drop i t → run F i ws ≡ read x j rest → rest ≡ drop j t
  run_rest t (done y) i ws x j rest d e =
      let h = sym (run_done y i ws) ∙ e in
      sym (same_words h) ∙ d ∙ ap (λ (n : ℕ). drop n t) (same_index h)
  run_rest t (word role k) i ws x j rest d e =
      let p = taken role k i ws x j rest e in
      run_rest t (k p.w) (suc i) p.after x j rest (sym (at_next t i p.w p.after (sym d ∙ p.there))) p.on

  -- the same, as the code has it: it knows the index only
  pub run_at : (t : List ℤ) (F : Format A) (i : ℕ) (x : A) (j : ℕ) (rest : List ℤ) → run F i (drop i t) ≡ read x j rest → run F i (drop i t) ≡ read x j (drop j t)
  run_at t F i x j rest e = e ∙ ap (read x j) (run_rest t F i (drop i t) x j rest refl e)
