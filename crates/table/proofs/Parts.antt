-- How the parts of a table go on by one word or one part, and where they stop, in the terms of the code: numbers and indices.
-- Assumes nothing.
use mathlib.Core.Path.{◌≡◌, refl, sym, ap, ◌∙◌}
use mathlib.Core.Bool.{Bool, false}
use mathlib.Core.List.{List, [], ◌∷◌}
use Prim.Native.Nat.{ℕ, suc, ◌+◌, ◌-◌, ◌≤◌, ◌<◌}
use native.Mathlib.Omega.{arith}
use lib.IntN.{ℤ, pos, nat_abs}
use lib.ListN.{drop}
use Rattle.std.specs.Prelude.{Ok, Err}
use Rattle.results.specs.declared.Refusal.{Refusal}
use Rattle.meaning.specs.Program.{Element}
use Rattle.table.specs.Roles.{count, quantity, member, Format, done, ◌>>=◌, Result, read, refused, run}
use Rattle.table.specs.Grammar.{one, times, members, list, elements}
use Rattle.table.specs.Places.{got_of, part_of}
use Rattle.table.proofs.Run.{run_done, bind_on, bind_stop}
use Rattle.table.proofs.Returned.{got_read, got_refused, part_read, part_refused}

-- of n parts that are counted up, one more is to come, or none
more : (k n : ℕ) → k < n → n - k ≡ suc (n - (k + 1))
more k n h = omega arith

over : (k n : ℕ) → n ≤ k → n - k ≡ 0
over k n h = omega arith

-- making something else of what was read moves no index
module _ {A B : Type 0} where
  pub part_map : (F : Format A) (f : A → B) (i : ℕ) (ws : List ℤ) → part_of (run (F >>= λ x. done (f x)) i ws) ≡ part_of (run F i ws)
  part_map F f i ws = go (run F i ws) refl
    where
      go : (r : Result A) → run F i ws ≡ r → part_of (run (F >>= λ x. done (f x)) i ws) ≡ part_of (run F i ws)
      go (read x j vs) e = ap part_of (bind_on F (λ x. done (f x)) i ws x j vs e ∙ run_done (f x) j vs) ∙ sym (ap part_of e)
      go (refused r) e = ap part_of (bind_stop F (λ x. done (f x)) i ws r e) ∙ sym (ap part_of e)

  -- a first part, and what follows it
  pub part_stop : (F : Format A) (f : A → Format B) (i : ℕ) (ws : List ℤ) (r : Refusal) → part_of (run F i ws) ≡ Err r → part_of (run (F >>= f) i ws) ≡ Err r
  part_stop F f i ws r e = ap part_of (bind_stop F f i ws r (part_refused F i ws r e))

module _ {B : Type 0} where
  -- a first word that is refused
  pub word_stop : (F : Format ℤ) (f : ℤ → Format B) (i : ℕ) (ws : List ℤ) (r : Refusal) → got_of (run F i ws) ≡ Err r → part_of (run (F >>= f) i ws) ≡ Err r
  word_stop F f i ws r e = ap part_of (bind_stop F f i ws r (got_refused F i ws r e))

-- ---- members

module _ (t : List ℤ) (signed : Bool) (top : ℕ) where
  next : (previous i n a j : ℕ) → got_of (run (one (member signed top previous)) i (drop i t)) ≡ Ok (a, j)
      → part_of (run (members signed top previous (suc n)) i (drop i t)) ≡ part_of (run (members signed top a n) j (drop j t))
  unfolding members
  next previous i n a j e =
      let g = got_read t (one (member signed top previous)) i a j e in
      ap part_of (bind_on (one (member signed top previous)) (λ w. members signed top (nat_abs w) n >>= λ l. done (w ∷ l)) i (drop i t) g.0 j (drop j t) g.2)
      ∙ part_map (members signed top (nat_abs g.0) n) (λ l. g.0 ∷ l) j (drop j t)
      ∙ ap (λ (m : ℕ). part_of (run (members signed top m n) j (drop j t))) g.1

  stop : (previous i n : ℕ) (r : Refusal) → got_of (run (one (member signed top previous)) i (drop i t)) ≡ Err r
      → part_of (run (members signed top previous (suc n)) i (drop i t)) ≡ Err r
  unfolding members
  stop previous i n r e =
      word_stop (one (member signed top previous)) (λ w. members signed top (nat_abs w) n >>= λ l. done (w ∷ l)) i (drop i t) r e

  none : (previous i : ℕ) → part_of (run (members signed top previous 0) i (drop i t)) ≡ Ok i
  unfolding members
  none previous i = ap part_of (run_done [] i (drop i t))

  -- k of the n members are read
  module _ (previous i k n : ℕ) where
    pub members_on : (a j : ℕ) → k < n → got_of (run (one (member signed top previous)) i (drop i t)) ≡ Ok (a, j)
        → part_of (run (members signed top previous (n - k)) i (drop i t)) ≡ part_of (run (members signed top a (n - (k + 1))) j (drop j t))
    members_on a j h e = ap (λ (m : ℕ). part_of (run (members signed top previous m) i (drop i t))) (more k n h) ∙ next previous i (n - (k + 1)) a j e

    pub members_stop : (r : Refusal) → k < n → got_of (run (one (member signed top previous)) i (drop i t)) ≡ Err r
        → part_of (run (members signed top previous (n - k)) i (drop i t)) ≡ Err r
    members_stop r h e = ap (λ (m : ℕ). part_of (run (members signed top previous m) i (drop i t))) (more k n h) ∙ stop previous i (n - (k + 1)) r e

    pub members_none : n ≤ k → part_of (run (members signed top previous (n - k)) i (drop i t)) ≡ Ok i
    members_none h = ap (λ (m : ℕ). part_of (run (members signed top previous m) i (drop i t))) (over k n h) ∙ none previous i

-- ---- lists

module _ (t : List ℤ) (most : ℕ) (signed : Bool) (top i : ℕ) where
  pub list_on : (n j : ℕ) → got_of (run (one (count most)) i (drop i t)) ≡ Ok (n, j)
      → part_of (run (list most signed top) i (drop i t)) ≡ part_of (run (members signed top 0 n) j (drop j t))
  unfolding list
  list_on n j e =
      let g = got_read t (one (count most)) i n j e in
      ap part_of (bind_on (one (count most)) (λ w. members signed top 0 (nat_abs w)) i (drop i t) g.0 j (drop j t) g.2)
      ∙ ap (λ (m : ℕ). part_of (run (members signed top 0 m) j (drop j t))) g.1

  pub list_stop : (r : Refusal) → got_of (run (one (count most)) i (drop i t)) ≡ Err r → part_of (run (list most signed top) i (drop i t)) ≡ Err r
  unfolding list
  list_stop r e = word_stop (one (count most)) (λ w. members signed top 0 (nat_abs w)) i (drop i t) r e

-- ---- a word, a part, and what follows it

module _ {B : Type 0} where
  pub word_on : (t : List ℤ) (F : Format ℤ) (f : ℤ → Format B) (i n j : ℕ) → got_of (run F i (drop i t)) ≡ Ok (n, j)
      → (w : ℤ) × (nat_abs w ≡ n) × (run (F >>= f) i (drop i t) ≡ run (f w) j (drop j t))
  word_on t F f i n j e =
      let g = got_read t F i n j e in
      (g.0, g.1, bind_on F f i (drop i t) g.0 j (drop j t) g.2)

module _ {A B : Type 0} where
  pub part_on : (t : List ℤ) (F : Format A) (f : A → Format B) (i j : ℕ) → part_of (run F i (drop i t)) ≡ Ok j
      → (x : A) × (run (F >>= f) i (drop i t) ≡ run (f x) j (drop j t))
  part_on t F f i j e =
      let g = part_read t F i j e in
      (g.0, bind_on F f i (drop i t) g.0 j (drop j t) g.1)

-- ---- elements

abbrev value : Format ℤ
value = one (quantity (pos 0) (pos 65535))

module _ (t : List ℤ) (top previous i : ℕ) where
  abbrev rest : ℕ → ℤ → Format (List Element)
  rest n v = one (member false top previous) >>= λ p. elements top (nat_abs p) n >>= λ es. done (record { value = nat_abs v; atom = nat_abs p } ∷ es)

  next_element : (n v p a j : ℕ) → got_of (run value i (drop i t)) ≡ Ok (v, p) → got_of (run (one (member false top previous)) p (drop p t)) ≡ Ok (a, j)
      → part_of (run (elements top previous (suc n)) i (drop i t)) ≡ part_of (run (elements top a n) j (drop j t))
  unfolding elements
  next_element n v p a j e f =
      let g = word_on t value (rest n) i v p e in
      let h = word_on t (one (member false top previous)) (λ q. elements top (nat_abs q) n >>= λ es. done (record { value = nat_abs g.0; atom = nat_abs q } ∷ es)) p a j f in
      ap part_of (g.2 ∙ h.2)
      ∙ part_map (elements top (nat_abs h.0) n) (λ es. record { value = nat_abs g.0; atom = nat_abs h.0 } ∷ es) j (drop j t)
      ∙ ap (λ (m : ℕ). part_of (run (elements top m n) j (drop j t))) h.1

  stop_value : (n : ℕ) (r : Refusal) → got_of (run value i (drop i t)) ≡ Err r → part_of (run (elements top previous (suc n)) i (drop i t)) ≡ Err r
  unfolding elements
  stop_value n r e = word_stop value (rest n) i (drop i t) r e

  stop_atom : (n v p : ℕ) (r : Refusal) → got_of (run value i (drop i t)) ≡ Ok (v, p) → got_of (run (one (member false top previous)) p (drop p t)) ≡ Err r
      → part_of (run (elements top previous (suc n)) i (drop i t)) ≡ Err r
  unfolding elements
  stop_atom n v p r e f =
      let g = word_on t value (rest n) i v p e in
      ap part_of g.2
      ∙ word_stop (one (member false top previous)) (λ q. elements top (nat_abs q) n >>= λ es. done (record { value = nat_abs g.0; atom = nat_abs q } ∷ es)) p (drop p t) r f

  no_element : part_of (run (elements top previous 0) i (drop i t)) ≡ Ok i
  unfolding elements
  no_element = ap part_of (run_done [] i (drop i t))

  -- k of the n elements are read
  module _ (k n : ℕ) where
    count_up : k < n → part_of (run (elements top previous (n - k)) i (drop i t)) ≡ part_of (run (elements top previous (suc (n - (k + 1)))) i (drop i t))
    count_up h = ap (λ (m : ℕ). part_of (run (elements top previous m) i (drop i t))) (more k n h)

    pub elements_on : (v p a j : ℕ) → k < n → got_of (run value i (drop i t)) ≡ Ok (v, p)
        → got_of (run (one (member false top previous)) p (drop p t)) ≡ Ok (a, j)
        → part_of (run (elements top previous (n - k)) i (drop i t)) ≡ part_of (run (elements top a (n - (k + 1))) j (drop j t))
    elements_on v p a j h e f = count_up h ∙ next_element (n - (k + 1)) v p a j e f

    pub elements_stop : (r : Refusal) → k < n → got_of (run value i (drop i t)) ≡ Err r → part_of (run (elements top previous (n - k)) i (drop i t)) ≡ Err r
    elements_stop r h e = count_up h ∙ stop_value (n - (k + 1)) r e

    pub elements_stop_atom : (v p : ℕ) (r : Refusal) → k < n → got_of (run value i (drop i t)) ≡ Ok (v, p)
        → got_of (run (one (member false top previous)) p (drop p t)) ≡ Err r → part_of (run (elements top previous (n - k)) i (drop i t)) ≡ Err r
    elements_stop_atom v p r h e f = count_up h ∙ stop_atom (n - (k + 1)) v p r e f

    pub elements_none : n ≤ k → part_of (run (elements top previous (n - k)) i (drop i t)) ≡ Ok i
    elements_none h = ap (λ (m : ℕ). part_of (run (elements top previous m) i (drop i t))) (over k n h) ∙ no_element

-- ---- n parts of one kind

module _ {A : Type 0} (t : List ℤ) (F : Format A) (i : ℕ) where
  next_part : (n j : ℕ) → part_of (run F i (drop i t)) ≡ Ok j → part_of (run (times (suc n) F) i (drop i t)) ≡ part_of (run (times n F) j (drop j t))
  unfolding times
  next_part n j e =
      let g = part_on t F (λ x. times n F >>= λ xs. done (x ∷ xs)) i j e in
      ap part_of g.1 ∙ part_map (times n F) (λ xs. g.0 ∷ xs) j (drop j t)

  stop_part : (n : ℕ) (r : Refusal) → part_of (run F i (drop i t)) ≡ Err r → part_of (run (times (suc n) F) i (drop i t)) ≡ Err r
  unfolding times
  stop_part n r e = part_stop F (λ x. times n F >>= λ xs. done (x ∷ xs)) i (drop i t) r e

  no_part : part_of (run (times 0 F) i (drop i t)) ≡ Ok i
  unfolding times
  no_part = ap part_of (run_done [] i (drop i t))

  -- k of the n parts are read
  module _ (k n : ℕ) where
    pub times_on : (j : ℕ) → k < n → part_of (run F i (drop i t)) ≡ Ok j
        → part_of (run (times (n - k) F) i (drop i t)) ≡ part_of (run (times (n - (k + 1)) F) j (drop j t))
    times_on j h e = ap (λ (m : ℕ). part_of (run (times m F) i (drop i t))) (more k n h) ∙ next_part (n - (k + 1)) j e

    pub times_stop : (r : Refusal) → k < n → part_of (run F i (drop i t)) ≡ Err r → part_of (run (times (n - k) F) i (drop i t)) ≡ Err r
    times_stop r h e = ap (λ (m : ℕ). part_of (run (times m F) i (drop i t))) (more k n h) ∙ stop_part (n - (k + 1)) r e

    pub times_none : n ≤ k → part_of (run (times (n - k) F) i (drop i t)) ≡ Ok i
    times_none h = ap (λ (m : ℕ). part_of (run (times m F) i (drop i t))) (over k n h) ∙ no_part
