-- What the results of the code tell of what was read: a word with the next index, a number, a part. Assumes nothing.
use mathlib.Core.Path.{◌≡◌, refl, sym, ap, ◌∙◌}
use mathlib.Core.List.{List, [], ◌∷◌}
use mathlib.Core.Option.{none, some}
use Prim.Native.Nat.{ℕ, suc}
use lib.IntN.{ℤ, nat_abs}
use lib.ListN.{drop}
use Rattle.std.proofs.lemmas.Result.{err_from_is_err_and}
use Rattle.std.specs.Prelude.{Ok, Err, IsErrAnd}
use Rattle.std.specs.Prelude.{Result as Returned}
use Rattle.results.specs.declared.Refusal.{Refusal}
use Rattle.results.specs.declared.Refusal.TheVariants.{Absent}
use Rattle.table.specs.Roles.{Role, fault, Format, done, Result, read, refused, run}
use Rattle.table.specs.Grammar.{one}
use Rattle.table.specs.Places.{word_of, got_of, part_of}
use Rattle.table.proofs.Run.{run_done, run_absent, run_good, run_bad, run_at}

-- a value in an answer
same : {A : Type 0} {x y : A} → ◌≡◌ {A = Returned A Refusal} (Ok x) (Ok y) → x ≡ y
same e = cc

-- ---- a word

module _ (role : Role) (i : ℕ) where
  -- it is not there
  pub got_absent : (ws : List ℤ) (r : Refusal) → word_of i ws ≡ Err r → got_of (run (one role) i ws) ≡ Err (Absent i)
  got_absent [] r e = ap got_of (run_absent role done i)
  got_absent (w ∷ ws) r e = cc

  -- it has a fault
  pub got_bad : (ws : List ℤ) (w : ℤ) (j : ℕ) (r : Refusal) → word_of i ws ≡ Ok (w, j) → fault role i w ≡ some r → got_of (run (one role) i ws) ≡ Err r
  got_bad [] w j r e f = cc
  got_bad (v ∷ vs) w j r e f = let q = same e in ap got_of (run_bad role done i v vs r (ap (λ (p : ℤ × ℕ). fault role i p.0) q ∙ f))

  -- it has none
  pub got_good : (ws : List ℤ) (w : ℤ) (j : ℕ) → word_of i ws ≡ Ok (w, j) → fault role i w ≡ none → got_of (run (one role) i ws) ≡ Ok (nat_abs w, j)
  got_good [] w j e f = cc
  got_good (v ∷ vs) w j e f =
      let q = same e in
      ap got_of (run_good role done i v vs (ap (λ (p : ℤ × ℕ). fault role i p.0) q ∙ f) ∙ run_done v (suc i) vs)
      ∙ ap (λ (p : ℤ × ℕ). Ok (nat_abs p.0, p.1)) q

-- ---- a number

pub got_read : (t : List ℤ) (F : Format ℤ) (i n j : ℕ) → got_of (run F i (drop i t)) ≡ Ok (n, j)
    → (w : ℤ) × (nat_abs w ≡ n) × (run F i (drop i t) ≡ read w j (drop j t))
got_read t F i n j e = go (run F i (drop i t)) refl
  where
    go : (r : Result ℤ) → run F i (drop i t) ≡ r → (w : ℤ) × (nat_abs w ≡ n) × (run F i (drop i t) ≡ read w j (drop j t))
    go (read w k ws) h =
        let g : got_of (read w k ws) ≡ Ok (n, j) = sym (ap got_of h) ∙ e in
        let q = same g in
        (w, ap (λ (p : ℕ × ℕ). p.0) q, run_at t F i w j ws (h ∙ ap (λ (p : ℕ × ℕ). read w p.1 ws) q))
    go (refused r) h = let g : got_of (refused r) ≡ Ok (n, j) = sym (ap got_of h) ∙ e in absurd (cc)

pub got_refused : (F : Format ℤ) (i : ℕ) (ws : List ℤ) (r : Refusal) → got_of (run F i ws) ≡ Err r → run F i ws ≡ refused r
got_refused F i ws r e = go (run F i ws) refl
  where
    go : (s : Result ℤ) → run F i ws ≡ s → run F i ws ≡ refused r
    go (read w k vs) h = let g : got_of (read w k vs) ≡ Err r = sym (ap got_of h) ∙ e in absurd (cc)
    go (refused s) h = let g : got_of (refused s) ≡ Err r = sym (ap got_of h) ∙ e in cc

-- ---- a part

module _ {A : Type 0} where
  pub part_read : (t : List ℤ) (F : Format A) (i j : ℕ) → part_of (run F i (drop i t)) ≡ Ok j → (x : A) × (run F i (drop i t) ≡ read x j (drop j t))
  part_read t F i j e = go (run F i (drop i t)) refl
    where
      go : (r : Result A) → run F i (drop i t) ≡ r → (x : A) × (run F i (drop i t) ≡ read x j (drop j t))
      go (read x k ws) h =
          let g : part_of (read x k ws) ≡ Ok j = sym (ap part_of h) ∙ e in
          let next : k ≡ j = cc in
          (x, run_at t F i x j ws (h ∙ ap (λ (m : ℕ). read x m ws) next))
      go (refused r) h = let g : part_of {A = A} (refused r) ≡ Ok j = sym (ap part_of h) ∙ e in absurd (cc)

  pub part_refused : (F : Format A) (i : ℕ) (ws : List ℤ) (r : Refusal) → part_of (run F i ws) ≡ Err r → run F i ws ≡ refused r
  part_refused F i ws r e = go (run F i ws) refl
    where
      go : (s : Result A) → run F i ws ≡ s → run F i ws ≡ refused r
      go (read x k vs) h = let g : part_of (read x k vs) ≡ Err r = sym (ap part_of h) ∙ e in absurd (cc)
      go (refused s) h = let g : part_of {A = A} (refused s) ≡ Err r = sym (ap part_of h) ∙ e in cc

-- ---- what a function returns that ends at a refusal of what it asked

pub ends : {T : Type 0} (r : Returned T Refusal) (e : Refusal) → IsErrAnd r (λ (f : Refusal). f ≡ e) → r ≡ Err e
ends r e h = let p = err_from_is_err_and r h in p.1 ∙ ap Err p.2
