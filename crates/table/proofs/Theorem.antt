-- The promises of the refusals 1 to 7, and what later crates may use of an accepted table. Assumes nothing.
use mathlib.Core.Path.{◌≡◌, refl, sym, ap, ◌∙◌, subst}
use mathlib.Core.Bool.{Bool}
use mathlib.Core.List.Memᴰ
use mathlib.Core.List.{List, [], ◌∷◌, ◌++◌, map, append-nil}
use mathlib.Core.Logic.{◌⊎◌, inl, inr, ◌↔◌}
use Prim.Native.Nat.{ℕ, suc, ◌+◌, ◌-◌, ◌≤◌, ◌<◌, min}
use native.Mathlib.Omega.{arith}
use lib.IntN.{ℤ, pos}
use lib.ListN.{length, get_or, take, drop, length-take, length-drop}
use lib.Seq.{take-take, drop-cons}
use borrow.Author.Tests.{le-leb, lt-leb}
use Rattle.std.specs.Prelude.{Ok}
use Rattle.std.specs.Prelude.{Result as Returned}
use Rattle.layout.specs.declared.Table.{Table}
use Rattle.results.specs.declared.Refusal.{Refusal}
use Rattle.results.specs.declared.Refusal.TheVariants.{TooManyWords, Absent, Trailing}
use Rattle.results.specs.Results.{place_of}
use Rattle.meaning.specs.Lists.{◌∈◌}
use Rattle.meaning.specs.Program.{Element, Aggregate}
use Rattle.table.specs.Roles.{Result, read, refused, run}
use Rattle.table.specs.Contents.{Contents, Ascending, AggregateInRange, InRange, encode}
use Rattle.table.specs.Grammar.{table, Outcome, accepted, refused_for, ended, outcome_by, contents_of}
use Rattle.table.specs.Promises.{Encoding, FirstFault}
use Rattle.table.specs.Places.{table_of, reading_of}
use Rattle.table.proofs.Run.{same_what}
use Rattle.table.proofs.Complete.{table_reads}
use Rattle.table.proofs.FirstFault.{stopped, went}
use Rattle.table.proofs.Accepted.{accepted≢refused, accepted_encoding, fault_nothing, reading_accepted}

-- ---- accepted exactly if an encoding

few : (t : List ℤ) → length t ≤ 16384 → contents_of t ≡ ended (run table 0 t)
unfolding contents_of
few t h = ap (λ (b : Bool). outcome_by b t) (le-leb (length t) 16384 h)

many : (t : List ℤ) → 16384 < length t → contents_of t ≡ refused_for TooManyWords
unfolding contents_of
many t h = ap (λ (b : Bool). outcome_by b t) (lt-leb (length t) 16384 h)

pub encoding_accepted : (t : List ℤ) (c : Contents) → Encoding t c → contents_of t ≡ accepted c
encoding_accepted t c e =
    let r = table_reads 0 c [] e.range in
    few t e.short ∙ ap ended (ap (run table 0) (e.words ∙ sym (append-nil (encode c))) ∙ r.1)

-- "so nothing good is refused and nothing bad is taken", and the contents read are those that are encoded
pub accepted↔encoding : (t : List ℤ) (c : Contents) → (contents_of t ≡ accepted c) ↔ Encoding t c
accepted↔encoding t c = (accepted_encoding t c, encoding_accepted t c)

-- words encode one contents only
pub encode_injective : (c d : Contents) → InRange c → InRange d → encode c ≡ encode d → c ≡ d
encode_injective c d p q e =
    let r = table_reads 0 c [] p in
    let s = table_reads 0 d [] q in
    same_what (sym r.1 ∙ ap (λ (ws : List ℤ). run table 0 (ws ++ [])) e ∙ s.1)

-- the same of what `read` returns: a table exactly if the words are an encoding
pub nothing↔encoding : (t : List ℤ) → ((tb : Table) × (reading_of t ≡ Ok tb)) ↔ ((c : Contents) × Encoding t c)
nothing↔encoding t = (
  λ e. let n = fault_nothing t e.0 e.1 in (n.0, accepted_encoding t n.0 n.1),
  λ e. (table_of e.0, reading_accepted t e.0 (encoding_accepted t e.0 e.1)),
)

-- the contract of `read` leaves no choice
pub reading_unique : (t : List ℤ) (r s : Returned Table Refusal) → r ≡ reading_of t → s ≡ reading_of t → r ≡ s
reading_unique t r s e f = e ∙ sym f

-- ---- the first fault from the left

abbrev refusal_in : Refusal → Outcome → Refusal
refusal_in d (accepted c) = d
refusal_in d (refused_for r) = r

same_refusal : {r s : Refusal} → refused_for r ≡ refused_for s → r ≡ s
same_refusal {r} e = ap (refusal_in r) e

module _ (t : List ℤ) (short : length t ≤ 16384) where
  -- a beginning of the table is as short
  cut : (k : ℕ) → length (take k t) ≤ 16384
  cut k = rw (length-take k t) (omega arith)

  stopped_first : (r : Refusal) → run table 0 t ≡ refused r → FirstFault t r
  stopped_first r h =
      let s = stopped table 0 t r h in
      let n = s.m in
      let p : place_of r ≡ n = s.place ∙ zero_less n in
      record {
        inside = let l = s.inside in omega arith;
        before = λ k l.
            let q : k ≤ n = omega arith in
            few (take k t) (cut k) ∙ ap ended (s.before k q) ∙ ap (λ (i : ℕ). refused_for (Absent i)) (zero_less k);
        there = λ u l a. few u l ∙ ap ended (s.after u (subst (λ (m : ℕ). take (suc m) u ≡ take (suc m) t) p a));
      }
    where
      zero_less : (k : ℕ) → 0 + k ≡ k
      zero_less k = omega arith

  trailing_first : (c : Contents) (i : ℕ) (v : ℤ) (vs : List ℤ) → run table 0 t ≡ read c i (v ∷ vs) → FirstFault t (Trailing i)
  trailing_first c i v vs h =
      let g = went table 0 t c i (v ∷ vs) h in
      let n = g.m in
      let p : i ≡ n = g.index ∙ zero_less n in
      let l : suc (length vs) ≡ length t - n = ap length g.left ∙ length-drop n t in
      record {
        inside = omega arith;
        before = λ k q.
            let z : k < n = omega arith in
            few (take k t) (cut k) ∙ ap ended (g.before k z) ∙ ap (λ (m : ℕ). refused_for (Absent m)) (zero_less k);
        there = λ u q a.
            let b : take (suc n) u ≡ take (suc n) t = subst (λ (m : ℕ). take (suc m) u ≡ take (suc m) t) p a in
            let w = left_over u n (omega (arith, alike u t (suc n) b)) in
            few u q ∙ ap ended (g.after u (shorter u t n b) ∙ ap (read c i) w.2);
      }
    where
      zero_less : (k : ℕ) → 0 + k ≡ k
      zero_less k = omega arith

      -- lists that begin alike are both long or both short
      alike : (u t : List ℤ) (n : ℕ) → take n u ≡ take n t → min n (length u) ≡ min n (length t)
      alike u t n e = sym (length-take n u) ∙ ap length e ∙ length-take n t

      shorter : (u t : List ℤ) (n : ℕ) → take (suc n) u ≡ take (suc n) t → take n u ≡ take n t
      shorter u t n e = sym (take-take n (suc n) u (omega arith)) ∙ ap (take n) e ∙ take-take n (suc n) t (omega arith)

      left_over : (u : List ℤ) (n : ℕ) → n < length u → (w : ℤ) × (ws : List ℤ) × (drop n u ≡ w ∷ ws)
      left_over u n h = (get_or u n (pos 0), drop (suc n) u, drop-cons u n (pos 0) h)

  pub first_fault : (r : Refusal) → contents_of t ≡ refused_for r → FirstFault t r
  first_fault r e = go (run table 0 t) refl
    where
      go : (x : Result Contents) → run table 0 t ≡ x → FirstFault t r
      go (read c i []) h = accepted≢refused (sym (few t short ∙ ap ended h) ∙ e)
      go (read c i (v ∷ vs)) h = subst (FirstFault t) (same_refusal (sym (few t short ∙ ap ended h) ∙ e)) (trailing_first c i v vs h)
      go (refused s) h = subst (FirstFault t) (same_refusal (sym (few t short ∙ ap ended h) ∙ e)) (stopped_first s h)

-- 1 comes before all others, and only where there are more than 16,384 words
pub too_many_lem : (t : List ℤ) → 16384 < length t → contents_of t ≡ refused_for TooManyWords
too_many_lem t h = many t h

-- ---- aggregates

-- a member of an ascending list is above the number before the list
above_previous : (top previous : ℕ) (l : List ℕ) (p : ℕ) → Ascending top previous l → p ∈ l → previous < p
above_previous top previous [] p a m = absurd (Memᴰ.not-nil m)
above_previous top previous (x ∷ l) p a m = go (Memᴰ.cases_cons m) (λ h. above_previous top x l p a.2 h)
  where
    go : (p ≡ x) ⊎ (p ∈ l) → (p ∈ l → x < p) → previous < p
    go (inl e) f = rw e a.0
    go (inr h) f = let q = f h in let r = a.0 in omega arith

atom_member : (es : List Element) (e : Element) → e ∈ es → e.atom ∈ map (λ (d : Element). d.atom) es
atom_member [] e m = absurd (Memᴰ.not-nil m)
atom_member (d ∷ es) e m = go (Memᴰ.cases_cons m) (λ h. atom_member es e h)
  where
    go : (e ≡ d) ⊎ (e ∈ es) → (e ∈ es → e.atom ∈ map (λ (d : Element). d.atom) es) → e.atom ∈ map (λ (d : Element). d.atom) (d ∷ es)
    go (inl h) f = Memᴰ.head (ap (λ (x : Element). x.atom) h)
    go (inr h) f = Memᴰ.tail (f h)

ascending_distinct : (top previous : ℕ) (es : List Element) → Ascending top previous (map (λ (e : Element). e.atom) es)
    → (d e : Element) → d ∈ es → e ∈ es → d.atom ≡ e.atom → d ≡ e
ascending_distinct top previous [] a d e m n q = absurd (Memᴰ.not-nil m)
ascending_distinct top previous (x ∷ es) a d e m n q =
    go (Memᴰ.cases_cons m) (Memᴰ.cases_cons n) (λ h k. ascending_distinct top x.atom es a.2 d e h k q)
  where
    later : (y : Element) → y ∈ es → x.atom < y.atom
    later y h = above_previous top x.atom (map (λ (e : Element). e.atom) es) y.atom a.2 (atom_member es y h)

    go : (d ≡ x) ⊎ (d ∈ es) → (e ≡ x) ⊎ (e ∈ es) → (d ∈ es → e ∈ es → d ≡ e) → d ≡ e
    go (inl h) (inl k) f = h ∙ sym k
    go (inl h) (inr k) f =
        let l = later e k in
        let p : d.atom ≡ x.atom = ap (λ (y : Element). y.atom) h in
        absurd (omega arith)
    go (inr h) (inl k) f =
        let l = later d h in
        let p : e.atom ≡ x.atom = ap (λ (y : Element). y.atom) k in
        absurd (omega arith)
    go (inr h) (inr k) f = f h k

-- "Atoms ascend strictly inside one aggregate, so an atom occurs there once"
pub aggregate_distinct : (n : ℕ) (g : Aggregate) → AggregateInRange n g → (d e : Element) → d ∈ g.elements → e ∈ g.elements → d.atom ≡ e.atom → d ≡ e
aggregate_distinct n g r = ascending_distinct n 0 g.elements r.atoms
