-- The sections of the table and the whole, in the terms of the code: where the aggregates begin, the end of the table, the refusals that
-- come before and after. Assumes nothing.
use mathlib.Core.Path.{◌≡◌, refl, sym, ap, ◌∙◌, subst}
use mathlib.Core.List.{List, [], ◌∷◌}
use Prim.Native.Nat.{ℕ, suc, ◌+◌, ◌-◌, ◌≤◌, ◌<◌}
use native.Mathlib.Numerals.{add-one}
use native.Mathlib.Omega.{arith}
use lib.IntN.{ℤ, pos, nat_abs}
use lib.ListN.{length, drop, set, length-append, drop_of_length-le}
use lib.Seq.{drop-cons}
use Rattle.std.specs.Prelude.{Ok, Err}
use Rattle.results.specs.declared.Refusal.{Refusal}
use Rattle.results.specs.declared.Refusal.TheVariants.{Trailing}
use Rattle.meaning.specs.Program.{Aggregate}
use Rattle.table.specs.Roles.{count, Format, done, ◌>>=◌, Result, read, refused, run}
use Rattle.table.specs.Contents.{RuleInRange, encode_aggregate, encode_rule}
use Rattle.table.specs.Grammar.{one, times, aggregate, aggregates, rule, rules}
use Rattle.table.specs.Places.{got_of, part_of, no_starts, placed, places_from, finished}
use Rattle.table.proofs.Drops.{at_below}
use Rattle.table.proofs.Run.{run_done, run_length, bind_on, bind_stop}
use Rattle.table.proofs.Faults.{count_good}
use Rattle.table.proofs.Returned.{got_read, got_refused, part_read, part_refused}
use Rattle.table.proofs.Parts.{word_on}
use Rattle.table.proofs.Sound.{one_sound, aggregate_sound, rule_sound, times_sound}

-- ---- the aggregates

-- an aggregate's words are as many as its index goes on by
pub aggregate_next_lem : (t : List ℤ) (top i : ℕ) (a : Aggregate) (j : ℕ) → run (aggregate top) i (drop i t) ≡ read a j (drop j t) → j ≡ i + length (encode_aggregate a)
aggregate_next_lem t top i a j e =
    let h = aggregate_sound top i (drop i t) a j (drop j t) e in
    let l = run_length (aggregate top) i (drop i t) a j (drop j t) e in
    let q : length (drop i t) ≡ length (encode_aggregate a) + length (drop j t) = ap length h.there ∙ length-append (encode_aggregate a) (drop j t) in
    omega arith

-- it begins within the table
pub aggregate_within : (t : List ℤ) (top i j : ℕ) → part_of (run (aggregate top) i (drop i t)) ≡ Ok j → i < length t
unfolding encode_aggregate
aggregate_within t top i j e =
    let g = part_read t (aggregate top) i j e in
    let h = aggregate_sound top i (drop i t) g.0 j (drop j t) g.1 in
    at_below t i _ _ h.there

module _ (t : List ℤ) (top k i : ℕ) (starts : List ℕ) where
  -- after the aggregate a
  after : ℕ → Aggregate → Format (List Aggregate)
  after m a = times m (aggregate top) >>= λ gs. done (a ∷ gs)

  place_next : (m j : ℕ) (a : Aggregate) → run (aggregate top) i (drop i t) ≡ read a j (drop j t)
      → places_from k i starts (run (times (suc m) (aggregate top)) i (drop i t)) ≡ places_from (suc k) j (set starts k i) (run (times m (aggregate top)) j (drop j t))
  unfolding times after
  place_next m j a e = go (run (times m (aggregate top)) j (drop j t)) refl
    where
      go : (r : Result (List Aggregate)) → run (times m (aggregate top)) j (drop j t) ≡ r
          → places_from k i starts (run (times (suc m) (aggregate top)) i (drop i t)) ≡ places_from (suc k) j (set starts k i) (run (times m (aggregate top)) j (drop j t))
      go (read gs l ws) h =
          let n : k + suc (length gs) ≡ suc k + length gs = omega arith in
          let b = bind_on (aggregate top) (after m) i (drop i t) a j (drop j t) e in
          let d = bind_on (times m (aggregate top)) (λ xs. done (a ∷ xs)) j (drop j t) gs l ws h in
          ap (places_from k i starts) (b ∙ d ∙ run_done (a ∷ gs) l ws)
          ∙ (λ s. Ok (record { number = n s; starts = placed (suc k) (sym (aggregate_next_lem t top i a j e) s) gs (set starts k i); end = l }))
          ∙ sym (ap (places_from (suc k) j (set starts k i)) h)
      go (refused r) h =
          let b = bind_on (aggregate top) (after m) i (drop i t) a j (drop j t) e in
          ap (places_from k i starts) (b ∙ bind_stop (times m (aggregate top)) (λ xs. done (a ∷ xs)) j (drop j t) r h) ∙ sym (ap (places_from (suc k) j (set starts k i)) h)

  place_stop : (m : ℕ) (r : Refusal) → run (aggregate top) i (drop i t) ≡ refused r
      → places_from k i starts (run (times (suc m) (aggregate top)) i (drop i t)) ≡ Err r
  unfolding times after
  place_stop m r e = ap (places_from k i starts) (bind_stop (aggregate top) (after m) i (drop i t) r e)

  place_none : places_from k i starts (run (times 0 (aggregate top)) i (drop i t)) ≡ Ok (record { number = k; starts = starts; end = i })
  unfolding times
  place_none =
      let n : k + 0 ≡ k = omega arith in
      ap (places_from k i starts) (run_done [] i (drop i t)) ∙ (λ s. Ok (record { number = n s; starts = starts; end = i }))

  module _ (n : ℕ) where
    pub places_on : (j : ℕ) → k < n → part_of (run (aggregate top) i (drop i t)) ≡ Ok j
        → places_from k i starts (run (times (n - k) (aggregate top)) i (drop i t))
        ≡ places_from (k + 1) j (set starts k i) (run (times (n - (k + 1)) (aggregate top)) j (drop j t))
    places_on j h e =
        let g = part_read t (aggregate top) i j e in
        let m : n - k ≡ suc (n - (k + 1)) = omega arith in
        ap (λ (l : ℕ). places_from k i starts (run (times l (aggregate top)) i (drop i t))) m
        ∙ place_next (n - (k + 1)) j g.0 g.1
        ∙ ap (λ (l : ℕ). places_from l j (set starts k i) (run (times (n - (k + 1)) (aggregate top)) j (drop j t))) (sym (add-one k))

    pub places_stop : (r : Refusal) → k < n → part_of (run (aggregate top) i (drop i t)) ≡ Err r
        → places_from k i starts (run (times (n - k) (aggregate top)) i (drop i t)) ≡ Err r
    places_stop r h e =
        let m : n - k ≡ suc (n - (k + 1)) = omega arith in
        ap (λ (l : ℕ). places_from k i starts (run (times l (aggregate top)) i (drop i t))) m
        ∙ place_stop (n - (k + 1)) r (part_refused (aggregate top) i (drop i t) r e)

    pub places_none : k ≤ n → n ≤ k → places_from k i starts (run (times (n - k) (aggregate top)) i (drop i t)) ≡ Ok (record { number = n; starts = starts; end = i })
    places_none h l =
        let m : n - k ≡ 0 = omega arith in
        let q : k ≡ n = omega arith in
        ap (λ (u : ℕ). places_from k i starts (run (times u (aggregate top)) i (drop i t))) m
        ∙ place_none
        ∙ (λ s. Ok (record { number = q s; starts = starts; end = i }))

-- the section, after its count
module _ (t : List ℤ) (top i : ℕ) where
  pub section_stop : (r : Refusal) → got_of (run (one (count 64)) i (drop i t)) ≡ Err r
      → places_from 0 (suc i) no_starts (run (aggregates top) i (drop i t)) ≡ Err r
  unfolding aggregates
  section_stop r e =
      ap (places_from 0 (suc i) no_starts) (bind_stop (one (count 64)) (λ g. times (nat_abs g) (aggregate top)) i (drop i t) r (got_refused (one (count 64)) i (drop i t) r e))

  pub section_count : (n j : ℕ) → got_of (run (one (count 64)) i (drop i t)) ≡ Ok (n, j) → n ≤ 64
  section_count n j e =
      let g = got_read t (one (count 64)) i n j e in
      let o = one_sound (count 64) i (drop i t) g.0 j (drop j t) g.2 in
      subst (λ (m : ℕ). m ≤ 64) g.1 (count_good 64 i g.0 o.good).1

  pub section_on : (n j : ℕ) → got_of (run (one (count 64)) i (drop i t)) ≡ Ok (n, j)
      → places_from 0 (suc i) no_starts (run (aggregates top) i (drop i t)) ≡ places_from 0 j no_starts (run (times n (aggregate top)) j (drop j t))
  unfolding aggregates
  section_on n j e =
      let g = word_on t (one (count 64)) (λ w. times (nat_abs w) (aggregate top)) i n j e in
      let h = got_read t (one (count 64)) i n j e in
      let o = one_sound (count 64) i (drop i t) h.0 j (drop j t) h.2 in
      ap (places_from 0 (suc i) no_starts) g.2
      ∙ ap (λ (k : ℕ). places_from 0 k no_starts (run (times (nat_abs g.0) (aggregate top)) j (drop j t))) o.next
      ∙ ap (λ (k : ℕ). places_from 0 j no_starts (run (times k (aggregate top)) j (drop j t))) g.1

-- ---- the rules, and the end

module _ (t : List ℤ) (n g : ℕ) (starts : List ℕ) (i : ℕ) where
  pub finish_stop : (r : Refusal) → got_of (run (one (count 1024)) i (drop i t)) ≡ Err r → finished n g starts i (run (rules n g) i (drop i t)) ≡ Err r
  unfolding rules
  finish_stop r e =
      ap (finished n g starts i) (bind_stop (one (count 1024)) (λ m. times (nat_abs m) (rule n g)) i (drop i t) r (got_refused (one (count 1024)) i (drop i t) r e))

  module _ (m j : ℕ) (e : got_of (run (one (count 1024)) i (drop i t)) ≡ Ok (m, j)) where
    counted : run (rules n g) i (drop i t) ≡ run (times m (rule n g)) j (drop j t)
    unfolding rules
    counted =
        let w = word_on t (one (count 1024)) (λ v. times (nat_abs v) (rule n g)) i m j e in
        w.2 ∙ ap (λ (k : ℕ). run (times k (rule n g)) j (drop j t)) w.1

    after_count : suc i ≡ j
    after_count =
        let h = got_read t (one (count 1024)) i m j e in
        (one_sound (count 1024) i (drop i t) h.0 j (drop j t) h.2).next

    pub finish_stop2 : (r : Refusal) → part_of (run (times m (rule n g)) j (drop j t)) ≡ Err r → finished n g starts i (run (rules n g) i (drop i t)) ≡ Err r
    finish_stop2 r h = ap (finished n g starts i) (counted ∙ part_refused (times m (rule n g)) j (drop j t) r h)

    module _ (k : ℕ) (h : part_of (run (times m (rule n g)) j (drop j t)) ≡ Ok k) where
      pub finish_trailing : k < length t → finished n g starts i (run (rules n g) i (drop i t)) ≡ Err (Trailing k)
      finish_trailing l =
          let x = part_read t (times m (rule n g)) j k h in
          ap (finished n g starts i) (counted ∙ x.1 ∙ ap (read x.0 k) (drop-cons t k (pos 0) l))

      pub finish_end : length t ≤ k
          → finished n g starts i (run (rules n g) i (drop i t)) ≡ Ok (record { atoms = n; aggregates = g; rules = m; first = j; starts = starts })
      finish_end l =
          let x = part_read t (times m (rule n g)) j k h in
          let s = times_sound (rule n g) encode_rule (RuleInRange n g) (λ i ws r j rest e. let q = rule_sound n g i ws r j rest e in (q.there, q.range)) m j (drop j t) x.0 k (drop k t) x.1 in
          ap (finished n g starts i) (counted ∙ x.1 ∙ ap (read x.0 k) (drop_of_length-le t l))
          ∙ (λ u. Ok (record { atoms = n; aggregates = g; rules = s.number u; first = after_count u; starts = starts }))
