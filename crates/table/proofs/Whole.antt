-- The whole table: what was read is its encoding, and what the code makes of it. Assumes nothing.
use mathlib.Core.Path.{◌≡◌, refl, sym, ap, ◌∙◌, subst}
use mathlib.Core.Bool.{Bool}
use mathlib.Core.List.{List, [], ◌∷◌, ◌++◌, append_assoc}
use Prim.Native.Nat.{ℕ, suc, ◌+◌, ◌≤◌, ◌<◌}
use native.Mathlib.Omega.{arith}
use lib.IntN.{ℤ, pos, nat_abs}
use lib.ListN.{length, drop, length-append}
use borrow.Author.Tests.{le-leb, lt-leb}
use Rattle.std.specs.Prelude.{Ok, Err}
use Rattle.results.specs.declared.Refusal.{Refusal}
use Rattle.results.specs.declared.Refusal.TheVariants.{TooManyWords}
use Rattle.meaning.specs.Program.{Aggregate}
use Rattle.table.specs.Roles.{count, Format, done, ◌>>=◌, Result, read, refused, run}
use Rattle.table.specs.Contents.{NumberedRule, Contents, Each, AggregateInRange, RuleInRange, InRange, encode_aggregate, encode_rule, encode_all, encode}
use Rattle.table.specs.Grammar.{one, times, aggregate, aggregates, rule, rules, table, contents_of, outcome_by, ended}
use Rattle.table.specs.Places.{got_of, no_starts, placed, places_from, finished, table_of, reading_by, reading_of}
use Rattle.table.specs.declared.Places.{Places}
use Rattle.table.proofs.Run.{run_done, run_length, run_at, both, bind_on, bind_stop}
use Rattle.table.proofs.Faults.{count_good}
use Rattle.table.proofs.Returned.{got_read, got_refused}
use Rattle.table.proofs.Sound.{one_sound, mapped, aggregate_sound, rule_sound, times_sound}

-- ---- the sections are encodings

pub record Section {A : Type 0} (encodeOne : A → List ℤ) (P : A → Type 0) (most : ℕ) (ws : List ℤ) (xs : List A) (rest : List ℤ) : Type 0 where
  pub there : ws ≡ pos (length xs) ∷ (encode_all encodeOne xs ++ rest)
  pub few : length xs ≤ most
  pub each : Each P xs

module _ {A : Type 0} (F : Format A) (encodeOne : A → List ℤ) (P : A → Type 0) (most : ℕ)
    (sound : (i : ℕ) (ws : List ℤ) (x : A) (j : ℕ) (rest : List ℤ) → run F i ws ≡ read x j rest → (ws ≡ encodeOne x ++ rest) × P x) where
  section_sound : (i : ℕ) (ws : List ℤ) (xs : List A) (j : ℕ) (rest : List ℤ)
      → run (one (count most) >>= λ n. times (nat_abs n) F) i ws ≡ read xs j rest → Section encodeOne P most ws xs rest
  section_sound i ws xs j rest e =
      let b = both (one (count most)) (λ n. times (nat_abs n) F) i ws xs j rest e in
      let o = one_sound (count most) i ws b.x b.k b.mid b.first in
      let g = count_good most i b.x o.good in
      let h = times_sound F encodeOne P sound (nat_abs b.x) b.k b.mid xs j rest b.second in
      let n : b.x ≡ pos (length xs) = sym g.0 ∙ ap pos (sym h.number) in
      record {
        there = o.there ∙ (λ t. n t ∷ h.there t);
        few = rw h.number g.1;
        each = h.each;
      }

pub aggregates_sound : (top i : ℕ) (ws : List ℤ) (gs : List Aggregate) (j : ℕ) (rest : List ℤ)
    → run (aggregates top) i ws ≡ read gs j rest → Section encode_aggregate (AggregateInRange top) 64 ws gs rest
unfolding aggregates
aggregates_sound top =
    section_sound (aggregate top) encode_aggregate (AggregateInRange top) 64 (λ i ws a j rest e. let q = aggregate_sound top i ws a j rest e in (q.there, q.range))

pub rules_sound : (top most i : ℕ) (ws : List ℤ) (rs : List NumberedRule) (j : ℕ) (rest : List ℤ)
    → run (rules top most) i ws ≡ read rs j rest → Section encode_rule (RuleInRange top most) 1024 ws rs rest
unfolding rules
rules_sound top most =
    section_sound (rule top most) encode_rule (RuleInRange top most) 1024 (λ i ws r j rest e. let q = rule_sound top most i ws r j rest e in (q.there, q.range))

-- ---- the table, section by section

abbrev made : ℕ → List Aggregate → List NumberedRule → Contents
made n gs rs = record { atoms = n; aggregates = gs; rules = rs }

abbrev rest2 : ℤ → List Aggregate → Format Contents
rest2 n gs = rules (nat_abs n) (length gs) >>= λ rs. done (made (nat_abs n) gs rs)

abbrev rest1 : ℤ → Format Contents
rest1 n = aggregates (nat_abs n) >>= rest2 n

pub record Whole (ws : List ℤ) (c : Contents) (rest : List ℤ) : Type 0 where
  pub there : ws ≡ encode c ++ rest
  pub range : InRange c

pub table_sound : (i : ℕ) (ws : List ℤ) (c : Contents) (j : ℕ) (rest : List ℤ) → run table i ws ≡ read c j rest → Whole ws c rest
unfolding table encode
table_sound i ws c j rest e =
    let n = both (one (count 256)) rest1 i ws c j rest e in
    let o = one_sound (count 256) i ws n.x n.k n.mid n.first in
    let g = count_good 256 i n.x o.good in
    let a = both (aggregates (nat_abs n.x)) (rest2 n.x) n.k n.mid c j rest n.second in
    let as' = aggregates_sound (nat_abs n.x) n.k n.mid a.x a.k a.mid a.first in
    let d = mapped (rules (nat_abs n.x) (length a.x)) (made (nat_abs n.x) a.x) a.k a.mid c j rest a.second in
    let rs = rules_sound (nat_abs n.x) (length a.x) a.k a.mid d.0 j rest d.2 in
    record {
      there = o.there
          ∙ (λ t. sym g.0 t ∷ (as'.there ∙ ap (λ (m : List ℤ). pos (length a.x) ∷ m) (ap (λ (m : List ℤ). encode_all encode_aggregate a.x ++ m) rs.there ∙ sym (append_assoc (encode_all encode_aggregate a.x) (pos (length d.0) ∷ encode_all encode_rule d.0) rest))) t)
          ∙ ap (λ (x : Contents). encode x ++ rest) d.1;
      range = subst InRange d.1 (record { few_atoms = g.1; few_aggregates = as'.few; aggregates = as'.each; few_rules = rs.few; rules = rs.each });
    }

-- ---- what the code makes of it

pub reading_many : (t : List ℤ) → 16384 < length t → reading_of t ≡ Err TooManyWords
unfolding reading_of contents_of
reading_many t h = ap (λ (b : Bool). reading_by (outcome_by b t)) (lt-leb (length t) 16384 h)

pub reading_few : (t : List ℤ) → length t ≤ 16384 → reading_of t ≡ reading_by (ended (run table 0 t))
unfolding reading_of contents_of
reading_few t h = ap (λ (b : Bool). reading_by (outcome_by b t)) (le-leb (length t) 16384 h)

-- the section of the aggregates ends where their words end
places_end : (k i : ℕ) (starts : List ℕ) (x : Result (List Aggregate)) (q : Places) → places_from k i starts x ≡ Ok q
    → (gs : List Aggregate) × (ws : List ℤ) × (x ≡ read gs q.end ws) × (q ≡ record { number = k + length gs; starts = placed k i gs starts; end = q.end })
places_end k i starts (read gs j ws) q e =
    let f : record { number = k + length gs; starts = placed k i gs starts; end = j } ≡ q = cc in
    let g : j ≡ q.end = ap (λ (p : Places). p.end) f in
    (gs, ws, ap (λ (l : ℕ). read gs l ws) g, sym f ∙ (λ u. record { number = k + length gs; starts = placed k i gs starts; end = g u }))
places_end k i starts (refused r) q e = absurd (cc)

places_refused : (k i : ℕ) (starts : List ℕ) (x : Result (List Aggregate)) (r : Refusal) → places_from k i starts x ≡ Err r → x ≡ refused r
places_refused k i starts (read gs j ws) r e = absurd (cc)
places_refused k i starts (refused s) r e = cc

module _ (t : List ℤ) (few : length t ≤ 16384) where
  pub reading_stop : (r : Refusal) → got_of (run (one (count 256)) 0 t) ≡ Err r → reading_of t ≡ Err r
  unfolding table
  reading_stop r e =
      reading_few t few ∙ ap (λ (x : Result Contents). reading_by (ended x)) (bind_stop (one (count 256)) rest1 0 t r (got_refused (one (count 256)) 0 t r e))

  module _ (n j : ℕ) (e : got_of (run (one (count 256)) 0 t) ≡ Ok (n, j)) where
    -- the first word is read, and the aggregates are to come
    first : (w : ℤ) × (nat_abs w ≡ n) × (run table 0 t ≡ run (rest1 w) j (drop j t))
    unfolding table
    first =
        let g = got_read t (one (count 256)) 0 n j e in
        (g.0, g.1, bind_on (one (count 256)) rest1 0 t g.0 j (drop j t) g.2)

    one_word : 1 ≡ j
    one_word =
        let g = got_read t (one (count 256)) 0 n j e in
        (one_sound (count 256) 0 t g.0 j (drop j t) g.2).next

    -- the aggregates with the number of atoms as the words have it
    counted : (x : Result (List Aggregate)) → run (aggregates n) j (drop j t) ≡ x → run (aggregates (nat_abs first.0)) j (drop j t) ≡ x
    counted x h = ap (λ (m : ℕ). run (aggregates m) j (drop j t)) first.1 ∙ h

    pub reading_stop2 : (r : Refusal) → places_from 0 (suc j) no_starts (run (aggregates n) j (drop j t)) ≡ Err r → reading_of t ≡ Err r
    reading_stop2 r h =
        reading_few t few
        ∙ ap (λ (x : Result Contents). reading_by (ended x))
        (first.2 ∙ bind_stop (aggregates (nat_abs first.0)) (rest2 first.0) j (drop j t) r (counted (refused r) (places_refused 0 (suc j) no_starts (run (aggregates n) j (drop j t)) r h)))

    module _ (places : Places) (p : places_from 0 (suc j) no_starts (run (aggregates n) j (drop j t)) ≡ Ok places) where
      abbrev k : ℕ
      k = places.end

      -- the aggregates that are read, and that the places are theirs
      second : (gs : List Aggregate) × (run (aggregates (nat_abs first.0)) j (drop j t) ≡ read gs k (drop k t)) × (places ≡ record { number = 0 + length gs; starts = placed 0 (suc j) gs no_starts; end = k })
      second =
          let w = places_end 0 (suc j) no_starts (run (aggregates n) j (drop j t)) places p in
          (w.0, run_at t (aggregates (nat_abs first.0)) j w.0 k w.1 (counted (read w.0 k w.1) w.2), w.3)

      after_aggregates : 3 + length (encode_all encode_aggregate second.0) ≡ suc k
      after_aggregates =
          let s = aggregates_sound (nat_abs first.0) j (drop j t) second.0 k (drop k t) second.1 in
          let l = run_length (aggregates (nat_abs first.0)) j (drop j t) second.0 k (drop k t) second.1 in
          let q : length (drop j t) ≡ suc (length (encode_all encode_aggregate second.0) + length (drop k t)) =
          ap length s.there ∙ ap suc (length-append (encode_all encode_aggregate second.0) (drop k t)) in
          let u = one_word in
          omega arith

      -- the rules and the end, whatever they are
      third : (r : Result (List NumberedRule)) → run (rules (nat_abs first.0) (length second.0)) k (drop k t) ≡ r
          → reading_by (ended (run (rest2 first.0 second.0) k (drop k t))) ≡ finished (nat_abs first.0) (length second.0) (placed 0 (suc j) second.0 no_starts) k r
      unfolding table_of
      third (read rs l []) q =
          ap (λ (x : Result Contents). reading_by (ended x))
          (bind_on (rules (nat_abs first.0) (length second.0)) (λ rs. done (made (nat_abs first.0) second.0 rs)) k (drop k t) rs l [] q
          ∙ run_done (made (nat_abs first.0) second.0 rs) l [])
          ∙ (λ u. Ok (record {
            atoms = nat_abs first.0;
            aggregates = length second.0;
            rules = length rs;
            first = after_aggregates u;
            starts = placed 0 (suc (one_word u)) second.0 no_starts;
          }))
      third (read rs l (v ∷ vs)) q =
          ap (λ (x : Result Contents). reading_by (ended x))
          (bind_on (rules (nat_abs first.0) (length second.0)) (λ rs. done (made (nat_abs first.0) second.0 rs)) k (drop k t) rs l (v ∷ vs) q
          ∙ run_done (made (nat_abs first.0) second.0 rs) l (v ∷ vs))
      third (refused r) q =
          ap (λ (x : Result Contents). reading_by (ended x)) (bind_stop (rules (nat_abs first.0) (length second.0)) (λ rs. done (made (nat_abs first.0) second.0 rs)) k (drop k t) r q)

      pub reading_on : reading_of t ≡ finished n places.number places.starts k (run (rules n places.number) k (drop k t))
      reading_on =
          let z : 0 + length second.0 ≡ length second.0 = omega arith in
          let g : places.number ≡ length second.0 = ap (λ (q : Places). q.number) second.2 ∙ z in
          let s : places.starts ≡ placed 0 (suc j) second.0 no_starts = ap (λ (q : Places). q.starts) second.2 in
          reading_few t few
          ∙ ap (λ (x : Result Contents). reading_by (ended x)) (first.2 ∙ bind_on (aggregates (nat_abs first.0)) (rest2 first.0) j (drop j t) second.0 k (drop k t) second.1)
          ∙ third (run (rules (nat_abs first.0) (length second.0)) k (drop k t)) refl
          ∙ (λ u. finished (first.1 u) (sym g u) (sym s u) k (run (rules (first.1 u) (sym g u)) k (drop k t)))
