-- What the loop keeps that lays the words of an accepted table: a format that the points follow, the words left for it, and that to lay them from here is to
-- lay all from the start. Assumes nothing.
use mathlib.Core.Path.{◌≡◌, refl, sym, ap, ◌∙◌, subst}
use mathlib.Core.Bool.{Bool, true, false, not}
use mathlib.Core.List.{List, [], ◌∷◌, ◌++◌, append-nil}
use mathlib.Core.Option.{none}
use Prim.Native.Nat.{ℕ, zero, suc, ◌+◌, ◌-◌, ◌*◌, ◌≤◌, ◌<◌}
use native.Mathlib.Omega.{arith}
use borrow.Author.Tests.{le-ltb}
use lib.IntN.{ℤ, pos, negsuc, neg_ℤ, nat_abs}
use lib.ListN.{length, get_or, drop, length-drop, drop_of_length-le}
use lib.Signed.{lt_z, non_neg}
use lib.Seq.{drop-cons}
use Rattle.std.specs.Prelude.{Option, Some, None}
use Rattle.table.specs.Roles.{Role, count, fault, Format, done, word, read, run}
use Rattle.table.specs.Contents.{Contents, encode}
use Rattle.table.specs.Grammar.{table, accepted, contents_of}
use Rattle.table.proofs.Accepted.{accepted_encoding}
use Rattle.table.proofs.Complete.{table_reads}
use Rattle.table.proofs.Run.{run_done, run_absent, run_length, read≢refused, same_words, taken as takenWord}
use Rattle.bytes_out.specs.Putting.{Put}
use Rattle.bytes_out.proofs.Laws.{Left, left_start, left_step, left_done}
use Rattle.stored.specs.Bytes.{two, complement, twice, number_bytes, laid, sections, names_bytes, no_names, stored}
use Rattle.stored.specs.Promises.{plainly}
use Rattle.stored.specs.Machine.{asked_at, role_of, Fits, point_after, Leads, signed, bytes_by}
use Rattle.stored.specs.declared.points.Asked.{Asked}
use Rattle.stored.specs.declared.points.Asked.TheVariants as asked
use Rattle.stored.specs.declared.points.Point.{Point}
use Rattle.stored.specs.declared.points.Point.TheVariants as point
use Rattle.stored.proofs.NumberLaws.{any_place}
use Rattle.stored.proofs.Laying.{laid_on, laid_done}
use Rattle.stored.proofs.Leading.{sections_lead}
use Rattle.stored.proofs.Exact.{table_is, first_word}

-- ---- a word by its size and sign

pub signed_back : (w : ℤ) → signed (not (non_neg w)) (nat_abs w) ≡ w
signed_back (pos n) = refl
signed_back (negsuc n) = refl

pub below_size : (w : ℤ) → not (non_neg w) ≡ true → 0 < nat_abs w
below_size (pos n) e = absurd (clash e)
  where
    clash : false ≡ true → ⊥
    clash z = subst (λ (b : Bool). only b) (sym z) tt
      where
        only : Bool → Type 0
        only true = Unit {0}
        only false = ⊥
below_size (negsuc n) e = omega arith

pub below_is : (w : ℤ) → lt_z w (pos 0) ≡ not (non_neg w)
below_is (pos n) = le-ltb n 0 (omega arith)
below_is (negsuc n) = refl

pub bytes_by_lem : (a : Option Asked) (w : ℤ) → Fits a → bytes_by a (not (non_neg w)) (nat_abs w) ≡ number_bytes (role_of a) w
bytes_by_lem (Some (asked.Count m)) w f = refl
bytes_by_lem (Some (asked.Quantity h)) w f = refl
bytes_by_lem (Some asked.Threshold) w f = ap (λ (z : ℤ). number_bytes (role_of (Some asked.Threshold)) z) (signed_back w)
bytes_by_lem (Some (asked.Member top p)) w f = refl
bytes_by_lem (Some (asked.Literal top p)) w f = ap (λ (z : ℤ). number_bytes (role_of (Some (asked.Literal top p))) z) (signed_back w)
bytes_by_lem None w f = absurd f

pub complement_minus : (n : ℕ) → 0 < n → complement (neg_ℤ (pos n)) ≡ 4294967296 - n
complement_minus zero h = absurd (omega arith)
complement_minus (suc n) h = omega arith

pub twice_minus : (n : ℕ) → 0 < n → twice (neg_ℤ (pos n)) ≡ 2 * n + 1
twice_minus zero h = absurd (omega arith)
twice_minus (suc n) h = refl

-- ---- the loop

abbrev pub Ends : Contents → Point → Type 0
Ends c p = p ≡ point.End

pub record Going (t : List ℤ) (top : ℕ) (old : List ℕ) (at : ℕ) (out : List ℕ) (to k : ℕ) (p : Point) : Type 0 where
  pub F : Format Contents
  pub made : Contents
  pub leads : Leads top p F Ends
  pub words : run F k (drop k t) ≡ read made (length t) []
  pub left : Left old at (laid (sections top) (drop 1 t)) out to (laid F (drop k t))

-- an accepted table from its second word on
module _ (t : List ℤ) (c : Contents) (e : contents_of t ≡ accepted c) where
  pub second : (run (sections c.atoms) 1 (drop 1 t) ≡ read c (length t) []) × (1 ≤ length t) × (c.atoms ≤ 256) × (nat_abs (get_or t 0 (pos 0)) ≡ c.atoms)
  second =
      let d = accepted_encoding t c e in
      let g = table_reads 0 c [] d.range in
      let r : run table 0 t ≡ read c g.0 [] = ap (run table 0) (d.words ∙ sym (append-nil (encode c))) ∙ g.1 in
      let x = takenWord (count 256) (λ v. sections (nat_abs v)) 0 t c g.0 [] (ap (λ (F : Format Contents). run F 0 t) (sym table_is) ∙ r) in
      let f = first_word c x.w x.after (sym x.there ∙ d.words) in
      let o : nat_abs x.w ≡ c.atoms = ap nat_abs f.0 in
      let l : length t ≡ suc (length x.after) = ap length x.there in
      let n : g.0 ≡ length t = let y = run_length table 0 t c g.0 [] r in omega arith in (
        ap (λ (m : ℕ). run (sections m) 1 (drop 1 t)) (sym o) ∙ ap (λ (v : List ℤ). run (sections (nat_abs x.w)) 1 (drop 1 v)) x.there ∙ x.on ∙ ap (λ (m : ℕ). read c m []) n,
        omega arith,
        d.range.few_atoms,
        ap (λ (v : List ℤ). nat_abs (get_or v 0 (pos 0))) x.there ∙ o,
      )

  pub going_start : (top : ℕ) (old : List ℕ) (at : ℕ) → top ≡ c.atoms → length old ≤ 18446744073709551615 → at ≤ 18446744073709551615 → Going t top old at old at 1 point.Aggregates
  going_start top old at h a b = record {
    F = sections top;
    made = c;
    leads = sections_lead top (let z = second.2 in omega arith);
    words = ap (λ (m : ℕ). run (sections m) 1 (drop 1 t)) h ∙ second.0;
    left = left_start a b;
  }

module _ (t : List ℤ) (top : ℕ) (old : List ℕ) (at : ℕ) (out : List ℕ) (to k : ℕ) (p : Point) (g : Going t top old at out to k p) where
  abbrev here : ℤ
  here = get_or t k (pos 0)

  -- the word at hand is one that is asked for
  pub record On : Type 0 where
    pub fits : Fits (asked_at top p)
    pub good : fault (role_of (asked_at top p)) k here ≡ none
    pub on : (to' : ℕ) (out' : List ℕ) → Put out to (number_bytes (role_of (asked_at top p)) here) to' out' → Going t top old at out' to' (suc k) (point_after p (nat_abs here))

  pub going_on : k < length t → On
  going_on h = by g.F g.leads g.words g.left
    where
      d : drop k t ≡ here ∷ drop (suc k) t
      d = drop-cons t k (pos 0) h

      by : (F : Format Contents) → Leads top p F Ends → run F k (drop k t) ≡ read g.made (length t) [] → Left old at (laid (sections top) (drop 1 t)) out to (laid F (drop k t)) → On
      by (done x) l r f =
          let z : drop k t ≡ [] = same_words (sym (run_done x k (drop k t)) ∙ r) in
          let y : length t - k ≡ 0 = sym (length-drop k t) ∙ ap length z in
          absurd (omega arith)
      by (word role next) l r f =
          let x = takenWord role next k (drop k t) g.made (length t) [] r in
          let s : here ∷ drop (suc k) t ≡ x.w ∷ x.after = sym d ∙ x.there in
          let u : here ≡ x.w = ap (λ (v : List ℤ). get_or v 0 (pos 0)) s in
          let v : drop (suc k) t ≡ x.after = ap (drop 1) s in
          let q : fault role k here ≡ none = ap (fault role k) u ∙ x.good in
          record {
            fits = l.0;
            good = ap (λ (m : Role). fault m k here) l.1 ∙ q;
            on = λ to' out' put. record {
              F = next here;
              made = g.made;
              leads = l.2 here (λ i. any_place role k i here q);
              words = ap (λ (z : ℤ). run (next z) (suc k) (drop (suc k) t)) u ∙ ap (run (next x.w) (suc k)) v ∙ x.on;
              left = left_step (ap (laid (word role next)) d ∙ laid_on role next here (drop (suc k) t)) f (subst (λ (m : Role). Put out to (number_bytes m here) to' out') l.1 put);
            };
          }

  pub going_done : length t ≤ k → Put old at (laid (sections top) (drop 1 t)) to out
  going_done h = by g.F g.words g.left
    where
      none_left : drop k t ≡ []
      none_left = drop_of_length-le t h

      by : (F : Format Contents) → run F k (drop k t) ≡ read g.made (length t) [] → Left old at (laid (sections top) (drop 1 t)) out to (laid F (drop k t)) → Put old at (laid (sections top) (drop 1 t)) to out
      by (done x) r f = left_done (laid_done x (drop k t)) f
      by (word role next) r f = read≢refused (sym r ∙ ap (run (word role next) k) none_left ∙ run_absent role next k)

-- ---- the whole

pub table_bytes : (t : List ℤ) (c : Contents) → contents_of t ≡ accepted c → (top : ℕ) → top ≡ nat_abs (get_or t 0 (pos 0))
    → two top ++ (names_bytes (no_names top) ++ laid (sections top) (drop 1 t)) ≡ plainly c
unfolding stored
table_bytes t c e top h =
    ap (λ (m : ℕ). two m ++ (names_bytes (no_names m) ++ laid (sections m) (drop 1 t))) (h ∙ (second t c e).3)
    ∙ ap (λ (v : List ℤ). two c.atoms ++ (names_bytes (no_names c.atoms) ++ laid (sections c.atoms) (drop 1 v))) (accepted_encoding t c e).words
