-- What the loop keeps that takes the words of a table from its bytes: a format that the points follow, the words taken so far, and that to scan from here is to scan
-- all from the start. Assumes nothing.
use mathlib.Core.Path.{◌≡◌, refl, sym, ap, ◌∙◌, subst}
use mathlib.Core.Bool.{Bool, true, false}
use mathlib.Core.List.{List, [], ◌∷◌, ◌++◌}
use mathlib.Core.Option.{none}
use Prim.Native.Nat.{ℕ, suc, ◌+◌, ◌-◌, ◌≤◌, ◌<◌}
use native.Mathlib.Omega.{arith}
use lib.Dec.{T}
use lib.IntN.{ℤ, pos, nat_abs}
use lib.ListN.{length, drop, set, length-append, length-drop}
use lib.Seq.{sets, length-sets}
use Rattle.std.specs.Prelude.{Option, Some, None, Ok, Err, is_none}
use Rattle.meaning.proofs.Cond.{if_lt_yes, if_lt_no}
use Rattle.results.specs.declared.Refusal.{Refusal}
use Rattle.results.specs.declared.Refusal.TheVariants.{Trailing}
use Rattle.table.specs.Roles.{Role, count, fault, Format, done, word}
use Rattle.table.specs.Contents.{Contents}
use Rattle.stored.specs.Bytes.{sections, named, step_of, stop, go, Scan, refused, taken, after, scan, Names, nameless, names, names_of, ended, sections_after, read_bytes}
use Rattle.stored.specs.Machine.{asked_at, role_of, Fits, point_after, Leads, signed}
use Rattle.stored.specs.Taking.{Taken, ended_at, TakesScan, TakesAfter, Takes}
use Rattle.stored.specs.declared.points.Asked.{Asked}
use Rattle.stored.specs.declared.points.Asked.TheVariants as asked
use Rattle.stored.specs.declared.points.Point.{Point}
use Rattle.stored.specs.declared.points.Point.TheVariants as point
use Rattle.table.proofs.Faults.{count_good}
use Rattle.stored.proofs.NumberLaws.{any_place, fits_size}
use Rattle.stored.proofs.Laying.{scan_on, scan_stop, scan_done}
use Rattle.stored.proofs.Leading.{sections_lead}
use Rattle.stored.proofs.Exact.{read_is}
use Rattle.stored.proofs.Going.{Ends}
use Rattle.stored.proofs.Telling.{Stands, number_stands, Said}

-- ---- words before a scan

abbrev pub after_all : List ℤ → Scan → Scan
after_all [] s = s
after_all (w ∷ ws) s = after w (after_all ws s)

after_snoc : (ws : List ℤ) (w : ℤ) (s : Scan) → after_all (ws ++ (w ∷ [])) s ≡ after_all ws (after w s)
after_snoc [] w s = refl
after_snoc (v ∷ ws) w s = ap (after v) (after_snoc ws w s)

all_refused : (ws : List ℤ) (f : Refusal) → after_all ws (refused f) ≡ refused f
all_refused [] f = refl
all_refused (v ∷ ws) f = ap (after v) (all_refused ws f)

all_taken : (ws : List ℤ) (i : ℕ) (bs : List ℕ) → after_all ws (taken [] i bs) ≡ taken ws i bs
all_taken [] i bs = refl
all_taken (v ∷ ws) i bs = ap (after v) (all_taken ws i bs)

sets_snoc : (ws : List ℤ) (w : ℤ) (l : List ℤ) (i k : ℕ) → k ≡ i + length ws → sets l i (ws ++ (w ∷ [])) ≡ set (sets l i ws) k w
sets_snoc [] w l i k e = ap (λ (m : ℕ). set l m w) (let z : i ≡ k = omega arith in z)
sets_snoc (v ∷ ws) w l i k e = sets_snoc ws w (set l i v) (suc i) k (omega arith)

-- ---- whether a number is to come

asked_none : (a : Option Asked) → is_none a ≡ true → Fits a → ⊥
asked_none (Some (asked.Count m)) e f = subst T (sym e) tt
asked_none (Some (asked.Quantity m)) e f = subst T (sym e) tt
asked_none (Some asked.Threshold) e f = subst T (sym e) tt
asked_none (Some (asked.Member top p)) e f = subst T (sym e) tt
asked_none (Some (asked.Literal top p)) e f = subst T (sym e) tt
asked_none None e f = f

-- ---- the loop

pub record Taking (bytes : List ℕ) (top at : ℕ) (old words : List ℤ) (to k : ℕ) (p : Point) : Type 0 where
  pub F : Format Contents
  pub ws : List ℤ
  pub leads : Leads top p F Ends
  pub scans : scan (sections top) at (drop at bytes) ≡ after_all ws (scan F to (drop to bytes))
  pub held : words ≡ sets old 1 ws
  pub counts : k ≡ suc (length ws)
  pub few : k ≤ suc to
  pub inside : to ≤ length bytes

pub taking_start : (bytes : List ℕ) (top at : ℕ) (old : List ℤ) → at ≤ length bytes → top ≤ 256 → Taking bytes top at old old at 1 point.Aggregates
taking_start bytes top at old h k = record { F = sections top; ws = []; leads = sections_lead top k; scans = refl; held = refl; counts = refl; few = omega arith; inside = h }

module _ (bytes : List ℕ) (top at : ℕ) (old words : List ℤ) (to k : ℕ) (p : Point) (g : Taking bytes top at old words to k p) where
  pub record On (next n : ℕ) (minus : Bool) : Type 0 where
    pub small : n ≤ 4194304
    pub later : to < next
    pub high : next ≤ length bytes
    pub on : (new : List ℤ) → new ≡ set words k (signed minus n) → Taking bytes top at old new next (k + 1) (point_after p n)

  pub taking_long : length words ≡ length old
  taking_long = ap length g.held ∙ length-sets old 1 g.ws

  -- a number that was read
  pub taking_on : (n : ℕ) (minus : Bool) (j : ℕ) → is_none (asked_at top p) ≡ false → Said (step_of (role_of (asked_at top p)) to (drop to bytes)) n minus j → On j n minus
  taking_on n minus j e s = by g.F g.leads g.scans
    where
      d : Stands (role_of (asked_at top p)) bytes to s.w j s.rest
      d = number_stands (asked_at top p) bytes to s.w j s.rest g.inside s.step

      by : (F : Format Contents) → Leads top p F Ends → scan (sections top) at (drop at bytes) ≡ after_all g.ws (scan F to (drop to bytes)) → On j n minus
      by (done x) l r = absurd (subst T (sym (ap (λ (q : Point). is_none (asked_at top q)) l) ∙ e) tt)
      by (word role next) l r =
          let q = s.size in
          let m = fits_size (asked_at top p) to s.w l.0 d.good in
          let f : fault role to s.w ≡ none = ap (λ (x : Role). fault x to s.w) (sym l.1) ∙ d.good in
          record {
            small = omega arith;
            later = d.low;
            high = d.high;
            on = λ new z. record {
              F = next s.w;
              ws = g.ws ++ (s.w ∷ []);
              leads = subst (λ (x : ℕ). Leads top (point_after p x) (next s.w) Ends) (sym q) (l.2 s.w (λ i. any_place role to i s.w f));
              scans =
                  r
                  ∙ ap (after_all g.ws) (scan_on role next to (drop to bytes) s.w j s.rest (ap (λ (x : Role). step_of x to (drop to bytes)) (sym l.1) ∙ s.step))
                  ∙ ap (λ (bs : List ℕ). after_all g.ws (after s.w (scan (next s.w) j bs))) d.after
                  ∙ sym (after_snoc g.ws s.w (scan (next s.w) j (drop j bytes)));
              held =
                  z
                  ∙ ap (set words k) s.whole
                  ∙ ap (λ (x : List ℤ). set x k s.w) g.held
                  ∙ sym (sets_snoc g.ws s.w old 1 k (let c = g.counts in omega arith));
              counts = let c = g.counts in let v = length-append g.ws (s.w ∷ []) in omega arith;
              few = let c = g.few in let v = d.low in omega arith;
              inside = d.high;
            };
          }

  -- a refusal of one
  pub taking_stop : (f : Refusal) → is_none (asked_at top p) ≡ false → step_of (role_of (asked_at top p)) to (drop to bytes) ≡ stop f → scan (sections top) at (drop at bytes) ≡ refused f
  taking_stop f e s = by g.F g.leads g.scans
    where
      by : (F : Format Contents) → Leads top p F Ends → scan (sections top) at (drop at bytes) ≡ after_all g.ws (scan F to (drop to bytes)) → scan (sections top) at (drop at bytes) ≡ refused f
      by (done x) l r = absurd (subst T (sym (ap (λ (q : Point). is_none (asked_at top q)) l) ∙ e) tt)
      by (word role next) l r =
          r ∙ ap (after_all g.ws) (scan_stop role next to (drop to bytes) f (ap (λ (x : Role). step_of x to (drop to bytes)) (sym l.1) ∙ s)) ∙ all_refused g.ws f

  -- the last number was taken
  taking_done : is_none (asked_at top p) ≡ true → scan (sections top) at (drop at bytes) ≡ taken g.ws to (drop to bytes)
  taking_done e = by g.F g.leads g.scans
    where
      by : (F : Format Contents) → Leads top p F Ends → scan (sections top) at (drop at bytes) ≡ after_all g.ws (scan F to (drop to bytes)) → scan (sections top) at (drop at bytes) ≡ taken g.ws to (drop to bytes)
      by (done x) l r = r ∙ ap (after_all g.ws) (scan_done x to (drop to bytes)) ∙ all_taken g.ws to (drop to bytes)
      by (word role next) l r = absurd (asked_none (asked_at top p) e l.0)

  pub taking_ends : (filled : Bool) (r : Taken) → is_none (asked_at top p) ≡ true → r ≡ ended_at (length bytes) to k filled → TakesScan (scan (sections top) at (drop at bytes)) filled old words r
  taking_ends filled r e h = subst (λ (s : Scan). TakesScan s filled old words r) (sym (taking_done e)) (by (drop to bytes) refl)
    where
      by : (bs : List ℕ) → drop to bytes ≡ bs → TakesScan (taken g.ws to bs) filled old words r
      by [] z =
          let m : length bytes - to ≡ 0 = sym (length-drop to bytes) ∙ ap length z in
          (h ∙ if_lt_no to (length bytes) (Err (Trailing to)) (Ok (k, filled)) (omega arith) ∙ ap (λ (x : ℕ). Ok (x, filled)) g.counts, g.held)
      by (b ∷ bs) z =
          let m : length bytes - to ≡ suc (length bs) = sym (length-drop to bytes) ∙ ap length z in
          h ∙ if_lt_yes to (length bytes) (Err (Trailing to)) (Ok (k, filled)) (omega arith)

-- ---- the whole

module _ (top : ℕ) (old new : List ℤ) (r : Taken) where
  scan_takes : (xs : List (List ℕ)) (s : Scan) → TakesScan s (named xs) (set old 0 (pos top)) new r → Takes (ended (pos top) xs s) old new r
  scan_takes xs (refused f) h = h
  scan_takes xs (taken ws i []) h = h
  scan_takes xs (taken ws i (b ∷ bs)) h = h

  pub after_takes : (s : Names) → TakesAfter top s old new r → Takes (sections_after (pos top) s) old new r
  after_takes (nameless f) h = h
  after_takes (names xs i bs) h = scan_takes xs (scan (sections top) i bs) h

-- the number of atoms, in the whole of the bytes
pub record Topped (bytes : List ℕ) (top at : ℕ) : Type 0 where
  pub small : top ≤ 256
  pub inside : at ≤ length bytes
  pub reads : read_bytes bytes ≡ sections_after (pos top) (names_of top at (drop at bytes))

pub topped : (bytes : List ℕ) (top : ℕ) (minus : Bool) (at : ℕ) → Said (step_of (count 256) 0 bytes) top minus at → Topped bytes top at
topped bytes top minus at s =
    let d = number_stands (Some (asked.Count 256)) bytes 0 s.w at s.rest (omega arith) s.step in
    let g = count_good 256 0 s.w d.good in
    let m = s.size in
    let k = g.1 in
    let e : s.w ≡ pos top = sym g.0 ∙ ap pos (sym m) in
    record {
      small = omega arith;
      inside = d.high;
      reads =
          read_is bytes (go s.w at s.rest) s.step
          ∙ ap (λ (w : ℤ). sections_after w (names_of (nat_abs w) at s.rest)) e
          ∙ ap (λ (bs : List ℕ). sections_after (pos top) (names_of top at bs)) d.after;
    }
