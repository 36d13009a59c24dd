-- The words of a format in bytes: what is laid is read back, and what is read was laid. Assumes nothing.
use mathlib.Core.Path.{◌≡◌, refl, sym, ap, ◌∙◌, subst}
use mathlib.Core.Bool.{Bool, true, false}
use mathlib.Core.List.{List, [], ◌∷◌, ◌++◌, append_assoc}
use mathlib.Core.Option.{none}
use Prim.Native.Nat.{ℕ, suc, ◌+◌}
use lib.Dec.{T}
use lib.IntN.{ℤ, nat_abs}
use Rattle.results.specs.declared.Refusal.{Refusal}
use Rattle.table.specs.Roles.{Role, fault, Format, done, word, read, run}
use Rattle.table.proofs.Run.{run_done, run_good, taken as takenWord, same_words}
use Rattle.stored.specs.Bytes.{number_bytes, laid, Bytes, Step, stop, go, step_of, Scan, refused, taken, after, scan}
use Rattle.stored.specs.Machine.{asked_at, point_after, Leads}
use Rattle.stored.specs.declared.points.Point.{Point}
use Rattle.stored.proofs.NumberLaws.{any_place, width_of, number_read, Read, number_written}

-- ---- scans taken apart

abbrev pub is_taken : Scan → Bool
is_taken (refused r) = false
is_taken (taken ws j bs) = true

abbrev pub words_in : Scan → List ℤ
words_in (refused r) = []
words_in (taken ws j bs) = ws

abbrev pub left_in : Scan → List ℕ
left_in (refused r) = []
left_in (taken ws j bs) = bs

pub refused≢taken {ℓ} : {X : Type ℓ} {r : Refusal} {ws : List ℤ} {j : ℕ} {bs : List ℕ} → refused r ≡ taken ws j bs → X
refused≢taken e = absurd (subst T (ap is_taken (sym e)) tt)

-- ---- a whole format

module _ {A : Type 0} where
  pub scan_on : (role : Role) (next : ℤ → Format A) (i : ℕ) (bs : List ℕ) (w : ℤ) (j : ℕ) (rest : List ℕ) → step_of role i bs ≡ go w j rest → scan (word role next) i bs ≡ after w (scan (next w) j rest)
  unfolding scan
  scan_on role next i bs w j rest e = rw (e, scan)

  pub scan_stop : (role : Role) (next : ℤ → Format A) (i : ℕ) (bs : List ℕ) (r : Refusal) → step_of role i bs ≡ stop r → scan (word role next) i bs ≡ refused r
  unfolding scan
  scan_stop role next i bs r e = rw (e, scan)

  pub scan_done : (x : A) (i : ℕ) (bs : List ℕ) → scan (done x) i bs ≡ taken [] i bs
  unfolding scan
  scan_done x i bs = refl

  pub laid_on : (role : Role) (next : ℤ → Format A) (w : ℤ) (ws : List ℤ) → laid (word role next) (w ∷ ws) ≡ number_bytes role w ++ laid (next w) ws
  unfolding laid
  laid_on role next w ws = refl

  pub laid_done : (x : A) (ws : List ℤ) → laid (done x) ws ≡ []
  unfolding laid
  laid_done x ws = refl

  -- ---- laid, then read

  pub scan_laid : (top : ℕ) (p : Point) (F : Format A) (Q : A → Point → Type 0) (k i : ℕ) (ws : List ℤ) (x : A) (m : ℕ) (rest : List ℕ)
      → Leads top p F Q → run F k ws ≡ read x m [] → (j : ℕ) × (scan F i (laid F ws ++ rest) ≡ taken ws j rest)
  scan_laid top p (done y) Q k i ws x m rest l e =
      let z : ws ≡ [] = same_words (sym (run_done y k ws) ∙ e) in
      (i, ap (λ (b : List ℕ). scan (done y) i (b ++ rest)) (laid_done y ws) ∙ scan_done y i rest ∙ ap (λ (v : List ℤ). taken v i rest) (sym z))
  scan_laid top p (word role next) Q k i ws x m rest l e =
      let t = takenWord role next k ws x m [] e in
      let a = asked_at top p in
      let w = t.w in
      let g = any_place role k i w t.good in
      let n = number_read a i w (laid (next w) t.after ++ rest) l.0 (ap (λ (r : Role). fault r i w) l.1 ∙ g) in
      let s : step_of role i (number_bytes role w ++ (laid (next w) t.after ++ rest)) ≡ go w (i + width_of a) (laid (next w) t.after ++ rest) =
      subst (λ (r : Role). step_of r i (number_bytes r w ++ (laid (next w) t.after ++ rest)) ≡ go w (i + width_of a) (laid (next w) t.after ++ rest)) l.1 n in
      let r = scan_laid top (point_after p (nat_abs w)) (next w) Q (suc k) (i + width_of a) t.after x m rest (l.2 w (λ q. any_place role k q w t.good)) t.on in (
        r.0,
        ap (λ (v : List ℤ). scan (word role next) i (laid (word role next) v ++ rest)) t.there
            ∙ ap (λ (b : List ℕ). scan (word role next) i (b ++ rest)) (laid_on role next w t.after)
            ∙ ap (scan (word role next) i) (append_assoc (number_bytes role w) (laid (next w) t.after) rest)
            ∙ scan_on role next i _ w _ _ s
            ∙ ap (after w) r.1
            ∙ ap (λ (v : List ℤ). taken v r.0 rest) (sym t.there),
      )

  -- ---- read, then laid

  pub record Scanned (F : Format A) (k : ℕ) (bs : List ℕ) (ws : List ℤ) (rest : List ℕ) : Type 0 where
    pub made : A
    pub end : ℕ
    pub words : run F k ws ≡ read made end []
    pub stands : bs ≡ laid F ws ++ rest
    pub bytes : Bytes rest

  pub scan_written : (top : ℕ) (p : Point) (F : Format A) (Q : A → Point → Type 0) (k i : ℕ) (bs : List ℕ) (ws : List ℤ) (j : ℕ) (rest : List ℕ)
      → Leads top p F Q → Bytes bs → scan F i bs ≡ taken ws j rest → Scanned F k bs ws rest
  scan_written top p (done y) Q k i bs ws j rest l b e =
      let g : taken [] i bs ≡ taken ws j rest = sym (scan_done y i bs) ∙ e in
      record {
        made = y;
        end = k;
        words = ap (run (done y) k) (sym (ap words_in g)) ∙ run_done y k [];
        stands = ap left_in g ∙ ap (λ (c : List ℕ). c ++ rest) (sym (laid_done y ws));
        bytes = subst Bytes (ap left_in g) b;
      }
  scan_written top p (word role next) Q k i bs ws j rest l b e =
      at (step_of role i bs) refl (λ w q r vs m left h c. scan_written top (point_after p (nat_abs w)) (next w) Q (suc k) q r vs m left h c)
    where
      at : (s : Step) → step_of role i bs ≡ s
          → ((w : ℤ) (q : ℕ) (r : List ℕ) (vs : List ℤ) (m : ℕ) (left : List ℕ) → Leads top (point_after p (nat_abs w)) (next w) Q → Bytes r → scan (next w) q r ≡ taken vs m left → Scanned (next w) (suc k) r vs left)
          → Scanned (word role next) k bs ws rest
      at (stop r) s f = refused≢taken (sym (scan_stop role next i bs r s) ∙ e)
      at (go w q r) s f = on (scan (next w) q r) refl
        where
          n : Read (asked_at top p) i bs w q r
          n = number_written (asked_at top p) i bs w q r l.0 b (ap (λ (x : Role). step_of x i bs) l.1 ∙ s)

          good : fault role i w ≡ none
          good = ap (λ (x : Role). fault x i w) (sym l.1) ∙ n.good

          on : (x : Scan) → scan (next w) q r ≡ x → Scanned (word role next) k bs ws rest
          on (refused u) h = refused≢taken (ap (after w) (sym h) ∙ sym (scan_on role next i bs w q r s) ∙ e)
          on (taken vs m left) h =
              let g : taken (w ∷ vs) m left ≡ taken ws j rest = ap (after w) (sym h) ∙ sym (scan_on role next i bs w q r s) ∙ e in
              let d = f w q r vs m left (l.2 w (λ z. any_place role i z w good)) n.bytes h in
              record {
                made = d.made;
                end = d.end;
                words = ap (run (word role next) k) (sym (ap words_in g)) ∙ run_good role next k w vs (any_place role i k w good) ∙ d.words;
                stands =
                    n.stands
                    ∙ ap (λ (x : Role). number_bytes x w ++ r) l.1
                    ∙ ap (λ (c : List ℕ). number_bytes role w ++ c) d.stands
                    ∙ sym (append_assoc (number_bytes role w) (laid (next w) vs) left)
                    ∙ ap (λ (c : List ℕ). c ++ left) (sym (laid_on role next w vs))
                    ∙ ap (λ (v : List ℤ). laid (word role next) v ++ left) (ap words_in g)
                    ∙ ap (λ (c : List ℕ). laid (word role next) ws ++ c) (ap left_in g);
                bytes = subst Bytes (ap left_in g) d.bytes;
              }
