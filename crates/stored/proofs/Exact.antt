-- Bytes hold words and names exactly if they are the stored form of contents within 01's ranges, with names of at most 32 bytes. Assumes nothing.
use mathlib.Core.Path.{◌≡◌, refl, sym, ap, ◌∙◌, subst}
use mathlib.Core.Logic.{◌↔◌}
use mathlib.Core.Bool.{Bool, true, false}
use mathlib.Core.List.{List, [], ◌∷◌, ◌++◌, append-nil}
use Prim.Native.Nat.{ℕ, suc, ◌+◌, ◌<◌}
use native.Mathlib.Omega.{arith}
use lib.Dec.{T}
use lib.IntN.{ℤ, pos, nat_abs}
use lib.ListN.{length, get_or, drop}
use Rattle.std.specs.Prelude.{Some}
use Rattle.results.specs.declared.Refusal.{Refusal}
use Rattle.table.specs.Roles.{count, Format, word, run}
use Rattle.table.specs.Contents.{Contents, encode}
use Rattle.table.specs.Grammar.{table}
use Rattle.table.proofs.Faults.{count_good}
use Rattle.table.proofs.Run.{run_good, taken as takenWord}
use Rattle.table.proofs.Complete.{table_reads}
use Rattle.table.proofs.Whole.{table_sound}
use Rattle.stored.specs.Bytes.{two, laid, sections, names_bytes, stored, Bytes, Short, Step, stop, go, step_of, Scan, refused, taken, scan, Names, nameless, names, names_of, Reading, refused_for, holds, ended, sections_after, names_after, read_bytes}
use Rattle.stored.specs.Restoring.{Encodes}
use Rattle.stored.specs.declared.points.Asked.TheVariants as asked
use Rattle.stored.specs.declared.points.Point.{Point}
use Rattle.stored.specs.declared.points.Point.TheVariants as point
use Rattle.stored.proofs.NumberLaws.{number_read, number_written}
use Rattle.stored.proofs.Laying.{scan_laid, scan_written}
use Rattle.stored.proofs.Leading.{sections_lead}
use Rattle.stored.proofs.NameLaws.{names_read, names_written}

-- every element is a byte
pub bytes_of : (bs : List ℕ) → ((i : ℕ) → get_or bs i 0 < 256) → Bytes bs
bytes_of [] f = tt
bytes_of (b ∷ bs) f = (f 0, bytes_of bs (λ i. f (suc i)))

-- a table is its count of atoms and its sections
pub table_is : table ≡ word (count 256) (λ w. sections (nat_abs w))
unfolding table sections
table_is = refl

pub read_is : (bs : List ℕ) (s : Step) → step_of (count 256) 0 bs ≡ s → read_bytes bs ≡ names_after s
unfolding read_bytes
read_is bs s e = ap names_after e

abbrev is_held : Reading → Bool
is_held (refused_for r) = false
is_held (holds ws xs) = true

abbrev words_in : Reading → List ℤ
words_in (refused_for r) = []
words_in (holds ws xs) = ws

abbrev names_in : Reading → List (List ℕ)
names_in (refused_for r) = []
names_in (holds ws xs) = xs

pub refused≢holds {ℓ} : {X : Type ℓ} {r : Refusal} {ws : List ℤ} {xs : List (List ℕ)} → refused_for r ≡ holds ws xs → X
refused≢holds e = absurd (subst T (ap is_held (sym e)) tt)

pub same_words : {ws vs : List ℤ} {xs ys : List (List ℕ)} → holds ws xs ≡ holds vs ys → ws ≡ vs
same_words e = ap words_in e

pub same_names : {ws vs : List ℤ} {xs ys : List (List ℕ)} → holds ws xs ≡ holds vs ys → xs ≡ ys
same_names e = ap names_in e

-- the first word is the number of atoms
pub first_word : (c : Contents) (w : ℤ) (vs : List ℤ) → w ∷ vs ≡ encode c → (w ≡ pos c.atoms) × (vs ≡ drop 1 (encode c))
unfolding encode
first_word c w vs e = (ap (λ (l : List ℤ). get_or l 0 (pos 0)) e, ap (drop 1) e)

module _ (bs : List ℕ) (ws : List ℤ) (xs : List (List ℕ)) where
  -- ---- what is held was stored

  module _ (b : Bytes bs) (e : read_bytes bs ≡ holds ws xs) where
    held : (w : ℤ) (j : ℕ) (r : List ℕ) (ys : List (List ℕ)) (m : ℕ) (left : List ℕ) (vs : List ℤ) (q : ℕ) → step_of (count 256) 0 bs ≡ go w j r → names_of (nat_abs w) j r ≡ names ys m left
        → scan (sections (nat_abs w)) m left ≡ taken vs q [] → holds (w ∷ vs) ys ≡ holds ws xs → (c : Contents) × Encodes bs ws xs c
    unfolding stored
    held w j r ys m left vs q s t u g =
        let n = number_written (Some (asked.Count 256)) 0 bs w j r (omega arith) b s in
        let k = (count_good 256 0 w n.good).1 in
        let a = names_written (nat_abs w) j r ys m left n.bytes t in
        let d = scan_written (nat_abs w) point.Aggregates (sections (nat_abs w)) (λ (c : Contents) (p : Point). p ≡ point.End) 1 m left vs q [] (sections_lead (nat_abs w) k) a.3 u in
        let c = d.made in
        let y = table_sound 0 (w ∷ vs) c d.end [] (ap (λ (F : Format Contents). run F 0 (w ∷ vs)) table_is ∙ run_good (count 256) (λ v. sections (nat_abs v)) 0 w vs n.good ∙ d.words) in
        let z : w ∷ vs ≡ encode c = y.there ∙ append-nil (encode c) in
        let f = first_word c w vs z in
        let o : nat_abs w ≡ c.atoms = ap nat_abs f.0 in (
          c,
          record {
            range = y.range;
            all = sym (ap length (same_names g)) ∙ a.1 ∙ o;
            short = subst Short (same_names g) a.2;
            words = sym (same_words g) ∙ z;
            stands =
                n.stands
                ∙ ap (λ (l : List ℕ). two (nat_abs w) ++ l) (a.0 ∙ ap (λ (l : List ℕ). names_bytes ys ++ l) (d.stands ∙ append-nil (laid (sections (nat_abs w)) vs)))
                ∙ ap (λ (l : ℕ). two l ++ (names_bytes ys ++ laid (sections l) vs)) o
                ∙ ap (λ (l : List ℤ). two c.atoms ++ (names_bytes ys ++ laid (sections c.atoms) l)) f.1
                ∙ ap (λ (l : List (List ℕ)). two c.atoms ++ (names_bytes l ++ laid (sections c.atoms) (drop 1 (encode c)))) (same_names g);
          },
        )

    pub held_encodes : (c : Contents) × Encodes bs ws xs c
    held_encodes = at (step_of (count 256) 0 bs) refl
      where
        at : (s : Step) → step_of (count 256) 0 bs ≡ s → (c : Contents) × Encodes bs ws xs c
        at (stop r) s = refused≢holds (sym (read_is bs (stop r) s) ∙ e)
        at (go w j r) s = by (names_of (nat_abs w) j r) refl
          where
            by : (t : Names) → names_of (nat_abs w) j r ≡ t → (c : Contents) × Encodes bs ws xs c
            by (nameless u) t = refused≢holds (sym (read_is bs (go w j r) s ∙ ap (sections_after w) t) ∙ e)
            by (names ys m left) t = on (scan (sections (nat_abs w)) m left) refl
              where
                on : (x : Scan) → scan (sections (nat_abs w)) m left ≡ x → (c : Contents) × Encodes bs ws xs c
                on (refused u) h = refused≢holds (sym (read_is bs (go w j r) s ∙ ap (sections_after w) t ∙ ap (ended w ys) h) ∙ e)
                on (taken vs q []) h = held w j r ys m left vs q s t h (sym (read_is bs (go w j r) s ∙ ap (sections_after w) t ∙ ap (ended w ys) h) ∙ e)
                on (taken vs q (o ∷ os)) h = refused≢holds (sym (read_is bs (go w j r) s ∙ ap (sections_after w) t ∙ ap (ended w ys) h) ∙ e)

  -- ---- what is stored is held

  pub encodes_held : (c : Contents) → Encodes bs ws xs c → read_bytes bs ≡ holds ws xs
  unfolding stored
  encodes_held c h =
      let g = table_reads 0 c [] h.range in
      let t = takenWord (count 256) (λ v. sections (nat_abs v)) 0 (encode c) c g.0 []
      (ap (λ (F : Format Contents). run F 0 (encode c)) (sym table_is) ∙ ap (run table 0) (sym (append-nil (encode c))) ∙ g.1) in
      let w = t.w in
      let f = first_word c w t.after (sym t.there) in
      let o : nat_abs w ≡ c.atoms = ap nat_abs f.0 in
      let k = (count_good 256 0 w t.good).1 in
      let body = laid (sections (nat_abs w)) t.after in
      let n = number_read (Some (asked.Count 256)) 0 w (names_bytes xs ++ (body ++ [])) (omega arith) t.good in
      let a = names_read (0 + 2) xs (body ++ []) h.short in
      let d = scan_laid (nat_abs w) point.Aggregates (sections (nat_abs w)) (λ (c : Contents) (p : Point). p ≡ point.End) 1 a.0 t.after c g.0 [] (sections_lead (nat_abs w) k) t.on in
      let z : bs ≡ two (nat_abs w) ++ (names_bytes xs ++ (body ++ [])) =
      h.stands
      ∙ ap (λ (l : List ℤ). two c.atoms ++ (names_bytes xs ++ laid (sections c.atoms) l)) (sym f.1)
      ∙ ap (λ (l : ℕ). two l ++ (names_bytes xs ++ laid (sections l) t.after)) (sym o)
      ∙ ap (λ (l : List ℕ). two (nat_abs w) ++ (names_bytes xs ++ l)) (sym (append-nil body)) in
      ap read_bytes z
      ∙ read_is (two (nat_abs w) ++ (names_bytes xs ++ (body ++ []))) _ n
      ∙ ap (sections_after w) (ap (λ (l : ℕ). names_of l (0 + 2) (names_bytes xs ++ (body ++ []))) (o ∙ sym h.all) ∙ a.1)
      ∙ ap (ended w xs) d.1
      ∙ ap (λ (l : List ℤ). holds l xs) (sym t.there ∙ sym h.words)

  pub exact : Bytes bs → (read_bytes bs ≡ holds ws xs) ↔ ((c : Contents) × Encodes bs ws xs c)
  exact b = (held_encodes b, λ p. encodes_held p.0 p.1)
