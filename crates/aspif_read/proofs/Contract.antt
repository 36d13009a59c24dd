-- The contract of `read`, from what its passes return; and that it fixes the result and the buffer. Assumes nothing.
use mathlib.Core.Path.{◌≡◌, refl, sym, ap, ◌∙◌, subst}
use mathlib.Core.Bool.{Bool, true, false}
use mathlib.Core.List.{List, [], ◌∷◌, ◌++◌}
use Prim.Native.Nat.{ℕ, suc, ◌+◌, ◌-◌, ◌<◌, ◌≤◌, min}
use native.Mathlib.Omega.{arith}
use borrow.Author.Tests.{lt-ltb, le-ltb, ltb-true, ltb-false}
use lib.Dec.{eqb, ltb}
use lib.IntN.{ℤ}
use lib.ListN.{length, take, drop, length-append, length-take}
use Rattle.std.specs.Prelude.{Option, Some, None, Result, Ok, Err}
use Rattle.meaning.specs.Foundedness.{same_list}
use Rattle.meaning.proofs.Tools.{and_r}
use Rattle.results.specs.declared.Refusal.{Refusal}
use Rattle.results.specs.declared.Refusal.TheVariants.{OutsideSubset, BeyondRange, ShortWords}
use Rattle.table.specs.Contents.{Each, encode}
use Rattle.text.specs.Text.{pick, ended}
use Rattle.text.proofs.Reading.{sets_over}
use Rattle.aspif.specs.Statements.{Statement}
use Rattle.aspif.specs.Reading as R
use Rattle.aspif.specs.Lines.{lines_from, lines_of, Outcome, accepted, refused14, refused15, read_lines, header, headed, read_text}
use Rattle.aspif.proofs.Accepted.{text_read}
use Rattle.aspif.proofs.Words.{reads_table}
use Rattle.aspif_read.specs.declared.judge.Fault.{Fault}
use Rattle.aspif_read.specs.declared.survey.Totals.{Totals}
use Rattle.aspif_read.specs.Survey.{line_length, Fitting, no_rules, after_line, closed_of, survey_from}
use Rattle.aspif_read.specs.Writing.{Put, weighed_in, table_from}
use Rattle.aspif_read.specs.Reads.{Refuses, ReadsAs, ReadsFirst, Reads}
use Rattle.aspif_read.proofs.LineLaws.{line_first, lines_none}
use Rattle.aspif_read.proofs.Laws.{after_fits, survey_next, survey_closing, survey_fault, survey_none}
use Rattle.aspif_read.proofs.Puts.{put_length}
use Rattle.aspif_read.proofs.Whole.{totals_of, surveyed, Short, survey_agree}
use Rattle.aspif_read.proofs.Sections.{Sums, lines_sum, table_is}

-- ---- lines are no longer than their text

ended_short : (N : ℕ) (run : List ℕ) → length run ≤ N → Each (λ (l : List ℕ). length l ≤ N) (ended run [])
ended_short N [] h = tt
ended_short N (b ∷ run) h = (h, tt)

lines_short : (N : ℕ) (bs run : List ℕ) → length run + length bs ≤ N → Each (λ (l : List ℕ). length l ≤ N) (lines_from run bs)
unfolding lines_from
lines_short N [] run h = ended_short N run (omega arith)
lines_short N (b ∷ bs) run h =
    let e = length-append run (b ∷ []) in
    at (eqb b 10) (lines_short N bs [] (omega arith)) (lines_short N bs (run ++ (b ∷ [])) (omega arith))
  where
    at : (t : Bool) → Each (λ (l : List ℕ). length l ≤ N) (lines_from [] bs) → Each (λ (l : List ℕ). length l ≤ N) (lines_from (run ++ (b ∷ [])) bs)
        → Each (λ (l : List ℕ). length l ≤ N) (elim t [ true ↦ run ∷ lines_from [] bs | false ↦ lines_from (run ++ (b ∷ [])) bs ])
    at true x y = (omega arith, x)
    at false x y = y

pub text_short : (bs : List ℕ) → length bs ≤ 18446744073709551615 → Short (lines_of bs)
text_short bs h = lines_short 18446744073709551615 bs [] (omega arith)

-- ---- the header

same_long : (a b : List ℕ) → same_list a b ≡ true → length a ≡ length b
same_long [] [] e = refl
same_long [] (y ∷ b) e = absurd (let z : ◌≡◌ {A = ℕ} 0 1 = cc in omega arith)
same_long (x ∷ a) [] e = absurd (let z : ◌≡◌ {A = ℕ} 0 1 = cc in omega arith)
same_long (x ∷ a) (y ∷ b) e = ap suc (same_long a b (and_r (eqb x y) (same_list a b) e))

abbrev first_end : List ℕ → ℕ
first_end text = 0 + line_length (drop 0 text)

abbrev first_line : List ℕ → List ℕ
first_line text = take (first_end text - 0) (drop 0 text)

abbrev after_first : List ℕ → List (List ℕ)
after_first text = lines_of (drop (min (first_end text + 1) (length text)) text)

read_first_lem : (text : List ℕ) → 0 < length text → read_text text ≡ pick (same_list (first_line text) header) (read_lines 2 [] (after_first text)) (refused14 1)
unfolding read_text
read_first_lem text h = ap headed (line_first text 0 h)

read_empty : (text : List ℕ) → length text ≤ 0 → read_text text ≡ refused14 1
unfolding read_text
read_empty text h = ap headed (lines_none text 0 h)

pub header_no : (text : List ℕ) → same_list (first_line text) header ≡ false → read_text text ≡ refused14 1
header_no text e = at (ltb 0 (length text)) refl
  where
    at : (b : Bool) → ltb 0 (length text) ≡ b → read_text text ≡ refused14 1
    at true f = read_first_lem text (ltb-true 0 (length text) f) ∙ (rw e)
    at false f = read_empty text (ltb-false 0 (length text) f)

module _ (text : List ℕ) (e : same_list (first_line text) header ≡ true) where
  first_long : 9 ≤ first_end text
  first_long =
      let l = same_long (first_line text) header e in
      let k = length-take (first_end text - 0) (drop 0 text) in
      omega arith

  some_text : 9 ≤ length text
  some_text =
      let l = same_long (first_line text) header e in
      let k = length-take (first_end text - 0) (drop 0 text) in
      omega arith

  pub header_far : 2 ≤ min (first_end text + 1) (length text)
  header_far = let a = first_long in let b = some_text in omega arith

  pub header_yes : read_text text ≡ read_lines 2 [] (after_first text)
  header_yes = let b = some_text in read_first_lem text (omega arith) ∙ (rw e)

-- ---- the first pass

pub survey_fits : (ls : List (List ℕ)) (k : ℕ) (t v : Totals) → Fitting t → survey_from k t ls ≡ Ok v → Fitting v
survey_fits [] k t v f e = absurd (let q = sym (survey_none k t) ∙ e in let z : ◌≡◌ {A = ℕ} 0 1 = cc in omega arith)
survey_fits (l ∷ ls) k t v f e = at (after_line t l) refl (λ u g h. survey_fits ls (suc k) u v g h)
  where
    at : (s : Result (Option Totals) Fault) → after_line t l ≡ s → ((u : Totals) → Fitting u → survey_from (suc k) u ls ≡ Ok v → Fitting v) → Fitting v
    at (Ok (Some u)) g r = r u (after_fits t l u f g) (sym (survey_next k t l ls u g) ∙ e)
    at (Ok None) g r = last ls (sym (survey_closing k t l ls g) ∙ e)
      where
        last : (ks : List (List ℕ)) → closed_of (suc k) t ks ≡ Ok v → Fitting v
        last [] h = let q : t ≡ v = cc in subst Fitting q f
        last (x ∷ ks) h = absurd (let z : ◌≡◌ {A = ℕ} 0 1 = cc in omega arith)
    at (Err w) g r = absurd (let q = sym (survey_fault k t l ls w g) ∙ e in let z : ◌≡◌ {A = ℕ} 0 1 = cc in omega arith)

none_totals : no_rules ≡ totals_of []
unfolding encode R.read
none_totals = refl

none_fits : Fitting no_rules
none_fits = record { words = omega arith; aggregates = omega arith; rules = omega arith; top = omega arith }

pub table_fits : (ls : List (List ℕ)) (v : Totals) → survey_from 2 no_rules ls ≡ Ok v → Fitting v
table_fits ls v e = survey_fits ls 2 no_rules v none_fits e

found : (ls : List (List ℕ)) → Short ls → (o : Result Totals Refusal) → survey_from 2 no_rules ls ≡ o → surveyed (read_lines 2 [] ls) ≡ o
found ls u o e = sym (survey_agree ls 2 [] u) ∙ ap (λ (t : Totals). survey_from 2 t ls) (sym none_totals) ∙ e

is_table : (o : Outcome) (v : Totals) → surveyed o ≡ Ok v → (ss : List Statement) × (o ≡ accepted ss) × (v ≡ totals_of ss)
is_table (accepted ss) v e = (ss, refl, let q : totals_of ss ≡ v = cc in sym q)
is_table (refused14 k) v e = absurd (let z : ◌≡◌ {A = ℕ} 0 1 = cc in omega arith)
is_table (refused15 k) v e = absurd (let z : ◌≡◌ {A = ℕ} 0 1 = cc in omega arith)

module _ (ls : List (List ℕ)) (u : Short ls) where
  pub lines_table : (v : Totals) → survey_from 2 no_rules ls ≡ Ok v → (ss : List Statement) × (read_lines 2 [] ls ≡ accepted ss) × (v ≡ totals_of ss) × Sums ls ss
  lines_table v e =
      let t = is_table (read_lines 2 [] ls) v (found ls u (Ok v) e) in
      let s = lines_sum ls 2 [] t.0 u t.1 in
      (t.0, t.1, t.2, subst (Sums ls) (sym s.1) s.2)

  pub few_aggregates_lem : (v : Totals) → survey_from 2 no_rules ls ≡ Ok v → weighed_in ls ≤ 64
  few_aggregates_lem v e =
      let t = lines_table v e in
      let f = (table_fits ls v e).aggregates in
      let a = t.3.count in
      let b = ap (λ (x : Totals). x.aggregates) t.2 in
      omega arith

-- ---- the contract

module _ (text : List ℕ) (old : List ℤ) where
  pub reads_short : length old < 16384 → Reads text old (Err ShortWords) old
  unfolding Reads
  reads_short h = subst (λ (b : Bool). ReadsFirst b text old (Err ShortWords) old) (sym (lt-ltb (length old) 16384 h)) (record { result = refl; kept = refl })

  reads_as : (o : Outcome) (r : Result ℕ Refusal) (new : List ℤ) → 16384 ≤ length old → read_text text ≡ o → ReadsAs text old o r new → Reads text old r new
  unfolding Reads
  reads_as o r new h e a =
      subst (λ (b : Bool). ReadsFirst b text old r new) (sym (le-ltb (length old) 16384 h)) (subst (λ (x : Outcome). ReadsAs text old x r new) (sym e) a)

  pub reads_outside : (k : ℕ) → 16384 ≤ length old → read_text text ≡ refused14 k → Reads text old (Err (OutsideSubset k)) old
  reads_outside k h e = reads_as (refused14 k) (Err (OutsideSubset k)) old h e (record { result = refl; kept = refl })

  pub reads_beyond : (k : ℕ) → 16384 ≤ length old → read_text text ≡ refused15 k → Reads text old (Err (BeyondRange k)) old
  reads_beyond k h e = reads_as (refused15 k) (Err (BeyondRange k)) old h e (record { result = refl; kept = refl })

  refused_as : (o : Outcome) (why : Refusal) → surveyed o ≡ Err why → ReadsAs text old o (Err why) old
  refused_as (accepted ss) why e = absurd (let z : ◌≡◌ {A = ℕ} 0 1 = cc in omega arith)
  refused_as (refused14 k) why e = let q : why ≡ OutsideSubset k = cc in record { result = ap Err q; kept = refl }
  refused_as (refused15 k) why e = let q : why ≡ BeyondRange k = cc in record { result = ap Err q; kept = refl }

  -- a line is refused
  pub reads_refused : (ls : List (List ℕ)) (why : Refusal) → Short ls → 16384 ≤ length old → read_text text ≡ read_lines 2 [] ls → survey_from 2 no_rules ls ≡ Err why → Reads text old (Err why) old
  reads_refused ls why u h e f = reads_as (read_lines 2 [] ls) (Err why) old h e (refused_as (read_lines 2 [] ls) why (found ls u (Err why) f))

  pub reads_accepted : (ss : List Statement) (t : Totals) (ls : List (List ℕ)) (n : ℕ) (new : List ℤ) → 16384 ≤ length old → read_text text ≡ accepted ss → t ≡ totals_of ss → Sums ls ss
      → Put old 0 (table_from t ls) n new → Reads text old (Ok n) new
  reads_accepted ss t ls n new h e f s p =
      let w : table_from t ls ≡ encode (R.read ss) = ap (λ (x : Totals). table_from x ls) f ∙ table_is ls ss s in
      let q : Put old 0 (encode (R.read ss)) n new = subst (λ (l : List ℤ). Put old 0 l n new) w p in
      let few = (text_read text ss e).1 in
      let t = reads_table text ss e in
      reads_as (accepted ss) (Ok n) new h e (record {
        result = ap Ok (put_length old new (encode (R.read ss)) n q (omega arith));
        words = q.has ∙ sets_over (encode (R.read ss)) old;
        says = t.0;
        table = t.1;
        answers = t.2;
      })

-- ---- uniqueness

refuses_unique : (old : List ℤ) (why : Refusal) (r s : Result ℕ Refusal) (a b : List ℤ) → Refuses old why r a → Refuses old why s b → (r ≡ s) × (a ≡ b)
refuses_unique old why r s a b x y = (x.result ∙ sym y.result, x.kept ∙ sym y.kept)

as_unique : (text : List ℕ) (old : List ℤ) (o : Outcome) (r s : Result ℕ Refusal) (a b : List ℤ) → ReadsAs text old o r a → ReadsAs text old o s b → (r ≡ s) × (a ≡ b)
as_unique text old (accepted ss) r s a b x y = (x.result ∙ sym y.result, x.words ∙ sym y.words)
as_unique text old (refused14 k) r s a b x y = refuses_unique old (OutsideSubset k) r s a b x y
as_unique text old (refused15 k) r s a b x y = refuses_unique old (BeyondRange k) r s a b x y

first_unique : (t : Bool) (text : List ℕ) (old : List ℤ) (r s : Result ℕ Refusal) (a b : List ℤ) → ReadsFirst t text old r a → ReadsFirst t text old s b → (r ≡ s) × (a ≡ b)
first_unique true text old r s a b x y = refuses_unique old ShortWords r s a b x y
first_unique false text old r s a b x y = as_unique text old (read_text text) r s a b x y

-- the text and the old buffer fix the result and the buffer
pub reads_unique : (text : List ℕ) (old : List ℤ) (r s : Result ℕ Refusal) (a b : List ℤ) → Reads text old r a → Reads text old s b → (r ≡ s) × (a ≡ b)
unfolding Reads
reads_unique text old r s a b x y = first_unique (ltb (length old) 16384) text old r s a b x y
