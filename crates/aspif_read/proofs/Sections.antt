-- The words that the second and third pass write for an accepted text are those of the table that is read. Assumes nothing.
use mathlib.Core.Path.{◌≡◌, refl, sym, ap, ap₂, ◌∙◌, subst}
use mathlib.Core.Bool.{Bool, true, false, ◌&&◌}
use mathlib.Core.List.{List, [], ◌∷◌, ◌++◌, append_assoc, append-nil}
use mathlib.Core.Option.{Option, some, none}
use Prim.Native.Nat.{ℕ, suc, ◌+◌, ◌≤◌, min}
use native.Mathlib.Numerals.{add-one}
use native.Mathlib.Omega.{arith}
use borrow.Author.Tests.{leb-true}
use lib.Dec.{leb}
use lib.IntN.{ℤ, pos, negsuc, pred_ℤ}
use lib.ListN.{length, length-append}
use Rattle.meaning.specs.Lists.{Is, all}
use Rattle.meaning.specs.Cycles.{inside}
use Rattle.meaning.specs.Program.{Element}
use Rattle.meaning.specs.declared.Function.TheVariants.{Sum}
use Rattle.meaning.specs.declared.Comparison.TheVariants.{Greater}
use Rattle.meaning.proofs.Tools.{and_l, and_r}
use Rattle.table.specs.Roles.{within}
use Rattle.table.specs.Contents.{encode, encode_atoms, encode_elements, encode_all, encode_aggregate, encode_rule}
use Rattle.text.specs.Text.{pick, runs}
use Rattle.aspif.specs.Statements.{Signed, Body, normal, weight, Statement, positives, negateds}
use Rattle.aspif.specs.Reading.{named, sorted, merged, body_aggregates, aggregates_of, read_rule, read_rules, read}
use Rattle.aspif.specs.Lines.{Form, plain, weighed, Raw, Line, closing, comment, rule, outside, weights_in, weighed_in, form_in, numbers_of, parsed, parsed_line, line_of, table_ranges, in_ranges, ranged_as, ranged, accepted, closed, read_lines}
use Rattle.aspif.proofs.Accepted.{lines_closing, lines_comment, lines_outside, lines_rule, lines_beyond}
use Rattle.aspif_scan.specs.declared.kind.Kind.TheVariants as kind
use Rattle.aspif_scan.specs.declared.machine.State.{State}
use Rattle.aspif_scan.specs.Marks.{row_from, weights_from}
use Rattle.aspif_scan.specs.Scan.{kind_of}
use Rattle.aspif_read.specs.Survey.{weighs, count_of, state_of, marks_of}
use Rattle.aspif_read.specs.Writing.{aggregate_words, literal_words, rule_words, own_words, statement_words, weighed_line, line_words, line_aggregates, weighed_in as weighedLines, section_from, table_from}
use Rattle.aspif_read.proofs.Laws.{words_kind, aggregates_kind}
use Rattle.aspif_read.proofs.Leaves.{cap, capped, fine, EndsBy, Agree}
use Rattle.aspif_read.proofs.Parsing.{AgreeFields}
use Rattle.aspif_read.proofs.ReadOut.{merged_sorted, sorted_none}
use Rattle.aspif_read.proofs.StatementRows.{plain_marks, plain_head_lem, plain_positive, plain_negated, weigh_marks, weigh_head, weigh_positive, weigh_negated, weigh_elements, weigh_light, weigh_weights}
use Rattle.aspif_read.proofs.Ranges.{bound_of_lem}
use Rattle.aspif_read.proofs.Judging.{own_ranges}
use Rattle.aspif_read.proofs.Whole.{By, ends, says, reads, line_by, totals_of, Short, ranges_split, agreed}

-- ---- one statement

-- what a statement's line adds to the two sections
record Adds (h : List ℕ) (b : Body) (s : State) (m : List ℕ) : Type 0 where
  rules : (j : ℕ) → rule_words (weighs s.stage) j m ≡ encode_rule (read_rule j h b)
  aggregates : own_words (weighs s.stage) s m ≡ encode_all encode_aggregate (body_aggregates b)
  count : weighs s.stage ≡ length (body_aggregates b)

rule_words_lem : (m a b c : List ℕ) (o j : ℕ) → row_from m 0 1 256 ≡ a → row_from m 256 1 256 ≡ b → row_from m 512 1 256 ≡ c
    → rule_words o j m ≡ encode_atoms a ++ (encode_atoms b ++ (encode_atoms c ++ literal_words o j))
unfolding rule_words
rule_words_lem m a b c o j e f g = rw (e, f, g)

no_literals : (j : ℕ) → literal_words 0 j ≡ pos 0 ∷ []
unfolding literal_words
no_literals j = refl

one_literal : (j : ℕ) → literal_words 1 j ≡ pos 1 ∷ pos (suc j) ∷ []
unfolding literal_words
one_literal j = rw add-one

plain_rule : (h : List ℕ) (l : List Signed) (j : ℕ) → encode_atoms (sorted h) ++ (encode_atoms (sorted (positives l)) ++ (encode_atoms (sorted (negateds l)) ++ (pos 0 ∷ []))) ≡ encode_rule (read_rule j h (normal l))
unfolding encode_rule
plain_rule h l j = refl

weigh_rule : (h : List ℕ) (b : ℤ) (es : List Element) (j : ℕ) → encode_atoms (sorted h) ++ (encode_atoms [] ++ (encode_atoms [] ++ (pos 1 ∷ pos (suc j) ∷ []))) ≡ encode_rule (read_rule j h (weight b es))
unfolding encode_rule
weigh_rule h b es j = refl

bound_back : (b : ℤ) → Is (fine 4194305 b) → pos (min (capped b).size 4194306) ≡ b
bound_back (ℤ.pos n) i = let k = leb-true (cap n) 4194305 i in let e : min (cap n) 4194306 ≡ n = omega arith in ap pos e
bound_back (negsuc n) i = absurd (let z : ◌≡◌ {A = ℕ} 0 1 = cc in omega arith)

sum_words : (c : ℕ) (b : ℤ) (n : ℕ) (es ds : List Element) → pos c ≡ b → n ≡ length ds → es ≡ ds
    → pos 1 ∷ pos 1 ∷ pred_ℤ (pos c) ∷ pos n ∷ encode_elements es ≡ encode_aggregate (record { function = Sum; comparison = Greater; threshold = pred_ℤ b; elements = ds })
unfolding encode_aggregate
sum_words c b n es ds e f g =
    ap (λ (y : ℤ). pos 1 ∷ pos 1 ∷ pred_ℤ y ∷ pos n ∷ encode_elements es) e ∙ ap₂ (λ (k : ℕ) (d : List Element). pos 1 ∷ pos 1 ∷ pred_ℤ b ∷ pos k ∷ encode_elements d) f g

own_words_lem : (c : ℕ) (m : List ℕ) → aggregate_words c m ≡ pos 1 ∷ pos 1 ∷ pred_ℤ (pos c) ∷ pos (count_of m 3) ∷ encode_elements (weights_from m 768 1 256)
unfolding aggregate_words
own_words_lem c m = refl

form_adds : (h : List ℕ) (f : Form) (b : Body) (s : State) (m : List ℕ) → EndsBy h f s m → form_in f ≡ some b → Is (own_ranges (record { head = h; body = b })) → Adds h b s m
form_adds h (plain l) b s m g e r = subst (λ (x : Body). Adds h x s m) (let q : normal l ≡ b = cc in q) (record {
  rules = λ j. ap₂ (λ (o : ℕ) (k : List ℕ). rule_words o j k) (ap weighs g.stage) g.marks ∙ rule_words_lem (plain_marks h l) (sorted h) (sorted (positives l)) (sorted (negateds l)) 0 j (plain_head_lem h l) (plain_positive h l) (plain_negated h l)
      ∙ ap (λ (k : List ℤ). encode_atoms (sorted h) ++ (encode_atoms (sorted (positives l)) ++ (encode_atoms (sorted (negateds l)) ++ k))) (no_literals j) ∙ plain_rule h l j;
  aggregates = ap (λ (o : ℕ). own_words o s m) (ap weighs g.stage);
  count = ap weighs g.stage;
})
form_adds h (weighed z l) b s m g e r = at (weights_in l) refl e
  where
    at : (o : Option (List Element)) → weights_in l ≡ o → weighed_in z o ≡ some b → Adds h b s m
    at none d q = absurd (let y : ◌≡◌ {A = ℕ} 0 1 = cc in omega arith)
    at (some es) d q =
        let w : weight z es ≡ b = cc in
        let r' : Is (own_ranges (record { head = h; body = weight z es })) = subst (λ (x : Body). Is (own_ranges (record { head = h; body = x }))) (sym w) r in
        let ranges = and_r (all (inside 256) (named (record { head = h; body = weight z es })) && leb (length (sorted h)) 16) _ r' in
        let few = and_l (within (negsuc 0) (pos 4194304) (pred_ℤ z) && leb (length (merged es)) 64) _ ranges in
        let light = weigh_light h l es d ∙ and_r (within (negsuc 0) (pos 4194304) (pred_ℤ z) && leb (length (merged es)) 64) _ ranges in
        let bound : Is (fine 4194305 z) = bound_of_lem z ∙ and_l (within (negsuc 0) (pos 4194304) (pred_ℤ z)) _ few in
        let k : count_of (weigh_marks h l) 3 ≡ length (merged es) = ap length (weigh_elements h l es d) ∙ sym (merged_sorted es) in
        subst (λ (x : Body). Adds h x s m) w (record {
          rules = λ j. ap₂ (λ (o : ℕ) (k : List ℕ). rule_words o j k) (ap weighs g.stage) g.marks
              ∙ rule_words_lem (weigh_marks h l) (sorted h) [] [] 1 j (weigh_head h l) (weigh_positive h l ∙ sorted_none) (weigh_negated h l ∙ sorted_none)
              ∙ ap (λ (k : List ℤ). encode_atoms (sorted h) ++ (encode_atoms [] ++ (encode_atoms [] ++ k))) (one_literal j) ∙ weigh_rule h z es j;
          aggregates = ap (λ (o : ℕ). own_words o s m) (ap weighs g.stage) ∙ ap₂ (λ (c : ℕ) (k : List ℕ). aggregate_words c k) g.bound g.marks
              ∙ own_words_lem (min (capped z).size 4194306) (weigh_marks h l) ∙ sum_words (min (capped z).size 4194306) z (count_of (weigh_marks h l) 3) (weights_from (weigh_marks h l) 768 1 256) (merged es) (bound_back z bound) k (weigh_weights h l es d light)
              ∙ sym (append-nil (encode_aggregate (record { function = Sum; comparison = Greater; threshold = pred_ℤ z; elements = merged es })));
          count = ap weighs g.stage;
        })

-- ---- one line

record AddsLine (l : List ℕ) (s : Statement) : Type 0 where
  rules : (j : ℕ) → line_words true j l ≡ encode_rule (read_rule j s.head s.body)
  aggregates : (j : ℕ) → line_words false j l ≡ encode_all encode_aggregate (body_aggregates s.body)
  count : line_aggregates l ≡ length (body_aggregates s.body)

line_adds : (l h : List ℕ) (b : Body) → kind_of (runs l) ≡ kind.Other → Adds h b (state_of l) (marks_of l) → AddsLine l (record { head = h; body = b })
unfolding statement_words weighed_line
line_adds l h b e a = record {
  rules = λ j. words_kind true j l kind.Other e ∙ a.rules j;
  aggregates = λ j. words_kind false j l kind.Other e ∙ a.aggregates;
  count = aggregates_kind l kind.Other e ∙ a.count;
}

record Adds0 (l : List ℕ) : Type 0 where
  words : (t : Bool) (j : ℕ) → line_words t j l ≡ []
  count : line_aggregates l ≡ 0

module _ (ss : List Statement) (l : List ℕ) (short : length l ≤ 18446744073709551615) where
  closing_adds : line_of l ≡ closing → Adds0 l
  closing_adds q = at (line_by (runs l))
    where
      whole : (o : Option (List ℤ)) → parsed_line o ≡ closing → ⊥
      whole none f = let z : ◌≡◌ {A = ℕ} 0 1 = cc in omega arith
      whole (some zs) f = two (parsed zs) refl
        where
          two : (p : Option Raw) → parsed zs ≡ p → ⊥
          two none g = let y : parsed_line (some zs) ≡ outside = rw (g, parsed_line) in let z : ◌≡◌ {A = ℕ} 0 1 = cc in omega arith
          two (some r) g = let y : parsed_line (some zs) ≡ rule r = rw (g, parsed_line) in let z : ◌≡◌ {A = ℕ} 0 1 = cc in omega arith

      at : By (runs l) → Adds0 l
      at (ends e f) = record { words = λ t j. words_kind t j l kind.Closing e; count = aggregates_kind l kind.Closing e }
      at (says e f) = record { words = λ t j. words_kind t j l kind.Comment e; count = aggregates_kind l kind.Comment e }
      at (reads e f) = absurd (whole (numbers_of (runs l)) (sym f ∙ q))

  comment_adds : line_of l ≡ comment → Adds0 l
  comment_adds q = at (line_by (runs l))
    where
      whole : (o : Option (List ℤ)) → parsed_line o ≡ comment → ⊥
      whole none f = let z : ◌≡◌ {A = ℕ} 0 1 = cc in omega arith
      whole (some zs) f = two (parsed zs) refl
        where
          two : (p : Option Raw) → parsed zs ≡ p → ⊥
          two none g = let y : parsed_line (some zs) ≡ outside = rw (g, parsed_line) in let z : ◌≡◌ {A = ℕ} 0 1 = cc in omega arith
          two (some r) g = let y : parsed_line (some zs) ≡ rule r = rw (g, parsed_line) in let z : ◌≡◌ {A = ℕ} 0 1 = cc in omega arith

      at : By (runs l) → Adds0 l
      at (ends e f) = record { words = λ t j. words_kind t j l kind.Closing e; count = aggregates_kind l kind.Closing e }
      at (says e f) = record { words = λ t j. words_kind t j l kind.Comment e; count = aggregates_kind l kind.Comment e }
      at (reads e f) = absurd (whole (numbers_of (runs l)) (sym f ∙ q))

  ranged_own : (h : List ℕ) (o : Option Body) (s : Statement) → ranged_as ss h o ≡ some s → (b : Body) × (o ≡ some b) × (s ≡ record { head = h; body = b }) × Is (own_ranges s)
  ranged_own h none s q = absurd (let z : ◌≡◌ {A = ℕ} 0 1 = cc in omega arith)
  ranged_own h (some b) s q = at (in_ranges ss (record { head = h; body = b })) refl q
    where
      at : (t : Bool) → in_ranges ss (record { head = h; body = b }) ≡ t → pick t (some (record { head = h; body = b })) none ≡ some s
          → (c : Body) × (some b ≡ some c) × (s ≡ record { head = h; body = c }) × Is (own_ranges s)
      at false e f = absurd (let z : ◌≡◌ {A = ℕ} 0 1 = cc in omega arith)
      at true e f =
          let g : record { head = h; body = b } ≡ s = cc in
          (b, refl, sym g, subst (λ (x : Statement). Is (own_ranges x)) g (and_l (own_ranges (record { head = h; body = b })) (table_ranges (ss ++ ((record { head = h; body = b }) ∷ []))) (sym (ranges_split ss (record { head = h; body = b })) ∙ e)))

  rule_adds : (r : Raw) (s : Statement) → line_of l ≡ rule r → ranged ss r ≡ some s → AddsLine l s
  unfolding ranged
  rule_adds r s q t = at (line_by (runs l))
    where
      own : (b : Body) × (form_in r.form ≡ some b) × (s ≡ record { head = r.head; body = b }) × Is (own_ranges s)
      own = ranged_own r.head (form_in r.form) s (unfold ranged in t)

      whole : (o : Option (List ℤ)) → parsed_line o ≡ rule r → kind_of (runs l) ≡ kind.Other → AgreeFields o (state_of l) (marks_of l) → AddsLine l s
      whole none f e g = absurd (let z : ◌≡◌ {A = ℕ} 0 1 = cc in omega arith)
      whole (some zs) f e g = two (parsed zs) refl
        where
          two : (p : Option Raw) → parsed zs ≡ p → AddsLine l s
          two none d = absurd (let y : parsed_line (some zs) ≡ outside = rw (d, parsed_line) in let z : ◌≡◌ {A = ℕ} 0 1 = cc in omega arith)
          two (some w) d =
              let y : parsed_line (some zs) ≡ rule w = rw (d, parsed_line) in
              let x : w ≡ r = cc in
              let a : Agree (some r) (state_of l) (marks_of l) = subst (λ (p : Option Raw). Agree p (state_of l) (marks_of l)) (d ∙ ap some x) g in
              let i : Is (own_ranges (record { head = r.head; body = own.0 })) = subst (λ (z : Statement). Is (own_ranges z)) own.2 own.3 in
              subst (AddsLine l) (sym own.2) (line_adds l r.head own.0 e (form_adds r.head r.form own.0 (state_of l) (marks_of l) a.0 own.1 i))

      at : By (runs l) → AddsLine l s
      at (ends e f) = absurd (let z : closing ≡ rule r = sym f ∙ q in let y : ◌≡◌ {A = ℕ} 0 1 = cc in omega arith)
      at (says e f) = absurd (let z : comment ≡ rule r = sym f ∙ q in let y : ◌≡◌ {A = ℕ} 0 1 = cc in omega arith)
      at (reads e f) = whole (numbers_of (runs l)) (sym f ∙ q) e (agreed ss l short)

-- ---- all lines

pub record Sums (ls : List (List ℕ)) (us : List Statement) : Type 0 where
  pub aggregates : (j : ℕ) → section_from false j ls ≡ encode_all encode_aggregate (aggregates_of us)
  pub rules : (j : ℕ) → section_from true j ls ≡ encode_all encode_rule (read_rules j us)
  pub count : weighedLines ls ≡ length (aggregates_of us)

all_append : {A : Type 0} (f : A → List ℤ) (l k : List A) → encode_all f l ++ encode_all f k ≡ encode_all f (l ++ k)
all_append f [] k = refl
all_append f (x ∷ l) k = append_assoc (f x) (encode_all f l) (encode_all f k) ∙ ap (λ (r : List ℤ). f x ++ r) (all_append f l k)

skip : (l : List ℕ) (ls : List (List ℕ)) (us : List Statement) → Adds0 l → Sums ls us → Sums (l ∷ ls) us
skip l ls us a s = record {
  aggregates = λ j. ap (λ (w : List ℤ). w ++ section_from false (j + line_aggregates l) ls) (a.words false j) ∙ s.aggregates (j + line_aggregates l);
  rules = λ j.
      ap (λ (w : List ℤ). w ++ section_from true (j + line_aggregates l) ls) (a.words true j) ∙ s.rules (j + line_aggregates l)
      ∙ (let c = a.count in let e : j + line_aggregates l ≡ j = omega arith in ap (λ (n : ℕ). encode_all encode_rule (read_rules n us)) e);
  count = let c = a.count in let d = s.count in omega arith;
}

add : (l : List ℕ) (ls : List (List ℕ)) (s : Statement) (us : List Statement) → AddsLine l s → Sums ls us → Sums (l ∷ ls) (s ∷ us)
add l ls s us a t = record {
  aggregates = λ j. ap₂ (λ (w v : List ℤ). w ++ v) (a.aggregates j) (t.aggregates (j + line_aggregates l)) ∙ all_append encode_aggregate (body_aggregates s.body) (aggregates_of us);
  rules = λ j. ap₂ (λ (w v : List ℤ). w ++ v) (a.rules j) (t.rules (j + line_aggregates l) ∙ ap (λ (n : ℕ). encode_all encode_rule (read_rules (j + n) us)) a.count);
  count = let c = a.count in let d = t.count in let e = length-append (body_aggregates s.body) (aggregates_of us) in omega arith;
}

no_lines : (k : ℕ) (ss ts : List Statement) → read_lines k ss [] ≡ accepted ts → ⊥
unfolding read_lines
no_lines k ss ts e = let z : ◌≡◌ {A = ℕ} 0 1 = cc in omega arith

pub lines_sum : (ls : List (List ℕ)) (k : ℕ) (ss ts : List Statement) → Short ls → read_lines k ss ls ≡ accepted ts → (us : List Statement) × (ts ≡ ss ++ us) × Sums ls us
lines_sum [] k ss ts u e = absurd (no_lines k ss ts e)
lines_sum (l ∷ ls) k ss ts u e = at (line_of l) refl (λ rs f. lines_sum ls (suc k) rs ts u.1 f)
  where
    at : (x : Line) → line_of l ≡ x → ((rs : List Statement) → read_lines (suc k) rs ls ≡ accepted ts → (us : List Statement) × (ts ≡ rs ++ us) × Sums ls us)
        → (us : List Statement) × (ts ≡ ss ++ us) × Sums (l ∷ ls) us
    at closing f r = last ls (sym (lines_closing k ss l ls f) ∙ e)
      where
        last : (ks : List (List ℕ)) → closed (suc k) ss ks ≡ accepted ts → (us : List Statement) × (ts ≡ ss ++ us) × Sums (l ∷ ks) us
        last [] g = ([], (let q : ss ≡ ts = cc in sym q ∙ sym (append-nil ss)), skip l [] [] (closing_adds ss l u.0 f) (record { aggregates = λ j. refl; rules = λ j. refl; count = refl }))
        last (x ∷ ks) g = absurd (let z : ◌≡◌ {A = ℕ} 0 1 = cc in omega arith)
    at comment f r =
        let t = r ss (sym (lines_comment k ss l ls f) ∙ e) in
        (t.0, t.1, skip l ls t.0 (comment_adds ss l u.0 f) t.2)
    at (rule w) f r = two (ranged ss w) refl
      where
        two : (o : Option Statement) → ranged ss w ≡ o → (us : List Statement) × (ts ≡ ss ++ us) × Sums (l ∷ ls) us
        two none g = absurd (let q = sym (lines_beyond k ss l ls w f g) ∙ e in let z : ◌≡◌ {A = ℕ} 0 1 = cc in omega arith)
        two (some s) g =
            let t = r (ss ++ (s ∷ [])) (sym (lines_rule k ss l ls w s f g) ∙ e) in
            (s ∷ t.0, t.1 ∙ append_assoc ss (s ∷ []) t.0, add l ls s t.0 (rule_adds ss l u.0 w s f g) t.2)
    at outside f r = absurd (let q = sym (lines_outside k ss l ls f) ∙ e in let z : ◌≡◌ {A = ℕ} 0 1 = cc in omega arith)

rules_count : (k : ℕ) (us : List Statement) → length (read_rules k us) ≡ length us
rules_count k [] = refl
rules_count k (s ∷ us) = ap suc (rules_count (k + length (body_aggregates s.body)) us)

-- the words that are written are those of what was read
pub table_is : (ls : List (List ℕ)) (us : List Statement) → Sums ls us → table_from (totals_of us) ls ≡ encode (read us)
unfolding table_from encode read
table_is ls us s =
    ap₂ (λ (a b : List ℤ). pos (totals_of us).top ∷ pos (length (aggregates_of us)) ∷ (a ++ (pos (length us) ∷ b))) (s.aggregates 0) (s.rules 0)
    ∙ ap (λ (n : ℕ). pos (totals_of us).top ∷ pos (length (aggregates_of us)) ∷ (encode_all encode_aggregate (aggregates_of us) ++ (pos n ∷ encode_all encode_rule (read_rules 0 us)))) (sym (rules_count 0 us))
