-- Laws of the first pass, and of what a line adds to a section: one case of a definition each. Assumes nothing.
use mathlib.Core.Path.{◌≡◌, refl, sym, ap, ◌∙◌, subst}
use mathlib.Core.Bool.{Bool, true, false, ◌&&◌, not}
use mathlib.Core.List.{List, [], ◌∷◌}
use Prim.Native.Nat.{ℕ, zero, suc, ◌+◌, ◌*◌, ◌≤◌}
use native.Mathlib.Omega.{arith}
use borrow.Author.Tests.{leb-true, ne_eqb}
use lib.Dec.{eqb, leb, ltb}
use lib.ListN.{length, get_or}
use Rattle.std.specs.Prelude.{Some, None, Result, Ok, Err}
use Rattle.meaning.specs.Lists.{cons_if}
use Rattle.meaning.proofs.Tools.{and_l, and_r}
use Rattle.text.specs.Text.{pick, runs}
use Rattle.aspif_scan.specs.declared.kind.Kind.{Kind}
use Rattle.aspif_scan.specs.declared.kind.Kind.TheVariants as kind
use Rattle.aspif_scan.specs.declared.machine.Stage.{Stage}
use Rattle.aspif_scan.specs.declared.machine.Stage.TheVariants.{Rule, Disjunction, HeadCount, Head, Body, LiteralCount, Literal, Bound, PairCount, Pair, Weight, NormalEnd, WeightEnd, Outside}
use Rattle.aspif_scan.specs.declared.machine.State.{State}
use Rattle.aspif_scan.specs.Marks.{row_from, light_from}
use Rattle.aspif_scan.specs.Scan.{kind_of}
use Rattle.results.specs.declared.Refusal.TheVariants.{OutsideSubset}
use Rattle.aspif_read.specs.declared.judge.Judged.{Judged}
use Rattle.aspif_read.specs.declared.judge.Fault.{Fault}
use Rattle.aspif_read.specs.declared.judge.Fault.TheVariants as fault
use Rattle.aspif_read.specs.declared.survey.Totals.{Totals}
use Rattle.aspif_read.specs.Writing.{aggregate_words, rule_words, statement_words, weighed_line, kind_words, line_words, kind_aggregates, line_aggregates}
use Rattle.aspif_read.proofs.Bounds.{top_low}
use Rattle.aspif_read.specs.Survey.{is_whole, weighs, count_of, few_of, own_words, words_of, rule_of, judged_of, state_of, marks_of, judged_line, next_of, with_rule, in_range, Fitting, after_rule, after_kind, after_line, refusal_of, closed_of, survey_from}

-- ---- a line's judgement

row_length : (m : List ℕ) (i p n : ℕ) → length (row_from m i p n) ≤ n
unfolding row_from
row_length m i p zero = omega arith
row_length m i p (suc n) = at (ltb 0 (get_or m i 0)) (row_length m (suc i) (suc p) n)
  where
    at : (b : Bool) → length (row_from m (suc i) (suc p) n) ≤ n → length (cons_if b p (row_from m (suc i) (suc p) n)) ≤ suc n
    at true h = omega arith
    at false h = omega arith

weighs_few : (t : Stage) → weighs t ≤ 1
weighs_few Rule = omega arith
weighs_few Disjunction = omega arith
weighs_few HeadCount = omega arith
weighs_few Head = omega arith
weighs_few Body = omega arith
weighs_few LiteralCount = omega arith
weighs_few Literal = omega arith
weighs_few Bound = omega arith
weighs_few PairCount = omega arith
weighs_few Pair = omega arith
weighs_few Weight = omega arith
weighs_few NormalEnd = omega arith
weighs_few WeightEnd = omega arith
weighs_few Outside = omega arith

-- what a rule that is judged fits says
pub record Fits (s : State) (m : List ℕ) (w a p : ℕ) : Type 0 where
  pub whole : is_whole s.stage ≡ true
  pub within : s.within ≡ true
  pub few : few_of m ≡ true
  pub light : light_from m 1024 256 ≡ true
  pub words : words_of (weighs s.stage) m ≡ w
  pub aggregates : weighs s.stage ≡ a
  pub top : s.top ≡ p

pub judged_rule : (s : State) (m : List ℕ) (w a p : ℕ) → judged_of s m ≡ rule_of w a p → Fits s m w a p
unfolding judged_of
judged_rule s m w a p = at (is_whole s.stage) refl (s.within && (few_of m && light_from m 1024 256)) refl
  where
    at : (x : Bool) → is_whole s.stage ≡ x → (y : Bool) → (s.within && (few_of m && light_from m 1024 256)) ≡ y
        → pick (not x) (Err fault.Outside) (pick (not y) (Err fault.Beyond) (rule_of (words_of (weighs s.stage) m) (weighs s.stage) s.top)) ≡ rule_of w a p → Fits s m w a p
    at false e y f q = absurd (let z : ◌≡◌ {A = ℕ} 0 1 = cc in omega arith)
    at true e false f q = absurd (let z : ◌≡◌ {A = ℕ} 0 1 = cc in omega arith)
    at true e true f q =
        let r : ◌≡◌ {A = Judged} (record { words = words_of (weighs s.stage) m; aggregates = weighs s.stage; top = s.top }) (record { words = w; aggregates = a; top = p }) = cc in
        record {
          whole = e;
          within = and_l s.within (few_of m && light_from m 1024 256) f;
          few = and_l (few_of m) (light_from m 1024 256) (and_r s.within (few_of m && light_from m 1024 256) f);
          light = and_r (few_of m) (light_from m 1024 256) (and_r s.within (few_of m && light_from m 1024 256) f);
          words = ap (λ (x : Judged). x.words) r;
          aggregates = ap (λ (x : Judged). x.aggregates) r;
          top = ap (λ (x : Judged). x.top) r;
        }

own_few : (o e : ℕ) → e ≤ 64 → own_words o e ≤ 133
unfolding own_words
own_few o e h = at (eqb o 0)
  where
    at : (b : Bool) → pick b 0 (5 + 2 * e) ≤ 133
    at true = omega arith
    at false = omega arith

pub judged_few : (s : State) (m : List ℕ) (w a p : ℕ) → Fits s m w a p → (w ≤ 300) × (a ≤ 1)
judged_few s m w a p f =
    let h = leb-true (count_of m 0) 16 (and_l _ _ f.few) in
    let r1 = and_r (leb (count_of m 0) 16) _ f.few in
    let i = leb-true (count_of m 1) 64 (and_l _ _ r1) in
    let r2 = and_r (leb (count_of m 1) 64) _ r1 in
    let j = leb-true (count_of m 2) 64 (and_l _ _ r2) in
    let k = leb-true (count_of m 3) 64 (and_r (leb (count_of m 2) 64) _ r2) in
    let o = weighs_few s.stage in
    let e = f.aggregates in
    let q = f.words in
    let n = own_few (weighs s.stage) (count_of m 3) k in
    (omega arith, omega arith)

-- ---- after a line

pub next_yes : (u v : Totals) → v ≡ u → in_range v ≡ true → Ok (Some v) ≡ next_of u
next_yes u v e f = sym (ap (λ (b : Bool). pick b (Ok (Some v)) (Err fault.Beyond)) f) ∙ ap next_of e

pub next_no : (u v : Totals) → v ≡ u → in_range v ≡ false → Err fault.Beyond ≡ next_of u
next_no u v e f = sym (ap (λ (b : Bool). pick b (Ok (Some v)) (Err fault.Beyond)) f) ∙ ap next_of e

module _ (t : Totals) (line : List ℕ) where
  pub after_kind_lem : (k : Kind) → kind_of (runs line) ≡ k → after_line t line ≡ after_kind t line k
  unfolding after_line
  after_kind_lem k e = ap (after_kind t line) e

  pub after_rule_lem : (r : Judged) → kind_of (runs line) ≡ kind.Other → judged_line line ≡ Ok r → after_line t line ≡ next_of (with_rule t r.words r.aggregates r.top)
  after_rule_lem r e f = after_kind_lem kind.Other e ∙ ap (after_rule t) f

  pub after_fault : (f : Fault) → kind_of (runs line) ≡ kind.Other → judged_line line ≡ Err f → after_line t line ≡ Err f
  after_fault f e g = after_kind_lem kind.Other e ∙ ap (after_rule t) g

  pub line_rule : (w a p : ℕ) → judged_line line ≡ rule_of w a p → Fits (state_of line) (marks_of line) w a p
  unfolding judged_line
  line_rule w a p e = judged_rule (state_of line) (marks_of line) w a p e

  pub line_few : (w a p : ℕ) → judged_line line ≡ rule_of w a p → (w ≤ 300) × (a ≤ 1)
  line_few w a p e = judged_few (state_of line) (marks_of line) w a p (line_rule w a p e)

  -- a table that goes on fits
  next_fits : (u v : Totals) → u.top ≤ 256 → next_of u ≡ Ok (Some v) → Fitting v
  next_fits u v h = at (in_range u) refl
    where
      at : (b : Bool) → in_range u ≡ b → pick b (Ok (Some u)) (Err fault.Beyond) ≡ Ok (Some v) → Fitting v
      at false e q = absurd (let z : ◌≡◌ {A = ℕ} 0 1 = cc in omega arith)
      at true e q =
          let g : u ≡ v = cc in
          let r = and_r (leb u.aggregates 64) _ e in
          let f : Fitting u = record {
            words = leb-true u.words 16384 (and_r (leb u.rules 1024) _ r);
            aggregates = leb-true u.aggregates 64 (and_l _ _ e);
            rules = leb-true u.rules 1024 (and_l _ _ r);
            top = h;
          } in
          subst Fitting g f

  pub after_fits : (v : Totals) → Fitting t → after_line t line ≡ Ok (Some v) → Fitting v
  after_fits v f q = by (kind_of (runs line)) refl
    where
      rule : (j : Result Judged Fault) → judged_line line ≡ j → after_rule t j ≡ Ok (Some v) → Fitting v
      rule (Ok r) e q =
          let l = (line_rule r.words r.aggregates r.top e).top in
          let h = top_low line in
          let g = f.top in
          next_fits (with_rule t r.words r.aggregates r.top) v (omega arith) q
      rule (Err w) e q = absurd (let z : ◌≡◌ {A = ℕ} 0 1 = cc in omega arith)

      by : (k : Kind) → kind_of (runs line) ≡ k → Fitting v
      by kind.Closing e = absurd (let r = after_kind_lem kind.Closing e in let z : ◌≡◌ {A = ℕ} 0 1 = cc in omega arith)
      by kind.Comment e = let r = after_kind_lem kind.Comment e in let g : t ≡ v = cc in subst Fitting g f
      by kind.Other e = rule (judged_line line) refl (sym (after_kind_lem kind.Other e) ∙ q)

module _ (k : ℕ) (t : Totals) (l : List ℕ) (ls : List (List ℕ)) where
  pub survey_next : (v : Totals) → after_line t l ≡ Ok (Some v) → survey_from k t (l ∷ ls) ≡ survey_from (suc k) v ls
  unfolding survey_from
  survey_next v e = rw (e, survey_from)

  pub survey_closing : after_line t l ≡ Ok None → survey_from k t (l ∷ ls) ≡ closed_of (suc k) t ls
  unfolding survey_from
  survey_closing e = rw (e, survey_from)

  pub survey_fault : (f : Fault) → after_line t l ≡ Err f → survey_from k t (l ∷ ls) ≡ Err (refusal_of f k)
  unfolding survey_from
  survey_fault f e = rw (e, survey_from)

pub survey_none : (k : ℕ) (t : Totals) → survey_from k t [] ≡ Err (OutsideSubset k)
unfolding survey_from
survey_none k t = refl

-- ---- what a line adds to a section

module _ (rules : Bool) (before : ℕ) (line : List ℕ) where
  pub statement_rule : (o : ℕ) (s : State) (m : List ℕ) → rules ≡ true → s ≡ state_of line → m ≡ marks_of line → o ≡ weighs s.stage
      → rule_words o before m ≡ statement_words rules before line
  unfolding statement_words
  statement_rule o s m r e f g = rw (r, g, e, f)

  pub statement_none : (o : ℕ) (s : State) → rules ≡ false → s ≡ state_of line → o ≡ weighs s.stage → o ≡ 0 → [] ≡ statement_words rules before line
  unfolding statement_words
  statement_none o s r e g z =
      let q : weighs (state_of line).stage ≡ 0 = ap (λ (x : State). weighs x.stage) (sym e) ∙ sym g ∙ z in
      rw (r, q)

  pub statement_aggregate : (o : ℕ) (s : State) (m : List ℕ) → rules ≡ false → s ≡ state_of line → m ≡ marks_of line → o ≡ weighs s.stage → (o ≡ 0 → ⊥)
      → aggregate_words s.bound m ≡ statement_words rules before line
  unfolding statement_words
  statement_aggregate o s m r e f g z =
      let q : eqb (weighs (state_of line).stage) 0 ≡ false = ne_eqb _ 0 (λ h. z (g ∙ ap (λ (x : State). weighs x.stage) e ∙ h)) in
      rw (r, q, e, f)

  pub weighed_as : (o : ℕ) (s : State) → s ≡ state_of line → o ≡ weighs s.stage → o ≡ weighed_line line
  unfolding weighed_line
  weighed_as o s e g = g ∙ ap (λ (x : State). weighs x.stage) e

  pub words_kind : (k : Kind) → kind_of (runs line) ≡ k → line_words rules before line ≡ kind_words rules before line k
  unfolding line_words
  words_kind k e = ap (kind_words rules before line) e

pub aggregates_kind : (line : List ℕ) (k : Kind) → kind_of (runs line) ≡ k → line_aggregates line ≡ kind_aggregates line k
unfolding line_aggregates
aggregates_kind line k e = ap (kind_aggregates line) e
