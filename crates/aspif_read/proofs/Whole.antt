-- The first pass agrees with `read_text`, and the words that the other passes write are those of what was read. Assumes nothing.
use mathlib.Core.Path.{◌≡◌, refl, sym, ap, ap₂, ◌∙◌, subst}
use mathlib.Core.Bool.{Bool, true, false, ◌&&◌}
use mathlib.Core.List.{List, [], ◌∷◌, ◌++◌, append_assoc}
use mathlib.Core.Option.{Option, some, none}
use Prim.Native.Nat.{ℕ, suc, ◌+◌, ◌≤◌}
use native.Mathlib.Omega.{arith}
use lib.Dec.{leb}
use lib.IntN.{ℤ, pos}
use lib.ListN.{length, length-append}
use Rattle.std.specs.Prelude as R
use Rattle.std.specs.Prelude.{Result, Ok, Err}
use Rattle.results.specs.declared.Refusal.{Refusal}
use Rattle.results.specs.declared.Refusal.TheVariants.{OutsideSubset, BeyondRange}
use Rattle.meaning.specs.Foundedness.{same_list}
use Rattle.meaning.specs.Program.{Aggregate}
use Rattle.table.specs.Contents.{NumberedRule, Each, encode, encode_all, encode_aggregate, encode_rule}
use Rattle.text.specs.Text.{pick, runs}
use Rattle.text.proofs.Callers.{runs_few}
use Rattle.aspif.specs.Statements.{Body, normal, weight, Statement}
use Rattle.aspif.specs.Reading.{named, highest, all_named, sorted, body_aggregates, aggregates_of, read_rule, read_rules, read}
use Rattle.aspif.specs.Lines.{Raw, Line, closing, comment, rule, outside, form_in, is_nil, numbers_of, parsed, parsed_line, fields_line, line_of, table_ranges, in_ranges, ranged_as, ranged, Outcome, accepted, refused14, refused15, closed, read_lines}
use Rattle.aspif.proofs.Accepted.{lines_closing, lines_comment, lines_outside, lines_rule, lines_beyond}
use Rattle.aspif.proofs.Back.{aggregates_append, rules_append, all_length, encode_length}
use Rattle.aspif_scan.specs.declared.kind.Kind.TheVariants as kind
use Rattle.aspif_scan.specs.Scan.{kind_of, numbers_in}
use Rattle.aspif_read.specs.declared.judge.Judged.{Judged}
use Rattle.aspif_read.specs.declared.judge.Fault.{Fault}
use Rattle.aspif_read.specs.declared.judge.Fault.TheVariants as fault
use Rattle.aspif_read.specs.declared.survey.Totals.{Totals}
use Rattle.aspif_read.specs.Survey.{is_whole, state_of, marks_of, rule_of, judged_of, judged_line, with_rule, in_range, next_of, after_line, closed_of, survey_from}
use Rattle.aspif_read.proofs.Laws.{after_kind_lem, after_rule_lem, after_fault, survey_next, survey_closing, survey_fault}
use Rattle.aspif_read.proofs.Leaves.{Agree}
use Rattle.aspif_read.proofs.Parsing.{AgreeFields, fields_agree}
use Rattle.aspif_read.proofs.Judging.{own_ranges, rule_length, own_length, highest_append, Judges, form_judged}

-- ---- the kind of a line

-- a line by its kind
pub data By (fs : List (List ℕ)) : Type 0 where
  ends : kind_of fs ≡ kind.Closing → fields_line fs ≡ closing → By fs
  says : kind_of fs ≡ kind.Comment → fields_line fs ≡ comment → By fs
  reads : kind_of fs ≡ kind.Other → fields_line fs ≡ parsed_line (numbers_of fs) → By fs

pub line_by : (fs : List (List ℕ)) → By fs
unfolding fields_line
line_by [] = reads refl (unfold parsed in refl)
line_by (f ∷ fs) = at (same_list f (48 ∷ []) && is_nil fs) refl (same_list f (49 ∷ 48 ∷ [])) refl
  where
    at : (a : Bool) → (same_list f (48 ∷ []) && is_nil fs) ≡ a → (b : Bool) → same_list f (49 ∷ 48 ∷ []) ≡ b → By (f ∷ fs)
    at true e b g = ends (rw e) (unfold fields_line in rw e)
    at false e true g = says (rw (e, g)) (unfold fields_line in rw (e, g))
    at false e false g = reads (rw (e, g)) (unfold fields_line in rw (e, g))

-- ---- the table so far, of statements

abbrev pub totals_of : List Statement → Totals
totals_of ss = record { words = length (encode (read ss)); aggregates = length (aggregates_of ss); rules = length ss; top = highest (all_named ss) }

totals_eq : (a a' b b' c c' d d' : ℕ) → a ≡ a' → b ≡ b' → c ≡ c' → d ≡ d'
    → ◌≡◌ {A = Totals} (record { words = a; aggregates = b; rules = c; top = d }) (record { words = a'; aggregates = b'; rules = c'; top = d' })
totals_eq a a' b b' c c' d d' e f g h = rw (e, f, g, h)

named_append : (ss ts : List Statement) → all_named (ss ++ ts) ≡ all_named ss ++ all_named ts
named_append [] ts = refl
named_append (s ∷ ss) ts = ap (λ (l : List ℕ). named s ++ l) (named_append ss ts) ∙ sym (append_assoc (named s) (all_named ss) (all_named ts))

rule_size : (k : ℕ) (h : List ℕ) (b : Body) → length (encode_rule (read_rule k h b)) ≡ length (encode_rule (read_rule 0 h b))
rule_size k h (normal l) = refl
rule_size k h (weight b es) = rule_length (sorted h) [] [] (pos (suc k) ∷ []) ∙ sym (rule_length (sorted h) [] [] (pos 1 ∷ []))

module _ (ss : List Statement) (s : Statement) where
  words_next : length (encode (read (ss ++ (s ∷ [])))) ≡ length (encode (read ss)) + own_length s
  unfolding read
  words_next =
      let k = 0 + length (aggregates_of ss) in
      let a = encode_length (read (ss ++ (s ∷ []))) in
      let b = encode_length (read ss) in
      let c = ap (λ (l : List Aggregate). length (encode_all encode_aggregate l)) (aggregates_append ss (s ∷ [])) ∙ all_length encode_aggregate (aggregates_of ss) (aggregates_of (s ∷ [])) in
      let d = ap (λ (l : List NumberedRule). length (encode_all encode_rule l)) (rules_append ss (s ∷ []) 0) ∙ all_length encode_rule (read_rules 0 ss) (read_rules k (s ∷ [])) in
      let e = all_length encode_aggregate (body_aggregates s.body) [] in
      let f = length-append (encode_rule (read_rule k s.head s.body)) [] in
      let g = rule_size k s.head s.body in
      omega arith

  pub totals_next : with_rule (totals_of ss) (own_length s) (length (body_aggregates s.body)) (highest (named s)) ≡ totals_of (ss ++ (s ∷ []))
  totals_next =
      let a = ap (λ (l : List Aggregate). length l) (aggregates_append ss (s ∷ [])) in
      let b = length-append (aggregates_of ss) (aggregates_of (s ∷ [])) in
      let c = length-append (body_aggregates s.body) [] in
      let d = length-append ss (s ∷ []) in
      let e = ap highest (named_append ss (s ∷ [])) ∙ highest_append (all_named ss) (all_named (s ∷ [])) in
      let f = highest_append (named s) [] in
      totals_eq _ _ _ _ _ _ _ _ (sym words_next) (omega arith) (omega arith) (omega arith)

range_is : (us : List Statement) → in_range (totals_of us) ≡ table_ranges us
range_is us = assoc (leb (length (aggregates_of us)) 64) (leb (length us) 1024) (leb (length (encode (read us))) 16384)
  where
    assoc : (x y z : Bool) → (x && (y && z)) ≡ (x && y && z)
    assoc true y z = refl
    assoc false y z = refl

-- ---- one line

abbrev StepsRule : List Statement → Option Statement → Result (R.Option Totals) Fault → Type 0
StepsRule ss (some s) t = t ≡ Ok (R.Some (totals_of (ss ++ (s ∷ []))))
StepsRule ss none t = t ≡ Err fault.Beyond

abbrev StepsAs : List Statement → Line → Result (R.Option Totals) Fault → Type 0
StepsAs ss closing t = t ≡ Ok R.None
StepsAs ss comment t = t ≡ Ok (R.Some (totals_of ss))
StepsAs ss (rule r) t = StepsRule ss (ranged ss r) t
StepsAs ss outside t = t ≡ Err fault.Outside

pub ranges_split : (ss : List Statement) (s : Statement) → in_ranges ss s ≡ (own_ranges s && table_ranges (ss ++ (s ∷ [])))
unfolding in_ranges
ranges_split ss s = refl

module _ (ss : List Statement) (l : List ℕ) (short : length l ≤ 18446744073709551615) where
  judged_outside : is_whole (state_of l).stage ≡ false → judged_line l ≡ Err fault.Outside
  unfolding judged_line judged_of
  judged_outside e = rw e

  judged_as : judged_of (state_of l) (marks_of l) ≡ judged_line l
  unfolding judged_line
  judged_as = refl

  pub agreed : AgreeFields (numbers_of (runs l)) (state_of l) (marks_of l)
  unfolding numbers_in
  agreed = let f = runs_few [] l in fields_agree (runs l) (omega arith)

  rule_step : (h : List ℕ) (o : Option Body) → kind_of (runs l) ≡ kind.Other → Judges h o (judged_line l) → StepsRule ss (ranged_as ss h o) (after_line (totals_of ss) l)
  rule_step h none e j = after_fault (totals_of ss) l fault.Beyond e j
  rule_step h (some b) e j = at (own_ranges s) refl (table_ranges (ss ++ (s ∷ []))) refl
    where
      s : Statement
      s = record { head = h; body = b }

      at : (x : Bool) → own_ranges (record { head = h; body = b }) ≡ x → (y : Bool) → table_ranges (ss ++ ((record { head = h; body = b }) ∷ [])) ≡ y
          → StepsRule ss (pick (in_ranges ss (record { head = h; body = b })) (some (record { head = h; body = b })) none) (after_line (totals_of ss) l)
      at false f y g =
          let st : Statement = record { head = h; body = b } in
          let q : in_ranges ss st ≡ false = ranges_split ss st ∙ ap (λ (t : Bool). t && table_ranges (ss ++ (st ∷ []))) f in
          let d : judged_line l ≡ Err fault.Beyond = j ∙ (rw f) in
          rw q (after_fault (totals_of ss) l fault.Beyond e d)
      at true f y g =
          let st : Statement = record { head = h; body = b } in
          let d : judged_line l ≡ rule_of (own_length st) (length (body_aggregates b)) (highest (named st)) = j ∙ (rw f) in
          let n = after_rule_lem (totals_of ss) l _ e d ∙ ap next_of (totals_next ss st) in
          let q : in_ranges ss st ≡ y = ranges_split ss st ∙ ap₂ (λ (t u : Bool). t && u) f g in
          last y (range_is (ss ++ (st ∷ [])) ∙ g) n q
        where
          last : (y : Bool) → in_range (totals_of (ss ++ ((record { head = h; body = b }) ∷ []))) ≡ y → after_line (totals_of ss) l ≡ next_of (totals_of (ss ++ ((record { head = h; body = b }) ∷ [])))
              → in_ranges ss (record { head = h; body = b }) ≡ y
              → StepsRule ss (pick (in_ranges ss (record { head = h; body = b })) (some (record { head = h; body = b })) none) (after_line (totals_of ss) l)
          last true r n q = rw q (n ∙ (rw r))
          last false r n q = rw q (n ∙ (rw r))

  fields_step : (o : Option (List ℤ)) → kind_of (runs l) ≡ kind.Other → AgreeFields o (state_of l) (marks_of l) → StepsAs ss (parsed_line o) (after_line (totals_of ss) l)
  fields_step none e g = after_fault (totals_of ss) l fault.Outside e (judged_outside g)
  fields_step (some zs) e g = at (parsed zs) refl
    where
      at : (o : Option Raw) → parsed zs ≡ o → StepsAs ss (parsed_line (some zs)) (after_line (totals_of ss) l)
      at none f =
          let w : is_whole (state_of l).stage ≡ false = subst (λ (p : Option Raw). Agree p (state_of l) (marks_of l)) f g in
          let q : parsed_line (some zs) ≡ outside = rw (f, parsed_line) in
          subst (λ (x : Line). StepsAs ss x (after_line (totals_of ss) l)) (sym q) (after_fault (totals_of ss) l fault.Outside e (judged_outside w))
      at (some r) f =
          let w : Agree (some r) (state_of l) (marks_of l) = subst (λ (p : Option Raw). Agree p (state_of l) (marks_of l)) f g in
          let q : parsed_line (some zs) ≡ rule r = rw (f, parsed_line) in
          let j = form_judged r.head r.form (state_of l) (marks_of l) w.0 w.1 w.2 in
          let j' : Judges r.head (form_in r.form) (judged_line l) = subst (λ (x : Result Judged Fault). Judges r.head (form_in r.form) x) judged_as j in
          subst (λ (x : Line). StepsAs ss x (after_line (totals_of ss) l)) (sym q) (ranged_step r (rule_step r.head (form_in r.form) e j'))
        where
          ranged_step : (r : Raw) → StepsRule ss (ranged_as ss r.head (form_in r.form)) (after_line (totals_of ss) l) → StepsRule ss (ranged ss r) (after_line (totals_of ss) l)
          ranged_step r x = unfold ranged in x

  line_steps : StepsAs ss (line_of l) (after_line (totals_of ss) l)
  line_steps = at (line_by (runs l))
    where
      at : By (runs l) → StepsAs ss (fields_line (runs l)) (after_line (totals_of ss) l)
      at (ends e f) = subst (λ (x : Line). StepsAs ss x (after_line (totals_of ss) l)) (sym f) (after_kind_lem (totals_of ss) l kind.Closing e)
      at (says e f) = subst (λ (x : Line). StepsAs ss x (after_line (totals_of ss) l)) (sym f) (after_kind_lem (totals_of ss) l kind.Comment e)
      at (reads e f) = subst (λ (x : Line). StepsAs ss x (after_line (totals_of ss) l)) (sym f) (fields_step (numbers_of (runs l)) e agreed)

-- ---- all lines

abbrev pub surveyed : Outcome → Result Totals Refusal
surveyed (accepted us) = Ok (totals_of us)
surveyed (refused14 k) = Err (OutsideSubset k)
surveyed (refused15 k) = Err (BeyondRange k)

abbrev pub Short : List (List ℕ) → Type 0
Short ls = Each (λ (l : List ℕ). length l ≤ 18446744073709551615) ls

closed_agree : (k : ℕ) (ss : List Statement) (ls : List (List ℕ)) → closed_of k (totals_of ss) ls ≡ surveyed (closed k ss ls)
closed_agree k ss [] = refl
closed_agree k ss (l ∷ ls) = refl

none_agree : (k : ℕ) (ss : List Statement) → survey_from k (totals_of ss) [] ≡ surveyed (read_lines k ss [])
unfolding read_lines survey_from
none_agree k ss = refl

pub survey_agree : (ls : List (List ℕ)) (k : ℕ) (ss : List Statement) → Short ls → survey_from k (totals_of ss) ls ≡ surveyed (read_lines k ss ls)
survey_agree [] k ss u = none_agree k ss
survey_agree (l ∷ ls) k ss u = at (line_of l) refl (line_steps ss l u.0) (λ ts. survey_agree ls (suc k) ts u.1)
  where
    at : (x : Line) → line_of l ≡ x → StepsAs ss x (after_line (totals_of ss) l) → ((ts : List Statement) → survey_from (suc k) (totals_of ts) ls ≡ surveyed (read_lines (suc k) ts ls))
        → survey_from k (totals_of ss) (l ∷ ls) ≡ surveyed (read_lines k ss (l ∷ ls))
    at closing e s r = survey_closing k (totals_of ss) l ls s ∙ closed_agree (suc k) ss ls ∙ sym (ap surveyed (lines_closing k ss l ls e))
    at comment e s r = survey_next k (totals_of ss) l ls (totals_of ss) s ∙ r ss ∙ sym (ap surveyed (lines_comment k ss l ls e))
    at (rule w) e s r = two (ranged ss w) refl s
      where
        two : (o : Option Statement) → ranged ss w ≡ o → StepsRule ss o (after_line (totals_of ss) l) → survey_from k (totals_of ss) (l ∷ ls) ≡ surveyed (read_lines k ss (l ∷ ls))
        two none f t = survey_fault k (totals_of ss) l ls fault.Beyond t ∙ sym (ap surveyed (lines_beyond k ss l ls w e f))
        two (some q) f t = survey_next k (totals_of ss) l ls (totals_of (ss ++ (q ∷ []))) t ∙ r (ss ++ (q ∷ [])) ∙ sym (ap surveyed (lines_rule k ss l ls w q e f))
    at outside e s r = survey_fault k (totals_of ss) l ls fault.Outside s ∙ sym (ap surveyed (lines_outside k ss l ls e))
