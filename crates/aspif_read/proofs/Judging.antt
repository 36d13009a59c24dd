-- A line is judged as `Lines` has it: outside, beyond the ranges, or a rule whose words, aggregates and highest atom are those of its statement.
-- Assumes nothing.
use mathlib.Core.Path.{◌≡◌, refl, sym, ap, ap₂, ◌∙◌, subst}
use mathlib.Core.Bool.{Bool, true, false, ◌&&◌}
use mathlib.Core.List.Memᴰ
use mathlib.Core.List.{List, [], ◌∷◌, ◌++◌, map}
use mathlib.Core.Option.{Option, some, none}
use Prim.Native.Nat.{ℕ, ◌+◌, ◌*◌, ◌≤◌, max}
use native.Mathlib.Omega.{arith}
use borrow.Author.Tests.{le-ltb, ltb-true, ltb-false, le-leb}
use lib.Dec.{leb, ltb}
use lib.IntN.{ℤ, pos, negsuc, pred_ℤ}
use lib.ListN.{length, length-append, length-map}
use Rattle.std.specs.Prelude.{Result, Err}
use Rattle.meaning.specs.Lists.{Is, ◌∈◌, all}
use Rattle.meaning.specs.Program.{Element, Aggregate}
use Rattle.meaning.specs.declared.Function.TheVariants.{Sum}
use Rattle.meaning.specs.declared.Comparison.TheVariants.{Greater}
use Rattle.meaning.specs.Cycles.{inside}
use Rattle.meaning.proofs.Tools.{both, and_i, and_l, and_r, all_at, all_i}
use Rattle.table.specs.Contents.{encode_elements, encode_all, encode_aggregate, encode_rule}
use Rattle.table.specs.Roles.{within}
use Rattle.text.specs.Text.{pick}
use Rattle.aspif.specs.Statements.{Signed, Body, normal, weight, Statement, positives, negateds}
use Rattle.aspif.specs.Reading.{atoms_of, named, highest, sorted, merged, body_aggregates, read_rule}
use Rattle.aspif.specs.Lines.{Weighed, Form, plain, weighed, weights_in, weighed_in, form_in, body_ranges}
use Rattle.aspif_scan.specs.declared.machine.State.{State}
use Rattle.aspif_scan.specs.Machine.{higher_of}
use Rattle.aspif_scan.specs.Marks.{row_from, light_from}
use Rattle.aspif_read.specs.declared.judge.Judged.{Judged}
use Rattle.aspif_read.specs.declared.judge.Fault.{Fault}
use Rattle.aspif_read.specs.declared.judge.Fault.TheVariants as fault
use Rattle.aspif_read.specs.Survey.{is_whole, weighs, count_of, few_of, own_words, words_of, rule_of, judged_of}
use Rattle.aspif_read.proofs.Leaves.{cap, capped, top_all, within_all, atoms_in, pair_atoms, fine, EndsBy, LowAll, form_atoms}
use Rattle.aspif_read.proofs.ReadOut.{merged_sorted, sorted_none}
use Rattle.aspif_read.proofs.StatementRows.{plain_marks, plain_head_lem, plain_positive, plain_negated, plain_elements, plain_light, weights_cons, pair_atoms_of, weigh_marks, weigh_head, weigh_positive, weigh_negated, light_sizes, weigh_elements, weigh_light}
use Rattle.aspif_read.proofs.Ranges.{within_all_lem, all_fine, within_pairs_lem, negative_weight, bound_of_lem}

-- ---- a statement's own ranges

abbrev pub own_ranges : Statement → Bool
own_ranges s = all (inside 256) (named s) && leb (length (sorted s.head)) 16 && body_ranges s.body

-- the test of the code
abbrev tested : State → List ℕ → Bool
tested s m = s.within && (few_of m && light_from m 1024 256)

all_append : (f : ℕ → Bool) (a b : List ℕ) → all f (a ++ b) ≡ (all f a && all f b)
all_append f [] b = refl
all_append f (x ∷ a) b = ap (λ (t : Bool). f x && t) (all_append f a b) ∙ sym (assoc (f x) (all f a) (all f b))
  where
    assoc : (x y z : Bool) → (x && y && z) ≡ (x && (y && z))
    assoc true y z = refl
    assoc false y z = refl

atoms_map : (l : List Signed) → map (λ (x : Signed). x.atom) l ≡ atoms_in l
atoms_map [] = refl
atoms_map (x ∷ l) = ap (λ (k : List ℕ). x.atom ∷ k) (atoms_map l)

inside_e : (p : ℕ) → Is (inside 256 p) → (1 ≤ p) × (p ≤ 256)
inside_e p i =
    let a = ltb-true 0 p (and_l (ltb 0 p) (ltb p 257) i) in
    let b = ltb-true p 257 (and_r (ltb 0 p) (ltb p 257) i) in
    (omega arith, omega arith)

pair_member : (l : List Weighed) (x : Weighed) → x ∈ l → x.atom ∈ pair_atoms l
pair_member (y ∷ l) x (Memᴰ.head e) = Memᴰ.head (ap (λ (z : Weighed). z.atom) e)
pair_member [] x x3 = elim x3 [ ]
pair_member (y ∷ l) x (Memᴰ.tail i) = Memᴰ.tail (pair_member l x i)

member_weight : (l : List Weighed) (es : List Element) → weights_in l ≡ some es → (x : Weighed) → x ∈ l → (v : ℕ) × (x.weight ≡ pos v)
member_weight (y ∷ l) es e x (Memᴰ.head f) = let t = weights_cons y l es e in (t.0, ap (λ (z : Weighed). z.weight) f ∙ t.2)
member_weight [] es e x x4 = elim x4 [ ]
member_weight (y ∷ l) es e x (Memᴰ.tail i) = let t = weights_cons y l es e in member_weight l t.1 t.3 x i

fine_at : (z : ℤ) (v : ℕ) → z ≡ pos v → (capped z).size ≤ 65535 → Is (fine 65535 z)
fine_at z v e h = ap (fine 65535) e ∙ le-leb (cap v) 65535 (subst (λ (y : ℤ). (capped y).size ≤ 65535) e h)

few_of_lem : (m h p n e : List ℕ) → row_from m 0 1 256 ≡ h → row_from m 256 1 256 ≡ p → row_from m 512 1 256 ≡ n → row_from m 768 1 256 ≡ e
    → few_of m ≡ (leb (length h) 16 && (leb (length p) 64 && (leb (length n) 64 && leb (length e) 64)))
few_of_lem m h p n e a b c d = rw (a, b, c, d)

module _ (h : List ℕ) (l : List Signed) (u : LowAll h) (v : LowAll (atoms_in l)) (s : State) (m : List ℕ) (g : EndsBy h (plain l) s m) where
  abbrev plainly_said : Statement
  plainly_said = record { head = h; body = normal l }

  plain_bools : (a b c d e : Bool) → (a && b && (c && (d && (e && true)) && true)) ≡ (a && b && c && (d && e))
  plain_bools false b c d e = refl
  plain_bools true false c d e = refl
  plain_bools true true false d e = refl
  plain_bools true true true false e = refl
  plain_bools true true true true true = refl
  plain_bools true true true true false = refl

  plain_within : s.within ≡ (all (inside 256) h && all (inside 256) (atoms_in l))
  plain_within = g.within ∙ within_all_lem (atoms_in l) (within_all true h) v ∙ ap (λ (b : Bool). b && all (inside 256) (atoms_in l)) (within_all_lem h true u)

  plain_test : tested s m ≡ own_ranges plainly_said
  plain_test =
      let f = few_of_lem (plain_marks h l) (sorted h) (sorted (positives l)) (sorted (negateds l)) [] (plain_head_lem h l) (plain_positive h l) (plain_negated h l) (plain_elements h l ∙ sorted_none) in
      let n : all (inside 256) (named plainly_said) ≡ (all (inside 256) h && all (inside 256) (atoms_in l)) = all_append (inside 256) h (map (λ (x : Signed). x.atom) l) ∙ ap (λ (k : List ℕ). all (inside 256) h && all (inside 256) k) (atoms_map l) in
      ap₂ (λ (a : Bool) (k : List ℕ). a && (few_of k && light_from k 1024 256)) plain_within g.marks
      ∙ ap₂ (λ (a b : Bool). all (inside 256) h && all (inside 256) (atoms_in l) && (a && b)) f (plain_light h l)
      ∙ plain_bools (all (inside 256) h) (all (inside 256) (atoms_in l)) (leb (length (sorted h)) 16) (leb (length (sorted (positives l))) 64) (leb (length (sorted (negateds l))) 64)
      ∙ ap (λ (a : Bool). a && leb (length (sorted h)) 16 && (leb (length (sorted (positives l))) 64 && leb (length (sorted (negateds l))) 64)) (sym n)

module _ (h : List ℕ) (b : ℤ) (l : List Weighed) (u : LowAll h) (v : LowAll (pair_atoms l)) (s : State) (m : List ℕ) (g : EndsBy h (weighed b l) s m) where
  weigh_within : s.within ≡ (all (inside 256) h && fine 4194305 b && (all (inside 256) (pair_atoms l) && all_fine l))
  weigh_within = g.within ∙ within_pairs_lem l (within_all true h && fine 4194305 b) v
      ∙ ap (λ (a : Bool). a && fine 4194305 b && (all (inside 256) (pair_atoms l) && all_fine l)) (within_all_lem h true u)

  -- a negative weight
  weigh_none : weights_in l ≡ none → tested s m ≡ false
  weigh_none e = ap (λ (a : Bool). a && (few_of m && light_from m 1024 256)) (weigh_within ∙ ap (λ (a : Bool). all (inside 256) h && fine 4194305 b && (all (inside 256) (pair_atoms l) && a)) (negative_weight l e)
      ∙ falls (all (inside 256) h) (fine 4194305 b) (all (inside 256) (pair_atoms l)))
    where
      falls : (x y z : Bool) → (x && y && (z && false)) ≡ false
      falls false y z = refl
      falls true false z = refl
      falls true true true = refl
      falls true true false = refl

  module _ (es : List Element) (e : weights_in l ≡ some es) where
    abbrev weighed_said : Statement
    weighed_said = record { head = h; body = weight b es }

    weigh_bools : (a b c d f n t : Bool) → (Is c → Is t → Is d) → (a && b && (c && d) && (f && (true && (true && n)) && t)) ≡ (a && c && f && (b && n && t))
    weigh_bools a b c d f n t imp = both _ _
        (λ x.
        let x1 = and_l (a && b && (c && d)) _ x in
        let x2 = and_r (a && b && (c && d)) _ x in
        let ab = and_l (a && b) _ x1 in
        let cd = and_r (a && b) (c && d) x1 in
        let fn = and_l (f && (true && (true && n))) t x2 in
        and_i (and_i (and_i (and_l a b ab) (and_l c d cd)) (and_l f _ fn)) (and_i (and_i (and_r a b ab) (and_r f _ fn)) (and_r (f && (true && (true && n))) t x2)))
        (λ x.
        let x1 = and_l (a && c && f) _ x in
        let x2 = and_r (a && c && f) (b && n && t) x in
        let ac = and_l (a && c) f x1 in
        let bn = and_l (b && n) t x2 in
        let tt' = and_r (b && n) t x2 in
        and_i (and_i (and_i (and_l a c ac) (and_l b n bn)) (and_i (and_r a c ac) (imp (and_r a c ac) tt'))) (and_i (and_i (and_r (a && c) f x1) (and_r b n bn)) tt'))

    sizes_fine : Is (all (inside 256) (pair_atoms l)) → Is (light_from (weigh_marks h l) 1024 256) → Is (all_fine l)
    sizes_fine c t = all_i (λ (x : Weighed). fine 65535 x.weight) l (λ x i.
        let j = inside_e x.atom (all_at (inside 256) (pair_atoms l) c (pair_member l x i)) in
        let w = member_weight l es e x i in
        let z = light_sizes h l t x i j.0 j.1 in
        fine_at x.weight w.0 w.1 z)

    weigh_test : tested s m ≡ own_ranges weighed_said
    weigh_test =
        let f = few_of_lem (weigh_marks h l) (sorted h) [] [] (sorted (atoms_of es)) (weigh_head h l) (weigh_positive h l ∙ sorted_none) (weigh_negated h l ∙ sorted_none) (weigh_elements h l es e) in
        let n : all (inside 256) (named weighed_said) ≡ (all (inside 256) h && all (inside 256) (pair_atoms l)) = all_append (inside 256) h (atoms_of es) ∙ ap (λ (k : List ℕ). all (inside 256) h && all (inside 256) k) (sym (pair_atoms_of l es e)) in
        let N = leb (length (sorted (atoms_of es))) 64 in
        let T = light_from (weigh_marks h l) 1024 256 in
        ap₂ (λ (a : Bool) (k : List ℕ). a && (few_of k && light_from k 1024 256)) weigh_within g.marks
        ∙ ap (λ (a : Bool). all (inside 256) h && fine 4194305 b && (all (inside 256) (pair_atoms l) && all_fine l) && (a && T)) f
        ∙ weigh_bools (all (inside 256) h) (fine 4194305 b) (all (inside 256) (pair_atoms l)) (all_fine l) (leb (length (sorted h)) 16) N T sizes_fine
        ∙ ap₂ (λ (x y : Bool). x && leb (length (sorted h)) 16 && (y && N && T)) (sym n) (bound_of_lem b)
        ∙ ap₂ (λ (x : ℕ) (y : Bool). all (inside 256) (named weighed_said) && leb (length (sorted h)) 16 && (within (negsuc 0) (pos 4194304) (pred_ℤ b) && leb x 64 && y)) (sym (merged_sorted es)) (weigh_light h l es e)

-- ---- lengths

pub rule_length : (h p n : List ℕ) (a : List ℤ) → length (encode_rule (record { head = h; pos = p; neg = n; aggs = a })) ≡ 4 + length h + length p + length n + length a
unfolding encode_rule
rule_length h p n a =
    let x = length-append (map pos h) ((pos (length (map pos p)) ∷ map pos p) ++ ((pos (length (map pos n)) ∷ map pos n) ++ (pos (length a) ∷ a))) in
    let y = length-append (map pos p) ((pos (length (map pos n)) ∷ map pos n) ++ (pos (length a) ∷ a)) in
    let z = length-append (map pos n) (pos (length a) ∷ a) in
    let i = length-map h pos in
    let j = length-map p pos in
    let k = length-map n pos in
    omega arith

elements_length : (es : List Element) → length (encode_elements es) ≡ 2 * length es
elements_length [] = refl
elements_length (e ∷ es) = let r = elements_length es in omega arith

aggregate_length : (a : Aggregate) → length (encode_aggregate a) ≡ 4 + 2 * length a.elements
unfolding encode_aggregate
aggregate_length a = let r = elements_length a.elements in omega arith

-- the words of a statement, and of its aggregate if it has one
abbrev pub own_length : Statement → ℕ
own_length s = length (encode_all encode_aggregate (body_aggregates s.body)) + length (encode_rule (read_rule 0 s.head s.body))

own_none : (n : ℕ) → own_words 0 n ≡ 0
unfolding own_words
own_none n = refl

own_one : (n : ℕ) → own_words 1 n ≡ 5 + 2 * n
unfolding own_words
own_one n = refl

plain_words : (h : List ℕ) (l : List Signed) → words_of 0 (plain_marks h l) ≡ own_length (record { head = h; body = normal l })
plain_words h l =
    let a = ap length (plain_head_lem h l) in
    let b = ap length (plain_positive h l) in
    let c = ap length (plain_negated h l) in
    let d = own_none (count_of (plain_marks h l) 3) in
    let r = rule_length (sorted h) (sorted (positives l)) (sorted (negateds l)) [] in
    omega arith

weigh_words : (h : List ℕ) (b : ℤ) (l : List Weighed) (es : List Element) → weights_in l ≡ some es → words_of 1 (weigh_marks h l) ≡ own_length (record { head = h; body = weight b es })
weigh_words h b l es e =
    let a = ap length (weigh_head h l) in
    let c = ap length (weigh_positive h l ∙ sorted_none) in
    let d = ap length (weigh_negated h l ∙ sorted_none) in
    let f = ap length (weigh_elements h l es e) in
    let k = merged_sorted es in
    let o = own_one (count_of (weigh_marks h l) 3) in
    let r = rule_length (sorted h) [] [] (pos 1 ∷ []) in
    let x = length-append (encode_aggregate (record { function = Sum; comparison = Greater; threshold = pred_ℤ b; elements = merged es })) [] in
    let y = aggregate_length (record { function = Sum; comparison = Greater; threshold = pred_ℤ b; elements = merged es }) in
    omega arith

-- ---- the highest atom

higher_of_lem : (t p : ℕ) → p ≤ 256 → higher_of t (cap p) ≡ max t p
unfolding higher_of
higher_of_lem t p h =
    let e : cap p ≡ p = omega arith in
    rw (e, le-ltb 256 p h) (at (ltb t p) refl)
  where
    at : (b : Bool) → ltb t p ≡ b → pick b p t ≡ max t p
    at true f = let q = ltb-true t p f in omega arith
    at false f = let q = ltb-false t p f in omega arith

top_all_lem : (l : List ℕ) (t : ℕ) → Is (all (inside 256) l) → top_all t l ≡ max t (highest l)
top_all_lem [] t u = omega arith
top_all_lem (p ∷ l) t u =
    let i = inside_e p (and_l (inside 256 p) _ u) in
    let r = top_all_lem l (higher_of t (cap p)) (and_r (inside 256 p) _ u) in
    let k = higher_of_lem t p i.1 in
    omega arith

pub highest_append : (a b : List ℕ) → highest (a ++ b) ≡ max (highest a) (highest b)
highest_append [] b = omega arith
highest_append (p ∷ a) b = let r = highest_append a b in omega arith

top_both : (a b : List ℕ) → Is (all (inside 256) (a ++ b)) → top_all (top_all 0 a) b ≡ highest (a ++ b)
top_both a b u =
    let v = sym (all_append (inside 256) a b) ∙ u in
    let x = top_all_lem a 0 (and_l _ _ v) in
    let y = top_all_lem b (top_all 0 a) (and_r (all (inside 256) a) _ v) in
    let z = highest_append a b in
    omega arith

-- ---- a rule's judgement

judged_by : (s : State) (m : List ℕ) (t : Bool) → is_whole s.stage ≡ true → tested s m ≡ t
    → judged_of s m ≡ pick t (rule_of (words_of (weighs s.stage) m) (weighs s.stage) s.top) (Err fault.Beyond)
unfolding judged_of
judged_by s m true e f = rw (e, f)
judged_by s m false e f = rw (e, f)

-- what the code says of a rule with this head and body
abbrev pub Judges : List ℕ → Option Body → Result Judged Fault → Type 0
Judges h none j = j ≡ Err fault.Beyond
Judges h (some b) j =
    j ≡ pick (own_ranges (record { head = h; body = b })) (rule_of (own_length (record { head = h; body = b })) (length (body_aggregates b)) (highest (named (record { head = h; body = b })))) (Err fault.Beyond)

same_rule : (t : Bool) (w w' a a' p p' : ℕ) → w ≡ w' → a ≡ a' → (Is t → p ≡ p') → pick t (rule_of w a p) (Err fault.Beyond) ≡ pick t (rule_of w' a' p') (Err fault.Beyond)
same_rule true w w' a a' p p' e f g = rw (e, f, g refl)
same_rule false w w' a a' p p' e f g = refl

pub form_judged : (h : List ℕ) (f : Form) (s : State) (m : List ℕ) → EndsBy h f s m → LowAll h → LowAll (form_atoms f) → Judges h (form_in f) (judged_of s m)
form_judged h (plain l) s m g u v =
    let st : Statement = record { head = h; body = normal l } in
    judged_by s m (own_ranges st) (ap is_whole g.stage) (plain_test h l u v s m g)
    ∙ same_rule (own_ranges st) _ _ _ _ _ _ (ap₂ (λ (o : ℕ) (k : List ℕ). words_of o k) (ap weighs g.stage) g.marks ∙ plain_words h l) (ap weighs g.stage)
    (λ t. g.top ∙ ap (top_all (top_all 0 h)) (sym (atoms_map l)) ∙ top_both h (map (λ (x : Signed). x.atom) l) (and_l _ _ (and_l _ _ t)))
form_judged h (weighed b l) s m g u v = at (weights_in l) refl
  where
    at : (o : Option (List Element)) → weights_in l ≡ o → Judges h (weighed_in b o) (judged_of s m)
    at none e = judged_by s m false (ap is_whole g.stage) (weigh_none h b l u v s m g e)
    at (some es) e =
        let st : Statement = record { head = h; body = weight b es } in
        judged_by s m (own_ranges st) (ap is_whole g.stage) (weigh_test h b l u v s m g es e)
        ∙ same_rule (own_ranges st) _ _ _ _ _ _ (ap₂ (λ (o : ℕ) (k : List ℕ). words_of o k) (ap weighs g.stage) g.marks ∙ weigh_words h b l es e) (ap weighs g.stage)
        (λ t. g.top ∙ ap (top_all (top_all 0 h)) (pair_atoms_of l es e) ∙ top_both h (atoms_of es) (and_l _ _ (and_l _ _ t)))
