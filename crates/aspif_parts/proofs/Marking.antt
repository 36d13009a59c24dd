-- The marks of the literals in use: each function's laws, and what the marks say. Assumes nothing.
use mathlib.Core.Path.{◌≡◌, refl, sym, ap, ◌∙◌}
use mathlib.Core.Logic.{◌⊎◌, inl, inr}
use mathlib.Core.Bool.{Bool, true, false, ◌||◌}
use mathlib.Core.List.{List, [], ◌∷◌, ◌++◌, append-nil}
use Prim.Native.Nat.{ℕ, zero, suc, ◌+◌, ◌-◌, ◌*◌, ◌≤◌, ◌<◌}
use native.Mathlib.Numerals.{add-one}
use native.Mathlib.Omega.{arith}
use lib.IntN.{ℤ, pos, negsuc, nat_abs}
use lib.Signed.{non_neg}
use lib.ListN.{length, get_or, take, drop, set, replicate, length-set, drop_of_length-le, get_or-replicate}
use lib.Seq.{drop-cons, take-suc-set, drop-set-lt, take_all, append_snoc, get_or-set_same, get_or-set_other}
use Rattle.meaning.specs.Lists.{Is, any}
use Rattle.meaning.proofs.Tools.{cases, clash, eq, eq_i}
use Rattle.layout.specs.Layout.{Members, part_at, aggs_at, past_rule, RulesLie}
use Rattle.layout.proofs.Rounds.{members_wide}
use Rattle.table.specs.Contents.{NumberedRule}
use Rattle.aspif.specs.Writing.{same_number, uses}
use Rattle.aspif_parts.specs.Held.{numbered_at, numbered_from}
use Rattle.aspif_parts.specs.Uses.{sign_place, place_of, mark_all, mark_rules, atom_by, next_by, numbered_by}
use Rattle.aspif_parts.specs.Parts.{bit_of}
use Rattle.aspif_parts.proofs.Held.{numbered_on, numbered_none, numbered_aggs}

-- ---- places

pub place_low : (w : ℤ) → 1 ≤ nat_abs w → nat_abs w ≤ 64 → place_of w < 128
unfolding place_of
place_low w h k = at (non_neg w)
  where
    at : (b : Bool) → 2 * (nat_abs w - 1) + sign_place b < 128
    at true = omega arith
    at false = omega arith

pub place_plain : (w : ℤ) (n : ℕ) → n ≡ nat_abs w → non_neg w ≡ true → 2 * (n - 1) ≡ place_of w
unfolding place_of
place_plain w n e h = rw (h, e) (omega arith)

pub place_negated : (w : ℤ) (n : ℕ) → n ≡ nat_abs w → non_neg w ≡ false → 2 * (n - 1) + 1 ≡ place_of w
unfolding place_of
place_negated w n e h = rw (h, e) refl

same_place : (v w : ℤ) → Is (same_number v w) → place_of v ≡ place_of w
unfolding place_of
same_place (ℤ.pos a) (ℤ.pos b) h = ap (λ (n : ℕ). 2 * (n - 1) + 0) (eq a b h)
same_place (ℤ.pos a) (negsuc b) h = absurd (clash h refl)
same_place (negsuc a) (ℤ.pos b) h = absurd (clash h refl)
same_place (negsuc a) (negsuc b) h = ap (λ (n : ℕ). 2 * (n - 1) + 1) (eq (suc a) (suc b) h)

place_same : (v w : ℤ) → 1 ≤ nat_abs v → 1 ≤ nat_abs w → place_of v ≡ place_of w → Is (same_number v w)
unfolding place_of
place_same (ℤ.pos a) (ℤ.pos b) h k e = eq_i {m = a} {n = b} (omega arith)
place_same (ℤ.pos a) (negsuc b) h k e = absurd (omega arith)
place_same (negsuc a) (ℤ.pos b) h k e = absurd (omega arith)
place_same (negsuc a) (negsuc b) h k e = eq_i {m = suc a} {n = suc b} (omega arith)

-- ---- the marks of a list

pub mark_on : (ms : List ℕ) (l : List ℤ) (i : ℕ) → i < length l → mark_all ms (drop i l) ≡ mark_all (set ms (place_of (get_or l i (pos 0))) 1) (drop (i + 1) l)
unfolding mark_all
mark_on ms l i h = rw (drop-cons l i (pos 0) h, add-one) refl

mark_nil : (ms : List ℕ) → mark_all ms [] ≡ ms
unfolding mark_all
mark_nil ms = refl

pub mark_none : (ms : List ℕ) (l : List ℤ) (i : ℕ) → length l ≤ i → mark_all ms (drop i l) ≡ ms
mark_none ms l i h = ap (mark_all ms) (drop_of_length-le l h) ∙ mark_nil ms

-- ---- the marks of rules

rules_cons : (ms : List ℕ) (r : NumberedRule) (rs : List NumberedRule) → mark_rules ms (r ∷ rs) ≡ mark_rules (mark_all ms r.aggs) rs
unfolding mark_rules
rules_cons ms r rs = refl

rules_nil : (ms : List ℕ) → mark_rules ms [] ≡ ms
unfolding mark_rules
rules_nil ms = refl

module _ (t : List ℤ) (i n : ℕ) (ms : List ℕ) where
  pub mark_rules_on : 0 < n → mark_rules ms (numbered_from t i n) ≡ mark_rules (mark_all ms (part_at t (aggs_at t i))) (numbered_from t (past_rule t i) (n - 1))
  mark_rules_on h =
      ap (mark_rules ms) (numbered_on t i n h) ∙ rules_cons ms _ _ ∙ ap (λ (l : List ℤ). mark_rules (mark_all ms l) (numbered_from t (past_rule t i) (n - 1))) (numbered_aggs t i)

  pub mark_rules_none : n ≤ 0 → mark_rules ms (numbered_from t i n) ≡ ms
  mark_rules_none h = ap (mark_rules ms) (numbered_none t i n h) ∙ rules_nil ms

-- ---- numbers given to marks

pub next_most : (m next : ℕ) → next_by m next ≤ suc next
next_most zero next = omega arith
next_most (suc m) next = omega arith

number_cons : (next m : ℕ) (ms : List ℕ) → numbered_by next (m ∷ ms) ≡ atom_by m next ∷ numbered_by (next_by m next) ms
unfolding numbered_by
number_cons next m ms = refl

number_nil : (next : ℕ) → numbered_by next [] ≡ []
unfolding numbered_by
number_nil next = refl

pub number_step : (ms : List ℕ) (i next : ℕ) → i < length ms
    → take (i + 1) (set ms i (atom_by (get_or ms i 0) next)) ++ numbered_by (next_by (get_or ms i 0) next) (drop (i + 1) (set ms i (atom_by (get_or ms i 0) next)))
    ≡ take i ms ++ numbered_by next (drop i ms)
number_step ms i next h =
    let v = atom_by (get_or ms i 0) next in
    rw (add-one i, take-suc-set ms i (atom_by (get_or ms i 0) next) h, drop-set-lt (suc i) ms i (atom_by (get_or ms i 0) next) (omega arith))
    (append_snoc (take i ms) v (numbered_by (next_by (get_or ms i 0) next) (drop (suc i) ms))
    ∙ ap (λ (l : List ℕ). take i ms ++ l) (sym (ap (numbered_by next) (drop-cons ms i 0 h) ∙ number_cons next (get_or ms i 0) (drop (suc i) ms))))

pub number_end : (ms : List ℕ) (i next : ℕ) → length ms ≤ i → take i ms ++ numbered_by next (drop i ms) ≡ ms
number_end ms i next h = rw (drop_of_length-le ms h, number_nil next, take_all i ms h) (append-nil ms)

pub number_two : (next a b : ℕ) (ms : List ℕ) → numbered_by next (a ∷ b ∷ ms) ≡ atom_by a next ∷ atom_by b (next_by a next) ∷ numbered_by (next_by b (next_by a next)) ms
number_two next a b ms = number_cons next a (b ∷ ms) ∙ ap (λ (l : List ℕ). atom_by a next ∷ l) (number_cons (next_by a next) b ms)

-- ---- what the marks say: the literals that pass f

pub record Marks (f : ℤ → Bool) (ms : List ℕ) : Type 0 where
  pub long : length ms ≡ 128
  pub says : (w : ℤ) → 1 ≤ nat_abs w → nat_abs w ≤ 64 → get_or ms (place_of w) 0 ≡ bit_of (f w)

marks_same : {f g : ℤ → Bool} {ms : List ℕ} → ((w : ℤ) → f w ≡ g w) → Marks f ms → Marks g ms
marks_same e m = record { long = m.long; says = λ w h k. m.says w h k ∙ ap bit_of (e w) }

or_true : (b : Bool) → (b || true) ≡ true
or_true true = refl
or_true false = refl

or_false : (b : Bool) → (b || false) ≡ b
or_false true = refl
or_false false = refl

or_three : (a b c : Bool) → ((a || b) || c) ≡ (a || (b || c))
or_three true b c = refl
or_three false b c = refl

mark_one : {f : ℤ → Bool} {ms : List ℕ} (v : ℤ) → 1 ≤ nat_abs v → nat_abs v ≤ 64 → Marks f ms → Marks (λ w. f w || same_number w v) (set ms (place_of v) 1)
mark_one {f} {ms} v a b m = record { long = length-set ms (place_of v) 1 ∙ m.long; says = λ w h k. at w h k (cases (same_number w v)) }
  where
    at : (w : ℤ) → 1 ≤ nat_abs w → nat_abs w ≤ 64 → (Is (same_number w v) ⊎ (same_number w v ≡ false)) → get_or (set ms (place_of v) 1) (place_of w) 0 ≡ bit_of (f w || same_number w v)
    at w h k (inl e) =
        let l = m.long in
        let p = place_low v a b in
        rw (same_place w v e, e, or_true (f w)) (get_or-set_same ms (place_of v) 1 0 (omega arith))
    at w h k (inr e) =
        rw (e, or_false (f w))
        (get_or-set_other ms (place_of v) (place_of w) 1 0 (λ q. clash (place_same w v h a q) e) ∙ m.says w h k)

mark_list : (l : List ℤ) {f : ℤ → Bool} {ms : List ℕ} → Members 64 l → Marks f ms → Marks (λ w. f w || any (same_number w) l) (mark_all ms l)
unfolding mark_all
mark_list [] {f} h m = marks_same (λ w. sym (or_false (f w))) m
mark_list (v ∷ l) {f} h m =
    let k = h 0 (omega arith) in
    marks_same (λ w. or_three (f w) (same_number w v) (any (same_number w) l))
    (mark_list l (λ j g. h (suc j) (omega arith)) (mark_one v k.0 k.1 m))

uses_cons : (r : NumberedRule) (rs : List NumberedRule) (w : ℤ) → uses (r ∷ rs) w ≡ (any (same_number w) r.aggs || uses rs w)
unfolding uses
uses_cons r rs w = refl

uses_nil : (w : ℤ) → uses [] w ≡ false
unfolding uses
uses_nil w = refl

mark_all_rules : (t : List ℤ) (top most : ℕ) (n i : ℕ) {f : ℤ → Bool} {ms : List ℕ} → most ≤ 64 → RulesLie top most t i n → Marks f ms
    → Marks (λ w. f w || uses (numbered_from t i n) w) (mark_rules ms (numbered_from t i n))
unfolding RulesLie numbered_from numbered_at
mark_all_rules t top most zero i {f} {ms} g h m = rw (rules_nil ms) (marks_same (λ w. sym (or_false (f w)) ∙ ap (λ (b : Bool). f w || b) (sym (uses_nil w))) m)
mark_all_rules t top most (suc n) i {f} {ms} g h m =
    let aggs = numbered_aggs t i in
    let here = mark_list (part_at t (aggs_at t i)) (members_wide most 64 (part_at t (aggs_at t i)) g h.0.aggs.members) m in
    let rest = mark_all_rules t top most n (past_rule t i) g h.1 here in
    rw (rules_cons ms (numbered_at t i) (numbered_from t (past_rule t i) n), aggs)
    (marks_same
    (λ w.
    or_three (f w) (any (same_number w) (part_at t (aggs_at t i))) (uses (numbered_from t (past_rule t i) n) w)
    ∙ ap (λ (b : Bool). f w || b)
    (sym (uses_cons (numbered_at t i) (numbered_from t (past_rule t i) n) w ∙ ap (λ (l : List ℤ). any (same_number w) l || uses (numbered_from t (past_rule t i) n) w) aggs)))
    rest)

no_marks_lem : Marks (λ w. false) (replicate 128 0)
no_marks_lem = record { long = refl; says = λ w h k. get_or-replicate 128 (place_of w) 0 0 (place_low w h k) }

-- the marks of a table's rules
pub marks_are : (t : List ℤ) (top most n i : ℕ) → most ≤ 64 → RulesLie top most t i n → Marks (uses (numbered_from t i n)) (mark_rules (replicate 128 0) (numbered_from t i n))
marks_are t top most n i g h = mark_all_rules t top most n i g h no_marks_lem
