-- The body of a rule by its parts, and the rules one by one. Assumes nothing.
use mathlib.Core.Path.{◌≡◌, sym, ap, ◌∙◌}
use mathlib.Core.Bool.{true, false}
use mathlib.Core.List.{List, [], ◌∷◌, ◌++◌, map}
use Prim.Native.Nat.{ℕ, ◌+◌, ◌-◌, ◌≤◌, ◌<◌}
use native.Mathlib.Omega.{arith}
use lib.IntN.{ℤ}
use lib.ListN.{length, drop, length-append, length-map, length-drop}
use lib.Seq.{length-take-le}
use Rattle.meaning.specs.Lists.{Is, any}
use Rattle.meaning.proofs.Tools.{or_l, or_r}
use Rattle.layout.specs.Layout.{nat_at, atoms, part_at, past_at, aggs_at, past_rule}
use Rattle.table.specs.Contents.{NumberedRule, Contents}
use Rattle.aspif.specs.Statements.{Signed, normal}
use Rattle.aspif.specs.Writing.{same_number, uses, with, stated}
use Rattle.bytes_out.specs.Putting.{field_text}
use Rattle.aspif_parts.specs.Held.{numbered_at, numbered_from}
use Rattle.aspif_parts.specs.Parts.{line_text, lines_text, head_text, literals_text, body_text, stated_body}
use Rattle.aspif_parts.proofs.Held.{numbered_on, numbered_none}
use Rattle.aspif_parts.proofs.Texts.{literals_append, normal_parts, line_parts, lines_cons, lines_nil}

-- a list in the table is as long as its count says
pub part_long : (t : List ℤ) (i : ℕ) → past_at t i ≤ length t → length (part_at t i) ≡ nat_at t i
part_long t i h = length-take-le (nat_at t i) (drop (i + 1) t) (let l = length-drop (i + 1) t in omega arith)

module _ (P N : List ℕ) (L : List ℤ) (f : ℤ → Signed) where
  abbrev body : List Signed
  body = map (with true) P ++ (map (with false) N ++ map f L)

  body_long : length body ≡ length P + length N + length L
  body_long =
      let a = length-append (map (with true) P) (map (with false) N ++ map f L) in
      let b = length-append (map (with false) N) (map f L) in
      let c = length-map P (with true) in
      let d = length-map N (with false) in
      let e = length-map L f in
      omega arith

  pub body_parts_lem : (n : ℕ) → n ≡ length P + length N + length L
      → (32 ∷ 48 ∷ []) ++ (field_text n ++ (literals_text (map (with true) P) ++ (literals_text (map (with false) N) ++ literals_text (map f L)))) ≡ body_text (normal (map (with true) P ++ (map (with false) N ++ map f L)))
  body_parts_lem n e =
      ap (λ (k : ℕ). (32 ∷ 48 ∷ []) ++ (field_text k ++ (literals_text (map (with true) P) ++ (literals_text (map (with false) N) ++ literals_text (map f L))))) (e ∙ sym body_long)
      ∙ ap (λ (l : List ℕ). (32 ∷ 48 ∷ []) ++ (field_text (length body) ++ l))
      (ap (λ (l : List ℕ). literals_text (map (with true) P) ++ l) (sym (literals_append (map (with false) N) (map f L))) ∙ sym (literals_append (map (with true) P) (map (with false) N ++ map f L)))
      ∙ normal_parts body

-- the line of a rule
pub rule_parts : (c : Contents) (t : List ℤ) (i : ℕ) → head_text (atoms (part_at t i)) ++ (body_text (stated_body c t (past_at t i)) ++ (10 ∷ [])) ≡ line_text (stated c (numbered_at t i))
unfolding stated numbered_at
rule_parts c t i = line_parts (stated c (numbered_at t i))

module _ (c : Contents) (t : List ℤ) (i n : ℕ) where
  pub rules_on : 0 < n → lines_text (map (stated c) (numbered_from t i n)) ≡ line_text (stated c (numbered_at t i)) ++ lines_text (map (stated c) (numbered_from t (past_rule t i) (n - 1)))
  rules_on h = ap (λ (rs : List NumberedRule). lines_text (map (stated c) rs)) (numbered_on t i n h) ∙ lines_cons (stated c (numbered_at t i)) (map (stated c) (numbered_from t (past_rule t i) (n - 1)))

  pub rules_none : n ≤ 0 → lines_text (map (stated c) (numbered_from t i n)) ≡ []
  rules_none h = ap (λ (rs : List NumberedRule). lines_text (map (stated c) rs)) (numbered_none t i n h) ∙ lines_nil

  -- what the rules left use, the table uses
  pub uses_here : 0 < n → ((w : ℤ) → Is (uses (numbered_from t i n) w) → Is (uses c.rules w)) → (w : ℤ) → Is (any (same_number w) (part_at t (aggs_at t i))) → Is (uses c.rules w)
  unfolding uses numbered_at
  uses_here h f w u = f w (rw (numbered_on t i n h) (or_l (any (same_number w) (part_at t (aggs_at t i))) _ u))

  pub uses_later : 0 < n → ((w : ℤ) → Is (uses (numbered_from t i n) w) → Is (uses c.rules w)) → (w : ℤ) → Is (uses (numbered_from t (past_rule t i) (n - 1)) w) → Is (uses c.rules w)
  unfolding uses numbered_at
  uses_later h f w u = f w (rw (numbered_on t i n h) (or_r (any (same_number w) (part_at t (aggs_at t i))) _ u))
