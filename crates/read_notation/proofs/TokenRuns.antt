-- The tokens of bytes, and where they begin, a run at a time: what stands between tokens makes none, digits make a number, letters a word. Assumes nothing.
use mathlib.Core.Path.{◌≡◌, refl, sym, ap, ◌∙◌, subst}
use mathlib.Core.Bool.{Bool, true, false}
use mathlib.Core.List.{List, [], ◌∷◌, ◌++◌, map, append_assoc, append-nil}
use Prim.Native.Nat.{ℕ, suc, ◌+◌, ◌*◌, ◌-◌}
use borrow.Author.Tests.{eqb-true}
use lib.Dec.{eqb}
use lib.ListN.{take, drop}
use Rattle.notation.specs.Tokens.{Token, number, word, Open, nothing, digits, letters, comment, digit, letter, blank, goes, fresh, alone, longer, within, over, tokens_from, starts_from}
use Rattle.read_notation.specs.Scanning.{between, comment_after, gap, span, value_from}
use Rattle.read_notation.proofs.Scanning.{gap_yes, gap_no, gap_none, span_yes, span_no, span_none, value_yes, value_no, value_none}

-- ---- one byte

module _ (o : Open) (b : ℕ) (bs : List ℕ) where
  pub on : goes o b ≡ true → tokens_from o (b ∷ bs) ≡ within o ++ tokens_from (longer o b) bs
  unfolding tokens_from
  on e = rw (e, tokens_from)

  pub off : goes o b ≡ false → tokens_from o (b ∷ bs) ≡ over o ++ (alone b ++ tokens_from (fresh b) bs)
  unfolding tokens_from
  off e = rw (e, tokens_from)

  pub starts_on : (i s : ℕ) → goes o b ≡ true → starts_from i s o (b ∷ bs) ≡ map (λ (t : Token). s) (within o) ++ starts_from (suc i) s (longer o b) bs
  unfolding starts_from
  starts_on i s e = rw (e, starts_from)

  pub starts_off : (i s : ℕ) → goes o b ≡ false → starts_from i s o (b ∷ bs) ≡ map (λ (t : Token). s) (over o) ++ (map (λ (t : Token). i) (alone b) ++ starts_from (suc i) i (fresh b) bs)
  unfolding starts_from
  starts_off i s e = rw (e, starts_from)

-- ---- between tokens

abbrev pub opened : Bool → Open
opened true = comment
opened false = nothing

blank_by : (P : ℕ → Type 0) → P 32 → P 9 → P 10 → P 13 → (b : ℕ) → blank b ≡ true → P b
blank_by P space tab newline back b h = at_32 (eqb b 32) refl
  where
    at_13 : eqb b 32 ≡ false → eqb b 9 ≡ false → eqb b 10 ≡ false → P b
    at_13 x y z = let k : eqb b 13 ≡ true = rw (x, y, z) at h in subst P (sym (eqb-true b 13 k)) back

    at_10 : (t : Bool) → eqb b 10 ≡ t → eqb b 32 ≡ false → eqb b 9 ≡ false → P b
    at_10 true e x y = subst P (sym (eqb-true b 10 e)) newline
    at_10 false e x y = at_13 x y e

    at_9 : (t : Bool) → eqb b 9 ≡ t → eqb b 32 ≡ false → P b
    at_9 true e x = subst P (sym (eqb-true b 9 e)) tab
    at_9 false e x = at_10 (eqb b 10) refl x e

    at_32 : (t : Bool) → eqb b 32 ≡ t → P b
    at_32 true e = subst P (sym (eqb-true b 32 e)) space
    at_32 false e = at_9 (eqb b 9) refl e

-- a byte between tokens makes none, and leaves open whether a comment goes on
abbrev pub Passes : Bool → ℕ → Type 0
Passes c b = (bs : List ℕ) → (tokens_from (opened c) (b ∷ bs) ≡ tokens_from (opened (comment_after c b)) bs)
    × ((i s : ℕ) → (r : ℕ) × (starts_from i s (opened c) (b ∷ bs) ≡ starts_from (suc i) r (opened (comment_after c b)) bs))

passes_10 : Passes true 10
unfolding alone fresh
passes_10 bs = (off comment 10 bs refl, λ i s. (i, starts_off comment 10 bs i s refl))

passes_37 : Passes false 37
unfolding alone fresh
passes_37 bs = (off nothing 37 bs refl, λ i s. (i, starts_off nothing 37 bs i s refl))

passes_blank : (b : ℕ) → blank b ≡ true → Passes false b
unfolding alone fresh
passes_blank b h =
    blank_by (λ (x : ℕ). Passes false x)
    (λ bs. (off nothing 32 bs refl, λ i s. (i, starts_off nothing 32 bs i s refl)))
    (λ bs. (off nothing 9 bs refl, λ i s. (i, starts_off nothing 9 bs i s refl)))
    (λ bs. (off nothing 10 bs refl, λ i s. (i, starts_off nothing 10 bs i s refl)))
    (λ bs. (off nothing 13 bs refl, λ i s. (i, starts_off nothing 13 bs i s refl)))
    b
    h

pub passes : (c : Bool) (b : ℕ) → between c b ≡ true → Passes c b
passes true b h = at (eqb b 10) refl
  where
    at : (t : Bool) → eqb b 10 ≡ t → Passes true b
    at true e = subst (λ (x : ℕ). Passes true x) (sym (eqb-true b 10 e)) passes_10
    at false e = λ bs. rw e (on comment b bs (rw e refl), λ i s. (s, starts_on comment b bs i s (rw e refl)))
passes false b h = at (eqb b 37) refl
  where
    at : (t : Bool) → eqb b 37 ≡ t → Passes false b
    at true e = subst (λ (x : ℕ). Passes false x) (sym (eqb-true b 37 e)) passes_37
    at false e = let k : blank b ≡ true = rw e at h in passes_blank b k

stays : (c : Bool) (b : ℕ) (bs : List ℕ) → between c b ≡ false → tokens_from (opened c) (b ∷ bs) ≡ tokens_from nothing (b ∷ bs)
stays true b bs e = cc
stays false b bs e = refl

pub tokens_gap : (c : Bool) (l : List ℕ) → tokens_from (opened c) l ≡ tokens_from nothing (drop (gap c l) l)
unfolding tokens_from
tokens_gap true [] = rw (gap_none true)
tokens_gap false [] = rw (gap_none false)
tokens_gap c (b ∷ bs) = at (between c b) refl (tokens_gap (comment_after c b) bs)
  where
    at : (t : Bool) → between c b ≡ t → tokens_from (opened (comment_after c b)) bs ≡ tokens_from nothing (drop (gap (comment_after c b) bs) bs) → tokens_from (opened c) (b ∷ bs) ≡ tokens_from nothing (drop (gap c (b ∷ bs)) (b ∷ bs))
    at true e f = rw (gap_yes c b bs e) ((passes c b e bs).0 ∙ f)
    at false e f = rw (gap_no c b bs e) (stays c b bs e)

-- ---- numbers and words

module _ (b : ℕ) (bs : List ℕ) where
  pub from_nothing : tokens_from nothing (b ∷ bs) ≡ alone b ++ tokens_from (fresh b) bs
  unfolding tokens_from
  from_nothing = refl

  number_over : (n : ℕ) → digit b ≡ false → tokens_from (digits n) (b ∷ bs) ≡ number n ∷ tokens_from nothing (b ∷ bs)
  number_over n e = off (digits n) b bs e ∙ ap (λ (x : List Token). number n ∷ x) (sym (off nothing b bs refl))

  word_over : (w : List ℕ) → letter b ≡ false → tokens_from (letters w) (b ∷ bs) ≡ word w ∷ tokens_from nothing (b ∷ bs)
  word_over w e = off (letters w) b bs e ∙ ap (λ (x : List Token). word w ∷ x) (sym (off nothing b bs refl))

pub digits_run : (n : ℕ) (l : List ℕ) → tokens_from (digits n) l ≡ number (value_from n l) ∷ tokens_from nothing (drop (span digit l) l)
unfolding tokens_from
digits_run n [] = rw (value_none n, span_none digit)
digits_run n (b ∷ bs) = at (digit b) refl (digits_run (n * 10 + (b - 48)) bs)
  where
    at : (t : Bool) → digit b ≡ t → tokens_from (digits (n * 10 + (b - 48))) bs ≡ number (value_from (n * 10 + (b - 48)) bs) ∷ tokens_from nothing (drop (span digit bs) bs) → tokens_from (digits n) (b ∷ bs) ≡ number (value_from n (b ∷ bs)) ∷ tokens_from nothing (drop (span digit (b ∷ bs)) (b ∷ bs))
    at true e f = rw (value_yes n b bs e, span_yes digit b bs e) (on (digits n) b bs e ∙ f)
    at false e f = rw (value_no n b bs e, span_no digit b bs e) (number_over b bs n e)

pub letters_run : (w l : List ℕ) → tokens_from (letters w) l ≡ word (w ++ take (span letter l) l) ∷ tokens_from nothing (drop (span letter l) l)
unfolding tokens_from
letters_run w [] = rw (span_none letter, append-nil w)
letters_run w (b ∷ bs) = at (letter b) refl (letters_run (w ++ (b ∷ [])) bs)
  where
    at : (t : Bool) → letter b ≡ t → tokens_from (letters (w ++ (b ∷ []))) bs ≡ word ((w ++ (b ∷ [])) ++ take (span letter bs) bs) ∷ tokens_from nothing (drop (span letter bs) bs) → tokens_from (letters w) (b ∷ bs) ≡ word (w ++ take (span letter (b ∷ bs)) (b ∷ bs)) ∷ tokens_from nothing (drop (span letter (b ∷ bs)) (b ∷ bs))
    at true e f = rw (span_yes letter b bs e) (on (letters w) b bs e ∙ f ∙ ap (λ (x : List ℕ). word x ∷ tokens_from nothing (drop (span letter bs) bs)) (append_assoc w (b ∷ []) (take (span letter bs) bs)))
    at false e f = rw (span_no letter b bs e, append-nil w) (word_over b bs w e)
