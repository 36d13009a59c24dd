-- What the code takes is the token that comes next, with where it begins, and the others come next from the index after it. Assumes nothing.
use mathlib.Core.Path.{◌≡◌, refl, sym, ap, ◌∙◌}
use mathlib.Core.Bool.{Bool, true, false}
use mathlib.Core.List.{List, [], ◌∷◌, ◌++◌, map}
use Prim.Native.Nat.{ℕ, suc, ◌+◌, ◌-◌, ◌*◌, ◌<◌, ◌≤◌}
use native.Mathlib.Numerals.{add-one}
use native.Mathlib.Omega.{arith}
use borrow.Author.Tests.{leb-true, leb-false, eqb-true}
use lib.Dec.{leb, eqb}
use lib.ListN.{length, get_or, take, drop, drop_of_length-le, length-drop}
use lib.Seq.{drop-cons, drop-drop, get_or-drop}
use Rattle.notation.specs.Tokens.{Token, number, word, neck, mark, end, Open, nothing, digits, letters, colon, digit, letter, blank, fresh, alone, tokens_from, starts_from}
use Rattle.read_notation.specs.declared.lexing.Token.TheVariants.{Neck, Mark, End}
use Rattle.read_notation.specs.Scanning.{between, gap, span, value_from}
use Rattle.read_notation.specs.Lexemes.{lexeme, mark_at, number_at, word_at, started_at, lex_at}
use Rattle.read_notation.specs.Views.{Takes}
use Rattle.read_notation.proofs.Scanning.{span_yes, value_yes}
use Rattle.read_notation.proofs.TokenRuns.{on, off, starts_on, starts_off, tokens_gap, digits_run, letters_run}
use Rattle.read_notation.proofs.TokenStarts.{starts_any, starts_gap, starts_digits, starts_letters, gap_over}

-- ---- what a byte opens

module _ (b : ℕ) (h : digit b ≡ true) where
  fresh_digit : fresh b ≡ digits (b - 48)
  unfolding fresh
  fresh_digit = rw h

  alone_digit : alone b ≡ []
  unfolding alone
  alone_digit = rw h

module _ (b : ℕ) (d : digit b ≡ false) (h : letter b ≡ true) where
  fresh_letter : fresh b ≡ letters (b ∷ [])
  unfolding fresh
  fresh_letter = rw (d, h)

  alone_letter : alone b ≡ []
  unfolding alone
  alone_letter = rw (d, h)

module _ (b : ℕ) (d : digit b ≡ false) (h : letter b ≡ false) (k : eqb b 37 ≡ false) where
  fresh_colon : eqb b 58 ≡ true → fresh b ≡ colon
  unfolding fresh
  fresh_colon e = rw (d, h, e)

  alone_colon : eqb b 58 ≡ true → alone b ≡ []
  unfolding alone
  alone_colon e = rw (d, h, e)

  fresh_mark : eqb b 58 ≡ false → fresh b ≡ nothing
  unfolding fresh
  fresh_mark e = rw (d, h, e, k)

  alone_mark : eqb b 58 ≡ false → blank b ≡ false → alone b ≡ mark b ∷ []
  unfolding alone
  alone_mark e z = rw (d, h, e, k, z)

-- ---- after a colon

colon_over : (l : List ℕ) → eqb (get_or l 0 0) 45 ≡ false → tokens_from colon l ≡ mark 58 ∷ tokens_from nothing l
unfolding tokens_from
colon_over [] e = refl
colon_over (b ∷ bs) e = off colon b bs e ∙ ap (λ (x : List Token). mark 58 ∷ x) (sym (off nothing b bs refl))

colon_starts : (l : List ℕ) (i s : ℕ) → eqb (get_or l 0 0) 45 ≡ false → starts_from i s colon l ≡ s ∷ starts_from i i nothing l
unfolding starts_from
colon_starts [] i s e = refl
colon_starts (b ∷ bs) i s e = starts_off colon b bs i s e ∙ ap (λ (x : List ℕ). s ∷ x) (sym (starts_off nothing b bs i i refl))

colon_dash : (l : List ℕ) → eqb (get_or l 0 0) 45 ≡ true → tokens_from colon l ≡ neck ∷ tokens_from nothing (drop 1 l)
colon_dash [] e = let z : false ≡ true = e in cc
colon_dash (b ∷ bs) e = on colon b bs e

dash_starts : (l : List ℕ) (i s : ℕ) → eqb (get_or l 0 0) 45 ≡ true → starts_from i s colon l ≡ s ∷ starts_from (suc i) (suc i) nothing (drop 1 l)
dash_starts [] i s e = let z : false ≡ true = e in cc
dash_starts (b ∷ bs) i s e = starts_on colon b bs i s e ∙ ap (λ (x : List ℕ). s ∷ x) (starts_any bs (suc i) s (suc i))

-- ---- the token that begins at s

module _ (bs : List ℕ) (s : ℕ) (h : s < length bs) where
  opens : tokens_from nothing (drop s bs) ≡ alone (get_or bs s 0) ++ tokens_from (fresh (get_or bs s 0)) (drop (suc s) bs)
  opens = rw (drop-cons bs s 0 h) (off nothing (get_or bs s 0) (drop (suc s) bs) refl)

  starts_here : (r : ℕ) → starts_from s r nothing (drop s bs) ≡ map (λ (t : Token). s) (alone (get_or bs s 0)) ++ starts_from (suc s) s (fresh (get_or bs s 0)) (drop (suc s) bs)
  starts_here r = rw (drop-cons bs s 0 h) (starts_off nothing (get_or bs s 0) (drop (suc s) bs) s r refl)

  after_run : (n : ℕ) → drop n (drop (suc s) bs) ≡ drop (s + suc n) bs
  after_run n = let z : suc s + n ≡ s + suc n = omega arith in drop-drop n (suc s) bs ∙ ap (λ (k : ℕ). drop k bs) z

  takes_number : digit (get_or bs s 0) ≡ true → Takes bs s (number_at bs s)
  takes_number d =
      let v : value_from 0 (drop s bs) ≡ value_from (get_or bs s 0 - 48) (drop (suc s) bs) = rw (drop-cons bs s 0 h) (value_yes 0 (get_or bs s 0) (drop (suc s) bs) d ∙ ap (λ (n : ℕ). value_from n (drop (suc s) bs)) (let z : 0 * 10 + (get_or bs s 0 - 48) ≡ get_or bs s 0 - 48 = omega arith in z)) in
      let g : span digit (drop s bs) ≡ suc (span digit (drop (suc s) bs)) = rw (drop-cons bs s 0 h) (span_yes digit (get_or bs s 0) (drop (suc s) bs) d) in
      record {
        token = number (value_from 0 (drop s bs));
        known = refl;
        tokens =
            rw (v, g)
            (opens
            ∙ ap (λ (x : List Token). x ++ tokens_from (fresh (get_or bs s 0)) (drop (suc s) bs)) (alone_digit (get_or bs s 0) d)
            ∙ ap (λ (o : Open). tokens_from o (drop (suc s) bs)) (fresh_digit (get_or bs s 0) d)
            ∙ digits_run (get_or bs s 0 - 48) (drop (suc s) bs)
            ∙ ap (λ (x : List ℕ). number (value_from (get_or bs s 0 - 48) (drop (suc s) bs)) ∷ tokens_from nothing x) (after_run (span digit (drop (suc s) bs))));
        starts = λ r.
            rw g
            (starts_here r
            ∙ ap (λ (x : List Token). map (λ (t : Token). s) x ++ starts_from (suc s) s (fresh (get_or bs s 0)) (drop (suc s) bs)) (alone_digit (get_or bs s 0) d)
            ∙ ap (λ (o : Open). starts_from (suc s) s o (drop (suc s) bs)) (fresh_digit (get_or bs s 0) d)
            ∙ starts_digits (get_or bs s 0 - 48) (drop (suc s) bs) (suc s) s (s + suc (span digit (drop (suc s) bs)))
            ∙ ap (λ (x : List ℕ). s ∷ starts_from (suc s + span digit (drop (suc s) bs)) (s + suc (span digit (drop (suc s) bs))) nothing x) (after_run (span digit (drop (suc s) bs)))
            ∙ (let z : suc s + span digit (drop (suc s) bs) ≡ s + suc (span digit (drop (suc s) bs)) = omega arith in ap (λ (k : ℕ). s ∷ starts_from k (s + suc (span digit (drop (suc s) bs))) nothing (drop (s + suc (span digit (drop (suc s) bs))) bs)) z));
      }

  takes_word : digit (get_or bs s 0) ≡ false → letter (get_or bs s 0) ≡ true → Takes bs s (word_at bs s)
  takes_word d e =
      let g : span letter (drop s bs) ≡ suc (span letter (drop (suc s) bs)) = rw (drop-cons bs s 0 h) (span_yes letter (get_or bs s 0) (drop (suc s) bs) e) in
      let z : s + suc (span letter (drop (suc s) bs)) - s ≡ suc (span letter (drop (suc s) bs)) = omega arith in
      record {
        token = word (get_or bs s 0 ∷ take (span letter (drop (suc s) bs)) (drop (suc s) bs));
        known = rw (g, z, drop-cons bs s 0 h);
        tokens =
            rw g
            (opens
            ∙ ap (λ (x : List Token). x ++ tokens_from (fresh (get_or bs s 0)) (drop (suc s) bs)) (alone_letter (get_or bs s 0) d e)
            ∙ ap (λ (o : Open). tokens_from o (drop (suc s) bs)) (fresh_letter (get_or bs s 0) d e)
            ∙ letters_run (get_or bs s 0 ∷ []) (drop (suc s) bs)
            ∙ ap (λ (x : List ℕ). word (get_or bs s 0 ∷ take (span letter (drop (suc s) bs)) (drop (suc s) bs)) ∷ tokens_from nothing x) (after_run (span letter (drop (suc s) bs))));
        starts = λ r.
            rw g
            (starts_here r
            ∙ ap (λ (x : List Token). map (λ (t : Token). s) x ++ starts_from (suc s) s (fresh (get_or bs s 0)) (drop (suc s) bs)) (alone_letter (get_or bs s 0) d e)
            ∙ ap (λ (o : Open). starts_from (suc s) s o (drop (suc s) bs)) (fresh_letter (get_or bs s 0) d e)
            ∙ starts_letters (get_or bs s 0 ∷ []) (drop (suc s) bs) (suc s) s (s + suc (span letter (drop (suc s) bs)))
            ∙ ap (λ (x : List ℕ). s ∷ starts_from (suc s + span letter (drop (suc s) bs)) (s + suc (span letter (drop (suc s) bs))) nothing x) (after_run (span letter (drop (suc s) bs)))
            ∙ (let y : suc s + span letter (drop (suc s) bs) ≡ s + suc (span letter (drop (suc s) bs)) = omega arith in ap (λ (k : ℕ). s ∷ starts_from k (s + suc (span letter (drop (suc s) bs))) nothing (drop (s + suc (span letter (drop (suc s) bs))) bs)) y));
      }

  starts_next : (k r : ℕ) → starts_from k r nothing (drop k bs) ≡ starts_from k k nothing (drop k bs)
  starts_next k r = starts_any (drop k bs) k r k

  takes_mark : digit (get_or bs s 0) ≡ false → letter (get_or bs s 0) ≡ false → eqb (get_or bs s 0) 37 ≡ false → eqb (get_or bs s 0) 58 ≡ false → blank (get_or bs s 0) ≡ false
      → Takes bs s (lexeme (Mark (get_or bs s 0)) s (s + 1))
  takes_mark d e k c z = record {
    token = mark (get_or bs s 0);
    known = refl;
    tokens =
        rw add-one
        (opens
        ∙ ap (λ (x : List Token). x ++ tokens_from (fresh (get_or bs s 0)) (drop (suc s) bs)) (alone_mark (get_or bs s 0) d e k c z)
        ∙ ap (λ (o : Open). mark (get_or bs s 0) ∷ tokens_from o (drop (suc s) bs)) (fresh_mark (get_or bs s 0) d e k c));
    starts = λ r.
        rw add-one
        (starts_here r
        ∙ ap (λ (x : List Token). map (λ (t : Token). s) x ++ starts_from (suc s) s (fresh (get_or bs s 0)) (drop (suc s) bs)) (alone_mark (get_or bs s 0) d e k c z)
        ∙ ap (λ (o : Open). s ∷ starts_from (suc s) s o (drop (suc s) bs)) (fresh_mark (get_or bs s 0) d e k c)
        ∙ ap (λ (x : List ℕ). s ∷ x) (starts_next (suc s) s));
  }

  next_byte : get_or (drop (suc s) bs) 0 0 ≡ get_or bs (s + 1) 0
  next_byte = let z : suc s + 0 ≡ s + 1 = omega arith in get_or-drop (suc s) bs 0 0 ∙ ap (λ (k : ℕ). get_or bs k 0) z

  after_two : drop 1 (drop (suc s) bs) ≡ drop (s + 1 + 1) bs
  after_two = let z : suc s + 1 ≡ s + 1 + 1 = omega arith in drop-drop 1 (suc s) bs ∙ ap (λ (k : ℕ). drop k bs) z

  module _ (d : digit (get_or bs s 0) ≡ false) (e : letter (get_or bs s 0) ≡ false) (k : eqb (get_or bs s 0) 37 ≡ false) (c : eqb (get_or bs s 0) 58 ≡ true) where
    opens_colon : tokens_from nothing (drop s bs) ≡ tokens_from colon (drop (suc s) bs)
    opens_colon =
        opens
        ∙ ap (λ (x : List Token). x ++ tokens_from (fresh (get_or bs s 0)) (drop (suc s) bs)) (alone_colon (get_or bs s 0) d e k c)
        ∙ ap (λ (o : Open). tokens_from o (drop (suc s) bs)) (fresh_colon (get_or bs s 0) d e k c)

    starts_colon : (r : ℕ) → starts_from s r nothing (drop s bs) ≡ starts_from (suc s) s colon (drop (suc s) bs)
    starts_colon r =
        starts_here r
        ∙ ap (λ (x : List Token). map (λ (t : Token). s) x ++ starts_from (suc s) s (fresh (get_or bs s 0)) (drop (suc s) bs)) (alone_colon (get_or bs s 0) d e k c)
        ∙ ap (λ (o : Open). starts_from (suc s) s o (drop (suc s) bs)) (fresh_colon (get_or bs s 0) d e k c)

    takes_neck : eqb (get_or bs (s + 1) 0) 45 ≡ true → Takes bs s (lexeme Neck s (s + 1 + 1))
    takes_neck m =
        let n : eqb (get_or (drop (suc s) bs) 0 0) 45 ≡ true = ap (λ (x : ℕ). eqb x 45) next_byte ∙ m in
        let z : suc (suc s) ≡ s + 1 + 1 = omega arith in
        record {
          token = neck;
          known = refl;
          tokens = opens_colon ∙ colon_dash (drop (suc s) bs) n ∙ ap (λ (x : List ℕ). neck ∷ tokens_from nothing x) after_two;
          starts = λ r. starts_colon r ∙ dash_starts (drop (suc s) bs) (suc s) s n ∙ ap (λ (x : List ℕ). s ∷ starts_from (suc (suc s)) (suc (suc s)) nothing x) after_two
              ∙ ap (λ (j : ℕ). s ∷ starts_from j j nothing (drop (s + 1 + 1) bs)) z;
        }

    takes_colon : eqb (get_or bs (s + 1) 0) 45 ≡ false → Takes bs s (lexeme (Mark (get_or bs s 0)) s (s + 1))
    takes_colon m =
        let n : eqb (get_or (drop (suc s) bs) 0 0) 45 ≡ false = ap (λ (x : ℕ). eqb x 45) next_byte ∙ m in
        record {
          token = mark 58;
          known = ap mark (sym (eqb-true (get_or bs s 0) 58 c));
          tokens = rw add-one (opens_colon ∙ colon_over (drop (suc s) bs) n);
          starts = λ r. rw add-one (starts_colon r ∙ colon_starts (drop (suc s) bs) (suc s) s n);
        }

takes_end : (bs : List ℕ) (s : ℕ) → length bs ≤ s → Takes bs s (lexeme End s s)
unfolding tokens_from starts_from
takes_end bs s h = record {
  token = end;
  known = refl;
  tokens = rw (drop_of_length-le bs h);
  starts = λ r. rw (drop_of_length-le bs h);
}

-- ---- by its first byte

takes_other : (bs : List ℕ) (s : ℕ) → s < length bs → digit (get_or bs s 0) ≡ false → letter (get_or bs s 0) ≡ false → between false (get_or bs s 0) ≡ false → Takes bs s (mark_at bs s)
unfolding mark_at
takes_other bs s h d e m = at (eqb (get_or bs s 0) 58) refl (eqb (get_or bs (s + 1) 0) 45) refl (eqb (get_or bs s 0) 37) refl
  where
    at : (x : Bool) → eqb (get_or bs s 0) 58 ≡ x → (y : Bool) → eqb (get_or bs (s + 1) 0) 45 ≡ y → (w : Bool) → eqb (get_or bs s 0) 37 ≡ w → Takes bs s (mark_at bs s)
    at x c y n true k = let z : true ≡ false = rw k at m in absurd (let q : ◌≡◌ {A = ℕ} 0 1 = cc in omega arith)
    at true c true n false k = rw (c, n) (takes_neck bs s h d e k c n)
    at true c false n false k = rw (c, n) (takes_colon bs s h d e k c n)
    at false c y n false k = let z : blank (get_or bs s 0) ≡ false = rw k at m in rw c (takes_mark bs s h d e k c z)

started : (bs : List ℕ) (s : ℕ) → (s < length bs → between false (get_or bs s 0) ≡ false) → Takes bs s (started_at bs s)
unfolding started_at
started bs s m = at (leb (length bs) s) refl (digit (get_or bs s 0)) refl (letter (get_or bs s 0)) refl
  where
    at : (x : Bool) → leb (length bs) s ≡ x → (y : Bool) → digit (get_or bs s 0) ≡ y → (w : Bool) → letter (get_or bs s 0) ≡ w → Takes bs s (started_at bs s)
    at true g y d w e = rw g (takes_end bs s (leb-true (length bs) s g))
    at false g true d w e = rw (g, d) (takes_number bs s (leb-false (length bs) s g) d)
    at false g false d true e = rw (g, d, e) (takes_word bs s (leb-false (length bs) s g) d e)
    at false g false d false e = let h = leb-false (length bs) s g in rw (g, d, e) (takes_other bs s h d e (m h))

-- ---- the token that comes next

module _ (bs : List ℕ) (i : ℕ) where
  at_gap : drop (gap false (drop i bs)) (drop i bs) ≡ drop (i + gap false (drop i bs)) bs
  at_gap = drop-drop (gap false (drop i bs)) i bs

  stops : i + gap false (drop i bs) < length bs → between false (get_or bs (i + gap false (drop i bs)) 0) ≡ false
  stops h =
      let n = length-drop i bs in
      let k : gap false (drop i bs) < length (drop i bs) = omega arith in
      ap (λ (x : ℕ). between false x) (sym (get_or-drop i bs (gap false (drop i bs)) 0)) ∙ gap_over false (drop i bs) k

  pub lexed : Takes bs i (lex_at bs i)
  lexed =
      let t = started bs (i + gap false (drop i bs)) stops in
      record {
        token = t.token;
        known = t.known;
        tokens = tokens_gap false (drop i bs) ∙ ap (λ (x : List ℕ). tokens_from nothing x) at_gap ∙ t.tokens;
        starts = λ r. starts_gap false (drop i bs) i r r ∙ ap (λ (x : List ℕ). starts_from (i + gap false (drop i bs)) r nothing x) at_gap ∙ t.starts r;
      }
