-- Where the tokens of bytes begin, a run at a time, as `TokenRuns` has the tokens. Assumes nothing.
use mathlib.Core.Path.{◌≡◌, refl, sym, ap, ◌∙◌}
use mathlib.Core.Bool.{Bool, true, false}
use mathlib.Core.List.{List, [], ◌∷◌, ◌++◌}
use Prim.Native.Nat.{ℕ, suc, ◌+◌, ◌*◌, ◌-◌, ◌<◌}
use native.Mathlib.Omega.{arith}
use lib.ListN.{length, get_or, drop}
use Rattle.notation.specs.Tokens.{nothing, digits, letters, digit, letter, starts_from}
use Rattle.read_notation.specs.Scanning.{between, comment_after, gap, span}
use Rattle.read_notation.proofs.Scanning.{gap_yes, gap_no, gap_none, span_yes, span_no, span_none}
use Rattle.read_notation.proofs.TokenRuns.{opened, passes, starts_on, starts_off}

-- what began before counts for nothing where nothing is open
any : (b : ℕ) (bs : List ℕ) (i k s r : ℕ) → i ≡ k → starts_from i s nothing (b ∷ bs) ≡ starts_from k r nothing (b ∷ bs)
any b bs i k s r e = starts_off nothing b bs i s refl ∙ sym (starts_off nothing b bs i r refl) ∙ ap (λ (n : ℕ). starts_from n r nothing (b ∷ bs)) e

none : (c : Bool) (i k s r : ℕ) → i ≡ k → starts_from i s (opened c) [] ≡ starts_from k r nothing []
unfolding starts_from
none true i k s r e = ap (λ (n : ℕ). n ∷ []) e
none false i k s r e = ap (λ (n : ℕ). n ∷ []) e

stays : (c : Bool) (b : ℕ) (bs : List ℕ) (i k s r : ℕ) → between c b ≡ false → i ≡ k → starts_from i s (opened c) (b ∷ bs) ≡ starts_from k r nothing (b ∷ bs)
stays true b bs i k s r h e = cc
stays false b bs i k s r h e = any b bs i k s r e

pub starts_any : (l : List ℕ) (k r q : ℕ) → starts_from k r nothing l ≡ starts_from k q nothing l
starts_any [] k r q = none false k k r q refl
starts_any (b ∷ bs) k r q = any b bs k k r q refl

pub starts_gap : (c : Bool) (l : List ℕ) (i s r : ℕ) → starts_from i s (opened c) l ≡ starts_from (i + gap c l) r nothing (drop (gap c l) l)
starts_gap c [] i s r = rw (gap_none c) (none c i (i + 0) s r (omega arith))
starts_gap c (b ∷ bs) i s r = at (between c b) refl (λ j p. starts_gap (comment_after c b) bs j p r)
  where
    g : ℕ
    g = gap (comment_after c b) bs

    at : (t : Bool) → between c b ≡ t → ((j p : ℕ) → starts_from j p (opened (comment_after c b)) bs ≡ starts_from (j + gap (comment_after c b) bs) r nothing (drop (gap (comment_after c b) bs) bs))
        → starts_from i s (opened c) (b ∷ bs) ≡ starts_from (i + gap c (b ∷ bs)) r nothing (drop (gap c (b ∷ bs)) (b ∷ bs))
    at true e f =
        let q = (passes c b e bs).1 i s in
        let z : suc i + g ≡ i + suc g = omega arith in
        rw (gap_yes c b bs e) (q.1 ∙ f (suc i) q.0 ∙ ap (λ (n : ℕ). starts_from n r nothing (drop g bs)) z)
    at false e f = rw (gap_no c b bs e) (stays c b bs i (i + 0) s r e (omega arith))

pub starts_digits : (n : ℕ) (l : List ℕ) (i s r : ℕ) → starts_from i s (digits n) l ≡ s ∷ starts_from (i + span digit l) r nothing (drop (span digit l) l)
unfolding starts_from
starts_digits n [] i s r = rw (span_none digit) (ap (λ (k : ℕ). s ∷ k ∷ []) (let z : i ≡ i + 0 = omega arith in z))
starts_digits n (b ∷ bs) i s r = at (digit b) refl (starts_digits (n * 10 + (b - 48)) bs (suc i) s r)
  where
    g : ℕ
    g = span digit bs

    at : (t : Bool) → digit b ≡ t → starts_from (suc i) s (digits (n * 10 + (b - 48))) bs ≡ s ∷ starts_from (suc i + span digit bs) r nothing (drop (span digit bs) bs)
        → starts_from i s (digits n) (b ∷ bs) ≡ s ∷ starts_from (i + span digit (b ∷ bs)) r nothing (drop (span digit (b ∷ bs)) (b ∷ bs))
    at true e f =
        let z : suc i + g ≡ i + suc g = omega arith in
        rw (span_yes digit b bs e) (starts_on (digits n) b bs i s e ∙ f ∙ ap (λ (k : ℕ). s ∷ starts_from k r nothing (drop g bs)) z)
    at false e f =
        rw (span_no digit b bs e)
        (starts_off (digits n) b bs i s e ∙ ap (λ (x : List ℕ). s ∷ x) (sym (starts_off nothing b bs i s refl) ∙ any b bs i (i + 0) s r (omega arith)))

pub starts_letters : (w l : List ℕ) (i s r : ℕ) → starts_from i s (letters w) l ≡ s ∷ starts_from (i + span letter l) r nothing (drop (span letter l) l)
unfolding starts_from
starts_letters w [] i s r = rw (span_none letter) (ap (λ (k : ℕ). s ∷ k ∷ []) (let z : i ≡ i + 0 = omega arith in z))
starts_letters w (b ∷ bs) i s r = at (letter b) refl (starts_letters (w ++ (b ∷ [])) bs (suc i) s r)
  where
    g : ℕ
    g = span letter bs

    at : (t : Bool) → letter b ≡ t → starts_from (suc i) s (letters (w ++ (b ∷ []))) bs ≡ s ∷ starts_from (suc i + span letter bs) r nothing (drop (span letter bs) bs)
        → starts_from i s (letters w) (b ∷ bs) ≡ s ∷ starts_from (i + span letter (b ∷ bs)) r nothing (drop (span letter (b ∷ bs)) (b ∷ bs))
    at true e f =
        let z : suc i + g ≡ i + suc g = omega arith in
        rw (span_yes letter b bs e) (starts_on (letters w) b bs i s e ∙ f ∙ ap (λ (k : ℕ). s ∷ starts_from k r nothing (drop g bs)) z)
    at false e f =
        rw (span_no letter b bs e)
        (starts_off (letters w) b bs i s e ∙ ap (λ (x : List ℕ). s ∷ x) (sym (starts_off nothing b bs i s refl) ∙ any b bs i (i + 0) s r (omega arith)))

-- ---- where the gap is over stands a byte that is not between tokens

pub gap_over : (c : Bool) (l : List ℕ) → gap c l < length l → between false (get_or l (gap c l) 0) ≡ false
gap_over c [] h = let z = gap_none c in absurd (omega arith)
gap_over c (b ∷ bs) h = at (between c b) refl (gap_over (comment_after c b) bs) h
  where
    free : (c : Bool) → between c b ≡ false → between false b ≡ false
    free true e = cc
    free false e = e

    at : (t : Bool) → between c b ≡ t → (gap (comment_after c b) bs < length bs → between false (get_or bs (gap (comment_after c b) bs) 0) ≡ false) → gap c (b ∷ bs) < suc (length bs)
        → between false (get_or (b ∷ bs) (gap c (b ∷ bs)) 0) ≡ false
    at true e f k = let y = gap_yes c b bs e in rw y (f (omega arith))
    at false e f k = rw (gap_no c b bs e) (free c e)
