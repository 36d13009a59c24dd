-- The tokens of bytes: numbers, and parts one after another. Assumes nothing.
use mathlib.Core.Path.{◌≡◌, refl, sym, ap, ◌∙◌, subst}
use mathlib.Core.Bool.{Bool, true, false, cond, ◌&&◌, ◌||◌}
use mathlib.Core.List.{List, [], ◌∷◌, ◌++◌, map, append_assoc}
use Prim.Native.Nat.{ℕ, zero, suc, ◌+◌, ◌-◌, ◌*◌, ◌/◌, ◌%◌, ◌<◌}
use native.Mathlib.Omega.{arith}
use borrow.Author.Tests.{le-leb, ltb-true, ltb-false, ne_eqb}
use lib.Dec.{leb, ltb, eqb}
use Rattle.text.specs.Line.{decimal}
use Rattle.text.proofs.Decimal.{decimal_low, decimal_high}
use Rattle.notation.specs.Notation.{some, before, joined_from}
use Rattle.notation.specs.Tokens.{Token, number, mark, Open, nothing, digits, letters, colon, comment, digit, letter, goes, fresh, alone, longer, within, over, tokens_from, tokens}
use Rattle.notation.proofs.TokenLists.{before_t, joined_t}

-- ---- one byte

module _ (o : Open) (b : ℕ) (bs : List ℕ) where
  on : goes o b ≡ true → tokens_from o (b ∷ bs) ≡ within o ++ tokens_from (longer o b) bs
  unfolding tokens_from
  on e = rw (e, tokens_from)

  off : goes o b ≡ false → tokens_from o (b ∷ bs) ≡ over o ++ (alone b ++ tokens_from (fresh b) bs)
  unfolding tokens_from
  off e = rw (e, tokens_from)

module _ (b : ℕ) (h : digit b ≡ true) where
  fresh_digit : fresh b ≡ digits (b - 48)
  unfolding fresh
  fresh_digit = ap (λ (x : Bool). cond x (digits (b - 48)) (cond (letter b) (letters (b ∷ [])) (cond (eqb b 58) colon (cond (eqb b 37) comment nothing)))) h

  alone_digit : alone b ≡ []
  unfolding alone
  alone_digit = ap (λ (x : Bool). cond (x || letter b || eqb b 58 || eqb b 37 || (eqb b 32 || eqb b 9 || eqb b 10 || eqb b 13)) [] (mark b ∷ [])) h

is_digit : (m : ℕ) → m < 10 → digit (48 + m) ≡ true
is_digit m h = ap (λ (x : Bool). x && leb (48 + m) 57) (le-leb 48 (48 + m) (omega arith)) ∙ le-leb (48 + m) 57 (omega arith)

-- ---- a number

abbrev pub Stops : List ℕ → Type 0
Stops [] = Unit {0}
Stops (b ∷ bs) = digit b ≡ false

abbrev pub NoMinus : List ℕ → Type 0
NoMinus [] = Unit {0}
NoMinus (b ∷ bs) = eqb b 45 ≡ false

decimal_open : (k n : ℕ) → n < k → (rest : List ℕ) → tokens (decimal n ++ rest) ≡ tokens_from (digits n) rest
decimal_open zero n h rest = absurd (omega arith)
decimal_open (suc k) n h rest = at (ltb n 10) refl (λ g more. decimal_open k (n / 10) g more)
  where
    b : ℕ
    b = 48 + n % 10

    d : digit (48 + n % 10) ≡ true
    d = is_digit (n % 10) (omega arith)

    at : (t : Bool) → ltb n 10 ≡ t → (n / 10 < k → (more : List ℕ) → tokens (decimal (n / 10) ++ more) ≡ tokens_from (digits (n / 10)) more) → tokens (decimal n ++ rest) ≡ tokens_from (digits n) rest
    at true e f =
        let l = ltb-true n 10 e in
        let z : 48 + n % 10 - 48 ≡ n = omega arith in
        ap (λ (x : List ℕ). tokens (x ++ rest)) (decimal_low n l)
        ∙ off nothing (48 + n % 10) rest refl
        ∙ ap (λ (x : List Token). x ++ tokens_from (fresh (48 + n % 10)) rest) (alone_digit (48 + n % 10) d)
        ∙ ap (λ (x : Open). tokens_from x rest) (fresh_digit (48 + n % 10) d)
        ∙ ap (λ (x : ℕ). tokens_from (digits x) rest) z
    at false e f =
        let l = ltb-false n 10 e in
        let z : n / 10 * 10 + (48 + n % 10 - 48) ≡ n = omega arith in
        ap (λ (x : List ℕ). tokens (x ++ rest)) (decimal_high n l)
        ∙ ap tokens (append_assoc (decimal (n / 10)) ((48 + n % 10) ∷ []) rest)
        ∙ f (omega arith) ((48 + n % 10) ∷ rest)
        ∙ on (digits (n / 10)) (48 + n % 10) rest d
        ∙ ap (λ (x : ℕ). tokens_from (digits x) rest) z

number_over : (n : ℕ) (rest : List ℕ) → Stops rest → tokens_from (digits n) rest ≡ number n ∷ tokens rest
unfolding tokens_from
number_over n [] s = refl
number_over n (b ∷ rest) s = off (digits n) b rest s ∙ ap (λ (x : List Token). number n ∷ x) (sym (off nothing b rest refl))

pub lex_number : (n : ℕ) (rest : List ℕ) → Stops rest → tokens (decimal n ++ rest) ≡ number n ∷ tokens rest
lex_number n rest s = decimal_open (suc n) n (omega arith) rest ∙ number_over n rest s

-- ---- a colon, and what is no minus after it

first_by : (k n : ℕ) → n < k → (rest : List ℕ) → NoMinus (decimal n ++ rest)
first_by zero n h rest = absurd (omega arith)
first_by (suc k) n h rest = at (ltb n 10) refl (λ g more. first_by k (n / 10) g more)
  where
    at : (t : Bool) → ltb n 10 ≡ t → (n / 10 < k → (more : List ℕ) → NoMinus (decimal (n / 10) ++ more)) → NoMinus (decimal n ++ rest)
    at true e f = subst (λ (x : List ℕ). NoMinus (x ++ rest)) (sym (decimal_low n (ltb-true n 10 e))) (ne_eqb (48 + n % 10) 45 (λ z. absurd (omega arith)))
    at false e f =
        subst (λ (x : List ℕ). NoMinus (x ++ rest)) (sym (decimal_high n (ltb-false n 10 e)))
        (subst NoMinus (sym (append_assoc (decimal (n / 10)) ((48 + n % 10) ∷ []) rest)) (f (let l = ltb-false n 10 e in omega arith) ((48 + n % 10) ∷ rest)))

pub no_minus : (n : ℕ) (rest : List ℕ) → NoMinus (decimal n ++ rest)
no_minus n rest = first_by (suc n) n (omega arith) rest

colon_over : (rest : List ℕ) → NoMinus rest → tokens_from colon rest ≡ mark 58 ∷ tokens rest
unfolding tokens_from
colon_over [] s = refl
colon_over (b ∷ rest) s = off colon b rest s ∙ ap (λ (x : List Token). mark 58 ∷ x) (sym (off nothing b rest refl))

pub lex_colon : (rest : List ℕ) → NoMinus rest → tokens (58 ∷ rest) ≡ mark 58 ∷ tokens rest
unfolding fresh alone
lex_colon rest s = off nothing 58 rest refl ∙ colon_over rest s

-- ---- parts: those that end with a number, and those that do not

abbrev pub Lexes : List ℕ → List Token → Type 0
Lexes x y = (rest : List ℕ) → Stops rest → tokens (x ++ rest) ≡ y ++ tokens rest

abbrev pub Closed : List ℕ → List Token → Type 0
Closed x y = (rest : List ℕ) → tokens (x ++ rest) ≡ y ++ tokens rest

pub both : (x y : List ℕ) (a b : List Token) (rest : List ℕ) → tokens (x ++ (y ++ rest)) ≡ a ++ tokens (y ++ rest) → tokens (y ++ rest) ≡ b ++ tokens rest
    → tokens ((x ++ y) ++ rest) ≡ (a ++ b) ++ tokens rest
both x y a b rest e f = ap tokens (append_assoc x y rest) ∙ e ∙ ap (λ (ts : List Token). a ++ ts) f ∙ sym (append_assoc a b (tokens rest))

pub lexed_number : (n : ℕ) → Lexes (decimal n) (number n ∷ [])
lexed_number n rest s = lex_number n rest s

-- ---- parts with something between them

abbrev pub AllLex : List (List ℕ) → List (List Token) → Type 0
AllLex [] [] = Unit {0}
AllLex [] (y ∷ ys) = ⊥
AllLex (x ∷ xs) [] = ⊥
AllLex (x ∷ xs) (y ∷ ys) = Lexes x y × AllLex xs ys

pub map_lex : {A : Type 0} (f : A → List ℕ) (g : A → List Token) → ((x : A) → Lexes (f x) (g x)) → (l : List A) → AllLex (map f l) (map g l)
map_lex f g h [] = tt
map_lex f g h (x ∷ l) = (h x, map_lex f g h l)

pub append_lex : (xs us : List (List ℕ)) (ys vs : List (List Token)) → AllLex xs ys → AllLex us vs → AllLex (xs ++ us) (ys ++ vs)
append_lex [] us [] vs a b = b
append_lex [] us (y ∷ ys) vs a b = absurd a
append_lex (x ∷ xs) us [] vs a b = absurd a
append_lex (x ∷ xs) us (y ∷ ys) vs a b = (a.0, append_lex xs us ys vs a.1 b)

pub some_lex : (xs : List (List ℕ)) (ys : List (List Token)) → AllLex xs ys → some xs ≡ some ys
some_lex [] [] a = refl
some_lex [] (y ∷ ys) a = absurd a
some_lex (x ∷ xs) [] a = absurd a
some_lex (x ∷ xs) (y ∷ ys) a = refl

module _ (between : List ℕ) (m : ℕ) (closed : Closed between (mark m ∷ [])) (stops : (rest : List ℕ) → Stops (between ++ rest)) where
  before_closed : (behind : Bool) → Closed (before between behind) (before_t m behind)
  before_closed true rest = closed rest
  before_closed false rest = refl

  joined_stops : (xs : List (List ℕ)) (rest : List ℕ) → Stops rest → Stops (joined_from between true xs ++ rest)
  joined_stops [] rest s = s
  joined_stops (x ∷ xs) rest s = subst Stops (sym (append_assoc between (x ++ joined_from between true xs) rest)) (stops ((x ++ joined_from between true xs) ++ rest))

  pub joined_lex : (behind : Bool) (xs : List (List ℕ)) (ys : List (List Token)) → AllLex xs ys → Lexes (joined_from between behind xs) (joined_t m behind ys)
  joined_lex behind [] [] a rest s = refl
  joined_lex behind [] (y ∷ ys) a rest s = absurd a
  joined_lex behind (x ∷ xs) [] a rest s = absurd a
  joined_lex behind (x ∷ xs) (y ∷ ys) a rest s =
      both (before between behind) (x ++ joined_from between true xs) (before_t m behind) (y ++ joined_t m true ys) rest (before_closed behind ((x ++ joined_from between true xs) ++ rest))
      (both x (joined_from between true xs) y (joined_t m true ys) rest (a.0 (joined_from between true xs ++ rest) (joined_stops xs rest s)) (joined_lex true xs ys a.1 rest s))
