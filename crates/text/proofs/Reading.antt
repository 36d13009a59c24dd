-- The words of runs, as the reader counts and writes them. Assumes nothing.
use mathlib.Core.Path.{◌≡◌, refl, sym, ap, subst, ◌∙◌}
use mathlib.Core.List.{List, [], ◌∷◌}
use mathlib.Core.Logic.{⊎_elim}
use native.Mathlib.Nat.{eq-or-lt_of_le}
use mathlib.Core.Option.{Option, some, none}
use Prim.Native.Nat.{ℕ, suc, ◌+◌, ◌-◌, ◌<◌, ◌≤◌}
use native.Mathlib.Numerals.{add-one}
use native.Mathlib.Omega.{arith}
use borrow.Author.Tests.{lt-ltb, le-ltb}
use lib.IntN.{ℤ}
use lib.ListN.{length, take, drop, set}
use lib.Seq.{sets}
use Rattle.std.specs.Prelude.{Some, None, Result, Ok, Err, is_some, ok_or, IsErrAnd, MatchResult}
use mathlib.Core.Bool.{true, false}
use Rattle.results.specs.declared.Refusal.{Refusal}
use Rattle.results.specs.declared.Refusal.TheVariants.{TooManyBytes, BadNumber}
use Rattle.text.specs.Text.{runs, number, limit, word, Words, all, bad_at, before, words_from, text, refused, with_limit, text_of_runs, text_of, over, ReadAs}
use Rattle.text.specs.Scan.{spanned, limit_in, word_in, count_of, listed}
use Rattle.text.proofs.Runs.{Starts, run_first, runs_end, span_end_run}

-- ---- what the inner functions' answers say

pub word_good : (o : Option ℤ) (z : ℤ) → word_in o ≡ Some z → o ≡ some z
word_good none z e = cc
word_good (some y) z e = cc

pub word_bad : (o : Option ℤ) → word_in o ≡ None → o ≡ none
word_bad none e = refl
word_bad (some y) e = cc

pub word_unread : (o : Option ℤ) → is_some (word_in o) ≡ false → o ≡ none
word_unread none e = refl
word_unread (some y) e = cc

pub word_read : (o : Option ℤ) → is_some (word_in o) ≡ true → (z : ℤ) × (o ≡ some z)
word_read none e = cc
word_read (some y) e = (y, refl)

pub limit_good : (o : Option ℕ) (r : Refusal) (n : ℕ) → ok_or (limit_in o) r ≡ Ok n → o ≡ some n
limit_good none r n e = cc
limit_good (some m) r n e = cc

pub limit_bad : (o : Option ℕ) (r e : Refusal) → ok_or (limit_in o) r ≡ Err e → (o ≡ none) × (e ≡ r)
limit_bad none r e h = (refl, cc)
limit_bad (some m) r e h = cc

-- ---- one word more

pub words_good : (k : ℕ) (run : List ℕ) (rs : List (List ℕ)) (z : ℤ) → word run ≡ some z → words_from k (run ∷ rs) ≡ before z (words_from (suc k) rs)
unfolding words_from
words_good k run rs z e = rw (e, words_from)

pub words_bad : (k : ℕ) (run : List ℕ) (rs : List (List ℕ)) → word run ≡ none → words_from k (run ∷ rs) ≡ bad_at k
unfolding words_from
words_bad k run rs e = rw (e, words_from)

pub words_none : (k : ℕ) → words_from k [] ≡ all []
unfolding words_from
words_none k = refl

count_before : (n : ℕ) (z : ℤ) (w : Words) → count_of n (before z w) ≡ count_of (n + 1) w
count_before n z (all zs) = ap Ok (omega arith)
count_before n z (bad_at k) = refl

pub count_good : (n : ℕ) (run : List ℕ) (rs : List (List ℕ)) (z : ℤ) → word run ≡ some z → count_of n (words_from (n + 1) (run ∷ rs)) ≡ count_of (n + 1) (words_from (n + 1 + 1) rs)
count_good n run rs z e = ap (count_of n) (words_good (n + 1) run rs z e) ∙ count_before n z (words_from (suc (n + 1)) rs) ∙ ap (λ (k : ℕ). count_of (n + 1) (words_from k rs)) (sym (add-one (n + 1)))

pub count_bad : (n k : ℕ) (run : List ℕ) (rs : List (List ℕ)) → word run ≡ none → Err k ≡ count_of n (words_from k (run ∷ rs))
count_bad n k run rs e = rw (words_bad k run rs e)

pub count_none : (n k : ℕ) → Ok n ≡ count_of n (words_from k [])
count_none n k = rw (words_none k) (ap Ok (omega arith))

pub listed_good : (run : List ℕ) (rs : List (List ℕ)) (z : ℤ) → word run ≡ some z → listed (run ∷ rs) ≡ z ∷ listed rs
unfolding listed
listed_good run rs z e = rw (e, listed)

pub listed_bad : (run : List ℕ) (rs : List (List ℕ)) → word run ≡ none → listed (run ∷ rs) ≡ []
unfolding listed
listed_bad run rs e = rw (e, listed)

pub listed_none : listed [] ≡ []
unfolding listed
listed_none = refl

-- ---- all words

pub is_all : (z : ℤ) (w : Words) (zs : List ℤ) → before z w ≡ all zs → (ys : List ℤ) × (w ≡ all ys) × (zs ≡ z ∷ ys)
is_all z (all ys) zs e = (ys, refl, cc)
is_all z (bad_at k) zs e = absurd (let q : ◌≡◌ {A = ℕ} 0 1 = cc in omega arith)

-- where no word is bad, the words listed are all
pub listed_all : (k : ℕ) (rs : List (List ℕ)) (zs : List ℤ) → words_from k rs ≡ all zs → listed rs ≡ zs
listed_all k [] zs e =
    let w = words_none k in
    rw listed_none (let q : zs ≡ [] = cc in sym q)
listed_all k (run ∷ rs) zs e = at (word run) refl (λ ys f. listed_all (suc k) rs ys f)
  where
    at : (o : Option ℤ) → word run ≡ o → ((ys : List ℤ) → words_from (suc k) rs ≡ all ys → listed rs ≡ ys) → listed (run ∷ rs) ≡ zs
    at none f g = let w = words_bad k run rs f in cc
    at (some z) f g =
        let w = is_all z (words_from (suc k) rs) zs (sym (words_good k run rs z f) ∙ e) in
        listed_good run rs z f ∙ ap (λ (l : List ℤ). z ∷ l) (g w.0 w.1) ∙ sym w.2

counted_all_lem : (w : Words) (m : Result ℕ Refusal) (n : ℕ) → m ≡ Ok n → MatchResult (count_of 0 w) (λ x. m ≡ Ok x) (λ e. IsErrAnd m (λ y. y ≡ BadNumber e)) → (zs : List ℤ) × (w ≡ all zs) × (length zs ≡ n)
counted_all_lem (all zs) m n e h = (zs, refl, let q : 0 + length zs ≡ n = cc in omega arith)
counted_all_lem (bad_at k) (Ok x) n e h = absurd h
counted_all_lem (bad_at k) (Err x) n e h = cc

counted_bad_lem : (w : Words) (m : Result ℕ Refusal) (f : Refusal) → m ≡ Err f → MatchResult (count_of 0 w) (λ x. m ≡ Ok x) (λ e. IsErrAnd m (λ y. y ≡ BadNumber e)) → (i : ℕ) × (w ≡ bad_at i) × (f ≡ BadNumber i)
counted_bad_lem (all zs) m f e h = cc
counted_bad_lem (bad_at k) (Ok x) f e h = absurd h
counted_bad_lem (bad_at k) (Err x) f e h = (k, refl, let q : x ≡ f = cc in sym q ∙ h)

-- what is made of the count: a bad number is a refusal
module _ (w : Words) (r : Result ℕ ℕ) (m : Result ℕ Refusal) (c : r ≡ count_of 0 w) (k : MatchResult r (λ x. m ≡ Ok x) (λ e. IsErrAnd m (λ y. y ≡ BadNumber e))) where
  told : MatchResult (count_of 0 w) (λ x. m ≡ Ok x) (λ e. IsErrAnd m (λ y. y ≡ BadNumber e))
  told = subst (λ (s : Result ℕ ℕ). MatchResult s (λ x. m ≡ Ok x) (λ e. IsErrAnd m (λ y. y ≡ BadNumber e))) c k

  pub counted_all : (n : ℕ) → m ≡ Ok n → (zs : List ℤ) × (w ≡ all zs) × (length zs ≡ n)
  counted_all n e = counted_all_lem w m n e told

  pub counted_bad : (f : Refusal) → m ≡ Err f → (i : ℕ) × (w ≡ bad_at i) × (f ≡ BadNumber i)
  counted_bad f e = counted_bad_lem w m f e told

-- ---- words stored are words laid over

sets_further : (x : ℤ) (l : List ℤ) (i : ℕ) (zs : List ℤ) → sets (x ∷ l) (suc i) zs ≡ x ∷ sets l i zs
sets_further x l i [] = refl
sets_further x l i (z ∷ zs) = sets_further x (set l i z) (suc i) zs

sets_empty : (i : ℕ) (zs : List ℤ) → sets [] i zs ≡ []
sets_empty i [] = refl
sets_empty i (z ∷ zs) = sets_empty (suc i) zs

pub sets_over : (zs old : List ℤ) → sets old 0 zs ≡ over zs old
sets_over [] old = refl
sets_over (z ∷ zs) [] = sets_empty 1 zs
sets_over (z ∷ zs) (o ∷ old) = sets_further z old 0 zs ∙ ap (λ (l : List ℤ). z ∷ l) (sets_over zs old)

-- ---- the text

module _ (bs : List ℕ) where
  pub text_long : 65536 < length bs → text_of bs ≡ refused TooManyBytes
  unfolding text_of
  text_long h = rw (lt-ltb 65536 (length bs) h, text_of)

  pub text_short : length bs ≤ 65536 → text_of bs ≡ text_of_runs (runs bs)
  unfolding text_of
  text_short h = rw (le-ltb 65536 (length bs) h, text_of)

-- number 0 decides first: the run that is the first, or none at all
module _ (bs : List ℕ) (at : ℕ) (s : Starts bs at) (e : runs (drop at bs) ≡ runs bs) where
  pub limit_first : text_of_runs (runs bs) ≡ with_limit (limit (take (at + spanned (drop at bs) - at) (drop at bs))) (runs (drop (at + spanned (drop at bs)) bs))
  unfolding limit number
  limit_first =
      ⊎_elim
      (λ h. let k : length bs ≤ at = omega arith in rw (← e, runs_end bs at k, span_end_run bs at k))
      (λ h. rw (← e, run_first bs at s h))
      (eq-or-lt_of_le s.inside)

-- ---- the contract of `read`

pub refused_as : (bs : List ℕ) (old : List ℤ) (r : Refusal) → text_of bs ≡ refused r → ReadAs bs old (Err r) old
refused_as bs old r e = record { result = rw e; words = rw e }

-- the same where a `?` hands the refusal on
pub refused_on : (bs : List ℕ) (old : List ℤ) (r : Result (ℕ × ℕ) Refusal) (e f : Refusal) → IsErrAnd r (λ y. y ≡ e) → e ≡ f → text_of bs ≡ refused f → ReadAs bs old r old
refused_on bs old (Ok x) e f h k q = absurd h
refused_on bs old (Err y) e f h k q = rw (h, k) (refused_as bs old f q)

pub read_as : (bs : List ℕ) (old new : List ℤ) (l n : ℕ) (zs : List ℤ) → text_of bs ≡ text l zs → length zs ≡ n → new ≡ sets old 0 zs → ReadAs bs old (Ok (l, n)) new
read_as bs old new l n zs e f g = record { result = rw (e, f); words = rw (e, g) (sets_over zs old) }
