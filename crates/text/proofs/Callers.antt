-- What a caller of `read` may rely on: there is room for every text's words, what the buffer then holds, and that result and buffer are
-- determined by the text and the old buffer. Assumes nothing.
use mathlib.Core.Path.{◌≡◌, refl, sym, ap, ◌∙◌}
use mathlib.Core.Bool.{Bool, true, false}
use mathlib.Core.List.{List, [], ◌∷◌, ◌++◌}
use mathlib.Core.Option.{Option, some, none}
use Prim.Native.Nat.{ℕ, suc, ◌+◌, ◌*◌, ◌<◌, ◌≤◌}
use native.Mathlib.Nat.{le_of_suc-le-suc}
use native.Mathlib.Omega.{arith}
use borrow.Author.Tests.{ltb-true, ltb-false}
use lib.Dec.{ltb}
use lib.IntN.{ℤ}
use lib.ListN.{length, take, drop, length-append}
use Rattle.results.specs.declared.Refusal.{Refusal}
use Rattle.std.specs.Prelude.{Result, Ok, Err}
use Rattle.text.specs.Text.{parting, ended, runs_from, runs, limit, word, Words, all, bad_at, words_from, Text, text, refused, with_limit, with_words, text_of_runs, text_of, over, reading_of, words_left, ReadAs}
use Rattle.text.proofs.Scanning.{runs_parted, runs_longer, runs_none}
use Rattle.text.proofs.Reading.{words_good, words_bad, words_none, is_all, text_long, text_short}

-- ---- a text of 65,536 bytes has at most 32,768 numbers

ended_few : (run : List ℕ) (rs : List (List ℕ)) (n : ℕ) → 2 * length rs ≤ n + 1 → 2 * length (ended run rs) ≤ length run + suc n + 1
ended_few [] rs n h = omega arith
ended_few (b ∷ run) rs n h = omega arith

pub runs_few : (run bs : List ℕ) → 2 * length (runs_from run bs) ≤ length run + length bs + 1
runs_few run [] = rw (runs_none run) (at run)
  where
    at : (l : List ℕ) → 2 * length (ended l []) ≤ length l + 0 + 1
    at [] = omega arith
    at (b ∷ l) = omega arith
runs_few run (b ∷ bs) = at (parting b) refl (runs_few [] bs) (runs_few (run ++ (b ∷ [])) bs)
  where
    at : (t : Bool) → parting b ≡ t → 2 * length (runs bs) ≤ 0 + length bs + 1 → 2 * length (runs_from (run ++ (b ∷ [])) bs) ≤ length (run ++ (b ∷ [])) + length bs + 1
        → 2 * length (runs_from run (b ∷ bs)) ≤ length run + suc (length bs) + 1
    at true e h k = rw (runs_parted run b bs e) (ended_few run (runs bs) (length bs) (omega arith))
    at false e h k = let l = length-append run (b ∷ []) in rw (runs_longer run b bs e) (omega arith)

all_length : (k : ℕ) (rs : List (List ℕ)) (zs : List ℤ) → words_from k rs ≡ all zs → length zs ≡ length rs
all_length k [] zs e =
    let w = words_none k in
    let q : zs ≡ [] = cc in
    ap length q
all_length k (run ∷ rs) zs e = at (word run) refl (λ ys f. all_length (suc k) rs ys f)
  where
    at : (o : Option ℤ) → word run ≡ o → ((ys : List ℤ) → words_from (suc k) rs ≡ all ys → length ys ≡ length rs) → length zs ≡ suc (length rs)
    at none f g = let w = words_bad k run rs f in cc
    at (some z) f g =
        let w = is_all z (words_from (suc k) rs) zs (sym (words_good k run rs z f) ∙ e) in
        ap length w.2 ∙ ap suc (g w.0 w.1)

with_words_lem : (l m : ℕ) (w : Words) (zs : List ℤ) → with_words l w ≡ text m zs → w ≡ all zs
with_words_lem l m (all ys) zs e = cc
with_words_lem l m (bad_at k) zs e = cc

with_limit_lem : (o : Option ℕ) (rs : List (List ℕ)) (m : ℕ) (zs : List ℤ) → with_limit o rs ≡ text m zs → words_from 1 rs ≡ all zs
with_limit_lem none rs m zs e = cc
with_limit_lem (some l) rs m zs e = with_words_lem l m (words_from 1 rs) zs e

of_runs : (rs : List (List ℕ)) (l : ℕ) (zs : List ℤ) → text_of_runs rs ≡ text l zs → length zs < length rs
of_runs [] l zs e = absurd (let q : ◌≡◌ {A = ℕ} 0 1 = cc in omega arith)
of_runs (run ∷ rs) l zs e = let k = all_length 1 rs zs (with_limit_lem (limit run) rs l zs e) in omega arith

pub words_few : (bs : List ℕ) (l : ℕ) (zs : List ℤ) → text_of bs ≡ text l zs → length zs < 32768
words_few bs l zs e = at (ltb 65536 (length bs)) refl
  where
    at : (t : Bool) → ltb 65536 (length bs) ≡ t → length zs < 32768
    at true f =
        let w = text_long bs (ltb-true 65536 (length bs) f) in
        absurd (let q : ◌≡◌ {A = ℕ} 0 1 = cc in omega arith)
    at false f =
        let h = ltb-false 65536 (length bs) f in
        let k = of_runs (runs bs) l zs (sym (text_short bs h) ∙ e) in
        let m = runs_few [] bs in
        omega arith

-- ---- what the buffer holds

over_front : (zs old : List ℤ) → length zs ≤ length old → take (length zs) (over zs old) ≡ zs
over_front [] old h = refl
over_front (z ∷ zs) [] h = absurd (omega arith)
over_front (z ∷ zs) (o ∷ old) h = ap (λ (l : List ℤ). z ∷ l) (over_front zs old (le_of_suc-le-suc h))

over_rest : (zs old : List ℤ) → drop (length zs) (over zs old) ≡ drop (length zs) old
over_rest [] old = refl
over_rest (z ∷ zs) [] = refl
over_rest (z ∷ zs) (o ∷ old) = over_rest zs old

pub over_long : (zs old : List ℤ) → length (over zs old) ≡ length old
over_long [] old = refl
over_long (z ∷ zs) [] = refl
over_long (z ∷ zs) (o ∷ old) = ap suc (over_long zs old)

-- the words that were read, at the front of a buffer of 32,768
pub record Front (bs : List ℕ) (l n : ℕ) (old new : List ℤ) : Type 0 where
  pub said : text_of bs ≡ text l (take n new)
  pub few : n < 32768
  pub room : n ≤ length new
  pub rest : drop n new ≡ drop n old
  pub long : length (take n new) ≡ n

is_read_lem : (t : Text) (l n : ℕ) → reading_of t ≡ Ok (l, n) → (zs : List ℤ) × (t ≡ text l zs) × (length zs ≡ n)
is_read_lem (text m zs) l n e =
    let p : ◌≡◌ {A = ℕ × ℕ} (m, length zs) (l, n) = cc in
    let a : m ≡ l = ap (λ (q : ℕ × ℕ). q.0) p in
    let b : length zs ≡ n = ap (λ (q : ℕ × ℕ). q.1) p in
    (zs, cc, b)
is_read_lem (refused r) l n e = absurd (let q : ◌≡◌ {A = ℕ} 0 1 = cc in omega arith)

is_refused_lem : (t : Text) (r : Refusal) → reading_of t ≡ Err r → t ≡ refused r
is_refused_lem (text m zs) r e = cc
is_refused_lem (refused q) r e = cc

front_of : (bs : List ℕ) (old new : List ℤ) (l n : ℕ) (zs : List ℤ) → length old ≡ 32768 → text_of bs ≡ text l zs → length zs ≡ n → new ≡ over zs old → Front bs l n old new
front_of bs old new l n zs h e f g =
    let k = words_few bs l zs e in
    let t : take n new ≡ zs = rw (g, ← f) (over_front zs old (omega arith)) in
    let d : drop n new ≡ drop n old = rw (g, ← f) (over_rest zs old) in
    let m : length new ≡ length old = ap length g ∙ over_long zs old in
    record { said = rw t e; few = omega arith; room = omega arith; rest = d; long = ap length t ∙ f }

pub read_front : (bs : List ℕ) (old new : List ℤ) (l n : ℕ) → length old ≡ 32768 → ReadAs bs old (Ok (l, n)) new → Front bs l n old new
read_front bs old new l n h a =
    let w = is_read_lem (text_of bs) l n (sym a.result) in
    front_of bs old new l n w.0 h w.1 w.2 (a.words ∙ ap (λ (t : Text). words_left t old) w.1)

pub read_refused : (bs : List ℕ) (old new : List ℤ) (r : Refusal) → ReadAs bs old (Err r) new → (text_of bs ≡ refused r) × (new ≡ old)
read_refused bs old new r a =
    let e = is_refused_lem (text_of bs) r (sym a.result) in
    (e, a.words ∙ ap (λ (t : Text). words_left t old) e)

-- ---- one result, one buffer

pub read_unique : (bs : List ℕ) (old : List ℤ) (r s : Result (ℕ × ℕ) Refusal) (new other : List ℤ) → ReadAs bs old r new → ReadAs bs old s other → (r ≡ s) × (new ≡ other)
read_unique bs old r s new other a b = (a.result ∙ sym b.result, a.words ∙ sym b.words)

-- the buffer keeps its length
left_long : (t : Text) (old : List ℤ) → length (words_left t old) ≡ length old
left_long (text l zs) old = over_long zs old
left_long (refused r) old = refl

pub read_long : (bs : List ℕ) (old new : List ℤ) (r : Result (ℕ × ℕ) Refusal) → ReadAs bs old r new → length new ≡ length old
read_long bs old new r a = ap length a.words ∙ left_long (text_of bs) old
