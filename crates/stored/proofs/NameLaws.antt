-- Names in bytes: what is laid is read back, and what is read was laid. Assumes nothing.
use mathlib.Core.Path.{◌≡◌, refl, sym, ap, ◌∙◌, subst}
use mathlib.Core.Bool.{Bool, true, false, ◌||◌}
use mathlib.Core.List.{List, [], ◌∷◌, ◌++◌, append_assoc}
use Prim.Native.Nat.{ℕ, zero, suc, ◌+◌, ◌≤◌}
use native.Mathlib.Omega.{arith}
use lib.Dec.{T, leb, ltb}
use lib.IntN.{ℤ, pos, nat_abs}
use lib.ListN.{length, take, drop, length-append, length-take, take-append-drop}
use lib.Seq.{take-append_seam, drop-append_seam}
use Rattle.std.specs.Prelude.{Some}
use borrow.Author.Tests.{le-leb, leb-true, lt-ltb}
use Rattle.results.specs.declared.Refusal.{Refusal}
use Rattle.table.specs.Roles.{count}
use Rattle.table.proofs.Faults.{count_in_lem, count_good}
use Rattle.stored.specs.Bytes.{two, Bytes, Short, no_names, named, names_bytes, Step, stop, go, step_of, Name, unread, name, name_by, name_after, name_of, Names, nameless, names, name_first, names_of}
use Rattle.stored.specs.declared.points.Asked.TheVariants as asked
use Rattle.stored.proofs.NumberLaws.{number_read, number_written}

-- ---- walks

pub names_nil : (i : ℕ) (bs : List ℕ) → names_of 0 i bs ≡ names [] i bs
unfolding names_of
names_nil i bs = refl

pub names_on : (n i : ℕ) (bs x : List ℕ) (j : ℕ) (rest : List ℕ) → name_of i bs ≡ name x j rest → names_of (suc n) i bs ≡ name_first x (names_of n j rest)
unfolding names_of
names_on n i bs x j rest e = rw (e, names_of)

pub names_stop : (n i : ℕ) (bs : List ℕ) (r : Refusal) → name_of i bs ≡ unread r → names_of (suc n) i bs ≡ nameless r
unfolding names_of
names_stop n i bs r e = rw (e, names_of)

pub name_after_lem : (i : ℕ) (bs : List ℕ) (s : Step) → step_of (count 32) i bs ≡ s → name_of i bs ≡ name_after s
unfolding name_of
name_after_lem i bs s e = ap name_after e

-- ---- laid, then read

name_read : (i : ℕ) (x rest : List ℕ) → length x ≤ 32 → (j : ℕ) × (name_of i (two (length x) ++ (x ++ rest)) ≡ name x j rest)
name_read i x rest h =
    let s = number_read (Some (asked.Count 32)) i (pos (length x)) (x ++ rest) (omega arith) (count_in_lem 32 i (pos (length x)) refl h) in
    let l = length-append x rest in (
      i + 2 + length x,
      name_after_lem i (two (length x) ++ (x ++ rest)) _ s
          ∙ ap (λ (b : Bool). name_by b (length x) (i + 2) (x ++ rest)) (le-leb (length x) (length (x ++ rest)) (omega arith))
          ∙ ap (λ (y : List ℕ). name y (i + 2 + length x) (drop (length x) (x ++ rest))) (take-append_seam x rest)
          ∙ ap (name x (i + 2 + length x)) (drop-append_seam x rest),
    )

pub names_read : (i : ℕ) (xs : List (List ℕ)) (rest : List ℕ) → Short xs → (j : ℕ) × (names_of (length xs) i (names_bytes xs ++ rest) ≡ names xs j rest)
names_read i [] rest h = (i, names_nil i rest)
names_read i (x ∷ xs) rest h =
    let a = name_read i x (names_bytes xs ++ rest) h.0 in
    let b = names_read a.0 xs rest h.2 in
    let s : (two (length x) ++ (x ++ names_bytes xs)) ++ rest ≡ two (length x) ++ (x ++ (names_bytes xs ++ rest)) =
    append_assoc (two (length x)) (x ++ names_bytes xs) rest ∙ ap (λ (l : List ℕ). two (length x) ++ l) (append_assoc x (names_bytes xs) rest) in
    (b.0, ap (names_of (suc (length xs)) i) s ∙ names_on (length xs) i _ x a.0 (names_bytes xs ++ rest) a.1 ∙ ap (name_first x) b.1)

-- ---- read, then laid

pub bytes_take : (n : ℕ) (bs : List ℕ) → Bytes bs → Bytes (take n bs)
bytes_take zero bs b = tt
bytes_take (suc n) [] b = tt
bytes_take (suc n) (x ∷ bs) b = (b.0, bytes_take n bs b.1)

pub bytes_drop : (n : ℕ) (bs : List ℕ) → Bytes bs → Bytes (drop n bs)
bytes_drop zero bs b = b
bytes_drop (suc n) [] b = tt
bytes_drop (suc n) (x ∷ bs) b = bytes_drop n bs b.1

abbrev is_name : Name → Bool
is_name (unread r) = false
is_name (name x j bs) = true

abbrev name_in : Name → List ℕ
name_in (unread r) = []
name_in (name x j bs) = x

abbrev place_in : Name → ℕ
place_in (unread r) = 0
place_in (name x j bs) = j

abbrev rest_in : Name → List ℕ
rest_in (unread r) = []
rest_in (name x j bs) = bs

pub unread≢name {ℓ} : {X : Type ℓ} {r : Refusal} {x : List ℕ} {j : ℕ} {bs : List ℕ} → unread r ≡ name x j bs → X
unread≢name e = absurd (subst T (ap is_name (sym e)) tt)

-- a name that was read
pub record Spelt (i : ℕ) (bs x : List ℕ) (j : ℕ) (rest : List ℕ) : Type 0 where
  pub w : ℤ
  pub q : ℕ
  pub left : List ℕ
  pub step : step_of (count 32) i bs ≡ go w q left
  pub room : nat_abs w ≤ length left
  pub is : x ≡ take (nat_abs w) left
  pub next : j ≡ q + nat_abs w
  pub after : rest ≡ drop (nat_abs w) left

pub spelt : (i : ℕ) (bs x : List ℕ) (j : ℕ) (rest : List ℕ) → name_of i bs ≡ name x j rest → Spelt i bs x j rest
spelt i bs x j rest e = at (step_of (count 32) i bs) refl
  where
    at : (s : Step) → step_of (count 32) i bs ≡ s → Spelt i bs x j rest
    at (stop r) s = unread≢name (sym (name_after_lem i bs (stop r) s) ∙ e)
    at (go w q left) s = by (leb (nat_abs w) (length left)) refl
      where
        by : (b : Bool) → leb (nat_abs w) (length left) ≡ b → Spelt i bs x j rest
        by false h = unread≢name (sym (name_after_lem i bs (go w q left) s ∙ ap (λ (b : Bool). name_by b (nat_abs w) q left) h) ∙ e)
        by true h =
            let g : name (take (nat_abs w) left) (q + nat_abs w) (drop (nat_abs w) left) ≡ name x j rest = sym (name_after_lem i bs (go w q left) s ∙ ap (λ (b : Bool). name_by b (nat_abs w) q left) h) ∙ e in
            record { w = w; q = q; left = left; step = s; room = leb-true (nat_abs w) (length left) h; is = sym (ap name_in g); next = sym (ap place_in g); after = sym (ap rest_in g) }

pub spelt_length : (i : ℕ) (bs x : List ℕ) (j : ℕ) (rest : List ℕ) (s : Spelt i bs x j rest) → length x ≡ nat_abs s.w
spelt_length i bs x j rest s = ap length s.is ∙ length-take (nat_abs s.w) s.left ∙ (let r = s.room in omega arith)

name_written : (i : ℕ) (bs x : List ℕ) (j : ℕ) (rest : List ℕ) → Bytes bs → name_of i bs ≡ name x j rest → (bs ≡ two (length x) ++ (x ++ rest)) × (length x ≤ 32) × Bytes x × Bytes rest
name_written i bs x j rest b e =
    let s = spelt i bs x j rest e in
    let n = number_written (Some (asked.Count 32)) i bs s.w s.q s.left (omega arith) b s.step in
    let k = spelt_length i bs x j rest s in
    let c = (count_good 32 i s.w n.good).1 in (
      n.stands
          ∙ ap (λ (m : ℕ). two m ++ s.left) (sym k)
          ∙ ap (λ (l : List ℕ). two (length x) ++ l) (sym (take-append-drop (nat_abs s.w) s.left) ∙ ap (λ (l : List ℕ). l ++ drop (nat_abs s.w) s.left) (sym s.is) ∙ ap (λ (l : List ℕ). x ++ l) (sym s.after)),
      omega arith,
      subst Bytes (sym s.is) (bytes_take (nat_abs s.w) s.left n.bytes),
      subst Bytes (sym s.after) (bytes_drop (nat_abs s.w) s.left n.bytes),
    )

abbrev are_names : Names → Bool
are_names (nameless r) = false
are_names (names xs j bs) = true

abbrev names_in : Names → List (List ℕ)
names_in (nameless r) = []
names_in (names xs j bs) = xs

abbrev past_in : Names → List ℕ
past_in (nameless r) = []
past_in (names xs j bs) = bs

pub nameless≢names {ℓ} : {X : Type ℓ} {r : Refusal} {xs : List (List ℕ)} {j : ℕ} {bs : List ℕ} → nameless r ≡ names xs j bs → X
nameless≢names e = absurd (subst T (ap are_names (sym e)) tt)

pub names_written : (n i : ℕ) (bs : List ℕ) (xs : List (List ℕ)) (j : ℕ) (rest : List ℕ) → Bytes bs → names_of n i bs ≡ names xs j rest
    → (bs ≡ names_bytes xs ++ rest) × (length xs ≡ n) × Short xs × Bytes rest
names_written zero i bs xs j rest b e =
    let g : names [] i bs ≡ names xs j rest = sym (names_nil i bs) ∙ e in (
      ap past_in g ∙ ap (λ (ys : List (List ℕ)). names_bytes ys ++ rest) (ap names_in g),
      sym (ap (λ (s : Names). length (names_in s)) g),
      subst Short (ap names_in g) tt,
      subst Bytes (ap past_in g) b,
    )
names_written (suc n) i bs xs j rest b e = at (name_of i bs) refl (λ q r ys m left c h. names_written n q r ys m left c h)
  where
    at : (s : Name) → name_of i bs ≡ s
        → ((q : ℕ) (r : List ℕ) (ys : List (List ℕ)) (m : ℕ) (left : List ℕ) → Bytes r → names_of n q r ≡ names ys m left → (r ≡ names_bytes ys ++ left) × (length ys ≡ n) × Short ys × Bytes left)
        → (bs ≡ names_bytes xs ++ rest) × (length xs ≡ suc n) × Short xs × Bytes rest
    at (unread r) s f = nameless≢names (sym (names_stop n i bs r s) ∙ e)
    at (name x q r) s f = on (names_of n q r) refl
      where
        on : (t : Names) → names_of n q r ≡ t → (bs ≡ names_bytes xs ++ rest) × (length xs ≡ suc n) × Short xs × Bytes rest
        on (nameless u) h = nameless≢names (ap (name_first x) (sym h) ∙ sym (names_on n i bs x q r s) ∙ e)
        on (names ys m left) h =
            let g : names (x ∷ ys) m left ≡ names xs j rest = ap (name_first x) (sym h) ∙ sym (names_on n i bs x q r s) ∙ e in
            let w = name_written i bs x q r b s in
            let d = f q r ys m left w.3 h in (
              w.0
                  ∙ ap (λ (l : List ℕ). two (length x) ++ (x ++ l)) d.0
                  ∙ sym (append_assoc (two (length x)) (x ++ names_bytes ys) left ∙ ap (λ (l : List ℕ). two (length x) ++ l) (append_assoc x (names_bytes ys) left))
                  ∙ ap (λ (zs : List (List ℕ)). names_bytes zs ++ left) (ap names_in g)
                  ∙ ap (λ (l : List ℕ). names_bytes xs ++ l) (ap past_in g),
              sym (ap (λ (t : Names). length (names_in t)) g) ∙ ap suc d.1,
              subst Short (ap names_in g) (w.1, w.2, d.2),
              subst Bytes (ap past_in g) d.3,
            )

-- ---- empty names

pub empty_short : (n : ℕ) → Short (no_names n)
empty_short zero = tt
empty_short (suc n) = (omega arith, tt, empty_short n)

pub empty_length : (n : ℕ) → length (no_names n) ≡ n
empty_length zero = refl
empty_length (suc n) = ap suc (empty_length n)

pub empty_unnamed : (n : ℕ) → named (no_names n) ≡ false
empty_unnamed zero = refl
empty_unnamed (suc n) = empty_unnamed n

pub unnamed_empty : (xs : List (List ℕ)) (n : ℕ) → length xs ≡ n → named xs ≡ false → xs ≡ no_names n
unnamed_empty [] n e h = ap no_names e
unnamed_empty ([] ∷ xs) n e h = ap (λ (l : List (List ℕ)). [] ∷ l) (unnamed_empty xs (length xs) refl h) ∙ ap no_names e
unnamed_empty ((b ∷ bs) ∷ xs) n e h = absurd (subst T h tt)

pub named_cons : (x : List ℕ) (xs : List (List ℕ)) → named (x ∷ xs) ≡ (ltb 0 (length x) || named xs)
named_cons [] xs = refl
named_cons (b ∷ x) xs = sym (ap (λ (t : Bool). t || named xs) (lt-ltb 0 (suc (length x)) (omega arith)))
