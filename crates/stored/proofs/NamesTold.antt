-- Names as the code takes them from the bytes: what it was told of one, and of all, and where the next begins. Assumes nothing.
use mathlib.Core.Path.{◌≡◌, refl, sym, ap, ◌∙◌, subst}
use mathlib.Core.Bool.{Bool, true, false, ◌||◌, or-false}
use mathlib.Core.List.{List, [], ◌∷◌}
use Prim.Native.Nat.{ℕ, zero, suc, ◌+◌, ◌-◌, ◌≤◌, ◌<◌}
use native.Mathlib.Omega.{arith}
use lib.Dec.{T, ltb}
use lib.IntN.{nat_abs}
use lib.ListN.{length, take, drop, length-drop}
use lib.Seq.{drop-drop, length-take-le}
use Rattle.std.specs.Prelude.{Some, Ok, Err}
use borrow.Author.Tests.{le-leb, lt-leb}
use Rattle.results.specs.declared.Refusal.{Refusal}
use Rattle.results.specs.declared.Refusal.TheVariants.{Absent}
use Rattle.table.specs.Roles.{count}
use Rattle.stored.specs.Bytes.{stop, step_of, name_by, Name, unread, name, name_of, Names, nameless, names, name_first, names_of, named}
use Rattle.stored.specs.Taking.{Named, name_told, names_told}
use Rattle.stored.specs.declared.points.Asked.TheVariants as asked
use Rattle.stored.proofs.NameLaws.{spelt, names_nil, names_on, names_stop, name_after_lem, named_cons, nameless≢names}
use Rattle.stored.proofs.Telling.{number_stands, Said}

-- ---- what it was told of a name

abbrev is_names : Named → Bool
is_names (Ok (filled, j)) = true
is_names (Err f) = false

abbrev filled_in : Named → Bool
filled_in (Ok (filled, j)) = filled
filled_in (Err f) = false

abbrev past_in : Named → ℕ
past_in (Ok (filled, j)) = j
past_in (Err f) = 0

abbrev refusal_in : Refusal → Named → Refusal
refusal_in d (Ok (filled, j)) = d
refusal_in d (Err f) = f

-- a name that was read, in the whole of the bytes
pub record Named-as (l : List ℕ) (i : ℕ) (filled : Bool) (j : ℕ) : Type 0 where
  pub x : List ℕ
  pub is : name_of i (drop i l) ≡ name x j (drop j l)
  pub fills : filled ≡ ltb 0 (length x)
  pub high : j ≤ length l

name_stands : (l : List ℕ) (i : ℕ) (x : List ℕ) (j : ℕ) (rest : List ℕ) → i ≤ length l → name_of i (drop i l) ≡ name x j rest → (j ≤ length l) × (rest ≡ drop j l)
name_stands l i x j rest h e =
    let s = spelt i (drop i l) x j rest e in
    let d = number_stands (Some (asked.Count 32)) l i s.w s.q s.left h s.step in
    let r = s.room in
    let n = s.next in
    let m : length s.left ≡ length l - s.q = ap length d.after ∙ length-drop s.q l in
    let k = d.high in
    (omega arith, s.after ∙ ap (drop (nat_abs s.w)) d.after ∙ drop-drop (nat_abs s.w) s.q l ∙ ap (λ (p : ℕ). drop p l) (sym n))

pub name_told_lem : (l : List ℕ) (i : ℕ) (filled : Bool) (j : ℕ) → i ≤ length l → name_told (name_of i (drop i l)) ≡ Ok (filled, j) → Named-as l i filled j
name_told_lem l i filled j h e = at (name_of i (drop i l)) refl e
  where
    at : (s : Name) → name_of i (drop i l) ≡ s → name_told s ≡ Ok (filled, j) → Named-as l i filled j
    at (unread f) k g = absurd (subst T (sym (ap is_names g)) tt)
    at (name x m rest) k g =
        let d = name_stands l i x m rest h k in
        let p : m ≡ j = ap past_in g in
        record { x = x; is = k ∙ ap (name x m) d.1 ∙ ap (λ (q : ℕ). name x q (drop q l)) p; fills = sym (ap filled_in g); high = subst (λ (q : ℕ). q ≤ length l) p d.0 }

pub name_refused : (s : Name) (f : Refusal) → name_told s ≡ Err f → s ≡ unread f
name_refused (unread r) f e = ap unread (ap (refusal_in f) e)
name_refused (name x j bs) f e = absurd (subst T (ap is_names e) tt)

-- a name, by its length
module _ (l : List ℕ) (i n : ℕ) (minus : Bool) (j : ℕ) (s : Said (step_of (count 32) i (drop i l)) n minus j) (h : i ≤ length l) where
  long : length s.rest ≡ length l - j
  long = ap length (number_stands (Some (asked.Count 32)) l i s.w j s.rest h s.step).after ∙ length-drop j l

  pub name_cut : length l - j < n → Err (Absent j) ≡ name_told (name_of i (drop i l))
  name_cut k =
      let m = s.size in
      let q = long in
      sym (ap name_told (name_after_lem i (drop i l) _ s.step ∙ ap (λ (b : Bool). name_by b (nat_abs s.w) j s.rest) (lt-leb (nat_abs s.w) (length s.rest) (omega arith))))

  pub name_whole : n ≤ length l - j → Ok (ltb 0 n, j + n) ≡ name_told (name_of i (drop i l))
  name_whole k =
      let m = s.size in
      let q = long in
      let r : nat_abs s.w ≤ length s.rest = omega arith in
      let e : length (take (nat_abs s.w) s.rest) ≡ n = length-take-le (nat_abs s.w) s.rest r ∙ sym m in
      sym (ap name_told (name_after_lem i (drop i l) _ s.step ∙ ap (λ (b : Bool). name_by b (nat_abs s.w) j s.rest) (le-leb (nat_abs s.w) (length s.rest) r))
      ∙ ap (λ (x : ℕ). Ok (ltb 0 x, j + nat_abs s.w)) e
      ∙ ap (λ (x : ℕ). Ok (ltb 0 n, j + x)) (sym m))

pub name_stop : (l : List ℕ) (i : ℕ) (f : Refusal) → step_of (count 32) i (drop i l) ≡ stop f → Err f ≡ name_told (name_of i (drop i l))
name_stop l i f e = sym (ap name_told (name_after_lem i (drop i l) (stop f) e))

-- ---- names, one after another

abbrev pub or_named : Bool → Named → Named
or_named b (Ok (filled, j)) = Ok (b || filled, j)
or_named b (Err f) = Err f

pub or_none : (s : Named) → or_named false s ≡ s
or_none (Ok (filled, j)) = refl
or_none (Err f) = refl

or_again : (a b : Bool) (s : Named) → or_named a (or_named b s) ≡ or_named (b || a) s
or_again true true (Ok (filled, j)) = refl
or_again true false (Ok (filled, j)) = refl
or_again false true (Ok (filled, j)) = refl
or_again false false (Ok (filled, j)) = refl
or_again a b (Err f) = refl

first_told : (x : List ℕ) (s : Names) → names_told (name_first x s) ≡ or_named (ltb 0 (length x)) (names_told s)
first_told x (nameless f) = refl
first_told x (names xs j bs) = ap (λ (b : Bool). Ok (b, j)) (named_cons x xs)

-- what is told of all names is told of those left, and of those passed
abbrev pub Naming : List ℕ → ℕ → ℕ → Bool → ℕ → ℕ → Type 0
Naming l n i any left to = names_told (names_of n i (drop i l)) ≡ or_named any (names_told (names_of left to (drop to l)))

module _ (l : List ℕ) (n i : ℕ) (any : Bool) (left to : ℕ) (h : Naming l n i any left to) where
  pub naming_on : 0 < left → (filled : Bool) (j : ℕ) → Named-as l to filled j → Naming l n i (filled || any) (left - 1) j
  naming_on k filled j d =
      let e : left ≡ suc (left - 1) = omega arith in
      h
      ∙ ap (λ (m : ℕ). or_named any (names_told (names_of m to (drop to l)))) e
      ∙ ap (λ (s : Names). or_named any (names_told s)) (names_on (left - 1) to (drop to l) d.x j (drop j l) d.is)
      ∙ ap (or_named any) (first_told d.x (names_of (left - 1) j (drop j l)))
      ∙ ap (λ (b : Bool). or_named any (or_named b (names_told (names_of (left - 1) j (drop j l))))) (sym d.fills)
      ∙ or_again any filled (names_told (names_of (left - 1) j (drop j l)))

  pub naming_stop : 0 < left → (f : Refusal) → name_of to (drop to l) ≡ unread f → Err f ≡ names_told (names_of n i (drop i l))
  naming_stop k f e =
      let m : left ≡ suc (left - 1) = omega arith in
      sym (h ∙ ap (λ (q : ℕ). or_named any (names_told (names_of q to (drop to l)))) m ∙ ap (λ (s : Names). or_named any (names_told s)) (names_stop (left - 1) to (drop to l) f e))

  pub naming_done : left ≤ 0 → Ok (any, to) ≡ names_told (names_of n i (drop i l))
  naming_done k =
      let m : left ≡ 0 = omega arith in
      sym (h
      ∙ ap (λ (q : ℕ). or_named any (names_told (names_of q to (drop to l)))) m
      ∙ ap (λ (s : Names). or_named any (names_told s)) (names_nil to (drop to l))
      ∙ ap (λ (b : Bool). Ok (b, to)) (or-false any))

-- ---- all names

abbrev place_in : Names → ℕ
place_in (nameless f) = 0
place_in (names xs j bs) = j

abbrev rest_of : Names → List ℕ
rest_of (nameless f) = []
rest_of (names xs j bs) = bs

names_stand : (n : ℕ) (l : List ℕ) (i : ℕ) (xs : List (List ℕ)) (j : ℕ) (rest : List ℕ) → i ≤ length l → names_of n i (drop i l) ≡ names xs j rest → (j ≤ length l) × (rest ≡ drop j l)
names_stand zero l i xs j rest h e =
    let g : names [] i (drop i l) ≡ names xs j rest = sym (names_nil i (drop i l)) ∙ e in
    let p : i ≡ j = ap place_in g in
    (subst (λ (q : ℕ). q ≤ length l) p h, sym (ap rest_of g) ∙ ap (λ (q : ℕ). drop q l) p)
names_stand (suc n) l i xs j rest h e = at (name_of i (drop i l)) refl (λ q ys m left b t. names_stand n l q ys m left b t)
  where
    at : (s : Name) → name_of i (drop i l) ≡ s
        → ((q : ℕ) (ys : List (List ℕ)) (m : ℕ) (left : List ℕ) → q ≤ length l → names_of n q (drop q l) ≡ names ys m left → (m ≤ length l) × (left ≡ drop m l)) → (j ≤ length l) × (rest ≡ drop j l)
    at (unread f) s again = nameless≢names (sym (names_stop n i (drop i l) f s) ∙ e)
    at (name x q r) s again =
        let d = name_stands l i x q r h s in
        on (names_of n q (drop q l)) refl (names_on n i (drop i l) x q r s ∙ ap (λ (b : List ℕ). name_first x (names_of n q b)) d.1) d.0
      where
        on : (t : Names) → names_of n q (drop q l) ≡ t → names_of (suc n) i (drop i l) ≡ name_first x (names_of n q (drop q l)) → q ≤ length l → (j ≤ length l) × (rest ≡ drop j l)
        on (nameless f) t k b = nameless≢names (sym (k ∙ ap (name_first x) t) ∙ e)
        on (names ys m left) t k b =
            let g : names (x ∷ ys) m left ≡ names xs j rest = sym (k ∙ ap (name_first x) t) ∙ e in
            let c = again q ys m left b t in
            let p : m ≡ j = ap place_in g in
            (subst (λ (z : ℕ). z ≤ length l) p c.0, sym (ap rest_of g) ∙ c.1 ∙ ap (λ (z : ℕ). drop z l) p)

-- what was told of all names
pub record All (l : List ℕ) (n i : ℕ) (filled : Bool) (j : ℕ) : Type 0 where
  pub xs : List (List ℕ)
  pub are : names_of n i (drop i l) ≡ names xs j (drop j l)
  pub fills : filled ≡ named xs
  pub high : j ≤ length l

pub names_told_lem : (l : List ℕ) (n i : ℕ) (filled : Bool) (j : ℕ) → i ≤ length l → names_told (names_of n i (drop i l)) ≡ Ok (filled, j) → All l n i filled j
names_told_lem l n i filled j h e = at (names_of n i (drop i l)) refl e
  where
    at : (s : Names) → names_of n i (drop i l) ≡ s → names_told s ≡ Ok (filled, j) → All l n i filled j
    at (nameless f) k g = absurd (subst T (sym (ap is_names g)) tt)
    at (names xs m rest) k g =
        let d = names_stand n l i xs m rest h k in
        let p : m ≡ j = ap past_in g in
        record { xs = xs; are = k ∙ ap (names xs m) d.1 ∙ ap (λ (q : ℕ). names xs q (drop q l)) p; fills = sym (ap filled_in g); high = subst (λ (q : ℕ). q ≤ length l) p d.0 }

pub names_refused : (s : Names) (f : Refusal) → names_told s ≡ Err f → s ≡ nameless f
names_refused (nameless r) f e = ap nameless (ap (refusal_in f) e)
names_refused (names xs j bs) f e = absurd (subst T (ap is_names e) tt)
