-- Reading with parsers one after another, and the tests of single tokens. Assumes nothing.
use mathlib.Core.Path.{◌≡◌, refl, sym, ap, ◌∙◌, subst}
use mathlib.Core.Bool.{Bool, true, false}
use mathlib.Core.List.{List, [], ◌∷◌, ◌++◌}
use Prim.Native.Nat.{ℕ, suc, ◌≤◌, ◌<◌}
use native.Mathlib.Omega.{arith}
use borrow.Author.Tests.{lt-ltb, le-leb}
use lib.Dec.{T}
use lib.ListN.{length, length-append}
use Rattle.notation.specs.Tokens.{Token}
use Rattle.notation.specs.Parser.{Why, Parser, done, stop, next, ◌>>=◌, Result, made, failed, run, check, last_from, member}

-- ---- results taken apart

abbrev is_made : {A : Type 0} → Result A → Bool
is_made (made x ts) = true
is_made (failed w k) = false

abbrev rest_in : {A : Type 0} → List Token → Result A → List Token
rest_in d (made x ts) = ts
rest_in d (failed w k) = d

abbrev made_in : {A : Type 0} → A → Result A → A
made_in d (made x ts) = x
made_in d (failed w k) = d

module _ {A : Type 0} where
  failed≢made {ℓ} : {X : Type ℓ} {w : Why} {k : ℕ} {x : A} {ts : List Token} → failed w k ≡ made x ts → X
  failed≢made e = absurd (subst T (ap is_made (sym e)) tt)

-- ---- one parser after another

pub bind : {A B : Type 0} (p : Parser A) (f : A → Parser B) (ts us : List Token) (x : A) → run p ts ≡ made x us → run (p >>= f) ts ≡ run (f x) us
unfolding run
bind (done y) f ts us x e = ap (λ (z : _). run (f z) ts) (ap (made_in x) e) ∙ ap (run (f x)) (ap (rest_in us) e)
bind (stop w k) f ts us x e = failed≢made e
bind (next g) f [] us x e = failed≢made e
bind (next g) f (t ∷ ts) us x e = bind (g t) f ts us x e

pub check_run : {B : Type 0} (b : Bool) (w : Why) (k : ℕ) (f : Bool → Parser B) (ts : List Token) → b ≡ true → run (check b w k >>= f) ts ≡ run (f true) ts
unfolding run
check_run b w k f ts e = ap (λ (x : Bool). run (check x w k >>= f) ts) e

-- ---- a member of a list

pub last_snoc : (x : ℕ) (l : List ℕ) (p : ℕ) → last_from x (l ++ (p ∷ [])) ≡ p
last_snoc x [] p = refl
last_snoc x (y ∷ l) p = last_snoc y l p

pub snoc_long : {A : Type 0} (l : List A) (x : A) → length (l ++ (x ∷ [])) ≡ suc (length l)
snoc_long l x = length-append l (x ∷ []) ∙ omega arith

module _ (k top most : ℕ) (l : List ℕ) (p : ℕ) where
  pub member_is : last_from 0 l < p → p ≤ top → length l < most → member k top most l p ≡ done (l ++ (p ∷ []))
  unfolding member
  member_is h i j =
      let a : 0 < p = omega arith in
      rw (lt-ltb 0 p a, le-leb p top i, lt-ltb (last_from 0 l) p h, lt-ltb (length l) most j)

  pub member_run : (ts : List Token) → last_from 0 l < p → p ≤ top → length l < most → run (member k top most l p) ts ≡ made (l ++ (p ∷ [])) ts
  unfolding run
  member_run ts h i j = ap (λ (q : Parser (List ℕ)). run q ts) (member_is h i j)

  -- and then what comes after it
  pub member_then : {B : Type 0} (f : List ℕ → Parser B) (ts : List Token) → last_from 0 l < p → p ≤ top → length l < most → run (member k top most l p >>= f) ts ≡ run (f (l ++ (p ∷ []))) ts
  member_then f ts h i j = bind (member k top most l p) f ts ts (l ++ (p ∷ [])) (member_run ts h i j)
