-- Where `may_cross` or `may_return` says no, there is no cycle of the kind, and so no lowest rule with one: the closure may be skipped.
-- Assumes nothing.
use mathlib.Core.Path.{◌≡◌, refl, ap, ap₂, ◌∙◌}
use mathlib.Core.Logic.{◌⊎◌, inl, inr}
use mathlib.Core.Bool.{Bool, true, false, not, ◌&&◌, ◌||◌}
use mathlib.Core.List.Memᴰ
use mathlib.Core.List.{List, [], ◌∷◌, map}
use Prim.Native.Nat.{ℕ, suc}
use native.Mathlib.Omega.{arith}
use lib.Dec.{eqb, ltb}
use lib.IntN.{ℤ, nat_abs}
use lib.ListN.{length}
use borrow.Author.Tests.{ne_eqb, lt-ltb}
use Rattle.std.specs.Prelude.{Some, None}
use Rattle.meaning.specs.Lists.{Is, ◌∈◌, any, has}
use Rattle.meaning.specs.Program.{Literal, Rule, Program}
use Rattle.meaning.specs.Dependency.{arc, Chain, stay, go}
use Rattle.meaning.specs.Cycles.{via, mutually, head_cycle, aggregate_cycle, returns as returning}
use Rattle.meaning.proofs.Tools.{clash, cases, or_false, eq_i, any_i, via_chain}
use Rattle.layout.specs.Layout.{atoms}
use Rattle.depend.specs.Cycles.{full, more, wide, makes_arcs, adds_arcs, may_cross, may_return, may_close, cycle_test, or_later, lowest}

-- ---- the tests of a list, by its length

pub full_none : (l : List ℤ) → length l ≡ 0 → full l ≡ false
full_none [] e = refl
full_none (w ∷ l) e = absurd (omega arith)

pub full_some : (l : List ℤ) → (length l ≡ 0 → ⊥) → full l ≡ true
full_some [] n = absurd (n refl)
full_some (w ∷ l) n = refl

pub full_length : (l : List ℤ) → not (eqb (length l) 0) ≡ full l
full_length [] = refl
full_length (w ∷ l) = ap not (ne_eqb (suc (length l)) 0 (λ e. omega arith))

full_map : {A : Type 0} (g : ℤ → A) (l : List ℤ) → full l ≡ full (map g l)
full_map g [] = refl
full_map g (w ∷ l) = refl

-- of words, and of what they stand for
pub full_both : {A : Type 0} (g : ℤ → A) (l m : List ℤ) → full l && full m ≡ full (atoms l) && full (map g m)
full_both g l m = ap₂ ◌&&◌ (full_map nat_abs l) (full_map g m)

pub more_length : (l : List ℤ) → ltb 1 (length l) ≡ more (atoms l)
more_length [] = refl
more_length (w ∷ []) = refl
more_length (w ∷ v ∷ l) = lt-ltb 1 (suc (suc (length l))) (omega arith)

-- ---- no rule passes

any_none : {A : Type 0} (f : A → Bool) (l : List A) → ((x : A) → f x ≡ false) → any f l ≡ false
any_none f [] h = refl
any_none f (x ∷ l) h = ap (λ (b : Bool). b || any f l) (h x) ∙ any_none f l h

not_any : {A : Type 0} (f : A → Bool) (l : List A) → any f l ≡ false → (x : A) → x ∈ l → f x ≡ false
not_any f l h x m = at (cases (f x))
  where
    at : Is (f x) ⊎ (f x ≡ false) → f x ≡ false
    at (inl e) = absurd (clash (any_i f l m e) h)
    at (inr e) = e

nowhere : (f : Rule → Bool) (k : ℕ) (P : Program) → ((r : Rule) → r ∈ P → f r ≡ false) → lowest f k P ≡ None
unfolding lowest
nowhere f k [] h = refl
nowhere f k (r ∷ P) h =
    ap (λ (b : Bool). or_later b (Some k) (lowest f (suc k) P)) (h r (Memᴰ.head refl)) ∙ nowhere f (suc k) P (λ s m. h s (Memᴰ.tail m))

-- ---- head cycles: two different atoms of one head, and a chain of arcs between them

module _ (n : ℕ) (P : Program) where
  -- an atom that reaches only itself is in no cycle with another
  apart : (p q : ℕ) → (Is (via (arc P) n p q) → p ≡ q) → mutually n P p q ≡ false
  unfolding mutually
  apart p q h = at (eqb p q) (via (arc P) n p q) (λ v. eq_i (h v))
    where
      at : (e v : Bool) → (Is v → Is e) → not e && v && via (arc P) n q p ≡ false
      at true v g = refl
      at false true g = absurd (clash (g refl) refl)
      at false false g = refl

  itself : (p : ℕ) → mutually n P p p ≡ false
  itself p = apart p p (λ v. refl)

  -- a head of at most one atom has no two
  narrow : (r : Rule) → wide r ≡ false → head_cycle n P r ≡ false
  unfolding head_cycle
  narrow r h = at r.head h
    where
      at : (l : List ℕ) → more l ≡ false → any (λ p. any (λ q. mutually n P p q) l) l ≡ false
      at [] e = refl
      at (p ∷ []) e = ap (λ (b : Bool). b || false || false) (itself p)
      at (p ∷ q ∷ l) e = absurd (clash refl e)

  -- without arcs a chain stays where it begins
  makes : (p q : ℕ) (r : Rule) → makes_arcs r ≡ false → has p r.head && has q r.pos ≡ false
  unfolding has
  makes p q r h = at r.head r.pos h
    where
      none : (b : Bool) → b && false ≡ false
      none true = refl
      none false = refl

      at : (l m : List ℕ) → full l && full m ≡ false → has p l && has q m ≡ false
      at [] m e = refl
      at (x ∷ l) [] e = none (has p (x ∷ l))
      at (x ∷ l) (y ∷ m) e = absurd (clash refl e)

  no_arc : any makes_arcs P ≡ false → (p q : ℕ) → arc P p q ≡ false
  unfolding arc
  no_arc h p q = each P h
    where
      each : (Q : Program) → any makes_arcs Q ≡ false → any (λ r. has p r.head && has q r.pos) Q ≡ false
      each [] e = refl
      each (r ∷ Q) e =
          let w = or_false (makes_arcs r) (any makes_arcs Q) e in
          ap (λ (b : Bool). b || any (λ r. has p r.head && has q r.pos) Q) (makes p q r w.0) ∙ each Q w.1

  stays : ((p q : ℕ) → arc P p q ≡ false) → {p q : ℕ} → Chain (arc P) p q → p ≡ q
  stays h (stay e) = e
  stays h (go c a) = absurd (clash a (h _ _))

  unlinked : any makes_arcs P ≡ false → (r : Rule) → head_cycle n P r ≡ false
  unfolding head_cycle
  unlinked h r =
      any_none (λ p. any (λ q. mutually n P p q) r.head) r.head
      (λ p. any_none (λ q. mutually n P p q) r.head (λ q. apart p q (λ v. stays (no_arc h) (via_chain (arc P) n p q v))))

  pub no_head_cycle : may_cross P ≡ false → lowest (head_cycle n P) 1 P ≡ None
  no_head_cycle h = at (cases (any wide P))
    where
      rest : (b : Bool) → Is b → b && any makes_arcs P ≡ false → any makes_arcs P ≡ false
      rest true i g = g
      rest false i g = absurd (clash i refl)

      at : Is (any wide P) ⊎ (any wide P ≡ false) → lowest (head_cycle n P) 1 P ≡ None
      at (inl e) = nowhere (head_cycle n P) 1 P (λ r m. unlinked (rest (any wide P) e h) r)
      at (inr e) = nowhere (head_cycle n P) 1 P (λ r m. narrow r (not_any wide P e r m))

  -- ---- aggregate cycles: an arc from a head atom to an element of an aggregate literal

  alone : (r : Rule) → adds_arcs r ≡ false → aggregate_cycle n P r ≡ false
  unfolding aggregate_cycle
  alone r h = at r.head r.aggs h
    where
      at : (l : List ℕ) (m : List Literal) → full l && full m ≡ false → any (λ p. any (λ a. returning n P p a) m) l ≡ false
      at [] m e = refl
      at (p ∷ l) [] e = any_none (λ q. false) (p ∷ l) (λ q. refl)
      at (p ∷ l) (a ∷ m) e = absurd (clash refl e)

  pub no_aggregate_cycle : may_return P ≡ false → lowest (aggregate_cycle n P) 1 P ≡ None
  no_aggregate_cycle h = nowhere (aggregate_cycle n P) 1 P (λ r m. alone r (not_any adds_arcs P h r m))

  -- of either kind
  pub no_cycle : (added : Bool) → may_close added P ≡ false → lowest (cycle_test added n P) 1 P ≡ None
  no_cycle false h = no_head_cycle h
  no_cycle true h = no_aggregate_cycle h
