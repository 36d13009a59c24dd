-- A rule's literals: membership, the first that passes a test, how many pass, and the body of a rule in an interpretation.
-- Assumes nothing.
use mathlib.Core.Path.{◌≡◌, refl, sym, ap, ◌∙◌}
use mathlib.Core.Logic.{◌⊎◌, inl, inr}
use mathlib.Core.Bool.{Bool, true, false, cond}
use mathlib.Core.Option.{none, some}
use mathlib.Core.List.Memᴰ
use mathlib.Core.List.{List, [], ◌∷◌, ◌++◌, map}
use Prim.Native.Nat.{ℕ, ◌+◌}
use native.Mathlib.Omega.{arith}
use Rattle.meaning.specs.Lists.{Is, ◌∈◌, any}
use Rattle.meaning.specs.Aggregates.{Atoms}
use Rattle.meaning.specs.Program.{Rule, Literal}
use Rattle.meaning.specs.Answers.{body}
use Rattle.interpretation.specs.State.{Cell, undefined, defined}
use Rattle.interpretation.specs.declared.Value.{Value}
use Rattle.interpretation.specs.declared.Value.TheVariants.{True, False, Undefined}
use Rattle.valuing.specs.Values.{says_true, says_false, says_undefined, signed, Lit, atom_lit, agg_lit, true_in}
use Rattle.interpretation.specs.View.{bool_value, cell_value}
use Rattle.steps.specs.Steps.{head_lits, body_lits, first_of, count_of}
use Rattle.meaning.proofs.Tools.{clash, not_is, is_not_lem, any_i, contra}
use Rattle.meaning.proofs.Meaning.{BodyTrue, body_i, body_e}

-- ---- membership

module _ {A : Type 0} where
  pub map_i : (f : A → Lit) {x : A} {s : List A} → x ∈ s → f x ∈ map f s
  map_i f (Memᴰ.head e) = Memᴰ.head (ap f e)
  map_i f (Memᴰ.tail m) = Memᴰ.tail (map_i f m)

  pub map_e : (f : A → Lit) {y : Lit} (s : List A) → y ∈ map f s → (x : A) × (x ∈ s) × (y ≡ f x)
  map_e f [] m = absurd (Memᴰ.not-nil m)
  map_e f (x ∷ s) (Memᴰ.head e) = (x, Memᴰ.head refl, e)
  map_e f (x ∷ s) (Memᴰ.tail m) = let t = map_e f s m in (t.0, Memᴰ.tail t.1, t.2)

pub pos_in : (r : Rule) {p : ℕ} → p ∈ r.pos → atom_lit true p ∈ body_lits r
pos_in r m = Memᴰ.append_left _ (map_i (atom_lit true) m)

pub neg_in : (r : Rule) {p : ℕ} → p ∈ r.neg → atom_lit false p ∈ body_lits r
neg_in r m = Memᴰ.append_right (map (atom_lit true) r.pos) (Memᴰ.append_left _ (map_i (atom_lit false) m))

pub agg_in : (r : Rule) {l : Literal} → l ∈ r.aggs → agg_lit l ∈ body_lits r
agg_in r m = Memᴰ.append_right (map (atom_lit true) r.pos) (Memᴰ.append_right (map (atom_lit false) r.neg) (map_i agg_lit m))

-- what a body literal is
pub data InBody (r : Rule) (x : Lit) : Type 0 where
  is_pos : (p : ℕ) → p ∈ r.pos → x ≡ atom_lit true p → InBody r x
  is_neg : (p : ℕ) → p ∈ r.neg → x ≡ atom_lit false p → InBody r x
  is_agg : (l : Literal) → l ∈ r.aggs → x ≡ agg_lit l → InBody r x

pub body_cases : (r : Rule) (x : Lit) → x ∈ body_lits r → InBody r x
body_cases r x m = at (Memᴰ.append_cases (map (atom_lit true) r.pos) m)
  where
    rest : (x ∈ map (atom_lit false) r.neg) ⊎ (x ∈ map agg_lit r.aggs) → InBody r x
    rest (inl k) = let t = map_e (atom_lit false) r.neg k in is_neg t.0 t.1 t.2
    rest (inr k) = let t = map_e agg_lit r.aggs k in is_agg t.0 t.1 t.2

    at : (x ∈ map (atom_lit true) r.pos) ⊎ (x ∈ (map (atom_lit false) r.neg ++ map agg_lit r.aggs)) → InBody r x
    at (inl k) = let t = map_e (atom_lit true) r.pos k in is_pos t.0 t.1 t.2
    at (inr k) = rest (Memᴰ.append_cases (map (atom_lit false) r.neg) k)

pub head_e : (r : Rule) {x : Lit} → x ∈ head_lits r → (p : ℕ) × (p ∈ r.head) × (x ≡ atom_lit true p)
head_e r m = map_e (atom_lit true) r.head m

pub body_of : (X : Atoms) (r : Rule) → ((x : Lit) → x ∈ body_lits r → Is (true_in X x)) → Is (body X r)
body_of X r f = body_i X r (record {
  poss = λ p m. f (atom_lit true p) (pos_in r m);
  negs = λ p m. not_is (X p) (f (atom_lit false p) (neg_in r m));
  lits = λ l m. f (agg_lit l) (agg_in r m);
})

pub of_body : (X : Atoms) (r : Rule) → Is (body X r) → (x : Lit) → x ∈ body_lits r → Is (true_in X x)
of_body X r h x m = at (body_cases r x m)
  where
    b : BodyTrue X r
    b = body_e X r h

    at : InBody r x → Is (true_in X x)
    at (is_pos p k e) = ap (true_in X) e ∙ b.poss p k
    at (is_neg p k e) = ap (true_in X) e ∙ is_not_lem (X p) (b.negs p k)
    at (is_agg l k e) = ap (true_in X) e ∙ b.lits l k

-- ---- the first that passes, and how many do

pub first_in_lem : (f : Lit → Bool) (s : List Lit) (x : Lit) → first_of f s ≡ some x → (x ∈ s) × Is (f x)
first_in_lem f [] x e = absurd (let z : ◌≡◌ {A = ℕ} 0 1 = cc in omega arith)
first_in_lem f (y ∷ s) x e = at (f y) refl e (first_in_lem f s x)
  where
    at : (b : Bool) → f y ≡ b → cond b (some y) (first_of f s) ≡ some x → (first_of f s ≡ some x → (x ∈ s) × Is (f x)) → (x ∈ y ∷ s) × Is (f x)
    at true h e g = let z : y ≡ x = cc in (Memᴰ.head (sym z), ap f (sym z) ∙ h)
    at false h e g = let t = g e in (Memᴰ.tail t.0, t.1)

pub first_none : (f : Lit → Bool) (s : List Lit) {x : Lit} → first_of f s ≡ none → x ∈ s → f x ≡ false
first_none f [] e m = absurd (Memᴰ.not-nil m)
first_none f (y ∷ s) {x} e m = at (f y) refl e (first_none f s) m
  where
    at : (b : Bool) → f y ≡ b → cond b (some y) (first_of f s) ≡ none → (first_of f s ≡ none → x ∈ s → f x ≡ false) → x ∈ y ∷ s → f x ≡ false
    at true h e g m = absurd (let z : ◌≡◌ {A = ℕ} 0 1 = cc in omega arith)
    at false h e g (Memᴰ.head q) = ap f q ∙ h
    at false h e g (Memᴰ.tail k) = g e k

pub count_zero : (f : Lit → Bool) (s : List Lit) {x : Lit} → count_of f s ≡ 0 → x ∈ s → f x ≡ false
count_zero f [] c m = absurd (Memᴰ.not-nil m)
count_zero f (y ∷ s) {x} c m = at (f y) refl c (count_zero f s) m
  where
    at : (b : Bool) → f y ≡ b → cond b 1 0 + count_of f s ≡ 0 → (count_of f s ≡ 0 → x ∈ s → f x ≡ false) → x ∈ y ∷ s → f x ≡ false
    at true h c g m = absurd (omega arith)
    at false h c g (Memᴰ.head q) = ap f q ∙ h
    at false h c g (Memᴰ.tail k) = g (omega arith) k

-- with one that passes, a member is the first that does or does not pass
pub count_one : (f : Lit → Bool) (s : List Lit) {x y : Lit} → count_of f s ≡ 1 → first_of f s ≡ some y → x ∈ s → (x ≡ y) ⊎ (f x ≡ false)
count_one f [] c e m = absurd (Memᴰ.not-nil m)
count_one f (z ∷ s) {x} {y} c e m = at (f z) refl c e (count_one f s) m
  where
    at : (b : Bool) → f z ≡ b → cond b 1 0 + count_of f s ≡ 1 → cond b (some z) (first_of f s) ≡ some y
        → (count_of f s ≡ 1 → first_of f s ≡ some y → x ∈ s → (x ≡ y) ⊎ (f x ≡ false)) → x ∈ z ∷ s → (x ≡ y) ⊎ (f x ≡ false)
    at true h c e g (Memᴰ.head q) = let i : z ≡ y = cc in inl (q ∙ i)
    at true h c e g (Memᴰ.tail k) = inr (count_zero f s (omega arith) k)
    at false h c e g (Memᴰ.head q) = inr (ap f q ∙ h)
    at false h c e g (Memᴰ.tail k) = g (omega arith) e k

-- none passes
pub count_none : (f : Lit → Bool) (s : List Lit) → ((x : Lit) → x ∈ s → f x ≡ false) → count_of f s ≡ 0
count_none f [] h = refl
count_none f (y ∷ s) h = let e = h y (Memᴰ.head refl) in rw e (let t = count_none f s (λ x m. h x (Memᴰ.tail m)) in omega arith)

pub any_none : (f : Lit → Bool) (s : List Lit) {x : Lit} → any f s ≡ false → x ∈ s → f x ≡ false
any_none f s {x} e m = contra (f x) (λ h. any_i f s m h) e

-- ---- values

pub value_true : (v : Value) → says_false v ≡ false → says_undefined v ≡ false → v ≡ True
value_true True f u = refl
value_true False f u = absurd (clash refl f)
value_true Undefined f u = absurd (clash refl u)

pub value_false : (v : Value) → says_true v ≡ false → says_undefined v ≡ false → v ≡ False
value_false True t u = absurd (clash refl t)
value_false False t u = refl
value_false Undefined t u = absurd (clash refl u)

pub says_true_lem : (v : Value) → Is (says_true v) → v ≡ True
says_true_lem True h = refl
says_true_lem False h = absurd (clash h refl)
says_true_lem Undefined h = absurd (clash h refl)

pub says_false_lem : (v : Value) → Is (says_false v) → v ≡ False
says_false_lem True h = absurd (clash h refl)
says_false_lem False h = refl
says_false_lem Undefined h = absurd (clash h refl)

pub says_undefined_lem : (v : Value) → Is (says_undefined v) → v ≡ Undefined
says_undefined_lem True h = absurd (clash h refl)
says_undefined_lem False h = absurd (clash h refl)
says_undefined_lem Undefined h = refl

-- an atom's literal is undefined only where the atom is
pub atom_undefined : (s : Bool) (c : Cell) → Is (says_undefined (signed s (cell_value c))) → c ≡ undefined
atom_undefined s undefined h = refl
atom_undefined true (defined true l) h = absurd (clash h refl)
atom_undefined true (defined false l) h = absurd (clash h refl)
atom_undefined false (defined true l) h = absurd (clash h refl)
atom_undefined false (defined false l) h = absurd (clash h refl)

pub atom_defined : (s : Bool) (c : Cell) (v : Bool) (l : ℕ) → c ≡ defined v l → says_undefined (signed s (cell_value c)) ≡ false
atom_defined s c v l e = ap (λ (c : Cell). says_undefined (signed s (cell_value c))) e ∙ at s v
  where
    at : (s v : Bool) → says_undefined (signed s (bool_value v)) ≡ false
    at true true = refl
    at true false = refl
    at false true = refl
    at false false = refl
