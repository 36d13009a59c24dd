-- What literals ask, in terms of whether one is false, how many are undefined, and the first of these; and what a list that is read in parts asks.
-- Assumes nothing.
use Prim.Native.Nat.{ℕ, zero, suc, ◌+◌}
use native.Mathlib.Omega.{arith}
use mathlib.Core.Path.{◌≡◌, refl, sym, ap, ◌∙◌}
use mathlib.Core.Bool.{Bool, true, false, not, cond, ◌&&◌, ◌||◌}
use mathlib.Core.Option.{Option, none, some}
use mathlib.Core.List.Memᴰ
use mathlib.Core.List.{List, [], ◌∷◌, ◌++◌, map}
use Rattle.meaning.specs.Lists.{◌∈◌, any}
use Rattle.meaning.specs.Program.{Literal}
use Rattle.interpretation.specs.State.{Cell, undefined, defined}
use Rattle.interpretation.specs.View.{cell_value}
use Rattle.interpretation.specs.declared.Value.{Value}
use Rattle.interpretation.specs.declared.Value.TheVariants.{True, False, Undefined}
use Rattle.valuing.specs.Values.{says_true, says_false, says_undefined, signed, Lit, atom_lit, agg_lit, value}
use Rattle.steps.specs.Steps.{first_of, count_of}
use Rattle.rules.specs.declared.Step.{Step}
use Rattle.rules.specs.declared.Step.TheVariants.{Nothing, Conflict, Set}
use Rattle.rules.specs.Demand.{becomes_false, ask_of, together, asks, is_conflict}

-- ---- together

pub together_nothing : (d : Step) → together d Nothing ≡ Nothing
together_nothing Nothing = refl
together_nothing Conflict = refl
together_nothing (Set p v) = refl

pub together_conflict : (d : Step) → together d Conflict ≡ d
together_conflict Nothing = refl
together_conflict Conflict = refl
together_conflict (Set p v) = refl

pub together_assoc : (d e f : Step) → together (together d e) f ≡ together d (together e f)
together_assoc Nothing e f = refl
together_assoc Conflict e f = refl
together_assoc (Set p v) Nothing f = refl
together_assoc (Set p v) Conflict f = refl
together_assoc (Set p v) (Set q u) Nothing = refl
together_assoc (Set p v) (Set q u) Conflict = refl
together_assoc (Set p v) (Set q u) (Set o t) = refl

-- the test for a conflict, by what it tells
pub conflict_other : (d : Step) → (d ≡ Conflict → ⊥) → is_conflict d ≡ false
conflict_other Nothing h = refl
conflict_other Conflict h = absurd (h refl)
conflict_other (Set p v) h = refl

pub conflict_by : (b : Bool) (d : Step) → (b ≡ true → d ≡ Conflict) → (b ≡ false → d ≡ Conflict → ⊥) → b ≡ is_conflict d
conflict_by true d f g = sym (ap is_conflict (f refl))
conflict_by false d f g = sym (conflict_other d (g refl))

-- beside a literal that is to be set the others must be true
pub set_conflict : (p : ℕ) (v : Bool) (d : Step) → is_conflict d ≡ true → together (Set p v) d ≡ Set p v
set_conflict p v Nothing h = cc
set_conflict p v Conflict h = refl
set_conflict p v (Set q u) h = cc

pub set_other : (p : ℕ) (v : Bool) (d : Step) → is_conflict d ≡ false → together (Set p v) d ≡ Nothing
set_other p v Nothing h = refl
set_other p v Conflict h = cc
set_other p v (Set q u) h = refl

pub never_conflict : (p : ℕ) (v : Bool) (d : Step) → is_conflict (together (Set p v) d) ≡ false
never_conflict p v Nothing = refl
never_conflict p v Conflict = refl
never_conflict p v (Set q u) = refl

-- all literals are true where the first is and the others are
pub all_conflict : (v : Value) (x : Lit) (d : Step) → (says_true v && is_conflict d) ≡ is_conflict (together (ask_of v x) d)
all_conflict True x d = refl
all_conflict False x d = refl
all_conflict Undefined (atom_lit s p) d = sym (never_conflict p (not s) d)
all_conflict Undefined (agg_lit k) d = refl

pub asks_nil : (a : ℕ → Cell) → asks a [] ≡ Conflict
unfolding asks
asks_nil a = refl

pub asks_cons : (a : ℕ → Cell) (x : Lit) (s : List Lit) → asks a (x ∷ s) ≡ together (ask_of (value a x) x) (asks a s)
unfolding asks
asks_cons a x s = refl

pub asks_append : (a : ℕ → Cell) (s t : List Lit) → asks a (s ++ t) ≡ together (asks a s) (asks a t)
unfolding asks
asks_append a [] t = refl
asks_append a (x ∷ s) t = ap (together (ask_of (value a x) x)) (asks_append a s t) ∙ sym (together_assoc (ask_of (value a x) x) (asks a s) (asks a t))

-- aggregate literals are never set
pub asks_literals : (a : ℕ → Cell) (ks : List Literal) → asks a (map agg_lit ks) ≡ cond (is_conflict (asks a (map agg_lit ks))) Conflict Nothing
unfolding asks
asks_literals a [] = refl
asks_literals a (k ∷ ks) = at (value a (agg_lit k)) (asks_literals a ks)
  where
    at : (v : Value) → asks a (map agg_lit ks) ≡ cond (is_conflict (asks a (map agg_lit ks))) Conflict Nothing
        → together (ask_of v (agg_lit k)) (asks a (map agg_lit ks)) ≡ cond (is_conflict (together (ask_of v (agg_lit k)) (asks a (map agg_lit ks)))) Conflict Nothing
    at True e = e
    at False e = refl
    at Undefined e = refl

-- ---- by what is false and undefined

-- the step that makes the literal false, if there is one
abbrev pub falsify : Option Lit → Step
falsify none = Nothing
falsify (some x) = becomes_false x

-- whether a literal is false, how many are undefined, and the first of these
abbrev pub ask_by : Bool → ℕ → Option Lit → Step
ask_by true n o = Nothing
ask_by false zero o = Conflict
ask_by false (suc zero) o = falsify o
ask_by false (suc (suc n)) o = Nothing

pub false_nothing : (x : Lit) (d : Step) → together (becomes_false x) (together d Nothing) ≡ Nothing
false_nothing x d = ap (together (becomes_false x)) (together_nothing d) ∙ together_nothing (becomes_false x)

-- two literals cannot both be made false
pub two_nothing : (x y : Lit) → together (becomes_false x) (becomes_false y) ≡ Nothing
two_nothing (atom_lit s p) (atom_lit t q) = refl
two_nothing (atom_lit s p) (agg_lit l) = refl
two_nothing (agg_lit k) y = refl

pub falsify_both : (o p : Option Lit) → together (falsify o) (falsify p) ≡ Nothing
falsify_both none p = refl
falsify_both (some x) none = together_nothing (becomes_false x)
falsify_both (some x) (some y) = two_nothing x y

by_undefined : (b : Bool) (n : ℕ) (x : Lit) (o : Option Lit) → together (becomes_false x) (ask_by b n o) ≡ ask_by b (suc n) (some x)
by_undefined true n x o = together_nothing (becomes_false x)
by_undefined false zero x o = together_conflict (becomes_false x)
by_undefined false (suc zero) x o = falsify_both (some x) o
by_undefined false (suc (suc n)) x o = together_nothing (becomes_false x)

by_value_lem : (v : Value) (b : Bool) (n : ℕ) (x : Lit) (o : Option Lit)
    → together (ask_of v x) (ask_by b n o) ≡ ask_by (says_false v || b) (cond (says_undefined v) 1 0 + n) (cond (says_undefined v) (some x) o)
by_value_lem True b n x o = ap (λ (m : ℕ). ask_by b m o) (let e : n ≡ 0 + n = omega arith in e)
by_value_lem False b n x o = refl
by_value_lem Undefined b n x o = by_undefined b n x o ∙ ap (λ (m : ℕ). ask_by b m (some x)) (let e : suc n ≡ 1 + n = omega arith in e)

pub asks_by : (a : ℕ → Cell) (s : List Lit)
    → asks a s ≡ ask_by (any (λ x. says_false (value a x)) s) (count_of (λ x. says_undefined (value a x)) s) (first_of (λ x. says_undefined (value a x)) s)
unfolding asks
asks_by a [] = refl
asks_by a (x ∷ s) =
    ap (together (ask_of (value a x) x)) (asks_by a s)
    ∙ by_value_lem (value a x) (any (λ x. says_false (value a x)) s) (count_of (λ x. says_undefined (value a x)) s) x (first_of (λ x. says_undefined (value a x)) s)

-- ---- what is set

abbrev pub Settable : (ℕ → Cell) → ℕ → Bool → List Lit → Type 0
Settable a p v s = (b : Bool) × (atom_lit b p ∈ s) × (v ≡ not b) × (a p ≡ undefined)

pub data Setting (d e : Step) (p : ℕ) (v : Bool) : Type 0 where
  first : d ≡ Set p v → Setting d e p v
  second : e ≡ Set p v → Setting d e p v

pub together_set : (d e : Step) (p : ℕ) (v : Bool) → together d e ≡ Set p v → Setting d e p v
together_set Nothing e p v h = first h
together_set Conflict e p v h = second h
together_set (Set q u) Nothing p v h = second h
together_set (Set q u) Conflict p v h = first h
together_set (Set q u) (Set o t) p v h = absurd (let z : ◌≡◌ {A = ℕ} 0 1 = cc in omega arith)

undefined_cell : (s : Bool) (c : Cell) → signed s (cell_value c) ≡ Undefined → c ≡ undefined
undefined_cell s undefined e = refl
undefined_cell true (defined true l) e = absurd (let z : ◌≡◌ {A = ℕ} 0 1 = cc in omega arith)
undefined_cell true (defined false l) e = absurd (let z : ◌≡◌ {A = ℕ} 0 1 = cc in omega arith)
undefined_cell false (defined true l) e = absurd (let z : ◌≡◌ {A = ℕ} 0 1 = cc in omega arith)
undefined_cell false (defined false l) e = absurd (let z : ◌≡◌ {A = ℕ} 0 1 = cc in omega arith)

false_set : (a : ℕ → Cell) (x : Lit) (s : List Lit) (p : ℕ) (v : Bool) → value a x ≡ Undefined → becomes_false x ≡ Set p v → Settable a p v (x ∷ s)
false_set a (atom_lit b q) s p v u h =
    let e : q ≡ p = cc in
    let f : not b ≡ v = cc in
    (b, Memᴰ.head (ap (atom_lit b) (sym e)), sym f, ap a (sym e) ∙ undefined_cell b (a q) u)
false_set a (agg_lit l) s p v u h = absurd (let z : ◌≡◌ {A = ℕ} 0 1 = cc in omega arith)

ask_set : (a : ℕ → Cell) (x : Lit) (s : List Lit) (p : ℕ) (v : Bool) (y : Value) → value a x ≡ y → ask_of y x ≡ Set p v → Settable a p v (x ∷ s)
ask_set a x s p v True u h = absurd (let z : ◌≡◌ {A = ℕ} 0 1 = cc in omega arith)
ask_set a x s p v False u h = absurd (let z : ◌≡◌ {A = ℕ} 0 1 = cc in omega arith)
ask_set a x s p v Undefined u h = false_set a x s p v u h

pub asks_set : (a : ℕ → Cell) (s : List Lit) (p : ℕ) (v : Bool) → asks a s ≡ Set p v → Settable a p v s
unfolding asks
asks_set a [] p v h = absurd (let z : ◌≡◌ {A = ℕ} 0 1 = cc in omega arith)
asks_set a (x ∷ s) p v h = at (together_set (ask_of (value a x) x) (asks a s) p v h) (asks_set a s p v)
  where
    at : Setting (ask_of (value a x) x) (asks a s) p v → (asks a s ≡ Set p v → Settable a p v s) → Settable a p v (x ∷ s)
    at (first e) f = ask_set a x s p v (value a x) refl e
    at (second e) f = let t = f e in (t.0, Memᴰ.tail t.1, t.2, t.3)
