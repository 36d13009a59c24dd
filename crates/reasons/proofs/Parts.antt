-- "A jump never gets shorter for one conflict": the reason of a literal is a part of 01's, so is the reason of a rule and of steps d and e, and so the level to which a conflict
-- leads is at most 01's, all for the values and reasons of one moment.
--   reason-part, reasons-part, why-part     the reasons
--   jump_part                               the level that is gone back to: a smaller reason leads to it or below
-- Assumes nothing.
use Prim.Native.Nat.{ℕ, zero, suc, ◌≤◌}
use native.Mathlib.Omega.{arith}
use mathlib.Core.Path.{◌≡◌, refl, sym, ◌∙◌, ap, subst}
use mathlib.Core.Logic.{◌⊎◌, inl, inr}
use mathlib.Core.Bool.{Bool, true, false, cond, ◌||◌}
use mathlib.Core.Option.{Option, none, some}
use mathlib.Core.List.Memᴰ
use mathlib.Core.List.{List, [], ◌∷◌, ◌++◌}
use Rattle.meaning.specs.Lists.{◌∈◌, has}
use Rattle.meaning.specs.Program.{Element, Rule, Program}
use Rattle.meaning.proofs.Tools.{clash}
use Rattle.levels.specs.Levels.{Levels, union, highest}
use Rattle.interpretation.specs.State.{Cell, defined, Defined}
use Rattle.valuing.specs.Values.{Lit, atom_lit, agg_lit}
use Rattle.valuing.specs.Settling.{settling_of}
use Rattle.valuing.specs.Reasons.{reason_at, reasons_at, reason_of, reasons_of}
use Rattle.valuing.proofs.Settling.{chosen_defined}
use Rattle.steps.specs.Steps.{Work, head_lits, body_lits, rule_reason, witness, add_support, support}
use Rattle.search.specs.Search.{Mode, jump, plain, target}
use Rattle.reasons.specs.Whole.{Part, elements_reason, whole_of, wholes_of, joined_by, why_by}

-- ---- unions

or_left : (a b : Bool) → a ≡ true → (a || b) ≡ true
or_left true b h = refl
or_left false b h = absurd (clash h refl)

or_right : (a b : Bool) → b ≡ true → (a || b) ≡ true
or_right true b h = refl
or_right false b h = h

or_cases : (a b : Bool) → (a || b) ≡ true → (a ≡ true) ⊎ (b ≡ true)
or_cases true b h = inl refl
or_cases false b h = inr h

union_part : (A B C D : Levels) → Part A C → Part B D → Part (union A B) (union C D)
union_part A B C D f g l h = at (or_cases (A l) (B l) h)
  where
    at : (A l ≡ true) ⊎ (B l ≡ true) → (C l || D l) ≡ true
    at (inl k) = or_left (C l) (D l) (f l k)
    at (inr k) = or_right (C l) (D l) (g l k)

-- ---- reasons

-- an element that is defined adds its atom's reason
element_in : (a : ℕ → Cell) (r : ℕ → Levels) (es : List Element) (e : Element) → e ∈ es → (v : Bool) (k : ℕ) → a e.atom ≡ defined v k → Part (r e.atom) (elements_reason a r es)
element_in a r (d ∷ es) e (Memᴰ.head q) v k h l x =
    let p : e.atom ≡ d.atom = ap (λ (z : Element). z.atom) q in
    or_left (reason_at (a d.atom) (r d.atom) l) (elements_reason a r es l)
    (subst (λ (n : ℕ). reason_at (a n) (r n) l ≡ true) p (ap (λ (c : Cell). reason_at c (r e.atom) l) h ∙ x))
element_in a r [] e x4 v k h l x = elim x4 [ ]
element_in a r (d ∷ es) e (Memᴰ.tail m) v k h l x = or_right (reason_at (a d.atom) (r d.atom) l) (elements_reason a r es l) (element_in a r es e m v k h l x)

-- atoms that are defined elements
atoms_part : (a : ℕ → Cell) (r : ℕ → Levels) (es : List Element) (S : List ℕ) → ((p : ℕ) → p ∈ S → Defined a p × ((e : Element) × (e ∈ es) × (p ≡ e.atom))) → Part (reasons_at r S) (elements_reason a r es)
atoms_part a r es [] f l h = absurd (clash h refl)
atoms_part a r es (p ∷ S) f l h = at (or_cases (r p l) (reasons_at r S l) h) (atoms_part a r es S (λ q m. f q (Memᴰ.tail m)) l)
  where
    at : (r p l ≡ true) ⊎ (reasons_at r S l ≡ true) → (reasons_at r S l ≡ true → elements_reason a r es l ≡ true) → elements_reason a r es l ≡ true
    at (inl x) rest =
        let t = f p (Memᴰ.head refl) in
        let e = t.1.0 in
        let q = t.1.2 in
        element_in a r es e t.1.1 t.0.0 t.0.1 (ap a (sym q) ∙ t.0.2) l (ap (λ (n : ℕ). r n l) (sym q) ∙ x)
    at (inr x) rest = rest x

pub reason_part : (a : ℕ → Cell) (r : ℕ → Levels) (x : Lit) → Part (reason_of a r x) (whole_of a r x)
unfolding reason_of
reason_part a r (atom_lit s p) l h = h
reason_part a r (agg_lit t) l h = atoms_part a r t.aggregate.elements (settling_of a t.aggregate) (chosen_defined a t.aggregate) l h

pub reasons_part : (a : ℕ → Cell) (r : ℕ → Levels) (s : List Lit) → Part (reasons_of a r s) (wholes_of a r s)
reasons_part a r [] = λ l h. h
reasons_part a r (x ∷ s) = union_part (reason_of a r x) (reasons_of a r s) (whole_of a r x) (wholes_of a r s) (reason_part a r x) (reasons_part a r s)

-- steps a, b and c
pub rule_part : (q : Rule) (w : Work) → Part (rule_reason q w) (wholes_of w.cell w.reason (head_lits q ++ body_lits q))
rule_part q w = reasons_part w.cell w.reason (head_lits q ++ body_lits q)

-- steps d and e
pub why_is : (w : Work) (p : ℕ) (P : Program) → (support w p P).why ≡ why_by (reason_of w.cell w.reason) w p P
why_is w p [] = refl
why_is w p (q ∷ P) = at (has p q.head) (witness w p q) (why_is w p P)
  where
    at : (b : Bool) (o : Option Lit) → (support w p P).why ≡ why_by (reason_of w.cell w.reason) w p P
        → (cond b (add_support w q o (support w p P)) (support w p P)).why ≡ cond b (joined_by (reason_of w.cell w.reason) o (why_by (reason_of w.cell w.reason) w p P)) (why_by (reason_of w.cell w.reason) w p P)
    at false o e = e
    at true none e = e
    at true (some x) e = ap (union (reason_of w.cell w.reason x)) e

pub why_part : (w : Work) (p : ℕ) (P : Program) → Part (support w p P).why (why_by (whole_of w.cell w.reason) w p P)
why_part w p P l h = go P l (ap (λ (R : Levels). R l) (sym (why_is w p P)) ∙ h)
  where
    go : (P : Program) → Part (why_by (reason_of w.cell w.reason) w p P) (why_by (whole_of w.cell w.reason) w p P)
    go [] = λ l h. h
    go (q ∷ P) = at (has p q.head) (witness w p q) (go P)
      where
        at : (b : Bool) (o : Option Lit) → Part (why_by (reason_of w.cell w.reason) w p P) (why_by (whole_of w.cell w.reason) w p P)
            → Part (cond b (joined_by (reason_of w.cell w.reason) o (why_by (reason_of w.cell w.reason) w p P)) (why_by (reason_of w.cell w.reason) w p P))
            (cond b (joined_by (whole_of w.cell w.reason) o (why_by (whole_of w.cell w.reason) w p P)) (why_by (whole_of w.cell w.reason) w p P))
        at false o f = f
        at true none f = f
        at true (some x) f = union_part (reason_of w.cell w.reason x) (why_by (reason_of w.cell w.reason) w p P) (whole_of w.cell w.reason x) (why_by (whole_of w.cell w.reason) w p P) (reason_part w.cell w.reason x) f

-- ---- the level that is gone back to

highest≤ : (A : Levels) (k : ℕ) → highest A k ≤ k
unfolding highest
highest≤ A zero = omega arith
highest≤ A (suc k) = at (A (suc k)) (highest≤ A k)
  where
    at : (b : Bool) → highest A k ≤ k → cond b (suc k) (highest A k) ≤ suc k
    at true h = omega arith
    at false h = omega arith

highest_part : (A B : Levels) (k : ℕ) → Part A B → highest A k ≤ highest B k
unfolding highest
highest_part A B zero f = omega arith
highest_part A B (suc k) f = at (A (suc k)) (B (suc k)) (f (suc k)) (highest_part A B k f)
  where
    at : (a b : Bool) → (a ≡ true → b ≡ true) → highest A k ≤ highest B k → cond a (suc k) (highest A k) ≤ cond b (suc k) (highest B k)
    at true true g h = omega arith
    at true false g h = absurd (clash (g refl) refl)
    at false true g h = let m = highest≤ A k in omega (arith, m)
    at false false g h = h

-- THE THEOREM: from level k a conflict with the smaller reason goes back at least as far
pub jump_part : (mode : Mode) (A B : Levels) (k : ℕ) → Part A B → target mode A k ≤ target mode B k
jump_part jump A B k f = highest_part A B k f
jump_part plain A B k f = omega arith

-- with a rule's reason, and with that of a true atom without support
pub rule_jump : (q : Rule) (w : Work) (k : ℕ) → target jump (rule_reason q w) k ≤ target jump (wholes_of w.cell w.reason (head_lits q ++ body_lits q)) k
rule_jump q w k = jump_part jump (rule_reason q w) (wholes_of w.cell w.reason (head_lits q ++ body_lits q)) k (rule_part q w)

pub support_jump : (w : Work) (p : ℕ) (P : Program) (k : ℕ) → target jump (union (w.reason p) (support w p P).why) k ≤ target jump (union (w.reason p) (why_by (whole_of w.cell w.reason) w p P)) k
support_jump w p P k =
    jump_part jump (union (w.reason p) (support w p P).why) (union (w.reason p) (why_by (whole_of w.cell w.reason) w p P)) k
    (union_part (w.reason p) (support w p P).why (w.reason p) (why_by (whole_of w.cell w.reason) w p P) (λ l h. h) (why_part w p P))
