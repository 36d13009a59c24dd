-- The arcs of a program, rule by rule. Assumes nothing.
use mathlib.Core.Path.{◌≡◌, refl, sym, ap, ◌∙◌, fun_ext, subst}
use mathlib.Core.Logic.{◌⊎◌, inl, inr}
use mathlib.Core.Bool.{Bool, true, false, cond, ◌&&◌, ◌||◌, or-false, and-or_distrib_left}
use mathlib.Core.List.{List, [], ◌∷◌, map}
use Prim.Native.Nat.{ℕ, suc, ◌<◌}
use native.Mathlib.Omega.{arith}
use lib.IntN.{ℤ}
use lib.Dec.{eqb}
use Rattle.meaning.specs.Lists.{Is, ◌∈◌, any, has}
use Rattle.meaning.specs.Program.{Element, Rule, Program, In, AtomsIn}
use Rattle.meaning.specs.Dependency.{arc, occurs, added_arc, any_arc, Chain, stay, go}
use Rattle.meaning.proofs.Tools.{and_r, or_e, any_e, has_e, eq}
use Rattle.meaning.proofs.Rank.{arc_low, any_low}
use Rattle.layout.specs.declared.Table.{Table}
use Rattle.layout.specs.Layout.{part_at, pos_at, aggs_at, rule_at, program_of}
use Rattle.heads.specs.Heads.{places_of, with_head}
use Rattle.heads.proofs.Laws.{rules_at_lem}
use Rattle.levels.specs.Levels.{Levels, union}
use Rattle.reach.specs.Arcs.{arcs_of, targets, listed, literals}
use Rattle.reach.proofs.Inside.{below}

-- ---- what the arcs of one rule go to, joined to a set

plain_more : (a s : Bool) → a || s ≡ a || false || s
plain_more true s = refl
plain_more false s = refl

pub targets_plain : (t : List ℤ) (i : ℕ) (S : Levels) → union (listed (part_at t (pos_at t i))) S ≡ union (targets false (rule_at t i)) S
unfolding targets rule_at
targets_plain t i S = fun_ext (λ q. plain_more (listed (part_at t (pos_at t i)) q) (S q))

swap : (a b s : Bool) → a || (b || s) ≡ b || a || s
swap true true s = refl
swap true false s = refl
swap false b s = ap (λ (x : Bool). x || s) (sym (or-false b))

pub targets_added : (t : List ℤ) (i : ℕ) (S : Levels) → union (literals t (part_at t (aggs_at t i))) (union (listed (part_at t (pos_at t i))) S) ≡ union (targets true (rule_at t i)) S
unfolding targets rule_at
targets_added t i S = fun_ext (λ q. swap (literals t (part_at t (aggs_at t i)) q) (listed (part_at t (pos_at t i)) q) (S q))

-- ---- the arcs of a program, as one test on its rules

abbrev pub arcs : Bool → Program → ℕ → ℕ → Bool
arcs added P = λ p q. any (λ (r : Rule). has p r.head && targets added r q) P

any_or : (f g : Rule → Bool) (P : Program) → any f P || any g P ≡ any (λ (r : Rule). f r || g r) P
any_or f g [] = refl
any_or f g (r ∷ P) = mix (f r) (any f P) (g r) (any g P) ∙ ap (λ (b : Bool). f r || g r || b) (any_or f g P)
  where
    mix : (a b c d : Bool) → a || b || (c || d) ≡ a || c || (b || d)
    mix true b c d = refl
    mix false true true d = refl
    mix false true false d = refl
    mix false false c d = refl

same : (f g : Rule → Bool) (P : Program) → ((r : Rule) → f r ≡ g r) → any f P ≡ any g P
same f g P h = ap (λ (k : Rule → Bool). any k P) (fun_ext h)

plain : (P : Program) (p q : ℕ) → arcs false P p q ≡ arc P p q
unfolding arc targets
plain P p q =
    same (λ (r : Rule). has p r.head && (has q r.pos || false)) (λ (r : Rule). has p r.head && has q r.pos) P
    (λ r. ap (λ (b : Bool). has p r.head && b) (or-false (has q r.pos)))

full : (P : Program) (p q : ℕ) → arcs true P p q ≡ any_arc P p q
unfolding arc added_arc any_arc targets
full P p q =
    same (λ (r : Rule). has p r.head && (has q r.pos || any (occurs q) r.aggs)) (λ (r : Rule). has p r.head && has q r.pos || has p r.head && any (occurs q) r.aggs) P
    (λ r. and-or_distrib_left (has p r.head) (has q r.pos) (any (occurs q) r.aggs))
    ∙ sym (any_or (λ (r : Rule). has p r.head && has q r.pos) (λ (r : Rule). has p r.head && any (occurs q) r.aggs) P)

pub arcs_is : (added : Bool) (P : Program) → arcs added P ≡ arcs_of added P
arcs_is true P = fun_ext (λ p. fun_ext (λ q. full P p q))
arcs_is false P = fun_ext (λ p. fun_ext (λ q. plain P p q))

-- ---- the arcs from an atom, by the rules that have it in the head

by_places : (added : Bool) (t : List ℤ) (p q : ℕ) (l : List ℕ) → any (λ i. targets added (rule_at t i) q) (with_head t p l) ≡ arcs added (map (rule_at t) l) p q
unfolding with_head
by_places added t p q [] = refl
by_places added t p q (i ∷ l) = at (has p (rule_at t i).head) (by_places added t p q l)
  where
    at : (b : Bool) → any (λ i. targets added (rule_at t i) q) (with_head t p l) ≡ arcs added (map (rule_at t) l) p q
        → any (λ i. targets added (rule_at t i) q) (cond b (i ∷ with_head t p l) (with_head t p l)) ≡ b && targets added (rule_at t i) q || arcs added (map (rule_at t) l) p q
    at true e = ap (λ (x : Bool). targets added (rule_at t i) q || x) e
    at false e = e

pub arcs_by_head : (added : Bool) (t : List ℤ) (tb : Table) (p q : ℕ) → any (λ i. targets added (rule_at t i) q) (with_head t p (places_of t tb)) ≡ arcs_of added (program_of t tb) p q
arcs_by_head added t tb p q =
    by_places added t p q (places_of t tb) ∙ ap (λ (P : Program). arcs added P p q) (rules_at_lem t tb.first tb.rules)
    ∙ ap (λ (X : ℕ → ℕ → Bool). X p q) (arcs_is added (program_of t tb))

-- ---- arcs go from head atoms only

never : (b : Bool) → (Is b → ⊥) → b ≡ false
never true h = absurd (h refl)
never false h = refl

pub arcs_low : (added : Bool) (n : ℕ) (P : Program) → AtomsIn n P → (p q : ℕ) → Is (arcs_of added P p q) → p < suc n
arcs_low true n P A p q = any_low (suc n) P (below n P A) p q
arcs_low false n P A p q = arc_low (suc n) P (below n P A) p q

pub arcs_idle : (added : Bool) (n : ℕ) (P : Program) → AtomsIn n P → (p q : ℕ) → n < p → arcs_of added P p q ≡ false
arcs_idle added n P A p q h = never (arcs_of added P p q) (λ a. let k = arcs_low added n P A p q a in omega arith)

-- ---- arcs go to the program's atoms

pub arcs_inside : (added : Bool) (n : ℕ) (P : Program) → AtomsIn n P → (p q : ℕ) → Is (arcs_of added P p q) → In n q
unfolding targets occurs
arcs_inside added n P A p q h =
    let w = any_e (λ (r : Rule). has p r.head && targets added r q) P (ap (λ (X : ℕ → ℕ → Bool). X p q) (arcs_is added P) ∙ h) in
    at w.0 w.1 (or_e (has q w.0.pos) (added && any (occurs q) w.0.aggs) (and_r (has p w.0.head) _ w.2))
  where
    at : (r : Rule) → r ∈ P → Is (has q r.pos) ⊎ Is (added && any (occurs q) r.aggs) → In n q
    at r m (inl k) = (A r m).poss q (has_e r.pos k)
    at r m (inr k) =
        let l = any_e (occurs q) r.aggs (and_r added _ k) in
        let e = any_e (λ (e : Element). eqb q e.atom) l.0.aggregate.elements l.2 in
        subst (In n) (sym (eq q e.0.atom e.2)) ((A r m).elems l.0 l.1 e.0 e.1)

-- so does every chain from one of them
pub chain_inside : (added : Bool) (n : ℕ) (P : Program) → AtomsIn n P → (p q : ℕ) → In n p → Chain (arcs_of added P) p q → In n q
chain_inside added n P A p q i (stay e) = subst (In n) e i
chain_inside added n P A p q i (go {q = u} c a) = arcs_inside added n P A u q a
