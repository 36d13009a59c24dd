-- Where all atoms are defined, every literal of a rule is true or false, as it is in the set of the true atoms; so a rule asks for a conflict
-- exactly where it does not hold.
-- Assumes nothing.
use Prim.Native.Nat.{ℕ, zero, suc}
use native.Mathlib.Omega.{arith}
use mathlib.Core.Path.{◌≡◌, refl, sym, ap, ap₂, ◌∙◌}
use mathlib.Core.Logic.{◌⊎◌, inl, inr}
use mathlib.Core.Bool.{Bool, true, false, not, ◌&&◌, ◌||◌}
use mathlib.Core.List.Memᴰ
use mathlib.Core.List.{List, [], ◌∷◌, ◌++◌, map}
use Rattle.meaning.specs.Lists.{Is, ◌∈◌, all, any}
use Rattle.meaning.specs.Aggregates.{Atoms}
use Rattle.meaning.specs.Program.{Rule, Literal, Element, In, RuleIn}
use Rattle.meaning.specs.Answers.{body, holds}
use Rattle.meaning.proofs.Tools.{both, all_at, all_i}
use Rattle.meaning.proofs.Cond.{if_lt_yes}
use Rattle.interpretation.specs.State.{Cell, truth_of, true_atoms, AllDefined}
use Rattle.interpretation.specs.View.{bool_value, cell_value}
use Rattle.interpretation.specs.declared.Value.{Value}
use Rattle.interpretation.specs.declared.Value.TheVariants.{True, False, Undefined}
use Rattle.valuing.specs.Values.{opposite, Lit, atom_lit, agg_lit, value, literal_value, true_in}
use Rattle.valuing.specs.Exact.{Completes}
use Rattle.valuing.proofs.Exact.{literal_right, literal_decided}
use Rattle.steps.specs.Steps.{body_lits}
use Rattle.steps.proofs.Lits.{map_e, InBody, is_pos, is_neg, is_agg, body_cases, body_of, of_body}
use Rattle.rules.specs.declared.Step.{Step}
use Rattle.rules.specs.declared.Step.TheVariants.{Nothing, Conflict}
use Rattle.rules.specs.Demand.{ask_of, together, asks, denied_lits, demand_of, is_conflict}
use Rattle.rules.proofs.Asks.{asks_nil, asks_cons}

-- ---- the true atoms

pub true_at : (n : ℕ) (a : ℕ → Cell) (p : ℕ) → In n p → true_atoms n a p ≡ truth_of (a p)
true_at n a zero i = absurd (omega (arith, i.0))
true_at n a (suc q) i = if_lt_yes q n (truth_of (a (suc q))) false (let h = i.1 in omega arith)

-- ---- literals

-- the literal has a value, the one in X
pub data Decides (a : ℕ → Cell) (X : Atoms) (x : Lit) : Type 0 where
  yes : value a x ≡ True → Is (true_in X x) → Decides a X x
  no : value a x ≡ False → true_in X x ≡ false → Decides a X x

by_sign : (a : ℕ → Cell) (X : Atoms) (p : ℕ) (s v : Bool) → cell_value (a p) ≡ bool_value v → X p ≡ v → Decides a X (atom_lit s p)
by_sign a X p true true e f = yes e f
by_sign a X p true false e f = no e f
by_sign a X p false true e f = no (ap opposite e) (ap not f)
by_sign a X p false false e f = yes (ap opposite e) (ap not f)

by_literal : (a : ℕ → Cell) (X : Atoms) (l : Literal) (v : Value) → literal_value a l ≡ v → Completes a l.aggregate.elements X → (v ≡ Undefined → ⊥) → Decides a X (agg_lit l)
by_literal a X l True e C u = yes e ((literal_right a l).always e X C)
by_literal a X l False e C u = no e ((literal_right a l).never e X C)
by_literal a X l Undefined e C u = absurd (u refl)

module _ (n : ℕ) (a : ℕ → Cell) (D : AllDefined n a) where
  abbrev pub X : Atoms
  X = true_atoms n a

  pub decides_atom : (s : Bool) (p : ℕ) → In n p → Decides a X (atom_lit s p)
  decides_atom s p i =
      let d = D p i.0 i.1 in
      by_sign a X p s d.0 (ap cell_value d.2) (true_at n a p i ∙ ap truth_of d.2)

  pub decides_literal : (l : Literal) → ((e : Element) → e ∈ l.aggregate.elements → In n e.atom) → Decides a X (agg_lit l)
  decides_literal l f =
      by_literal a X l (literal_value a l) refl
      (λ e m v k h. true_at n a e.atom (f e m) ∙ ap truth_of h)
      (λ u. literal_decided a l (λ e m. let i = f e m in D e.atom i.0 i.1) u)

  module _ (r : Rule) (I : RuleIn n r) where
    pub decides_body : (x : Lit) → x ∈ body_lits r → Decides a X x
    decides_body x m = at (body_cases r x m)
      where
        cast : (y : Lit) → x ≡ y → Decides a X y → Decides a X x
        cast y e (yes v t) = yes (ap (value a) e ∙ v) (ap (true_in X) e ∙ t)
        cast y e (no v t) = no (ap (value a) e ∙ v) (ap (true_in X) e ∙ t)

        at : InBody r x → Decides a X x
        at (is_pos p k e) = cast (atom_lit true p) e (decides_atom true p (I.poss p k))
        at (is_neg p k e) = cast (atom_lit false p) e (decides_atom false p (I.negs p k))
        at (is_agg l k e) = cast (agg_lit l) e (decides_literal l (I.elems l k))

    pub decides_denied : (x : Lit) → x ∈ denied_lits r → Decides a X x
    decides_denied x m =
        let t = map_e (atom_lit false) r.head m in
        cast t.0 t.2 (decides_atom false t.0 (I.heads t.0 t.1))
      where
        cast : (p : ℕ) → x ≡ atom_lit false p → Decides a X (atom_lit false p) → Decides a X x
        cast p e (yes v t) = yes (ap (value a) e ∙ v) (ap (true_in X) e ∙ t)
        cast p e (no v t) = no (ap (value a) e ∙ v) (ap (true_in X) e ∙ t)

-- ---- lists of literals

-- all are true, or nothing is asked
abbrev pub ask_bool : Bool → Step
ask_bool true = Conflict
ask_bool false = Nothing

asks_one : (a : ℕ → Cell) (Y : Atoms) (x : Lit) (b : Bool) → Decides a Y x → together (ask_of (value a x) x) (ask_bool b) ≡ ask_bool (true_in Y x && b)
asks_one a Y x b (yes v t) = ap (λ (v : Value). together (ask_of v x) (ask_bool b)) v ∙ ap (λ (c : Bool). ask_bool (c && b)) (sym t)
asks_one a Y x b (no v t) = ap (λ (v : Value). together (ask_of v x) (ask_bool b)) v ∙ ap (λ (c : Bool). ask_bool (c && b)) (sym t)

pub asks_decided : (a : ℕ → Cell) (Y : Atoms) (s : List Lit) → ((x : Lit) → x ∈ s → Decides a Y x) → asks a s ≡ ask_bool (all (true_in Y) s)
asks_decided a Y [] f = asks_nil a
asks_decided a Y (x ∷ s) f =
    asks_cons a x s
    ∙ ap (together (ask_of (value a x) x)) (asks_decided a Y s (λ y m. f y (Memᴰ.tail m)))
    ∙ asks_one a Y x (all (true_in Y) s) (f x (Memᴰ.head refl))

pub ask_conflict : (b : Bool) → is_conflict (ask_bool b) ≡ b
ask_conflict true = refl
ask_conflict false = refl

-- ---- a rule holds

and_assoc : (a b c : Bool) → ((a && b) && c) ≡ (a && (b && c))
and_assoc true b c = refl
and_assoc false b c = refl

pub all_append : (f : Lit → Bool) (s t : List Lit) → all f (s ++ t) ≡ (all f s && all f t)
all_append f [] t = refl
all_append f (x ∷ s) t = ap (λ (b : Bool). f x && b) (all_append f s t) ∙ sym (and_assoc (f x) (all f s) (all f t))

denied_all : (Y : Atoms) (ps : List ℕ) → all (true_in Y) (map (atom_lit false) ps) ≡ not (any Y ps)
denied_all Y [] = refl
denied_all Y (p ∷ ps) = ap (λ (b : Bool). not (Y p) && b) (denied_all Y ps) ∙ at (Y p) (any Y ps)
  where
    at : (b c : Bool) → (not b && not c) ≡ not (b || c)
    at true c = refl
    at false c = refl

body_all : (Y : Atoms) (r : Rule) → all (true_in Y) (body_lits r) ≡ body Y r
body_all Y r = both _ _ (λ h. body_of Y r (λ x m. all_at (true_in Y) (body_lits r) h m)) (λ h. all_i (true_in Y) (body_lits r) (of_body Y r h))

pub holds_decided : (n : ℕ) (a : ℕ → Cell) → AllDefined n a → (r : Rule) → RuleIn n r → holds (true_atoms n a) r ≡ not (is_conflict (demand_of a r))
unfolding demand_of holds
holds_decided n a D r I =
    let Y = true_atoms n a in
    let e = asks_decided a Y (denied_lits r ++ body_lits r) (λ x m. at x (Memᴰ.append_cases (denied_lits r) m)) in
    let f = all_append (true_in Y) (denied_lits r) (body_lits r) ∙ ap₂ ◌&&◌ (denied_all Y r.head) (body_all Y r) in
    sym (ap (λ (d : Step). not (is_conflict d)) e ∙ ap not (ask_conflict (all (true_in Y) (denied_lits r ++ body_lits r)) ∙ f) ∙ turn (body Y r) (any Y r.head))
  where
    at : (x : Lit) → (x ∈ denied_lits r) ⊎ (x ∈ body_lits r) → Decides a (true_atoms n a) x
    at x (inl m) = decides_denied n a D r I x m
    at x (inr m) = decides_body n a D r I x m

    turn : (b h : Bool) → not (not h && b) ≡ (not b || h)
    turn true true = refl
    turn true false = refl
    turn false true = refl
    turn false false = refl
