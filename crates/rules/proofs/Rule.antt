-- The demand of a rule is what steps a to c make of it: the laws for callers.
--   step_rule_lem      the step at a rule, by its demand
--   demand_parts   the demand by the four lists, as the code reads them
--   demand_open    an atom that is to be set is undefined, and one of the rule's
-- Assumes nothing.
use Prim.Native.Nat.{ℕ, zero, suc}
use mathlib.Core.Path.{◌≡◌, refl, sym, ap, ap₂, ◌∙◌, subst}
use mathlib.Core.Logic.{◌⊎◌, inl, inr}
use mathlib.Core.Bool.{Bool, true, false, cond, ◌||◌}
use mathlib.Core.Option.{Option, none, some}
use mathlib.Core.List.Memᴰ
use mathlib.Core.List.{List, ◌++◌, map}
use native.Mathlib.Omega.{arith}
use Rattle.meaning.specs.Lists.{◌∈◌, any}
use Rattle.meaning.specs.Program.{Rule, Literal, In, RuleIn}
use Rattle.levels.specs.Levels.{Levels}
use Rattle.interpretation.specs.State.{Cell, undefined}
use Rattle.valuing.specs.Values.{Lit, atom_lit, agg_lit}
use Rattle.steps.specs.Steps.{head_lits, body_lits, Work, if_settled, first_of, count_of, is_t, is_f, is_u, set_lit, rule_reason, step_abc, step_rule}
use Rattle.steps.proofs.Lits.{map_e, InBody, is_pos, is_neg, is_agg, body_cases}
use Rattle.literals.proofs.Together.{turned, any_opposite, count_opposite, first_opposite}
use Rattle.rules.specs.declared.Step.{Step}
use Rattle.rules.specs.declared.Step.TheVariants.{Set}
use Rattle.rules.specs.Demand.{together, asks, denied_lits, demand_of, did}
use Rattle.rules.proofs.Asks.{together_nothing, together_conflict, asks_append, falsify, ask_by, falsify_both, asks_by, asks_set}

-- ---- what is to be set

-- the first undefined head atom is to become true
turned_sets : (o : Option Lit) (R : Levels) (w : Work) → did (falsify o) R w ≡ set_lit (turned o) true R w
turned_sets none R w = refl
turned_sets (some (atom_lit true p)) R w = refl
turned_sets (some (atom_lit false p)) R w = refl
turned_sets (some (agg_lit l)) R w = refl

denied_first : (R : Levels) (w : Work) (ps : List ℕ)
    → did (falsify (first_of (is_u w) (map (atom_lit false) ps))) R w ≡ set_lit (first_of (is_u w) (map (atom_lit true) ps)) true R w
denied_first R w ps =
    turned_sets (first_of (is_u w) (map (atom_lit false) ps)) R w
    ∙ ap (λ (o : Option Lit). set_lit o true R w) (sym (first_opposite w.cell ps))

-- a body literal is to become false
falsify_sets : (o : Option Lit) (R : Levels) (w : Work) → did (falsify o) R w ≡ set_lit o false R w
falsify_sets none R w = refl
falsify_sets (some (atom_lit s p)) R w = refl
falsify_sets (some (agg_lit l)) R w = refl

-- ---- steps a to c

by_counts : (r : Rule) (w : Work) (o : Option Lit)
    → did (falsify o) (rule_reason r w) w ≡ set_lit (first_of (is_u w) (head_lits r)) true (rule_reason r w) w
    → (h b : Bool) (n m : ℕ)
    → did (together (ask_by h n o) (ask_by b m (first_of (is_u w) (body_lits r)))) (rule_reason r w) w ≡ cond (b || h) w (step_abc m n r w)
by_counts r w o e true true n m = refl
by_counts r w o e true false n m = refl
by_counts r w o e false true n m = ap (λ (d : Step). did d (rule_reason r w) w) (together_nothing (ask_by false n o))
by_counts r w o e false false zero zero = refl
by_counts r w o e false false (suc zero) zero = ap (λ (d : Step). did d (rule_reason r w) w) (together_conflict (falsify o)) ∙ e
by_counts r w o e false false (suc (suc n)) zero = refl
by_counts r w o e false false zero (suc zero) = falsify_sets (first_of (is_u w) (body_lits r)) (rule_reason r w) w
by_counts r w o e false false (suc zero) (suc zero) = ap (λ (d : Step). did d (rule_reason r w) w) (falsify_both o (first_of (is_u w) (body_lits r)))
by_counts r w o e false false (suc (suc n)) (suc zero) = refl
by_counts r w o e false false n (suc (suc m)) = ap (λ (d : Step). did d (rule_reason r w) w) (together_nothing (ask_by false n o))

demand_by : (r : Rule) (w : Work)
    → demand_of w.cell r
    ≡ together (ask_by (any (is_t w) (head_lits r)) (count_of (is_u w) (head_lits r)) (first_of (is_u w) (denied_lits r))) (ask_by (any (is_f w) (body_lits r)) (count_of (is_u w) (body_lits r)) (first_of (is_u w) (body_lits r)))
unfolding demand_of
demand_by r w =
    asks_append w.cell (denied_lits r) (body_lits r)
    ∙ ap₂ together
    (asks_by w.cell (denied_lits r) ∙ ap₂ (λ (b : Bool) (n : ℕ). ask_by b n (first_of (is_u w) (denied_lits r))) (sym (any_opposite w.cell r.head)) (sym (count_opposite w.cell r.head)))
    (asks_by w.cell (body_lits r))

-- the step at a rule, by its demand
pub step_rule_lem : (r : Rule) (w : Work) → step_rule r w ≡ if_settled w.verdict (did (demand_of w.cell r) (rule_reason r w) w) w
step_rule_lem r w =
    ap (λ (u : Work). if_settled w.verdict u w)
    (sym (ap (λ (d : Step). did d (rule_reason r w) w) (demand_by r w)
    ∙ by_counts r w (first_of (is_u w) (denied_lits r)) (denied_first (rule_reason r w) w r.head) (any (is_t w) (head_lits r)) (any (is_f w) (body_lits r)) (count_of (is_u w) (head_lits r)) (count_of (is_u w) (body_lits r))))

-- the demand by the four lists
pub demand_parts : (a : ℕ → Cell) (r : Rule)
    → demand_of a r
    ≡ together (asks a (denied_lits r)) (together (asks a (map (atom_lit true) r.pos)) (together (asks a (map (atom_lit false) r.neg)) (asks a (map agg_lit r.aggs))))
unfolding demand_of
demand_parts a r =
    asks_append a (denied_lits r) (body_lits r)
    ∙ ap (together (asks a (denied_lits r)))
    (asks_append a (map (atom_lit true) r.pos) (map (atom_lit false) r.neg ++ map agg_lit r.aggs)
    ∙ ap (together (asks a (map (atom_lit true) r.pos))) (asks_append a (map (atom_lit false) r.neg) (map agg_lit r.aggs)))

-- ---- an atom that is to be set

same_atom : {s t : Bool} {p q : ℕ} → atom_lit s p ≡ atom_lit t q → p ≡ q
same_atom e = cc

not_agg : {s : Bool} {p : ℕ} {l : Literal} → atom_lit s p ≡ agg_lit l → ⊥
not_agg e = let z : ◌≡◌ {A = ℕ} 0 1 = cc in omega arith

-- it is undefined, and an atom of the head or the body
pub demand_sets : (a : ℕ → Cell) (r : Rule) (p : ℕ) (v : Bool) → demand_of a r ≡ Set p v → (a p ≡ undefined) × ((p ∈ r.head) ⊎ ((p ∈ r.pos) ⊎ (p ∈ r.neg)))
unfolding demand_of
demand_sets a r p v e = let t = asks_set a (denied_lits r ++ body_lits r) p v e in (t.3, at t.0 (Memᴰ.append_cases (denied_lits r) t.1))
  where
    cast : {l : List ℕ} {q : ℕ} → q ∈ l → p ≡ q → p ∈ l
    cast {l} m e = subst (λ (o : ℕ). o ∈ l) (sym e) m

    body : (b : Bool) → InBody r (atom_lit b p) → (p ∈ r.head) ⊎ ((p ∈ r.pos) ⊎ (p ∈ r.neg))
    body b (is_pos q m e) = inr (inl (cast m (same_atom e)))
    body b (is_neg q m e) = inr (inr (cast m (same_atom e)))
    body b (is_agg l m e) = absurd (not_agg e)

    at : (b : Bool) → (atom_lit b p ∈ denied_lits r) ⊎ (atom_lit b p ∈ body_lits r) → (p ∈ r.head) ⊎ ((p ∈ r.pos) ⊎ (p ∈ r.neg))
    at b (inl m) = let t = map_e (atom_lit false) r.head m in inl (cast t.1 (same_atom t.2))
    at b (inr m) = body b (body_cases r (atom_lit b p) m)

-- so it is one of 1 .. n
pub demand_open : (n : ℕ) (a : ℕ → Cell) (r : Rule) (p : ℕ) (v : Bool) → RuleIn n r → demand_of a r ≡ Set p v → (a p ≡ undefined) × In n p
demand_open n a r p v I e = let t = demand_sets a r p v e in (t.0, at t.1)
  where
    at : (p ∈ r.head) ⊎ ((p ∈ r.pos) ⊎ (p ∈ r.neg)) → In n p
    at (inl m) = I.heads p m
    at (inr (inl m)) = I.poss p m
    at (inr (inr m)) = I.negs p m
