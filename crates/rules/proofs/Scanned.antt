-- What a list of literals asks, as the code scans it from the first to the last; and the four lists of a rule: what they ask, and their reasons.
-- Assumes nothing.
use Prim.Native.Nat.{ℕ, zero, suc, ◌+◌, ◌≤◌, ◌<◌}
use native.Mathlib.Numerals.{add-one}
use native.Mathlib.Omega.{arith}
use mathlib.Core.Path.{◌≡◌, refl, sym, ap, ap₂, ◌∙◌}
use mathlib.Core.Bool.{Bool, true, false, not, ◌&&◌}
use Rattle.std.specs.List.{list_all, range_with_len}
use mathlib.Core.List.{List, ◌++◌, map}
use lib.IntN.{ℤ, pos, nat_abs}
use lib.ListN.{length, get_or, drop, drop_of_length-le}
use lib.Seq.{drop-cons}
use Rattle.meaning.specs.Program.{Rule}
use Rattle.levels.specs.Levels.{Levels, no_levels, union}
use Rattle.meaning.proofs.Tools.{clash}
use Rattle.interpretation.specs.State.{Cell}
use Rattle.interpretation.specs.View.{cell_by, cell_value}
use Rattle.interpretation.specs.declared.Value.{Value}
use Rattle.interpretation.specs.declared.Value.TheVariants.{True, False, Undefined}
use Rattle.valuing.specs.Values.{says_true, signed, Lit, atom_lit, agg_lit, value}
use Rattle.valuing.specs.Reasons.{reasons_of}
use Rattle.layout.specs.Layout.{atoms, part_at, pos_at, neg_at, aggs_at, rule_at}
use Rattle.steps.specs.Steps.{head_lits, body_lits}
use Rattle.literals.specs.Scan.{atom_lits, literal_lits, atoms_reason}
use Rattle.literals.proofs.Together.{union_none, reasons_append, reasons_atoms}
use Rattle.rules.specs.declared.Step.{Step}
use Rattle.rules.specs.declared.Step.TheVariants.{Nothing, Conflict, Set}
use Rattle.rules.specs.Demand.{ask_of, together, asks, is_conflict, demand_of}
use Rattle.rules.proofs.Asks.{together_nothing, together_conflict, together_assoc, all_conflict, asks_nil, asks_cons}
use Rattle.rules.proofs.Rule.{demand_parts}

-- ---- the literals f (g w) of a list's words w, from index i on

module _ {A : Type 0} (g : ℤ → A) (f : A → Lit) (a : ℕ → Cell) (l : List ℤ) (i : ℕ) where
  abbrev lits : ℕ → List Lit
  lits j = map f (map g (drop j l))

  abbrev here : Lit
  here = f (g (get_or l i (pos 0)))

  -- the literal at i, beside those after it
  pub asks_on : i < length l → (v : Value) → value a here ≡ v → asks a (lits i) ≡ together (ask_of v here) (asks a (lits (i + 1)))
  asks_on h v e =
      ap (λ (m : List ℤ). asks a (map f (map g m))) (drop-cons l i (pos 0) h)
      ∙ asks_cons a here (lits (suc i))
      ∙ ap₂ (λ (u : Value) (j : ℕ). together (ask_of u here) (asks a (lits j))) e (sym (add-one i))

  pub asks_end : length l ≤ i → asks a (lits i) ≡ Conflict
  asks_end h = ap (λ (m : List ℤ). asks a (map f (map g m))) (drop_of_length-le l h) ∙ asks_nil a

-- ---- all literals of a list, by their indices

module _ {A : Type 0} (g : ℤ → A) (f : A → Lit) (a : ℕ → Cell) (l : List ℤ) where
  abbrev pub true_at : ℕ → Bool
  true_at i = says_true (value a (f (g (get_or l i (pos 0)))))

  all_from : (n i : ℕ) → n + i ≡ length l → list_all true_at (range_with_len i n) ≡ is_conflict (asks a (map f (map g (drop i l))))
  all_from zero i e = sym (ap is_conflict (asks_end g f a l i (omega arith)))
  all_from (suc n) i e =
      ap (λ (b : Bool). true_at i && b) (all_from n (i + 1) (omega arith))
      ∙ all_conflict (value a (f (g (get_or l i (pos 0))))) (f (g (get_or l i (pos 0)))) (asks a (map f (map g (drop (i + 1) l))))
      ∙ sym (ap is_conflict (asks_on g f a l i (omega arith) (value a (f (g (get_or l i (pos 0))))) refl))

  pub all_true_at : list_all true_at (range_with_len 0 (length l)) ≡ is_conflict (asks a (map f (map g l)))
  all_true_at = all_from (length l) 0 (omega arith)

-- ---- a literal by the byte of its atom's value

pub byte_undefined : (s : Bool) (b : ℕ) → b ≡ 0 → signed s (cell_value (cell_by b 0)) ≡ Undefined
byte_undefined s b e = ap (λ (x : ℕ). signed s (cell_value (cell_by x 0))) e ∙ at s
  where
    at : (s : Bool) → signed s Undefined ≡ Undefined
    at true = refl
    at false = refl

pub byte_true : (v : Value) → says_true v ≡ true → v ≡ True
byte_true True e = refl
byte_true False e = absurd (clash e refl)
byte_true Undefined e = absurd (clash e refl)

pub byte_false : (s : Bool) (b : ℕ) → (b ≡ 0 → ⊥) → says_true (signed s (cell_value (cell_by b 0))) ≡ false → signed s (cell_value (cell_by b 0)) ≡ False
byte_false s zero n e = absurd (n refl)
byte_false true (suc zero) n e = absurd (clash refl e)
byte_false false (suc zero) n e = refl
byte_false true (suc (suc b)) n e = refl
byte_false false (suc (suc b)) n e = absurd (clash refl e)

-- ---- atoms of the sign s from index i on, beside those before it: all of these are true but atom q, which is undefined; q is 0 if there is none

abbrev pub only_asks : Bool → ℕ → Step
only_asks s zero = Conflict
only_asks s (suc q) = Set (suc q) (not s)

pub only_set : (s : Bool) (q : ℕ) → (q ≡ 0 → ⊥) → only_asks s q ≡ Set q (not s)
only_set s zero n = absurd (n refl)
only_set s (suc q) n = refl

module _ (s : Bool) (a : ℕ → Cell) (l : List ℤ) (i : ℕ) where
  abbrev rest : ℕ → Step
  rest j = asks a (atom_lits s (drop j l))

  abbrev atom : ℕ
  atom = nat_abs (get_or l i (pos 0))

  pub on_true : (q : ℕ) → i < length l → value a (atom_lit s atom) ≡ True → together (only_asks s q) (rest i) ≡ together (only_asks s q) (rest (i + 1))
  on_true q h e = ap (together (only_asks s q)) (asks_on nat_abs (atom_lit s) a l i h True e)

  pub on_false : (q : ℕ) → i < length l → value a (atom_lit s atom) ≡ False → together (only_asks s q) (rest i) ≡ Nothing
  on_false q h e = ap (together (only_asks s q)) (asks_on nat_abs (atom_lit s) a l i h False e) ∙ together_nothing (only_asks s q)

  -- the first undefined one, and a second
  pub on_first : (p : ℕ) → p ≡ atom → 1 ≤ p → i < length l → value a (atom_lit s atom) ≡ Undefined → rest i ≡ together (only_asks s p) (rest (i + 1))
  on_first p k b h e =
      asks_on nat_abs (atom_lit s) a l i h Undefined e
      ∙ ap (λ (d : Step). together d (rest (i + 1))) (ap (λ (q : ℕ). Set q (not s)) (sym k) ∙ sym (only_set s p (λ z. omega arith)))

  pub on_second : (q : ℕ) → (q ≡ 0 → ⊥) → i < length l → value a (atom_lit s atom) ≡ Undefined → together (only_asks s q) (rest i) ≡ Nothing
  on_second q n h e =
      ap₂ together (only_set s q n) (asks_on nat_abs (atom_lit s) a l i h Undefined e)
      ∙ sym (together_assoc (Set q (not s)) (Set atom (not s)) (rest (i + 1)))

  pub on_end : (q : ℕ) → length l ≤ i → together (only_asks s q) (rest i) ≡ only_asks s q
  on_end q h = ap (together (only_asks s q)) (asks_end nat_abs (atom_lit s) a l i h) ∙ together_conflict (only_asks s q)

-- ---- the four lists of the rule at an index, one after the other

module _ (a : ℕ → Cell) (t : List ℤ) (at : ℕ) where
  abbrev pub head_asks : Step
  head_asks = asks a (atom_lits false (part_at t at))

  abbrev pub pos_asks : Step
  pos_asks = asks a (atom_lits true (part_at t (pos_at t at)))

  abbrev pub neg_asks : Step
  neg_asks = asks a (atom_lits false (part_at t (neg_at t at)))

  abbrev pub aggs_ask : Step
  aggs_ask = asks a (literal_lits t (part_at t (aggs_at t at)))

  pub demand_all : demand_of a (rule_at t at) ≡ together (together (together head_asks pos_asks) neg_asks) aggs_ask
  unfolding rule_at
  demand_all =
      demand_parts a (rule_at t at)
      ∙ sym (together_assoc head_asks pos_asks (together neg_asks aggs_ask))
      ∙ sym (together_assoc (together head_asks pos_asks) neg_asks aggs_ask)

  -- nothing more is read
  pub stops_head : head_asks ≡ Nothing → demand_of a (rule_at t at) ≡ Nothing
  stops_head e = demand_all ∙ ap (λ (d : Step). together (together (together d pos_asks) neg_asks) aggs_ask) e

  pub stops_pos : together head_asks pos_asks ≡ Nothing → demand_of a (rule_at t at) ≡ Nothing
  stops_pos e = demand_all ∙ ap (λ (d : Step). together (together d neg_asks) aggs_ask) e

-- ---- the reasons of a rule's four lists

pub reasons_parts : (a : ℕ → Cell) (R : ℕ → Levels) (r : Rule)
    → reasons_of a R (head_lits r ++ body_lits r)
    ≡ union (atoms_reason a R r.head) (union (atoms_reason a R r.pos) (union (atoms_reason a R r.neg) (union (reasons_of a R (map agg_lit r.aggs)) no_levels)))
reasons_parts a R r =
    reasons_append a R (head_lits r) (body_lits r)
    ∙ ap (λ (A : Levels). union A (reasons_of a R (body_lits r))) (reasons_atoms a R true r.head)
    ∙ ap (union (atoms_reason a R r.head)) (reasons_append a R (map (atom_lit true) r.pos) (map (atom_lit false) r.neg ++ map agg_lit r.aggs)
    ∙ ap (λ (A : Levels). union A (reasons_of a R (map (atom_lit false) r.neg ++ map agg_lit r.aggs))) (reasons_atoms a R true r.pos)
    ∙ ap (union (atoms_reason a R r.pos)) (reasons_append a R (map (atom_lit false) r.neg) (map agg_lit r.aggs)
    ∙ ap (λ (A : Levels). union A (reasons_of a R (map agg_lit r.aggs))) (reasons_atoms a R false r.neg)
    ∙ ap (union (atoms_reason a R r.neg)) (sym (union_none (reasons_of a R (map agg_lit r.aggs))))))

pub reasons_at_lem : (a : ℕ → Cell) (R : ℕ → Levels) (t : List ℤ) (at : ℕ)
    → reasons_of a R (head_lits (rule_at t at) ++ body_lits (rule_at t at))
    ≡ union (atoms_reason a R (atoms (part_at t at)))
    (union (atoms_reason a R (atoms (part_at t (pos_at t at))))
    (union (atoms_reason a R (atoms (part_at t (neg_at t at)))) (union (reasons_of a R (literal_lits t (part_at t (aggs_at t at)))) no_levels)))
unfolding rule_at
reasons_at_lem a R t at = reasons_parts a R (rule_at t at)
