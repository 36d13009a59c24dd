-- What is asked at an atom is what steps d and e make of it: the laws for callers.
--   step_atom_lem        steps d and e do what is asked;  ask-nothing, ask-conflict, ask-unset, ask-sole: the same for each answer
--   ask_open         an atom that becomes false by step d was undefined
--   sole_lies        the rule that alone supports lies in the table;  sole-sets: there is an atom that step e sets
--   ask-alone, blame-alone   both depend on the values alone
-- Assumes nothing.
use Rattle.std.specs.Prelude.{Some, None}
use Rattle.std.specs.Prelude as code
use Prim.Native.Nat.{ℕ, suc, ◌<◌}
use native.Mathlib.Omega.{arith}
use mathlib.Core.Path.{◌≡◌, refl, sym, ap, ◌∙◌, subst, fun_ext}
use mathlib.Core.Bool.{Bool, true, false, cond, ◌&&◌}
use mathlib.Core.Option.{Option, none, some}
use mathlib.Core.List.{List, [], ◌∷◌, map}
use lib.IntN.{ℤ}
use lib.ListN.{length, get_or}
use Rattle.meaning.specs.Lists.{has}
use Rattle.meaning.specs.Program.{Rule, Program}
use Rattle.levels.specs.Levels.{Levels, union}
use Rattle.interpretation.specs.State.{Cell, undefined, defined}
use Rattle.interpretation.specs.View.{cell_value, cells, valued}
use Rattle.interpretation.specs.declared.Record.{Record}
use Rattle.interpretation.specs.declared.Value.{Value}
use Rattle.interpretation.specs.declared.Value.TheVariants.{True, False, Undefined}
use Rattle.interpretation.proofs.Laws as interpretation
use Rattle.layout.specs.Layout.{rule_at, RuleLies, program_of, Laid}
use Rattle.heads.specs.Heads.{places_of, with_head, Part}
use Rattle.heads.proofs.Laws.{places_lie, with_lie, rules_at_lem}
use Rattle.layout.specs.declared.Table.{Table}
use Rattle.valuing.specs.Values.{Lit}
use Rattle.valuing.specs.Reasons.{reason_of}
use Rattle.literals.proofs.Alone.{value_alone, reason_alone}
use Rattle.steps.specs.Steps.{Verdict, settled, Work, set, refuted, if_settled, witness, Support, add_support, support, step_e, step_d, step_true, step_de, step_atom}
use Rattle.support.specs.declared.Ask.{Ask}
use Rattle.support.specs.declared.Ask.TheVariants.{Nothing, Conflict, Unset, Sole}
use Rattle.support.specs.Asking.{witness_by, witness_of, is_none, supports_of, some_rule, forced_of, sole_by, open_by, true_by, ask_by, ask_of, joined_by, blame_by, blame_of, did_ask}
use Rattle.support.proofs.Forcing.{forced_nothing, forced_alone}

-- ---- the blame is the support's

module _ (p : ℕ) (w : Work) where
  pub blame_why : (P : Program) → (support w p P).why ≡ blame_of w.cell w.reason p P
  unfolding blame_of blame_by witness_of
  blame_why [] = refl
  blame_why (r ∷ P) = at (has p r.head) (witness w p r) (blame_why P)
    where
      at : (b : Bool) (o : Option Lit) → (support w p P).why ≡ blame_of w.cell w.reason p P
          → (cond b (add_support w r o (support w p P)) (support w p P)).why
          ≡ cond b (joined_by (reason_of w.cell w.reason) o (blame_of w.cell w.reason p P)) (blame_of w.cell w.reason p P)
      at false o e = e
      at true none e = e
      at true (some x) e = ap (union (reason_of w.cell w.reason x)) e

  -- ---- how many rules support, and which

  module _ (t : List ℤ) where
    abbrev f : Rule → Bool
    f = supports_of w.cell p

    -- of the rules at l
    abbrev among : List ℕ → Support
    among l = support w p (map (rule_at t) l)

    -- rules without p in the head do not matter
    with_only : (l : List ℕ) → among (with_head t p l) ≡ among l
    unfolding with_head
    with_only [] = refl
    with_only (i ∷ l) = at (has p (rule_at t i).head) refl (with_only l)
      where
        at : (b : Bool) → has p (rule_at t i).head ≡ b → among (with_head t p l) ≡ among l
            → among (cond b (i ∷ with_head t p l) (with_head t p l)) ≡ cond b (add_support w (rule_at t i) (witness w p (rule_at t i)) (among l)) (among l)
        at false e h = h
        at true e h =
            ap (λ (b : Bool). cond b (add_support w (rule_at t i) (witness w p (rule_at t i)) (among (with_head t p l))) (among (with_head t p l))) e
            ∙ ap (add_support w (rule_at t i) (witness w p (rule_at t i))) h

    -- so a part with all that have p in the head is as good as the table
    pub part_support : (tb : Table) (l : List ℕ) → Part t tb l → support w p (map (rule_at t) l) ≡ support w p (program_of t tb)
    part_support tb l h = sym (with_only l) ∙ ap among (h.heads p) ∙ with_only (places_of t tb) ∙ ap (support w p) (rules_at_lem t tb.first tb.rules)

    -- none supports, or n + 1 do
    abbrev Many : Bool → Support → Type 0
    Many false s = s.number ≡ 0
    Many true s = (n : ℕ) × (s.number ≡ suc n)

    many_same : (b : Bool) (s u : Support) → s.number ≡ u.number → Many b u → Many b s
    many_same false s u e h = e ∙ h
    many_same true s u e h = (h.0, e ∙ h.1)

    many : (l : List ℕ) → Many (some_rule f t l) (among l)
    unfolding some_rule supports_of witness_of
    many [] = refl
    many (i ∷ l) = at (has p (rule_at t i).head) (witness w p (rule_at t i)) (many l)
      where
        at : (b : Bool) (o : Option Lit) → Many (some_rule f t l) (among l)
            → Many (elim (b && is_none o) [ true ↦ true | false ↦ some_rule f t l ]) (cond b (add_support w (rule_at t i) o (among l)) (among l))
        at false o h = h
        at true none h = ((among l).number, refl)
        at true (some x) h = many_same (some_rule f t l) (add_support w (rule_at t i) (some x) (among l)) (among l) refl h

    -- ---- the steps

    -- the rule at i supports, and those that s tells of
    sole : (B : Levels) (i : ℕ) (b : Bool) (s : Support) → Many b s → (x : code.Option (ℕ × Bool)) → forced_of w.cell (rule_at t i) ≡ x
        → step_true (suc s.number) (some (rule_at t i)) (union (w.reason p) B) w ≡ did_ask t p (sole_by i b x) B w
    sole B i false s h (Some (q, v)) g = ap (λ (k : ℕ). step_true (suc k) (some (rule_at t i)) (union (w.reason p) B) w) h
    sole B i false s h None g = ap (λ (k : ℕ). step_true (suc k) (some (rule_at t i)) (union (w.reason p) B) w) h ∙ forced_nothing (rule_at t i) (union (w.reason p) B) w g
    sole B i true s h x g = ap (λ (k : ℕ). step_true (suc k) (some (rule_at t i)) (union (w.reason p) B) w) h.1

    step_true_lem : (B : Levels) (l : List ℕ) → step_true (among l).number (among l).who (union (w.reason p) B) w ≡ did_ask t p (true_by f (forced_of w.cell) t l) B w
    unfolding true_by supports_of witness_of
    step_true_lem B [] = refl
    step_true_lem B (i ∷ l) = at (has p (rule_at t i).head) (witness w p (rule_at t i)) (step_true_lem B l)
      where
        at : (b : Bool) (o : Option Lit)
            → step_true (among l).number (among l).who (union (w.reason p) B) w ≡ did_ask t p (true_by f (forced_of w.cell) t l) B w
            → step_true (cond b (add_support w (rule_at t i) o (among l)) (among l)).number (cond b (add_support w (rule_at t i) o (among l)) (among l)).who (union (w.reason p) B) w
            ≡ did_ask t p (elim (b && is_none o) [ true ↦ sole_by i (some_rule f t l) (forced_of w.cell (rule_at t i)) | false ↦ true_by f (forced_of w.cell) t l ]) B w
        at false o h = h
        at true none h = sole B i (some_rule f t l) (among l) (many l) (forced_of w.cell (rule_at t i)) refl
        at true (some x) h = h

    step_open : (B : Levels) (b : Bool) (s : Support) → Many b s → s.why ≡ B → step_d s.number p s.why w ≡ did_ask t p (open_by b) B w
    step_open B false s h e = ap (λ (n : ℕ). step_d n p s.why w) h ∙ ap (λ (R : Levels). set p false R w) e
    step_open B true s h e = ap (λ (n : ℕ). step_d n p s.why w) h.1

    step_by_lem : (B : Levels) (c : Cell) (l : List ℕ) → (among l).why ≡ B → step_de p c (among l) w ≡ did_ask t p (ask_by f (forced_of w.cell) t (cell_value c) l) B w
    step_by_lem B undefined l e = step_open B (some_rule f t l) (among l) (many l) e
    step_by_lem B (defined false n) l e = refl
    step_by_lem B (defined true n) l e = ap (λ (R : Levels). step_true (among l).number (among l).who (union (w.reason p) R) w) e ∙ step_true_lem B l

    module _ (tb : Table) where
      abbrev B : Levels
      B = blame_of w.cell w.reason p (program_of t tb)

      step_de_lem : step_de p (w.cell p) (support w p (program_of t tb)) w ≡ did_ask t p (ask_of t tb w.cell p) B w
      unfolding ask_of
      step_de_lem =
          let e = with_only (places_of t tb) ∙ ap (support w p) (rules_at_lem t tb.first tb.rules) in
          ap (λ (s : Support). step_de p (w.cell p) s w) (sym e)
          ∙ step_by_lem B (w.cell p) (with_head t p (places_of t tb)) (ap (λ (s : Support). s.why) e ∙ blame_why (program_of t tb))

      pub step_atom_lem : step_atom (program_of t tb) p w ≡ if_settled w.verdict (did_ask t p (ask_of t tb w.cell p) B w) w
      step_atom_lem = ap (λ (u : Work). if_settled w.verdict u w) step_de_lem

      by_ask : w.verdict ≡ settled → (x : Ask) → ask_of t tb w.cell p ≡ x → step_atom (program_of t tb) p w ≡ did_ask t p x B w
      by_ask e x h =
          step_atom_lem ∙ ap (λ (v : Verdict). if_settled v (did_ask t p (ask_of t tb w.cell p) B w) w) e ∙ ap (λ (y : Ask). did_ask t p y B w) h

      pub ask_nothing : w.verdict ≡ settled → ask_of t tb w.cell p ≡ Nothing → step_atom (program_of t tb) p w ≡ w
      ask_nothing e h = by_ask e Nothing h

      pub ask_conflict : w.verdict ≡ settled → ask_of t tb w.cell p ≡ Conflict → step_atom (program_of t tb) p w ≡ refuted (union (w.reason p) B) w
      ask_conflict e h = by_ask e Conflict h

      pub ask_unset : w.verdict ≡ settled → ask_of t tb w.cell p ≡ Unset → step_atom (program_of t tb) p w ≡ set p false B w
      ask_unset e h = by_ask e Unset h

      pub ask_sole : (i : ℕ) → w.verdict ≡ settled → ask_of t tb w.cell p ≡ Sole i → step_atom (program_of t tb) p w ≡ step_e (some (rule_at t i)) (union (w.reason p) B) w
      ask_sole i e h = by_ask e (Sole i) h

-- ---- what an answer says of the atom and of the place

ask_is : (t : List ℤ) (tb : Table) (a : ℕ → Cell) (p : ℕ) → ask_of t tb a p ≡ ask_by (supports_of a p) (forced_of a) t (cell_value (a p)) (with_head t p (places_of t tb))
unfolding ask_of
ask_is t tb a p = refl

pub ask_by_lem : (t : List ℤ) (tb : Table) (a : ℕ → Cell) (p : ℕ) (v : Value) → cell_value (a p) ≡ v → ask_of t tb a p ≡ ask_by (supports_of a p) (forced_of a) t v (with_head t p (places_of t tb))
ask_by_lem t tb a p v e = ask_is t tb a p ∙ ap (λ (u : Value). ask_by (supports_of a p) (forced_of a) t u (with_head t p (places_of t tb))) e

pub sole_nothing : (i : ℕ) (b : Bool) → sole_by i b None ≡ Nothing
sole_nothing i true = refl
sole_nothing i false = refl

-- the rule that a true atom's answer names: it is in the list, and step e sets an atom there
module _ (f : Rule → Bool) (g : Rule → code.Option (ℕ × Bool)) (t : List ℤ) where
  abbrev Named : List ℕ → ℕ → Type 0
  Named l j = ((k : ℕ) × (k < length l) × (get_or l k 0 ≡ j)) × ((q : ℕ) × (v : Bool) × (g (rule_at t j) ≡ Some (q, v)))

  true_named : (l : List ℕ) (j : ℕ) → true_by f g t l ≡ Sole j → Named l j
  unfolding true_by
  true_named [] j e = absurd (let z : ◌≡◌ {A = ℕ} 0 1 = cc in omega arith)
  true_named (i ∷ l) j e = at (f (rule_at t i)) (some_rule f t l) (g (rule_at t i)) refl e (true_named l j)
    where
      at : (b c : Bool) (x : code.Option (ℕ × Bool)) → g (rule_at t i) ≡ x → elim b [ true ↦ sole_by i c x | false ↦ true_by f g t l ] ≡ Sole j → (true_by f g t l ≡ Sole j → Named l j) → Named (i ∷ l) j
      at true true x h e r = absurd (let z : ◌≡◌ {A = ℕ} 0 1 = cc in omega arith)
      at true false (Some (q, v)) h e r =
          let s : i ≡ j = cc in
          ((0, omega arith, s), (q, v, ap (λ (k : ℕ). g (rule_at t k)) (sym s) ∙ h))
      at true false None h e r = absurd (let z : ◌≡◌ {A = ℕ} 0 1 = cc in omega arith)
      at false c x h e r =
          let m = r e in
          let k = m.0.1 in
          ((suc m.0.0, omega (arith, k), m.0.2), m.1)

  true_not_unset : (l : List ℕ) → true_by f g t l ≡ Unset → ⊥
  unfolding true_by
  true_not_unset [] e = let z : ◌≡◌ {A = ℕ} 0 1 = cc in omega arith
  true_not_unset (i ∷ l) e = at (f (rule_at t i)) (some_rule f t l) (g (rule_at t i)) e (true_not_unset l)
    where
      at : (b c : Bool) (x : code.Option (ℕ × Bool)) → elim b [ true ↦ sole_by i c x | false ↦ true_by f g t l ] ≡ Unset → (true_by f g t l ≡ Unset → ⊥) → ⊥
      at true true x e r = let z : ◌≡◌ {A = ℕ} 0 1 = cc in omega arith
      at true false (Some (q, v)) e r = let z : ◌≡◌ {A = ℕ} 0 1 = cc in omega arith
      at true false None e r = let z : ◌≡◌ {A = ℕ} 0 1 = cc in omega arith
      at false c x e r = r e

  open_not_sole : (b : Bool) (j : ℕ) → open_by b ≡ Sole j → ⊥
  open_not_sole true j e = let z : ◌≡◌ {A = ℕ} 0 1 = cc in omega arith
  open_not_sole false j e = let z : ◌≡◌ {A = ℕ} 0 1 = cc in omega arith

  ask_named : (v : Value) (l : List ℕ) (j : ℕ) → ask_by f g t v l ≡ Sole j → Named l j
  ask_named False l j e = absurd (let z : ◌≡◌ {A = ℕ} 0 1 = cc in omega arith)
  ask_named Undefined l j e = absurd (open_not_sole (some_rule f t l) j e)
  ask_named True l j e = true_named l j e

pub ask_open : (t : List ℤ) (tb : Table) (a : ℕ → Cell) (p : ℕ) → ask_of t tb a p ≡ Unset → a p ≡ undefined
ask_open t tb a p e = at (a p) (sym (ask_is t tb a p) ∙ e)
  where
    at : (c : Cell) → ask_by (supports_of a p) (forced_of a) t (cell_value c) (with_head t p (places_of t tb)) ≡ Unset → c ≡ undefined
    at undefined h = refl
    at (defined false l) h = absurd (let z : ◌≡◌ {A = ℕ} 0 1 = cc in omega arith)
    at (defined true l) h = absurd (true_not_unset (supports_of a p) (forced_of a) t (with_head t p (places_of t tb)) h)

module _ (t : List ℤ) (tb : Table) (a : ℕ → Cell) (p i : ℕ) (e : ask_of t tb a p ≡ Sole i) where
  named : Named (supports_of a p) (forced_of a) t (with_head t p (places_of t tb)) i
  named = ask_named (supports_of a p) (forced_of a) t (cell_value (a p)) (with_head t p (places_of t tb)) i (sym (ask_is t tb a p) ∙ e)

  pub sole_lies : Laid t tb → RuleLies tb.atoms tb.aggregates t i
  sole_lies laid =
      let m = named in
      subst (RuleLies tb.atoms tb.aggregates t) m.0.2 (with_lie tb t p (places_of t tb) (places_lie tb t tb.first tb.rules laid.rules_lie) m.0.0 m.0.1)

  pub sole_sets : (q : ℕ) × (v : Bool) × (forced_of a (rule_at t i) ≡ Some (q, v))
  sole_sets = named.1

-- ---- the records do not matter

module _ (vs : List ℕ) (rs : List Record) where
  witness_alone : (p : ℕ) → witness_of (cells vs rs) p ≡ witness_of (valued vs) p
  unfolding witness_of
  witness_alone p = ap (λ (x : Lit → Value). witness_by x p) (fun_ext (value_alone vs rs))

  supports_alone : (p : ℕ) → supports_of (cells vs rs) p ≡ supports_of (valued vs) p
  unfolding supports_of
  supports_alone p = fun_ext (λ r. ap (λ (x : Rule → Option Lit). has p r.head && is_none (x r)) (witness_alone p))

  pub ask_alone : (t : List ℤ) (tb : Table) (p : ℕ) → ask_of t tb (cells vs rs) p ≡ ask_of t tb (valued vs) p
  ask_alone t tb p =
      let a = cells vs rs in
      let b = valued vs in
      let l = with_head t p (places_of t tb) in
      ask_is t tb a p
      ∙ ap (λ (f : Rule → Bool). ask_by f (forced_of a) t (cell_value (a p)) l) (supports_alone p)
      ∙ ap (λ (g : Rule → code.Option (ℕ × Bool)). ask_by (supports_of b p) g t (cell_value (a p)) l) (fun_ext (λ r. forced_alone r vs rs))
      ∙ ap (λ (v : Value). ask_by (supports_of b p) (forced_of b) t v l) (interpretation.value_alone vs rs p)
      ∙ sym (ask_is t tb b p)

  pub blame_alone : (R : ℕ → Levels) (p : ℕ) (P : Program) → blame_of (cells vs rs) R p P ≡ blame_of (valued vs) R p P
  unfolding blame_of
  blame_alone R p P =
      ap (λ (x : Rule → Option Lit). blame_by x (reason_of (cells vs rs) R) p P) (witness_alone p)
      ∙ ap (λ (y : Lit → Levels). blame_by (witness_of (valued vs) p) y p P) (fun_ext (reason_alone vs rs R))
