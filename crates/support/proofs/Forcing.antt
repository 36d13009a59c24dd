-- Step e as a loop: what `forced_of` names is undefined, setting it changes nothing of what the step comes to, and where it names nothing the step is done.
-- Assumes nothing.
use Rattle.std.specs.Prelude.{Some, None}
use Rattle.std.specs.Prelude as code
use Prim.Native.Nat.{ℕ}
use native.Mathlib.Omega.{arith}
use mathlib.Core.Path.{◌≡◌, refl, sym, ap, ◌∙◌, fun_ext, subst}
use mathlib.Core.Logic.{◌≢◌, ◌⊎◌, inl, inr}
use mathlib.Core.Bool.{Bool, true, false, cond}
use mathlib.Core.Option.{some}
use mathlib.Core.List.Memᴰ
use mathlib.Core.List.{List, [], ◌∷◌}
use Rattle.meaning.specs.Lists.{◌∈◌}
use Rattle.meaning.specs.Cond.{if_eq}
use Rattle.meaning.specs.Program.{Rule, In, RuleIn}
use Rattle.meaning.proofs.Cond.{if_eq_yes, if_eq_no, eq_case}
use Rattle.meaning.proofs.Tools.{clash}
use Rattle.levels.specs.Levels.{Levels}
use Rattle.interpretation.specs.State.{Cell, undefined, defined}
use Rattle.interpretation.specs.View.{cell_value, cells, valued}
use Rattle.interpretation.specs.declared.Record.{Record}
use Rattle.interpretation.specs.declared.Value.{Value}
use Rattle.interpretation.specs.declared.Value.TheVariants.{Undefined}
use Rattle.interpretation.proofs.Laws.{value_alone}
use Rattle.valuing.specs.Values.{says_undefined}
use Rattle.steps.specs.Steps.{Work, set, set_all, step_e}
use Rattle.support.specs.Asking.{values_of, first_with, or_set, forced_by, forced_of}

-- ---- the first undefined atom of a list

abbrev is_open : Value → Bool
is_open v = says_undefined v

abbrev pick : Bool → ℕ → code.Option ℕ → code.Option ℕ
pick b q c = elim b [ true ↦ Some q | false ↦ c ]

with_cons : (g : ℕ → Value) (q : ℕ) (l : List ℕ) → first_with g Undefined (q ∷ l) ≡ pick (is_open (g q)) q (first_with g Undefined l)
unfolding first_with
with_cons g q l = refl

-- none is undefined
pub none_open : (g : ℕ → Value) (q : ℕ) (l : List ℕ) → first_with g Undefined (q ∷ l) ≡ None → (is_open (g q) ≡ false) × (first_with g Undefined l ≡ None)
none_open g q l e = at (is_open (g q)) refl (sym (with_cons g q l) ∙ e)
  where
    at : (b : Bool) → is_open (g q) ≡ b → pick b q (first_with g Undefined l) ≡ None → (is_open (g q) ≡ false) × (first_with g Undefined l ≡ None)
    at true h e = absurd (let z : ◌≡◌ {A = ℕ} 0 1 = cc in omega arith)
    at false h e = (h, e)

-- the first is p: at the front, or later
pub some_open : (g : ℕ → Value) (q p : ℕ) (l : List ℕ) → first_with g Undefined (q ∷ l) ≡ Some p
    → ((is_open (g q) ≡ true) × (q ≡ p)) ⊎ ((is_open (g q) ≡ false) × (first_with g Undefined l ≡ Some p))
some_open g q p l e = at (is_open (g q)) refl (sym (with_cons g q l) ∙ e)
  where
    at : (b : Bool) → is_open (g q) ≡ b → pick b q (first_with g Undefined l) ≡ Some p
        → ((is_open (g q) ≡ true) × (q ≡ p)) ⊎ ((is_open (g q) ≡ false) × (first_with g Undefined l ≡ Some p))
    at true h e = inl (h, cc)
    at false h e = inr (h, e)

-- ---- all of a list

open_defined : (v : Bool) (l : ℕ) → is_open (cell_value (defined v l)) ≡ false
open_defined true l = refl
open_defined false l = refl

module _ (q : ℕ) (v : Bool) (R : Levels) (w : Work) where
  -- an atom that is defined stays so
  still : (p : ℕ) → is_open (cell_value (w.cell p)) ≡ false → is_open (cell_value ((set q v R w).cell p)) ≡ false
  still p h = at (eq_case p q)
    where
      at : (p ≡ q) ⊎ (p ≢ q) → is_open (cell_value (if_eq p q (defined v w.level) (w.cell p))) ≡ false
      at (inl e) = ap (λ (c : Cell). is_open (cell_value c)) (if_eq_yes p q (defined v w.level) (w.cell p) e) ∙ open_defined v w.level
      at (inr n) = ap (λ (c : Cell). is_open (cell_value c)) (if_eq_no p q (defined v w.level) (w.cell p) n) ∙ h

  now_set : (p : ℕ) → p ≡ q → is_open (cell_value ((set q v R w).cell p)) ≡ false
  now_set p e = ap (λ (c : Cell). is_open (cell_value c)) (if_eq_yes p q (defined v w.level) (w.cell p) e) ∙ open_defined v w.level

  pub none_still : (l : List ℕ) → first_with (values_of w.cell) Undefined l ≡ None → first_with (values_of (set q v R w).cell) Undefined l ≡ None
  unfolding first_with
  none_still [] e = refl
  none_still (p ∷ l) e =
      let t = none_open (values_of w.cell) p l e in
      with_cons (values_of (set q v R w).cell) p l ∙ ap (λ (b : Bool). pick b p (first_with (values_of (set q v R w).cell) Undefined l)) (still p t.0) ∙ none_still l t.1

-- an atom that is not undefined is passed over
set_on : (v : Bool) (R : Levels) (p : ℕ) (l : List ℕ) (w : Work) → is_open (cell_value (w.cell p)) ≡ false → set_all v R (p ∷ l) w ≡ set_all v R l w
set_on v R p l w h = ap (λ (b : Bool). set_all v R l (cond b (set p v R w) w)) h

set_here : (v : Bool) (R : Levels) (p : ℕ) (l : List ℕ) (w : Work) → is_open (cell_value (w.cell p)) ≡ true → set_all v R (p ∷ l) w ≡ set_all v R l (set p v R w)
set_here v R p l w h = ap (λ (b : Bool). set_all v R l (cond b (set p v R w) w)) h

pub set_none : (v : Bool) (R : Levels) (l : List ℕ) (w : Work) → first_with (values_of w.cell) Undefined l ≡ None → set_all v R l w ≡ w
set_none v R [] w e = refl
set_none v R (p ∷ l) w e = let t = none_open (values_of w.cell) p l e in set_on v R p l w t.0 ∙ set_none v R l w t.1

pub set_first : (v : Bool) (R : Levels) (l : List ℕ) (w : Work) (q : ℕ) → first_with (values_of w.cell) Undefined l ≡ Some q → set_all v R l w ≡ set_all v R l (set q v R w)
unfolding first_with
set_first v R [] w q e = absurd (let z : ◌≡◌ {A = ℕ} 0 1 = cc in omega arith)
set_first v R (p ∷ l) w q e = at (some_open (values_of w.cell) p q l e) (set_first v R l w q)
  where
    at : ((is_open (cell_value (w.cell p)) ≡ true) × (p ≡ q)) ⊎ ((is_open (cell_value (w.cell p)) ≡ false) × (first_with (values_of w.cell) Undefined l ≡ Some q))
        → (first_with (values_of w.cell) Undefined l ≡ Some q → set_all v R l w ≡ set_all v R l (set q v R w)) → set_all v R (p ∷ l) w ≡ set_all v R (p ∷ l) (set q v R w)
    at (inl (h, s)) f = set_here v R p l w h ∙ ap (λ (o : ℕ). set_all v R l (set o v R w)) s ∙ sym (set_on v R p l (set q v R w) (now_set q v R w p s))
    at (inr (h, s)) f = set_on v R p l w h ∙ f s ∙ sym (set_on v R p l (set q v R w) (still q v R w p h))

-- ---- step e

module _ (r : Rule) where
  forced_is : (a : ℕ → Cell) → forced_of a r ≡ forced_by (values_of a) r
  unfolding forced_of
  forced_is a = refl

  -- the three lists in order
  pub data Forces (g : ℕ → Value) : code.Option (ℕ × Bool) → Type 0 where
    in_head : (q : ℕ) → first_with g Undefined r.head ≡ Some q → Forces g (Some (q, false))
    in_pos : (q : ℕ) → first_with g Undefined r.head ≡ None → first_with g Undefined r.pos ≡ Some q → Forces g (Some (q, true))
    in_neg : (q : ℕ) → first_with g Undefined r.head ≡ None → first_with g Undefined r.pos ≡ None → first_with g Undefined r.neg ≡ Some q → Forces g (Some (q, false))
    no_more : first_with g Undefined r.head ≡ None → first_with g Undefined r.pos ≡ None → first_with g Undefined r.neg ≡ None → Forces g None

  forces : (g : ℕ → Value) → Forces g (forced_by g r)
  forces g = at (first_with g Undefined r.head) refl (first_with g Undefined r.pos) refl (first_with g Undefined r.neg) refl
    where
      at : (x : code.Option ℕ) → first_with g Undefined r.head ≡ x → (y : code.Option ℕ) → first_with g Undefined r.pos ≡ y → (z : code.Option ℕ) → first_with g Undefined r.neg ≡ z
          → Forces g (or_set x false (or_set y true (or_set z false None)))
      at (Some q) e y f z h = in_head q e
      at None e (Some q) f z h = in_pos q e f
      at None e None f (Some q) h = in_neg q e f h
      at None e None f None h = no_more e f h

  -- what a step that is forced does to step e
  abbrev done : code.Option (ℕ × Bool) → Levels → Work → Work
  done (Some (q, v)) R w = step_e (some r) R (set q v R w)
  done None R w = w

  goes : (R : Levels) (w : Work) (n : code.Option (ℕ × Bool)) → Forces (values_of w.cell) n → step_e (some r) R w ≡ done n R w
  goes R w n (in_head q e) = ap (λ (u : Work). set_all false R r.neg (set_all true R r.pos u)) (set_first false R r.head w q e)
  goes R w n (in_pos q e f) =
      ap (λ (u : Work). set_all false R r.neg (set_all true R r.pos u)) (set_none false R r.head w e)
      ∙ ap (λ (u : Work). set_all false R r.neg u) (set_first true R r.pos w q f)
      ∙ sym (ap (λ (u : Work). set_all false R r.neg (set_all true R r.pos u)) (set_none false R r.head (set q true R w) (none_still q true R w r.head e)))
  goes R w n (in_neg q e f h) =
      ap (λ (u : Work). set_all false R r.neg (set_all true R r.pos u)) (set_none false R r.head w e)
      ∙ ap (λ (u : Work). set_all false R r.neg u) (set_none true R r.pos w f)
      ∙ set_first false R r.neg w q h
      ∙ sym (ap (λ (u : Work). set_all false R r.neg (set_all true R r.pos u)) (set_none false R r.head (set q false R w) (none_still q false R w r.head e))
      ∙ ap (λ (u : Work). set_all false R r.neg u) (set_none true R r.pos (set q false R w) (none_still q false R w r.pos f)))
  goes R w n (no_more e f h) =
      ap (λ (u : Work). set_all false R r.neg (set_all true R r.pos u)) (set_none false R r.head w e)
      ∙ ap (λ (u : Work). set_all false R r.neg u) (set_none true R r.pos w f)
      ∙ set_none false R r.neg w h

  forced_does : (R : Levels) (w : Work) → step_e (some r) R w ≡ done (forced_of w.cell r) R w
  forced_does R w = goes R w (forced_by (values_of w.cell) r) (forces (values_of w.cell)) ∙ sym (ap (λ (n : code.Option (ℕ × Bool)). done n R w) (forced_is w.cell))

  pub forced_nothing : (R : Levels) (w : Work) → forced_of w.cell r ≡ None → step_e (some r) R w ≡ w
  forced_nothing R w e = forced_does R w ∙ ap (λ (n : code.Option (ℕ × Bool)). done n R w) e

  pub forced_set : (R : Levels) (w : Work) (q : ℕ) (v : Bool) → forced_of w.cell r ≡ Some (q, v) → step_e (some r) R w ≡ step_e (some r) R (set q v R w)
  forced_set R w q v e = forced_does R w ∙ ap (λ (n : code.Option (ℕ × Bool)). done n R w) e

  -- ---- the atom that is named

  open_cell : (c : Cell) → is_open (cell_value c) ≡ true → c ≡ undefined
  open_cell undefined h = refl
  open_cell (defined true l) h = absurd (clash h refl)
  open_cell (defined false l) h = absurd (clash h refl)

  first_open : (a : ℕ → Cell) (l : List ℕ) (q : ℕ) → first_with (values_of a) Undefined l ≡ Some q → (q ∈ l) × (a q ≡ undefined)
  unfolding first_with
  first_open a [] q e = absurd (let z : ◌≡◌ {A = ℕ} 0 1 = cc in omega arith)
  first_open a (p ∷ l) q e = at (some_open (values_of a) p q l e) (first_open a l q)
    where
      at : ((is_open (cell_value (a p)) ≡ true) × (p ≡ q)) ⊎ ((is_open (cell_value (a p)) ≡ false) × (first_with (values_of a) Undefined l ≡ Some q))
          → (first_with (values_of a) Undefined l ≡ Some q → (q ∈ l) × (a q ≡ undefined)) → (q ∈ p ∷ l) × (a q ≡ undefined)
      at (inl (h, s)) f = (Memᴰ.head (sym s), ap a (sym s) ∙ open_cell (a p) h)
      at (inr (h, s)) f = let t = f s in (Memᴰ.tail t.0, t.1)

  abbrev Named : ℕ → (ℕ → Cell) → code.Option (ℕ × Bool) → Type 0
  Named n a (Some (q, v)) = In n q × (a q ≡ undefined)
  Named n a None = Unit {0}

  named : (n : ℕ) → RuleIn n r → (a : ℕ → Cell) (x : code.Option (ℕ × Bool)) → Forces (values_of a) x → Named n a x
  named n I a x (in_head q e) = let t = first_open a r.head q e in (I.heads q t.0, t.1)
  named n I a x (in_pos q e f) = let t = first_open a r.pos q f in (I.poss q t.0, t.1)
  named n I a x (in_neg q e f h) = let t = first_open a r.neg q h in (I.negs q t.0, t.1)
  named n I a x (no_more e f h) = tt

  -- it is an atom of the program and undefined (`layout`'s `rule_in_lem` gives the premise for a rule that lies in the table)
  pub forced_open : (n : ℕ) → RuleIn n r → (a : ℕ → Cell) (q : ℕ) (v : Bool) → forced_of a r ≡ Some (q, v) → In n q × (a q ≡ undefined)
  forced_open n I a q v e = subst (Named n a) (sym (forced_is a) ∙ e) (named n I a (forced_by (values_of a) r) (forces (values_of a)))

  -- the records do not matter
  pub forced_alone : (vs : List ℕ) (rs : List Record) → forced_of (cells vs rs) r ≡ forced_of (valued vs) r
  unfolding forced_of
  forced_alone vs rs = ap (λ (g : ℕ → Value). forced_by g r) (fun_ext (value_alone vs rs))
