-- Rules with a new atom in the place of each aggregate literal, and the rules that define the new atoms: what is asked of them. Assumes nothing.
use mathlib.Core.Path.{◌≡◌, refl, sym, ◌∙◌}
use mathlib.Core.Logic.{◌⊎◌, inl, inr}
use mathlib.Core.Bool.{Bool, true, false, not, beq, false≢true}
use mathlib.Core.List.Memᴰ
use mathlib.Core.List.{List, [], ◌∷◌, ◌++◌, map}
use Prim.Native.Nat.{ℕ, suc, ◌<◌}
use native.Mathlib.Omega.{arith}
use lib.Dec.{ltb}
use lib.IntN.{ℤ}
use Rattle.meaning.specs.Lists.{Is, ◌∈◌, any, cons_if}
use Rattle.meaning.specs.Program.{Element, Aggregate, Literal, Rule, Program, In, AtomsIn}
use Rattle.meaning.specs.Aggregates.{Atoms}
use Rattle.meaning.specs.Answers.{literal, body}
use Rattle.meaning.specs.Cycles.{inside}
use Rattle.meaning.proofs.Tools.{both, and_i, and_l, and_r}
use Rattle.meaning.proofs.Bounds.{lt, lt_i}
use Rattle.meaning.proofs.Meaning.{body_e, body_i}
use Rattle.meaning.proofs.Least.{literal_same}
use Rattle.table.specs.Contents.{NumberedRule, literal_by, rule_by}
use Rattle.aspif.specs.Statements.{Signed, positives, negateds}
use Rattle.aspif.specs.Writing.{with, restricted}

-- ---- members

module _ {A : Type 0} where
  pub cons_e : (b : Bool) {x y : A} {l : List A} → x ∈ cons_if b y l → (Is b × (x ≡ y)) ⊎ (x ∈ l)
  cons_e true (Memᴰ.head e) = inl (refl, e)
  cons_e true (Memᴰ.tail m) = inr m
  cons_e false m = inr m

  pub cons_head : (b : Bool) {x y : A} (l : List A) → Is b → x ≡ y → x ∈ cons_if b y l
  cons_head true l h e = Memᴰ.head e
  cons_head false l h e = absurd (false≢true h)

  pub cons_tail : (b : Bool) {x : A} (y : A) {l : List A} → x ∈ l → x ∈ cons_if b y l
  cons_tail true y m = Memᴰ.tail m
  cons_tail false y m = m

-- ---- tests

pub beq_on : (s b y : Bool) → y ≡ beq s b → Is s → y ≡ b
beq_on true true y e h = e
beq_on true false y e h = e
beq_on false b y e h = absurd (false≢true h)

pub beq_off : (s b y : Bool) → y ≡ beq s b → s ≡ false → y ≡ not b
beq_off true b y e h = absurd (false≢true (sym h))
beq_off false true y e h = e
beq_off false false y e h = e

pub inside_i : (n p : ℕ) → In n p → Is (inside n p)
inside_i n p h = and_i (lt_i 0 p h.0) (lt_i p (suc n) (omega (arith, h.1)))

pub inside_e : (n p : ℕ) → Is (inside n p) → In n p
inside_e n p h = let a = lt 0 p (and_l _ _ h) in let b = lt p (suc n) (and_r (ltb 0 p) _ h) in (omega arith, omega arith)

pub restricted_same : (n : ℕ) (Y : Atoms) (p : ℕ) → In n p → restricted n Y p ≡ Y p
unfolding restricted
restricted_same n Y p h = both _ _ (λ k. and_l _ _ k) (λ k. and_i k (inside_i n p h))

pub restricted_in : (n : ℕ) (Y : Atoms) (p : ℕ) → Is (restricted n Y p) → In n p
unfolding restricted
restricted_in n Y p h = inside_e n p (and_r (Y p) _ h)

-- ---- the atoms of a rule's body

-- q is a positive or negated body atom, or an element's atom
pub data Touches (q : ℕ) (d : Rule) : Type 0 where
  in_pos : q ∈ d.pos → Touches q d
  in_neg : q ∈ d.neg → Touches q d
  in_aggs : (l : Literal) → l ∈ d.aggs → (e : Element) → e ∈ l.aggregate.elements → q ≡ e.atom → Touches q d

-- a body is the same in interpretations that agree on these
pub body_agree : (I J : Atoms) (d : Rule) → ((q : ℕ) → Touches q d → I q ≡ J q) → Is (body I d) → Is (body J d)
body_agree I J d f h =
    let b = body_e I d h in
    body_i J d (record {
      poss = λ q m. sym (f q (in_pos m)) ∙ b.poss q m;
      negs = λ q m. sym (f q (in_neg m)) ∙ b.negs q m;
      lits = λ l m. sym (literal_same I J l (λ e em. f e.atom (in_aggs l m e em refl))) ∙ b.lits l m;
    })

-- ---- the new program

module _ (gs : List Aggregate) (rules : List NumberedRule) (L : List ℤ) (aux : ℤ → ℕ) (sgn : ℤ → Bool) (defs : ℤ → List Rule) where
  abbrev pub new_literal : ℤ → Signed
  new_literal j = with (sgn j) (aux j)

  abbrev pub renamed : NumberedRule → Rule
  renamed r = record { head = r.head; pos = r.pos ++ positives (map new_literal r.aggs); neg = r.neg ++ negateds (map new_literal r.aggs); aggs = [] }

  abbrev pub all_defs : List ℤ → List Rule
  all_defs [] = []
  all_defs (j ∷ l) = defs j ++ all_defs l

  abbrev pub old_program : Program
  old_program = map (rule_by gs) rules

  abbrev pub new_program : Program
  new_program = map renamed rules ++ all_defs L

-- what is asked of the new atoms and of their rules; the atoms to n are old
pub record Defined (gs : List Aggregate) (rules : List NumberedRule) (L : List ℤ) (aux : ℤ → ℕ) (sgn : ℤ → Bool) (defs : ℤ → List Rule) (n : ℕ) : Type 0 where
  pub atoms : AtomsIn n (old_program gs rules L aux sgn defs)
  pub in_use : (r : NumberedRule) → r ∈ rules → (j : ℤ) → j ∈ r.aggs → j ∈ L
  pub elems : (j : ℤ) → j ∈ L → (e : Element) → e ∈ (literal_by gs j).aggregate.elements → In n e.atom
  pub above : (j : ℤ) → j ∈ L → n < aux j
  pub apart : (i j : ℤ) → i ∈ L → j ∈ L → aux i ≡ aux j → i ≡ j
  pub heads : (j : ℤ) → j ∈ L → (d : Rule) → d ∈ defs j → d.head ≡ aux j ∷ []
  pub touched : (j : ℤ) → j ∈ L → (d : Rule) → d ∈ defs j → (q : ℕ) → Touches q d → (e : Element) × (e ∈ (literal_by gs j).aggregate.elements) × (q ≡ e.atom)
  pub value : (j : ℤ) → j ∈ L → (I : Atoms) → any (body I) (defs j) ≡ beq (sgn j) (literal I (literal_by gs j))
