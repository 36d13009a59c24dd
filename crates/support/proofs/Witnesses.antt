-- The witness that the code names is the witness of the rule: the two are told in step, and so are support and the witness's reason.
--   Tells           what the code's name stands for
--   witness_tells   it stands for the rule's witness
--   supports-at, blamed-at, witness-atom, witness-literal   what follows of support, of the reason, and of the ranges of atom and index
-- Assumes nothing.
use Rattle.std.specs.Prelude.{Some, None, is_some}
use Rattle.std.specs.Prelude as code
use Prim.Native.Nat.{ℕ, ◌<◌}
use native.Mathlib.Omega.{arith}
use mathlib.Core.Path.{◌≡◌, refl, sym, ap, ◌∙◌, subst}
use mathlib.Core.Bool.{Bool, true, false, cond, not, ◌&&◌}
use mathlib.Core.Option.{Option, none, some}
use mathlib.Core.List.Memᴰ
use mathlib.Core.List.{List, [], ◌∷◌, ◌++◌, map}
use lib.Dec.{eqb}
use lib.IntN.{ℤ, pos}
use lib.ListN.{length, get_or}
use Rattle.meaning.specs.Lists.{◌∈◌, has}
use Rattle.meaning.specs.Program.{In, RuleIn}
use Rattle.levels.specs.Levels.{Levels, union}
use Rattle.interpretation.specs.State.{Cell}
use Rattle.interpretation.specs.View.{cell_value}
use Rattle.interpretation.specs.declared.Value.{Value}
use Rattle.interpretation.specs.declared.Value.TheVariants.{True, False, Undefined}
use Rattle.layout.specs.Layout.{atoms, part_at, pos_at, neg_at, aggs_at, literal_of, rule_at}
use Rattle.valuing.specs.Values.{says_true, says_false, opposite, Lit, atom_lit, agg_lit, value}
use Rattle.valuing.specs.Reasons.{reason_at, reason_of}
use Rattle.steps.specs.Steps.{body_lits, first_of, is_other, or_else}
use Rattle.literals.specs.Scan.{literal_lits, first_false}
use Rattle.literals.proofs.Scans.{is_false, Says, first_says}
use Rattle.literals.proofs.Together.{first_append, literal_at, literals_length, reason_atom}
use Rattle.support.specs.declared.Witness.{Witness}
use Rattle.support.specs.declared.Witness.TheVariants as witness
use Rattle.support.specs.Asking.{values_of, same_value, first_with, other_true, witness_of, is_none, supports_of, atom_or, refuted_by, body_witness, witness_at, is_nobody, joined_by, blamed_by}

-- ---- an atom of a list, as a literal

abbrev as_lit : Bool → code.Option ℕ → Option Lit
as_lit s (Some q) = some (atom_lit s q)
as_lit s None = none

abbrev pick : Bool → ℕ → code.Option ℕ → code.Option ℕ
pick b q c = elim b [ true ↦ Some q | false ↦ c ]

-- one literal more at the front
front : (s b : Bool) (q : ℕ) (o : Option Lit) (c : code.Option ℕ) → o ≡ as_lit s c → cond b (some (atom_lit s q)) o ≡ as_lit s (pick b q c)
front s true q o c e = refl
front s false q o c e = e

head_lits_lem : (a : ℕ → Cell) (p : ℕ) (l : List ℕ) → first_of (λ x. is_other p x && says_true (value a x)) (map (atom_lit true) l) ≡ as_lit true (other_true (values_of a) p l)
unfolding other_true
head_lits_lem a p [] = refl
head_lits_lem a p (q ∷ l) = front true (not (eqb q p) && says_true (cell_value (a q))) q _ (other_true (values_of a) p l) (head_lits_lem a p l)

pos_lits : (a : ℕ → Cell) (l : List ℕ) → first_of (is_false a) (map (atom_lit true) l) ≡ as_lit true (first_with (values_of a) False l)
unfolding first_with
pos_lits a [] = refl
pos_lits a (q ∷ l) = front true (says_false (cell_value (a q))) q _ (first_with (values_of a) False l) (pos_lits a l)

false_opposite : (v : Value) → says_false (opposite v) ≡ says_true v
false_opposite True = refl
false_opposite False = refl
false_opposite Undefined = refl

neg_lits : (a : ℕ → Cell) (l : List ℕ) → first_of (is_false a) (map (atom_lit false) l) ≡ as_lit false (first_with (values_of a) True l)
unfolding first_with
neg_lits a [] = refl
neg_lits a (q ∷ l) =
    ap (λ (b : Bool). cond b (some (atom_lit false q)) (first_of (is_false a) (map (atom_lit false) l))) (false_opposite (cell_value (a q)))
    ∙ front false (says_true (cell_value (a q))) q _ (first_with (values_of a) True l) (neg_lits a l)

-- ---- what is found is a member

pick_in : (b : Bool) (q r : ℕ) (c : code.Option ℕ) (l : List ℕ) → pick b q c ≡ Some r → (c ≡ Some r → r ∈ l) → r ∈ q ∷ l
pick_in true q r c l e f = let z : q ≡ r = cc in Memᴰ.head (sym z)
pick_in false q r c l e f = Memᴰ.tail (f e)

with_in : (g : ℕ → Value) (v : Value) (l : List ℕ) (r : ℕ) → first_with g v l ≡ Some r → r ∈ l
unfolding first_with
with_in g v [] r e = absurd (let z : ◌≡◌ {A = ℕ} 0 1 = cc in omega arith)
with_in g v (q ∷ l) r e = pick_in (same_value v (g q)) q r (first_with g v l) l e (with_in g v l r)

other_in : (g : ℕ → Value) (p : ℕ) (l : List ℕ) (r : ℕ) → other_true g p l ≡ Some r → r ∈ l
unfolding other_true
other_in g p [] r e = absurd (let z : ◌≡◌ {A = ℕ} 0 1 = cc in omega arith)
other_in g p (q ∷ l) r e = pick_in (not (eqb q p) && says_true (g q)) q r (other_true g p l) l e (other_in g p l r)

-- ---- the whole rule

-- the atom is one of 1 .. top, the index lies in the list of aggregate literals
pub data Tells (top : ℕ) (t : List ℤ) (i : ℕ) : code.Option Witness → Option Lit → Type 0 where
  nobody : Tells top t i None none
  atom : (s : Bool) (q : ℕ) → In top q → Tells top t i (Some (witness.Atom q)) (some (atom_lit s q))
  literal : (k : ℕ) → k < length (part_at t (aggs_at t i)) → Tells top t i (Some (witness.Literal k)) (some (agg_lit (literal_of t (get_or (part_at t (aggs_at t i)) k (pos 0)))))

-- there is none
pub none_nobody : (b : Bool) (w : code.Option Witness) → is_some w ≡ not b → b ≡ is_nobody w
none_nobody true None e = refl
none_nobody true (Some w) e = e
none_nobody false None e = e
none_nobody false (Some w) e = refl

-- the witness's reason joined to a set
abbrev pub share_of : (ℕ → Cell) → List ℤ → ℕ → (ℕ → Levels) → code.Option Witness → Levels → Levels
share_of a t i R None B = B
share_of a t i R (Some (witness.Atom q)) B = union (reason_at (a q) (R q)) B
share_of a t i R (Some (witness.Literal k)) B = union (reason_of a R (agg_lit (literal_of t (get_or (part_at t (aggs_at t i)) k (pos 0))))) B

module _ (top : ℕ) (t : List ℤ) (i : ℕ) (a : ℕ → Cell) where
  pub rule_head : (rule_at t i).head ≡ atoms (part_at t i)
  unfolding rule_at
  rule_head = refl

  -- the atoms first
  tells_or : (s : Bool) (c : code.Option ℕ) (o : Option Lit) → o ≡ as_lit s c → ((q : ℕ) → c ≡ Some q → In top q) → (w : code.Option Witness) (x : Option Lit) → Tells top t i w x → Tells top t i (atom_or c w) (or_else o x)
  tells_or s (Some q) o e f w x T = subst (λ (y : Option Lit). Tells top t i (Some (witness.Atom q)) (or_else y x)) (sym e) (atom s q (f q refl))
  tells_or s None o e f w x T = subst (λ (y : Option Lit). Tells top t i w (or_else y x)) (sym e) T

  tells_aggs : Tells top t i (refuted_by (first_false a (literal_lits t (part_at t (aggs_at t i))))) (first_of (is_false a) (literal_lits t (part_at t (aggs_at t i))))
  tells_aggs = at (first_false a L) (first_says d a L)
    where
      L : List Lit
      L = literal_lits t (part_at t (aggs_at t i))

      d : Lit
      d = agg_lit (literal_of t (pos 0))

      at : (r : code.Option ℕ) → Says d a L r → Tells top t i (refuted_by r) (first_of (is_false a) L)
      at (Some k) s = subst (Tells top t i (Some (witness.Literal k))) (sym (s.first ∙ ap some (literal_at t (part_at t (aggs_at t i)) k))) (literal k (rw (sym (literals_length t (part_at t (aggs_at t i)))) s.within))
      at None s = subst (Tells top t i None) (sym s.no_first) nobody

  module _ (I : RuleIn top (rule_at t i)) where
    heads_in : (q : ℕ) → q ∈ atoms (part_at t i) → In top q
    unfolding rule_at
    heads_in = I.heads

    poss_in : (q : ℕ) → q ∈ atoms (part_at t (pos_at t i)) → In top q
    unfolding rule_at
    poss_in = I.poss

    negs_in : (q : ℕ) → q ∈ atoms (part_at t (neg_at t i)) → In top q
    unfolding rule_at
    negs_in = I.negs

    tells_body : Tells top t i (body_witness a t i) (first_of (is_false a) (body_lits (rule_at t i)))
    unfolding body_witness rule_at
    tells_body =
        let ps = map (atom_lit true) (atoms (part_at t (pos_at t i))) in
        let ns = map (atom_lit false) (atoms (part_at t (neg_at t i))) in
        let gs = literal_lits t (part_at t (aggs_at t i)) in
        let e : first_of (is_false a) (ps ++ (ns ++ gs)) ≡ or_else (first_of (is_false a) ps) (or_else (first_of (is_false a) ns) (first_of (is_false a) gs)) =
        first_append (is_false a) ps (ns ++ gs) ∙ ap (or_else (first_of (is_false a) ps)) (first_append (is_false a) ns gs) in
        subst (Tells top t i (body_witness a t i)) (sym e)
        (tells_or true (first_with (values_of a) False (atoms (part_at t (pos_at t i)))) (first_of (is_false a) ps) (pos_lits a (atoms (part_at t (pos_at t i)))) (λ q h. poss_in q (with_in (values_of a) False (atoms (part_at t (pos_at t i))) q h)) _ _
        (tells_or false (first_with (values_of a) True (atoms (part_at t (neg_at t i)))) (first_of (is_false a) ns) (neg_lits a (atoms (part_at t (neg_at t i)))) (λ q h. negs_in q (with_in (values_of a) True (atoms (part_at t (neg_at t i))) q h)) _ _
        tells_aggs))

    pub witness_tells : (p : ℕ) → Tells top t i (witness_at a t p i) (witness_of a p (rule_at t i))
    unfolding witness_of witness_at rule_at
    witness_tells p =
        tells_or true (other_true (values_of a) p (atoms (part_at t i))) (first_of (λ x. is_other p x && says_true (value a x)) (map (atom_lit true) (atoms (part_at t i)))) (head_lits_lem a p (atoms (part_at t i)))
        (λ q h. heads_in q (other_in (values_of a) p (atoms (part_at t i)) q h)) _ _ tells_body

    -- ---- what follows

    nobody_none : (w : code.Option Witness) (o : Option Lit) → Tells top t i w o → is_none o ≡ is_nobody w
    nobody_none w o nobody = refl
    nobody_none w o (atom s q h) = refl
    nobody_none w o (literal k h) = refl

    pub supports_at : (p : ℕ) → supports_of a p (rule_at t i) ≡ has p (atoms (part_at t i)) && is_nobody (witness_at a t p i)
    unfolding supports_of
    supports_at p =
        ap (λ (l : List ℕ). has p l && is_none (witness_of a p (rule_at t i))) rule_head
        ∙ ap (λ (b : Bool). has p (atoms (part_at t i)) && b) (nobody_none (witness_at a t p i) (witness_of a p (rule_at t i)) (witness_tells p))

    share : (R : ℕ → Levels) (w : code.Option Witness) (o : Option Lit) (B : Levels) → Tells top t i w o → joined_by (reason_of a R) o B ≡ share_of a t i R w B
    share R w o B nobody = refl
    share R w o B (atom s q h) = ap (λ (A : Levels). union A B) (reason_atom a R s q)
    share R w o B (literal k h) = refl

    share_at : (R : ℕ → Levels) (p : ℕ) (B : Levels) → joined_by (reason_of a R) (witness_of a p (rule_at t i)) B ≡ share_of a t i R (witness_at a t p i) B
    share_at R p B = share R (witness_at a t p i) (witness_of a p (rule_at t i)) B (witness_tells p)

    pub blamed_at : (R : ℕ → Levels) (p : ℕ) (B : Levels)
        → blamed_by (witness_of a p) (reason_of a R) p (rule_at t i) B ≡ cond (has p (atoms (part_at t i))) (share_of a t i R (witness_at a t p i) B) B
    blamed_at R p B =
        ap (λ (l : List ℕ). cond (has p l) (joined_by (reason_of a R) (witness_of a p (rule_at t i)) B) B) rule_head
        ∙ ap (λ (C : Levels). cond (has p (atoms (part_at t i))) C B) (share_at R p B)

    abbrev Ranged : code.Option Witness → Type 0
    Ranged None = Unit {0}
    Ranged (Some (witness.Atom q)) = In top q
    Ranged (Some (witness.Literal k)) = k < length (part_at t (aggs_at t i))

    ranged : (w : code.Option Witness) (o : Option Lit) → Tells top t i w o → Ranged w
    ranged w o nobody = tt
    ranged w o (atom s q h) = h
    ranged w o (literal k h) = h

    pub witness_atom : (p q : ℕ) → witness_at a t p i ≡ Some (witness.Atom q) → In top q
    witness_atom p q e = subst Ranged e (ranged (witness_at a t p i) (witness_of a p (rule_at t i)) (witness_tells p))

    pub witness_literal : (p k : ℕ) → witness_at a t p i ≡ Some (witness.Literal k) → k < length (part_at t (aggs_at t i))
    witness_literal p k e = subst Ranged e (ranged (witness_at a t p i) (witness_of a p (rule_at t i)) (witness_tells p))
