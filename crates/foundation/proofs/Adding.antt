-- What a rule could add: the atom p exactly where the rule supports p, once its positive atoms are true.
-- Assumes nothing.
use Prim.Native.Nat.{ℕ, zero, suc, ◌<◌}
use native.Mathlib.Omega.{arith}
use mathlib.Core.Path.{◌≡◌, refl, sym, ap, ap₂, subst, ◌∙◌}
use mathlib.Core.Logic.{◌⊎◌, inl, inr}
use mathlib.Core.Bool.{Bool, true, false, not, ◌&&◌}
use mathlib.Core.List.Memᴰ
use mathlib.Core.List.{List, [], ◌∷◌, map}
use lib.Dec.{eqb}
use lib.ListN.{length, length-map, get_or, get_or-map}
use Rattle.meaning.specs.Lists.{Is, ◌∈◌, all, any}
use Rattle.meaning.specs.Aggregates.{Atoms}
use Rattle.meaning.specs.Program.{Rule, Literal, RuleIn}
use Rattle.meaning.specs.Answers.{body}
use Rattle.meaning.specs.Foundedness.{supports}
use Rattle.meaning.proofs.Tools.{clash, cases, not_is, is_not_lem, and_i, and_l, and_r, or_l, or_r, or_e, eq, eq_i, all_at, all_i, any_i}
use Rattle.meaning.proofs.Meaning.{body_i, body_e, Only, supports_i, supports_body, supports_only}
use Rattle.interpretation.specs.State.{Cell, undefined, defined, truth_of, true_atoms, AllDefined}
use Rattle.interpretation.specs.View.{cell_value}
use Rattle.interpretation.specs.declared.Value.TheVariants.{False}
use Rattle.valuing.specs.Values.{says_false, opposite, Lit, atom_lit, agg_lit, value, true_in}
use Rattle.steps.proofs.Lits.{map_i}
use Rattle.literals.specs.Scan.{first_false}
use Rattle.literals.proofs.Scans.{is_false, says_at, says_nothing}
use Rattle.rules.specs.Demand.{together, is_conflict}
use Rattle.std.specs.Prelude.{Option}
use Rattle.std.specs.Prelude.{None, Some}
use Rattle.foundation.specs.Walk.{fits, add_if, sole_by, sole_of, rest_true, could_by, could_of}
use Rattle.foundation.proofs.Decided.{true_at, decides_body, ask_bool, asks_decided, ask_conflict}

-- ---- small facts

abbrev is_atom : Option ℕ → Bool
is_atom None = false
is_atom (Some p) = true

pub not_atom : {p : ℕ} → None ≡ Some p → ⊥
not_atom e = clash {b = true} refl (ap is_atom (sym e))

add_e : (b : Bool) (q p : ℕ) → add_if b q ≡ Some p → Is b × (q ≡ p)
add_e true q p e = (refl, cc)
add_e false q p e = absurd (not_atom e)

get_in : (l : List ℕ) (k d : ℕ) → k < length l → get_or l k d ∈ l
get_in [] k d h = absurd (omega arith)
get_in (x ∷ l) zero d h = Memᴰ.head refl
get_in (x ∷ l) (suc k) d h = Memᴰ.tail (get_in l k d (omega arith))

true_cell : (c : Cell) → opposite (cell_value c) ≡ False → Is (truth_of c)
true_cell undefined e = absurd (clash (ap says_false e) refl)
true_cell (defined true l) e = refl
true_cell (defined false l) e = absurd (clash (ap says_false e) refl)

false_cell : (c : Cell) → Is (truth_of c) → Is (says_false (opposite (cell_value c)))
false_cell undefined h = absurd (clash h refl)
false_cell (defined true l) h = refl
false_cell (defined false l) h = absurd (clash h refl)

-- ---- the only true atom of a head

module _ (a : ℕ → Cell) (ps : List ℕ) where
  -- p is one of them and true, and no other is
  pub record Sole (p : ℕ) : Type 0 where
    pub inside : p ∈ ps
    pub is_true : Is (truth_of (a p))
    pub unique : (h : ℕ) → h ∈ ps → Is (truth_of (a h)) → h ≡ p

  denied : List Lit
  denied = map (atom_lit false) ps

  -- the literal that is found is that of a true atom
  stop_true : (k : ℕ) → first_false a (map (atom_lit false) ps) ≡ Some k → (get_or ps k 0 ∈ ps) × Is (truth_of (a (get_or ps k 0)))
  stop_true k e =
      let s = says_at (atom_lit false 0) a (map (atom_lit false) ps) k e in
      let w = s.within in
      let g = length-map ps (atom_lit false) in
      (get_in ps k 0 (omega arith), true_cell (a (get_or ps k 0)) (ap (value a) (sym (get_or-map (atom_lit false) ps k 0)) ∙ s.it_is))

  fits_e : (p : ℕ) → Is (all (fits a p) ps) → (h : ℕ) → h ∈ ps → Is (truth_of (a h)) → h ≡ p
  fits_e p f h m t = at (or_e _ _ (all_at (fits a p) ps f m))
    where
      at : Is (not (truth_of (a h))) ⊎ Is (eqb h p) → h ≡ p
      at (inl k) = absurd (clash t (not_is _ k))
      at (inr k) = eq h p k

  fits_i : (p : ℕ) → ((h : ℕ) → h ∈ ps → Is (truth_of (a h)) → h ≡ p) → Is (all (fits a p) ps)
  fits_i p u = all_i (fits a p) ps (λ h m. at h m (cases (truth_of (a h))))
    where
      at : (h : ℕ) → h ∈ ps → Is (truth_of (a h)) ⊎ (truth_of (a h) ≡ false) → Is (fits a p h)
      at h m (inl t) = or_r (not (truth_of (a h))) _ (eq_i (u h m t))
      at h m (inr t) = or_l _ _ (is_not_lem (truth_of (a h)) t)

  pub sole_e : (p : ℕ) → sole_of a ps ≡ Some p → Sole p
  unfolding sole_of
  sole_e p e = at (first_false a (map (atom_lit false) ps)) refl e
    where
      at : (s : Option ℕ) → first_false a (map (atom_lit false) ps) ≡ s → sole_by a ps s ≡ Some p → Sole p
      at (Some k) f g =
          let t = stop_true k f in
          let b = add_e (all (fits a (get_or ps k 0)) ps) (get_or ps k 0) p g in
          record {
            inside = subst (λ (q : ℕ). q ∈ ps) b.1 t.0;
            is_true = ap (λ (q : ℕ). truth_of (a q)) (sym b.1) ∙ t.1;
            unique = λ h m x. fits_e (get_or ps k 0) b.0 h m x ∙ b.1;
          }
      at None f g = absurd (not_atom g)

  -- with a true atom one is found
  some_false : (p : ℕ) → Sole p → any (is_false a) (map (atom_lit false) ps) ≡ false → ⊥
  some_false p s e = clash (any_i (is_false a) (map (atom_lit false) ps) (map_i (atom_lit false) s.inside) (false_cell (a p) s.is_true)) e

  pub sole_i : (p : ℕ) → Sole p → sole_of a ps ≡ Some p
  unfolding sole_of
  sole_i p s = at (first_false a (map (atom_lit false) ps)) refl
    where
      at : (c : Option ℕ) → first_false a (map (atom_lit false) ps) ≡ c → sole_by a ps c ≡ Some p
      at (Some k) f =
          let t = stop_true k f in
          let q = s.unique (get_or ps k 0) t.0 t.1 in
          ap (λ (b : Bool). add_if b (get_or ps k 0)) (fits_i (get_or ps k 0) (λ h m x. s.unique h m x ∙ sym q)) ∙ ap Some q
      at None f = absurd (some_false p s (says_nothing (atom_lit false 0) a (map (atom_lit false) ps) f).none_false)

-- ---- what a rule could add

-- its only true head atom, where the rest of the body is true
pub could_e : (a : ℕ → Cell) (r : Rule) (p : ℕ) → could_of a r ≡ Some p → Sole a r.head p × Is (rest_true a r)
unfolding could_of
could_e a r p e = at (sole_of a r.head) refl e
  where
    at : (d : Option ℕ) → sole_of a r.head ≡ d → could_by a r d ≡ Some p → Sole a r.head p × Is (rest_true a r)
    at None f g = absurd (not_atom g)
    at (Some q) f g = let t = add_e (rest_true a r) q p g in (sole_e a r.head p (f ∙ ap Some t.1), t.0)

pub could_i : (a : ℕ → Cell) (r : Rule) (p : ℕ) → Sole a r.head p → Is (rest_true a r) → could_of a r ≡ Some p
unfolding could_of
could_i a r p s h = ap (could_by a r) (sole_i a r.head p s) ∙ ap (λ (b : Bool). add_if b p) h

together_bool : (b c : Bool) → together (ask_bool b) (ask_bool c) ≡ ask_bool (b && c)
together_bool true c = refl
together_bool false c = refl

module _ (n : ℕ) (a : ℕ → Cell) (D : AllDefined n a) (r : Rule) (I : RuleIn n r) where
  abbrev X : Atoms
  X = true_atoms n a

  abbrev negs : List Lit
  negs = map (atom_lit false) r.neg

  abbrev aggs : List Lit
  aggs = map agg_lit r.aggs

  rest_true_lem : rest_true a r ≡ (all (true_in X) negs && all (true_in X) aggs)
  unfolding rest_true
  rest_true_lem =
      ap is_conflict
      (ap₂ together
      (asks_decided a X negs (λ x m. decides_body n a D r I x (Memᴰ.append_right (map (atom_lit true) r.pos) (Memᴰ.append_left aggs m))))
      (asks_decided a X aggs (λ x m. decides_body n a D r I x (Memᴰ.append_right (map (atom_lit true) r.pos) (Memᴰ.append_right negs m))))
      ∙ together_bool (all (true_in X) negs) (all (true_in X) aggs))
      ∙ ask_conflict (all (true_in X) negs && all (true_in X) aggs)

  -- the body is true where its positive atoms are and the rest is
  body_true_lem : ((p : ℕ) → p ∈ r.pos → Is (X p)) → Is (rest_true a r) → Is (body X r)
  body_true_lem f h =
      let k = sym rest_true_lem ∙ h in
      body_i X r (record {
        poss = f;
        negs = λ p m. not_is (X p) (all_at (true_in X) negs (and_l (all (true_in X) negs) _ k) (map_i (atom_lit false) m));
        lits = λ l m. all_at (true_in X) aggs (and_r (all (true_in X) negs) _ k) (map_i agg_lit m);
      })

  rest_of : Is (body X r) → Is (rest_true a r)
  rest_of h =
      let b = body_e X r h in
      rest_true_lem ∙ and_i (neg_all r.neg (λ p m. b.negs p m)) (agg_all r.aggs (λ l m. b.lits l m))
    where
      neg_all : (ps : List ℕ) → ((p : ℕ) → p ∈ ps → X p ≡ false) → Is (all (true_in X) (map (atom_lit false) ps))
      neg_all [] f = refl
      neg_all (p ∷ ps) f = and_i (is_not_lem (X p) (f p (Memᴰ.head refl))) (neg_all ps (λ q m. f q (Memᴰ.tail m)))

      agg_all : (ls : List Literal) → ((l : Literal) → l ∈ ls → Is (true_in X (agg_lit l))) → Is (all (true_in X) (map agg_lit ls))
      agg_all [] f = refl
      agg_all (l ∷ ls) f = and_i (f l (Memᴰ.head refl)) (agg_all ls (λ k m. f k (Memᴰ.tail m)))

  -- the only true head atom
  only_of : (p : ℕ) → Sole a r.head p → Only X r p
  only_of p s = record {
    is_true = true_at n a p (I.heads p s.inside) ∙ s.is_true;
    in_head = s.inside;
    unique = λ h m t. s.unique h m (sym (true_at n a h (I.heads h m)) ∙ t);
  }

  sole_of_lem : (p : ℕ) → Only X r p → Sole a r.head p
  sole_of_lem p o = record {
    inside = o.in_head;
    is_true = sym (true_at n a p (I.heads p o.in_head)) ∙ o.is_true;
    unique = λ h m t. o.unique h m (true_at n a h (I.heads h m) ∙ t);
  }

  -- where its positive atoms are true, it supports what it could add
  pub could_supports : (p : ℕ) → could_of a r ≡ Some p → ((q : ℕ) → q ∈ r.pos → Is (X q)) → Is (supports X r p)
  could_supports p e f = let t = could_e a r p e in supports_i X r p (body_true_lem f t.1) (only_of p t.0)

  -- what it supports, it could add
  pub supports_could : (p : ℕ) → Is (supports X r p) → could_of a r ≡ Some p
  supports_could p s = could_i a r p (sole_of_lem p (supports_only X r p s)) (rest_of (supports_body X r p s))
