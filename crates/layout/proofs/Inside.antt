-- What lies in an accepted table lies in its ranges: every atom of its program is one of 1 to N. Assumes nothing.
use mathlib.Core.Path.{◌≡◌, sym, ◌∙◌, ap, subst}
use mathlib.Core.Logic.{◌⊎◌, inl, inr}
use mathlib.Core.List.Memᴰ
use mathlib.Core.List.{List, [], ◌∷◌, map}
use Prim.Native.Nat.{ℕ, zero, suc, ◌+◌, ◌-◌, ◌*◌, ◌<◌}
use native.Mathlib.Omega.{arith}
use lib.IntN.{ℤ, pos, nat_abs}
use lib.ListN.{length, get_or, take, drop}
use lib.Seq.{get_or-take, get_or-drop}
use Rattle.meaning.specs.Lists.{◌∈◌}
use Rattle.meaning.specs.Program.{Element, Literal, Rule, In, RuleIn, AtomsIn}
use Rattle.layout.specs.declared.Table.{Table}
use Rattle.layout.specs.Layout.{nat_at, part_at, atoms, Members, pairs, pairs_at, start_from, aggregate_at, AggregateLies, literal_of, pos_at, neg_at, aggs_at, past_rule, rule_at, rules_from, RuleLies, RulesLie, program_of, Laid}

-- a member of a mapped list comes from an index
pub mapped_at {ℓ} : {A : Type ℓ} (f : ℤ → A) (l : List ℤ) {x : A} → x ∈ map f l → (k : ℕ) × (k < length l) × (x ≡ f (get_or l k (pos 0)))
mapped_at f [] m = absurd (Memᴰ.not-nil m)
mapped_at f (w ∷ l) {x} m = at (Memᴰ.cases_cons m) (λ h. mapped_at f l h)
  where
    at : (x ≡ f w) ⊎ (x ∈ map f l) → (x ∈ map f l → (k : ℕ) × (k < length l) × (x ≡ f (get_or l k (pos 0)))) → (k : ℕ) × (k < suc (length l)) × (x ≡ f (get_or (w ∷ l) k (pos 0)))
    at (inl e) g = (0, omega arith, e)
    at (inr h) g = let t = g h in (suc t.0, omega (arith, t.1), t.2)

pub members_in : (top : ℕ) (l : List ℤ) → Members top l → (p : ℕ) → p ∈ atoms l → In top p
members_in top l h p m = let t = mapped_at nat_abs l m in let k = h t.0 t.1 in (rw t.2 k.0, rw t.2 k.1)

-- the k-th pair
pub pairs_at_lem : (l : List ℤ) (e : Element) → e ∈ pairs l → (k : ℕ) × (2 * k + 1 < length l) × (e.value ≡ nat_abs (get_or l (2 * k) (pos 0))) × (e.atom ≡ nat_abs (get_or l (2 * k + 1) (pos 0)))
unfolding pairs
pairs_at_lem [] e m = absurd (Memᴰ.not-nil m)
pairs_at_lem (v ∷ []) e m = absurd (Memᴰ.not-nil m)
pairs_at_lem (v ∷ p ∷ l) e m = at (Memᴰ.cases_cons m) (λ h. pairs_at_lem l e h)
  where
    at : (e ≡ record { value = nat_abs v; atom = nat_abs p }) ⊎ (e ∈ pairs l)
        → (e ∈ pairs l → (k : ℕ) × (2 * k + 1 < length l) × (e.value ≡ nat_abs (get_or l (2 * k) (pos 0))) × (e.atom ≡ nat_abs (get_or l (2 * k + 1) (pos 0))))
        → (k : ℕ) × (2 * k + 1 < suc (suc (length l))) × (e.value ≡ nat_abs (get_or (v ∷ p ∷ l) (2 * k) (pos 0))) × (e.atom ≡ nat_abs (get_or (v ∷ p ∷ l) (2 * k + 1) (pos 0)))
    at (inl h) g = (0, omega arith, ap (λ (x : Element). x.value) h, ap (λ (x : Element). x.atom) h)
    at (inr h) g =
        let t = g h in
        let k = t.0 in
        let e0 : 2 * suc k ≡ suc (suc (2 * k)) = omega arith in
        let e1 : 2 * suc k + 1 ≡ suc (suc (2 * k + 1)) = omega arith in
        (suc k, omega (arith, t.1), rw e0 t.2, rw e1 t.3)

-- the words of the pairs are words of the table
pub pair_word : (t : List ℤ) (i j : ℕ) → j < 2 * nat_at t (i + 3) → nat_abs (get_or (pairs_at t i) j (pos 0)) ≡ nat_at t (i + 4 + j)
pair_word t i j h = ap nat_abs (get_or-take (2 * nat_at t (i + 3)) (drop (i + 4) t) j (pos 0) h ∙ get_or-drop (i + 4) t j (pos 0))

length_pairs_le : (t : List ℤ) (i k : ℕ) → k < length (pairs_at t i) → k < 2 * nat_at t (i + 3)
length_pairs_le t i k h = at (2 * nat_at t (i + 3)) (drop (i + 4) t) k h
  where
    at : (n : ℕ) (l : List ℤ) (k : ℕ) → k < length (take n l) → k < n
    at zero l k h = h
    at (suc n) [] k h = absurd (omega arith)
    at (suc n) (x ∷ l) zero h = omega arith
    at (suc n) (x ∷ l) (suc k) h = let r = at n l k (omega arith) in omega arith

pub elements_in : (top : ℕ) (t : List ℤ) (i : ℕ) → AggregateLies top t i → (e : Element) → e ∈ (aggregate_at t i).elements → In top e.atom
unfolding aggregate_at
elements_in top t i lies e m =
    let x = pairs_at_lem (pairs_at t i) e m in
    let k = x.0 in
    let h = length_pairs_le t i (2 * k + 1) x.1 in
    let y = lies.atoms k (omega arith) in
    let s : i + 4 + (2 * k + 1) ≡ i + 4 + 2 * k + 1 = omega arith in
    let a : e.atom ≡ nat_at t (i + 4 + 2 * k + 1) = x.3 ∙ pair_word t i (2 * k + 1) h ∙ ap (nat_at t) s in
    (rw a y.0, rw a y.1)

module _ (t : List ℤ) (tb : Table) (laid : Laid t tb) where
  pub rule_in_lem : (i : ℕ) → RuleLies tb.atoms tb.aggregates t i → RuleIn tb.atoms (rule_at t i)
  unfolding rule_at
  rule_in_lem i lies = record {
    heads = λ p m. members_in tb.atoms (part_at t i) lies.heads.members p m;
    poss = λ p m. members_in tb.atoms (part_at t (pos_at t i)) lies.poss.members p m;
    negs = λ p m. members_in tb.atoms (part_at t (neg_at t i)) lies.negs.members p m;
    elems = λ l m e k. elems l m e k;
  }
    where
      elems : (l : Literal) → l ∈ map (literal_of t) (part_at t (aggs_at t i)) → (e : Element) → e ∈ l.aggregate.elements → In tb.atoms e.atom
      elems l m e k =
          let x = mapped_at (literal_of t) (part_at t (aggs_at t i)) m in
          let w = get_or (part_at t (aggs_at t i)) x.0 (pos 0) in
          let y = lies.aggs.members x.0 x.1 in
          let z = laid.aggregates (nat_abs w - 1) (omega (arith, y.0, y.1)) in
          elements_in tb.atoms t (start_from t 2 (nat_abs w - 1)) z e (subst (λ (h : Literal). e ∈ h.aggregate.elements) x.2 k)

  rules_in : (n i : ℕ) → RulesLie tb.atoms tb.aggregates t i n → (r : Rule) → r ∈ rules_from t i n → RuleIn tb.atoms r
  unfolding RulesLie rules_from
  rules_in zero i lies r m = absurd (Memᴰ.not-nil m)
  rules_in (suc n) i lies r m = at (Memᴰ.cases_cons m) (λ h. rules_in n (past_rule t i) lies.1 r h)
    where
      at : (r ≡ rule_at t i) ⊎ (r ∈ rules_from t (past_rule t i) n) → (r ∈ rules_from t (past_rule t i) n → RuleIn tb.atoms r) → RuleIn tb.atoms r
      at (inl e) g = subst (RuleIn tb.atoms) (sym e) (rule_in_lem i lies.0)
      at (inr h) g = g h

  pub atoms_in_lem : AtomsIn tb.atoms (program_of t tb)
  atoms_in_lem r m = rules_in tb.rules tb.first laid.rules_lie r m
