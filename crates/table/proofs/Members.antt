-- What is known of the parts of an accepted table's program by membership, as later crates ask for it. Assumes nothing.
use mathlib.Core.Path.{◌≡◌, refl, sym, subst}
use mathlib.Core.List.Memᴰ
use mathlib.Core.List.{List, [], ◌∷◌, map}
use mathlib.Core.Logic.{◌⊎◌, inl, inr}
use Prim.Native.Nat.{ℕ, zero, suc, ◌-◌, ◌≤◌, ◌<◌}
use native.Mathlib.Nat.{not-suc-le-zero, le_of_suc-le-suc}
use native.Mathlib.Omega.{arith}
use lib.IntN.{ℤ, nat_abs}
use lib.ListN.{length, get_or}
use Rattle.meaning.specs.Lists.{◌∈◌}
use Rattle.meaning.specs.Program.{Element, Literal, Rule}
use Rattle.table.specs.Contents.{Contents, Each, Ascending, AggregateInRange, RuleInRange, InRange, no_aggregate, literal_by, rule_by, program}
use Rattle.table.specs.Grammar.{accepted, contents_of}
use Rattle.table.proofs.Accepted.{accepted_encoding}
use Rattle.table.proofs.Theorem.{aggregate_distinct}

module _ {A B : Type 0} where
  map_member : (f : A → B) (l : List A) (y : B) → y ∈ map f l → (x : A) × (x ∈ l) × (y ≡ f x)
  map_member f [] y m = absurd (Memᴰ.not-nil m)
  map_member f (x ∷ l) y m = go (Memᴰ.cases_cons m) (λ h. map_member f l y h)
    where
      go : (y ≡ f x) ⊎ (y ∈ map f l) → (y ∈ map f l → (z : A) × (z ∈ l) × (y ≡ f z)) → (z : A) × (z ∈ (x ∷ l)) × (y ≡ f z)
      go (inl e) g = (x, Memᴰ.head refl, e)
      go (inr h) g = let r = g h in (r.0, Memᴰ.tail r.1, r.2)

module _ {A : Type 0} (P : A → Type 0) where
  each_member : (l : List A) → Each P l → (x : A) → x ∈ l → P x
  each_member [] e x m = absurd (Memᴰ.not-nil m)
  each_member (y ∷ l) e x m = go (Memᴰ.cases_cons m) (λ h. each_member l e.1 x h)
    where
      go : (x ≡ y) ⊎ (x ∈ l) → (x ∈ l → P x) → P x
      go (inl h) f = subst P (sym h) e.0
      go (inr h) f = f h

  each_at : (l : List A) → Each P l → (d : A) (k : ℕ) → k < length l → P (get_or l k d)
  each_at [] e d k h = absurd (not-suc-le-zero h)
  each_at (y ∷ l) e d zero h = e.0
  each_at (y ∷ l) e d (suc k) h = each_at l e.1 d k (le_of_suc-le-suc h)

ascending_range : (top previous : ℕ) (l : List ℤ) → Ascending top previous (map nat_abs l) → (w : ℤ) → w ∈ l → (1 ≤ nat_abs w) × (nat_abs w ≤ top)
ascending_range top previous [] a w m = absurd (Memᴰ.not-nil m)
ascending_range top previous (v ∷ l) a w m = go (Memᴰ.cases_cons m) (λ h. ascending_range top (nat_abs v) l a.2 w h)
  where
    go : (w ≡ v) ⊎ (w ∈ l) → (w ∈ l → (1 ≤ nat_abs w) × (nat_abs w ≤ top)) → (1 ≤ nat_abs w) × (nat_abs w ≤ top)
    go (inl e) f = let p = a.0 in (rw e (omega arith), rw e a.1)
    go (inr h) f = f h

-- every aggregate of the program is within 01's ranges
pub literals_in_range : (c : Contents) → InRange c → (r : Rule) → r ∈ program c → (l : Literal) → l ∈ r.aggs → AggregateInRange c.atoms l.aggregate
unfolding program
literals_in_range c g r m l n =
    let gs = c.aggregates in
    let q = map_member (rule_by gs) c.rules r m in
    let s = each_member (RuleInRange c.atoms (length gs)) c.rules g.rules q.0 q.1 in
    let w = map_member (literal_by gs) q.0.aggs l (subst (λ (x : Rule). l ∈ x.aggs) q.2 n) in
    let k = ascending_range (length gs) 0 q.0.aggs s.aggs w.0 w.1 in
    subst (λ (x : Literal). AggregateInRange c.atoms x.aggregate) (sym w.2)
    (each_at (AggregateInRange c.atoms) gs g.aggregates no_aggregate (nat_abs w.0 - 1) (omega (arith, k.0, k.1)))

module _ (t : List ℤ) (c : Contents) (e : contents_of t ≡ accepted c) where
  pub accepted_range : (r : Rule) → r ∈ program c → (l : Literal) → l ∈ r.aggs → AggregateInRange c.atoms l.aggregate
  accepted_range = literals_in_range c (accepted_encoding t c e).range

  -- "Atoms ascend strictly inside one aggregate, so an atom occurs there once"
  pub accepted_distinct : (r : Rule) → r ∈ program c → (l : Literal) → l ∈ r.aggs
      → (d x : Element) → d ∈ l.aggregate.elements → x ∈ l.aggregate.elements → d.atom ≡ x.atom → d ≡ x
  accepted_distinct r m l n = aggregate_distinct c.atoms l.aggregate (accepted_range r m l n)
