-- The tests of a rule by names are `meaning`'s; and where all atoms are settled, no rule passes them. Assumes nothing.
use mathlib.Core.Path.{◌≡◌, refl, sym, ap, ◌∙◌}
use mathlib.Core.Bool.{Bool, true, false, not, ◌&&◌, ◌||◌, and_assoc}
use mathlib.Core.List.Memᴰ
use mathlib.Core.List.{List, [], ◌∷◌}
use Prim.Native.Nat.{ℕ, suc}
use lib.Dec.{eqb}
use Rattle.std.specs.Prelude.{Option, Some, None}
use Rattle.meaning.specs.Lists.{Is, ◌∈◌, any}
use Rattle.meaning.specs.Program.{Element, Literal, Rule, Program, In, AtomsIn}
use Rattle.meaning.specs.Dependency.{arc, added_arc, any_arc, stay, go, HeadCycle, AggregateCycle}
use Rattle.meaning.specs.Cycles.{via, mutually, head_cycle, returns, aggregate_cycle}
use Rattle.meaning.proofs.Tools.{or_r, chain_via}
use Rattle.meaning.proofs.Cond.{if_lt_yes, if_lt_no}
use Rattle.meaning.proofs.Rank.{added_i}
use Rattle.meaning.proofs.Cycles.{head_cycle_lem, aggregate_cycle_lem}
use Rattle.levels.specs.Levels.{Levels, up_to}
use Rattle.reach.specs.Arcs.{arcs_of}
use Rattle.reach.specs.Visits.{Part, Settled}
use Rattle.reach.proofs.Inside.{below}
use Rattle.reach.proofs.Graph.{arcs_low}
use Rattle.reach.proofs.Settled.{settled_alone, settled_open}
use Rattle.depend.specs.Circles.{alike, Named}
use Rattle.depend.specs.Cycles.{crossed, returned, closes, cycle_test, or_later, lowest}
use Rattle.depend.proofs.Naming.{alike_via}
use Rattle.depend.proofs.Exact.{lowest_none}

-- ---- tests that agree on all members

same_any : {A : Type 0} (f g : A → Bool) (l : List A) → ((x : A) → x ∈ l → f x ≡ g x) → any f l ≡ any g l
same_any f g [] h = refl
same_any f g (x ∷ l) h =
    ap (λ (b : Bool). b || any f l) (h x (Memᴰ.head refl)) ∙ ap (λ (b : Bool). g x || b) (same_any f g l (λ y m. h y (Memᴰ.tail m)))

same_lowest : (f g : Rule → Bool) (k : ℕ) (P : Program) → ((r : Rule) → r ∈ P → f r ≡ g r) → lowest f k P ≡ lowest g k P
unfolding lowest
same_lowest f g k [] h = refl
same_lowest f g k (r ∷ P) h =
    ap (λ (b : Bool). or_later b (Some k) (lowest f (suc k) P)) (h r (Memᴰ.head refl))
    ∙ ap (λ (p : Option ℕ). or_later (g r) (Some k) p) (same_lowest f g (suc k) P (λ s m. h s (Memᴰ.tail m)))

module _ (n : ℕ) (P : Program) (A : AtomsIn n P) where
  -- ---- by names

  module _ (x : List ℕ) where
    pub crossed_named : Named (arc P) n n x → lowest (λ (u : Rule). crossed (alike x) u.head) 1 P ≡ lowest (head_cycle (suc n) P) 1 P
    unfolding head_cycle mutually
    crossed_named N = same_lowest (λ (u : Rule). crossed (alike x) u.head) (head_cycle (suc n) P) 1 P at
      where
        X : ℕ → ℕ → Bool
        X = via (arc P) (suc n)

        at : (r : Rule) → r ∈ P → crossed (alike x) r.head ≡ any (λ p. any (λ q. not (eqb p q) && X p q && X q p) r.head) r.head
        at r m =
            same_any (λ p. any (λ q. not (eqb p q) && alike x p q) r.head) (λ p. any (λ q. not (eqb p q) && X p q && X q p) r.head) r.head
            (λ p h. same_any (λ q. not (eqb p q) && alike x p q) (λ q. not (eqb p q) && X p q && X q p) r.head
            (λ q k. ap (λ (b : Bool). not (eqb p q) && b) (alike_via false n P A x N p q ((A r m).heads p h) ((A r m).heads q k)) ∙ sym (and_assoc (not (eqb p q)) (X p q) (X q p))))

    pub returned_named : Named (any_arc P) n n x → lowest (λ (u : Rule). returned (alike x) u.head u.aggs) 1 P ≡ lowest (aggregate_cycle (suc n) P) 1 P
    unfolding aggregate_cycle returns any_arc
    returned_named N = same_lowest (λ (u : Rule). returned (alike x) u.head u.aggs) (aggregate_cycle (suc n) P) 1 P at
      where
        X : ℕ → ℕ → Bool
        X = via (any_arc P) (suc n)

        -- the head atom reaches the element by the arc that the rule adds
        there : (r : Rule) → r ∈ P → (p : ℕ) → p ∈ r.head → (l : Literal) → l ∈ r.aggs → (e : Element) → e ∈ l.aggregate.elements → Is (X p e.atom)
        there r m p h l k e j = chain_via (any_arc P) (suc n) (arcs_low true n P A) (go (stay refl) (or_r (arc P p e.atom) (added_arc P p e.atom) (added_i m h k j)))

        met : (a b : Bool) → Is b → a && b ≡ a
        met true b h = h
        met false b h = refl

        at : (r : Rule) → r ∈ P → returned (alike x) r.head r.aggs ≡ any (λ p. any (λ l. any (λ e. X e.atom p) l.aggregate.elements) r.aggs) r.head
        at r m =
            same_any (λ p. any (λ l. any (λ e. alike x e.atom p) l.aggregate.elements) r.aggs) (λ p. any (λ l. any (λ e. X e.atom p) l.aggregate.elements) r.aggs) r.head
            (λ p h. same_any (λ (l : Literal). any (λ e. alike x e.atom p) l.aggregate.elements) (λ (l : Literal). any (λ e. X e.atom p) l.aggregate.elements) r.aggs
            (λ l k. same_any (λ (e : Element). alike x e.atom p) (λ (e : Element). X e.atom p) l.aggregate.elements
            (λ e j. alike_via true n P A x N e.atom p ((A r m).elems l k e j) ((A r m).heads p h) ∙ met (X e.atom p) (X p e.atom) (there r m p h l k e j))))

    -- of either kind
    pub closes_named : (added : Bool) → Named (arcs_of added P) n n x → lowest (closes added (alike x)) 1 P ≡ lowest (cycle_test added (suc n) P) 1 P
    closes_named false N = crossed_named N
    closes_named true N = returned_named N

  -- ---- where all atoms are settled

  module _ (S : Levels) (all : Part (up_to n) S) where
    inside : (p : ℕ) → In n p → Is (S p)
    inside p i = all p (if_lt_yes 0 p _ _ i.0 ∙ if_lt_no n p _ _ i.1)

    pub settled_8 : Settled (arc P) S → lowest (head_cycle (suc n) P) 1 P ≡ None
    settled_8 s = (lowest_none P (head_cycle (suc n) P) (HeadCycle P) (head_cycle_lem (suc n) P (below n P A))).1 free
      where
        free : (r : Rule) → r ∈ P → HeadCycle P r → ⊥
        free r m c = c.differ (settled_alone (arc P) S s c.first c.second (inside c.first ((A r m).heads c.first c.first_in)) (record { there = c.there; back = c.back }))

    pub settled_9 : Settled (any_arc P) S → lowest (aggregate_cycle (suc n) P) 1 P ≡ None
    unfolding any_arc
    settled_9 s = (lowest_none P (aggregate_cycle (suc n) P) (AggregateCycle P) (aggregate_cycle_lem (suc n) P (below n P A))).1 free
      where
        free : (r : Rule) → r ∈ P → AggregateCycle P r → ⊥
        free r m c =
            settled_open (any_arc P) S s c.from c.elem.atom (inside c.from ((A r m).heads c.from c.from_in))
            (or_r (arc P c.from c.elem.atom) (added_arc P c.from c.elem.atom) (added_i m c.from_in c.lit_in c.elem_in)) c.back

    -- of either kind
    pub settled_none : (added : Bool) → Settled (arcs_of added P) S → lowest (cycle_test added (suc n) P) 1 P ≡ None
    settled_none false s = settled_8 s
    settled_none true s = settled_9 s
