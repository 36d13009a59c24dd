-- Min and max: `single_of` of `specs/Settled.antt` has the reasons of what settles the aggregate: the first element that does so alone; where none does, all false ones
-- if they do, or else all. All true ones settle it only where one of them does.
--   single_law     the union over `settling_of`'s elements
-- Assumes nothing.
use mathlib.Core.Path.{◌≡◌, refl, sym, ◌∙◌, ap, ap₂}
use mathlib.Core.Logic.{◌⊎◌, inl, inr}
use mathlib.Core.Bool.{Bool, true, false, cond, not, ◌&&◌, ◌||◌}
use mathlib.Core.List.Memᴰ
use mathlib.Core.List.{List, [], ◌∷◌, ◌++◌}
use Prim.Native.Nat.{ℕ, ◌-◌}
use lib.IntN.{ℤ}
use lib.ListN.{length}
use Rattle.meaning.specs.Lists.{Is, ◌∈◌, cons_if}
use Rattle.meaning.specs.Program.{Element, Aggregate}
use Rattle.meaning.specs.declared.Comparison.{Comparison}
use Rattle.meaning.specs.declared.Function.{Function}
use Rattle.meaning.specs.declared.Function.TheVariants.{Count, Sum, Min, Max}
use Rattle.meaning.proofs.Tools.{clash, cases, contra}
use Rattle.levels.specs.Levels.{Levels, union}
use Rattle.interpretation.specs.State.{Cell, undefined, defined, truth_of}
use Rattle.interpretation.specs.declared.Value.{Value}
use Rattle.valuing.specs.Values.{says_undefined, possibly, asks_each}
use Rattle.valuing.specs.Settling.{restricted, settles, is_false, is_defined, atoms_that, singles, tried, first_that, settling_of}
use Rattle.valuing.specs.Reasons.{reasons_at}
use Rattle.valuing.specs.Walk.{adds, atoms_differ}
use Rattle.valuing.proofs.Settling.{true_defined, false_defined}
use Rattle.literals.specs.Elements.{limit_of, passes_by, marks_of}
use Rattle.literals.specs.Settled.{join_if, passing_of, alone_at, single_from, single_of}
use Rattle.literals.proofs.Together.{union_none}
use Rattle.literals.proofs.Amounts.{found_right}
use Rattle.literals.proofs.Runs.{joins}
use Rattle.literals.proofs.Marked.{settled_by, ok, may_of, marks_single, marks_false}
use Rattle.literals.proofs.Trues.{Alone, marks_true}

or_turn : (m t y : Bool) → (m || (t || y)) ≡ ((t || m) || y)
or_turn true true y = refl
or_turn true false y = refl
or_turn false true y = refl
or_turn false false y = refl

or_none : (b : Bool) → (b || false) ≡ b
or_none true = refl
or_none false = refl

cond_not : {A : Type 0} (b : Bool) (x y : A) → cond (not b) x y ≡ cond b y x
cond_not true x y = refl
cond_not false x y = refl

cond_same : {A : Type 0} (b : Bool) (x : A) → cond b x x ≡ x
cond_same true x = refl
cond_same false x = refl

-- whether some atoms settle a min or a max, by its marks
settles_marks : (f : Function) → adds f ≡ false → (a : ℕ → Cell) (c : Comparison) (z : ℤ) (es : List Element) (S : List ℕ)
    → settles a (record { function = f; comparison = c; threshold = z; elements = es }) S ≡ settled_by (asks_each f c) (marks_of c (limit_of z) (restricted S a) es)
unfolding settles
settles_marks Count h a c z es S = absurd (clash refl h)
settles_marks Sum h a c z es S = absurd (clash refl h)
settles_marks Min h a c z es S = ap (λ (v : Value). not (says_undefined v)) (found_right (restricted S a) z es Min c)
settles_marks Max h a c z es S = ap (λ (v : Value). not (says_undefined v)) (found_right (restricted S a) z es Max c)

tried_single : (f : Function) → adds f ≡ false → (T F D : List ℕ) → tried f T F D ≡ singles D
tried_single Count h T F D = absurd (clash refl h)
tried_single Sum h T F D = absurd (clash refl h)
tried_single Min h T F D = refl
tried_single Max h T F D = refl

-- ---- the first element that passes a test

module _ (test : Element → Bool) where
  abbrev first_alone : List Element → List ℕ → List ℕ
  first_alone [] other = other
  first_alone (e ∷ es) other = cond (test e) (e.atom ∷ []) (first_alone es other)

  -- where there is one, what else there is does not matter
  first_same : (es : List Element) (x y : List ℕ) (e : Element) → e ∈ es → Is (test e) → first_alone es x ≡ first_alone es y
  first_same [] x y e m h = absurd (Memᴰ.not-nil m)
  first_same (d ∷ es) x y e (Memᴰ.head q) h =
      let k : Is (test d) = ap test (sym q) ∙ h in
      ap (λ (b : Bool). cond b (d.atom ∷ []) (first_alone es x)) k ∙ sym (ap (λ (b : Bool). cond b (d.atom ∷ []) (first_alone es y)) k)
  first_same (d ∷ es) x y e (Memᴰ.tail m) h = ap (cond (test d) (d.atom ∷ [])) (first_same es x y e m h)

  abbrev Found : List Element → Type 0
  Found es = ((e : Element) × (e ∈ es) × Is (test e)) ⊎ ((e : Element) → e ∈ es → test e ≡ false)

  look : (es : List Element) → Found es
  look [] = inr (λ e m. absurd (Memᴰ.not-nil m))
  look (d ∷ es) = at (cases (test d)) (look es)
    where
      at : Is (test d) ⊎ (test d ≡ false) → Found es → Found (d ∷ es)
      at (inl h) f = inl (d, Memᴰ.head refl, h)
      at (inr h) (inl t) = inl (t.0, Memᴰ.tail t.1, t.2)
      at (inr h) (inr f) = inr (λ e m. pick e (Memᴰ.cases_cons m))
        where
          pick : (e : Element) → (e ≡ d) ⊎ (e ∈ es) → test e ≡ false
          pick e (inl q) = ap test q ∙ h
          pick e (inr m) = f e m

  -- its reason, or other levels
  module _ (r : ℕ → Levels) (B : Levels) where
    abbrev pick_first : List Element → Levels → Levels
    pick_first [] L = L
    pick_first (e ∷ es) L = cond (test e) (union (r e.atom) B) (pick_first es L)

    first_reason : (es : List Element) (S : List ℕ) → union (reasons_at r (first_alone es S)) B ≡ pick_first es (union (reasons_at r S) B)
    first_reason [] S = refl
    first_reason (e ∷ es) S = at (test e) (first_reason es S)
      where
        at : (b : Bool) → union (reasons_at r (first_alone es S)) B ≡ pick_first es (union (reasons_at r S) B)
            → union (reasons_at r (cond b (e.atom ∷ []) (first_alone es S))) B ≡ cond b (union (r e.atom) B) (pick_first es (union (reasons_at r S) B))
        at true h = ap (λ (R : Levels). union R B) (union_none (r e.atom))
        at false h = h

-- ---- one element, for the code

module _ (each : Bool) (c : Comparison) (k P F : ℕ) (a : ℕ → Cell) (r : ℕ → Levels) (B : Levels) (e : Element) (es : List Element) (Fs Ks : Levels) (may : Bool) where
  abbrev further : Levels
  further =
      single_from each c k P F a r B es (join_if (is_false (a e.atom)) (r e.atom) Fs) (join_if (is_defined (a e.atom)) (r e.atom) Ks) ((passes_by c k e.value && possibly (a e.atom)) || may)

  pub single_here : alone_at each (a e.atom) (passes_by c k e.value) P F ≡ true → single_from each c k P F a r B (e ∷ es) Fs Ks may ≡ union (r e.atom) B
  single_here h = ap (λ (b : Bool). cond b (union (r e.atom) B) further) h

  pub single_on : alone_at each (a e.atom) (passes_by c k e.value) P F ≡ false → single_from each c k P F a r B (e ∷ es) Fs Ks may ≡ further
  single_on h = ap (λ (b : Bool). cond b (union (r e.atom) B) further) h

-- ---- what is chosen

nones : (h : Cell → Bool) → ((x : Cell) → Is (h x) → Is (is_defined x)) → (a : ℕ → Cell) (es : List Element) → ((e : Element) → e ∈ es → is_defined (a e.atom) ≡ false) → atoms_that h a es ≡ []
nones h f a [] n = refl
nones h f a (e ∷ es) n =
    let q : h (a e.atom) ≡ false = contra (h (a e.atom)) {b = false} (λ x. absurd (clash (f (a e.atom) x) (n e (Memᴰ.head refl)))) refl in
    ap (λ (b : Bool). cons_if b e.atom (atoms_that h a es)) q ∙ nones h f a es (λ d m. n d (Memᴰ.tail m))

module _ (a : ℕ → Cell) (f : Function) (N : adds f ≡ false) (c : Comparison) (z : ℤ) (es : List Element) (D : Is (atoms_differ es)) where
  abbrev g : Aggregate
  g = record { function = f; comparison = c; threshold = z; elements = es }

  abbrev k : ℕ
  k = limit_of z

  abbrev each : Bool
  each = asks_each f c

  abbrev alone : Element → Bool
  alone = Alone c (limit_of z) a (asks_each f c) es

  abbrev trues : List ℕ
  trues = atoms_that truth_of a es

  abbrev falses : List ℕ
  falses = atoms_that is_false a es

  abbrev known : List ℕ
  known = atoms_that is_defined a es

  -- a known element alone
  one_settles : (e : Element) → e ∈ es → Is (is_defined (a e.atom)) → settles a g (e.atom ∷ []) ≡ alone e
  one_settles e m h = settles_marks f N a c z es (e.atom ∷ []) ∙ marks_single c k a each e es m D h

  singles_first : (ds : List Element) → ((e : Element) → e ∈ ds → Is (is_defined (a e.atom)) → settles a g (e.atom ∷ []) ≡ alone e) → (Us : List (List ℕ)) (d : List ℕ)
      → first_that (settles a g) (singles (atoms_that is_defined a ds) ++ Us) d ≡ first_alone alone ds (first_that (settles a g) Us d)
  singles_first [] h Us d = refl
  singles_first (e ∷ ds) h Us d = at (a e.atom) (h e (Memᴰ.head refl)) (singles_first ds (λ x m. h x (Memᴰ.tail m)) Us d)
    where
      at : (x : Cell) → (Is (is_defined x) → settles a g (e.atom ∷ []) ≡ alone_at each x (ok c k e) (passing_of c k es) (length es - passing_of c k es))
          → first_that (settles a g) (singles (atoms_that is_defined a ds) ++ Us) d ≡ first_alone alone ds (first_that (settles a g) Us d)
          → first_that (settles a g) (singles (cons_if (is_defined x) e.atom (atoms_that is_defined a ds)) ++ Us) d
          ≡ cond (alone_at each x (ok c k e) (passing_of c k es) (length es - passing_of c k es)) (e.atom ∷ []) (first_alone alone ds (first_that (settles a g) Us d))
      at undefined q ih = ih
      at (defined v l) q ih = ap₂ (λ (b : Bool) (S : List ℕ). cond b (e.atom ∷ []) S) (q refl) ih

  rest : ((e : Element) → e ∈ es → alone e ≡ false) → cond (settles a g trues) trues (cond (settles a g falses) falses known) ≡ cond (may_of c k a es) known falses
  rest n = at (cases (settles a g trues))
    where
      at : Is (settles a g trues) ⊎ (settles a g trues ≡ false) → cond (settles a g trues) trues (cond (settles a g falses) falses known) ≡ cond (may_of c k a es) known falses
      at (inr h) =
          ap (λ (b : Bool). cond b trues (cond (settles a g falses) falses known)) h
          ∙ ap (λ (b : Bool). cond b falses known) (settles_marks f N a c z es falses ∙ marks_false c k a each es) ∙ cond_not (may_of c k a es) falses known
      at (inl h) =
          let no = marks_true c k a each es n (sym (settles_marks f N a c z es trues) ∙ h) in
          let t : trues ≡ [] = nones truth_of true_defined a es no in
          let u : falses ≡ [] = nones is_false false_defined a es no in
          let v : known ≡ [] = nones is_defined (λ x y. y) a es no in
          ap (λ (b : Bool). cond b trues (cond (settles a g falses) falses known)) h ∙ t ∙ sym (ap₂ (cond (may_of c k a es)) v u ∙ cond_same (may_of c k a es) [])

  chosen : settling_of a g ≡ first_alone alone es (cond (may_of c k a es) known falses)
  unfolding settling_of
  chosen =
      ap (λ (Ts : List (List ℕ)). first_that (settles a g) (Ts ++ (trues ∷ falses ∷ [])) known) (tried_single f N trues falses known)
      ∙ singles_first es one_settles (trues ∷ falses ∷ []) known ∙ at (look alone es)
    where
      at : Found alone es → first_alone alone es (cond (settles a g trues) trues (cond (settles a g falses) falses known)) ≡ first_alone alone es (cond (may_of c k a es) known falses)
      at (inl t) = first_same alone es (cond (settles a g trues) trues (cond (settles a g falses) falses known)) (cond (may_of c k a es) known falses) t.0 t.1 t.2
      at (inr n) = ap (first_alone alone es) (rest n)

  -- ---- with reasons

  module _ (r : ℕ → Levels) (B : Levels) where
    walked : (ds : List Element) (Fs Ks : Levels) (may : Bool)
        → single_from each c k (passing_of c k es) (length es - passing_of c k es) a r B ds Fs Ks may
        ≡ pick_first alone r B ds (cond (may_of c k a ds || may) (union (reasons_at r (atoms_that is_defined a ds)) Ks) (union (reasons_at r (atoms_that is_false a ds)) Fs))
    walked [] Fs Ks may = refl
    walked (e ∷ ds) Fs Ks may =
        ap (cond (alone e) (union (r e.atom) B))
        (walked ds (join_if (is_false (a e.atom)) (r e.atom) Fs) (join_if (is_defined (a e.atom)) (r e.atom) Ks) ((ok c k e && possibly (a e.atom)) || may)
        ∙ ap (pick_first alone r B ds) (λ t.
        cond (or_turn (may_of c k a ds) (ok c k e && possibly (a e.atom)) may t)
        (sym (joins r (is_defined (a e.atom)) e.atom (atoms_that is_defined a ds) Ks) t)
        (sym (joins r (is_false (a e.atom)) e.atom (atoms_that is_false a ds) Fs) t)))

    push : (b : Bool) (S T : List ℕ) → union (reasons_at r (cond b S T)) B ≡ cond b (union (reasons_at r S) B) (union (reasons_at r T) B)
    push true S T = refl
    push false S T = refl

    -- THE LAW
    pub single_law : union (reasons_at r (settling_of a g)) B ≡ single_of each c k a r es B
    single_law =
        ap (λ (S : List ℕ). union (reasons_at r S) B) chosen ∙ first_reason alone r B es (cond (may_of c k a es) known falses)
        ∙ ap (pick_first alone r B es) (push (may_of c k a es) known falses ∙ ap (λ (b : Bool). cond b (union (reasons_at r known) B) (union (reasons_at r falses) B)) (sym (or_none (may_of c k a es))))
        ∙ sym (walked es B B false)
