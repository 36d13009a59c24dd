-- For count and sum the walk of `specs/Walk.antt` finds what `settling_of` says.
-- Assumes nothing.
use Prim.Native.Nat.{ℕ, ◌+◌}
use native.Mathlib.Omega.{arith}
use mathlib.Core.Path.{◌≡◌, refl, sym, ap, ap₂, ◌∙◌, subst}
use mathlib.Core.Logic.{◌⊎◌, inl, inr}
use mathlib.Core.Bool.{Bool, true, false, cond, not, beq}
use mathlib.Core.Option.{Option, some}
use mathlib.Core.List.Memᴰ
use mathlib.Core.List.{List, [], ◌∷◌, ◌++◌}
use lib.Dec.{eqb}
use lib.ListN.{length}
use Rattle.meaning.specs.Lists.{Is, ◌∈◌, any, cons_if, has}
use Rattle.meaning.specs.Aggregates.{Atoms, values, total, value_of, compares, compared}
use Rattle.meaning.specs.Program.{Element, Aggregate}
use Rattle.meaning.specs.declared.Function.{Function}
use Rattle.meaning.specs.declared.Function.TheVariants.{Count, Sum, Min, Max}
use Rattle.meaning.specs.declared.Comparison.{Comparison}
use Rattle.interpretation.specs.State.{Cell, undefined, defined, truth_of}
use Rattle.valuing.specs.Values.{says_undefined, lowest_of, highest_of, possibly, between, asks_each, value_by, aggregate_value}
use Rattle.valuing.specs.Settling.{known_if, restricted, settles, is_false, is_defined, atoms_that, runs, first_that, settling_of}
use Rattle.valuing.specs.Walk.{adds, weight, add_if, drop_if, worth, whole, alike, Step, walk, keeps, true_step, false_step, settling_walk, atoms_differ}
use Rattle.meaning.proofs.Tools.{clash, cases, not_is, and_l, and_r, contra, any_i, eq_i, has_i, has_e}
use Rattle.valuing.proofs.Settling.{atoms_in_lem, atoms_from_lem}
use Rattle.valuing.proofs.Shortest.{shortest, runs_shortest, map_same, shortest_step, spare, tried_adds}

-- ---- Booleans

adds_between : (f : Function) (c : Comparison) → Is (adds f) → asks_each f c ≡ false
adds_between Count c h = refl
adds_between Sum c h = refl
adds_between Min c h = absurd (clash h refl)
adds_between Max c h = absurd (clash h refl)

between_alike : (x y : Bool) → not (says_undefined (between x y)) ≡ beq x y
between_alike true true = refl
between_alike true false = refl
between_alike false true = refl
between_alike false false = refl

known_true : (b : Bool) (c : Cell) → Is (truth_of (known_if b c)) → Is b × Is (truth_of c)
known_true true c h = (refl, h)
known_true false c h = absurd (clash h refl)

known_possibly : (b : Bool) (c : Cell) → (Is b → Is (possibly c)) → Is (possibly (known_if b c))
known_possibly true c h = h refl
known_possibly false c h = refl

true_possibly : (c : Cell) → Is (truth_of c) → Is (possibly c)
true_possibly undefined h = refl
true_possibly (defined v l) h = h

true_false : (c : Cell) → Is (truth_of c) → Is (is_false c) → ⊥
true_false undefined h k = clash h refl
true_false (defined true l) h k = clash k refl
true_false (defined false l) h k = clash h refl

possibly_false : (c : Cell) → Is (possibly c) → Is (is_false c) → ⊥
possibly_false undefined h k = clash k refl
possibly_false (defined true l) h k = clash k refl
possibly_false (defined false l) h k = clash h refl

-- ---- what elements come to

worth_count : (I : Atoms) (es : List Element) → length (values I es) ≡ worth Count (λ e. I e.atom) es
worth_count I [] = refl
worth_count I (e ∷ es) = at (I e.atom) (worth_count I es)
  where
    at : (b : Bool) → length (values I es) ≡ worth Count (λ e. I e.atom) es → length (cons_if b e.value (values I es)) ≡ add_if b 1 (worth Count (λ e. I e.atom) es)
    at true h = omega arith
    at false h = h

worth_sum : (I : Atoms) (es : List Element) → total (values I es) ≡ worth Sum (λ e. I e.atom) es
worth_sum I [] = refl
worth_sum I (e ∷ es) = at (I e.atom) (worth_sum I es)
  where
    at : (b : Bool) → total (values I es) ≡ worth Sum (λ e. I e.atom) es → total (cons_if b e.value (values I es)) ≡ add_if b e.value (worth Sum (λ e. I e.atom) es)
    at true h = ap (λ (z : ℕ). e.value + z) h
    at false h = h

worth_is : (f : Function) → Is (adds f) → (I : Atoms) (es : List Element) → value_of f (values I es) ≡ some (worth f (λ e. I e.atom) es)
worth_is Count h I es = ap some (worth_count I es)
worth_is Sum h I es = ap some (worth_sum I es)
worth_is Min h I es = absurd (clash h refl)
worth_is Max h I es = absurd (clash h refl)

worth_same : (f : Function) (J K : Element → Bool) (es : List Element) → ((e : Element) → e ∈ es → J e ≡ K e) → worth f J es ≡ worth f K es
worth_same f J K [] h = refl
worth_same f J K (e ∷ es) h = ap₂ (λ (b : Bool) (z : ℕ). add_if b (weight f e.value) z) (h e (Memᴰ.head refl)) (worth_same f J K es (λ d m. h d (Memᴰ.tail m)))

worth_none : (f : Function) (es : List Element) → worth f (λ e. false) es ≡ 0
worth_none f [] = refl
worth_none f (e ∷ es) = worth_none f es

worth_append : (f : Function) (J : Element → Bool) (l m : List Element) → worth f J (l ++ m) ≡ worth f J l + worth f J m
worth_append f J [] m = omega arith
worth_append f J (e ∷ l) m = at (J e) (worth_append f J l m)
  where
    at : (b : Bool) → worth f J (l ++ m) ≡ worth f J l + worth f J m → add_if b (weight f e.value) (worth f J (l ++ m)) ≡ add_if b (weight f e.value) (worth f J l) + worth f J m
    at true h = omega arith
    at false h = h

worth_snoc : (f : Function) (J : Element → Bool) (l : List Element) (e : Element) → worth f J (l ++ (e ∷ [])) ≡ add_if (J e) (weight f e.value) (worth f J l)
worth_snoc f J l e = worth_append f J l (e ∷ []) ∙ at (J e)
  where
    at : (b : Bool) → worth f J l + add_if b (weight f e.value) 0 ≡ add_if b (weight f e.value) (worth f J l)
    at true = omega arith
    at false = omega arith

-- ---- lists

pub append_nil : {A : Type 0} (l : List A) → l ++ [] ≡ l
append_nil [] = refl
append_nil (x ∷ l) = ap (λ m. x ∷ m) (append_nil l)

pub append_assoc : {A : Type 0} (l m n : List A) → (l ++ m) ++ n ≡ l ++ (m ++ n)
append_assoc [] m n = refl
append_assoc (x ∷ l) m n = ap (λ k. x ∷ k) (append_assoc l m n)

pub atoms_snoc : (h : Cell → Bool) (a : ℕ → Cell) (before : List Element) (e : Element) (U : List ℕ) → atoms_that h a (before ++ (e ∷ [])) ++ U ≡ atoms_that h a before ++ cons_if (h (a e.atom)) e.atom U
atoms_snoc h a [] e U = at (h (a e.atom))
  where
    at : (b : Bool) → cons_if b e.atom [] ++ U ≡ cons_if b e.atom U
    at true = refl
    at false = refl
atoms_snoc h a (d ∷ before) e U = at (h (a d.atom)) (atoms_snoc h a before e U)
  where
    at : (b : Bool) → atoms_that h a (before ++ (e ∷ [])) ++ U ≡ atoms_that h a before ++ cons_if (h (a e.atom)) e.atom U
        → cons_if b d.atom (atoms_that h a (before ++ (e ∷ []))) ++ U ≡ cons_if b d.atom (atoms_that h a before) ++ cons_if (h (a e.atom)) e.atom U
    at true k = ap (λ (l : List ℕ). d.atom ∷ l) k
    at false k = k

-- ---- atoms that differ

pub differ_apart : (l m : List Element) → Is (atoms_differ (l ++ m)) → (d e : Element) → d ∈ l → e ∈ m → d.atom ≡ e.atom → ⊥
differ_apart [] m h d e i j q = Memᴰ.not-nil i
differ_apart (c ∷ l) m h d e (Memᴰ.head p) j q =
    clash (any_i (λ y. eqb c.atom y.atom) (l ++ m) (Memᴰ.append_right l j) (eq_i (ap (λ (z : Element). z.atom) (sym p) ∙ q))) (not_is _ (and_l (not (any (λ y. eqb c.atom y.atom) (l ++ m))) _ h))
differ_apart (c ∷ l) m h d e (Memᴰ.tail i) j q = differ_apart l m (and_r (not (any (λ y. eqb c.atom y.atom) (l ++ m))) _ h) d e i j q

module _ (a : ℕ → Cell) (g : Aggregate) (A : Is (adds g.function)) (D : Is (atoms_differ g.elements)) where
  abbrev pub es : List Element
  es = g.elements

  abbrev pub f : Function
  f = g.function

  abbrev low_worth : List ℕ → List Element → ℕ
  low_worth S l = worth f (λ e. lowest_of (restricted S a) e.atom) l

  abbrev high_worth : List ℕ → List Element → ℕ
  high_worth S l = worth f (λ e. highest_of (restricted S a) e.atom) l

  -- ---- settling by the two bounds

  settles_alike : (S : List ℕ) → settles a g S ≡ alike g (low_worth S es) (high_worth S es)
  unfolding settles aggregate_value compared
  settles_alike S =
      ap (λ (b : Bool). not (says_undefined (value_by b (restricted S a) g))) (adds_between f g.comparison A)
      ∙ between_alike (compared g (lowest_of (restricted S a))) (compared g (highest_of (restricted S a)))
      ∙ ap₂ (λ (x y : Option ℕ). beq (compares g.comparison g.threshold x) (compares g.comparison g.threshold y))
      (worth_is f A (lowest_of (restricted S a)) es) (worth_is f A (highest_of (restricted S a)) es)

  module _ (before rest : List Element) (q : es ≡ before ++ rest) where
    apart_rest : (h : Cell → Bool) (e : Element) → e ∈ rest → has e.atom (atoms_that h a before) ≡ false
    apart_rest h e m = contra (has e.atom (atoms_that h a before)) {b = false} (λ x. absurd (bad x)) refl
      where
        bad : Is (has e.atom (atoms_that h a before)) → ⊥
        bad x =
            let b = atoms_from_lem h a before e.atom (has_e (atoms_that h a before) x) in
            let D' : Is (atoms_differ (before ++ rest)) = subst (λ (l : List Element). Is (atoms_differ l)) q D in
            differ_apart before rest D' b.0 e b.1 m (sym b.2)

    -- a run of true elements
    low_true : low_worth (atoms_that truth_of a before) es ≡ worth f (λ e. truth_of (a e.atom)) before
    low_true =
        let S = atoms_that truth_of a before in
        let x : low_worth S before ≡ worth f (λ e. truth_of (a e.atom)) before = worth_same f (λ e. lowest_of (restricted S a) e.atom) (λ e. truth_of (a e.atom)) before (λ e m. at e m (cases (truth_of (a e.atom)))) in
        let y : low_worth S rest ≡ 0 = worth_same f (λ e. lowest_of (restricted S a) e.atom) (λ e. false) rest (λ e m. ap (λ (b : Bool). truth_of (known_if b (a e.atom))) (apart_rest truth_of e m)) ∙ worth_none f rest in
        ap (low_worth S) q ∙ worth_append f (λ e. lowest_of (restricted S a) e.atom) before rest ∙ omega arith
      where
        at : (e : Element) → e ∈ before → Is (truth_of (a e.atom)) ⊎ (truth_of (a e.atom) ≡ false) → truth_of (known_if (has e.atom (atoms_that truth_of a before)) (a e.atom)) ≡ truth_of (a e.atom)
        at e m (inl h) = ap (λ (b : Bool). truth_of (known_if b (a e.atom))) (has_i (atoms_in_lem truth_of a before e m h))
        at e m (inr h) = contra (truth_of (known_if (has e.atom (atoms_that truth_of a before)) (a e.atom))) (λ k. (known_true (has e.atom (atoms_that truth_of a before)) (a e.atom) k).1) h ∙ sym h

    high_true : high_worth (atoms_that truth_of a before) es ≡ whole g
    high_true = worth_same f (λ e. highest_of (restricted (atoms_that truth_of a before) a) e.atom) (λ e. true) es (λ e m.
        known_possibly (has e.atom (atoms_that truth_of a before)) (a e.atom) (λ h. true_possibly (a e.atom) (atoms_from_lem truth_of a before e.atom (has_e (atoms_that truth_of a before) h)).3))

    bound_true : settles a g (atoms_that truth_of a before) ≡ alike g (worth f (λ e. truth_of (a e.atom)) before) (whole g)
    bound_true = settles_alike (atoms_that truth_of a before) ∙ ap₂ (alike g) low_true high_true

    -- a run of false elements
    low_false : low_worth (atoms_that is_false a before) es ≡ 0
    low_false = worth_same f (λ e. lowest_of (restricted (atoms_that is_false a before) a) e.atom) (λ e. false) es (λ e m.
        contra (truth_of (known_if (has e.atom (atoms_that is_false a before)) (a e.atom))) {b = false} (λ k. absurd (bad e k)) refl) ∙ worth_none f es
      where
        bad : (e : Element) → Is (truth_of (known_if (has e.atom (atoms_that is_false a before)) (a e.atom))) → ⊥
        bad e k =
            let t = known_true (has e.atom (atoms_that is_false a before)) (a e.atom) k in
            true_false (a e.atom) t.1 (atoms_from_lem is_false a before e.atom (has_e (atoms_that is_false a before) t.0)).3

    high_false : high_worth (atoms_that is_false a before) es ≡ worth f (λ e. not (is_false (a e.atom))) before + worth f (λ e. true) rest
    high_false =
        let S = atoms_that is_false a before in
        let x : high_worth S before ≡ worth f (λ e. not (is_false (a e.atom))) before = worth_same f (λ e. highest_of (restricted S a) e.atom) (λ e. not (is_false (a e.atom))) before (λ e m. at e m (cases (is_false (a e.atom)))) in
        let y : high_worth S rest ≡ worth f (λ e. true) rest = worth_same f (λ e. highest_of (restricted S a) e.atom) (λ e. true) rest (λ e m. ap (λ (b : Bool). possibly (known_if b (a e.atom))) (apart_rest is_false e m)) in
        ap (high_worth S) q ∙ worth_append f (λ e. highest_of (restricted S a) e.atom) before rest ∙ ap₂ (λ (u v : ℕ). u + v) x y
      where
        at : (e : Element) → e ∈ before → Is (is_false (a e.atom)) ⊎ (is_false (a e.atom) ≡ false) → possibly (known_if (has e.atom (atoms_that is_false a before)) (a e.atom)) ≡ not (is_false (a e.atom))
        at e m (inl h) =
            ap (λ (b : Bool). possibly (known_if b (a e.atom))) (has_i (atoms_in_lem is_false a before e m h))
            ∙ contra (possibly (a e.atom)) {b = false} (λ k. absurd (possibly_false (a e.atom) k h)) refl ∙ sym (ap not h)
        at e m (inr h) =
            known_possibly (has e.atom (atoms_that is_false a before)) (a e.atom) (λ k. absurd (clash (atoms_from_lem is_false a before e.atom (has_e (atoms_that is_false a before) k)).3 h)) ∙ sym (ap not h)

    bound_false : settles a g (atoms_that is_false a before) ≡ alike g 0 (worth f (λ e. not (is_false (a e.atom))) before + worth f (λ e. true) rest)
    bound_false = settles_alike (atoms_that is_false a before) ∙ ap₂ (alike g) low_false high_false

  step_false : (before : List Element) (e : Element) (rest : List Element) → worth f (λ e. not (is_false (a e.atom))) (before ++ (e ∷ [])) + worth f (λ e. true) rest
      ≡ false_step a f e (worth f (λ e. not (is_false (a e.atom))) before + worth f (λ e. true) (e ∷ rest))
  step_false before e rest = ap (λ (z : ℕ). z + worth f (λ e. true) rest) (worth_snoc f (λ e. not (is_false (a e.atom))) before e) ∙ at (is_false (a e.atom))
    where
      at : (b : Bool) → add_if (not b) (weight f e.value) (worth f (λ e. not (is_false (a e.atom))) before) + worth f (λ e. true) rest
          ≡ drop_if b (weight f e.value) (worth f (λ e. not (is_false (a e.atom))) before + (weight f e.value + worth f (λ e. true) rest))
      at true = omega arith
      at false = omega arith

  -- ---- the walk

  module _ (h : Cell → Bool) (lowStep highStep : Step) (low high : List Element → List Element → ℕ)
      (bound : (before rest : List Element) → es ≡ before ++ rest → settles a g (atoms_that h a before) ≡ alike g (low before rest) (high before rest))
      (lowOne : (before : List Element) (e : Element) (rest : List Element) → es ≡ before ++ (e ∷ rest) → low (before ++ (e ∷ [])) rest ≡ lowStep e (low before (e ∷ rest)))
      (highOne : (before : List Element) (e : Element) (rest : List Element) → es ≡ before ++ (e ∷ rest) → high (before ++ (e ∷ [])) rest ≡ highStep e (high before (e ∷ rest))) where
    here : (before rest : List Element) → es ≡ before ++ rest → (w : List ℕ → List ℕ) → ((U : List ℕ) → w U ≡ atoms_that h a before ++ U) → (next : List ℕ)
        → cond (settles a g (w [])) (w []) next ≡ cond (alike g (low before rest) (high before rest)) (atoms_that h a before) next
    here before rest q w u next =
        ap (λ (U : List ℕ). cond (settles a g U) U next) (u [] ∙ append_nil (atoms_that h a before))
        ∙ ap (λ (b : Bool). cond b (atoms_that h a before) next) (bound before rest q)

    walk_shortest : (rest before : List Element) → es ≡ before ++ rest → (w : List ℕ → List ℕ) → ((U : List ℕ) → w U ≡ atoms_that h a before ++ U) → (other : List ℕ)
        → shortest (settles a g) w (atoms_that h a rest) other ≡ walk a g h lowStep highStep before rest (low before rest) (high before rest) other
    unfolding shortest
    walk_shortest [] before q w u other = here before [] q w u other
    walk_shortest (e ∷ rest) before q w u other =
        shortest_step (settles a g) w (h (a e.atom)) e.atom (atoms_that h a rest) other
        ∙ here before (e ∷ rest) q w u (shortest (settles a g) (λ U. w (cons_if (h (a e.atom)) e.atom U)) (atoms_that h a rest) other)
        ∙ ap (cond (alike g (low before (e ∷ rest)) (high before (e ∷ rest))) (atoms_that h a before))
        (walk_shortest rest (before ++ (e ∷ [])) (q ∙ sym (append_assoc before (e ∷ []) rest)) (λ U. w (cons_if (h (a e.atom)) e.atom U))
        (λ U. u (cons_if (h (a e.atom)) e.atom U) ∙ sym (atoms_snoc h a before e U)) other
        ∙ ap₂ (λ (x y : ℕ). walk a g h lowStep highStep (before ++ (e ∷ [])) rest x y other) (lowOne before e rest q) (highOne before e rest q))

  true_law : (other : List ℕ) → shortest (settles a g) (λ U. U) (atoms_that truth_of a es) other ≡ walk a g truth_of (true_step a f) keeps [] es 0 (whole g) other
  true_law other = walk_shortest truth_of (true_step a f) keeps (λ before rest. worth f (λ e. truth_of (a e.atom)) before) (λ before rest. whole g)
      bound_true (λ before e rest q. worth_snoc f (λ e. truth_of (a e.atom)) before e) (λ before e rest q. refl) es [] refl (λ U. U) (λ U. refl) other

  zero_add : (n : ℕ) → 0 + n ≡ n
  zero_add n = omega arith

  false_law : (other : List ℕ) → shortest (settles a g) (λ U. U) (atoms_that is_false a es) other ≡ walk a g is_false keeps (false_step a f) [] es 0 (whole g) other
  false_law other = walk_shortest is_false keeps (false_step a f) (λ before rest. 0) (λ before rest. worth f (λ e. not (is_false (a e.atom))) before + worth f (λ e. true) rest)
      bound_false (λ before e rest q. refl) (λ before e rest q. step_false before e rest) es [] refl (λ U. U) (λ U. refl) other
      ∙ ap (λ (y : ℕ). walk a g is_false keeps (false_step a f) [] es 0 y other) (zero_add (whole g))

  -- THE LAW
  pub walk_law : settling_walk a g ≡ settling_of a g
  unfolding settling_walk settling_of
  walk_law =
      let T = atoms_that truth_of a es in
      let F = atoms_that is_false a es in
      let all = atoms_that is_defined a es in
      let s = settles a g in
      sym (ap (λ (Ts : List (List ℕ)). first_that s (Ts ++ (T ∷ F ∷ [])) all) (tried_adds f A T F all)
      ∙ ap (λ (Ts : List (List ℕ)). first_that s Ts all) (append_assoc (runs T) (runs F) (T ∷ F ∷ []))
      ∙ ap (λ (Ts : List (List ℕ)). first_that s (Ts ++ (runs F ++ (T ∷ F ∷ []))) all) (map_same (runs T))
      ∙ runs_shortest s (λ U. U) T (runs F ++ (T ∷ F ∷ [])) all
      ∙ ap (λ (Ts : List (List ℕ)). shortest s (λ U. U) T (first_that s (Ts ++ (T ∷ F ∷ [])) all)) (map_same (runs F))
      ∙ ap (shortest s (λ U. U) T) (runs_shortest s (λ U. U) F (T ∷ F ∷ []) all)
      ∙ spare s T F all
      ∙ ap (shortest s (λ U. U) T) (false_law all)
      ∙ true_law (walk a g is_false keeps (false_step a f) [] es 0 (whole g) all))
