-- The test of `specs/Enumerated.antt` is exact: a list of atoms passes exactly if they are an answer set. Assumes nothing.
use mathlib.Core.Path.{◌≡◌, refl, sym, ◌∙◌, ap, subst, fun_ext}
use mathlib.Core.Logic.{◌⊎◌, inl, inr}
use mathlib.Core.Bool.{Bool, true, false, not, ◌&&◌}
use mathlib.Core.List.Memᴰ
use mathlib.Core.List.{List, [], ◌∷◌, ◌++◌, map}
use Prim.Native.Nat.{ℕ}
use Rattle.meaning.specs.Lists.{Is, ◌∈◌, any, keep, cons_if, has}
use Rattle.meaning.specs.Program.{Program}
use Rattle.meaning.specs.Aggregates.{Atoms}
use Rattle.meaning.specs.Answers.{model, reduct, ◌⊆◌, AnswerSet}
use Rattle.meaning.specs.Enumerated.{among, sublists, lacks, is_answer, atoms_from, answers_of}
use Rattle.meaning.proofs.Tools.{clash, not_is, is_not_lem, and_i, and_l, and_r, contra, both, any_i, any_e, any_cases, has_i, has_e, keep_i, keep_e}

-- ---- members of joined and of mapped lists

module _ {A : Type 0} where
  left_in_lem : {x : A} (s t : List A) → x ∈ s → x ∈ s ++ t
  left_in_lem [] t m = absurd (Memᴰ.not-nil m)
  left_in_lem {x} (y ∷ s) t m = at (Memᴰ.cases_cons m) (λ k. left_in_lem s t k)
    where
      at : (x ≡ y) ⊎ (x ∈ s) → (x ∈ s → x ∈ s ++ t) → x ∈ y ∷ (s ++ t)
      at (inl e) g = Memᴰ.head e
      at (inr k) g = Memᴰ.tail (g k)

  right_in : {x : A} (s t : List A) → x ∈ t → x ∈ s ++ t
  right_in [] t m = m
  right_in (y ∷ s) t m = Memᴰ.tail (right_in s t m)

  join_cases : {x : A} (s t : List A) → x ∈ s ++ t → (x ∈ s) ⊎ (x ∈ t)
  join_cases [] t m = inr m
  join_cases {x} (y ∷ s) t m = at (Memᴰ.cases_cons m) (λ k. join_cases s t k)
    where
      at : (x ≡ y) ⊎ (x ∈ s ++ t) → (x ∈ s ++ t → (x ∈ s) ⊎ (x ∈ t)) → (x ∈ y ∷ s) ⊎ (x ∈ t)
      at (inl e) g = inl (Memᴰ.head e)
      at (inr k) g = back (g k)
        where
          back : (x ∈ s) ⊎ (x ∈ t) → (x ∈ y ∷ s) ⊎ (x ∈ t)
          back (inl h) = inl (Memᴰ.tail h)
          back (inr h) = inr h

  map_in : {B : Type 0} (f : A → B) {x : A} (s : List A) → x ∈ s → f x ∈ map f s
  map_in f [] m = absurd (Memᴰ.not-nil m)
  map_in f {x} (y ∷ s) m = at (Memᴰ.cases_cons m) (λ k. map_in f s k)
    where
      at : (x ≡ y) ⊎ (x ∈ s) → (x ∈ s → f x ∈ map f s) → f x ∈ f y ∷ map f s
      at (inl e) g = Memᴰ.head (ap f e)
      at (inr k) g = Memᴰ.tail (g k)

  map_from : {B : Type 0} (f : A → B) {z : B} (s : List A) → z ∈ map f s → (x : A) × (x ∈ s) × (z ≡ f x)
  map_from f [] m = absurd (Memᴰ.not-nil m)
  map_from f {z} (y ∷ s) m = at (Memᴰ.cases_cons m) (λ k. map_from f s k)
    where
      at : (z ≡ f y) ⊎ (z ∈ map f s) → (z ∈ map f s → (x : A) × (x ∈ s) × (z ≡ f x)) → (x : A) × (x ∈ y ∷ s) × (z ≡ f x)
      at (inl e) g = (y, Memᴰ.head refl, e)
      at (inr k) g = let t = g k in (t.0, Memᴰ.tail t.1, t.2)

-- ---- sublists

-- a sublist has only members of the list
sublist_part : (l m : List ℕ) → m ∈ sublists l → (p : ℕ) → p ∈ m → p ∈ l
sublist_part [] m h p k = at (Memᴰ.cases_cons h)
  where
    at : (m ≡ []) ⊎ (m ∈ []) → p ∈ []
    at (inl e) = subst (λ (x : List ℕ). p ∈ x) e k
    at (inr j) = absurd (Memᴰ.not-nil j)
sublist_part (q ∷ l) m h p k = at (join_cases (map (λ (x : List ℕ). q ∷ x) (sublists l)) (sublists l) h) (λ x j i. sublist_part l x j p i)
  where
    at : (m ∈ map (λ (x : List ℕ). q ∷ x) (sublists l)) ⊎ (m ∈ sublists l) → ((x : List ℕ) → x ∈ sublists l → p ∈ x → p ∈ l) → p ∈ q ∷ l
    at (inl j) g = let t = map_from (λ (x : List ℕ). q ∷ x) (sublists l) j in pick (Memᴰ.cases_cons (subst (λ (x : List ℕ). p ∈ x) t.2 k))
      where
        pick : (p ≡ q) ⊎ (p ∈ (map_from (λ (x : List ℕ). q ∷ x) (sublists l) j).0) → p ∈ q ∷ l
        pick (inl e) = Memᴰ.head e
        pick (inr i) = Memᴰ.tail (g _ (map_from (λ (x : List ℕ). q ∷ x) (sublists l) j).1 i)
    at (inr j) g = Memᴰ.tail (g m j k)

-- what passes a test is a sublist
kept_sublist : (f : ℕ → Bool) (l : List ℕ) → keep f l ∈ sublists l
kept_sublist f [] = Memᴰ.head refl
kept_sublist f (q ∷ l) = at (f q) (kept_sublist f l)
  where
    at : (b : Bool) → keep f l ∈ sublists l → cons_if b q (keep f l) ∈ map (λ (x : List ℕ). q ∷ x) (sublists l) ++ sublists l
    at true h = left_in_lem (map (λ (x : List ℕ). q ∷ x) (sublists l)) (sublists l) (map_in (λ (x : List ℕ). q ∷ x) (sublists l) h)
    at false h = right_in (map (λ (x : List ℕ). q ∷ x) (sublists l)) (sublists l) h

-- a subset of the list's atoms is one of its sublists
kept_same : (Y : Atoms) (l : List ℕ) → Y ⊆ among l → among (keep Y l) ≡ Y
kept_same Y l sub = fun_ext λ p. both (has p (keep Y l)) (Y p) (λ h. (keep_e Y l (has_e (keep Y l) h)).1) (λ y. has_i (keep_i Y l (has_e l (sub p y)) y))

-- ---- the test

module _ (P : Program) (l : List ℕ) where
  abbrev worse : List ℕ → Bool
  worse m = lacks l m && model (reduct P (among l)) (among m)

  pub answer_of : Is (is_answer P l) → AnswerSet P (among l)
  unfolding is_answer
  answer_of h = record { is_model = and_l (model P (among l)) _ h; minimal = λ Y k. minimal Y k.0 k.1.0 k.1.1 k.1.2 }
    where
      none : any worse (sublists l) ≡ false
      none = not_is _ (and_r (model P (among l)) _ h)

      minimal : (Y : Atoms) → Y ⊆ among l → (p : ℕ) → Is (among l p) → Y p ≡ false → model (reduct P (among l)) Y ≡ false
      minimal Y sub p i f =
          let e = kept_same Y l sub in
          let out : Is (lacks l (keep Y l)) = any_i (λ q. not (has q (keep Y l))) l (has_e l i) (is_not_lem _ (ap (λ (Z : Atoms). Z p) e ∙ f)) in
          let rest : model (reduct P (among l)) (among (keep Y l)) ≡ false = contra _ (λ m. any_i worse (sublists l) (kept_sublist Y l) (and_i out m)) none in
          sym (ap (model (reduct P (among l))) e) ∙ rest

  pub of_answer : AnswerSet P (among l) → Is (is_answer P l)
  unfolding is_answer
  of_answer A = and_i A.is_model (is_not_lem _ (at (any_cases worse (sublists l))))
    where
      at : ((m : List ℕ) × (m ∈ sublists l) × Is (worse m)) ⊎ ((m : List ℕ) → m ∈ sublists l → worse m ≡ false) → any worse (sublists l) ≡ false
      at (inl (m, k, w)) =
          let x = any_e (λ q. not (has q m)) l (and_l (lacks l m) _ w) in
          absurd (clash (and_r (lacks l m) _ w) (A.minimal (among m) (λ p j. has_i (sublist_part l m k p (has_e m j)), (x.0, has_i x.1, not_is _ x.2))))
      at (inr n) = contra _ {b = false} (λ h. let x = any_e worse (sublists l) h in absurd (clash x.2 (n x.0 x.1))) refl

-- ---- all of them

-- every listed set is an answer set
pub answers_sound : (P : Program) (n : ℕ) (l : List ℕ) → l ∈ answers_of P n → AnswerSet P (among l)
unfolding answers_of
answers_sound P n l m = answer_of P l (keep_e (is_answer P) (sublists (atoms_from 1 n)) m).1

-- every answer set over the atoms 1 .. n is listed
pub answers_complete : (P : Program) (n : ℕ) (X : Atoms) → X ⊆ among (atoms_from 1 n) → AnswerSet P X → (l : List ℕ) × (l ∈ answers_of P n) × (among l ≡ X)
unfolding answers_of
answers_complete P n X sub A =
    let e = kept_same X (atoms_from 1 n) sub in
    (keep X (atoms_from 1 n), keep_i (is_answer P) (sublists (atoms_from 1 n)) (kept_sublist X (atoms_from 1 n)) (of_answer P (keep X (atoms_from 1 n)) (subst (AnswerSet P) (sym e) A)), e)
