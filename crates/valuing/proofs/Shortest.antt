-- The shortest run that passes a test, as a search that begins with what was passed before it. Assumes nothing.
use Prim.Native.Nat.{ℕ}
use mathlib.Core.Path.{◌≡◌, refl, ap, ◌∙◌}
use mathlib.Core.Logic.{◌⊎◌, inl, inr}
use mathlib.Core.Bool.{Bool, true, false, cond}
use mathlib.Core.List.{List, [], ◌∷◌, ◌++◌, map, map-map}
use Rattle.meaning.specs.Lists.{Is, cons_if}
use Rattle.meaning.specs.declared.Function.{Function}
use Rattle.meaning.specs.declared.Function.TheVariants.{Count, Sum, Min, Max}
use Rattle.meaning.proofs.Tools.{clash, cases}
use Rattle.valuing.specs.Settling.{runs, tried, first_that}
use Rattle.valuing.specs.Walk.{adds}

-- ---- the first of the runs

-- w lays what was passed before the run
unfoldable pub shortest : (List ℕ → Bool) → (List ℕ → List ℕ) → List ℕ → List ℕ → List ℕ
shortest F w [] other = cond (F (w [])) (w []) other
shortest F w (p ∷ T) other = cond (F (w [])) (w []) (shortest F (λ U. w (p ∷ U)) T other)

pub runs_shortest : (F : List ℕ → Bool) (w : List ℕ → List ℕ) (T : List ℕ) (Us : List (List ℕ)) (d : List ℕ) → first_that F (map w (runs T) ++ Us) d ≡ shortest F w T (first_that F Us d)
unfolding shortest
runs_shortest F w [] Us d = refl
runs_shortest F w (p ∷ T) Us d =
    ap (λ (Ts : List (List ℕ)). cond (F (w [])) (w []) (first_that F (Ts ++ Us) d)) (map-map w (λ (U : List ℕ). p ∷ U) (runs T))
    ∙ ap (cond (F (w [])) (w [])) (runs_shortest F (λ U. w (p ∷ U)) T Us d)

pub map_same : (l : List (List ℕ)) → l ≡ map (λ (U : List ℕ). U) l
map_same [] = refl
map_same (T ∷ l) = ap (λ (m : List (List ℕ)). T ∷ m) (map_same l)

-- where the whole list passes, what else there is does not matter
pub shortest_last : (F : List ℕ → Bool) (w : List ℕ → List ℕ) (T : List ℕ) (x y : List ℕ) → Is (F (w T)) → shortest F w T x ≡ shortest F w T y
unfolding shortest
shortest_last F w [] x y h = rw h
shortest_last F w (p ∷ T) x y h = ap (cond (F (w [])) (w [])) (shortest_last F (λ U. w (p ∷ U)) T x y h)

again : (b : Bool) (x y : List ℕ) → cond b x y ≡ cond b x (cond b x y)
again true x y = refl
again false x y = refl

-- one element more, which may or may not be of the run
pub shortest_step : (F : List ℕ → Bool) (w : List ℕ → List ℕ) (b : Bool) (p : ℕ) (T : List ℕ) (other : List ℕ)
    → shortest F w (cons_if b p T) other ≡ cond (F (w [])) (w []) (shortest F (λ U. w (cons_if b p U)) T other)
unfolding shortest
shortest_step F w true p T other = refl
shortest_step F w false p [] other = again (F (w [])) (w []) other
shortest_step F w false p (q ∷ T) other = again (F (w [])) (w []) (shortest F (λ U. w (q ∷ U)) T other)

pub spare : (F : List ℕ → Bool) (T U d : List ℕ)
    → shortest F (λ x. x) T (shortest F (λ x. x) U (cond (F T) T (cond (F U) U d))) ≡ shortest F (λ x. x) T (shortest F (λ x. x) U d)
spare F T U d = at (cases (F T)) (cases (F U))
  where
    at : Is (F T) ⊎ (F T ≡ false) → Is (F U) ⊎ (F U ≡ false) → shortest F (λ x. x) T (shortest F (λ x. x) U (cond (F T) T (cond (F U) U d))) ≡ shortest F (λ x. x) T (shortest F (λ x. x) U d)
    at (inl h) k = shortest_last F (λ x. x) T (shortest F (λ x. x) U (cond (F T) T (cond (F U) U d))) (shortest F (λ x. x) U d) h
    at (inr h) (inl k) = ap (shortest F (λ x. x) T) (shortest_last F (λ x. x) U (cond (F T) T (cond (F U) U d)) d k)
    at (inr h) (inr k) = ap (λ (x : List ℕ). shortest F (λ x. x) T (shortest F (λ x. x) U x)) (ap (λ (b : Bool). cond b T (cond (F U) U d)) h ∙ ap (λ (b : Bool). cond b U d) k)

pub tried_adds : (f : Function) → Is (adds f) → (T F D : List ℕ) → tried f T F D ≡ runs T ++ runs F
tried_adds Count h T F D = refl
tried_adds Sum h T F D = refl
tried_adds Min h T F D = absurd (clash h refl)
tried_adds Max h T F D = absurd (clash h refl)
