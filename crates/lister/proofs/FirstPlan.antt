-- The first plan that the defined listing lists is what the defined search answers with the same limit, and it lists none where the search has no answer. Any problem,
-- both modes. Assumes nothing.
--   plans_grow   what is listed stays listed, in its place
--   first_plan   the search answers X: the listing begins with X
--   no_plan_lem      the search ends without an answer: nothing is listed
use Prim.Native.Nat.{ℕ, zero, suc, ◌*◌}
use mathlib.Core.Path.{◌≡◌, refl, sym, ◌∙◌, ap, subst}
use mathlib.Core.Logic.{◌≢◌}
use mathlib.Core.Option.{Option, none, some}
use mathlib.Core.List.{List, [], ◌∷◌, ◌++◌, append_assoc, append-nil}
use native.Mathlib.Omega.{arith}
use Rattle.meaning.specs.Aggregates.{Atoms}
use Rattle.meaning.proofs.Cond.{if_lt_yes, some_inj}
use Rattle.search.specs.Search.{Problem, Mode, Result, answer, no_answer, limit, State, Outcome, Next, go, end, turn, cont, run, start, solve}
use Rattle.search.specs.Listing.{Jumped, Listing, Listed, ListNext, stop, stopped, jumped_over, onward, resumed, found, followed, list_turn, cont_list, list_run, alone, list_all}
use Rattle.search.proofs.ListRuns.{after, by_turn}

no_fuel : {A : Type 0} {a : A} → ◌≡◌ {A = Option A} none (some a) → ⊥
no_fuel e = let z : ◌≡◌ {A = ℕ} 0 1 = cc in omega arith

module _ (P : Problem) (mode : Mode) (lim rows : ℕ) where
  -- the plans begin with these
  abbrev Begins : List Atoms → Listed → Type 0
  Begins plans o = (rest : List Atoms) × (o.plans ≡ plans ++ rest)

  Grows : ℕ → List Atoms → ListNext → Type 0
  Grows n plans x = (o : Listed) → cont_list (list_run P mode lim rows n) x ≡ some o → Begins plans o

  stop_grows : (n : ℕ) (plans : List Atoms) (q : Listed) → q.plans ≡ plans → Grows n plans (stop q)
  unfolding Grows
  stop_grows n plans q h o e = ([], ap (λ (o : Listed). o.plans) (sym (some_inj e)) ∙ h ∙ sym (append-nil plans))

  onward_grows : (n : ℕ) → ((s : Listing) (o : Listed) → list_run P mode lim rows n s ≡ some o → Begins s.plans o) → (plans : List Atoms) (past : List Jumped) (x : Next) → Grows n plans (onward plans past x)
  unfolding Grows
  onward_grows n f plans past (go d) o e = f (record { state = d; plans = plans; past = past }) o e
  onward_grows n f plans past (end q) o e = stop_grows n plans (stopped plans past q) refl o e

  longer : (n : ℕ) (plans : List Atoms) (X : Atoms) (x : ListNext) → Grows n (plans ++ (X ∷ [])) x → Grows n plans x
  unfolding Grows
  longer n plans X x g o e = let t = g o e in (X ∷ t.0, t.1 ∙ append_assoc plans (X ∷ []) t.0)

  pub plans_grow : (n : ℕ) (s : Listing) (o : Listed) → list_run P mode lim rows n s ≡ some o → Begins s.plans o
  unfolding list_run Grows
  plans_grow zero s o e = absurd (no_fuel e)
  plans_grow (suc n) s o e =
      by_turn P mode lim rows s (Grows n s.plans) (λ d i q f. plans_grow n (record { state = d; plans = s.plans; past = s.past }) q f)
      (λ p i. stop_grows n s.plans (stopped s.plans s.past p) refl)
      (λ p X i j. longer n s.plans X (after P mode lim rows s p X) (onward_grows n (λ t q f. plans_grow n t q f) (s.plans ++ (X ∷ [])) (jumped_over s.plans p.skipped s.past) (resumed P mode s.state p)))
      o e

-- ---- with a row, or more

module _ (P : Problem) (mode : Mode) (lim k : ℕ) where
  -- what a listing comes to whose search for a first plan ends with o
  Starts : Listed → Outcome → Result → Type 0
  Starts q o (answer X) = (rest : List Atoms) × (q.plans ≡ X ∷ rest)
  Starts q o no_answer = q.plans ≡ []
  Starts q o limit = q.plans ≡ []

  ended : (n : ℕ) (c : State) (o : Outcome) (q : Listed) (r : Result) → cont_list (list_run P mode lim (suc k) n) (found P mode (suc k) (alone c) o r) ≡ some q → Starts q o r
  unfolding Starts Grows
  ended n c o q no_answer e = ap (λ (o : Listed). o.plans) (sym (some_inj e))
  ended n c o q limit e = ap (λ (o : Listed). o.plans) (sym (some_inj e))
  ended n c o q (answer X) e =
      let x = onward (X ∷ []) (jumped_over [] o.skipped []) (resumed P mode c o) in
      let h : cont_list (list_run P mode lim (suc k) n) x ≡ some q = ap (cont_list (list_run P mode lim (suc k) n)) (sym (if_lt_yes 0 (suc k) x (stop (stopped [] [] o)) (omega arith))) ∙ e in
      onward_grows P mode lim (suc k) n (λ s p f. plans_grow P mode lim (suc k) n s p f) (X ∷ []) (jumped_over [] o.skipped []) (resumed P mode c o) q h

  starts : (n : ℕ) (c : State) (o : Outcome) (q : Listed) → run P mode lim n c ≡ some o → list_run P mode lim (suc k) n (alone c) ≡ some q → Starts q o o.result
  unfolding run list_run list_turn
  starts zero c o q e f = absurd (no_fuel e)
  starts (suc n) c o q e f = at (λ d i j. starts n d o q i j) (turn P mode lim c) e f
    where
      at : ((d : State) → run P mode lim n d ≡ some o → list_run P mode lim (suc k) n (alone d) ≡ some q → Starts q o o.result) → (x : Next) → cont (run P mode lim n) x ≡ some o → cont_list (list_run P mode lim (suc k) n) (followed P mode (suc k) (alone c) x) ≡ some q → Starts q o o.result
      at g (go d) e f = g d e f
      at g (end p) e f = let i = some_inj e in ended n c o q o.result (ap (λ (p : Outcome). cont_list (list_run P mode lim (suc k) n) (found P mode (suc k) (alone c) p p.result)) (sym i) ∙ f)

  module _ (o : Outcome) (e : solve P mode lim ≡ some o) (q : Listed) (f : list_all P mode lim (suc k) ≡ some q) where
    begun : (r : Result) → o.result ≡ r → Starts q o r
    unfolding solve list_all
    begun r i = subst (Starts q o) i (starts (suc lim * suc P.atoms) (start P) o q e f)

    pub first_plan : (X : Atoms) → o.result ≡ answer X → (rest : List Atoms) × (q.plans ≡ X ∷ rest)
    unfolding Starts
    first_plan X i = begun (answer X) i

    pub no_plan_lem : (r : Result) → o.result ≡ r → ((X : Atoms) → r ≢ answer X) → q.plans ≡ []
    unfolding Starts
    no_plan_lem (answer X) i n = absurd (n X refl)
    no_plan_lem no_answer i n = begun no_answer i
    no_plan_lem limit i n = begun limit i
