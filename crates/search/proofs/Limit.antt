-- "If some atom is undefined and there is no conflict: at the limit, end with 'limit'": a search that ends with limit has come to a state whose propagation is
-- settled, in which an atom is undefined, and whose choices are those that the limit allows. Assumes nothing.
use Prim.Native.Nat.{ℕ, zero, suc, ◌≤◌, ◌<◌}
use mathlib.Core.Path.{◌≡◌, refl, sym, ◌∙◌, ap}
use mathlib.Core.Logic.{◌⊎◌, inl, inr}
use mathlib.Core.Bool.{Bool, true, false}
use mathlib.Core.Option.{Option, none, some}
use native.Mathlib.Omega.{arith}
use Rattle.meaning.specs.Cond.{if_lt}
use Rattle.meaning.specs.Program.{Program}
use Rattle.meaning.specs.Foundedness.{founded}
use Rattle.meaning.proofs.Cond.{if_lt_yes, lt_case, some_inj}
use Rattle.levels.specs.Levels.{Levels, up_to}
use Rattle.interpretation.specs.State.{lowest, true_atoms}
use Rattle.steps.specs.Steps.{Verdict, settled, conflict}
use Rattle.search.specs.Search.{Problem, Mode, limit, State, Outcome, Next, go, end, target, go_back, ended, choosing, spend, tested, choose, settle, propagated, turn, cont, run}
use Rattle.search.specs.Base.{verdict_of, base}

-- some turns of the search lead to d
pub data LeadsTo (P : Problem) (mode : Mode) (lim : ℕ) (d : State) : State → Type 0 where
  here : {c : State} → c ≡ d → LeadsTo P mode lim d c
  on : {c e : State} → turn P mode lim c ≡ go e → LeadsTo P mode lim d e → LeadsTo P mode lim d c

-- at d propagation is settled, atom p is undefined, and no choice is left
pub record AtLimit (P : Problem) (lim : ℕ) (d : State) : Type 0 where
  pub atom : ℕ
  pub quiet : (P.propagate d.interpretation d.reason).verdict ≡ settled
  pub unset : lowest (P.propagate d.interpretation d.reason).cell P.atoms ≡ some atom
  pub spent : lim ≤ d.choices

module _ (Q : Program) (n : ℕ) (mode : Mode) (lim : ℕ) where
  abbrev P : Problem
  P = base Q n

  back_not : (d : State) (C : Levels) (m : ℕ) (o : Outcome) → go_back d C m ≡ end o → o.result ≡ limit → ⊥
  back_not d C zero o e l = let z : ◌≡◌ {A = ℕ} 0 1 = cc in omega arith
  back_not d C (suc j) o e l = let z : ◌≡◌ {A = ℕ} 0 1 = cc in omega arith

  test_not : (d : State) (b : Bool) (o : Outcome) → tested P mode lim d (verdict_of b) ≡ end o → o.result ≡ limit → ⊥
  test_not d true o e l = let z : ◌≡◌ {A = ℕ} 0 1 = cc in omega arith
  test_not d false o e l = back_not (spend 0 d) (up_to d.interpretation.level) (target mode (up_to d.interpretation.level) d.interpretation.level) o e l

  at_limit_lem : (c : State) (o : Outcome) → turn P mode lim c ≡ end o → o.result ≡ limit → AtLimit P lim c
  unfolding turn
  at_limit_lem c o e l = by_verdict (P.propagate c.interpretation c.reason).verdict refl e
    where
      by_limit : (p : ℕ) → (c.choices < lim) ⊎ (lim ≤ c.choices) → if_lt c.choices lim (go (choosing p (propagated P c))) (ended limit (propagated P c)) ≡ end o → lim ≤ c.choices
      by_limit p (inl h) i = absurd (let g = sym (if_lt_yes c.choices lim (go (choosing p (propagated P c))) (ended limit (propagated P c)) h) ∙ i in let z : ◌≡◌ {A = ℕ} 0 1 = cc in omega arith)
      by_limit p (inr h) i = h

      by_atom : (P.propagate c.interpretation c.reason).verdict ≡ settled → (x : Option ℕ) → lowest (P.propagate c.interpretation c.reason).cell P.atoms ≡ x
          → choose P mode lim (propagated P c) x ≡ end o → AtLimit P lim c
      by_atom v none x i = absurd (test_not (propagated P c) (founded Q n (true_atoms n (propagated P c).interpretation.cell)) o i l)
      by_atom v (some p) x i = record { atom = p; quiet = v; unset = x; spent = by_limit p (lt_case c.choices lim) i }

      by_verdict : (v : Verdict) → (P.propagate c.interpretation c.reason).verdict ≡ v → settle P mode lim (propagated P c) v ≡ end o → AtLimit P lim c
      by_verdict settled v i = by_atom v (lowest (P.propagate c.interpretation c.reason).cell P.atoms) refl i
      by_verdict (conflict C) v i = absurd (back_not (propagated P c) C (target mode C (propagated P c).interpretation.level) o i l)

  pub limit_where : (f : ℕ) (c : State) (o : Outcome) → run P mode lim f c ≡ some o → o.result ≡ limit → (d : State) × LeadsTo P mode lim d c × AtLimit P lim d
  unfolding run
  limit_where zero c o e l = absurd (let z : ◌≡◌ {A = ℕ} 0 1 = cc in omega arith)
  limit_where (suc f) c o e l = at (λ d. limit_where f d o) (turn P mode lim c) refl e
    where
      at : ((d : State) → run P mode lim f d ≡ some o → o.result ≡ limit → (x : State) × LeadsTo P mode lim x d × AtLimit P lim x)
          → (x : Next) → turn P mode lim c ≡ x → cont (run P mode lim f) x ≡ some o → (d : State) × LeadsTo P mode lim d c × AtLimit P lim d
      at g (go d) i j = let t = g d j l in (t.0, on i t.1, t.2)
      at g (end q) i j = (c, here refl, at_limit_lem c o (i ∙ ap end (some_inj j)) l)
