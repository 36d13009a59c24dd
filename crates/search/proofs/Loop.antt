-- For a loop that makes one turn after another: `Ends c o`, with some fuel the run from c ends with o. A loop's invariant is
-- that whatever the present state ends with, the start ends with; at the loop's end that is what `solve` gives.
-- Assumes nothing.
use Prim.Native.Nat.{ℕ, zero, suc}
use mathlib.Core.Path.{◌≡◌, sym, ◌∙◌, ap}
use mathlib.Core.Option.{some}
use native.Mathlib.Omega.{arith}
use Rattle.meaning.proofs.Cond.{some_inj}
use Rattle.search.specs.Search.{Problem, Mode, State, Outcome, Next, go, end, turn, cont, run, start, solve}
use Rattle.search.proofs.Fuel.{solve_ends}

module _ (P : Problem) (mode : Mode) (lim : ℕ) where
  abbrev pub Ends : State → Outcome → Type 0
  Ends c o = (n : ℕ) × (run P mode lim n c ≡ some o)

  pub ends_end : (c : State) (o : Outcome) → turn P mode lim c ≡ end o → Ends c o
  unfolding run
  ends_end c o e = (1, ap (cont (run P mode lim 0)) e)

  pub ends_go : (c d : State) (o : Outcome) → turn P mode lim c ≡ go d → Ends d o → Ends c o
  unfolding run
  ends_go c d o e (n, f) = (suc n, ap (cont (run P mode lim n)) e ∙ f)

  -- the fuel does not matter
  run_unique : (n k : ℕ) (c : State) (o q : Outcome) → run P mode lim n c ≡ some o → run P mode lim k c ≡ some q → o ≡ q
  unfolding run
  run_unique zero k c o q e f = absurd (let z : ◌≡◌ {A = ℕ} 0 1 = cc in omega arith)
  run_unique (suc n) zero c o q e f = absurd (let z : ◌≡◌ {A = ℕ} 0 1 = cc in omega arith)
  run_unique (suc n) (suc k) c o q e f = at (λ d. run_unique n k d o q) (turn P mode lim c) e f
    where
      at : ((d : State) → run P mode lim n d ≡ some o → run P mode lim k d ≡ some q → o ≡ q)
          → (x : Next) → cont (run P mode lim n) x ≡ some o → cont (run P mode lim k) x ≡ some q → o ≡ q
      at g (go d) e f = g d e f
      at g (end x) e f = sym (some_inj e) ∙ some_inj f

  pub ends_unique : (c : State) (o q : Outcome) → Ends c o → Ends c q → o ≡ q
  ends_unique c o q (n, e) (k, f) = run_unique n k c o q e f

  pub ends_solve : (o : Outcome) → Ends (start P) o → solve P mode lim ≡ some o
  unfolding solve
  ends_solve o x = let t = solve_ends P mode lim in t.1 ∙ ap some (ends_unique (start P) t.0 o (_, t.1) x)
