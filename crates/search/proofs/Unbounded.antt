-- A plain search with no limit, for code that counts nothing: it is the search with the limit 2 ^ atoms, which it never meets (`Unlimited.antt`). Its final test opens no choices.
--   Open            a state of that search, with room for what is still to be chosen
--   open-start, open-go, open_more     the start is one, a turn leads from one to another, and one more choice is always allowed
--   left, open-less  a measure of the interpretation alone, which each turn lowers
-- Assumes nothing.
use Prim.Native.Nat.{ℕ, zero, suc, ◌+◌, ◌-◌, ◌*◌, ◌^◌, ◌≤◌, ◌<◌}
use native.Mathlib.Omega.{arith}
use mathlib.Core.Path.{◌≡◌, refl, subst}
use mathlib.Core.Logic.{◌⊎◌, inl, inr}
use mathlib.Core.Bool.{not}
use mathlib.Core.Option.{Option, none, some}
use mathlib.Core.List.{[]}
use Rattle.meaning.specs.Cond.{if_lt}
use Rattle.meaning.specs.Aggregates.{Atoms}
use Rattle.meaning.proofs.Cond.{if_lt_yes, if_lt_no, lt_case}
use Rattle.levels.specs.Levels.{Levels, up_to}
use Rattle.interpretation.specs.State.{Interpretation, lowest, true_atoms, with_cells}
use Rattle.steps.specs.Steps.{Verdict, settled, conflict}
use Rattle.search.specs.Search.{Problem, Tested, passed, failed, exhausted, spend, plain, limit, State, Next, go, end, go_back_by, ended, choosing_by, tested, choose, settle, propagated, turn, start}
use Rattle.search.specs.Laws.{Laws}
use Rattle.search.proofs.Parts.{lowest_some}
use Rattle.search.proofs.Sound.{StateInv, GoodNext, turn_good, start_good}
use Rattle.search.proofs.Unlimited.{room_power, Room, room_propagated, room_opened, room_back, Fits, FitsNext, fits_turn, start_fits}

module _ (AS : Atoms → Type 0) (P : Problem) (L : Laws AS P) (quiet : (m : ℕ) (X : Atoms) → (P.test m X ≡ passed 0) ⊎ (P.test m X ≡ failed 0)) where
  abbrev pub enough : ℕ
  enough = 2 ^ P.atoms

  pub record Open (c : State) : Type 0 where
    pub good : StateInv AS P enough [] 0 c
    pub fits : Fits AS P L quiet enough c

  pub open_start : Open (start P)
  open_start = record { good = start_good AS P enough L; fits = start_fits AS P L quiet enough }

  pub open_go : (c d : State) → Open c → turn P plain enough c ≡ go d → Open d
  unfolding GoodNext FitsNext
  open_go c d O e = record {
    good = subst (GoodNext AS P enough [] 0) e (turn_good AS P enough [] 0 L plain c O.good);
    fits = subst (FitsNext AS P L quiet enough) e (fits_turn AS P L quiet enough c O.good O.fits);
  }

  pub open_more : (c : State) → Open c → c.choices < enough
  unfolding Fits
  open_more c O = let h = O.fits in let r = room_power P.atoms in omega arith

  -- ---- the measure

  abbrev pub left : Interpretation → ℕ
  left i = Room P.atoms (not P.first) i * 2 + i.level

  Falls : State → Next → Type 0
  Falls c (go d) = left d.interpretation < left c.interpretation
  Falls c (end o) = Unit {0}

  module _ (c : State) (O : Open c) where
    abbrev k : Interpretation
    k = with_cells c.interpretation (P.propagate c.interpretation c.reason).cell

    passed_on : Room P.atoms (not P.first) k ≤ Room P.atoms (not P.first) c.interpretation
    passed_on = room_propagated AS P L quiet enough c O.good

    falls_back : (C : Levels) (m : ℕ) → m ≡ c.interpretation.level → Falls c (go_back_by P.first (propagated P c) C m)
    unfolding Falls
    falls_back C zero h = tt
    falls_back C (suc j) h = let a = passed_on in let b = room_back AS P L quiet enough c O.good j h in omega arith

    falls_spent : (n : ℕ) (C : Levels) (m : ℕ) → m ≡ c.interpretation.level → Falls c (go_back_by P.first (spend n (propagated P c)) C m)
    unfolding Falls
    falls_spent n C zero h = tt
    falls_spent n C (suc j) h = let a = passed_on in let b = room_back AS P L quiet enough c O.good j h in omega arith

    falls_tested : (t : Tested) → Falls c (tested P plain enough (propagated P c) t)
    unfolding Falls
    falls_tested (passed n) = tt
    falls_tested (failed n) = falls_spent n (up_to c.interpretation.level) c.interpretation.level refl
    falls_tested exhausted = tt

    falls_choose : (o : Option ℕ) → lowest k.cell P.atoms ≡ o → Falls c (choose P plain enough (propagated P c) o)
    unfolding Falls
    falls_choose none e = falls_tested (P.test (enough - c.choices) (true_atoms P.atoms k.cell))
    falls_choose (some p) e = at (lt_case c.choices enough)
      where
        at : (c.choices < enough) ⊎ (enough ≤ c.choices) → Falls c (if_lt c.choices enough (go (choosing_by P.first p (propagated P c))) (ended limit (propagated P c)))
        at (inl h) =
            let l = lowest_some k.cell P.atoms p e in
            rw (if_lt_yes c.choices enough (go (choosing_by P.first p (propagated P c))) (ended limit (propagated P c)) h)
            (let a = passed_on in let b = room_opened AS P L quiet enough c O.good p (l.0, l.1) l.2 in omega arith)
        at (inr h) = rw (if_lt_no c.choices enough (go (choosing_by P.first p (propagated P c))) (ended limit (propagated P c)) h) tt

    falls_settle : (v : Verdict) → Falls c (settle P plain enough (propagated P c) v)
    falls_settle settled = falls_choose (lowest k.cell P.atoms) refl
    falls_settle (conflict C) = falls_back C c.interpretation.level refl

    pub open_less : (d : State) → turn P plain enough c ≡ go d → left d.interpretation < left c.interpretation
    unfolding Falls turn
    open_less d e = subst (Falls c) e (falls_settle (P.propagate c.interpretation c.reason).verdict)
