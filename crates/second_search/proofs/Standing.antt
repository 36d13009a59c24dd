-- The second search with no limit, as the code that counts nothing goes through it: it is the search with the limit 2 ^ n, which it never meets. Assumes nothing.
--   Stands             a state of it has the interpretation at hand, and whatever the search ends with from there it ends with from the start
--   stands-start, stands-go, stands-less     the start, a turn, and the measure of the interpretation that a turn lowers
--   stands_more        one more choice is always allowed
--   finds, finds-none  what an end says
use Prim.Native.Nat.{ℕ, ◌^◌, ◌<◌}
use native.Mathlib.Omega.{arith}
use mathlib.Core.Path.{◌≡◌, refl, sym, subst}
use mathlib.Core.Logic.{◌⊎◌}
use mathlib.Core.Bool.{Bool, true, false}
use mathlib.Core.Option.{Option, none, some}
use lib.Dec.{ltb}
use borrow.Author.Tests.{lt-ltb}
use Rattle.meaning.specs.Aggregates.{Atoms}
use Rattle.meaning.specs.Program.{Program, AtomsIn}
use Rattle.meaning.proofs.Tools.{contra}
use Rattle.interpretation.specs.State.{Interpretation}
use Rattle.search.specs.Search.{Problem, passed, failed, State, Outcome, plain, answer, no_answer, go, end, turn, start, solve}
use Rattle.search.specs.Laws.{Laws}
use Rattle.search.proofs.Loop.{Ends, ends_end, ends_go, ends_solve}
use Rattle.search.proofs.Unbounded.{Open, open_start, open_go, open_more, left, open_less}
use Rattle.smaller.specs.Smaller.{second, lacks_one, SmallerIn}
use Rattle.smaller.specs.Cyclic.{has_smaller}
use Rattle.smaller.proofs.Second.{second_laws}
use Rattle.smaller.proofs.Exact.{found_is_smaller, none_is_smaller}
use Rattle.smaller.proofs.Check.{test_quiet, has_smaller_in}
use Rattle.second_search.specs.declared.Turn.TheVariants.{Limit}
use Rattle.second_search.specs.Looking.{turn_of}

-- where one more choice is allowed no limit is met
pub no_limit : (b : Bool) (o : Option ℕ) (l : Bool) → turn_of b o l true ≡ Limit → ⊥
no_limit true o l e = let z : ◌≡◌ {A = ℕ} 0 1 = cc in omega arith
no_limit false (some p) l e = let z : ◌≡◌ {A = ℕ} 0 1 = cc in omega arith
no_limit false none true e = let z : ◌≡◌ {A = ℕ} 0 1 = cc in omega arith
no_limit false none false e = let z : ◌≡◌ {A = ℕ} 0 1 = cc in omega arith

module _ (n : ℕ) (Q : Program) (A : AtomsIn n Q) (X : Atoms) where
  abbrev P : Problem
  P = second Q n X

  abbrev enough : ℕ
  enough = 2 ^ n

  abbrev laws : Laws (SmallerIn n Q X) P
  laws = second_laws n Q A X

  abbrev quiet : (m : ℕ) (Y : Atoms) → (P.test m Y ≡ passed 0) ⊎ (P.test m Y ≡ failed 0)
  quiet m Y = test_quiet (lacks_one n X Y)

  -- the measure
  abbrev pub remains : Interpretation → ℕ
  remains = left (SmallerIn n Q X) P laws quiet

  pub record Stands (s : Interpretation) : Type 0 where
    pub state : State
    pub same : state.interpretation ≡ s
    pub is_open : Open (SmallerIn n Q X) P laws quiet state
    pub ends : (o : Outcome) → Ends P plain enough state o → Ends P plain enough (start P) o

  pub stands_start : (s : Interpretation) → (start P).interpretation ≡ s → Stands s
  stands_start s e = record { state = start P; same = e; is_open = open_start (SmallerIn n Q X) P laws quiet; ends = λ o x. x }

  module _ (s : Interpretation) (S : Stands s) where
    pub stands_more : ltb S.state.choices enough ≡ true
    stands_more = lt-ltb S.state.choices enough (open_more (SmallerIn n Q X) P laws quiet S.state S.is_open)

    module _ (d : State) (e : turn P plain enough S.state ≡ go d) (s' : Interpretation) (f : d.interpretation ≡ s') where
      pub stands_go : Stands s'
      stands_go = record {
        state = d;
        same = f;
        is_open = open_go (SmallerIn n Q X) P laws quiet S.state d S.is_open e;
        ends = λ o x. S.ends o (ends_go P plain enough S.state d o e x);
      }

      pub stands_less : remains s' < remains s
      stands_less =
          subst (λ (i : Interpretation). remains i < remains s) f
          (subst (λ (i : Interpretation). remains d.interpretation < remains i) S.same (open_less (SmallerIn n Q X) P laws quiet S.state S.is_open d e))

    module _ (o : Outcome) (e : turn P plain enough S.state ≡ end o) where
      solved : solve P plain enough ≡ some o
      solved = ends_solve P plain enough o (S.ends o (ends_end P plain enough S.state o e))

      pub finds : (Y : Atoms) → o.result ≡ answer Y → true ≡ has_smaller Q n X
      finds Y f = sym ((has_smaller_in n Q A X).1 (Y, (found_is_smaller n Q A X enough o solved Y f).0))

      pub finds_none : o.result ≡ no_answer → false ≡ has_smaller Q n X
      finds_none f = sym (contra (has_smaller Q n X) {b = false} (λ h. let t = (has_smaller_in n Q A X).0 h in absurd (none_is_smaller n Q A X enough o solved f t.0 t.1)) refl)
