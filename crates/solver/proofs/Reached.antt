-- Of the states that the search of an accepted table really reaches, in either mode: a conflict's reason names only present levels, so that the level to which the search jumps is the
-- highest in the reason (01: "m, the highest in C"), and it is 0 exactly where the reason is empty; and the passes always end by themselves ("Passes repeat until one
-- changes nothing or a conflict ends it"): the fuel of their definition is never spent. Assumes nothing.
use mathlib.Core.Path.{◌≡◌, refl, ◌∙◌, ap, subst}
use mathlib.Core.Logic.{◌↔◌}
use mathlib.Core.Bool.{Bool, true, false}
use mathlib.Core.List.{List, []}
use Prim.Native.Nat.{ℕ, zero, suc, ◌-◌, ◌≤◌}
use native.Mathlib.Omega.{arith}
use lib.IntN.{ℤ}
use Rattle.meaning.specs.Program.{AtomsIn}
use Rattle.meaning.specs.Answers.{AnswerSet}
use Rattle.levels.specs.Levels.{Levels, highest}
use Rattle.levels.proofs.Laws.{highest_zero, highest_stop, highest_on}
use Rattle.steps.specs.Steps.{conflict, passes, begin, Stopped}
use Rattle.steps.proofs.Ending.{passes_end}
use Rattle.search.specs.Search.{Problem, Mode, jump, State, start}
use Rattle.search.specs.Laws.{Laws, Within}
use Rattle.smaller.specs.Cyclic.{base_by}
use Rattle.smaller.proofs.Modes.{mode_base_laws}
use Rattle.search.proofs.Limit.{LeadsTo, here, on}
use Rattle.search.proofs.Parts.{target_max}
use Rattle.search.proofs.Sound.{StateInv, GoodNext, turn_good, start_good}
use Rattle.table.specs.Contents.{Contents, program}
use Rattle.table.proofs.Accepted.{accepted_atoms}
use Rattle.judging.specs.declared.Buffer.{Buffer}
use Rattle.judging.specs.Refusals.{AcceptedBy}
use Rattle.judging.proofs.Refusals.{heads_free}

-- a highest level that is not 0 is in the set
highest_in_lem : (C : Levels) (k : ℕ) → 1 ≤ highest C k → C (highest C k) ≡ true
highest_in_lem C zero h = absurd (let z = highest_zero C 0 refl in omega arith)
highest_in_lem C (suc k) h = at (C (suc k)) refl (highest_in_lem C k)
  where
    e : suc k - 1 ≡ k
    e = omega arith

    at : (b : Bool) → C (suc k) ≡ b → (1 ≤ highest C k → C (highest C k) ≡ true) → C (highest C (suc k)) ≡ true
    at true i ih = ap C (highest_stop C (suc k) (omega arith) i) ∙ i
    at false i ih =
        let u : highest C (suc k) ≡ highest C k = highest_on C (suc k) (omega arith) i ∙ ap (highest C) e in
        ap C u ∙ ih (omega arith)

module _ (cycles : Bool) (t : List ℤ) (b : Buffer) (c : Contents) (h : AcceptedBy cycles t b c) where
  abbrev Q : Problem
  Q = base_by cycles (program c) c.atoms

  inside : AtomsIn c.atoms (program c)
  inside = accepted_atoms t c h.holds

  L : Laws (AnswerSet (program c)) Q
  L = mode_base_laws cycles c.atoms (program c) inside (heads_free t b c h) h.no_aggregate

  module _ (mode : Mode) (lim : ℕ) where
    abbrev Kept : State → Type 0
    Kept s = StateInv (AnswerSet (program c)) Q lim [] 0 s

    led : (d s : State) → LeadsTo Q mode lim d s → Kept s → Kept d
    unfolding GoodNext
    led d s (here e) G = subst Kept e G
    led d s (on {e = x} u m) G = led d x m (subst (GoodNext (AnswerSet (program c)) Q lim [] 0) u (turn_good (AnswerSet (program c)) Q lim [] 0 L mode s G))

    -- a state to which turns of the search lead from the start
    module _ (s : State) (m : LeadsTo Q mode lim s (start Q)) where
      kept : Kept s
      kept = led s (start Q) m (start_good (AnswerSet (program c)) Q lim L)

      module _ (C : Levels) (e : (Q.propagate s.interpretation s.reason).verdict ≡ conflict C) where
        pub reason_present : Within C s.interpretation.level
        reason_present = (L.conflict_reason _ (λ X a. a.0) s.interpretation s.reason kept.inv C e).1

        pub jump_highest : (l : ℕ) → C l ≡ true → l ≤ highest C s.interpretation.level
        jump_highest l i = (target_max jump C s.interpretation.level reason_present l i).1

        pub jump_named : 1 ≤ highest C s.interpretation.level → C (highest C s.interpretation.level) ≡ true
        jump_named = highest_in_lem C s.interpretation.level

        pub jump_none : (highest C s.interpretation.level ≡ 0) ↔ ((l : ℕ) → C l ≡ false)
        jump_none = (λ z l. at z l (C l) refl, λ n. none n (highest C s.interpretation.level) refl)
          where
            at : highest C s.interpretation.level ≡ 0 → (l : ℕ) → (v : Bool) → C l ≡ v → C l ≡ false
            at z l true i = absurd (let u = (reason_present l i).0 in let w = jump_highest l i in omega arith)
            at z l false i = i

            none : ((l : ℕ) → C l ≡ false) → (k : ℕ) → highest C s.interpretation.level ≡ k → highest C s.interpretation.level ≡ 0
            none n zero i = i
            none n (suc k) i = absurd (let u = jump_named (omega arith) in let v = n (highest C s.interpretation.level) in let z : ◌≡◌ {A = ℕ} 0 1 = cc in omega arith)

      pub passes_stop : Stopped (program c) c.atoms (passes (program c) c.atoms (suc c.atoms) (begin s.interpretation s.reason))
      passes_stop = passes_end c.atoms (program c) inside (begin s.interpretation s.reason)
