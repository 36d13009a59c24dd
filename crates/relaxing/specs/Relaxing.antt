-- What to give up when no plan exists (02, request 13). Definitions only: to be believed.
--   headed             "the rules that have a head"; the others are the constraints
--   rules_of P kept     the rules of a trial: those that have a head, and the constraints whose numbers are kept, in table order
--   Keeps P kept       "offer the constraints in table order; keep each one with which a plan still exists": said with answer sets, no computation
--   trial b n lim Q    "Each trial has the given limit": the defined search over the rules Q, in the mode b of the call (request 14: true where it takes head cycles)
--   offer, relax_by     the same by trials: "if one reaches it the call ends with limit. If the rules with heads alone have no answer set, it ends with none"
--   dropped_of          "the dropped rules' numbers, ascending"
-- Assumes nothing.
use Rattle.std.specs.Prelude.{◌≡◌, Bool, true, false, cond, not, ◌||◌, List, [], ◌∷◌, ℕ, suc}
use Rattle.std.proofs.Math.Option.{Option, none, some}
use Rattle.meaning.specs.Lists.{Is, cons_if}
use Rattle.meaning.specs.Cond.{if_lt, if_eq}
use Rattle.meaning.specs.Aggregates.{Atoms}
use Rattle.meaning.specs.Program.{Rule, Program}
use Rattle.meaning.specs.Answers.{AnswerSet}
use Rattle.numbered.specs.Numbered.{Numbered}
use Rattle.search.specs.Search.{jump, Result, answer, no_answer, limit, Outcome, solve}
use Rattle.smaller.specs.Cyclic.{base_by}

abbrev pub some_in : List ℕ → Bool
some_in [] = false
some_in (p ∷ l) = true

-- "A rule with an empty head is a constraint"
abbrev pub headed : Rule → Bool
headed r = some_in r.head

unfoldable pub rules_from : (ℕ → Bool) → ℕ → Program → Program
rules_from kept i [] = []
rules_from kept i (r ∷ P) = cons_if (headed r || kept i) r (rules_from kept (suc i) P)

abbrev pub rules_of : Program → (ℕ → Bool) → Program
rules_of P kept = rules_from kept 1 P

unfoldable pub dropped_from : (ℕ → Bool) → ℕ → Program → List ℕ
dropped_from kept i [] = []
dropped_from kept i (r ∷ P) = cons_if (not (headed r || kept i)) i (dropped_from kept (suc i) P)

abbrev pub dropped_of : Program → (ℕ → Bool) → List ℕ
dropped_of P kept = dropped_from kept 1 P

-- ---- which constraints are kept

abbrev pub none_kept : ℕ → Bool
none_kept = λ i. false

abbrev pub with_number : ℕ → (ℕ → Bool) → ℕ → Bool
with_number i kept = λ j. if_eq j i true (kept j)

abbrev pub kept_before : ℕ → (ℕ → Bool) → ℕ → Bool
kept_before i kept = λ j. if_lt j i (kept j) false

-- the rules with which constraint i is offered: those with heads, the constraints kept before it, and itself
abbrev pub offered_rules : Program → (ℕ → Bool) → ℕ → Program
offered_rules P kept i = rules_of P (with_number i (kept_before i kept))

pub record Keeps (P : Program) (kept : ℕ → Bool) : Type 0 where
  pub only : (i : ℕ) → Is (kept i) → (r : Rule) × Numbered P i r × (headed r ≡ false)
  pub keeps : (i : ℕ) (r : Rule) → Numbered P i r → headed r ≡ false → Is (kept i) → (X : Atoms) × AnswerSet (offered_rules P kept i) X
  pub drops : (i : ℕ) (r : Rule) → Numbered P i r → headed r ≡ false → kept i ≡ false → (X : Atoms) → AnswerSet (offered_rules P kept i) X → ⊥

-- ---- by trials

pub data Trial : Type 0 where
  found : Atoms → Trial
  nothing stopped : Trial

-- the numbers of the constraints kept and the plan; or an end that writes nothing
pub data Relaxed : Type 0 where
  relaxed : (ℕ → Bool) → Atoms → Relaxed
  no_plan at_limit : Relaxed

abbrev pub by_result : Result → Trial
by_result (answer X) = found X
by_result no_answer = nothing
by_result limit = stopped

-- the search always ends (`search_ends`), so the first clause is never met
abbrev pub by_outcome : Option Outcome → Trial
by_outcome none = stopped
by_outcome (some o) = by_result o.result

unfoldable pub trial : Bool → ℕ → ℕ → Program → Trial
trial cycles n lim Q = by_outcome (solve (base_by cycles Q n) jump lim)

-- what follows a trial: with the plan found, with none, at the limit
abbrev pub after : (Atoms → Relaxed) → Relaxed → Trial → Relaxed
after plan without (found X) = plan X
after plan without nothing = without
after plan without stopped = at_limit

-- the rules from number i on are still to be offered
unfoldable pub offer : (Program → Trial) → Program → (ℕ → Bool) → Atoms → ℕ → Program → Relaxed
offer try P kept plan i [] = relaxed kept plan
offer try P kept plan i (r ∷ rest) =
    let on = offer try P kept plan (suc i) rest in
    let offered = after (λ X. offer try P (with_number i kept) X (suc i) rest) on (try (rules_of P (with_number i kept))) in
    cond (headed r) on offered

unfoldable pub relax_by : (Program → Trial) → Program → Relaxed
relax_by try P = after (λ X. offer try P none_kept X 1 P) no_plan (try (rules_of P none_kept))

abbrev pub relax : Bool → ℕ → ℕ → Program → Relaxed
relax cycles n lim P = relax_by (trial cycles n lim) P
