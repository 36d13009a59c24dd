-- The demand and the reason of a rule depend on the values alone, and not on the levels kept for the atoms: so the code is lent the values.
-- Assumes nothing.
use Prim.Native.Nat.{ℕ}
use mathlib.Core.Path.{◌≡◌, refl, ap₂, ◌∙◌}
use mathlib.Core.List.{List, [], ◌∷◌, ◌++◌}
use Rattle.meaning.specs.Program.{Rule}
use Rattle.levels.specs.Levels.{Levels}
use Rattle.levels.specs.View.{rows}
use Rattle.interpretation.specs.State.{Cell}
use Rattle.interpretation.specs.View.{cells, valued}
use Rattle.interpretation.specs.declared.Record.{Record}
use Rattle.interpretation.specs.declared.Value.{Value}
use Rattle.valuing.specs.Values.{Lit, value}
use Rattle.valuing.specs.Reasons.{reasons_of}
use Rattle.steps.specs.Steps.{head_lits, body_lits, Work, rule_reason}
use Rattle.literals.proofs.Alone.{value_alone, reasons_alone}
use Rattle.rules.specs.declared.Step.{Step}
use Rattle.rules.specs.Demand.{ask_of, together, asks, denied_lits, demand_of}

-- what literals ask depends on their values
pub asks_same : (a b : ℕ → Cell) → ((x : Lit) → value a x ≡ value b x) → (s : List Lit) → asks a s ≡ asks b s
unfolding asks
asks_same a b h [] = refl
asks_same a b h (x ∷ s) = ap₂ (λ (v : Value) (d : Step). together (ask_of v x) d) (h x) (asks_same a b h s)

pub demand_alone : (vs : List ℕ) (recs : List Record) (r : Rule) → demand_of (cells vs recs) r ≡ demand_of (valued vs) r
unfolding demand_of
demand_alone vs recs r = asks_same (cells vs recs) (valued vs) (value_alone vs recs) (denied_lits r ++ body_lits r)

-- the reason that the code forms is the one of steps a to c
pub rule_reason_lem : (r : Rule) (w : Work) (vs : List ℕ) (recs : List Record) (rs : List (List ℕ)) → w.cell ≡ cells vs recs → w.reason ≡ rows rs
    → rule_reason r w ≡ reasons_of (valued vs) (rows rs) (head_lits r ++ body_lits r)
rule_reason_lem r w vs recs rs e f =
    ap₂ (λ (a : ℕ → Cell) (R : ℕ → Levels). reasons_of a R (head_lits r ++ body_lits r)) e f
    ∙ reasons_alone vs recs (rows rs) (head_lits r ++ body_lits r)
