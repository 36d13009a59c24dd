-- What is asked of a rule sets an undefined atom of 1 .. n. Assumes nothing.
use Prim.Native.Nat.{ℕ}
use native.Mathlib.Omega.{arith}
use mathlib.Core.Path.{◌≡◌}
use mathlib.Core.Bool.{Bool, true, false}
use Rattle.meaning.specs.Program.{Rule, In, RuleIn}
use Rattle.interpretation.specs.State.{Cell, undefined}
use Rattle.rules.specs.declared.Step.TheVariants.{Set}
use Rattle.rules.specs.Demand.{demand_of}
use Rattle.rules.proofs.Rule.{demand_open}
use Rattle.second_search.specs.Looking.{asked_of}

pub asked_set : (n : ℕ) (a : ℕ → Cell) (r : Rule) (b : Bool) (p : ℕ) (v : Bool) → RuleIn n r → asked_of b (demand_of a r) ≡ Set p v → (a p ≡ undefined) × In n p
asked_set n a r true p v I e = demand_open n a r p v I e
asked_set n a r false p v I e = absurd (let z : ◌≡◌ {A = ℕ} 0 1 = cc in omega arith)
