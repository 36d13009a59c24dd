-- Rules and atoms that ask nothing, under the values at hand: to pass over them changes nothing. So a pass that has changed nothing may stop where
-- the rules and atoms left ask nothing.
--   QuietRules    the rules whose places stand in the lists from index i on, before index j, ask nothing
--   QuietAtoms    the atoms above i, below j, ask nothing
-- Assumes nothing.
use Prim.Native.Nat.{ℕ, zero, suc, ◌+◌, ◌-◌, ◌≤◌, ◌<◌}
use native.Mathlib.Omega.{arith}
use mathlib.Core.Path.{◌≡◌, refl, ap, ◌∙◌, subst}
use mathlib.Core.Logic.{◌⊎◌, inl, inr}
use mathlib.Core.Bool.{Bool}
use mathlib.Core.List.{List}
use lib.IntN.{ℤ}
use lib.ListN.{length, get_or}
use Rattle.meaning.proofs.Cond.{lt_case}
use Rattle.interpretation.specs.View.{valued}
use Rattle.interpretation.specs.declared.Interpretation.{Interpretation}
use Rattle.layout.specs.declared.Table.{Table}
use Rattle.layout.specs.Layout.{rule_at, program_of}
use Rattle.steps.specs.Steps.{rule_pass, atom_pass}
use Rattle.rules.specs.declared.Step.TheVariants.{Nothing}
use Rattle.rules.specs.Demand.{demand_of}
use Rattle.support.specs.declared.Ask.TheVariants as ask
use Rattle.support.specs.Asking.{ask_of}
use Rattle.propagation.specs.Propagation.{work}
use Rattle.propagation.proofs.Passing.{rules_at, rules_on, rules_none, atoms_on, atoms_none}
use Rattle.propagation.proofs.Stepped.{rule_nothing, atom_nothing}

-- ---- rules

abbrev pub QuietRules : List ℤ → List ℕ → List ℕ → ℕ → ℕ → Type 0
QuietRules t lists values i j = (k : ℕ) → i ≤ k → k < j → demand_of (valued values) (rule_at t (get_or lists k 0)) ≡ Nothing

module _ (t : List ℤ) (lists : List ℕ) (vs : List ℕ) where
  -- none is left
  pub rules_out : (i j : ℕ) → j ≤ i → QuietRules t lists vs i j
  rules_out i j h k l m = absurd (omega (arith, h, l, m))

  -- one more
  pub rules_more : (i j : ℕ) → QuietRules t lists vs i j → demand_of (valued vs) (rule_at t (get_or lists j 0)) ≡ Nothing → QuietRules t lists vs i (j + 1)
  rules_more i j q e k l m = at (lt_case k j)
    where
      at : (k < j) ⊎ (j ≤ k) → demand_of (valued vs) (rule_at t (get_or lists k 0)) ≡ Nothing
      at (inl h) = q k l h
      at (inr h) = let z : j ≡ k = omega (arith, h, m) in subst (λ (x : ℕ). demand_of (valued vs) (rule_at t (get_or lists x 0)) ≡ Nothing) z e

  -- those before j and those from a place on that is not behind it
  pub rules_join : (i j b e : ℕ) → QuietRules t lists vs i j → QuietRules t lists vs b e → b ≤ j → QuietRules t lists vs i e
  rules_join i j b e q p h k l m = at (lt_case k j)
    where
      at : (k < j) ⊎ (j ≤ k) → demand_of (valued vs) (rule_at t (get_or lists k 0)) ≡ Nothing
      at (inl g) = q k l g
      at (inr g) = p k (omega (arith, h, g)) m

  pub rules_fewer : (i j e : ℕ) → QuietRules t lists vs i e → i ≤ j → QuietRules t lists vs j e
  rules_fewer i j e q h k l m = q k (omega (arith, h, l)) m

module _ (t : List ℤ) (lists : List ℕ) (it : Interpretation) (reasons : List (List ℕ)) (b : Bool) (long : length reasons ≡ 256) (e : ℕ) (fits : e ≤ length lists) where
  quiet_rules_by : (m i : ℕ) → e - i ≡ m → QuietRules t lists it.values i e → rule_pass (rules_at t lists i e) (work it reasons b) ≡ work it reasons b
  quiet_rules_by zero i h q = rules_none t lists i e (work it reasons b) (omega (arith, h))
  quiet_rules_by (suc m) i h q =
      rules_on t lists i e (work it reasons b) (omega (arith, h)) fits
      ∙ ap (rule_pass (rules_at t lists (i + 1) e)) (rule_nothing it reasons b (rule_at t (get_or lists i 0)) long (q i (omega arith) (omega (arith, h)))).same
      ∙ quiet_rules_by m (i + 1) (omega (arith, h)) (rules_fewer t lists it.values i (i + 1) e q (omega arith))

  pub quiet_rules : (i : ℕ) → QuietRules t lists it.values i e → rule_pass (rules_at t lists i e) (work it reasons b) ≡ work it reasons b
  quiet_rules i q = quiet_rules_by (e - i) i refl q

-- ---- atoms

abbrev pub QuietAtoms : List ℤ → Table → List ℕ → ℕ → ℕ → Type 0
QuietAtoms t tb values i j = (q : ℕ) → i < q → q < j → ask_of t tb (valued values) q ≡ ask.Nothing

module _ (t : List ℤ) (tb : Table) (vs : List ℕ) where
  pub atoms_out : (i j : ℕ) → j ≤ suc i → QuietAtoms t tb vs i j
  atoms_out i j h q l m = absurd (omega (arith, h, l, m))

  pub atoms_more : (i j : ℕ) → QuietAtoms t tb vs i j → ask_of t tb (valued vs) j ≡ ask.Nothing → QuietAtoms t tb vs i (j + 1)
  atoms_more i j p e q l m = at (lt_case q j)
    where
      at : (q < j) ⊎ (j ≤ q) → ask_of t tb (valued vs) q ≡ ask.Nothing
      at (inl h) = p q l h
      at (inr h) = let z : j ≡ q = omega (arith, h, m) in subst (λ (x : ℕ). ask_of t tb (valued vs) x ≡ ask.Nothing) z e

  pub atoms_join : (i j b e : ℕ) → QuietAtoms t tb vs i j → QuietAtoms t tb vs b e → b < j → QuietAtoms t tb vs i e
  atoms_join i j b e p r h q l m = at (lt_case q j)
    where
      at : (q < j) ⊎ (j ≤ q) → ask_of t tb (valued vs) q ≡ ask.Nothing
      at (inl g) = p q l g
      at (inr g) = r q (omega (arith, h, g)) m

module _ (t : List ℤ) (tb : Table) (it : Interpretation) (reasons : List (List ℕ)) (b : Bool) (long : length reasons ≡ 256) where
  quiet_atoms_by : (m p : ℕ) → suc tb.atoms - p ≡ m → ((q : ℕ) → p ≤ q → q < suc tb.atoms → ask_of t tb (valued it.values) q ≡ ask.Nothing)
      → atom_pass (program_of t tb) (suc tb.atoms - p) p (work it reasons b) ≡ work it reasons b
  quiet_atoms_by zero p h q = atoms_none (program_of t tb) tb.atoms p (work it reasons b) (omega (arith, h))
  quiet_atoms_by (suc m) p h q =
      atoms_on (program_of t tb) tb.atoms p (work it reasons b) (omega (arith, h))
      ∙ ap (atom_pass (program_of t tb) (suc tb.atoms - (p + 1)) (p + 1)) (atom_nothing it reasons b t tb p long (q p (omega arith) (omega (arith, h)))).same
      ∙ quiet_atoms_by m (p + 1) (omega (arith, h)) (λ r l k. q r (omega (arith, l)) k)

  -- from p on, all above i being quiet
  pub quiet_atoms : (i p : ℕ) → i < p → QuietAtoms t tb it.values i (suc tb.atoms) → atom_pass (program_of t tb) (suc tb.atoms - p) p (work it reasons b) ≡ work it reasons b
  quiet_atoms i p h q = quiet_atoms_by (suc tb.atoms - p) p refl (λ r l k. q r (omega (arith, h, l)) k)
