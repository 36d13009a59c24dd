-- A turn of the atom loop of `search_by` is the steps d and e at one atom, and a turn of the loop inside it sets one atom of what step e asks for.
--   SoleRule, sole_rule   the rule that alone supports the atom: it lies in the table and asks for something
--   Aimed, aimed          what step e sets next is an undefined atom of 1 .. N, so it lies in the arrays
--   sets_fewer, sets_on   setting it leaves fewer undefined atoms, and what is left of step e comes to the same
--   Calm2                 what a turn made of the work, and which rules and atoms ask nothing then
--   calm_over, calm_unsets, calm_forces   for the three branches: nothing, unset, sole
-- Assumes nothing.
use Prim.Native.Nat.{ℕ, suc, ◌+◌, ◌-◌, ◌≤◌, ◌<◌}
use native.Mathlib.Omega.{arith}
use mathlib.Core.Path.{◌≡◌, refl, sym, ap, ◌∙◌}
use mathlib.Core.Bool.{Bool, true, false}
use mathlib.Core.Option.{some}
use mathlib.Core.List.{List}
use lib.IntN.{ℤ}
use lib.ListN.{length, get_or, set, length-set}
use Rattle.meaning.proofs.Tools.{number}
use Rattle.levels.specs.Levels.{union}
use Rattle.levels.specs.View.{row, rows}
use Rattle.interpretation.specs.State as state
use Rattle.interpretation.specs.State.{undefined, set_at}
use Rattle.interpretation.specs.View.{view, cells, valued}
use Rattle.interpretation.specs.declared.Interpretation.{Interpretation}
use Rattle.layout.specs.declared.Table.{Table}
use Rattle.layout.specs.Layout.{rule_at, program_of, RuleLies, Laid}
use Rattle.layout.proofs.Inside.{rule_in_lem}
use Rattle.steps.specs.Steps.{step_e, step_atom, atom_pass, Work}
use Rattle.steps.proofs.Ending.{missing}
use Rattle.support.specs.Asking.{ask_of, forced_of, blame_of}
use Rattle.support.specs.declared.Ask.TheVariants as ask
use Rattle.std.specs.Prelude.{Some, None}
use Rattle.support.proofs.Atom.{ask_alone, sole_lies, sole_sets}
use Rattle.support.proofs.Forcing.{forced_alone, forced_open, forced_set}
use Rattle.propagation.specs.Propagation.{work}
use Rattle.propagation.proofs.Falls.{set_fewer}
use Rattle.propagation.proofs.Passing.{atoms_on}
use Rattle.propagation.proofs.Quiet.{QuietRules, QuietAtoms, rules_out, atoms_out, atoms_more}
use Rattle.propagation.proofs.Stepped.{Kept, stored, Stepped, atom_nothing, atom_unsets, atom_forces}

-- ---- the rule that alone supports an atom

pub record SoleRule (t : List ℤ) (tb : Table) (it : Interpretation) (i : ℕ) : Type 0 where
  pub lies : RuleLies tb.atoms tb.aggregates t i
  pub atom : ℕ
  pub sign : Bool
  pub asks : forced_of (cells it.values it.records) (rule_at t i) ≡ Some (atom, sign)

pub sole_rule : (t : List ℤ) (tb : Table) (it : Interpretation) (p i : ℕ) → Laid t tb → ask_of t tb (valued it.values) p ≡ ask.Sole i → SoleRule t tb it i
sole_rule t tb it p i laid h =
    let x = cells it.values it.records in
    let e : ask_of t tb x p ≡ ask.Sole i = ask_alone it.values it.records t tb p ∙ h in
    let s = sole_sets t tb x p i e in
    record { lies = sole_lies t tb x p i e laid; atom = s.0; sign = s.1; asks = s.2 }

-- ---- a turn of step e's loop

pub record Aimed (t : List ℤ) (tb : Table) (it : Interpretation) (i q : ℕ) (v : Bool) : Type 0 where
  pub above : 1 ≤ q
  pub inside : q ≤ tb.atoms
  pub few : q ≤ 256
  pub unset : cells it.values it.records q ≡ undefined
  pub asks : forced_of (cells it.values it.records) (rule_at t i) ≡ Some (q, v)

pub aimed : (t : List ℤ) (tb : Table) (it it0 : Interpretation) (i q : ℕ) (v : Bool) → Laid t tb → SoleRule t tb it0 i → forced_of (valued it.values) (rule_at t i) ≡ Some (q, v) → Aimed t tb it i q v
aimed t tb it it0 i q v laid s h =
    let r = rule_at t i in
    let e : forced_of (cells it.values it.records) r ≡ Some (q, v) = forced_alone r it.values it.records ∙ h in
    let o = forced_open r tb.atoms (rule_in_lem t tb laid i s.lies) (cells it.values it.records) q v e in
    let k = o.0.1 in
    let f = laid.few_atoms in
    record { above = o.0.0; inside = k; few = omega (arith, k, f); unset = o.1; asks = e }

module _ (t : List ℤ) (tb : Table) (it : Interpretation) (i q : ℕ) (v : Bool) (x : Aimed t tb it i q v) (it' : Interpretation) (e : view it' ≡ set_at q v (view it)) where
  pub sets_fewer : number tb.atoms (missing (cells it'.values it'.records)) < number tb.atoms (missing (cells it.values it.records))
  sets_fewer = rw (ap (λ (s : state.Interpretation). s.cell) e) (set_fewer (cells it.values it.records) v it.depth tb.atoms q (x.above, x.inside) x.unset)

  module _ (reasons : List (List ℕ)) (long : length reasons ≡ 256) (why : List ℕ) where
    pub sets_long : length (set reasons (q - 1) why) ≡ 256
    sets_long = simp length-set long

    pub sets_on : step_e (some (rule_at t i)) (row why) (work it' (set reasons (q - 1) why) true) ≡ step_e (some (rule_at t i)) (row why) (work it reasons true)
    sets_on =
        ap (step_e (some (rule_at t i)) (row why)) (sym (stored it it' reasons true q v why (row why) long x.above x.few e refl))
        ∙ sym (forced_set (rule_at t i) (row why) (work it reasons true) q v x.asks)

-- ---- a turn of the atom loop

module _ (t : List ℤ) (tb : Table) (lists : List ℕ) (it : Interpretation) (reasons : List (List ℕ)) (b : Bool) (p : ℕ) where
  -- what the turn came to; which rules and atoms ask nothing then: the atoms passed since the last change, and those beyond the bounds
  pub record Calm2 (it' : Interpretation) (reasons' : List (List ℕ)) (rules_to atoms_to : ℕ) (changed : Bool) (last : ℕ) : Type 0 where
    pub came : Stepped it (step_atom (program_of t tb) p (work it reasons b)) it' reasons' changed
    pub bound : rules_to ≤ get_or lists 1 0
    pub rest : QuietRules t lists it'.values rules_to (get_or lists 1 0)
    pub top : atoms_to ≤ tb.atoms
    pub low : last < p + 1
    pub passed : QuietAtoms t tb it'.values last (p + 1)
    pub above : QuietAtoms t tb it'.values atoms_to (suc tb.atoms)

  pub calm_over : (rules_to atoms_to last : ℕ) → length reasons ≡ 256 → ask_of t tb (valued it.values) p ≡ ask.Nothing
      → rules_to ≤ get_or lists 1 0 → QuietRules t lists it.values rules_to (get_or lists 1 0) → atoms_to ≤ tb.atoms → last < p
      → QuietAtoms t tb it.values last p → QuietAtoms t tb it.values atoms_to (suc tb.atoms) → Calm2 it reasons rules_to atoms_to b last
  calm_over rules_to atoms_to last long e bound rest top low passed above = record {
    came = atom_nothing it reasons b t tb p long e;
    bound = bound;
    rest = rest;
    top = top;
    low = omega (arith, low);
    passed = atoms_more t tb it.values last p passed e;
    above = above;
  }

  -- after a change, whatever it came to
  calm_changed : (it' : Interpretation) (reasons' : List (List ℕ)) → Stepped it (step_atom (program_of t tb) p (work it reasons b)) it' reasons' true → Calm2 it' reasons' (get_or lists 1 0) tb.atoms true p
  calm_changed it' reasons' x = record {
    came = x;
    bound = omega arith;
    rest = rules_out t lists it'.values (get_or lists 1 0) (get_or lists 1 0) (omega arith);
    top = omega arith;
    low = omega arith;
    passed = atoms_out t tb it'.values p (p + 1) (omega arith);
    above = atoms_out t tb it'.values tb.atoms (suc tb.atoms) (omega arith);
  }

  pub calm_unsets : (others : List ℕ) (it' : Interpretation) → row others ≡ blame_of (valued it.values) (rows reasons) p (program_of t tb) → length reasons ≡ 256 → Laid t tb → 1 ≤ p → p ≤ tb.atoms
      → ask_of t tb (valued it.values) p ≡ ask.Unset → view it' ≡ set_at p false (view it) → Calm2 it' (set reasons (p - 1) others) (get_or lists 1 0) tb.atoms true p
  calm_unsets others it' f long laid l h e g =
      let few = laid.few_atoms in
      calm_changed it' (set reasons (p - 1) others) (atom_unsets it reasons b t tb p others it' f long l (omega (arith, h, few)) e g)

  pub calm_forces : (whole : List ℕ) → row whole ≡ union (rows reasons p) (blame_of (valued it.values) (rows reasons) p (program_of t tb)) → Laid t tb
      → (i : ℕ) (it' : Interpretation) (rs : List (List ℕ)) → ask_of t tb (valued it.values) p ≡ ask.Sole i → length rs ≡ 256 → Kept (view it) (view it')
      → step_e (some (rule_at t i)) (row whole) (work it' rs true) ≡ step_e (some (rule_at t i)) (row whole) (work it reasons true)
      → forced_of (valued it'.values) (rule_at t i) ≡ None → Calm2 it' rs (get_or lists 1 0) tb.atoms true p
  calm_forces whole f laid i it' rs e n k z h =
      let s = sole_rule t tb it p i laid e in
      calm_changed it' rs (atom_forces it reasons b t tb p whole f i s.atom s.sign it' rs e s.asks k n z (forced_alone (rule_at t i) it'.values it'.records ∙ h))

  -- what is left of the pass comes to the same
  pub passes_one : p ≤ tb.atoms → (it' : Interpretation) (reasons' : List (List ℕ)) (b' : Bool) → Stepped it (step_atom (program_of t tb) p (work it reasons b)) it' reasons' b' → (z : Work)
      → atom_pass (program_of t tb) (suc tb.atoms - p) p (work it reasons b) ≡ z → atom_pass (program_of t tb) (suc tb.atoms - (p + 1)) (p + 1) (work it' reasons' b') ≡ z
  passes_one h it' reasons' b' x z e =
      ap (atom_pass (program_of t tb) (suc tb.atoms - (p + 1)) (p + 1)) (sym x.same) ∙ sym (atoms_on (program_of t tb) tb.atoms p (work it reasons b) h) ∙ e
