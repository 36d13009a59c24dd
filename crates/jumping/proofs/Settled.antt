-- What a turn of `search_by` is after its propagation, over plain values: the state that is reached, what is decided there, the level that is opened, and
-- where a conflict leads. Assumes nothing.
use borrow.Author.Tests.{ltb-true}
use native.Mathlib.Omega.{arith}
use native.Mathlib.Numerals.{add-one}
use Prim.Native.Nat.{ℕ, suc, ◌+◌, ◌-◌, ◌≤◌, ◌<◌, max}
use mathlib.Core.Path.{◌≡◌, sym, ap, ◌∙◌, subst}
use mathlib.Core.Bool.{Bool}
use mathlib.Core.Option.{Option, some}
use mathlib.Core.List.{List, [], ◌++◌}
use lib.Dec.{ltb}
use lib.IntN.{ℤ}
use lib.ListN.{length, set}
use Rattle.meaning.specs.Aggregates.{Atoms}
use Rattle.meaning.specs.Cond.{if_eq}
use Rattle.meaning.specs.Program.{Program}
use Rattle.levels.specs.Levels.{Levels, only, without, highest}
use Rattle.levels.specs.View.{row, rows}
use Rattle.levels.proofs.Laws.{rows_set}
use Rattle.interpretation.specs.State.{Interpretation, lowest, true_atoms, opened, jumped}
use Rattle.interpretation.specs.View.{view, cells, choices, valued}
use Rattle.interpretation.specs.declared.Interpretation as code
use Rattle.layout.specs.declared.Table.{Table}
use Rattle.layout.specs.Layout.{Laid}
use Rattle.heads.specs.Heads.{Listed, taking, list_at}
use Rattle.heads.proofs.Taking.{part_in}
use Rattle.outcome.specs.declared.Outcome.{Outcome}
use Rattle.propagation.specs.Propagation.{verdict_by}
use Rattle.propagation.proofs.Handing.{Handed}
use Rattle.search.specs.Search.{Problem, Branch, State, go, jump, settle, turn, choosing, spend, go_back, branches}
use Rattle.search.proofs.Parts.{lowest_some, target_le}
use Rattle.smaller.specs.Cyclic.{test_by}
use Rattle.smaller.proofs.Modes.{test_spends}
use Rattle.turns.specs.declared.Turn.{Turn}
use Rattle.turns.specs.declared.Turn.TheVariants.{Choose, Conflict}
use Rattle.turns.specs.declared.Back.{Back}
use Rattle.turns.specs.declared.Back.TheVariants.{End, Level}
use Rattle.turns.specs.Turns.{turn_of, blamed, back_of, ChosenIn}
use Rattle.jumping.specs.Jumping.{Ordered}
use Rattle.jumping.proofs.States.{problem, config}
use Rattle.jumping.proofs.Ordered.{level_in, propagate_ordered, choice_in}
use Rattle.jumping.proofs.Plans.{plan_alone, lowest_alone}
use Rattle.jumping.proofs.Turns.{turn_is, spent_of, spent≤, atom, says, more, chooses, conflicts, led, goes_back, back_end, back_level}

-- a turn of a table and its lists: it begins with it0, rows0 and these counts, and its propagation hands over it, reasons, why and out, after `made` passes
pub record Turned : Type 0 where
  pub t : List ℤ
  pub tb : Table
  pub cycles : Bool
  pub lists : List ℕ
  pub limit : ℕ
  pub laid : Laid t tb
  pub listed : Listed t tb lists
  pub it0 : code.Interpretation
  pub rows0 : List (List ℕ)
  pub made0 : ℕ
  pub skips0 : ℕ
  pub most0 : ℕ
  pub began_ordered : Ordered tb.atoms (view it0)
  pub made : ℕ
  pub it : code.Interpretation
  pub reasons : List (List ℕ)
  pub why : List ℕ
  pub out : Outcome
  pub h : Handed (taking t lists) tb.atoms it0 rows0 made it reasons why out
  pub passes : ℕ
  pub greatest : passes ≡ max most0 made

module _ (T : Turned) where
  abbrev Q : Program
  Q = taking T.t T.lists

  abbrev P : Problem
  P = problem T.cycles T.t T.tb T.lists

  pub ordered : Ordered T.tb.atoms (view T.it)
  ordered =
      subst (Ordered T.tb.atoms) (sym T.h.state)
      (propagate_ordered T.tb.atoms Q (part_in T.t T.tb T.laid (list_at T.lists 0) T.listed.part.lie) (view T.it0) (rows T.rows0) T.began_ordered)

  -- the depth is what it was, and at most 256
  pub depth : (T.it.depth ≡ T.it0.depth) × (T.it.depth ≤ 256)
  depth =
      let l = level_in T.tb.atoms (view T.it) ordered in
      let f = T.laid.few_atoms in
      (ap (λ (x : Interpretation). x.level) T.h.state, omega arith)

  -- each level's choice atom is one of 1 .. 256
  pub chosen : ChosenIn (choices T.it.chosen T.it.depth) T.it.depth
  chosen l low high = let i = choice_in T.tb.atoms (view T.it) ordered l low high in let f = T.laid.few_atoms in omega (arith, i.2, f)

  -- the state from which the turn began, and that after propagation
  abbrev pub began : List Branch → State
  began g = config T.it0 T.rows0 T.made0 T.skips0 T.most0 g

  abbrev pub reached : List Branch → State
  reached g = config T.it T.reasons T.made0 T.skips0 T.passes g

  pub turned : (g : List Branch) → turn P jump T.limit (began g) ≡ settle P jump T.limit (reached g) (verdict_by T.out (row T.why))
  turned g =
      turn_is P T.limit (began g) (view T.it) (rows T.reasons) (verdict_by T.out (row T.why)) T.passes T.h.state T.h.reasoned T.h.verdict
      (T.greatest ∙ ap (max T.most0) T.h.passes)

  -- ---- what is decided
  module _ (r : Turn) (e : r ≡ turn_of (T.limit - T.made0) T.out (lowest (valued T.it.values) T.tb.atoms) (test_by T.cycles Q T.tb.atoms (T.limit - T.made0) (true_atoms T.tb.atoms (valued T.it.values))) (ltb T.made0 T.limit)) where
    -- by the cells as by the values alone
    pub decides : (g : List Branch) → let d = reached g in
        turn_of (T.limit - T.made0) T.out (atom T.cycles Q T.tb.atoms T.limit d) (says T.cycles Q T.tb.atoms T.limit d) (more T.cycles Q T.tb.atoms T.limit d) ≡ r
    decides g =
        let n = T.tb.atoms in
        let k = T.limit - T.made0 in
        let m = ltb T.made0 T.limit in
        ap (λ (o : Option ℕ). turn_of k T.out o (says T.cycles Q n T.limit (reached g)) m) (lowest_alone n T.it.values T.it.records)
        ∙ ap (λ (X : Atoms). turn_of k T.out (lowest (valued T.it.values) n) (test_by T.cycles Q n k X) m) (plan_alone n T.it.values T.it.records) ∙ sym e

    -- the final test spends no more choices than are left
    pub spends : spent_of r ≤ T.limit - T.made0
    spends =
        let n = T.tb.atoms in
        let k = T.limit - T.made0 in
        let X = true_atoms n (valued T.it.values) in
        spent≤ k T.out _ (test_by T.cycles Q n k X) (ltb T.made0 T.limit) r (test_spends n Q (part_in T.t T.tb T.laid (list_at T.lists 0) T.listed.part.lie) k X T.cycles) (sym e)

  -- ---- the turn opens a level with the atom that was found
  module _ (p : ℕ) (e : Choose p ≡ turn_of (T.limit - T.made0) T.out (lowest (valued T.it.values) T.tb.atoms) (test_by T.cycles Q T.tb.atoms (T.limit - T.made0) (true_atoms T.tb.atoms (valued T.it.values))) (ltb T.made0 T.limit)) where
    pub opens : (g : List Branch) → (turn P jump T.limit (began g) ≡ go (choosing p (reached g))) × (lowest (cells T.it.values T.it.records) T.tb.atoms ≡ some p) × (T.made0 < T.limit)
    opens g =
        let x = chooses T.cycles Q T.tb.atoms T.limit (reached g) T.out (row T.why) p (decides (Choose p) e g) in
        (turned g ∙ x.0, x.1, ltb-true T.made0 T.limit x.2)

    -- the atom lies in the arrays, and so does the level
    pub picked : (1 ≤ p) × (p ≤ 256) × (T.it.depth < 256)
    picked =
        let w = lowest_some (cells T.it.values T.it.records) T.tb.atoms p (opens []).1 in
        let f = ordered.free p w.0 w.2 in
        let z = T.laid.few_atoms in
        let lo = w.0 in
        let hi = w.1 in
        (lo, omega arith, omega arith)

    -- a choice, as a turn
    pub chose : length T.reasons ≡ 256 → (own : List ℕ) → row own ≡ only (T.it.depth + 1) → (next : code.Interpretation) → view next ≡ opened p (view T.it) → (g : List Branch) →
        turn P jump T.limit (began g) ≡ go (config next (set T.reasons (p - 1) own) (T.made0 + 1) T.skips0 T.passes g)
    chose k own o next v g =
        let h0 = picked.0 in
        let h1 = picked.1 in
        let z : rows (set T.reasons (p - 1) own) ≡ (λ (q : ℕ). if_eq q p (only (suc T.it.depth)) (rows T.reasons q)) =
        rows_set T.reasons p own h0 (omega arith)
        ∙ ap (λ (B : Levels). λ (q : ℕ). if_eq q p B (rows T.reasons q)) (o ∙ ap only (add-one T.it.depth)) in
        (opens g).0 ∙ sym (λ i. go (record { interpretation = v i; reason = z i; choices = add-one T.made0 i; skips = T.skips0; passes = T.passes; skipped = g }))

  -- ---- a conflict, of which the final test spent k choices
  module _ (k : ℕ) (e : Conflict k ≡ turn_of (T.limit - T.made0) T.out (lowest (valued T.it.values) T.tb.atoms) (test_by T.cycles Q T.tb.atoms (T.limit - T.made0) (true_atoms T.tb.atoms (valued T.it.values))) (ltb T.made0 T.limit))
      (because : List ℕ) (b : row because ≡ blamed T.out (row T.why) T.it.depth) where
    -- a conflict, as a turn
    pub struck : (r : Back) → r ≡ back_of (choices T.it.chosen T.it.depth) (row because) T.it.depth → (g : List Branch) → turn P jump T.limit (began g) ≡ led (spend k (reached g)) (row because) r
    struck r f g =
        let d = spend k (reached g) in
        turned g
        ∙ conflicts T.cycles Q T.tb.atoms T.limit (reached g) T.out (row T.why) k (decides (Conflict k) e g)
        ∙ ap (λ (C : Levels). go_back d C (highest C T.it.depth)) (sym b)
        ∙ goes_back d (row because) (highest (row because) T.it.depth)
        ∙ ap (led d (row because)) (sym f)

    -- all present levels are skipped
    pub passed : (s : ℕ) → End s ≡ back_of (choices T.it.chosen T.it.depth) (row because) T.it.depth → s ≡ T.it.depth
    passed s f = back_end (choices T.it.chosen T.it.depth) T.it.depth (highest (row because) T.it.depth) s (sym f)

    -- the level, its choice atom and the skips
    module _ (m p s : ℕ) (f : Level m p s ≡ back_of (choices T.it.chosen T.it.depth) (row because) T.it.depth) where
      pub back : (1 ≤ m) × (m ≤ T.it.depth) × (p ≡ choices T.it.chosen T.it.depth m) × (s ≡ T.it.depth - m) × (1 ≤ p) × (p ≤ 256) × (T.it.depth ≤ 256)
      back =
          let C = row because in
          let x = back_level (choices T.it.chosen T.it.depth) T.it.depth (highest C T.it.depth) (target_le jump C T.it.depth) m p s (sym f) in
          let q = x.2 in
          let j = choice_in T.tb.atoms (view T.it) ordered m x.0 x.1 in
          let j1 = j.1 in
          let j2 = j.2 in
          let w = T.laid.few_atoms in
          (x.0, x.1, q, x.3, omega (arith, q, j1), omega (arith, q, j2, w), depth.1)

      -- the branches that are known to be jumped over then
      abbrev pub over : List Branch → List Branch
      over g = branches (choices T.it.chosen T.it.depth) m T.it.depth ++ g

      -- the jump, as a turn
      pub jumps : length T.reasons ≡ 256 → (left : List ℕ) → row left ≡ without m (row because) → (next : code.Interpretation) → view next ≡ jumped (m - 1) (view T.it) → (g : List Branch) →
          turn P jump T.limit (began g) ≡ go (config next (set T.reasons (p - 1) left) (T.made0 + k) (T.skips0 + s) T.passes (over g))
      jumps len left o next v g =
          let x = back in
          let lo = x.4 in
          let hi = x.5 in
          let C = row because in
          let z : rows (set T.reasons (p - 1) left) ≡ (λ (q : ℕ). if_eq q p (without m C) (rows T.reasons q)) =
          rows_set T.reasons p left lo (omega arith)
          ∙ ap (λ (B : Levels). λ (q : ℕ). if_eq q p B (rows T.reasons q)) o in
          let y : T.made0 + k ≡ k + T.made0 = omega arith in
          struck (Level m p s) f g
          ∙ sym (λ i. go (record { interpretation = v i; reason = z i; choices = y i; skips = T.skips0 + s; passes = T.passes; skipped = over g }))
