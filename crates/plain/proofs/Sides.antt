-- What the two parts of the engine hand back, as the engine of crate `search` says it.
--   tried            a side: propagation, and then a choice
--   conflict-side, tested-all, at-limit, first_ends, other-side      what a choice comes to
--   fewer            a choice leaves fewer atoms undefined; propagation leaves no more (`no_more`)
--   passes-test, fails-test, limit-test                              the final test;  spends: it spends no more choices than are left
--   found_outcome    what the side of no choice at all holds is what the plain search ends with
-- Assumes nothing.
use Prim.Native.Nat.{ℕ, suc, ◌+◌, ◌-◌, ◌≤◌, ◌<◌}
use native.Mathlib.Omega.{arith}
use mathlib.Core.Path.{◌≡◌, refl, sym, ◌∙◌, ap, subst}
use mathlib.Core.Logic.{◌≢◌}
use mathlib.Core.Bool.{Bool, true, false}
use mathlib.Core.Option.{none, some}
use mathlib.Core.List.{List, []}
use lib.IntN.{ℤ}
use lib.ListN.{replicate}
use Rattle.meaning.specs.Aggregates.{Atoms}
use Rattle.meaning.specs.Answers.{AnswerSet}
use Rattle.meaning.specs.Program.{Program, AtomsIn}
use Rattle.meaning.proofs.Cond.{if_lt_yes, if_lt_no}
use Rattle.interpretation.specs.State.{Cell, undefined, defined, Interpretation, put, set_at, lowest, true_atoms, with_cells}
use Rattle.interpretation.specs.View.{cell_value, valued}
use Rattle.interpretation.proofs.Laws.{cells_blank}
use Rattle.levels.specs.Levels.{no_levels}
use Rattle.results.specs.declared.Counts.{Counts}
use Rattle.std.specs.Prelude.{Ok}
use Rattle.results.specs.declared.Solved.{Solved}
use Rattle.results.specs.declared.Solved.TheVariants as solved
use Rattle.results.specs.Results.{kind_of, counts_of}
use Rattle.layout.specs.declared.Table.{Table}
use Rattle.layout.specs.Layout.{program_of}
use Rattle.steps.specs.Steps as steps
use Rattle.steps.specs.Steps.{Verdict, is_settled, Propagated, passes, begin, propagate}
use Rattle.search.specs.Search.{Tested, passed, failed, exhausted, Problem, Result, limit, Outcome, opened_as, plain, start, solve}
use Rattle.search.specs.Laws.{Laws}
use Rattle.search.specs.Engine as engine
use Rattle.search.specs.Engine.{Tried, nothing, halted, no_reasons, by_test, or_other, opens, goes_on, tries}
use Rattle.smaller.specs.Cyclic.{test_by, base_by}
use Rattle.smaller.proofs.Modes.{spent_by, test_spends}
use Rattle.search.proofs.Engine.{engine_right}
use Rattle.search.proofs.Theorems.{limit_is_reached}
use Rattle.search.proofs.Parts.{lowest_some}
use Rattle.search.proofs.Struct.{propagate_str}
use Rattle.promises.specs.Plans.{plan_with}
use Rattle.promises.specs.Promises.{solved_by, plan_after}
use Rattle.plain.specs.declared.passes.Side.{Side}
use Rattle.plain.specs.Promise.{plain_counts}
use Rattle.plain.specs.Passes.{Alike, Like, bare, verdict_by, work_of, Comes, undefined_to}
use Rattle.plain.specs.Plain.{result_by, choices_by, Told, Sided, Chosen, Tests}
use Rattle.plain.proofs.Liking.{put_alike, propagated_cells, propagated_verdict}
use Rattle.plain.proofs.Undefined.{undefined_top, undefined_alike, undefined_put, undefined_keeps}
use Rattle.plain.proofs.Stepping.{free_of}
use Rattle.plain.proofs.Alone.{goes_alike, tries_alike}

-- ---- what is told of a side that holds nothing, and of one that holds something

module _ (n lim : ℕ) (old new : List ℕ) (r : Solved) where
  told_nothing : (e : Tried) → Told n lim e old new r → (c : Counts) → r ≡ solved.Nothing c → (e ≡ nothing c.choices) × (new ≡ old)
  told_nothing (engine.plan X k) T c z = absurd (let h : ◌≡◌ {A = ℕ} 0 1 = ap (λ (s : Solved). kind_of (Ok s)) (sym T.result ∙ z) in omega arith)
  told_nothing (nothing k) T c z = (ap (λ (s : Solved). nothing (counts_of (Ok s)).choices) (sym T.result ∙ z), T.plan)
  told_nothing halted T c z = absurd (let h : ◌≡◌ {A = ℕ} 2 1 = ap (λ (s : Solved). kind_of (Ok s)) (sym T.result ∙ z) in omega arith)

  or_first : (e : Tried) (other : ℕ → Tried) → Told n lim e old new r → kind_of (Ok r) ≢ 1 → or_other e other ≡ e
  or_first (engine.plan X k) other T m = refl
  or_first (nothing k) other T m = absurd (m (ap (λ (s : Solved). kind_of (Ok s)) T.result))
  or_first halted other T m = refl

-- in either mode
module _ (cycles : Bool) (t : List ℤ) (tb : Table) (lim : ℕ) where
  abbrev P : Program
  P = program_of t tb

  abbrev n : ℕ
  n = tb.atoms

  abbrev B : Problem
  B = base_by cycles (program_of t tb) tb.atoms

  -- ---- a side: propagation, and then a choice

  module _ (side s : Side) (calm : side.conflict ≡ false) (S : Comes side s (passes (program_of t tb) tb.atoms (suc tb.atoms) (work_of side))) where
    abbrev after : Propagated
    after = propagate P n (bare side.values) no_reasons

    abbrev at : Interpretation
    at = with_cells (bare side.values) after.cell

    begun : Like (work_of s) (passes P n (suc n) (begin (bare side.values) no_reasons))
    begun =
        subst (λ (v : Verdict). Like (work_of s) (passes P n (suc n) (record { level = 0; cell = valued side.values; reason = no_reasons; verdict = v; changed = false }))) (ap verdict_by calm) S.like

    cells : Alike (valued s.values) after.cell
    cells = propagated_cells P n (bare side.values) no_reasons (work_of s) begun

    tries_suc : (u : ℕ) → tries B lim (suc u) (bare side.values) side.choices ≡ goes_on B lim (tries B lim u) at side.choices after.verdict
    unfolding tries
    tries_suc u = refl

    tries_on : (u : ℕ) → 0 < u → tries B lim u (bare side.values) side.choices ≡ goes_on B lim (tries B lim (u - 1)) at side.choices after.verdict
    tries_on u h = let e : u ≡ suc (u - 1) = omega arith in ap (λ (m : ℕ). tries B lim m (bare side.values) side.choices) e ∙ tries_suc (u - 1)

    -- propagation leaves no more atoms undefined
    pub no_more : AtomsIn n P → undefined_to n (valued s.values) ≤ undefined_to n (valued side.values)
    no_more A =
        let e = undefined_alike (valued s.values) after.cell cells n in
        let h = undefined_keeps (valued side.values) after.cell (λ p v l z. (v, l, (propagate_str (bare side.values) no_reasons P n A).cells p v l z)) n in
        omega arith

    goes : (u : ℕ) → 0 < u
        → goes_on B lim (tries B lim (u - 1)) (bare s.values) s.choices (verdict_by s.conflict) ≡ tries B lim u (bare side.values) side.choices
    goes u h =
        ap (λ (k : ℕ). goes_on B lim (tries B lim (u - 1)) (bare s.values) k (verdict_by s.conflict)) S.kept
        ∙ goes_alike cycles P n lim (u - 1) (tries_alike cycles P n lim (u - 1)) (bare s.values) at side.choices cells (verdict_by s.conflict) after.verdict
        (propagated_verdict P n (bare side.values) no_reasons (work_of s) begun)
        ∙ sym (tries_on u h)

    pub tried : AtomsIn n P → (old new : List ℕ) (r : Solved) → Chosen cycles t tb lim s old new r → Sided cycles t tb lim side old new r
    tried A old new r C = record {
      says = λ u h.
          (let l = no_more A in
          subst (λ (e : Tried). Told n lim e old new r) (goes u (omega arith)) (C.says (u - 1) (omega arith)));
      few = C.few;
    }

  -- ---- a choice

  module _ (side : Side) (old new : List ℕ) (r : Solved) where
    -- by whether propagation met a conflict
    chosen : (b : Bool) → side.conflict ≡ b
        → ((u : ℕ) → undefined_to n (valued side.values) ≤ u → Told n lim (goes_on B lim (tries B lim u) (bare side.values) side.choices (verdict_by b)) old new r)
        → (counts_of (Ok r)).choices ≤ lim → Chosen cycles t tb lim side old new r
    chosen b e f few = record {
      says = λ u h. subst (λ (c : Bool). Told n lim (goes_on B lim (tries B lim u) (bare side.values) side.choices (verdict_by c)) old new r) (sym e) (f u h);
      few = few;
    }

  module _ (side : Side) where
    abbrev k : ℕ
    k = side.choices

    abbrev opening : ℕ → Tried
    opening u = opens B lim (tries B lim u) (bare side.values) side.choices (lowest (valued side.values) n)

    pub conflict_side : side.conflict ≡ true → side.choices ≤ lim → (old : List ℕ) (c : Counts) → c ≡ plain_counts side.choices → Chosen cycles t tb lim side old old (solved.Nothing c)
    conflict_side z few old c e =
        chosen side old old (solved.Nothing c) true z (λ u h. record { result = ap solved.Nothing e; plan = refl }) (subst (λ (x : Counts). x.choices ≤ lim) (sym e) few)

    pub tested_all : side.conflict ≡ false → lowest (valued side.values) n ≡ none → (old new : List ℕ) (r : Solved) → Tests cycles t tb lim side.values side.choices old new r
        → Chosen cycles t tb lim side old new r
    tested_all z l old new r T =
        chosen side old new r false z
        (λ u h. subst (λ (e : Tried). Told n lim e old new r) (ap (opens B lim (tries B lim u) (bare side.values) side.choices) (sym l)) T.says)
        T.few

    module _ (z : side.conflict ≡ false) (p : ℕ) (l : lowest (valued side.values) n ≡ some p) where
      abbrev sides : ℕ → Tried
      sides u = or_other (tries B lim u (opened_as true p (bare side.values)) (suc k)) (λ m. tries B lim u (set_at p false (bare side.values)) m)

      opened : (u : ℕ) → k < lim → opening u ≡ sides u
      opened u h = ap (opens B lim (tries B lim u) (bare side.values) k) l ∙ if_lt_yes k lim (sides u) halted h

      pub at_limit_lem : lim ≤ side.choices → side.choices ≤ lim → (old : List ℕ) (c : Counts) → c ≡ plain_counts side.choices → Chosen cycles t tb lim side old old (solved.Limit c)
      at_limit_lem h few old c e =
          let y : side.choices ≡ lim = omega arith in
          chosen side old old (solved.Limit c) false z
          (λ u g.
          subst (λ (x : Tried). Told n lim x old old (solved.Limit c)) (sym (ap (opens B lim (tries B lim u) (bare side.values) k) l ∙ if_lt_no k lim (sides u) halted h))
          (record { result = ap solved.Limit (e ∙ ap plain_counts y); plan = refl }))
          (subst (λ (x : Counts). x.choices ≤ lim) (sym e) few)

      low : (1 ≤ p) × (p ≤ n) × (valued side.values p ≡ undefined)
      low = let x = lowest_some (valued side.values) n p l in (x.0, x.1, x.2)

      -- the side on which atom p is v: fewer atoms are undefined
      module _ (v : Bool) (s : Side) (S : Like (work_of s) (steps.set p v no_levels (work_of side))) where
        pub fewer : undefined_to n (valued s.values) < undefined_to n (valued side.values)
        fewer =
            let e = undefined_alike (valued s.values) (put p (defined v 0) (valued side.values)) S.cells n in
            let h = undefined_put n (valued side.values) p v 0 (low.0, low.1) low.2 in
            omega arith

        -- it has met no conflict yet
        pub calm_still : s.conflict ≡ false
        calm_still = free_of s (steps.set p v no_levels (work_of side)) S (ap verdict_by z)

        alike : (m : ℕ) → Alike (put p (defined v m) (valued side.values)) (valued s.values)
        alike m q = put_alike p v m 0 (valued side.values) (valued side.values) (λ q. refl) q ∙ sym (S.cells q)

      module _ (h : side.choices < lim) (yes : Side) (S : Like (work_of yes) (steps.set p true no_levels (work_of side))) (one : yes.choices ≡ side.choices + 1)
          (old mid : List ℕ) (first : Solved) (F : Sided cycles t tb lim yes old mid first) where
        first_side : (u : ℕ) → tries B lim u (opened_as true p (bare side.values)) (suc k) ≡ tries B lim u (bare yes.values) yes.choices
        first_side u =
            let e : suc k ≡ yes.choices = omega arith in
            tries_alike cycles P n lim u (opened_as true p (bare side.values)) (bare yes.values) (suc k) (alike true yes S 1) ∙ ap (tries B lim u (bare yes.values)) e

        by_first : (u : ℕ) → undefined_to n (valued side.values) ≤ u → Told n lim (tries B lim u (bare yes.values) yes.choices) old mid first
        by_first u g = let f = fewer true yes S in F.says u (omega arith)

        first_then : (u : ℕ) → opening u ≡ or_other (tries B lim u (bare yes.values) yes.choices) (λ m. tries B lim u (set_at p false (bare side.values)) m)
        first_then u = opened u h ∙ ap (λ (x : Tried). or_other x (λ m. tries B lim u (set_at p false (bare side.values)) m)) (first_side u)

        -- the first side ends the search
        pub first_ends : kind_of (Ok first) ≢ 1 → Chosen cycles t tb lim side old mid first
        first_ends m =
            chosen side old mid first false z
            (λ u g.
            (let T = by_first u g in
            subst (λ (x : Tried). Told n lim x old mid first)
            (sym (first_then u ∙ or_first n lim old mid first (tries B lim u (bare yes.values) yes.choices) (λ m. tries B lim u (set_at p false (bare side.values)) m) T m)) T))
            F.few

        -- nothing on the first side: the buffer is as it was, and the other one is tried
        module _ (c : Counts) (i : first ≡ solved.Nothing c) where
          nothing_first : (u : ℕ) → undefined_to n (valued side.values) ≤ u → (tries B lim u (bare yes.values) yes.choices ≡ nothing c.choices) × (mid ≡ old)
          nothing_first u g = told_nothing n lim old mid first (tries B lim u (bare yes.values) yes.choices) (by_first u g) c i

          pub as_was : mid ≡ old
          as_was = (nothing_first (undefined_to n (valued side.values)) (omega arith)).1

          pub few_first : c.choices ≤ lim
          few_first = subst (λ (x : Solved). (counts_of (Ok x)).choices ≤ lim) i F.few

          pub other_side : (nay : Side) → Like (work_of nay) (steps.set p false no_levels (work_of side)) → nay.choices ≡ c.choices → (new : List ℕ) (second : Solved) → Sided cycles t tb lim nay mid new second
              → Chosen cycles t tb lim side old new second
          other_side nay N same new second G =
              chosen side old new second false z
              (λ u g.
              (let f = fewer false nay N in
              subst (λ (x : Tried). Told n lim x old new second)
              (sym
              (first_then u ∙ ap (λ (x : Tried). or_other x (λ m. tries B lim u (set_at p false (bare side.values)) m)) (nothing_first u g).0
              ∙ tries_alike cycles P n lim u (set_at p false (bare side.values)) (bare nay.values) c.choices (alike false nay N 0)
              ∙ ap (tries B lim u (bare nay.values)) (sym same)))
              (subst (λ (b : List ℕ). Told n lim (tries B lim u (bare nay.values) nay.choices) b new second) as_was (G.says u (omega arith)))))
              G.few

-- ---- the final test

module _ (cycles : Bool) (t : List ℤ) (tb : Table) (A : AtomsIn tb.atoms (program_of t tb)) (lim : ℕ) (values : List ℕ) (choices : ℕ) (few : choices ≤ lim) where
  abbrev X : Atoms
  X = true_atoms tb.atoms (valued values)

  abbrev said : Tested
  said = test_by cycles (program_of t tb) tb.atoms (lim - choices) X

  -- what the test spends was left
  pub spends : (x : Tested) → said ≡ x → choices + spent_by x ≤ lim
  spends x z = let h = subst (λ (y : Tested). spent_by y ≤ lim - choices) z (test_spends tb.atoms (program_of t tb) A (lim - choices) X cycles) in omega arith

  module _ (old : List ℕ) (c : Counts) where
    -- what is told by the test's result
    tests : (x : Tested) → said ≡ x → (new : List ℕ) (r : Solved) → Told tb.atoms lim (by_test X choices x) old new r → (counts_of (Ok r)).choices ≤ lim → Tests cycles t tb lim values choices old new r
    tests x z new r T h = record { says = subst (λ (y : Tested). Told tb.atoms lim (by_test X choices y) old new r) (sym z) T; few = h }

    pub passes_test : (k : ℕ) → said ≡ passed k → c ≡ plain_counts (choices + k) → (new : List ℕ) → new ≡ plan_with tb.atoms X old → Tests cycles t tb lim values choices old new (solved.Answer c)
    passes_test k z e new w =
        let g : choices + k ≡ k + choices = omega arith in
        tests (passed k) z new (solved.Answer c) (record { result = ap solved.Answer (e ∙ ap plain_counts g); plan = w }) (subst (λ (x : Counts). x.choices ≤ lim) (sym e) (spends (passed k) z))

    pub fails_test : (k : ℕ) → said ≡ failed k → c ≡ plain_counts (choices + k) → Tests cycles t tb lim values choices old old (solved.Nothing c)
    fails_test k z e =
        let g : choices + k ≡ k + choices = omega arith in
        tests (failed k) z old (solved.Nothing c) (record { result = ap solved.Nothing (e ∙ ap plain_counts g); plan = refl }) (subst (λ (x : Counts). x.choices ≤ lim) (sym e) (spends (failed k) z))

    -- the limit stopped the test
    pub limit_test : said ≡ exhausted → c ≡ plain_counts lim → Tests cycles t tb lim values choices old old (solved.Limit c)
    limit_test z e = tests exhausted z old (solved.Limit c) (record { result = ap solved.Limit e; plan = refl }) (subst (λ (x : Counts). x.choices ≤ lim) (sym e) (omega arith))

-- ---- the whole search

says_by : (e : Tried) (p : Outcome) (lim : ℕ) → engine.Says e p → (p.result ≡ limit → p.choices ≡ lim) → (p.result ≡ result_by e) × (p.choices ≡ choices_by lim e)
says_by (engine.plan X k) p lim S reached = S
says_by (nothing k) p lim S reached = S
says_by halted p lim S reached = (S, reached S)

module _ (cycles : Bool) (t : List ℤ) (tb : Table) (lim : ℕ) (L : Laws (AnswerSet (program_of t tb)) (base_by cycles (program_of t tb) tb.atoms)) (side : Side) (blank : side.values ≡ replicate 256 0) (none : side.choices ≡ 0)
    (old new : List ℕ) (r : Solved) (S : Sided cycles t tb lim side old new r) where
  from_start : tries (base_by cycles (program_of t tb) tb.atoms) lim (suc tb.atoms) (bare side.values) side.choices ≡ engine.engine (base_by cycles (program_of t tb) tb.atoms) lim
  unfolding engine.engine
  from_start =
      ap (λ (k : ℕ). tries (base_by cycles (program_of t tb) tb.atoms) lim (suc tb.atoms) (bare side.values) k) none
      ∙ ap (λ (vs : List ℕ). tries (base_by cycles (program_of t tb) tb.atoms) lim (suc tb.atoms) (bare vs) 0) blank
      ∙ tries_alike cycles (program_of t tb) tb.atoms lim (suc tb.atoms) (bare (replicate 256 0)) (start (base_by cycles (program_of t tb) tb.atoms)).interpretation 0
      (λ q. ap (λ (a : ℕ → Cell). cell_value (a q)) (cells_blank 256 []))

  pub found_outcome : (p : Outcome) → solve (base_by cycles (program_of t tb) tb.atoms) plain lim ≡ some p
      → (r ≡ solved_by p.result (plain_counts p.choices)) × (new ≡ plan_after tb.atoms p.result old)
  found_outcome p e =
      let h = undefined_top (valued side.values) tb.atoms in
      let T = S.says (suc tb.atoms) (omega arith) in
      let x = tries (base_by cycles (program_of t tb) tb.atoms) lim (suc tb.atoms) (bare side.values) side.choices in
      let w = says_by x p lim
      (subst (λ (y : Tried). engine.Says y p) (sym from_start) (engine_right (AnswerSet (program_of t tb)) (base_by cycles (program_of t tb) tb.atoms) L lim p e))
      (limit_is_reached (AnswerSet (program_of t tb)) (base_by cycles (program_of t tb) tb.atoms) L lim plain p e) in (
        T.result ∙ sym (ap (λ (y : Result). solved_by y (plain_counts p.choices)) w.0 ∙ ap (λ (k : ℕ). solved_by (result_by x) (plain_counts k)) w.1),
        T.plan ∙ sym (ap (λ (y : Result). plan_after tb.atoms y old) w.0),
      )
