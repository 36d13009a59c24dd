-- One turn of the loops of `look` and `has_smaller`, over the values alone: what propagation, a choice and a step back leave. Assumes nothing.
--   same, ordered, depth_is   the interpretation after propagation, in order, at the present level
--   Picked, picked            the atom that is chosen: the lowest undefined, above the present level
--   opened_is, flipped_is     the interpretation after a choice, and after a step back
--   stops, steps              a step back at level 0 ends the search; above it goes on
--   room                      what a step back asks of the indices
use Prim.Native.Nat.{ℕ, suc, ◌-◌, ◌≤◌, ◌<◌}
use native.Mathlib.Omega.{arith}
use mathlib.Core.Path.{◌≡◌, sym, ◌∙◌, ap, subst}
use mathlib.Core.Bool.{Bool, true, false}
use mathlib.Core.Option.{some}
use mathlib.Core.List.{List}
use Rattle.meaning.specs.Aggregates.{Atoms}
use Rattle.meaning.specs.Program.{Program, AtomsIn}
use Rattle.meaning.specs.Answers.{reduct}
use Rattle.interpretation.specs.State.{Interpretation, lowest}
use Rattle.interpretation.specs.View.{choices}
use Rattle.steps.specs.Steps.{passes}
use Rattle.search.specs.Search.{Problem, State, Outcome, Next, go, end, plain, no_answer, opened_as, jumped_as, propagated, turn}
use Rattle.search.proofs.Parts.{lowest_some}
use Rattle.smaller.specs.Smaller.{second, SmallerIn}
use Rattle.smaller.proofs.Second.{second_laws}
use Rattle.second_search.specs.declared.Turn.TheVariants.{Choose, Back}
use Rattle.second_search.specs.Looking.{Like, cells_at, view_of, work_of}
use Rattle.second_search.proofs.Ordered.{Ordered, level_in, ordered_propagated, ordered_opened, ordered_jumped}
use Rattle.second_search.proofs.Turns.{Leads, back_end, back_go, after_is}

module _ (Q : Program) (n lim : ℕ) (X : Atoms) (vs ls xs : List ℕ) (d : ℕ) (us ks : List ℕ) (changed conflicting : Bool)
    (m : Like (work_of d (cells_at us ks) changed conflicting) (passes (reduct Q X) 0 (suc n) (work_of d (cells_at vs ls) false false))) (c : State) (h : c.interpretation ≡ view_of vs ls xs d)
    (A : AtomsIn n Q) (O : Ordered n (view_of vs ls xs d)) where
  abbrev P : Problem
  P = second Q n X

  abbrev after : State
  after = propagated (second Q n X) c

  abbrev next : Next
  next = turn (second Q n X) plain lim c

  same : after.interpretation ≡ view_of us ks xs d
  same = after_is Q n lim X vs ls xs d us ks changed conflicting m c h

  pub ordered : Ordered n (view_of us ks xs d)
  ordered =
      subst (Ordered n) same
      (ordered_propagated (SmallerIn n Q X) P (second_laws n Q A X) n c.interpretation c.reason (subst (Ordered n) (sym h) O))

  depth_is : after.interpretation.level ≡ d
  depth_is = ap (λ (s : Interpretation). s.level) same

  -- ---- a choice

  pub record Picked (p : ℕ) : Type 0 where
    pub above : 1 ≤ p
    pub inside : p ≤ n
    pub deeper : d < p
    pub atom : lowest (cells_at us ks) n ≡ some p

  module _ (p : ℕ) (x : Leads n lim after (Choose p) next) where
    pub picked : Picked p
    picked =
        let e : lowest (cells_at us ks) n ≡ some p = ap (λ (s : Interpretation). lowest s.cell n) (sym same) ∙ x.4 in
        let w = lowest_some (cells_at us ks) n p e in
        record { above = w.0; inside = w.1; deeper = ordered.free p w.0 w.2; atom = e }

    module _ (s : Interpretation) (e : s ≡ opened_as false p (view_of us ks xs d)) where
      pub opened_is : x.0.interpretation ≡ s
      opened_is = x.2 ∙ ap (opened_as false p) same ∙ sym e

      pub opened_ordered : Ordered n s
      opened_ordered = subst (Ordered n) (sym e) (ordered_opened n false (view_of us ks xs d) ordered p picked.atom)

  -- ---- a step back

  pub record Room : Type 0 where
    pub above : 1 ≤ d
    pub few : d ≤ n
    pub atom : 1 ≤ choices xs d d
    pub inside : choices xs d d ≤ n

  pub room : 1 ≤ d → Room
  room k =
      let t = ordered.inside d k (omega arith) in
      let t0 = t.0 in
      record { above = k; few = level_in n (view_of us ks xs d) ordered; atom = omega arith; inside = t.1 }

  module _ (x : Leads n lim after Back next) where
    pub stops : d ≡ 0 → (o : Outcome) × (next ≡ end o) × (o.result ≡ no_answer) × (o.choices ≡ c.choices)
    stops z =
        let y = back_end after x.0 after.interpretation.level (depth_is ∙ z) in
        (y.0, x.1 ∙ y.1, y.2, y.3)

    module _ (k : 1 ≤ d) (s : Interpretation) (e : s ≡ jumped_as true (d - 1) (view_of us ks xs d)) where
      pub steps : (b : State) × (next ≡ go b) × (b.interpretation ≡ s) × (b.choices ≡ c.choices)
      steps =
          let z = depth_is in
          let y = back_go after x.0 after.interpretation.level (omega arith) in
          (y.0, x.1 ∙ y.1, y.2 ∙ ap (λ (i : Interpretation). jumped_as true (i.level - 1) i) same ∙ sym e, y.3)

      pub flipped_ordered : Ordered n s
      flipped_ordered = subst (Ordered n) (sym e) (ordered_jumped n true (view_of us ks xs d) ordered (d - 1) (omega arith))
