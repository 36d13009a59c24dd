-- `second_search::look` meets its contract. The invariant of its loop: whatever the defined second search ends with from the present state, with reasons that the code
-- does not keep, it ends with from the start; the interpretation is `Ordered`, which gives every index. The measure is that of the defined search.
-- Assumes nothing.
use borrow.Author.Tests.{ltb-true}
use Prim.Native.Nat.{ℕ, suc, ◌+◌, ◌-◌, ◌*◌, ◌≤◌, ◌<◌}
use native.Mathlib.Omega.{arith}
use native.Mathlib.Numerals.{add-one}
use mathlib.Core.Path.{◌≡◌, refl, sym, ap, ◌∙◌, subst}
use mathlib.Core.Bool.{Bool, true, false}
use mathlib.Core.List.{List, map}
use lib.Dec.{ltb}
use lib.ListN.{replicate, length-replicate}
use Rattle.meaning.specs.Aggregates.{Atoms}
use Rattle.meaning.specs.Program.{Program, AtomsIn}
use Rattle.meaning.specs.Answers.{reduct}
use Rattle.interpretation.specs.State.{Interpretation, lowest, true_atoms}
use Rattle.interpretation.specs.View.{valued}
use Rattle.interpretation.proofs.Laws.{cells_blank, choices_none}
use Rattle.layout.specs.Layout.{rule_at}
use Rattle.heads.proofs.Taking.{part_in}
use Rattle.steps.specs.Steps.{passes}
use Rattle.search.specs.Search.{Problem, State, Outcome, Next, passed, failed, exhausted, end, plain, propagated, turn, opened_as, jumped_as}
use Rattle.search.specs.Search as theory
use Rattle.search.specs.Second.{second_by, second_verdict}
use Rattle.search.proofs.Fuel.{turn_less}
use Rattle.search.proofs.Loop.{ends_end, ends_go, ends_solve}
use Rattle.smaller.specs.Smaller.{second, lacks_one, smaller_test}
use Rattle.second_search.specs.Looking.{Like, record_at, cells_at, view_of, work_of, turn_of, start_of}
use Rattle.second_search.specs.declared.Turn.{Turn}
use Rattle.second_search.specs.declared.Turn.TheVariants.{Smaller, Limit, Choose, Back}
use Rattle.second_search.proofs.Counting.{Stands}
use Rattle.second_search.proofs.Ordered.{Ordered, ordered_start}
use Rattle.second_search.proofs.Turns.{Leads, turned, measured}
use Rattle.second_search.proofs.Facing as facing
use Rattle.second_search.proofs.look.Goals as goal

-- ---- one turn

module _ (Q : Program) (n : ℕ) (X : Atoms) (vs ls xs : List ℕ) (d : ℕ) (us ks : List ℕ) (changed conflicting : Bool)
    (m : Like (work_of d (cells_at us ks) changed conflicting) (passes (reduct Q X) 0 (suc n) (work_of d (cells_at vs ls) false false)))
    (lim k : ℕ) (A : AtomsIn n Q) (O : Ordered n (view_of vs ls xs d)) (S : Stands (second Q n X) lim (view_of vs ls xs d) k) where
  abbrev P : Problem
  P = second Q n X

  abbrev next : Next
  next = turn (second Q n X) plain lim S.state

  abbrev Decided : Turn → Type 0
  Decided t = t ≡ turn_of conflicting (lowest (valued us) n) (lacks_one n X (true_atoms n (valued us))) (ltb k lim)

  leads : (t : Turn) → Decided t → Leads n lim (propagated (second Q n X) S.state) t next
  leads t e =
      turned Q n lim X vs ls xs d us ks changed conflicting m S.state S.same t
      (e ∙ ap (λ (j : ℕ). turn_of conflicting (lowest (valued us) n) (lacks_one n X (true_atoms n (valued us))) (ltb j lim)) (sym S.count))

  -- what the test says where the search ends with o
  says : (o : Outcome) → next ≡ end o → second_by o.choices o.result ≡ smaller_test Q n lim X
  says o e = sym (ap second_verdict (ends_solve P plain lim o (S.ends o (ends_end P plain lim S.state o e))))

  smaller : Decided Smaller → failed k ≡ smaller_test Q n lim X
  smaller e =
      let t = leads Smaller e in
      let o = t.0 in
      ap failed (sym (t.3 ∙ S.count)) ∙ ap (second_by o.choices) (sym t.2.1) ∙ says o t.1

  limited : Decided Limit → exhausted ≡ smaller_test Q n lim X
  limited e =
      let t = leads Limit e in
      let o = t.0 in
      ap (second_by o.choices) (sym t.2) ∙ says o t.1

  picked : (p : ℕ) → Decided (Choose p) → facing.Picked Q n lim X vs ls xs d us ks changed conflicting m S.state S.same A O p
  picked p e = facing.picked Q n lim X vs ls xs d us ks changed conflicting m S.state S.same A O p (leads (Choose p) e)

  -- one more choice is allowed
  more : (p : ℕ) → Decided (Choose p) → k < lim
  more p e =
      let g = ltb-true S.state.choices lim (leads (Choose p) e).5 in
      let f = S.count in
      omega (arith, g, f)

  -- the next turn begins at s, with j choices spent
  record Goes (s : Interpretation) (j : ℕ) : Type 0 where
    ordered : Ordered n s
    stands : Stands (second Q n X) lim s j
    less : (lim - j) * suc n + s.level < (lim - k) * suc n + d

  goes : (s : Interpretation) (j : ℕ) (b : State) → next ≡ theory.go b → b.interpretation ≡ s → b.choices ≡ j → Ordered n s → Goes s j
  goes s j b e f g o = record {
    ordered = o;
    stands = record { state = b; same = f; count = g; ends = λ x y. S.ends x (ends_go P plain lim S.state b x e y) };
    less =
        measured P lim S.state b k d j s.level S.count (ap (λ (i : Interpretation). i.level) S.same) g (ap (λ (i : Interpretation). i.level) f)
        (turn_less P plain lim S.state b e);
  }

  opens : (p : ℕ) → Decided (Choose p) → (s : Interpretation) → s ≡ opened_as false p (view_of us ks xs d) → Goes s (k + 1)
  opens p e s f =
      let x = leads (Choose p) e in
      goes s (k + 1) x.0 x.1 (facing.opened_is Q n lim X vs ls xs d us ks changed conflicting m S.state S.same A O p x s f)
      (x.3 ∙ ap suc S.count ∙ sym (add-one k))
      (facing.opened_ordered Q n lim X vs ls xs d us ks changed conflicting m S.state S.same A O p x s f)

  stops : Decided Back → d ≡ 0 → passed k ≡ smaller_test Q n lim X
  stops e z =
      let y = facing.stops Q n lim X vs ls xs d us ks changed conflicting m S.state S.same A O (leads Back e) z in
      let o = y.0 in
      ap passed (sym (y.3 ∙ S.count)) ∙ ap (second_by o.choices) (sym y.2) ∙ says o y.1

  flips : Decided Back → 1 ≤ d → (s : Interpretation) → s ≡ jumped_as true (d - 1) (view_of us ks xs d) → Goes s k
  flips e h s f =
      let x = leads Back e in
      let y = facing.steps Q n lim X vs ls xs d us ks changed conflicting m S.state S.same A O x h s f in
      goes s k y.0 y.1 y.2 (y.3 ∙ S.count) (facing.flipped_ordered Q n lim X vs ls xs d us ks changed conflicting m S.state S.same A O x h s f)

-- ---- the goals

pub start-requires : goal.start-requires
start-requires c = (c.args.t.now.laid.few_atoms, (length-replicate {A = ℕ} 256 0, length-replicate {A = ℕ} 256 0), cells_blank 256 (map record_at (replicate 256 0)))

pub loop-p-init : goal.loop-p-init
loop-p-init c =
    let a = c.args in
    let Y = true_atoms a.t.now.places.atoms (valued a.candidate.now) in
    let e : view_of c.start.new.values c.start.new.levels (replicate 256 0) 0 ≡ start_of a.t.now.places.atoms Y = λ t. record { level = 0; choice = choices_none (replicate 256 0) t; cell = c.start.ensures.1 t } in (
      c.start.ensures.0,
      length-replicate {A = ℕ} 256 0,
      subst (Ordered a.t.now.places.atoms) (sym e) (ordered_start a.t.now.places.atoms Y),
      omega arith,
      record { state = theory.start (second (map (rule_at a.t.now.words.now) a.places.now) a.t.now.places.atoms Y); same = sym e; count = refl; ends = λ o x. x },
    )

pub returns-in-Smaller : goal.returns-in-Smaller
returns-in-Smaller c =
    let a = c.args in let l = c.loop-p in let q = c.propagate-made in
    smaller (map (rule_at a.t.now.words.now) a.places.now) a.t.now.places.atoms (true_atoms a.t.now.places.atoms (valued a.candidate.now)) l.values l.levels l.chosen l.depth q.new.values q.new.levels q.result.changed q.result.conflict
    q.ensures.1 a.left l.choices (part_in a.t.now.words.now a.t.now.places c.args.t.now.laid a.places.now c.requires.0) l.invariant.2 l.invariant.4 (sym c.in-Smaller.is ∙ c.decide-turn.ensures)

pub returns-in-Limit : goal.returns-in-Limit
returns-in-Limit c =
    let a = c.args in let l = c.loop-p in let q = c.propagate-made in
    limited (map (rule_at a.t.now.words.now) a.places.now) a.t.now.places.atoms (true_atoms a.t.now.places.atoms (valued a.candidate.now)) l.values l.levels l.chosen l.depth q.new.values q.new.levels q.result.changed q.result.conflict
    q.ensures.1 a.left l.choices (part_in a.t.now.words.now a.t.now.places c.args.t.now.laid a.places.now c.requires.0) l.invariant.2 l.invariant.4 (sym c.in-Limit.is ∙ c.decide-turn.ensures)

pub opened-depth-requires : goal.opened-depth-requires
opened-depth-requires c =
    let a = c.args in let l = c.loop-p in let q = c.propagate-made in
    let h =
    picked (map (rule_at a.t.now.words.now) a.places.now) a.t.now.places.atoms (true_atoms a.t.now.places.atoms (valued a.candidate.now)) l.values l.levels l.chosen l.depth q.new.values q.new.levels q.result.changed q.result.conflict
    q.ensures.1 a.left l.choices (part_in a.t.now.words.now a.t.now.places c.args.t.now.laid a.places.now c.requires.0) l.invariant.2 l.invariant.4 c.in-Choose.p (sym c.in-Choose.is ∙ c.decide-turn.ensures) in
    let w = c.args.t.now.laid.few_atoms in
    let i = h.inside in
    let j = h.deeper in
    (h.above, omega (arith, w, i), omega (arith, w, i, j), q.ensures.0, l.invariant.1)

pub loop-p-smaller-in-Choose : goal.loop-p-smaller-in-Choose
loop-p-smaller-in-Choose c =
    let a = c.args in let l = c.loop-p in let q = c.propagate-made in
    (opens (map (rule_at a.t.now.words.now) a.places.now) a.t.now.places.atoms (true_atoms a.t.now.places.atoms (valued a.candidate.now)) l.values l.levels l.chosen l.depth q.new.values q.new.levels q.result.changed q.result.conflict
    q.ensures.1 a.left l.choices (part_in a.t.now.words.now a.t.now.places c.args.t.now.laid a.places.now c.requires.0) l.invariant.2 l.invariant.4 c.in-Choose.p (sym c.in-Choose.is ∙ c.decide-turn.ensures)
    (view_of c.opened-depth.new.values c.opened-depth.new.levels c.opened-depth.new.chosen c.opened-depth.result) c.opened-depth.ensures.2).less

pub loop-p-preserved-in-Choose : goal.loop-p-preserved-in-Choose
loop-p-preserved-in-Choose c =
    let a = c.args in let l = c.loop-p in let q = c.propagate-made in
    let g =
    opens (map (rule_at a.t.now.words.now) a.places.now) a.t.now.places.atoms (true_atoms a.t.now.places.atoms (valued a.candidate.now)) l.values l.levels l.chosen l.depth q.new.values q.new.levels q.result.changed q.result.conflict
    q.ensures.1 a.left l.choices (part_in a.t.now.words.now a.t.now.places c.args.t.now.laid a.places.now c.requires.0) l.invariant.2 l.invariant.4 c.in-Choose.p (sym c.in-Choose.is ∙ c.decide-turn.ensures)
    (view_of c.opened-depth.new.values c.opened-depth.new.levels c.opened-depth.new.chosen c.opened-depth.result) c.opened-depth.ensures.2 in
    let f =
    more (map (rule_at a.t.now.words.now) a.places.now) a.t.now.places.atoms (true_atoms a.t.now.places.atoms (valued a.candidate.now)) l.values l.levels l.chosen l.depth q.new.values q.new.levels q.result.changed q.result.conflict
    q.ensures.1 a.left l.choices (part_in a.t.now.words.now a.t.now.places c.args.t.now.laid a.places.now c.requires.0) l.invariant.2 l.invariant.4 c.in-Choose.p (sym c.in-Choose.is ∙ c.decide-turn.ensures) in
    (c.opened-depth.ensures.0, c.opened-depth.ensures.1, g.ordered, omega (arith, f), g.stands)

pub returns-then-depth-eq0 : goal.returns-then-depth-eq0
returns-then-depth-eq0 c =
    let a = c.args in let l = c.loop-p in let q = c.propagate-made in
    stops (map (rule_at a.t.now.words.now) a.places.now) a.t.now.places.atoms (true_atoms a.t.now.places.atoms (valued a.candidate.now)) l.values l.levels l.chosen l.depth q.new.values q.new.levels q.result.changed q.result.conflict
    q.ensures.1 a.left l.choices (part_in a.t.now.words.now a.t.now.places c.args.t.now.laid a.places.now c.requires.0) l.invariant.2 l.invariant.4 (sym c.in-Back.is ∙ c.decide-turn.ensures) c.if-depth-eq0.true

pub loop-p-smaller : goal.loop-p-smaller
loop-p-smaller c =
    let a = c.args in let l = c.loop-p in let q = c.propagate-made in
    let h = c.if-depth-eq0.false in
    (flips (map (rule_at a.t.now.words.now) a.places.now) a.t.now.places.atoms (true_atoms a.t.now.places.atoms (valued a.candidate.now)) l.values l.levels l.chosen l.depth q.new.values q.new.levels q.result.changed q.result.conflict
    q.ensures.1 a.left l.choices (part_in a.t.now.words.now a.t.now.places c.args.t.now.laid a.places.now c.requires.0) l.invariant.2 l.invariant.4 (sym c.in-Back.is ∙ c.decide-turn.ensures) (omega (arith, h))
    (view_of c.flipped-depth.new.values c.flipped-depth.new.levels l.chosen c.flipped-depth.result) c.flipped-depth.ensures.1).less

pub loop-p-preserved : goal.loop-p-preserved
loop-p-preserved c =
    let a = c.args in let l = c.loop-p in let q = c.propagate-made in
    let h = c.if-depth-eq0.false in
    let g =
    flips (map (rule_at a.t.now.words.now) a.places.now) a.t.now.places.atoms (true_atoms a.t.now.places.atoms (valued a.candidate.now)) l.values l.levels l.chosen l.depth q.new.values q.new.levels q.result.changed q.result.conflict
    q.ensures.1 a.left l.choices (part_in a.t.now.words.now a.t.now.places c.args.t.now.laid a.places.now c.requires.0) l.invariant.2 l.invariant.4 (sym c.in-Back.is ∙ c.decide-turn.ensures) (omega (arith, h))
    (view_of c.flipped-depth.new.values c.flipped-depth.new.levels l.chosen c.flipped-depth.result) c.flipped-depth.ensures.1 in
    (c.flipped-depth.ensures.0, l.invariant.1, g.ordered, l.invariant.3, g.stands)
