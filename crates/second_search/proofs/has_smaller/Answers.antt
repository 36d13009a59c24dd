-- `second_search::has_smaller` meets its contract. The invariant: the interpretation is that of a state of the second search with a limit that it never meets; the measure is of
-- the interpretation alone. Assumes nothing.
use Prim.Native.Nat.{ℕ, suc, ◌-◌, ◌^◌, ◌≤◌, ◌<◌}
use native.Mathlib.Omega.{arith}
use mathlib.Core.Path.{◌≡◌, sym, ap, ◌∙◌, subst}
use mathlib.Core.Bool.{Bool, true, false}
use mathlib.Core.List.{List, map}
use lib.ListN.{replicate, length-replicate}
use Rattle.meaning.specs.Aggregates.{Atoms}
use Rattle.meaning.specs.Program.{Program, AtomsIn}
use Rattle.meaning.specs.Answers.{reduct}
use Rattle.interpretation.specs.State.{Interpretation, lowest, true_atoms}
use Rattle.interpretation.specs.View.{valued}
use Rattle.interpretation.proofs.Laws.{cells_blank, choices_none}
use Rattle.layout.specs.Layout.{rule_at}
use Rattle.heads.proofs.Taking.{part_in}
use Rattle.steps.specs.Steps.{passes}
use Rattle.search.specs.Search.{Next, plain, propagated, turn, opened_as, jumped_as}
use Rattle.smaller.specs.Smaller.{second, lacks_one}
use Rattle.smaller.specs.Cyclic.{has_smaller}
use Rattle.second_search.specs.Looking.{Like, record_at, cells_at, view_of, work_of, turn_of, start_of}
use Rattle.second_search.specs.declared.Turn.{Turn}
use Rattle.second_search.specs.declared.Turn.TheVariants.{Smaller, Choose, Back}
use Rattle.second_search.proofs.Ordered.{Ordered, ordered_start}
use Rattle.second_search.proofs.Turns.{Leads, turned}
use Rattle.second_search.proofs.Standing.{remains, Stands, stands_start, stands_more, stands_go, stands_less, finds, finds_none}
use Rattle.second_search.proofs.Facing as facing
use Rattle.second_search.proofs.has_smaller.Goals as goal

-- ---- one turn

module _ (Q : Program) (n : ℕ) (X : Atoms) (vs ls xs : List ℕ) (d : ℕ) (us ks : List ℕ) (changed conflicting : Bool)
    (m : Like (work_of d (cells_at us ks) changed conflicting) (passes (reduct Q X) 0 (suc n) (work_of d (cells_at vs ls) false false)))
    (A : AtomsIn n Q) (O : Ordered n (view_of vs ls xs d)) (S : Stands n Q A X (view_of vs ls xs d)) where
  abbrev next : Next
  next = turn (second Q n X) plain (2 ^ n) S.state

  abbrev Decided : Turn → Type 0
  Decided t = t ≡ turn_of conflicting (lowest (valued us) n) (lacks_one n X (true_atoms n (valued us))) true

  leads : (t : Turn) → Decided t → Leads n (2 ^ n) (propagated (second Q n X) S.state) t next
  leads t e =
      turned Q n (2 ^ n) X vs ls xs d us ks changed conflicting m S.state S.same t
      (e ∙ ap (turn_of conflicting (lowest (valued us) n) (lacks_one n X (true_atoms n (valued us)))) (sym (stands_more n Q A X (view_of vs ls xs d) S)))

  smaller : Decided Smaller → true ≡ has_smaller Q n X
  smaller e = let t = leads Smaller e in finds n Q A X (view_of vs ls xs d) S t.0 t.1 t.2.0 t.2.1

  picked : (p : ℕ) → Decided (Choose p) → facing.Picked Q n (2 ^ n) X vs ls xs d us ks changed conflicting m S.state S.same A O p
  picked p e = facing.picked Q n (2 ^ n) X vs ls xs d us ks changed conflicting m S.state S.same A O p (leads (Choose p) e)

  -- the next turn begins at s
  record Goes (s : Interpretation) : Type 0 where
    ordered : Ordered n s
    stands : Stands n Q A X s
    less : remains n Q A X s < remains n Q A X (view_of vs ls xs d)

  opens : (p : ℕ) → Decided (Choose p) → (s : Interpretation) → s ≡ opened_as false p (view_of us ks xs d) → Goes s
  opens p e s f =
      let x = leads (Choose p) e in
      let g = facing.opened_is Q n (2 ^ n) X vs ls xs d us ks changed conflicting m S.state S.same A O p x s f in
      record {
        ordered = facing.opened_ordered Q n (2 ^ n) X vs ls xs d us ks changed conflicting m S.state S.same A O p x s f;
        stands = stands_go n Q A X (view_of vs ls xs d) S x.0 x.1 s g;
        less = stands_less n Q A X (view_of vs ls xs d) S x.0 x.1 s g;
      }

  stops : Decided Back → d ≡ 0 → false ≡ has_smaller Q n X
  stops e z =
      let y = facing.stops Q n (2 ^ n) X vs ls xs d us ks changed conflicting m S.state S.same A O (leads Back e) z in
      finds_none n Q A X (view_of vs ls xs d) S y.0 y.1 y.2

  flips : Decided Back → 1 ≤ d → (s : Interpretation) → s ≡ jumped_as true (d - 1) (view_of us ks xs d) → Goes s
  flips e k s f =
      let x = leads Back e in
      let y = facing.steps Q n (2 ^ n) X vs ls xs d us ks changed conflicting m S.state S.same A O x k s f in
      record {
        ordered = facing.flipped_ordered Q n (2 ^ n) X vs ls xs d us ks changed conflicting m S.state S.same A O x k s f;
        stands = stands_go n Q A X (view_of vs ls xs d) S y.0 y.1 s y.2;
        less = stands_less n Q A X (view_of vs ls xs d) S y.0 y.1 s y.2;
      }

-- ---- the goals

pub start-requires : goal.start-requires
start-requires c = (c.args.t.now.laid.few_atoms, (length-replicate {A = ℕ} 256 0, length-replicate {A = ℕ} 256 0), cells_blank 256 (map record_at (replicate 256 0)))

pub loop-p-init : goal.loop-p-init
loop-p-init c =
    let a = c.args in
    let Y = true_atoms a.t.now.places.atoms (valued a.candidate.now) in
    let B = part_in a.t.now.words.now a.t.now.places c.args.t.now.laid a.places.now c.requires.0 in
    let e : view_of c.start.new.values c.start.new.levels (replicate 256 0) 0 ≡ start_of a.t.now.places.atoms Y = λ t. record { level = 0; choice = choices_none (replicate 256 0) t; cell = c.start.ensures.1 t } in (
      c.start.ensures.0,
      length-replicate {A = ℕ} 256 0,
      subst (Ordered a.t.now.places.atoms) (sym e) (ordered_start a.t.now.places.atoms Y),
      (B, stands_start a.t.now.places.atoms (map (rule_at a.t.now.words.now) a.places.now) B Y _ (sym e)),
    )

pub returns-in-Smaller : goal.returns-in-Smaller
returns-in-Smaller c =
    let a = c.args in let l = c.loop-p in let q = c.propagate-made in
    smaller (map (rule_at a.t.now.words.now) a.places.now) a.t.now.places.atoms (true_atoms a.t.now.places.atoms (valued a.candidate.now)) l.values l.levels l.chosen l.depth q.new.values q.new.levels q.result.changed q.result.conflict
    q.ensures.1 l.invariant.3.0 l.invariant.2 l.invariant.3.1 (sym c.in-Smaller.is ∙ c.decide-turn.ensures)

pub opened-depth-requires : goal.opened-depth-requires
opened-depth-requires c =
    let a = c.args in let l = c.loop-p in let q = c.propagate-made in
    let h =
    picked (map (rule_at a.t.now.words.now) a.places.now) a.t.now.places.atoms (true_atoms a.t.now.places.atoms (valued a.candidate.now)) l.values l.levels l.chosen l.depth q.new.values q.new.levels q.result.changed q.result.conflict
    q.ensures.1 l.invariant.3.0 l.invariant.2 l.invariant.3.1 c.in-Choose.p (sym c.in-Choose.is ∙ c.decide-turn.ensures) in
    let w = c.args.t.now.laid.few_atoms in
    let i = h.inside in
    let j = h.deeper in
    (h.above, omega (arith, w, i), omega (arith, w, i, j), q.ensures.0, l.invariant.1)

pub loop-p-smaller-in-Choose : goal.loop-p-smaller-in-Choose
loop-p-smaller-in-Choose c =
    let a = c.args in let l = c.loop-p in let q = c.propagate-made in
    (opens (map (rule_at a.t.now.words.now) a.places.now) a.t.now.places.atoms (true_atoms a.t.now.places.atoms (valued a.candidate.now)) l.values l.levels l.chosen l.depth q.new.values q.new.levels q.result.changed q.result.conflict
    q.ensures.1 l.invariant.3.0 l.invariant.2 l.invariant.3.1 c.in-Choose.p (sym c.in-Choose.is ∙ c.decide-turn.ensures)
    (view_of c.opened-depth.new.values c.opened-depth.new.levels c.opened-depth.new.chosen c.opened-depth.result) c.opened-depth.ensures.2).less

pub loop-p-preserved-in-Choose : goal.loop-p-preserved-in-Choose
loop-p-preserved-in-Choose c =
    let a = c.args in let l = c.loop-p in let q = c.propagate-made in
    let g =
    opens (map (rule_at a.t.now.words.now) a.places.now) a.t.now.places.atoms (true_atoms a.t.now.places.atoms (valued a.candidate.now)) l.values l.levels l.chosen l.depth q.new.values q.new.levels q.result.changed q.result.conflict
    q.ensures.1 l.invariant.3.0 l.invariant.2 l.invariant.3.1 c.in-Choose.p (sym c.in-Choose.is ∙ c.decide-turn.ensures)
    (view_of c.opened-depth.new.values c.opened-depth.new.levels c.opened-depth.new.chosen c.opened-depth.result) c.opened-depth.ensures.2 in
    (c.opened-depth.ensures.0, c.opened-depth.ensures.1, g.ordered, (l.invariant.3.0, g.stands))

pub returns-then-depth-eq0 : goal.returns-then-depth-eq0
returns-then-depth-eq0 c =
    let a = c.args in let l = c.loop-p in let q = c.propagate-made in
    stops (map (rule_at a.t.now.words.now) a.places.now) a.t.now.places.atoms (true_atoms a.t.now.places.atoms (valued a.candidate.now)) l.values l.levels l.chosen l.depth q.new.values q.new.levels q.result.changed q.result.conflict
    q.ensures.1 l.invariant.3.0 l.invariant.2 l.invariant.3.1 (sym c.in-Back.is ∙ c.decide-turn.ensures) c.if-depth-eq0.true

pub loop-p-smaller : goal.loop-p-smaller
loop-p-smaller c =
    let a = c.args in let l = c.loop-p in let q = c.propagate-made in
    let h = c.if-depth-eq0.false in
    (flips (map (rule_at a.t.now.words.now) a.places.now) a.t.now.places.atoms (true_atoms a.t.now.places.atoms (valued a.candidate.now)) l.values l.levels l.chosen l.depth q.new.values q.new.levels q.result.changed q.result.conflict
    q.ensures.1 l.invariant.3.0 l.invariant.2 l.invariant.3.1 (sym c.in-Back.is ∙ c.decide-turn.ensures) (omega (arith, h))
    (view_of c.flipped-depth.new.values c.flipped-depth.new.levels l.chosen c.flipped-depth.result) c.flipped-depth.ensures.1).less

pub loop-p-preserved : goal.loop-p-preserved
loop-p-preserved c =
    let a = c.args in let l = c.loop-p in let q = c.propagate-made in
    let h = c.if-depth-eq0.false in
    let g =
    flips (map (rule_at a.t.now.words.now) a.places.now) a.t.now.places.atoms (true_atoms a.t.now.places.atoms (valued a.candidate.now)) l.values l.levels l.chosen l.depth q.new.values q.new.levels q.result.changed q.result.conflict
    q.ensures.1 l.invariant.3.0 l.invariant.2 l.invariant.3.1 (sym c.in-Back.is ∙ c.decide-turn.ensures) (omega (arith, h))
    (view_of c.flipped-depth.new.values c.flipped-depth.new.levels l.chosen c.flipped-depth.result) c.flipped-depth.ensures.1 in
    (c.flipped-depth.ensures.0, l.invariant.1, g.ordered, (l.invariant.3.0, g.stands))

pub flipped-depth-requires : goal.flipped-depth-requires
flipped-depth-requires c =
    let l = c.loop-p in
    let w = c.args.t.now.laid.few_atoms in
    let k : 1 ≤ l.depth = omega (arith, c.if-depth-eq0.false) in
    let i = l.invariant.2.inside l.depth k (omega arith) in
    let a = i.0 in
    let b = i.1 in
    (k, omega (arith, w, a, b), omega (arith, k, a), omega (arith, w, b), c.propagate-made.ensures.0)
