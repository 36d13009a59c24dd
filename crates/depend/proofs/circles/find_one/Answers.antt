-- `depend::circles::find_one` meets its contract. Assumes nothing.
use borrow.Author.Rules.{rules}
use mathlib.Core.Path.{◌≡◌, sym, ap, ◌∙◌, subst}
use mathlib.Core.Logic.{◌⊎◌, inl, inr}
use mathlib.Core.Bool.{Bool, false}
use mathlib.Core.List.{List}
use Prim.Native.Nat.{ℕ, suc, ◌+◌, ◌-◌, ◌<◌}
use native.Mathlib.Omega.{arith}
use lib.ListN.{length, get_or, take}
use Rattle.meaning.specs.Lists.{Is}
use Rattle.meaning.specs.Program.{In, AtomsIn}
use Rattle.meaning.proofs.Tools.{clash}
use Rattle.layout.specs.Layout.{program_of}
use Rattle.levels.specs.Levels.{Levels}
use Rattle.levels.specs.View.{row}
use Rattle.reach.specs.Arcs.{arcs_of}
use Rattle.reach.specs.Visits.{Off}
use Rattle.reach.proofs.Inside.{laid_inside}
use Rattle.reach.proofs.Graph.{chain_inside}
use Rattle.reach.proofs.Leading.{reached_slice}
use Rattle.depend.specs.Circles.{name_of, Named, Final}
use Rattle.depend.proofs.Naming.{named_one, named_alone, named_before, named_on, final_more, final_kept, final_round}
use Rattle.depend.proofs.circles.find_one.Goals as goal

-- the name of the next atom
own : (x : List ℕ) (p : ℕ) → name_of x (p + 1) ≡ get_or x p 0
own x p = let e : p + 1 - 1 ≡ p = omega arith in ap (λ (i : ℕ). get_or x i 0) e

pub returns-then-has : goal.returns-then-has
returns-then-has c =
    let a = c.args in
    let P = program_of c.args.t.now.words.now c.args.t.now.places in
    let inside : AtomsIn c.args.t.now.places.atoms P = laid_inside c.args.t.now.words.now c.args.t.now.places c.args.t.now.laid in
    let here : In c.args.t.now.places.atoms (c.args.p + 1) = (omega arith, omega (arith, c.requires.2)) in (
      named_one a.added a.t.now.places.atoms P inside a.p a.names.now c.requires.3
          (λ q j o. c.requires.1.one (a.p + 1) q here j (sym c.has.ensures ∙ c.if-has.true) o),
      c.requires.1,
    )

pub returns-then-names-p : goal.returns-then-names-p
returns-then-names-p c =
    let a = c.args in
    let P = program_of c.args.t.now.words.now c.args.t.now.places in
    let inside : AtomsIn c.args.t.now.places.atoms P = laid_inside c.args.t.now.words.now c.args.t.now.places c.args.t.now.laid in (
      named_before a.added a.t.now.places.atoms P inside a.p a.names.now c.requires.3 c.requires.2
          (λ e. c.if-names-p.true (sym (own a.names.now a.p) ∙ e)),
      c.requires.1,
    )

pub returns-then-has-2 : goal.returns-then-has-2
returns-then-has-2 c =
    let a = c.args in
    let P = program_of c.args.t.now.words.now c.args.t.now.places in
    let inside : AtomsIn c.args.t.now.places.atoms P = laid_inside c.args.t.now.words.now c.args.t.now.places c.args.t.now.laid in
    let new : row c.args.settled (c.args.p + 1) ≡ false = sym c.has.ensures ∙ c.if-has.false in
    let x = c.settle-tried.ensures in (
      named_alone a.added a.t.now.places.atoms P inside a.p a.names.now c.requires.3
          (alone (arcs_of a.added P) (row a.settled) (a.p + 1) new (x.off (a.p + 1) (sym c.has-2.ensures ∙ c.if-has-2.true))),
      final_more a.added a.t.now.places.atoms P inside a.names.now (row a.settled) (row c.settle-tried.result) c.requires.1 x,
    )
  where
    alone : (R : ℕ → ℕ → Bool) (A : Levels) (p : ℕ) → A p ≡ false → Is (A p) ⊎ Off R p → Off R p
    alone R A p e (inl c) = absurd (clash c e)
    alone R A p e (inr o) = o

pub returns-then-listed_in : goal.returns-then-listed_in
returns-then-listed_in c =
    let a = c.args in
    let P = program_of c.args.t.now.words.now c.args.t.now.places in
    let stands = reached_slice (arcs_of a.added P) (a.p + 1) c.circle-round.new.list c.circle-round.result.count (search rules) c.circle-round.ensures.1 in
    let inside : AtomsIn c.args.t.now.places.atoms P = laid_inside c.args.t.now.words.now c.args.t.now.places c.args.t.now.laid in
    let new : row c.args.settled (c.args.p + 1) ≡ false = sym c.has.ensures ∙ c.if-has.false in
    let named : Named (arcs_of a.added P) a.t.now.places.atoms (a.p + 1) c.name.new.names = named_on a.added a.t.now.places.atoms P inside a.p a.names.now c.name.new.names (row c.circle-round.result.marks) c.requires.3 c.requires.2 c.circle-round.ensures.0 c.name.ensures in (
      named,
      final_round a.added a.t.now.places.atoms P inside a.p a.names.now c.name.new.names (row c.circle-round.result.marks) (row a.settled) c.requires.1 new c.circle-round.ensures.0 c.name.ensures
          (row c.union-all.result) c.union-all.ensures
          (λ q k. (let w = stands.all q k in subst (λ (z : ℕ). Is (row c.union-all.result z)) w.2 (c.listed_in.ensures c.if-listed_in.true w.0 w.1))),
    )

pub along-requires : goal.along-requires
along-requires c =
    let a = c.args in
    let P = program_of c.args.t.now.words.now c.args.t.now.places in
    let stands = reached_slice (arcs_of a.added P) (a.p + 1) c.circle-round.new.list c.circle-round.result.count (search rules) c.circle-round.ensures.1 in
    let inside : AtomsIn c.args.t.now.places.atoms P = laid_inside c.args.t.now.words.now c.args.t.now.places c.args.t.now.laid in
    let here : In c.args.t.now.places.atoms (c.args.p + 1) = (omega arith, omega (arith, c.requires.2)) in
    let new : row c.args.settled (c.args.p + 1) ≡ false = sym c.has.ensures ∙ c.if-has.false in
    let l = take c.circle-round.result.count c.circle-round.new.list in
    let near : (i : ℕ) → i < length l → get_or l i 0 < a.t.now.places.atoms = λ i h. (let w = chain_inside a.added a.t.now.places.atoms P inside (a.p + 1) (suc (get_or l i 0)) here (stands.each i h) in omega (arith, w.1)) in
    (c.requires.0, near, c.requires.1.closed)

pub returns : goal.returns
returns c =
    let a = c.args in
    let P = program_of c.args.t.now.words.now c.args.t.now.places in
    let inside : AtomsIn c.args.t.now.places.atoms P = laid_inside c.args.t.now.words.now c.args.t.now.places c.args.t.now.laid in
    let new : row c.args.settled (c.args.p + 1) ≡ false = sym c.has.ensures ∙ c.if-has.false in
    let named : Named (arcs_of a.added P) a.t.now.places.atoms (a.p + 1) c.name.new.names = named_on a.added a.t.now.places.atoms P inside a.p a.names.now c.name.new.names (row c.circle-round.result.marks) c.requires.3 c.requires.2 c.circle-round.ensures.0 c.name.ensures in
    let kept : Final (arcs_of a.added P) a.t.now.places.atoms c.name.new.names (row a.settled) = final_kept a.added a.t.now.places.atoms P inside a.p a.names.now c.name.new.names (row c.circle-round.result.marks) (row a.settled) c.requires.1 new c.circle-round.ensures.0 c.name.ensures in
    (named, final_more a.added a.t.now.places.atoms P inside c.name.new.names (row a.settled) (row c.along.result) kept c.along.ensures)
