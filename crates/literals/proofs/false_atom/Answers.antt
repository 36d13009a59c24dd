-- `literals::false_atom` meets its contract. Assumes nothing.
use Rattle.std.proofs.Common.{rules, ◌≤◌, nat_abs}
use Rattle.std.proofs.lemmas.Iterator.{YieldsList-from_slice, IsFirst-from_position}
use Rattle.std.proofs.lemmas.Iterator.Adapters.{serves_from_places}
use Rattle.interpretation.specs.View.{valued}
use Rattle.valuing.specs.Values.{atom_lit}
use Rattle.literals.proofs.Walks.{Yes, No, first_word, in_range}
use Rattle.literals.proofs.false_atom.Goals as goal

pub position-requires-clause-callable : goal.position-requires-clause-callable
position-requires-clause-callable c =
    serves_from_places (YieldsList-from_slice c.args.l.now (cc)) (λ x q k. search rules)
    (λ x k h e. let r : (1 ≤ nat_abs x.now) × (nat_abs x.now ≤ 256) = in_range c.args.l.now c.requires k x.now h e in search rules)

pub returns : goal.returns
returns c =
    let a = c.args in
    let X = valued a.values.now in
    first_word nat_abs (atom_lit a.sign) X a.l.now c.position.result
    (IsFirst-from_position _ _ _ (Yes nat_abs (atom_lit a.sign) X a.l.now) (No nat_abs (atom_lit a.sign) X a.l.now) c.position.ensures.ran (YieldsList-from_slice a.l.now (cc)) (λ x q k. search rules) (λ x q k. search rules))
