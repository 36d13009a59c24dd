-- `second_search::takes_part` meets its contract. Assumes nothing.
use mathlib.Core.Path.{◌≡◌, sym, ap, ◌∙◌}
use mathlib.Core.Bool.{true}
use mathlib.Core.List.{List}
use lib.IntN.{ℤ}
use Rattle.interpretation.specs.View.{valued}
use Rattle.layout.specs.Layout.{part_at, pos_at, rule_at}
use Rattle.layout.proofs.Inside.{rule_in_lem}
use Rattle.literals.specs.Scan.{atom_lits}
use Rattle.std.proofs.Common.{rules}
use Rattle.rules.specs.Demand.{asks, is_conflict}
use Rattle.rules.proofs.Asks.{conflict_by}
use Rattle.second_search.proofs.Body.{body_rest, body_not}
use Rattle.second_search.proofs.takes_part.Goals as goal

pub returns-then-eq : goal.returns-then-eq
unfolding rule_at
returns-then-eq c =
    let t = c.args.t.now.words.now in
    let a = valued c.args.candidate.now in
    let positive : c.part-positive.result.now ≡ part_at t (pos_at t c.args.at) = c.part-positive.ensures ∙ ap (part_at t) c.past-i.ensures in
    let told : is_conflict (asks a (atom_lits true (part_at t (pos_at t c.args.at)))) ≡ c.eq.result =
    sym (conflict_by c.eq.result c.atoms_ask-asked.result (λ e. search rules) (λ e f. search rules)
    ∙ ap is_conflict (c.atoms_ask-asked.ensures ∙ ap (λ (l : List ℤ). asks a (atom_lits true l)) positive)) in
    c.rest_true.ensures ∙ body_rest c.args.t.now.places.atoms a c.requires.1 (rule_at t c.args.at) (rule_in_lem t c.args.t.now.places c.args.t.now.laid c.args.at c.requires.0) (told ∙ c.if-eq.true)

pub returns-else-eq : goal.returns-else-eq
unfolding rule_at
returns-else-eq c =
    let t = c.args.t.now.words.now in
    let a = valued c.args.candidate.now in
    let positive : c.part-positive.result.now ≡ part_at t (pos_at t c.args.at) = c.part-positive.ensures ∙ ap (part_at t) c.past-i.ensures in
    let told : is_conflict (asks a (atom_lits true (part_at t (pos_at t c.args.at)))) ≡ c.eq.result =
    sym (conflict_by c.eq.result c.atoms_ask-asked.result (λ e. search rules) (λ e f. search rules)
    ∙ ap is_conflict (c.atoms_ask-asked.ensures ∙ ap (λ (l : List ℤ). asks a (atom_lits true l)) positive)) in
    c.if-eq.false ∙ sym (body_not c.args.t.now.places.atoms a c.requires.1 (rule_at t c.args.at) (rule_in_lem t c.args.t.now.places c.args.t.now.laid c.args.at c.requires.0) (told ∙ c.if-eq.false))
