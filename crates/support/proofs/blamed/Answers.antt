-- `support::blamed` meets its contract. Assumes nothing.
use mathlib.Core.Path.{◌≡◌, sym, ap, ◌∙◌, subst}
use mathlib.Core.Bool.{Bool, cond}
use mathlib.Core.List.{List}
use Prim.Native.Nat.{◌<◌}
use native.Mathlib.Omega.{arith}
use lib.IntN.{ℤ, pos}
use lib.ListN.{length, get_or}
use Rattle.meaning.specs.Lists.{has}
use Rattle.levels.specs.Levels.{union}
use Rattle.levels.specs.View.{row, rows}
use Rattle.interpretation.specs.View.{valued}
use Rattle.layout.specs.Layout.{Members, part_at, aggs_at, literal_of, rule_at}
use Rattle.layout.proofs.Inside.{rule_in_lem}
use Rattle.valuing.specs.Values.{agg_lit}
use Rattle.valuing.specs.Reasons.{reason_of}
use Rattle.support.specs.declared.Witness.{Witness}
use Rattle.support.specs.declared.Witness.TheVariants as witness
use Rattle.std.specs.Prelude.{Some}
use Rattle.std.specs.Prelude as code
use Rattle.std.proofs.Common.{rules}
use Rattle.support.specs.Asking.{witness_of, witness_at, blamed_by}
use Rattle.support.proofs.Witnesses.{rule_head, share_of, blamed_at, witness_atom, witness_literal}
use Rattle.support.proofs.blamed.Goals as goal

pub atom_reason-requires : goal.atom_reason-requires
atom_reason-requires c =
    let a = c.args in
    let h = witness_atom a.t.now.places.atoms a.t.now.words.now a.at (valued a.values.now) (rule_in_lem c.args.t.now.words.now c.args.t.now.places c.args.t.now.laid c.args.at c.requires.0) a.p c.in-Some-Atom.q (sym c.witness_of.ensures ∙ (let e : c.witness_of.result ≡ Some (witness.Atom c.in-Some-Atom.q) = search rules in e)) in
    let f = c.args.t.now.laid.few_atoms in
    (h.0, omega (arith, h.1, f))

pub literal_reason-requires : goal.literal_reason-requires
literal_reason-requires c =
    let listed : let a = c.args in c.part-l.result.now ≡ part_at a.t.now.words.now (aggs_at a.t.now.words.now a.at) = let a = c.args in c.part-l.ensures ∙ ap (part_at a.t.now.words.now) c.literals_at-place.ensures in
    let a = c.args in
    let h = witness_literal a.t.now.places.atoms a.t.now.words.now a.at (valued a.values.now) (rule_in_lem c.args.t.now.words.now c.args.t.now.places c.args.t.now.laid c.args.at c.requires.0) a.p c.in-Some-Literal.k (sym c.witness_of.ensures ∙ (let e : c.witness_of.result ≡ Some (witness.Literal c.in-Some-Literal.k) = search rules in e)) in
    (subst (Members a.t.now.places.aggregates) (sym (listed)) c.requires.0.aggs.members, subst (λ (l : List ℤ). c.in-Some-Literal.k < length l) (sym (listed)) h)

pub returns-in-None : goal.returns-in-None
returns-in-None c =
    let by-witness : (w : code.Option Witness) → c.witness_of.result ≡ w → let a = c.args in
    blamed_by (witness_of (valued a.values.now) a.p) (reason_of (valued a.values.now) (rows a.reasons.now)) a.p (rule_at a.t.now.words.now a.at) (row a.more) ≡ share_of (valued a.values.now) a.t.now.words.now a.at (rows a.reasons.now) w (row a.more) = λ w e.
    let a = c.args in
    let x = valued a.values.now in
    let R = rows a.reasons.now in
    blamed_at a.t.now.places.atoms a.t.now.words.now a.at x (rule_in_lem c.args.t.now.words.now c.args.t.now.places c.args.t.now.laid c.args.at c.requires.0) R a.p (row a.more)
    ∙ ap (λ (b : Bool). cond b (share_of x a.t.now.words.now a.at R (witness_at x a.t.now.words.now a.p a.at) (row a.more)) (row a.more)) (ap (has a.p) (sym (rule_head a.t.now.places.atoms a.t.now.words.now a.at x)) ∙ c.requires.1)
    ∙ ap (λ (y : code.Option Witness). share_of x a.t.now.words.now a.at R y (row a.more)) (sym c.witness_of.ensures ∙ e) in
    sym (by-witness _ c.in-None.is)

pub returns-in-Some-Atom : goal.returns-in-Some-Atom
returns-in-Some-Atom c =
    let by-witness : (w : code.Option Witness) → c.witness_of.result ≡ w → let a = c.args in
    blamed_by (witness_of (valued a.values.now) a.p) (reason_of (valued a.values.now) (rows a.reasons.now)) a.p (rule_at a.t.now.words.now a.at) (row a.more) ≡ share_of (valued a.values.now) a.t.now.words.now a.at (rows a.reasons.now) w (row a.more) = λ w e.
    let a = c.args in
    let x = valued a.values.now in
    let R = rows a.reasons.now in
    blamed_at a.t.now.places.atoms a.t.now.words.now a.at x (rule_in_lem c.args.t.now.words.now c.args.t.now.places c.args.t.now.laid c.args.at c.requires.0) R a.p (row a.more)
    ∙ ap (λ (b : Bool). cond b (share_of x a.t.now.words.now a.at R (witness_at x a.t.now.words.now a.p a.at) (row a.more)) (row a.more)) (ap (has a.p) (sym (rule_head a.t.now.places.atoms a.t.now.words.now a.at x)) ∙ c.requires.1)
    ∙ ap (λ (y : code.Option Witness). share_of x a.t.now.words.now a.at R y (row a.more)) (sym c.witness_of.ensures ∙ e) in
    c.atom_reason.ensures ∙ sym (by-witness _ (let e : c.witness_of.result ≡ Some (witness.Atom c.in-Some-Atom.q) = search rules in e))

pub returns-in-Some-Literal : goal.returns-in-Some-Literal
returns-in-Some-Literal c =
    let listed : let a = c.args in c.part-l.result.now ≡ part_at a.t.now.words.now (aggs_at a.t.now.words.now a.at) = let a = c.args in c.part-l.ensures ∙ ap (part_at a.t.now.words.now) c.literals_at-place.ensures in
    let by-witness : (w : code.Option Witness) → c.witness_of.result ≡ w → let a = c.args in
    blamed_by (witness_of (valued a.values.now) a.p) (reason_of (valued a.values.now) (rows a.reasons.now)) a.p (rule_at a.t.now.words.now a.at) (row a.more) ≡ share_of (valued a.values.now) a.t.now.words.now a.at (rows a.reasons.now) w (row a.more) = λ w e.
    let a = c.args in
    let x = valued a.values.now in
    let R = rows a.reasons.now in
    blamed_at a.t.now.places.atoms a.t.now.words.now a.at x (rule_in_lem c.args.t.now.words.now c.args.t.now.places c.args.t.now.laid c.args.at c.requires.0) R a.p (row a.more)
    ∙ ap (λ (b : Bool). cond b (share_of x a.t.now.words.now a.at R (witness_at x a.t.now.words.now a.p a.at) (row a.more)) (row a.more)) (ap (has a.p) (sym (rule_head a.t.now.places.atoms a.t.now.words.now a.at x)) ∙ c.requires.1)
    ∙ ap (λ (y : code.Option Witness). share_of x a.t.now.words.now a.at R y (row a.more)) (sym c.witness_of.ensures ∙ e) in
    let a = c.args in
    let k = c.in-Some-Literal.k in
    c.literal_reason.ensures
    ∙ ap (λ (l : List ℤ). union (reason_of (valued a.values.now) (rows a.reasons.now) (agg_lit (literal_of a.t.now.words.now (get_or l k (pos 0))))) (row a.more)) (listed)
    ∙ sym (by-witness _ (let e : c.witness_of.result ≡ Some (witness.Literal c.in-Some-Literal.k) = search rules in e))
