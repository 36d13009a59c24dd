-- `rules::demand` meets its contract. After each list, what the rule asks so far is what its lists up to there ask together; where that is
-- nothing, the whole rule asks nothing.
-- Assumes nothing.
use mathlib.Core.Path.{◌≡◌, sym, ap, ap₂, ◌∙◌}
use mathlib.Core.Bool.{true, false}
use Prim.Native.Nat.{ℕ}
use Rattle.interpretation.specs.View.{valued}
use Rattle.layout.specs.Layout.{part_at, past_at, pos_at, neg_at}
use Rattle.literals.specs.Scan.{atom_lits, literal_lits}
use Rattle.rules.specs.declared.Step.{Step}
use Rattle.rules.specs.Demand.{together, asks}
use Rattle.rules.specs.declared.Step.TheVariants.{Nothing}
use Rattle.std.proofs.Common.{rules}
use Rattle.rules.proofs.Scanned.{head_asks, pos_asks, demand_all, stops_head, stops_pos}
use Rattle.rules.proofs.demand.Goals as goal

-- ---- the answers
pub returns-then-eq : goal.returns-then-eq
returns-then-eq c =
    let so-head : c.with_list-h.result ≡ head_asks (valued c.args.values.now) (c.args.t.now.words.now) c.args.at = c.with_list-h.ensures in
    sym (stops_head (valued c.args.values.now) (c.args.t.now.words.now) c.args.at (sym (so-head) ∙ (let e : c.with_list-h.result ≡ Nothing = search rules in e)))

pub returns-then-eq-2 : goal.returns-then-eq-2
returns-then-eq-2 c =
    let so-head : c.with_list-h.result ≡ head_asks (valued c.args.values.now) (c.args.t.now.words.now) c.args.at = c.with_list-h.ensures in
    let second : c.plain_past-i.result ≡ pos_at (c.args.t.now.words.now) c.args.at = c.plain_past-i.ensures in
    let so-pos : c.with_list-p.result ≡ together (head_asks (valued c.args.values.now) (c.args.t.now.words.now) c.args.at) (pos_asks (valued c.args.values.now) (c.args.t.now.words.now) c.args.at) =
    c.with_list-p.ensures ∙ ap₂ (λ (d : Step) (i : ℕ). together d (asks (valued c.args.values.now) (atom_lits true (part_at (c.args.t.now.words.now) i)))) (so-head) (second) in
    sym (stops_pos (valued c.args.values.now) (c.args.t.now.words.now) c.args.at (sym (so-pos) ∙ (let e : c.with_list-p.result ≡ Nothing = search rules in e)))

pub returns : goal.returns
returns c =
    let so-head : c.with_list-h.result ≡ head_asks (valued c.args.values.now) (c.args.t.now.words.now) c.args.at = c.with_list-h.ensures in
    let second : c.plain_past-i.result ≡ pos_at (c.args.t.now.words.now) c.args.at = c.plain_past-i.ensures in
    let so-pos : c.with_list-p.result ≡ together (head_asks (valued c.args.values.now) (c.args.t.now.words.now) c.args.at) (pos_asks (valued c.args.values.now) (c.args.t.now.words.now) c.args.at) =
    c.with_list-p.ensures ∙ ap₂ (λ (d : Step) (i : ℕ). together d (asks (valued c.args.values.now) (atom_lits true (part_at (c.args.t.now.words.now) i)))) (so-head) (second) in
    let third : c.plain_past-j.result ≡ neg_at (c.args.t.now.words.now) c.args.at = c.plain_past-j.ensures ∙ ap (past_at (c.args.t.now.words.now)) (second) in
    let t = (c.args.t.now.words.now) in
    c.with_rest.ensures
    ∙ ap₂ (λ (d : Step) (i : ℕ). together (together d (asks (valued c.args.values.now) (atom_lits false (part_at t i)))) (asks (valued c.args.values.now) (literal_lits t (part_at t (past_at t i))))) (so-pos) (third)
    ∙ sym (demand_all (valued c.args.values.now) t c.args.at)
