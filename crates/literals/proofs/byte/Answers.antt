-- `literals::byte` meets its contract. Assumes nothing.
use Rattle.std.proofs.Common.{rules, ◌≡◌, ℕ, ◌-◌, nat_abs, get_or, sym, ap, ◌∙◌}
use Rattle.interpretation.specs.View.{cell_by}
use Rattle.interpretation.proofs.Laws.{valued_at}
use Rattle.literals.proofs.byte.Goals as goal

pub returns : goal.returns
returns c =
    let a = c.args in
    let read : c.plain.result ≡ nat_abs a.w = search rules in
    ap (λ (p : ℕ). cell_by (get_or a.values.now (p - 1) 0) 0) read ∙ sym (valued_at a.values.now (nat_abs a.w) c.requires.0)
