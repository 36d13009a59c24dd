-- `turns::go_back` meets its contract: by whether the reason is empty. Assumes nothing.
use mathlib.Core.Path.{◌≡◌, refl, sym, ap, ◌∙◌}
use Prim.Native.Nat.{ℕ, zero, suc, ◌-◌, ◌≤◌}
use native.Mathlib.Omega.{arith}
use Rattle.levels.specs.View.{row}
use Rattle.interpretation.specs.View.{choices}
use Rattle.interpretation.proofs.Laws.{choices_at}
use Rattle.search.specs.Search.{jump}
use Rattle.search.proofs.Parts.{target_le}
use Rattle.turns.specs.Turns.{back_to}
use Rattle.turns.specs.declared.Back.TheVariants.{Level}
use Rattle.turns.proofs.go_back.Goals as goal

pub offset_bounds-chosen-i : goal.offset_bounds-chosen-i
offset_bounds-chosen-i c =
    let aim : (1 ≤ c.highest-m.result) × (c.highest-m.result ≤ c.args.k) × (c.args.k ≤ 256) =
    let a = c.args in
    let z = c.if-m-eq0.false in
    let u : c.highest-m.result ≤ a.k = rw c.highest-m.ensures (target_le jump (row a.why) a.k) in
    (omega (arith, z), u, c.requires.0) in
    let h = aim in omega (arith, h.1, h.2)

pub bounds-chosen-i : goal.bounds-chosen-i
bounds-chosen-i c =
    let aim : (1 ≤ c.highest-m.result) × (c.highest-m.result ≤ c.args.k) × (c.args.k ≤ 256) =
    let a = c.args in
    let z = c.if-m-eq0.false in
    let u : c.highest-m.result ≤ a.k = rw c.highest-m.ensures (target_le jump (row a.why) a.k) in
    (omega (arith, z), u, c.requires.0) in
    let h = aim in omega (arith, h.0, h.1, h.2)

pub overflow_sub-skips : goal.overflow_sub-skips
overflow_sub-skips c =
    let aim : (1 ≤ c.highest-m.result) × (c.highest-m.result ≤ c.args.k) × (c.args.k ≤ 256) =
    let a = c.args in
    let z = c.if-m-eq0.false in
    let u : c.highest-m.result ≤ a.k = rw c.highest-m.ensures (target_le jump (row a.why) a.k) in
    (omega (arith, z), u, c.requires.0) in
    aim.1

to_level : (choice : ℕ → ℕ) (k m : ℕ) → 1 ≤ m → back_to choice k m ≡ Level m (choice m) (k - m)
to_level choice k zero h = absurd (omega arith)
to_level choice k (suc j) h = refl

pub returns : goal.returns
returns c =
    let aim : (1 ≤ c.highest-m.result) × (c.highest-m.result ≤ c.args.k) × (c.args.k ≤ 256) =
    let a = c.args in
    let z = c.if-m-eq0.false in
    let u : c.highest-m.result ≤ a.k = rw c.highest-m.ensures (target_le jump (row a.why) a.k) in
    (omega (arith, z), u, c.requires.0) in
    let a = c.args in
    let m = c.highest-m.result in
    let h = aim in
    sym (ap (back_to (choices a.chosen.now a.k) a.k) (sym c.highest-m.ensures) ∙ to_level (choices a.chosen.now a.k) a.k m h.0
    ∙ ap (λ (p : ℕ). Level m p (a.k - m)) (choices_at a.chosen.now a.k m h.0 h.1))
