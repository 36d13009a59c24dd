-- `interpretation::Interpretation::jump` meets its contract. Assumes nothing.
use borrow.Author.Rules.{rules}
use mathlib.Core.Path.{◌≡◌, refl, sym, ap, subst, ◌∙◌}
use Prim.Native.Nat.{ℕ, suc, ◌+◌, ◌-◌, ◌≤◌}
use native.Mathlib.Omega.{arith}
use mathlib.Core.Bool.{false}
use mathlib.Core.List.{List}
use lib.ListN.{length, get_or, length-set}
use Rattle.interpretation.specs.State.{Interpretation, Cell, defined, put, undone}
use Rattle.interpretation.specs.View.{view, cells, choices, blank}
use Rattle.interpretation.specs.declared.Interpretation as code
use Rattle.meaning.specs.Cond.{if_lt}
use Rattle.interpretation.proofs.Laws.{cells_set_at, choices_at, choices_jump, partly, undo_one, keep_one, partly_start, partly_end}
use Rattle.interpretation.proofs.Interpretation.jump.Goals as goal
use Rattle.interpretation.proofs.Interpretation.jump.Goals.{then-m-self, else-m-self}

-- x stands to s as the invariant says, with the cells up to index i undone
abbrev Kept : ℕ → code.Interpretation → ℕ → code.Interpretation → Type 0
Kept m s i x =
    (length x.values ≡ 256) × (length x.records ≡ 256) × (x.chosen ≡ s.chosen) × (x.depth ≡ s.depth) × (cells x.values x.records ≡ partly m i (cells s.values s.records))

pub loop-i-init : goal.loop-i-init
loop-i-init c =
    let s = c.args.self in
    let k : length s.values ≡ 256 = search rules in
    let n : length s.records ≡ 256 = search rules in
    (k, n, refl, refl, partly_start c.args.m s.values s.records)

pub loop-i-preserved : goal.loop-i-preserved
loop-i-preserved c =
    let m = c.args.m in
    let s = c.args.self in
    let i = c.loop-i.i in
    let x = c.loop-i.self in
    let v = c.loop-i.invariant in
    let a = cells s.values s.records in
    let undo = λ (h : m ≤ (get_or x.records i blank).level). undo_one m i a x.values x.records v.4 (omega arith) (omega arith) h in
    elim c.if-m-self.branch [
      | then-m-self w ↦ subst (Kept m s (i + 1)) (sym w.self-is) (simp length-set v.0, simp length-set v.1, v.2, v.3, undo w.if-m-self.true)
      | else-m-self w ↦ subst (Kept m s (i + 1)) (sym w.self-is) (v.0, v.1, v.2, v.3, keep_one m i a x.values x.records v.4 w.if-m-self.false)
    ]

pub overflow_sub-place : goal.overflow_sub-place
overflow_sub-place c =
    let choice : let a = c.args in
    choices a.self.chosen a.self.depth a.m ≡ get_or a.self.chosen (a.m - 1) 0 =
    choices_at c.args.self.chosen c.args.self.depth c.args.m c.requires.0 c.requires.1 in
    rw (choice) at c.requires.3

pub bounds-self-place : goal.bounds-self-place
bounds-self-place c =
    let choice : let a = c.args in
    choices a.self.chosen a.self.depth a.m ≡ get_or a.self.chosen (a.m - 1) 0 =
    choices_at c.args.self.chosen c.args.self.depth c.args.m c.requires.0 c.requires.1 in
    let e = choice in let h = c.requires in omega arith

pub bounds-self-place-2 : goal.bounds-self-place-2
bounds-self-place-2 c =
    let choice : let a = c.args in
    choices a.self.chosen a.self.depth a.m ≡ get_or a.self.chosen (a.m - 1) 0 =
    choices_at c.args.self.chosen c.args.self.depth c.args.m c.requires.0 c.requires.1 in
    let e = choice in let h = c.requires in omega arith

-- the interpretation after the jump, with n for the level that is left
abbrev landed : ℕ → ℕ → Interpretation → Interpretation
landed m n w = record { level = m - 1; choice = λ l. if_lt l n (w.choice l) 0; cell = put (w.choice n) (defined false (m - 1)) (λ q. undone n (w.cell q)) }

pub returns : goal.returns
returns c =
    let choice : let a = c.args in
    choices a.self.chosen a.self.depth a.m ≡ get_or a.self.chosen (a.m - 1) 0 =
    choices_at c.args.self.chosen c.args.self.depth c.args.m c.requires.0 c.requires.1 in
    let s = c.args.self in
    let m = c.args.m in
    let x = c.loop-i.self in
    let v = c.loop-i.invariant in
    let e = choice in
    let z : c.loop-i.i ≡ 256 = omega arith in
    let h = c.requires in
    let p = get_or s.chosen (m - 1) 0 in
    let cs : cells x.values x.records ≡ (λ (q : ℕ). undone m (cells s.values s.records q)) = v.4 ∙ ap (λ (k : ℕ). partly m k (cells s.values s.records)) z ∙ partly_end m 256 s.values s.records (omega arith) in
    let d = cells_set_at x.values x.records p 2 (record { level = m - 1; round = 0; rule = 0 }) (omega arith) (omega arith) (omega arith)
    ∙ ap (λ (f : ℕ → Cell). put p (defined false (m - 1)) f) cs ∙ ap (λ (q : ℕ). put q (defined false (m - 1)) (λ (r : ℕ). undone m (cells s.values s.records r))) (sym e) in
    let k = ap (λ (l : List ℕ). choices l (m - 1)) v.2 ∙ choices_jump s.chosen s.depth m h.0 h.1 in
    let f : m ≡ suc (m - 1) = omega arith in
    ◌∙◌ {b = landed m m (view s)} (λ t. record { level = m - 1; choice = k t; cell = d t }) (ap (λ (n : ℕ). landed m n (view s)) f)
