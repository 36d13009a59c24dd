-- `rules::atoms_ask` meets its contract. The invariant of its loop: the atoms from index i on, beside the one undefined atom passed, ask what all of them
-- ask, so the others passed are true as literals. The measure is the number of atoms still to come. At each atom two ways meet: it is
-- the first undefined one, or it is true; `came` says that with either the invariant goes on.
-- Assumes nothing.
use mathlib.Core.Path.{◌≡◌, sym, ap, ◌∙◌}
use Prim.Native.Nat.{ℕ, ◌+◌}
use native.Mathlib.Omega.{arith}
use lib.IntN.{pos, nat_abs}
use lib.ListN.{get_or, drop}
use Rattle.interpretation.specs.State.{Cell}
use Rattle.interpretation.specs.View.{valued, cell_by, cell_value}
use Rattle.interpretation.specs.declared.Value.TheVariants.{Undefined}
use Rattle.valuing.specs.Values.{signed, atom_lit, value}
use Rattle.literals.specs.Scan.{atom_lits}
use Rattle.rules.specs.Demand.{together, asks}
use Rattle.rules.proofs.Scanned.{byte_undefined, byte_true, byte_false, only_asks, only_set, on_true, on_false, on_first, on_second, on_end}
use Rattle.rules.proofs.atoms_ask.Goals as goal
use Rattle.rules.proofs.atoms_ask.Goals.{then-b-eq0+else-only-ne0, else-b-eq0+else-not-affirms}

pub returns-then-only-ne0 : goal.returns-then-only-ne0
returns-then-only-ne0 c =
    let val : value (valued c.args.values.now) (atom_lit (c.args.sign) (nat_abs (get_or (c.args.l.now) c.loop-i.i (pos 0)))) ≡ signed (c.args.sign) (cell_value (cell_by c.byte_at-b.result 0)) = ap (λ (x : Cell). signed (c.args.sign) (cell_value x)) (sym c.byte_at-b.ensures) in
    let undefined : value (valued c.args.values.now) (atom_lit (c.args.sign) (nat_abs (get_or (c.args.l.now) c.loop-i.i (pos 0)))) ≡ Undefined = val ∙ byte_undefined (c.args.sign) c.byte_at-b.result c.if-b-eq0.true in
    sym (on_second (c.args.sign) (valued c.args.values.now) (c.args.l.now) c.loop-i.i c.loop-i.only c.if-only-ne0.true (omega arith) (undefined)) ∙ c.loop-i.invariant

pub returns-then-not-affirms : goal.returns-then-not-affirms
returns-then-not-affirms c =
    let val : value (valued c.args.values.now) (atom_lit (c.args.sign) (nat_abs (get_or (c.args.l.now) c.loop-i.i (pos 0)))) ≡ signed (c.args.sign) (cell_value (cell_by c.byte_at-b.result 0)) = ap (λ (x : Cell). signed (c.args.sign) (cell_value x)) (sym c.byte_at-b.ensures) in
    sym (on_false (c.args.sign) (valued c.args.values.now) (c.args.l.now) c.loop-i.i c.loop-i.only (omega arith)
    (val ∙ byte_false (c.args.sign) c.byte_at-b.result c.if-b-eq0.false (sym c.affirms.ensures ∙ c.if-not-affirms.true))) ∙ c.loop-i.invariant

pub loop-i-preserved : goal.loop-i-preserved
loop-i-preserved c =
    let s = c.args.sign in
    let a = valued c.args.values.now in
    let l = c.args.l.now in
    let i = c.loop-i.i in
    let Came : ℕ → Type 0 = λ only. together (only_asks s only) (asks a (atom_lits s (drop (i + 1) l))) ≡ asks a (atom_lits s l) in
    let val : value a (atom_lit s (nat_abs (get_or l i (pos 0)))) ≡ signed s (cell_value (cell_by c.byte_at-b.result 0)) = ap (λ (x : Cell). signed s (cell_value x)) (sym c.byte_at-b.ensures) in
    let h = c.requires.0 i (omega arith) in
    let came : Came c.if-b-eq0.only =
    elim c.if-b-eq0.branch [
      | then-b-eq0+else-only-ne0 w ↦ rw w.only-is (sym (on_first s a l i w.number-only.result w.number-only.ensures (rw w.number-only.ensures h.0) (omega arith) (val ∙ byte_undefined s c.byte_at-b.result w.if-b-eq0.true))
          ∙ ap (λ (q : ℕ). together (only_asks s q) (asks a (atom_lits s (drop i l)))) (sym w.if-only-ne0.false)
          ∙ c.loop-i.invariant)
      | else-b-eq0+else-not-affirms w ↦ rw w.only-is (sym (on_true s a l i c.loop-i.only (omega arith) (val ∙ byte_true _ (sym w.affirms.ensures ∙ w.if-not-affirms.false))) ∙ c.loop-i.invariant)
    ] in
    came

pub returns-then-only-eq0 : goal.returns-then-only-eq0
returns-then-only-eq0 c =
    let ended : only_asks (c.args.sign) c.loop-i.only ≡ asks (valued c.args.values.now) (atom_lits (c.args.sign) (c.args.l.now)) = sym (on_end (c.args.sign) (valued c.args.values.now) (c.args.l.now) c.loop-i.i c.loop-i.only (omega arith)) ∙ c.loop-i.invariant in
    ap (only_asks (c.args.sign)) (sym c.if-only-eq0.true) ∙ ended

pub returns : goal.returns
returns c =
    let ended : only_asks (c.args.sign) c.loop-i.only ≡ asks (valued c.args.values.now) (atom_lits (c.args.sign) (c.args.l.now)) = sym (on_end (c.args.sign) (valued c.args.values.now) (c.args.l.now) c.loop-i.i c.loop-i.only (omega arith)) ∙ c.loop-i.invariant in
    sym (only_set (c.args.sign) c.loop-i.only c.if-only-eq0.false) ∙ ended
