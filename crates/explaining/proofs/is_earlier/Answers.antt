-- `explaining::is_earlier` meets its contract. Assumes nothing.
use mathlib.Core.Path.{◌≡◌, sym, ap, ◌∙◌}
use mathlib.Core.Bool.{Bool, ◌&&◌}
use Prim.Native.Nat.{ℕ}
use lib.Dec.{ltb}
use borrow.Author.Tests.{lt-ltb, le-ltb}
use Rattle.explaining.proofs.Arrays.{round_at}
use Rattle.explaining.proofs.is_earlier.Goals as goal

-- what the two tests on the round read come to
asks : (x y r : ℕ) → y ≡ x → (b : Bool) → ltb 0 x ≡ b → (ltb 0 y && ltb y r) ≡ (b && ltb x r)
asks x y r e b f = ap (λ (z : ℕ). ltb 0 z && ltb z r) e ∙ ap (λ (d : Bool). d && ltb x r) f

pub returns-then-mark-gt0 : goal.returns-then-mark-gt0
returns-then-mark-gt0 c = sym (asks _ _ c.args.round (round_at c.args.marks.now c.args.p c.requires.0) _ (lt-ltb _ _ c.if-mark-gt0.true))

pub returns-else-mark-gt0 : goal.returns-else-mark-gt0
returns-else-mark-gt0 c =
    let none = le-ltb _ _ c.if-mark-gt0.false in
    none ∙ sym (asks _ _ c.args.round (round_at c.args.marks.now c.args.p c.requires.0) _ none)
