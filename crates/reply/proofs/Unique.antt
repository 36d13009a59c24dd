-- A text has one line only: two that meet the promise for the same text and buffer are equal. Assumes nothing.
use mathlib.Core.Path.{◌≡◌, refl, subst}
use mathlib.Core.Bool.{false}
use mathlib.Core.List.{List}
use Prim.Native.Nat.{ℕ}
use lib.IntN.{ℤ}
use Rattle.results.specs.declared.Solved.{Solved}
use Rattle.results.specs.declared.Refusal.{Refusal}
use Rattle.std.specs.Prelude.{Result, Err}
use Rattle.solver.proofs.Unique.{solving_unique}
use Rattle.text.specs.Text.{Text, text_of, text, refused}
use Rattle.text.specs.Line.{PrintAs}
use Rattle.text.proofs.Lines.{print_unique}
use Rattle.reply.specs.Reply.{no_plan, Tells, Replies}

tells_unique : (t : List ℤ) (lim : ℕ) (old : List ℕ) (wrote wrote' : ℕ) (new new' : List ℕ) → Tells t lim old wrote new → Tells t lim old wrote' new' → (wrote ≡ wrote') × (new ≡ new')
tells_unique t lim old wrote wrote' new new' a b =
    let u = solving_unique t (record { cycles = false; limit = lim }) no_plan a.plan b.plan a.result b.result a.solving b.solving in
    let l : PrintAs b.result 256 b.plan old wrote new = subst (λ (p : List ℕ). PrintAs b.result 256 p old wrote new) u.1 (subst (λ (r : Result Solved Refusal). PrintAs r 256 a.plan old wrote new) u.0 a.line) in
    print_unique b.result 256 b.plan old new new' wrote wrote' l b.line

pub replies_unique : (bs old : List ℕ) (wrote wrote' : ℕ) (new new' : List ℕ) → Replies bs old wrote new → Replies bs old wrote' new' → (wrote ≡ wrote') × (new ≡ new')
replies_unique bs old wrote wrote' new new' a b = at (text_of bs) refl
  where
    at : (x : Text) → text_of bs ≡ x → (wrote ≡ wrote') × (new ≡ new')
    at (text lim t) e = tells_unique t lim old wrote wrote' new new' (a.good lim t e) (b.good lim t e)
    at (refused f) e = print_unique (Err f) 256 no_plan old new new' wrote wrote' (a.bad f e) (b.bad f e)
