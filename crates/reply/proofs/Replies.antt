-- A text is good or bad, and only one of both: what is promised of each. What was written fits the buffer. Assumes nothing.
use mathlib.Core.Path.{◌≡◌, refl, ap, ◌∙◌, subst}
use mathlib.Core.Bool.{Bool, true, false}
use mathlib.Core.List.{List, ◌++◌}
use Prim.Native.Nat.{ℕ, ◌+◌, ◌≤◌}
use native.Mathlib.Omega.{arith}
use lib.IntN.{ℤ}
use lib.ListN.{length, drop, length-append}
use Rattle.results.specs.declared.Refusal.{Refusal}
use Rattle.results.specs.declared.Solved.{Solved}
use Rattle.std.specs.Prelude.{Result, Err}
use Rattle.text.specs.Text.{pick, Text, text_of, text, refused}
use Rattle.text.specs.Line.{line_of, short, PrintAs}
use Rattle.reply.specs.Reply.{no_plan, Tells, Replies}

module _ (bs old : List ℕ) (wrote : ℕ) (new : List ℕ) where
  pub replies_good : (l : ℕ) (t : List ℤ) → text_of bs ≡ text l t → Tells t l old wrote new → Replies bs old wrote new
  replies_good l t e h = record { good = good; bad = bad }
    where
      good : (m : ℕ) (u : List ℤ) → text_of bs ≡ text m u → Tells u m old wrote new
      good m u f =
          let p : l ≡ m = cc in
          let q : t ≡ u = cc in
          subst (λ (v : List ℤ). Tells v m old wrote new) q (subst (λ (k : ℕ). Tells t k old wrote new) p h)

      bad : (f : Refusal) → text_of bs ≡ refused f → PrintAs (Err f) 256 no_plan old wrote new
      bad f g = absurd (let q : ◌≡◌ {A = ℕ} 0 1 = cc in omega arith)

  pub replies_bad : (f : Refusal) → text_of bs ≡ refused f → PrintAs (Err f) 256 no_plan old wrote new → Replies bs old wrote new
  replies_bad f e h = record { good = good; bad = bad }
    where
      good : (m : ℕ) (u : List ℤ) → text_of bs ≡ text m u → Tells u m old wrote new
      good m u g = absurd (let q : ◌≡◌ {A = ℕ} 0 1 = cc in omega arith)

      bad : (g : Refusal) → text_of bs ≡ refused g → PrintAs (Err g) 256 no_plan old wrote new
      bad g k =
          let q : f ≡ g = cc in
          subst (λ (r : Refusal). PrintAs (Err r) 256 no_plan old wrote new) q h

-- ---- what was written fits the buffer

print_fits : (r : Result Solved Refusal) (n : ℕ) (plan old : List ℕ) (wrote : ℕ) (new : List ℕ) → PrintAs r n plan old wrote new → wrote ≤ length new
print_fits r n plan old wrote new h = at (short old) h.result h.out
  where
    l : List ℕ
    l = line_of r n plan

    at : (b : Bool) → wrote ≡ pick b 0 (length l) → new ≡ pick b old (l ++ drop (length l) old) → wrote ≤ length new
    at true e f = omega (arith, e)
    at false e f =
        let m : length new ≡ length l + length (drop (length l) old) = ap length f ∙ length-append l (drop (length l) old) in
        omega (arith, e, m)

pub fits : (bs old : List ℕ) (wrote : ℕ) (new : List ℕ) → Replies bs old wrote new → wrote ≤ length new
fits bs old wrote new h = at (text_of bs) refl
  where
    at : (t : Text) → text_of bs ≡ t → wrote ≤ length new
    at (text l ws) e =
        let t = h.good l ws e in
        print_fits t.result 256 t.plan old wrote new t.line
    at (refused f) e = print_fits (Err f) 256 no_plan old wrote new (h.bad f e)
