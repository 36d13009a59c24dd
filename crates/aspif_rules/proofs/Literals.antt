-- An aggregate literal by its new atom is what the definition states. Assumes nothing.
use mathlib.Core.Path.{◌≡◌, refl, sym, ap, ◌∙◌}
use mathlib.Core.Bool.{Bool, true, false, not, cond, beq}
use mathlib.Core.List.{List, [], ◌∷◌}
use Prim.Native.Nat.{ℕ, zero, suc, ◌+◌, ◌-◌, ◌≤◌, ◌<◌}
use native.Mathlib.Nat.{le_of_suc-le-suc, not-suc-le-zero}
use native.Mathlib.Omega.{arith}
use lib.IntN.{ℤ, pos, negsuc, nat_abs}
use lib.Signed.{non_neg}
use lib.ListN.{length, get_or}
use Rattle.meaning.specs.Lists.{Is, any}
use Rattle.meaning.specs.Program.{Aggregate}
use Rattle.meaning.proofs.Tools.{eq_i, or_l, or_r}
use Rattle.layout.specs.Layout.{nat_at, function_by, comparison_by, aggregate_at, start_from}
use Rattle.layout.specs.declared.Table.{Table}
use Rattle.table.specs.Contents.{no_aggregate}
use Rattle.aspif.specs.Writing.{same_number, uses, turned, straight, stated_literal, new_atom}
use Rattle.bytes_out.specs.Putting.{signed_text}
use Rattle.aspif_parts.specs.Held.{held_by}
use Rattle.aspif_parts.specs.Uses.{place_of, new_or_none, NewAtoms}
use Rattle.aspif_parts.specs.Parts.{literal_text, InUse}
use Rattle.aspif_parts.proofs.Held.{held_long, held_aggregate}
use Rattle.aspif_parts.proofs.Texts.{signed_field}

-- ---- a literal of a list is one of it

self_same : (w : ℤ) → Is (same_number w w)
self_same (ℤ.pos n) = eq_i {m = n} {n = n} refl
self_same (negsuc n) = eq_i {m = suc n} {n = suc n} refl

any_self : (f : ℤ → Bool) (l : List ℤ) (i : ℕ) → i < length l → Is (f (get_or l i (pos 0))) → Is (any f l)
any_self f [] i h e = absurd (not-suc-le-zero h)
any_self f (w ∷ l) zero h e = or_l (f w) (any f l) e
any_self f (w ∷ l) (suc i) h e = or_r (f w) (any f l) (any_self f l i (le_of_suc-le-suc h) e)

pub in_use_lem : (t : List ℤ) (tb : Table) (l : List ℤ) (i : ℕ) → i < length l → InUse (held_by t tb) l → Is (uses (held_by t tb).rules (get_or l i (pos 0)))
in_use_lem t tb l i h u = let w = get_or l i (pos 0) in u w (any_self (same_number w) l i h (self_same w))

-- ---- its text

twice : (b : Bool) → not (not b) ≡ b
twice true = refl
twice false = refl

new_most : (t : List ℤ) (tb : Table) (w : ℤ) → 1 ≤ new_atom (held_by t tb) w
unfolding new_atom
new_most t tb w = omega arith

new_given : (t : List ℤ) (tb : Table) (w : ℤ) → Is (uses (held_by t tb).rules w) → new_or_none (held_by t tb) w ≡ new_atom (held_by t tb) w
unfolding new_or_none
new_given t tb w u = ap (λ (b : Bool). cond b (new_atom (held_by t tb) w) 0) u

module _ (t : List ℤ) (tb : Table) (news : List ℕ) (given : NewAtoms (held_by t tb) news) (w : ℤ) (low : 1 ≤ nat_abs w) (high : nat_abs w ≤ tb.aggregates) where
  sign_is : (start : ℕ) → start ≡ start_from t 2 (nat_abs w - 1) → beq (non_neg w) (not (turned (function_by (nat_at t start)) (comparison_by (nat_at t (start + 1))))) ≡ straight (held_by t tb) w
  unfolding straight aggregate_at
  sign_is start e =
      ap (λ (i : ℕ). beq (non_neg w) (not (turned (function_by (nat_at t i)) (comparison_by (nat_at t (i + 1)))))) e
      ∙ ap (λ (a : Aggregate). beq (non_neg w) (not (turned a.function a.comparison))) (sym (held_aggregate t tb no_aggregate (nat_abs w - 1) (omega arith)))

  pub literal_is : (start : ℕ) → start ≡ start_from t 2 (nat_abs w - 1) → Is (uses (held_by t tb).rules w) → (negation : Bool) → negation ≡ not (non_neg w) → (new : ℕ) → new ≡ get_or news (place_of w) 0
      → signed_text (beq (not negation) (not (turned (function_by (nat_at t start)) (comparison_by (nat_at t (start + 1)))))) new ≡ literal_text (stated_literal (held_by t tb) w)
  literal_is start e u negation n new f =
      let l = held_long t tb in
      ap (λ (b : Bool). signed_text (beq (not b) (not (turned (function_by (nat_at t start)) (comparison_by (nat_at t (start + 1)))))) new) n
      ∙ ap (λ (b : Bool). signed_text (beq b (not (turned (function_by (nat_at t start)) (comparison_by (nat_at t (start + 1)))))) new) (twice (non_neg w))
      ∙ ap (λ (b : Bool). signed_text b new) (sign_is start e)
      ∙ ap (signed_text (straight (held_by t tb) w)) (f ∙ given.each w low (omega arith) ∙ new_given t tb w u)
      ∙ signed_field (straight (held_by t tb) w) (new_atom (held_by t tb) w) (new_most t tb w)
