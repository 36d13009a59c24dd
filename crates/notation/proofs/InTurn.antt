-- Aggregates taken in turn: one literal, and that what was once out of turn stays so. Assumes nothing.
use mathlib.Core.Path.{◌≡◌, refl, sym, ap, ◌∙◌}
use mathlib.Core.Bool.{Bool, true, false, cond}
use mathlib.Core.List.{List, [], ◌∷◌, map}
use Prim.Native.Nat.{ℕ, zero, suc, ◌+◌, ◌≤◌, ◌<◌}
use native.Mathlib.Omega.{arith}
use borrow.Author.Tests.{le-leb, lt-leb, leb-true, leb-false, eq-eqb, ne_eqb, eqb-true}
use lib.Dec.{leb, eqb}
use lib.IntN.{ℤ, nat_abs}
use lib.ListN.{length}
use Rattle.table.specs.Contents.{NumberedRule, Contents, Each, Ascending, RuleInRange, InRange}
use Rattle.notation.specs.Notation.{turn, turns, turns_all, in_turn, named_from, named}

-- ---- one literal

module _ (d e : ℕ) (w : ℤ) where
  pub turn_named : nat_abs w ≤ d → turn d e w ≡ e
  unfolding turn
  turn_named h = ap (λ (b : Bool). cond b e (cond (eqb (nat_abs w) e) (suc e) 0)) (le-leb (nat_abs w) d h)

  turn_other : d < nat_abs w → turn d e w ≡ cond (eqb (nat_abs w) e) (suc e) 0
  unfolding turn
  turn_other h = ap (λ (b : Bool). cond b e (cond (eqb (nat_abs w) e) (suc e) 0)) (lt-leb (nat_abs w) d h)

  pub turn_next : d < nat_abs w → nat_abs w ≡ e → turn d e w ≡ nat_abs w + 1
  turn_next h k = turn_other h ∙ ap (λ (b : Bool). cond b (suc e) 0) (eq-eqb (nat_abs w) e k) ∙ omega arith

  pub turn_out : d < nat_abs w → (nat_abs w ≡ e → ⊥) → turn d e w ≡ 0
  turn_out h k = turn_other h ∙ ap (λ (b : Bool). cond b (suc e) 0) (ne_eqb (nat_abs w) e k)

pub turns_cons : (d e : ℕ) (w : ℤ) (ws : List ℤ) → turns d e (w ∷ ws) ≡ turns d (turn d e w) ws
unfolding turns
turns_cons d e w ws = refl

pub turns_nil : (d e : ℕ) → turns d e [] ≡ e
unfolding turns
turns_nil d e = refl

-- ---- out of turn

module _ (d : ℕ) where
  turn_zero : (w : ℤ) → 0 < nat_abs w → turn d 0 w ≡ 0
  turn_zero w h = at (leb (nat_abs w) d) refl
    where
      at : (b : Bool) → leb (nat_abs w) d ≡ b → turn d 0 w ≡ 0
      at true e = turn_named d 0 w (leb-true (nat_abs w) d e)
      at false e = turn_out d 0 w (leb-false (nat_abs w) d e) (λ k. absurd (omega arith))

  pub turns_zero : (ws : List ℤ) (top previous : ℕ) → Ascending top previous (map nat_abs ws) → turns d 0 ws ≡ 0
  turns_zero [] top previous a = turns_nil d 0
  turns_zero (w ∷ ws) top previous a =
      turns_cons d 0 w ws ∙ ap (λ (e : ℕ). turns d e ws) (turn_zero w (let h = a.0 in omega arith)) ∙ turns_zero ws top (nat_abs w) a.2

  all_cons : (e : ℕ) (r : NumberedRule) (rs : List NumberedRule) → turns_all d e (r ∷ rs) ≡ turns_all d (turns d e r.aggs) rs
  unfolding turns_all
  all_cons e r rs = refl

  pub all_zero : (n g : ℕ) (rs : List NumberedRule) → Each (RuleInRange n g) rs → turns_all d 0 rs ≡ 0
  unfolding turns_all
  all_zero n g [] h = refl
  all_zero n g (r ∷ rs) h = ap (λ (e : ℕ). turns_all d e rs) (turns_zero r.aggs g 0 h.0.aggs) ∙ all_zero n g rs h.1

  -- so the first rule leaves some aggregate's turn
  pub all_first : (n g e k : ℕ) (r : NumberedRule) (rs : List NumberedRule) → Each (RuleInRange n g) rs → turns_all d e (r ∷ rs) ≡ suc k
      → (m : ℕ) × (turns d e r.aggs ≡ suc m) × (turns_all d (suc m) rs ≡ suc k)
  all_first n g e k r rs h q = at (turns d e r.aggs) refl
    where
      at : (x : ℕ) → turns d e r.aggs ≡ x → (m : ℕ) × (turns d e r.aggs ≡ suc m) × (turns_all d (suc m) rs ≡ suc k)
      at zero f = absurd (let z : suc k ≡ 0 = sym q ∙ all_cons e r rs ∙ ap (λ (x : ℕ). turns_all d x rs) f ∙ all_zero n g rs h in omega arith)
      at (suc m) f = (m, f, sym (ap (λ (x : ℕ). turns_all d x rs) f) ∙ sym (all_cons e r rs) ∙ q)

  -- where all have a name, none is out of turn
  turns_named : (ws : List ℤ) (e previous : ℕ) → Ascending d previous (map nat_abs ws) → turns d e ws ≡ e
  turns_named [] e previous a = turns_nil d e
  turns_named (w ∷ ws) e previous a = turns_cons d e w ws ∙ ap (λ (x : ℕ). turns d x ws) (turn_named d e w a.1) ∙ turns_named ws e (nat_abs w) a.2

  all_named_lem : (n e : ℕ) (rs : List NumberedRule) → Each (RuleInRange n d) rs → turns_all d e rs ≡ e
  unfolding turns_all
  all_named_lem n e [] h = refl
  all_named_lem n e (r ∷ rs) h = ap (λ (x : ℕ). turns_all d x rs) (turns_named r.aggs e 0 h.0.aggs) ∙ all_named_lem n e rs h.1

-- ---- the number of names does

pub record Does (c : Contents) (d : ℕ) : Type 0 where
  pub most : d ≤ length c.aggregates
  pub turn : turns_all d (suc d) c.rules ≡ suc (length c.aggregates)

module _ (c : Contents) (r : InRange c) where
  from_does : (n d : ℕ) → d + n ≡ length c.aggregates → Does c (named_from c d n)
  unfolding named_from in_turn
  from_does zero d e =
      let k : d ≡ length c.aggregates = omega arith in
      record { most = omega arith; turn = rw k (all_named_lem (length c.aggregates) c.atoms (suc (length c.aggregates)) c.rules r.rules) }
  from_does (suc n) d e = at (in_turn c d) refl (from_does n (suc d) (omega arith))
    where
      at : (b : Bool) → in_turn c d ≡ b → Does c (named_from c (suc d) n) → Does c (cond b d (named_from c (suc d) n))
      at true h k = record { most = omega arith; turn = eqb-true (turns_all d (suc d) c.rules) (suc (length c.aggregates)) h }
      at false h k = k

  pub named_does : Does c (named c)
  unfolding named
  named_does = from_does (length c.aggregates) 0 (omega arith)
