-- The aggregate literals of a rule are read as those literals, and the aggregates that are written out there as the next ones of the table. Assumes nothing.
use mathlib.Core.Path.{◌≡◌, refl, sym, ap, ◌∙◌, subst}
use mathlib.Core.Bool.{Bool, true, false, cond, not}
use mathlib.Core.List.{List, [], ◌∷◌, ◌++◌, map, append_assoc, append-nil}
use Prim.Native.Nat.{ℕ, zero, suc, ◌+◌, ◌-◌, ◌≤◌, ◌<◌}
use native.Mathlib.Omega.{arith}
use borrow.Author.Tests.{leb-true, leb-false, eqb-true, eqb-false}
use lib.Dec.{leb, eqb}
use lib.IntN.{ℤ, nat_abs}
use lib.ListN.{length, take, get_or}
use lib.Seq.{length-take-le, take-suc}
use lib.Signed.{non_neg}
use Rattle.meaning.specs.Program.{Aggregate}
use Rattle.table.specs.Contents.{Each, Ascending, AggregateInRange, no_aggregate, aggregate_by}
use Rattle.notation.specs.Notation.{turns}
use Rattle.notation.specs.Tokens.{Token, number}
use Rattle.notation.specs.Parser.{last_from}
use Rattle.notation.proofs.TokenLists.{not_t, name_t, aggregate_t, rest_t, literal_t}
use Rattle.notation.proofs.Runs.{last_snoc, snoc_long}
use Rattle.notation.proofs.InTurn.{turn_named, turn_next, turn_out, turns_cons, turns_nil, turns_zero}
use Rattle.notation.proofs.ReadRules.{Reads, Chain, body_of, name_run, out_run, reads_mark, reads_word}

each_at : {A : Type 0} (P : A → Type 0) (l : List A) (k : ℕ) (x : A) → Each P l → k < length l → P (get_or l k x)
each_at P [] k x e h = absurd (omega arith)
each_at P (y ∷ l) zero x e h = e.0
each_at P (y ∷ l) (suc k) x e h = each_at P l k x e.1 (omega arith)

map_snoc : (l : List ℤ) (w : ℤ) → map nat_abs (l ++ (w ∷ [])) ≡ map nat_abs l ++ (nat_abs w ∷ [])
map_snoc [] w = refl
map_snoc (x ∷ l) w = ap (λ (m : List ℕ). nat_abs x ∷ m) (map_snoc l w)

last_map : (l : List ℤ) (w : ℤ) → last_from 0 (map nat_abs (l ++ (w ∷ []))) ≡ nat_abs w
last_map l w = ap (last_from 0) (map_snoc l w) ∙ last_snoc 0 (map nat_abs l) (nat_abs w)

module _ (top d : ℕ) (all : List Aggregate) (ranges : Each (AggregateInRange top) all) (few : length all ≤ 64) (ps ns : List ℕ) where
  -- one literal: g aggregates before it, m after it
  module _ (g : ℕ) (l : List ℤ) (w : ℤ) (most : g ≤ length all) (last : last_from 0 (map nat_abs l) < nat_abs w) (short : length l < 8) where
    reads_named : d ≤ g → nat_abs w ≤ d → leb (nat_abs w) d ≡ true → Reads top (body_of (take g all) ps ns l) (literal_t d all w) (body_of (take g all) ps ns (l ++ (w ∷ [])))
    reads_named k h e =
        let t = length-take-le g all most in
        subst (λ (x : List Token). Reads top (body_of (take g all) ps ns l) x (body_of (take g all) ps ns (l ++ (w ∷ []))))
        (sym (ap (λ (b : Bool). not_t (not (non_neg w)) ++ cond b (name_t (nat_abs w)) (aggregate_t (aggregate_by all (nat_abs w)))) e))
        (reads_mark top (body_of (take g all) ps ns l) (body_of (take g all) ps ns (l ++ (w ∷ []))) (number (nat_abs w) ∷ []) (non_neg w)
        (λ us. name_run top (take g all) ps ns l w last short us (omega arith)))

    reads_out : nat_abs w ≡ suc g → suc g ≤ length all → leb (nat_abs w) d ≡ false → Reads top (body_of (take g all) ps ns l) (literal_t d all w) (body_of (take (suc g) all) ps ns (l ++ (w ∷ [])))
    reads_out h k e =
        let t = length-take-le g all most in
        let a = aggregate_by all (nat_abs w) in
        let i : nat_abs w - 1 ≡ g = omega arith in
        let j : take (suc g) all ≡ take g all ++ (aggregate_by all (nat_abs w) ∷ []) = take-suc all g no_aggregate k ∙ ap (λ (n : ℕ). take g all ++ (get_or all n no_aggregate ∷ [])) (sym i) in
        let r : AggregateInRange top (aggregate_by all (nat_abs w)) = each_at (AggregateInRange top) all (nat_abs w - 1) no_aggregate ranges (omega arith) in
        subst (λ (x : List Token). Reads top (body_of (take g all) ps ns l) x (body_of (take (suc g) all) ps ns (l ++ (w ∷ []))))
        (sym (ap (λ (b : Bool). not_t (not (non_neg w)) ++ cond b (name_t (nat_abs w)) (aggregate_t (aggregate_by all (nat_abs w)))) e))
        (subst (λ (gs : List Aggregate). Reads top (body_of (take g all) ps ns l) (not_t (not (non_neg w)) ++ aggregate_t (aggregate_by all (nat_abs w))) (body_of gs ps ns (l ++ (w ∷ [])))) (sym j)
        (reads_word top (body_of (take g all) ps ns l) (body_of (take g all ++ (aggregate_by all (nat_abs w) ∷ [])) ps ns (l ++ (w ∷ []))) (rest_t (aggregate_by all (nat_abs w))) (aggregate_by all (nat_abs w)).function (non_neg w)
        (λ us. out_run top (take g all) ps ns l w last short us (aggregate_by all (nat_abs w)) r (h ∙ ap suc (sym t)) (omega arith))))

  pub aggs_chain : (ws : List ℤ) (g m : ℕ) (l : List ℤ) → d ≤ g → g ≤ length all → turns d (suc g) ws ≡ suc m → Ascending (length all) (last_from 0 (map nat_abs l)) (map nat_abs ws)
      → length l + length ws ≤ 8 → (d ≤ m) × (m ≤ length all) × Chain top (body_of (take g all) ps ns l) (map (literal_t d all) ws) (body_of (take m all) ps ns (l ++ ws))
  aggs_chain [] g m l h k e a n =
      let i : g ≡ m = let q = sym (turns_nil d (suc g)) ∙ e in omega arith in
      (omega arith, omega arith, ap (λ (x : ℕ). body_of (take x all) ps ns l) i ∙ ap (λ (x : List ℤ). body_of (take m all) ps ns x) (sym (append-nil l)))
  aggs_chain (w ∷ ws) g m l h k e a n = at (leb (nat_abs w) d) refl (λ x i j t. aggs_chain ws x m (l ++ (w ∷ [])) i j t b longer)
    where
      short : length l < 8
      short = omega arith

      b : Ascending (length all) (last_from 0 (map nat_abs (l ++ (w ∷ [])))) (map nat_abs ws)
      b = subst (λ (p : ℕ). Ascending (length all) p (map nat_abs ws)) (sym (last_map l w)) a.2

      longer : length (l ++ (w ∷ [])) + length ws ≤ 8
      longer = let s = snoc_long l w in omega arith

      step : (x : ℕ) → Reads top (body_of (take g all) ps ns l) (literal_t d all w) (body_of (take x all) ps ns (l ++ (w ∷ [])))
          → (d ≤ m) × (m ≤ length all) × Chain top (body_of (take x all) ps ns (l ++ (w ∷ []))) (map (literal_t d all) ws) (body_of (take m all) ps ns ((l ++ (w ∷ [])) ++ ws))
          → (d ≤ m) × (m ≤ length all) × Chain top (body_of (take g all) ps ns l) (map (literal_t d all) (w ∷ ws)) (body_of (take m all) ps ns (l ++ (w ∷ ws)))
      step x r (i, j, c) = (i, j, (body_of (take x all) ps ns (l ++ (w ∷ [])), r, subst (λ (y : List ℤ). Chain top (body_of (take x all) ps ns (l ++ (w ∷ []))) (map (literal_t d all) ws) (body_of (take m all) ps ns y)) (append_assoc l (w ∷ []) ws) c))

      next : (b : Bool) → eqb (nat_abs w) (suc g) ≡ b → leb (nat_abs w) d ≡ false
          → ((x : ℕ) → d ≤ x → x ≤ length all → turns d (suc x) ws ≡ suc m → (d ≤ m) × (m ≤ length all) × Chain top (body_of (take x all) ps ns (l ++ (w ∷ []))) (map (literal_t d all) ws) (body_of (take m all) ps ns ((l ++ (w ∷ [])) ++ ws)))
          → (d ≤ m) × (m ≤ length all) × Chain top (body_of (take g all) ps ns l) (map (literal_t d all) (w ∷ ws)) (body_of (take m all) ps ns (l ++ (w ∷ ws)))
      next true q f rec =
          let i = eqb-true (nat_abs w) (suc g) q in
          let u = a.1 in
          let t : turns d (suc (suc g)) ws ≡ suc m = ap (λ (x : ℕ). turns d x ws) (sym (turn_next d (suc g) w (leb-false (nat_abs w) d f) i ∙ omega arith)) ∙ sym (turns_cons d (suc g) w ws) ∙ e in
          step (suc g) (reads_out g l w k a.0 short i (omega arith) f) (rec (suc g) (omega arith) (omega arith) t)
      next false q f rec =
          absurd
          (let z : suc m ≡ 0 = sym e ∙ turns_cons d (suc g) w ws ∙ ap (λ (x : ℕ). turns d x ws) (turn_out d (suc g) w (leb-false (nat_abs w) d f) (eqb-false (nat_abs w) (suc g) q)) ∙ turns_zero d ws (length all) (nat_abs w) a.2 in
          omega arith)

      at : (b : Bool) → leb (nat_abs w) d ≡ b
          → ((x : ℕ) → d ≤ x → x ≤ length all → turns d (suc x) ws ≡ suc m → (d ≤ m) × (m ≤ length all) × Chain top (body_of (take x all) ps ns (l ++ (w ∷ []))) (map (literal_t d all) ws) (body_of (take m all) ps ns ((l ++ (w ∷ [])) ++ ws)))
          → (d ≤ m) × (m ≤ length all) × Chain top (body_of (take g all) ps ns l) (map (literal_t d all) (w ∷ ws)) (body_of (take m all) ps ns (l ++ (w ∷ ws)))
      at true f rec =
          let i = leb-true (nat_abs w) d f in
          let t : turns d (suc g) ws ≡ suc m = ap (λ (x : ℕ). turns d x ws) (sym (turn_named d (suc g) w i)) ∙ sym (turns_cons d (suc g) w ws) ∙ e in
          step g (reads_named g l w k a.0 short h i f) (rec g h k t)
      at false f rec = next (eqb (nat_abs w) (suc g)) refl f rec
