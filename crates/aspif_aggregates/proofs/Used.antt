-- The lines of all new atoms, one aggregate at a time. Assumes nothing.
use mathlib.Core.Path.{◌≡◌, refl, sym, ap, ◌∙◌}
use mathlib.Core.Bool.{Bool, true, false, cond}
use mathlib.Core.List.{List, [], ◌++◌}
use Prim.Native.Nat.{ℕ, suc, ◌+◌, ◌-◌, ◌*◌, ◌≤◌, ◌<◌}
use native.Mathlib.Omega.{arith}
use lib.IntN.{ℤ, pos, negsuc, nat_abs}
use lib.ListN.{length, get_or}
use Rattle.meaning.specs.Lists.{cons_if}
use Rattle.meaning.specs.Program.{Aggregate}
use Rattle.layout.specs.Layout.{aggregate_at, start_from, AggregateLies}
use Rattle.layout.specs.declared.Table.{Table}
use Rattle.table.specs.Contents.{Contents, no_aggregate}
use Rattle.aspif.specs.Writing.{uses, used_from, used, new_atom, bodies_of, defining, defining_all}
use Rattle.aspif_parts.specs.Held.{held_by}
use Rattle.aspif_parts.specs.Uses.{place_of, new_or_none, NewAtoms}
use Rattle.aspif_parts.specs.Parts.{lines_text, stating_all, used_lines}
use Rattle.aspif_parts.proofs.Held.{held_long, held_aggregate}
use Rattle.aspif_parts.proofs.Texts.{lines_nil, lines_append}
use Rattle.aspif_aggregates.proofs.Defining.{used_some}

-- an aggregate that lies over atoms 1 to top lies over more
pub lies_wide : (top : ℕ) (t : List ℤ) (i : ℕ) → top ≤ 256 → AggregateLies top t i → AggregateLies 256 t i
lies_wide top t i h L = record {
  fits = L.fits;
  few = L.few;
  functions = L.functions;
  comparisons = L.comparisons;
  threshold = L.threshold;
  lowest = L.lowest;
  values = L.values;
  atoms = λ k g. let a = L.atoms k g in (a.0, omega (arith, a.1));
  ascend = L.ascend;
  plain = L.plain;
}

module _ (t : List ℤ) (tb : Table) where
  abbrev C : Contents
  C = held_by t tb

  new_some : (w : ℤ) → new_atom (held_by t tb) w ≡ 0 → ⊥
  unfolding new_atom
  new_some w e = omega arith

  defined : (w : ℤ) → 1 ≤ nat_abs w → nat_abs w ≤ tb.aggregates → lines_text (defining (held_by t tb) w) ≡ used_lines (aggregate_at t (start_from t 2 (nat_abs w - 1))) (new_atom (held_by t tb) w)
  unfolding defining
  defined w h k =
      ap (λ (a : Aggregate). lines_text (stating_all (new_atom (held_by t tb) w) (bodies_of a.function a))) (held_aggregate t tb no_aggregate (nat_abs w - 1) (omega arith))
      ∙ used_some (aggregate_at t (start_from t 2 (nat_abs w - 1))) (new_atom (held_by t tb) w) (new_some w)

  by_use : (w : ℤ) (rest : List ℤ) → 1 ≤ nat_abs w → nat_abs w ≤ tb.aggregates → (b : Bool)
      → lines_text (defining_all (held_by t tb) (cons_if b w rest)) ≡ used_lines (aggregate_at t (start_from t 2 (nat_abs w - 1))) (cond b (new_atom (held_by t tb) w) 0) ++ lines_text (defining_all (held_by t tb) rest)
  by_use w rest h k true = lines_append (defining (held_by t tb) w) (defining_all (held_by t tb) rest) ∙ ap (λ (l : List ℕ). l ++ lines_text (defining_all (held_by t tb) rest)) (defined w h k)
  by_use w rest h k false = refl

  module _ (news : List ℕ) (given : NewAtoms (held_by t tb) news) where
    one_use : (w : ℤ) (rest : List ℤ) → 1 ≤ nat_abs w → nat_abs w ≤ tb.aggregates
        → lines_text (defining_all (held_by t tb) (cons_if (uses (held_by t tb).rules w) w rest)) ≡ used_lines (aggregate_at t (start_from t 2 (nat_abs w - 1))) (get_or news (place_of w) 0) ++ lines_text (defining_all (held_by t tb) rest)
    unfolding new_or_none
    one_use w rest h k =
        let l = held_long t tb in
        by_use w rest h k (uses (held_by t tb).rules w)
        ∙ ap (λ (n : ℕ). used_lines (aggregate_at t (start_from t 2 (nat_abs w - 1))) n ++ lines_text (defining_all (held_by t tb) rest)) (sym (given.each w h (omega arith)))

    plain_place : (j : ℕ) → place_of (pos (suc j)) ≡ 2 * j
    unfolding place_of
    plain_place j = omega arith

    negated_place : (j : ℕ) → place_of (negsuc j) ≡ 2 * j + 1
    unfolding place_of
    negated_place j = omega arith

    from_suc : (j m : ℕ) → suc j ≤ tb.aggregates
        → lines_text (defining_all (held_by t tb) (used_from (held_by t tb).rules j (suc m)))
        ≡ used_lines (aggregate_at t (start_from t 2 j)) (get_or news (2 * j) 0) ++ (used_lines (aggregate_at t (start_from t 2 j)) (get_or news (2 * j + 1) 0) ++ lines_text (defining_all (held_by t tb) (used_from (held_by t tb).rules (suc j) m)))
    from_suc j m h =
        let rest = used_from (held_by t tb).rules (suc j) m in
        let z : suc j - 1 ≡ j = omega arith in
        let second = one_use (negsuc j) (used_from (held_by t tb).rules (suc j) m) (omega arith) h in
        one_use (pos (suc j)) (cons_if (uses (held_by t tb).rules (negsuc j)) (negsuc j) (used_from (held_by t tb).rules (suc j) m)) (omega arith) h
        ∙ ap (λ (l : List ℕ). used_lines (aggregate_at t (start_from t 2 (suc j - 1))) (get_or news (place_of (pos (suc j))) 0) ++ l) second
        ∙ ap (λ (k : ℕ). used_lines (aggregate_at t (start_from t 2 k)) (get_or news (place_of (pos (suc j))) 0) ++ (used_lines (aggregate_at t (start_from t 2 k)) (get_or news (place_of (negsuc j)) 0) ++ lines_text (defining_all (held_by t tb) (used_from (held_by t tb).rules (suc j) m)))) z
        ∙ ap (λ (k : ℕ). used_lines (aggregate_at t (start_from t 2 j)) (get_or news k 0) ++ (used_lines (aggregate_at t (start_from t 2 j)) (get_or news (place_of (negsuc j)) 0) ++ lines_text (defining_all (held_by t tb) (used_from (held_by t tb).rules (suc j) m)))) (plain_place j)
        ∙ ap (λ (k : ℕ). used_lines (aggregate_at t (start_from t 2 j)) (get_or news (2 * j) 0) ++ (used_lines (aggregate_at t (start_from t 2 j)) (get_or news k 0) ++ lines_text (defining_all (held_by t tb) (used_from (held_by t tb).rules (suc j) m)))) (negated_place j)

    pub used_on : (j n : ℕ) → j < n → n ≡ tb.aggregates
        → lines_text (defining_all (held_by t tb) (used_from (held_by t tb).rules j (n - j)))
        ≡ used_lines (aggregate_at t (start_from t 2 j)) (get_or news (2 * j) 0) ++ (used_lines (aggregate_at t (start_from t 2 j)) (get_or news (2 * j + 1) 0) ++ lines_text (defining_all (held_by t tb) (used_from (held_by t tb).rules (j + 1) (n - (j + 1)))))
    used_on j n h e =
        let y : n - j ≡ suc (n - (j + 1)) = omega arith in
        let x : suc j ≡ j + 1 = omega arith in
        ap (λ (k : ℕ). lines_text (defining_all (held_by t tb) (used_from (held_by t tb).rules j k))) y
        ∙ from_suc j (n - (j + 1)) (omega arith)
        ∙ ap (λ (k : ℕ). used_lines (aggregate_at t (start_from t 2 j)) (get_or news (2 * j) 0) ++ (used_lines (aggregate_at t (start_from t 2 j)) (get_or news (2 * j + 1) 0) ++ lines_text (defining_all (held_by t tb) (used_from (held_by t tb).rules k (n - (j + 1)))))) x

  pub used_all : lines_text (defining_all (held_by t tb) (used (held_by t tb))) ≡ lines_text (defining_all (held_by t tb) (used_from (held_by t tb).rules 0 (tb.aggregates - 0)))
  unfolding used
  used_all =
      let z : length (held_by t tb).aggregates ≡ tb.aggregates - 0 = let l = held_long t tb in omega arith in
      ap (λ (k : ℕ). lines_text (defining_all (held_by t tb) (used_from (held_by t tb).rules 0 k))) z

  pub used_none : (j n : ℕ) → n ≤ j → lines_text (defining_all (held_by t tb) (used_from (held_by t tb).rules j (n - j))) ≡ []
  used_none j n h = let z : n - j ≡ 0 = omega arith in ap (λ (k : ℕ). lines_text (defining_all (held_by t tb) (used_from (held_by t tb).rules j k))) z ∙ lines_nil
