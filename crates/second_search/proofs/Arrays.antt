-- How the cells that values and levels stand for follow a store, undoing, an opened level and a step back. Assumes nothing.
use Prim.Native.Nat.{ℕ, zero, suc, ◌+◌, ◌-◌, ◌≤◌, ◌<◌}
use native.Mathlib.Omega.{arith}
use native.Mathlib.Numerals.{add-one}
use mathlib.Core.Path.{◌≡◌, refl, sym, ap, ◌∙◌, subst}
use mathlib.Core.Bool.{Bool, true, false}
use mathlib.Core.List.{List, [], ◌∷◌, map}
use lib.ListN.{length, length-map, length-set, get_or, set, get_or-map}
use Rattle.meaning.specs.Cond.{if_lt}
use Rattle.interpretation.specs.State.{Cell, defined, Interpretation, put, undone}
use Rattle.interpretation.specs.View.{cells, cell_by, blank, byte_of, choices}
use Rattle.interpretation.specs.declared.Record.{Record}
use Rattle.interpretation.proofs.Laws.{cells_set_at, cell_byte, choices_open, choices_jump, partly, undo_one, keep_one}
use Rattle.search.specs.Search.{opened_as, jumped_as}
use Rattle.second_search.specs.Looking.{record_at, cells_at, view_of, Whole}

-- ---- levels as records

map_set : (ls : List ℕ) (i l : ℕ) → map record_at (set ls i l) ≡ set (map record_at ls) i (record_at l)
map_set [] i l = refl
map_set (x ∷ xs) zero l = refl
map_set (x ∷ xs) (suc i) l = ap (λ (rs : List Record). record_at x ∷ rs) (map_set xs i l)

level_at : (ls : List ℕ) (i : ℕ) → (get_or (map record_at ls) i blank).level ≡ get_or ls i 0
level_at ls i = ap (λ (r : Record). r.level) (get_or-map record_at ls i 0)

sized : (ls : List ℕ) → length ls ≡ 256 → length (map record_at ls) ≡ 256
sized ls h = length-map ls record_at ∙ h

-- ---- a store

pub whole_set : (vs ls : List ℕ) (i b l : ℕ) → Whole vs ls → Whole (set vs i b) (set ls i l)
whole_set vs ls i b l w = (length-set vs i b ∙ w.0, length-set ls i l ∙ w.1)

pub cells_put : (vs ls : List ℕ) (p : ℕ) (v : Bool) (b l : ℕ) → Whole vs ls → 1 ≤ p → p ≤ 256 → b ≡ byte_of v → cells_at (set vs (p - 1) b) (set ls (p - 1) l) ≡ put p (defined v l) (cells_at vs ls)
cells_put vs ls p v b l w h g e =
    let n = w.0 in
    let m = sized ls w.1 in
    ap (cells (set vs (p - 1) b)) (map_set ls (p - 1) l) ∙ cells_set_at vs (map record_at ls) p b (record_at l) h (omega arith) (omega arith)
    ∙ ap (λ (c : Cell). put p c (cells_at vs ls)) (ap (λ (x : ℕ). cell_by x l) e ∙ cell_byte v l)

-- ---- undoing: the cells up to index i are undone

module _ (m i : ℕ) (a : ℕ → Cell) (vs ls : List ℕ) (w : Whole vs ls) (e : cells_at vs ls ≡ partly m i a) where
  pub undo_at : i < 256 → m ≤ get_or ls i 0 → cells_at (set vs i 0) (set ls i 0) ≡ partly m (i + 1) a
  undo_at h g =
      let n = w.0 in
      let k = sized ls w.1 in
      ap (cells (set vs i 0)) (map_set ls i 0) ∙ undo_one m i a vs (map record_at ls) e (omega arith) (omega arith) (subst (λ (l : ℕ). m ≤ l) (sym (level_at ls i)) g)

  pub keep_at : get_or ls i 0 < m → cells_at vs ls ≡ partly m (i + 1) a
  keep_at g = keep_one m i a vs (map record_at ls) e (subst (λ (l : ℕ). l < m) (sym (level_at ls i)) g)

-- ---- one more level, and a step back

module _ (vs ls us ks xs : List ℕ) (d p : ℕ) where
  pub opens : d < 256 → length xs ≡ 256 → cells_at us ks ≡ put p (defined false (d + 1)) (cells_at vs ls) → view_of us ks (set xs d p) (d + 1) ≡ opened_as false p (view_of vs ls xs d)
  opens h n e =
      let f = ap (choices (set xs d p)) (add-one d) ∙ choices_open xs d p (omega arith) in
      let g = e ∙ ap (λ (l : ℕ). put p (defined false l) (cells_at vs ls)) (add-one d) in
      λ t. record { level = add-one d t; choice = f t; cell = g t }

  -- with k for the level that is undone
  abbrev landed : ℕ → Interpretation
  landed k = record { level = d - 1; choice = λ l. if_lt l k (choices xs d l) 0; cell = put (choices xs d k) (defined true (d - 1)) (λ q. undone k (cells_at vs ls q)) }

  pub flips : 1 ≤ d → p ≡ choices xs d d → cells_at us ks ≡ put p (defined true (d - 1)) (λ q. undone d (cells_at vs ls q)) → view_of us ks xs (d - 1) ≡ jumped_as true (d - 1) (view_of vs ls xs d)
  flips h f e =
      let k = choices_jump xs d d h (omega arith) in
      let c = e ∙ ap (λ (q : ℕ). put q (defined true (d - 1)) (λ (r : ℕ). undone d (cells_at vs ls r))) f in
      let g : d ≡ suc (d - 1) = omega arith in
      ◌∙◌ {b = landed d} (λ t. record { level = d - 1; choice = k t; cell = c t }) (ap landed g)
