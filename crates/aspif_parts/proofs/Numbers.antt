-- The numbers given to the marks are the new atoms (02, Wish 6). Assumes nothing.
use mathlib.Core.Path.{◌≡◌, refl, sym, ap, ◌∙◌}
use mathlib.Core.Logic.{◌⊎◌, inl, inr}
use mathlib.Core.Bool.{Bool, true, false, cond}
use mathlib.Core.List.{List, ◌∷◌}
use Prim.Native.Nat.{ℕ, zero, suc, ◌+◌, ◌-◌, ◌*◌, ◌≤◌, ◌<◌}
use native.Mathlib.Nat.{eq-or-lt_of_le}
use native.Mathlib.Omega.{arith}
use lib.IntN.{ℤ, pos, negsuc, nat_abs}
use lib.ListN.{length, get_or, drop, replicate}
use lib.Seq.{drop-cons}
use borrow.Author.Tests.{ne_eqb}
use Rattle.meaning.specs.Lists.{Is, cons_if}
use Rattle.meaning.proofs.Tools.{eq_i}
use Rattle.layout.specs.Layout.{Laid}
use Rattle.layout.specs.declared.Table.{Table}
use Rattle.table.specs.Contents.{NumberedRule}
use Rattle.aspif.specs.Writing.{same_number, uses, used_from, used, place, new_atom}
use Rattle.aspif_parts.specs.Held.{numbered_from, held_by}
use Rattle.aspif_parts.specs.Uses.{place_of, mark_rules, atom_by, next_by, numbered_by, new_or_none, NewAtoms}
use Rattle.aspif_parts.specs.Parts.{bit_of}
use Rattle.aspif_parts.proofs.Held.{held_atoms, held_rules, held_long}
use Rattle.aspif_parts.proofs.Marking.{Marks, marks_are, number_two}

-- ---- places of the two literals of aggregate g + 1, and of later ones

plain_place : (g : ℕ) → place_of (pos (suc g)) ≡ 2 * g
unfolding place_of
plain_place g = omega arith

negated_place : (g : ℕ) → place_of (negsuc g) ≡ 2 * g + 1
unfolding place_of
negated_place g = omega arith

-- a literal is the plain or the negated one of aggregate g + 1, or of a later one
pub data Stands (g : ℕ) (w : ℤ) : Type 0 where
  plain : w ≡ pos (suc g) → Stands g w
  negated : w ≡ negsuc g → Stands g w
  later : suc g < nat_abs w → Stands g w

stands : (g : ℕ) (w : ℤ) → g < nat_abs w → Stands g w
stands g (ℤ.pos a) h = at (eq-or-lt_of_le h)
  where
    at : (suc g ≡ a) ⊎ (suc g < a) → Stands g (pos a)
    at (inl e) = plain (ap pos (sym e))
    at (inr k) = later k
stands g (negsuc a) h = at (eq-or-lt_of_le h)
  where
    at : (suc g ≡ suc a) ⊎ (suc g < suc a) → Stands g (negsuc a)
    at (inl e) = negated (ap negsuc (omega arith))
    at (inr k) = later k

differs_plain : (g : ℕ) (w : ℤ) → suc g < nat_abs w → same_number w (pos (suc g)) ≡ false
differs_plain g (ℤ.pos a) h = ne_eqb a (suc g) (λ e. omega arith)
differs_plain g (negsuc a) h = refl

differs_negated : (g : ℕ) (w : ℤ) → suc g < nat_abs w → same_number w (negsuc g) ≡ false
differs_negated g (ℤ.pos a) h = refl
differs_negated g (negsuc a) h = ne_eqb (suc a) (suc g) (λ e. omega arith)

late_place : (g : ℕ) (w : ℤ) → suc g < nat_abs w → place_of w - 2 * g ≡ suc (suc (place_of w - 2 * suc g))
unfolding place_of
late_place g w h = omega arith

-- ---- the places in the list of those in use

here : (a : Bool) (w x : ℤ) (rest : List ℤ) (next : ℕ) → Is (same_number w x) → atom_by (bit_of a) next ≡ cond a (next + place w (cons_if a x rest)) 0
here true w x rest next e = rw e (omega arith)
here false w x rest next e = refl

second : (a b : Bool) (w x y : ℤ) (rest : List ℤ) (next : ℕ) → same_number w x ≡ false → Is (same_number w y)
    → atom_by (bit_of b) (next_by (bit_of a) next) ≡ cond b (next + place w (cons_if a x (cons_if b y rest))) 0
second true true w x y rest next e f = rw (e, f) (omega arith)
second false true w x y rest next e f = rw f (omega arith)
second true false w x y rest next e f = refl
second false false w x y rest next e f = refl

past : (a b : Bool) (w x y : ℤ) (rest : List ℤ) (next : ℕ) → same_number w x ≡ false → same_number w y ≡ false
    → next_by (bit_of b) (next_by (bit_of a) next) + place w rest ≡ next + place w (cons_if a x (cons_if b y rest))
past true true w x y rest next e f = rw (e, f) (omega arith)
past false true w x y rest next e f = rw f (omega arith)
past true false w x y rest next e f = rw e (omega arith)
past false false w x y rest next e f = refl

self_plain : (g : ℕ) → Is (same_number (pos (suc g)) (pos (suc g)))
self_plain g = eq_i {m = suc g} {n = suc g} refl

self_negated : (g : ℕ) → Is (same_number (negsuc g) (negsuc g))
self_negated g = eq_i {m = suc g} {n = suc g} refl

module _ (rules : List NumberedRule) (ms : List ℕ) (marks : Marks (uses rules) ms) where
  two : (g : ℕ) → g < 64 → drop (2 * g) ms ≡ bit_of (uses rules (pos (suc g))) ∷ bit_of (uses rules (negsuc g)) ∷ drop (2 * suc g) ms
  two g h =
      let l = marks.long in
      let e : suc (suc (2 * g)) ≡ 2 * suc g = omega arith in
      let s : suc (2 * g) ≡ 2 * g + 1 = omega arith in
      let p : get_or ms (2 * g) 0 ≡ bit_of (uses rules (pos (suc g))) = ap (λ (k : ℕ). get_or ms k 0) (sym (plain_place g)) ∙ marks.says (pos (suc g)) (omega arith) (omega arith) in
      let q : get_or ms (suc (2 * g)) 0 ≡ bit_of (uses rules (negsuc g)) = ap (λ (k : ℕ). get_or ms k 0) (s ∙ sym (negated_place g)) ∙ marks.says (negsuc g) (omega arith) (omega arith) in
      drop-cons ms (2 * g) 0 (omega arith)
      ∙ ap (λ (m : List ℕ). get_or ms (2 * g) 0 ∷ m) (drop-cons ms (suc (2 * g)) 0 (omega arith))
      ∙ ap (λ (k : ℕ). get_or ms (2 * g) 0 ∷ get_or ms (suc (2 * g)) 0 ∷ drop k ms) e
      ∙ ap (λ (x : ℕ). x ∷ get_or ms (suc (2 * g)) 0 ∷ drop (2 * suc g) ms) p
      ∙ ap (λ (x : ℕ). bit_of (uses rules (pos (suc g))) ∷ x ∷ drop (2 * suc g) ms) q

  numbers : (n g next : ℕ) (w : ℤ) → g + n ≤ 64 → g < nat_abs w → nat_abs w ≤ g + n
      → get_or (numbered_by next (drop (2 * g) ms)) (place_of w - 2 * g) 0 ≡ cond (uses rules w) (next + place w (used_from rules g n)) 0
  numbers zero g next w r h k = absurd (omega arith)
  numbers (suc n) g next w r h k =
      ap (λ (l : List ℕ). get_or l (place_of w - 2 * g) 0) (ap (numbered_by next) (two g (omega arith)) ∙ number_two next _ _ _) ∙ at (stands g w h) (numbers n (suc g))
    where
      a : Bool
      a = uses rules (pos (suc g))

      b : Bool
      b = uses rules (negsuc g)

      at : Stands g w → ((next : ℕ) (w : ℤ) → suc g + n ≤ 64 → suc g < nat_abs w → nat_abs w ≤ suc g + n → get_or (numbered_by next (drop (2 * suc g) ms)) (place_of w - 2 * suc g) 0 ≡ cond (uses rules w) (next + place w (used_from rules (suc g) n)) 0)
          → get_or (atom_by (bit_of (uses rules (pos (suc g)))) next ∷ atom_by (bit_of (uses rules (negsuc g))) (next_by (bit_of (uses rules (pos (suc g)))) next) ∷ numbered_by (next_by (bit_of (uses rules (negsuc g))) (next_by (bit_of (uses rules (pos (suc g)))) next)) (drop (2 * suc g) ms)) (place_of w - 2 * g) 0
          ≡ cond (uses rules w) (next + place w (used_from rules g (suc n))) 0
      at (plain e) f =
          let z : place_of (pos (suc g)) - 2 * g ≡ 0 = let p = plain_place g in omega arith in
          rw (e, z) (here (uses rules (pos (suc g))) (pos (suc g)) (pos (suc g)) _ next (self_plain g))
      at (negated e) f =
          let z : place_of (negsuc g) - 2 * g ≡ 1 = let p = negated_place g in omega arith in
          rw (e, z) (second (uses rules (pos (suc g))) (uses rules (negsuc g)) (negsuc g) (pos (suc g)) (negsuc g) _ next refl (self_negated g))
      at (later m) f =
          rw (late_place g w m)
          (f (next_by (bit_of (uses rules (negsuc g))) (next_by (bit_of (uses rules (pos (suc g)))) next)) w (omega arith) m (omega arith)
          ∙ ap (λ (x : ℕ). cond (uses rules w) x 0) (past (uses rules (pos (suc g))) (uses rules (negsuc g)) w (pos (suc g)) (negsuc g) (used_from rules (suc g) n) next (differs_plain g w m) (differs_negated g w m)))

-- ---- the new atoms of a table

pub new_atoms_are : (t : List ℤ) (tb : Table) → Laid t tb → NewAtoms (held_by t tb) (numbered_by (suc tb.atoms) (mark_rules (replicate 128 0) (numbered_from t tb.first tb.rules)))
unfolding new_or_none new_atom used
new_atoms_are t tb laid = record { each = each }
  where
    marks : Marks (uses (numbered_from t tb.first tb.rules)) (mark_rules (replicate 128 0) (numbered_from t tb.first tb.rules))
    marks = marks_are t tb.atoms tb.aggregates tb.rules tb.first laid.few_aggregates laid.rules_lie

    each : (w : ℤ) → 1 ≤ nat_abs w → nat_abs w ≤ length (held_by t tb).aggregates → get_or (numbered_by (suc tb.atoms) (mark_rules (replicate 128 0) (numbered_from t tb.first tb.rules))) (place_of w) 0 ≡ new_or_none (held_by t tb) w
    each w h k =
        let l = held_long t tb in
        let f = laid.few_aggregates in
        let e = numbers (numbered_from t tb.first tb.rules) (mark_rules (replicate 128 0) (numbered_from t tb.first tb.rules)) marks tb.aggregates 0 (suc tb.atoms) w (omega arith) h (omega arith) in
        let z : place_of w - 0 ≡ place_of w = omega arith in
        rw (l, held_rules t tb, held_atoms t tb) (rw z at e)
