-- Marks read out: a row is a sorted list, rows 3 and 4 together the merged weights. Assumes nothing.
use mathlib.Core.Path.{◌≡◌, refl, sym, ap, ap₂, ◌∙◌}
use mathlib.Core.Bool.{Bool, true, false, ◌&&◌}
use mathlib.Core.List.{List, []}
use Prim.Native.Nat.{ℕ, zero, suc, ◌+◌, ◌*◌, ◌-◌, ◌<◌, ◌≤◌, min}
use native.Mathlib.Omega.{arith}
use borrow.Author.Tests.{le-leb, lt-leb, leb-true, leb-false}
use lib.Dec.{leb, ltb}
use lib.ListN.{length, get_or}
use Rattle.meaning.specs.Lists.{all, cons_if, keep, has}
use Rattle.meaning.specs.Program.{Element}
use Rattle.meaning.specs.Enumerated.{atoms_from}
use Rattle.meaning.proofs.Tools.{and_l, and_r}
use Rattle.aspif.specs.Reading.{atoms_of, sorted, weight_of, merged_from, merged}
use Rattle.aspif_scan.specs.Marks.{row_from, weights_from, light_from}
use Rattle.aspif_read.proofs.Rows.{idx}

-- ---- rows read out

row_list : (f : ℕ → Bool) (m : List ℕ) (n i p : ℕ) → ((q : ℕ) → p ≤ q → q < p + n → ltb 0 (get_or m (i + (q - p)) 0) ≡ f q) → row_from m i p n ≡ keep f (atoms_from p n)
unfolding row_from
row_list f m zero i p h = refl
row_list f m (suc n) i p h =
    let e : i + (p - p) ≡ i = omega arith in
    let a = ap (λ (k : ℕ). ltb 0 (get_or m k 0)) (sym e) ∙ h p (omega arith) (omega arith) in
    let r = row_list f m n (suc i) (suc p) (λ q j k. let g : suc i + (q - suc p) ≡ i + (q - p) = omega arith in ap (λ (x : ℕ). ltb 0 (get_or m x 0)) g ∙ h q (omega arith) (omega arith)) in
    ap₂ (λ (b : Bool) (l : List ℕ). cons_if b p l) a r

pub row_is : (m l : List ℕ) (row : ℕ) → ((p : ℕ) → 1 ≤ p → p ≤ 256 → ltb 0 (get_or m (idx row p) 0) ≡ has p l) → row_from m (row * 256) 1 256 ≡ sorted l
unfolding sorted
row_is m l row h = row_list (λ p. has p l) m 256 (row * 256) 1 (λ q j k. h q j (omega arith))

pub weights_list : (es : List Element) (m : List ℕ) (n i p : ℕ)
    → ((q : ℕ) → p ≤ q → q < p + n → (ltb 0 (get_or m (i + (q - p)) 0) ≡ has q (atoms_of es)) × (get_or m (i + (q - p) + 256) 0 ≡ weight_of q es)) → weights_from m i p n ≡ merged_from p n es
unfolding weights_from
weights_list es m zero i p h = refl
weights_list es m (suc n) i p h =
    let e : i + (p - p) ≡ i = omega arith in
    let t = h p (omega arith) (omega arith) in
    let a = ap (λ (k : ℕ). ltb 0 (get_or m k 0)) (sym e) ∙ t.0 in
    let b = ap (λ (k : ℕ). get_or m (k + 256) 0) (sym e) ∙ t.1 in
    let r = weights_list es m n (suc i) (suc p) (λ q j k. let g : suc i + (q - suc p) ≡ i + (q - p) = omega arith in let u = h q (omega arith) (omega arith) in
    (ap (λ (x : ℕ). ltb 0 (get_or m x 0)) g ∙ u.0, ap (λ (x : ℕ). get_or m (x + 256) 0) g ∙ u.1)) in
    ap₂ (λ (c : Bool) (l : List Element). cons_if c (record { value = get_or m (i + 256) 0; atom = p }) l) a r ∙ ap (λ (v : ℕ). cons_if (has p (atoms_of es)) (record { value = v; atom = p }) (merged_from (suc p) n es)) b

pub light_list : (es : List Element) (m : List ℕ) (n i p : ℕ)
    → ((q : ℕ) → p ≤ q → q < p + n → (get_or m (i + (q - p)) 0 ≡ min (weight_of q es) 65536) × (has q (atoms_of es) ≡ false → weight_of q es ≡ 0))
    → light_from m i n ≡ all (λ (e : Element). leb e.value 65535) (merged_from p n es)
unfolding light_from
light_list es m zero i p h = refl
light_list es m (suc n) i p h =
    let e : i + (p - p) ≡ i = omega arith in
    let t = h p (omega arith) (omega arith) in
    let c = ap (λ (k : ℕ). get_or m k 0) (sym e) ∙ t.0 in
    let r = light_list es m n (suc i) (suc p) (λ q j k. let g : suc i + (q - suc p) ≡ i + (q - p) = omega arith in let u = h q (omega arith) (omega arith) in (ap (λ (x : ℕ). get_or m x 0) g ∙ u.0, u.1)) in
    at (has p (atoms_of es)) refl c t.1 r
  where
    over : (x w : ℕ) → x ≡ min w 65536 → leb x 65535 ≡ leb w 65535
    over x w f = two (leb w 65535) refl
      where
        two : (b : Bool) → leb w 65535 ≡ b → leb x 65535 ≡ b
        two true g = let k = leb-true w 65535 g in le-leb x 65535 (omega arith)
        two false g = let k = leb-false w 65535 g in lt-leb x 65535 (omega arith)

    at : (b : Bool) → has p (atoms_of es) ≡ b → get_or m i 0 ≡ min (weight_of p es) 65536 → (has p (atoms_of es) ≡ false → weight_of p es ≡ 0)
        → light_from m (suc i) n ≡ all (λ (e : Element). leb e.value 65535) (merged_from (suc p) n es)
        → (leb (get_or m i 0) 65535 && light_from m (suc i) n) ≡ all (λ (e : Element). leb e.value 65535) (cons_if b (record { value = weight_of p es; atom = p }) (merged_from (suc p) n es))
    at true e c z r = ap₂ (λ (x y : Bool). x && y) (over (get_or m i 0) (weight_of p es) c) r
    at false e c z r = let k = z e in ap (λ (x : Bool). x && light_from m (suc i) n) (le-leb (get_or m i 0) 65535 (omega arith)) ∙ r

pub light_at : (m : List ℕ) (n i j : ℕ) → light_from m i n ≡ true → j < n → get_or m (i + j) 0 ≤ 65535
unfolding light_from
light_at m zero i j e h = absurd (omega arith)
light_at m (suc n) i zero e h = let k : i + 0 ≡ i = omega arith in rw k (leb-true (get_or m i 0) 65535 (and_l _ _ e))
light_at m (suc n) i (suc j) e h = let k : i + suc j ≡ suc i + j = omega arith in rw k (light_at m n (suc i) j (and_r (leb (get_or m i 0) 65535) _ e) (omega arith))

merged_length : (es : List Element) (n p : ℕ) → length (merged_from p n es) ≡ length (keep (λ q. has q (atoms_of es)) (atoms_from p n))
merged_length es zero p = refl
merged_length es (suc n) p = at (has p (atoms_of es)) (merged_length es n (suc p))
  where
    at : (b : Bool) → length (merged_from (suc p) n es) ≡ length (keep (λ q. has q (atoms_of es)) (atoms_from (suc p) n))
        → length (cons_if b (record { value = weight_of p es; atom = p }) (merged_from (suc p) n es)) ≡ length (cons_if b p (keep (λ q. has q (atoms_of es)) (atoms_from (suc p) n)))
    at true e = ap suc e
    at false e = e

pub merged_sorted : (es : List Element) → length (merged es) ≡ length (sorted (atoms_of es))
unfolding merged sorted
merged_sorted es = merged_length es 256 1

pub sorted_none : sorted [] ≡ []
unfolding sorted has
sorted_none = refl
