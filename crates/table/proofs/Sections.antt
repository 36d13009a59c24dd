-- An aggregate and a rule, word by word and list by list, in the terms of the code. Assumes nothing.
use mathlib.Core.Path.{◌≡◌, refl, ap, ◌∙◌}
use mathlib.Core.Bool.{true, false}
use mathlib.Core.List.{List, map}
use Prim.Native.Nat.{ℕ}
use lib.IntN.{ℤ, pos, negsuc, nat_abs}
use lib.ListN.{drop}
use Rattle.std.specs.Prelude.{Ok, Err}
use Rattle.results.specs.declared.Refusal.{Refusal}
use Rattle.meaning.specs.Program.{Element, Aggregate}
use Rattle.layout.specs.Layout.{function_by, comparison_by}
use Rattle.table.specs.Roles.{count, quantity, Format, done, ◌>>=◌, run}
use Rattle.table.specs.Contents.{NumberedRule}
use Rattle.table.specs.Grammar.{one, list, atoms, elements, aggregate, rule}
use Rattle.table.specs.Places.{got_of, part_of}
use Rattle.table.proofs.Parts.{part_map, part_stop, word_stop, word_on, part_on}

-- ---- aggregates

abbrev pub function_word : Format ℤ
function_word = one (quantity (pos 0) (pos 3))

abbrev pub comparison_word : Format ℤ
comparison_word = one (quantity (pos 0) (pos 1))

abbrev pub threshold_word : Format ℤ
threshold_word = one (quantity (negsuc 0) (pos 4194304))

-- what follows the function, the comparison, the threshold, the element count
abbrev pub made : ℤ → ℤ → ℤ → List Element → Aggregate
made f c b es = record { function = function_by (nat_abs f); comparison = comparison_by (nat_abs c); threshold = b; elements = es }

abbrev pub after4 : ℕ → ℤ → ℤ → ℤ → ℤ → Format Aggregate
after4 top f c b n = elements top 0 (nat_abs n) >>= λ es. done (made f c b es)

abbrev pub after3 : ℕ → ℤ → ℤ → ℤ → Format Aggregate
after3 top f c b = one (count 64) >>= after4 top f c b

abbrev pub after2 : ℕ → ℤ → ℤ → Format Aggregate
after2 top f c = threshold_word >>= after3 top f c

abbrev pub after1 : ℕ → ℤ → Format Aggregate
after1 top f = comparison_word >>= after2 top f

pub aggregate_is : (top : ℕ) → aggregate top ≡ (function_word >>= after1 top)
unfolding aggregate
aggregate_is top = refl

module _ (t : List ℤ) (top i : ℕ) where
  pub aggregate_stop1 : (r : Refusal) → got_of (run function_word i (drop i t)) ≡ Err r → part_of (run (aggregate top) i (drop i t)) ≡ Err r
  unfolding aggregate
  aggregate_stop1 r e = word_stop function_word (after1 top) i (drop i t) r e

  module _ (f j : ℕ) (e1 : got_of (run function_word i (drop i t)) ≡ Ok (f, j)) where
    to1 : (w : ℤ) × (nat_abs w ≡ f) × (run (aggregate top) i (drop i t) ≡ run (after1 top w) j (drop j t))
    unfolding aggregate
    to1 = word_on t function_word (after1 top) i f j e1

    pub aggregate_stop2 : (r : Refusal) → got_of (run comparison_word j (drop j t)) ≡ Err r → part_of (run (aggregate top) i (drop i t)) ≡ Err r
    aggregate_stop2 r e = ap part_of to1.2 ∙ word_stop comparison_word (after2 top to1.0) j (drop j t) r e

    module _ (c k : ℕ) (e2 : got_of (run comparison_word j (drop j t)) ≡ Ok (c, k)) where
      to2 : (w : ℤ) × (nat_abs w ≡ c) × (run (after1 top to1.0) j (drop j t) ≡ run (after2 top to1.0 w) k (drop k t))
      to2 = word_on t comparison_word (after2 top to1.0) j c k e2

      pub aggregate_stop3 : (r : Refusal) → got_of (run threshold_word k (drop k t)) ≡ Err r → part_of (run (aggregate top) i (drop i t)) ≡ Err r
      aggregate_stop3 r e = ap part_of (to1.2 ∙ to2.2) ∙ word_stop threshold_word (after3 top to1.0 to2.0) k (drop k t) r e

      module _ (b l : ℕ) (e3 : got_of (run threshold_word k (drop k t)) ≡ Ok (b, l)) where
        to3 : (w : ℤ) × (nat_abs w ≡ b) × (run (after2 top to1.0 to2.0) k (drop k t) ≡ run (after3 top to1.0 to2.0 w) l (drop l t))
        to3 = word_on t threshold_word (after3 top to1.0 to2.0) k b l e3

        pub aggregate_stop4 : (r : Refusal) → got_of (run (one (count 64)) l (drop l t)) ≡ Err r → part_of (run (aggregate top) i (drop i t)) ≡ Err r
        aggregate_stop4 r e = ap part_of (to1.2 ∙ to2.2 ∙ to3.2) ∙ word_stop (one (count 64)) (after4 top to1.0 to2.0 to3.0) l (drop l t) r e

        pub aggregate_on : (n m : ℕ) → got_of (run (one (count 64)) l (drop l t)) ≡ Ok (n, m)
            → part_of (run (aggregate top) i (drop i t)) ≡ part_of (run (elements top 0 n) m (drop m t))
        aggregate_on n m e =
            let g = word_on t (one (count 64)) (after4 top to1.0 to2.0 to3.0) l n m e in
            ap part_of (to1.2 ∙ to2.2 ∙ to3.2 ∙ g.2)
            ∙ part_map (elements top 0 (nat_abs g.0)) (made to1.0 to2.0 to3.0) m (drop m t)
            ∙ ap (λ (k : ℕ). part_of (run (elements top 0 k) m (drop m t))) g.1

-- ---- rules

abbrev pub last_list : ℕ → List ℕ → List ℕ → List ℕ → Format NumberedRule
last_list most h p n = list 8 true most >>= λ l. done (record { head = h; pos = p; neg = n; aggs = l })

abbrev pub neg_list : ℕ → ℕ → List ℕ → List ℕ → Format NumberedRule
neg_list top most h p = atoms 64 top >>= last_list most h p

abbrev pub pos_list : ℕ → ℕ → List ℕ → Format NumberedRule
pos_list top most h = atoms 64 top >>= neg_list top most h

pub rule_is : (top most : ℕ) → rule top most ≡ (atoms 16 top >>= pos_list top most)
unfolding rule
rule_is top most = refl

-- a list of atoms is a list without signs
atoms_part : (few top i : ℕ) (ws : List ℤ) → part_of (run (atoms few top) i ws) ≡ part_of (run (list few false top) i ws)
unfolding atoms
atoms_part few top i ws = part_map (list few false top) (map nat_abs) i ws

module _ (t : List ℤ) (top most i : ℕ) where
  pub rule_stop1 : (r : Refusal) → part_of (run (list 16 false top) i (drop i t)) ≡ Err r → part_of (run (rule top most) i (drop i t)) ≡ Err r
  unfolding rule
  rule_stop1 r e = part_stop (atoms 16 top) (pos_list top most) i (drop i t) r (atoms_part 16 top i (drop i t) ∙ e)

  module _ (j : ℕ) (e1 : part_of (run (list 16 false top) i (drop i t)) ≡ Ok j) where
    go1 : (h : List ℕ) × (run (rule top most) i (drop i t) ≡ run (pos_list top most h) j (drop j t))
    unfolding rule
    go1 = part_on t (atoms 16 top) (pos_list top most) i j (atoms_part 16 top i (drop i t) ∙ e1)

    pub rule_stop2 : (r : Refusal) → part_of (run (list 64 false top) j (drop j t)) ≡ Err r → part_of (run (rule top most) i (drop i t)) ≡ Err r
    rule_stop2 r e = ap part_of go1.1 ∙ part_stop (atoms 64 top) (neg_list top most go1.0) j (drop j t) r (atoms_part 64 top j (drop j t) ∙ e)

    module _ (k : ℕ) (e2 : part_of (run (list 64 false top) j (drop j t)) ≡ Ok k) where
      go2 : (p : List ℕ) × (run (pos_list top most go1.0) j (drop j t) ≡ run (neg_list top most go1.0 p) k (drop k t))
      go2 = part_on t (atoms 64 top) (neg_list top most go1.0) j k (atoms_part 64 top j (drop j t) ∙ e2)

      pub rule_stop3 : (r : Refusal) → part_of (run (list 64 false top) k (drop k t)) ≡ Err r → part_of (run (rule top most) i (drop i t)) ≡ Err r
      rule_stop3 r e =
          ap part_of (go1.1 ∙ go2.1) ∙ part_stop (atoms 64 top) (last_list most go1.0 go2.0) k (drop k t) r (atoms_part 64 top k (drop k t) ∙ e)

      pub rule_on : (l : ℕ) → part_of (run (list 64 false top) k (drop k t)) ≡ Ok l
          → part_of (run (rule top most) i (drop i t)) ≡ part_of (run (list 8 true most) l (drop l t))
      rule_on l e =
          let g = part_on t (atoms 64 top) (last_list most go1.0 go2.0) k l (atoms_part 64 top k (drop k t) ∙ e) in
          ap part_of (go1.1 ∙ go2.1 ∙ g.1)
          ∙ part_map (list 8 true most) (λ m. record { head = go1.0; pos = go2.0; neg = g.0; aggs = m }) l (drop l t)
