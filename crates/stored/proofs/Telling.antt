-- Numbers as the code takes them from the bytes: what it was told of one, and where the next begins. Assumes nothing.
use mathlib.Core.Path.{◌≡◌, sym, ap, ◌∙◌, subst}
use mathlib.Core.Bool.{Bool, true, false, not}
use mathlib.Core.List.{List}
use mathlib.Core.Logic.{◌⊎◌, inl, inr}
use mathlib.Core.Option.{none}
use Prim.Native.Nat.{ℕ, ◌+◌, ◌-◌, ◌≤◌, ◌<◌}
use native.Mathlib.Omega.{arith}
use lib.Dec.{T}
use lib.IntN.{ℤ, pos, negsuc, nat_abs}
use lib.ListN.{length, drop}
use lib.Signed.{non_neg}
use Rattle.std.specs.Prelude.{Option, Some, None, Ok, Err}
use Rattle.meaning.proofs.Cond.{lt_case}
use Rattle.results.specs.declared.Refusal.{Refusal}
use Rattle.table.specs.Roles.{Role, count, quantity, member, fault}
use Rattle.stored.specs.Bytes.{from_complement, from_twice, two_of, four_of, Step, stop, go, step_of}
use Rattle.stored.specs.Machine.{Got, role_of, got_of, signed}
use Rattle.stored.specs.declared.points.Asked.{Asked}
use Rattle.stored.specs.declared.points.Asked.TheVariants as asked
use Rattle.stored.proofs.Forms.{two_there, four_there, two_cut, four_cut, cut≢whole, rest_in}
use Rattle.stored.proofs.Steps.{count_form, quantity_form, threshold_form, member_form, literal_form}
use Rattle.stored.proofs.NumberLaws.{Gone, gone}
use Rattle.stored.proofs.Going.{signed_back}

-- ---- a number that was read, in the whole of the bytes

pub record Stands (role : Role) (l : List ℕ) (i : ℕ) (w : ℤ) (j : ℕ) (rest : List ℕ) : Type 0 where
  pub good : fault role i w ≡ none
  pub low : i < j
  pub high : j ≤ length l
  pub after : rest ≡ drop j l

module _ (role : Role) (l : List ℕ) (i : ℕ) (value : ℕ → ℤ) (w : ℤ) (j : ℕ) (rest : List ℕ) (h : i ≤ length l) where
  by_two : Gone role i 2 value (two_of (drop i l)) w j rest → Stands role l i w j rest
  by_two g = at (lt_case (length l - i) 2)
    where
      at : (length l - i < 2) ⊎ (2 ≤ length l - i) → Stands role l i w j rest
      at (inl k) = cut≢whole (sym (two_cut l i k) ∙ g.there)
      at (inr k) =
          let n = g.next in
          let e : i + 2 ≤ length l = omega arith in
          record { good = g.good; low = omega arith; high = omega arith; after = sym (ap rest_in (sym (two_there l i e) ∙ g.there)) ∙ ap (λ (m : ℕ). drop m l) (sym n) }

  by_four : Gone role i 4 value (four_of (drop i l)) w j rest → Stands role l i w j rest
  by_four g = at (lt_case (length l - i) 4)
    where
      at : (length l - i < 4) ⊎ (4 ≤ length l - i) → Stands role l i w j rest
      at (inl k) = cut≢whole (sym (four_cut l i k) ∙ g.there)
      at (inr k) =
          let n = g.next in
          let e : i + 4 ≤ length l = omega arith in
          record { good = g.good; low = omega arith; high = omega arith; after = sym (ap rest_in (sym (four_there l i e) ∙ g.there)) ∙ ap (λ (m : ℕ). drop m l) (sym n) }

pub number_stands : (a : Option Asked) (l : List ℕ) (i : ℕ) (w : ℤ) (j : ℕ) (rest : List ℕ) → i ≤ length l → step_of (role_of a) i (drop i l) ≡ go w j rest → Stands (role_of a) l i w j rest
number_stands (Some (asked.Count m)) l i w j rest h e = by_two (count m) l i pos w j rest h (gone (count m) i 2 pos (two_of (drop i l)) w j rest (sym (count_form m i (drop i l)) ∙ e))
number_stands (Some (asked.Quantity m)) l i w j rest h e =
    by_two (quantity (pos 0) (pos m)) l i pos w j rest h (gone (quantity (pos 0) (pos m)) i 2 pos (two_of (drop i l)) w j rest (sym (quantity_form m i (drop i l)) ∙ e))
number_stands (Some asked.Threshold) l i w j rest h e =
    by_four (quantity (negsuc 0) (pos 4194304)) l i from_complement w j rest h (gone (quantity (negsuc 0) (pos 4194304)) i 4 from_complement (four_of (drop i l)) w j rest (sym (threshold_form i (drop i l)) ∙ e))
number_stands (Some (asked.Member top p)) l i w j rest h e =
    by_two (member false top p) l i pos w j rest h (gone (member false top p) i 2 pos (two_of (drop i l)) w j rest (sym (member_form top p i (drop i l)) ∙ e))
number_stands (Some (asked.Literal top p)) l i w j rest h e =
    by_two (member true top p) l i from_twice w j rest h (gone (member true top p) i 2 from_twice (two_of (drop i l)) w j rest (sym (literal_form top p i (drop i l)) ∙ e))
number_stands None l i w j rest h e = by_two (count 0) l i pos w j rest h (gone (count 0) i 2 pos (two_of (drop i l)) w j rest (sym (count_form 0 i (drop i l)) ∙ e))

-- ---- what the code was told of a number

abbrev is_number : Got → Bool
is_number (Ok (n, minus, j)) = true
is_number (Err f) = false

abbrev size_in : Got → ℕ
size_in (Ok (n, minus, j)) = n
size_in (Err f) = 0

abbrev sign_in : Got → Bool
sign_in (Ok (n, minus, j)) = minus
sign_in (Err f) = false

abbrev next_in : Got → ℕ
next_in (Ok (n, minus, j)) = j
next_in (Err f) = 0

abbrev fault_in : Refusal → Got → Refusal
fault_in d (Ok (n, minus, j)) = d
fault_in d (Err f) = f

pub record Said (s : Step) (n : ℕ) (minus : Bool) (j : ℕ) : Type 0 where
  pub w : ℤ
  pub rest : List ℕ
  pub step : s ≡ go w j rest
  pub size : n ≡ nat_abs w
  pub whole : signed minus n ≡ w

pub said_number : (s : Step) (n : ℕ) (minus : Bool) (j : ℕ) → got_of s ≡ Ok (n, minus, j) → Said s n minus j
said_number (stop f) n minus j e = absurd (subst T (sym (ap is_number e)) tt)
said_number (go w i bs) n minus j e =
    let m = sym (ap size_in e) in
    record {
      w = w;
      rest = bs;
      step = ap (λ (k : ℕ). go w k bs) (ap next_in e);
      size = m;
      whole = ap (λ (b : Bool). signed b n) (sym (ap sign_in e)) ∙ ap (signed (not (non_neg w))) m ∙ signed_back w;
    }

pub said_refused : (s : Step) (f : Refusal) → got_of s ≡ Err f → s ≡ stop f
said_refused (stop r) f e = ap stop (ap (fault_in f) e)
said_refused (go w i bs) f e = absurd (subst T (ap is_number e) tt)
