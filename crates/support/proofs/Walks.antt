-- How the code walks: a list of atoms from index i on, one atom at a time; and how it tests a value. Assumes nothing.
use Rattle.std.specs.Prelude.{Some, None}
use Rattle.std.specs.Prelude as code
use mathlib.Core.Path.{◌≡◌, refl, sym, ap, ◌∙◌}
use mathlib.Core.Bool.{Bool, true, false, not, ◌&&◌}
use mathlib.Core.List.{List, [], ◌∷◌}
use Prim.Native.Nat.{ℕ, ◌+◌, ◌≤◌, ◌<◌}
use native.Mathlib.Numerals.{add-one}
use lib.Dec.{eqb}
use lib.IntN.{ℤ, pos, nat_abs}
use lib.ListN.{length, get_or, drop, drop_of_length-le}
use lib.Seq.{drop-cons}
use Rattle.interpretation.specs.declared.Value.{Value}
use Rattle.interpretation.specs.declared.Value.TheVariants.{True, False, Undefined}
use Rattle.layout.specs.Layout.{atoms}
use Rattle.valuing.specs.Values.{says_true}
use Rattle.support.specs.Asking.{same_value, first_with, other_true}

-- ---- whether two values are the same

same_yes : (v : Value) → same_value v v ≡ true
same_yes True = refl
same_yes False = refl
same_yes Undefined = refl

same_no : (v w : Value) → (w ≡ v → ⊥) → same_value v w ≡ false
same_no True True h = absurd (h refl)
same_no True False h = refl
same_no True Undefined h = refl
same_no False True h = refl
same_no False False h = absurd (h refl)
same_no False Undefined h = refl
same_no Undefined True h = refl
same_no Undefined False h = refl
same_no Undefined Undefined h = absurd (h refl)

-- the test, by what it tells
pub same_by : (b : Bool) (v w : Value) → (b ≡ true → w ≡ v) → (b ≡ false → w ≡ v → ⊥) → b ≡ same_value v w
same_by true v w f g = sym (ap (same_value v) (f refl) ∙ same_yes v)
same_by false v w f g = sym (same_no v w (g refl))

-- ---- a list of atoms

module _ (l : List ℤ) (i : ℕ) where
  abbrev here : ℕ
  here = nat_abs (get_or l i (pos 0))

  split : i < length l → atoms (drop i l) ≡ here ∷ atoms (drop (i + 1) l)
  split h = ap atoms (drop-cons l i (pos 0) h) ∙ ap (λ (j : ℕ). here ∷ atoms (drop j l)) (sym (add-one i))

  ended : length l ≤ i → atoms (drop i l) ≡ []
  ended h = ap atoms (drop_of_length-le l h)

  abbrev pick : Bool → ℕ → code.Option ℕ → code.Option ℕ
  pick b q c = elim b [ true ↦ Some q | false ↦ c ]

  module _ (g : ℕ → Value) (v : Value) where
    with_cons : (q : ℕ) (s : List ℕ) → first_with g v (q ∷ s) ≡ pick (same_value v (g q)) q (first_with g v s)
    unfolding first_with
    with_cons q s = refl

    with_nil : first_with g v [] ≡ None
    unfolding first_with
    with_nil = refl

    pub with_here : i < length l → same_value v (g here) ≡ true → first_with g v (atoms (drop i l)) ≡ Some here
    with_here h e = ap (first_with g v) (split h) ∙ with_cons here (atoms (drop (i + 1) l)) ∙ ap (λ (b : Bool). pick b here (first_with g v (atoms (drop (i + 1) l)))) e

    pub with_on : i < length l → same_value v (g here) ≡ false → first_with g v (atoms (drop i l)) ≡ first_with g v (atoms (drop (i + 1) l))
    with_on h e = ap (first_with g v) (split h) ∙ with_cons here (atoms (drop (i + 1) l)) ∙ ap (λ (b : Bool). pick b here (first_with g v (atoms (drop (i + 1) l)))) e

    pub with_end : length l ≤ i → first_with g v (atoms (drop i l)) ≡ None
    with_end h = ap (first_with g v) (ended h) ∙ with_nil

  module _ (g : ℕ → Value) (p : ℕ) where
    abbrev test : Bool
    test = not (eqb here p) && says_true (g here)

    other_cons : (q : ℕ) (s : List ℕ) → other_true g p (q ∷ s) ≡ pick (not (eqb q p) && says_true (g q)) q (other_true g p s)
    unfolding other_true
    other_cons q s = refl

    other_nil : other_true g p [] ≡ None
    unfolding other_true
    other_nil = refl

    pub other_here : i < length l → test ≡ true → other_true g p (atoms (drop i l)) ≡ Some here
    other_here h e = ap (other_true g p) (split h) ∙ other_cons here (atoms (drop (i + 1) l)) ∙ ap (λ (b : Bool). pick b here (other_true g p (atoms (drop (i + 1) l)))) e

    pub other_on : i < length l → test ≡ false → other_true g p (atoms (drop i l)) ≡ other_true g p (atoms (drop (i + 1) l))
    other_on h e = ap (other_true g p) (split h) ∙ other_cons here (atoms (drop (i + 1) l)) ∙ ap (λ (b : Bool). pick b here (other_true g p (atoms (drop (i + 1) l)))) e

    pub other_end : length l ≤ i → other_true g p (atoms (drop i l)) ≡ None
    other_end h = ap (other_true g p) (ended h) ∙ other_nil
