-- What a walk over the candidates makes of the marks: what is marked is added, the marks grow, a candidate is left or its atom is marked, and a walk
-- that leaves all candidates has come to an end.
-- Assumes nothing.
use Prim.Native.Nat.{ℕ, zero, suc, ◌≤◌, ◌<◌}
use native.Mathlib.Omega.{arith}
use mathlib.Core.Path.{◌≡◌, refl, sym, ap, ap₂, subst, ◌∙◌}
use mathlib.Core.Logic.{◌⊎◌, inl, inr, ◌≢◌, ◌↔◌}
use mathlib.Core.Bool.{Bool, true, false, not, ◌||◌}
use mathlib.Core.List.Memᴰ
use mathlib.Core.List.{List, [], ◌∷◌}
use lib.IntN.{ℤ}
use lib.ListN.{length}
use Rattle.meaning.specs.Lists.{Is, ◌∈◌, all}
use Rattle.meaning.specs.Aggregates.{Atoms}
use Rattle.meaning.specs.Program.{Rule, Program, In, AtomsIn}
use Rattle.meaning.specs.Answers.{◌⊆◌}
use Rattle.meaning.specs.Foundedness.{Added, add, Founded, atoms_to, founded}
use Rattle.meaning.proofs.Tools.{clash, cases, both, not_is, is_not_lem, or_l, or_r, or_e, all_at, all_i}
use Rattle.meaning.proofs.Cond.{if_eq_yes, if_eq_no, if_lt_no, eq_case, lt_case}
use Rattle.meaning.proofs.Meaning.{supports_only}
use Rattle.meaning.proofs.Closure.{Closed, closed_added}
use Rattle.meaning.proofs.Tested.{founded_test_lem}
use Rattle.interpretation.specs.State.{Cell, truth_of, true_atoms, AllDefined}
use Rattle.layout.specs.declared.Table.{Table}
use Rattle.layout.specs.Layout.{program_of, Laid}
use Rattle.layout.proofs.Inside.{atoms_in_lem}
use Rattle.std.specs.Prelude.{Some}
use Rattle.foundation.specs.Walk.{could_of, candidates_from, covers, atom_of, positives, Fit, with_atom, marks_by, left_by, marks_past, walk_marks, walk_left}
use Rattle.foundation.proofs.Decided.{true_at}
use Rattle.foundation.proofs.Adding.{could_supports, supports_could}
use Rattle.foundation.proofs.Candidates.{Stems, Named, candidates_e, candidates_i}

with_here : (p : ℕ) (G : Atoms) → Is (with_atom p G p)
with_here p G = if_eq_yes p p true (G p) refl

with_old : (p : ℕ) (G : Atoms) → G ⊆ with_atom p G
with_old p G q h = at (eq_case q p)
  where
    at : (q ≡ p) ⊎ (q ≢ p) → Is (with_atom p G q)
    at (inl e) = if_eq_yes q p true (G q) e
    at (inr e) = if_eq_no q p true (G q) e ∙ h

with_e : (p : ℕ) (G : Atoms) (q : ℕ) → Is (with_atom p G q) → (q ≡ p) ⊎ Is (G q)
with_e p G q h = at (eq_case q p)
  where
    at : (q ≡ p) ⊎ (q ≢ p) → (q ≡ p) ⊎ Is (G q)
    at (inl e) = inl e
    at (inr e) = inr (sym (if_eq_no q p true (G q) e) ∙ h)

-- ---- one candidate

module _ (c : ℕ) where
  past_grows : (b d : Bool) (G : Atoms) → G ⊆ marks_by b d c G
  past_grows true d G q h = h
  past_grows false true G q h = with_old (atom_of c) G q h
  past_grows false false G q h = h

  -- its atom is marked already, or it gets marked, or the candidate is left
  past_or_left : (b d : Bool) (G : Atoms) (l : List ℕ) → G (atom_of c) ≡ b → Is (marks_by b d c G (atom_of c)) ⊎ (c ∈ left_by b d c l)
  past_or_left true d G l e = inl e
  past_or_left false true G l e = inl (with_here (atom_of c) G)
  past_or_left false false G l e = inr (Memᴰ.head refl)

  left_e : (b d : Bool) (l m : List ℕ) (x : ℕ) → (x ∈ l → x ∈ m) → x ∈ left_by b d c l → x ∈ c ∷ m
  left_e true d l m x f k = Memᴰ.tail (f k)
  left_e false true l m x f k = Memᴰ.tail (f k)
  left_e false false l m x f k = at (Memᴰ.cases_cons k)
    where
      at : (x ≡ c) ⊎ (x ∈ l) → x ∈ c ∷ m
      at (inl e) = Memᴰ.head e
      at (inr j) = Memᴰ.tail (f j)

  left_tail : (b d : Bool) (l : List ℕ) (x : ℕ) → x ∈ l → x ∈ left_by b d c l
  left_tail true d l x k = k
  left_tail false true l x k = k
  left_tail false false l x k = Memᴰ.tail k

  left_number : (b d : Bool) (l : List ℕ) (n : ℕ) → length l ≤ n → length (left_by b d c l) ≤ suc n
  left_number true d l n h = omega arith
  left_number false true l n h = omega arith
  left_number false false l n h = omega arith

-- ---- the candidates of a list

module _ (t : List ℤ) where
  -- the walk from a candidate c on, once the two tests at c are made
  module _ (c : ℕ) (l : List ℕ) (G : Atoms) (b d : Bool) (e : G (atom_of c) ≡ b) (f : all G (positives t c) ≡ d) where
    past_is : marks_past t c G ≡ marks_by b d c G
    past_is = ap₂ (λ (x y : Bool). marks_by x y c G) e f

    pub marks_on : walk_marks t (c ∷ l) G ≡ walk_marks t l (marks_by b d c G)
    unfolding walk_marks
    marks_on = ap (walk_marks t l) past_is

    pub left_on : walk_left t (c ∷ l) G ≡ left_by b d c (walk_left t l (marks_by b d c G))
    unfolding walk_left
    left_on = ap₂ (λ (x y : Bool). left_by x y c (walk_left t l (marks_past t c G))) e f ∙ ap (λ (H : Atoms). left_by b d c (walk_left t l H)) past_is

  pub marks_nil : (G : Atoms) → walk_marks t [] G ≡ G
  unfolding walk_marks
  marks_nil G = refl

  pub left_nil : (G : Atoms) → walk_left t [] G ≡ []
  unfolding walk_left
  left_nil G = refl

  pub marks_grow : (l : List ℕ) (G : Atoms) → G ⊆ walk_marks t l G
  unfolding walk_marks
  marks_grow [] G q h = h
  marks_grow (c ∷ l) G q h = marks_grow l (marks_past t c G) q (past_grows c (G (atom_of c)) (all G (positives t c)) G q h)

  -- what is left was there
  pub left_from : (l : List ℕ) (G : Atoms) (x : ℕ) → x ∈ walk_left t l G → x ∈ l
  unfolding walk_left
  left_from [] G x k = k
  left_from (c ∷ l) G x k =
      left_e c (G (atom_of c)) (all G (positives t c)) (walk_left t l (marks_past t c G)) l x (left_from l (marks_past t c G) x) k

  -- what is not left has its atom marked
  pub left_or_marked : (l : List ℕ) (G : Atoms) (x : ℕ) → x ∈ l → Is (walk_marks t l G (atom_of x)) ⊎ (x ∈ walk_left t l G)
  unfolding walk_marks walk_left
  left_or_marked [] G x k = absurd (Memᴰ.not-nil k)
  left_or_marked (c ∷ l) G x k = at (Memᴰ.cases_cons k) (left_or_marked l (marks_past t c G) x)
    where
      first : (L : List ℕ) → x ≡ c → Is (marks_past t c G (atom_of c)) ⊎ (c ∈ L) → Is (walk_marks t l (marks_past t c G) (atom_of x)) ⊎ (x ∈ L)
      first L e (inl h) = inl (marks_grow l (marks_past t c G) (atom_of x) (ap (λ (y : ℕ). marks_past t c G (atom_of y)) e ∙ h))
      first L e (inr h) = inr (subst (λ (y : ℕ). y ∈ L) (sym e) h)

      next : (L : List ℕ) → Is (walk_marks t l (marks_past t c G) (atom_of x)) ⊎ (x ∈ L) → Is (walk_marks t l (marks_past t c G) (atom_of x)) ⊎ (x ∈ left_by (G (atom_of c)) (all G (positives t c)) c L)
      next L (inl h) = inl h
      next L (inr h) = inr (left_tail c (G (atom_of c)) (all G (positives t c)) L x h)

      at : (x ≡ c) ⊎ (x ∈ l) → (x ∈ l → Is (walk_marks t l (marks_past t c G) (atom_of x)) ⊎ (x ∈ walk_left t l (marks_past t c G)))
          → Is (walk_marks t l (marks_past t c G) (atom_of x)) ⊎ (x ∈ left_by (G (atom_of c)) (all G (positives t c)) c (walk_left t l (marks_past t c G)))
      at (inl e) f = first _ e (past_or_left c (G (atom_of c)) (all G (positives t c)) G (walk_left t l (marks_past t c G)) refl)
      at (inr j) f = next _ (f j)

  pub left_fewer : (l : List ℕ) (G : Atoms) → length (walk_left t l G) ≤ length l
  unfolding walk_left
  left_fewer [] G = omega arith
  left_fewer (c ∷ l) G = left_number c (G (atom_of c)) (all G (positives t c)) (walk_left t l (marks_past t c G)) (length l) (left_fewer l (marks_past t c G))

  -- where all are left, nothing is marked, and none could be
  abbrev Ended : List ℕ → Atoms → Atoms → Type 0
  Ended l G H = (H ≡ G) × ((x : ℕ) → x ∈ l → all G (positives t x) ≡ false)

  pub all_left : (l : List ℕ) (G : Atoms) → length (walk_left t l G) ≡ length l → Ended l G (walk_marks t l G)
  unfolding walk_marks walk_left
  all_left [] G e = (refl, λ x k. absurd (Memᴰ.not-nil k))
  all_left (c ∷ l) G e = at (G (atom_of c)) (all G (positives t c)) refl (all_left l G) e
    where
      at : (b d : Bool) → all G (positives t c) ≡ d → (length (walk_left t l G) ≡ length l → Ended l G (walk_marks t l G))
          → length (left_by b d c (walk_left t l (marks_by b d c G))) ≡ suc (length l) → Ended (c ∷ l) G (walk_marks t l (marks_by b d c G))
      at true d f g h = absurd (omega (arith, left_fewer l G, h))
      at false true f g h = absurd (omega (arith, left_fewer l (with_atom (atom_of c) G), h))
      at false false f g h = let r = g (omega (arith, h)) in (r.0, λ x k. pick x r.1 (Memᴰ.cases_cons k))
        where
          pick : (x : ℕ) → ((x : ℕ) → x ∈ l → all G (positives t x) ≡ false) → (x ≡ c) ⊎ (x ∈ l) → all G (positives t x) ≡ false
          pick x g (inl i) = ap (λ (y : ℕ). all G (positives t y)) i ∙ f
          pick x g (inr j) = g x j

-- ---- over a program

module _ (n : ℕ) (a : ℕ → Cell) (D : AllDefined n a) (P : Program) (A : AtomsIn n P) where
  abbrev X : Atoms
  X = true_atoms n a

  -- what is marked is added
  abbrev pub Sound : Atoms → Type 0
  Sound G = (p : ℕ) → Is (G p) → Added P X p

  sound_true : (G : Atoms) → Sound G → G ⊆ X
  sound_true G s p h = at (s p h)
    where
      at : Added P X p → Is (X p)
      at (add r m k b) = (supports_only X r p k).is_true

  module _ (t : List ℤ) where
    -- a candidate whose positive atoms are marked adds its atom
    candidate_adds : (c : ℕ) → Stems a t P c → (G : Atoms) → Sound G → Is (all G (positives t c)) → Added P X (atom_of c)
    candidate_adds c k G s h =
        let r = k.rule in
        let g : Is (all G r.pos) = ap (all G) (sym k.same) ∙ h in
        add r k.inside (could_supports n a D r (A r k.inside) (atom_of c) k.could (λ q m. sound_true G s q (all_at G r.pos g m)))
        (λ q m. s q (all_at G r.pos g m))

    past_sound : (c : ℕ) → Stems a t P c → (G : Atoms) → Sound G → (b d : Bool) → all G (positives t c) ≡ d → Sound (marks_by b d c G)
    past_sound c k G s true d e q h = s q h
    past_sound c k G s false true e q h = at (with_e (atom_of c) G q h)
      where
        at : (q ≡ atom_of c) ⊎ Is (G q) → Added P X q
        at (inl i) = subst (Added P X) (sym i) (candidate_adds c k G s e)
        at (inr j) = s q j
    past_sound c k G s false false e q h = s q h

    pub walk_sound : (l : List ℕ) → ((c : ℕ) → c ∈ l → Stems a t P c) → (G : Atoms) → Sound G → Sound (walk_marks t l G)
    unfolding walk_marks
    walk_sound [] f G s = s
    walk_sound (c ∷ l) f G s =
        walk_sound l (λ x m. f x (Memᴰ.tail m)) (marks_past t c G)
        (past_sound c (f c (Memᴰ.head refl)) G s (G (atom_of c)) (all G (positives t c)) refl)

    -- between two walks: marked atoms G, candidates l. A rule that could add an atom not yet marked is among them
    pub record Between (G : Atoms) (l : List ℕ) : Type 0 where
      pub sound : Sound G
      pub told : (c : ℕ) → c ∈ l → Stems a t P c
      pub whole : (r : Rule) → r ∈ P → (p : ℕ) → could_of a r ≡ Some p → Is (G p) ⊎ Named t l r p

    pub between_fits : (G : Atoms) (l : List ℕ) → Between G l → Fit t l
    between_fits G l b c m = (b.told c m).lies

    pub between_on : (G : Atoms) (l : List ℕ) → Between G l → Between (walk_marks t l G) (walk_left t l G)
    between_on G l b = record {
      sound = walk_sound l b.told G b.sound;
      told = λ c m. b.told c (left_from t l G c m);
      whole = λ r m p e. at r p (b.whole r m p e);
    }
      where
        kept : (r : Rule) (p : ℕ) (k : Named t l r p) → Is (walk_marks t l G (atom_of k.code)) ⊎ (k.code ∈ walk_left t l G) → Is (walk_marks t l G p) ⊎ Named t (walk_left t l G) r p
        kept r p k (inl h) = inl (ap (walk_marks t l G) (sym k.atom) ∙ h)
        kept r p k (inr h) = inr (record { code = k.code; inside = h; atom = k.atom; same = k.same })

        at : (r : Rule) (p : ℕ) → Is (G p) ⊎ Named t l r p → Is (walk_marks t l G p) ⊎ Named t (walk_left t l G) r p
        at r p (inl h) = inl (marks_grow t l G p h)
        at r p (inr k) = kept r p k (left_or_marked t l G k.code k.inside)

    -- the end: what is marked is what is added
    pub between_end : (G : Atoms) (l : List ℕ) → Between G l → length (walk_left t l G) ≡ length l → (p : ℕ) → Is (walk_marks t l G p) ↔ Added P X p
    between_end G l b e p =
        let s = all_left t l G e in
        let same : walk_marks t l G p ≡ G p = ap (λ (H : Atoms). H p) s.0 in
        (λ h. b.sound p (sym same ∙ h), λ d. same ∙ closed_added P X G (closed s.1) d)
      where
        closed : ((x : ℕ) → x ∈ l → all G (positives t x) ≡ false) → Closed P X G
        closed none r m p s f = at (b.whole r m p (supports_could n a D r (A r m) p s))
          where
            at : Is (G p) ⊎ Named t l r p → Is (G p)
            at (inl h) = h
            at (inr k) = absurd (clash (ap (all G) k.same ∙ all_i G r.pos f) (none k.code k.inside))

  -- ---- the test

  atoms_i : (m p : ℕ) → In m p → p ∈ atoms_to m
  atoms_i zero p i = absurd (omega arith)
  atoms_i (suc m) p i = at (lt_case p (suc m)) (λ k. atoms_i m p (i.0, k))
    where
      at : (p < suc m) ⊎ (suc m ≤ p) → (p ≤ m → p ∈ atoms_to m) → p ∈ suc m ∷ atoms_to m
      at (inl h) f = Memᴰ.tail (f (omega arith))
      at (inr h) f = let e : p ≡ suc m = omega (arith, i.1) in Memᴰ.head e

  atoms_e : (m p : ℕ) → p ∈ atoms_to m → In m p
  atoms_e zero p k = absurd (Memᴰ.not-nil k)
  atoms_e (suc m) p k = at (Memᴰ.cases_cons k) (λ j. atoms_e m p j)
    where
      at : (p ≡ suc m) ⊎ (p ∈ atoms_to m) → (p ∈ atoms_to m → In m p) → In (suc m) p
      at (inl e) f = (omega arith, omega arith)
      at (inr j) f = let t = f j in (t.0, omega (arith, t.1))

  true_in_lem : (p : ℕ) → Is (X p) → In n p
  true_in_lem zero h = absurd (clash h refl)
  true_in_lem (suc q) h = at (lt_case q n)
    where
      at : (q < n) ⊎ (n ≤ q) → In n (suc q)
      at (inl l) = (omega arith, l)
      at (inr l) = absurd (clash h (if_lt_no q n (truth_of (a (suc q))) false l))

  -- "All true atoms added: answer"
  pub covered : (G : Atoms) → ((p : ℕ) → Is (G p) ↔ Added P X p) → all (covers a G) (atoms_to n) ≡ founded P n X
  covered G g =
      both _ _
      (λ h. (founded_test_lem P n X A true_in_lem).1 (λ p x. (g p).0 (down h p x)))
      (λ h. all_i (covers a G) (atoms_to n) (λ p m. up ((founded_test_lem P n X A true_in_lem).0 h) p m (cases (truth_of (a p)))))
    where
      down : Is (all (covers a G) (atoms_to n)) → (p : ℕ) → Is (X p) → Is (G p)
      down h p x = at (or_e _ _ (all_at (covers a G) (atoms_to n) h (atoms_i n p (true_in_lem p x))))
        where
          at : Is (not (truth_of (a p))) ⊎ Is (G p) → Is (G p)
          at (inl k) = absurd (clash (sym (true_at n a p (true_in_lem p x)) ∙ x) (not_is _ k))
          at (inr k) = k

      up : Founded P X → (p : ℕ) → p ∈ atoms_to n → Is (truth_of (a p)) ⊎ (truth_of (a p) ≡ false) → Is (not (truth_of (a p)) || G p)
      up F p m (inl t) = or_r (not (truth_of (a p))) _ ((g p).1 (F p (true_at n a p (atoms_e n p m) ∙ t)))
      up F p m (inr t) = or_l _ _ (is_not_lem (truth_of (a p)) t)

-- ---- before the first walk, and from then on

pub between_start : (t : List ℤ) (tb : Table) (laid : Laid t tb) (a : ℕ → Cell) (D : AllDefined tb.atoms a) (G : Atoms) → ((p : ℕ) → G p ≡ false)
    → Between tb.atoms a D (program_of t tb) (atoms_in_lem t tb laid) t G (candidates_from a t tb.first tb.rules)
between_start t tb laid a D G none = record {
  sound = λ p h. absurd (clash h (none p));
  told = candidates_e a t tb laid tb.first tb.rules laid.rules_lie;
  whole = λ r m p e. inr (candidates_i a t tb laid tb.first tb.rules laid.rules_lie r m p e);
}

-- whatever program l and G are between two walks of, m and H are too
abbrev pub Kept : (ℕ → Cell) → List ℤ → Atoms → List ℕ → Atoms → List ℕ → Type 0
Kept a t G l H m = (n : ℕ) (D : AllDefined n a) (P : Program) (A : AtomsIn n P) → Between n a D P A t G l → Between n a D P A t H m
