-- Min and max where only the true elements are known: if they settle the aggregate, one of them does so alone, or nothing is known.
-- Assumes nothing.
use mathlib.Core.Path.{◌≡◌, refl, sym, ◌∙◌, ap}
use mathlib.Core.Logic.{◌⊎◌, inl, inr}
use mathlib.Core.Bool.{Bool, true, false, not, ◌||◌}
use mathlib.Core.List.Memᴰ
use mathlib.Core.List.{List, [], ◌∷◌}
use Prim.Native.Nat.{ℕ, ◌-◌}
use native.Mathlib.Omega.{arith}
use lib.Dec.{ltb}
use lib.ListN.{length}
use borrow.Author.Tests.{le-ltb}
use Rattle.meaning.specs.Lists.{Is, ◌∈◌, has}
use Rattle.meaning.specs.Program.{Element}
use Rattle.meaning.specs.declared.Comparison.{Comparison}
use Rattle.meaning.proofs.Tools.{clash, cases, contra, has_i, has_e}
use Rattle.interpretation.specs.State.{Cell, undefined, defined, truth_of}
use Rattle.interpretation.specs.View.{cell_value}
use Rattle.interpretation.specs.declared.Value.{Value}
use Rattle.interpretation.specs.declared.Value.TheVariants.{True, Undefined}
use Rattle.valuing.specs.Settling.{known_if, restricted, is_defined, atoms_that}
use Rattle.valuing.proofs.Settling.{atoms_in_lem, atoms_from_lem}
use Rattle.literals.specs.Elements.{Marks, part_of, marked_by, marks_of}
use Rattle.literals.specs.Settled.{passing_of, alone_by, alone_at}
use Rattle.literals.proofs.Marked.{settled_by, over, ltb_none, ok, failing_of, failing_is, passing_member, marks_by, marks_by_lem, marks_same}

module _ (c : Comparison) (k : ℕ) (a : ℕ → Cell) where
  abbrev true_only : Cell → Value
  true_only undefined = Undefined
  true_only (defined true l) = True
  true_only (defined false l) = Undefined

  known_true : (b : Bool) (x : Cell) → (Is b → Is (truth_of x)) → (Is (truth_of x) → Is b) → cell_value (known_if b x) ≡ true_only x
  known_true true undefined f g = refl
  known_true false undefined f g = refl
  known_true true (defined true l) f g = refl
  known_true false (defined true l) f g = absurd (clash (g refl) refl)
  known_true true (defined false l) f g = absurd (clash (f refl) refl)
  known_true false (defined false l) f g = refl

  abbrev true_marks : List Element → Marks
  true_marks es = marks_by c k (λ e. true_only (a e.atom)) es

  -- every element could be true
  could : (x : Cell) (b : Bool) (m : Marks) → ((marked_by (true_only x) b m).passable ≡ (b || m.passable)) × ((marked_by (true_only x) b m).failable ≡ (not b || m.failable))
  could undefined b m = (refl, refl)
  could (defined true l) b m = (refl, refl)
  could (defined false l) b m = (refl, refl)

  true_passable : (es : List Element) → (true_marks es).passable ≡ ltb 0 (passing_of c k es)
  true_passable [] = sym (le-ltb 0 0 (omega arith))
  true_passable (e ∷ es) = (could (a e.atom) (ok c k e) (true_marks es)).0 ∙ ap (λ (b : Bool). ok c k e || b) (true_passable es) ∙ over (ok c k e) 0 (passing_of c k es) (omega arith)

  true_failable : (es : List Element) → (true_marks es).failable ≡ ltb 0 (failing_of c k es)
  true_failable [] = sym (le-ltb 0 0 (omega arith))
  true_failable (e ∷ es) = (could (a e.atom) (ok c k e) (true_marks es)).1 ∙ ap (λ (b : Bool). not (ok c k e) || b) (true_failable es) ∙ over (not (ok c k e)) 0 (failing_of c k es) (omega arith)

  -- a true element whose value passes, or fails
  abbrev Hit : List Element → Bool → Type 0
  Hit es b = (e : Element) × (e ∈ es) × Is (truth_of (a e.atom)) × (ok c k e ≡ b)

  later : (d : Element) (es : List Element) (b : Bool) → Hit es b → Hit (d ∷ es) b
  later d es b t = (t.0, Memᴰ.tail t.1, t.2, t.3)

  passed_hit : (es : List Element) → Is (true_marks es).passed → Hit es true
  passed_hit [] h = absurd (clash h refl)
  passed_hit (e ∷ es) h = at (a e.atom) refl (ok c k e) refl h (passed_hit es)
    where
      at : (x : Cell) → a e.atom ≡ x → (b : Bool) → ok c k e ≡ b → Is (marked_by (true_only x) b (true_marks es)).passed → (Is (true_marks es).passed → Hit es true) → Hit (e ∷ es) true
      at undefined q b o k next = later e es true (next k)
      at (defined false l) q b o k next = later e es true (next k)
      at (defined true l) q true o k next = (e, Memᴰ.head refl, ap truth_of q, o)
      at (defined true l) q false o k next = later e es true (next k)

  failed_hit : (es : List Element) → Is (true_marks es).failed → Hit es false
  failed_hit [] h = absurd (clash h refl)
  failed_hit (e ∷ es) h = at (a e.atom) refl (ok c k e) refl h (failed_hit es)
    where
      at : (x : Cell) → a e.atom ≡ x → (b : Bool) → ok c k e ≡ b → Is (marked_by (true_only x) b (true_marks es)).failed → (Is (true_marks es).failed → Hit es false) → Hit (e ∷ es) false
      at undefined q b o k next = later e es false (next k)
      at (defined false l) q b o k next = later e es false (next k)
      at (defined true l) q true o k next = later e es false (next k)
      at (defined true l) q false o k next = (e, Memᴰ.head refl, ap truth_of q, o)

  module _ (each : Bool) (es : List Element) where
    abbrev pub Alone : Element → Bool
    Alone e = alone_at each (a e.atom) (ok c k e) (passing_of c k es) (length es - passing_of c k es)

    hit_alone : (b : Bool) → Hit es b → alone_by each true b (ltb (part_of b 1) (passing_of c k es)) (ltb (part_of (not b) 1) (length es - passing_of c k es)) ≡ true
        → (e : Element) × (e ∈ es) × Is (Alone e)
    hit_alone b t h = (t.0, t.1, at (a t.0.atom) t.2)
      where
        at : (x : Cell) → Is (truth_of x) → alone_at each x (ok c k t.0) (passing_of c k es) (length es - passing_of c k es) ≡ true
        at undefined q = absurd (clash q refl)
        at (defined false l) q = absurd (clash q refl)
        at (defined true l) q = ap (λ (x : Bool). alone_by each true x (ltb (part_of x 1) (passing_of c k es)) (ltb (part_of (not x) 1) (length es - passing_of c k es))) t.3 ∙ h

    -- no element's value passes: each that is known settles it
    fails_alone : (each v f : Bool) → alone_by each v false false f ≡ true
    fails_alone true true f = refl
    fails_alone true false f = refl
    fails_alone false true f = refl
    fails_alone false false f = refl

    none_passes : passing_of c k es ≡ 0 → (e : Element) → e ∈ es → Is (is_defined (a e.atom)) → Is (Alone e)
    none_passes z e m d = at (a e.atom) d
      where
        P : ℕ
        P = passing_of c k es

        F : ℕ
        F = length es - passing_of c k es

        fails : ok c k e ≡ false
        fails = contra (ok c k e) {b = false} (λ x. absurd (bad x)) refl
          where
            bad : Is (ok c k e) → ⊥
            bad x = let p = passing_member c k e es m in let o : part_of (ok c k e) 1 ≡ 1 = ap (λ (b : Bool). part_of b 1) x in omega arith

        at : (x : Cell) → Is (is_defined x) → alone_at each x (ok c k e) (passing_of c k es) (length es - passing_of c k es) ≡ true
        at undefined q = absurd (clash q refl)
        at (defined v l) q =
            ap (λ (b : Bool). alone_by each v b (ltb (part_of b 1) P) (ltb (part_of (not b) 1) F)) fails
            ∙ ap (λ (b : Bool). alone_by each v false b (ltb 1 F)) (ap (ltb 0) z ∙ le-ltb 0 0 (omega arith)) ∙ fails_alone each v (ltb 1 F)

    -- where no element settles it alone, the true ones do only if nothing is known
    pub marks_true : ((e : Element) → e ∈ es → Alone e ≡ false) → Is (settled_by each (marks_of c k (restricted (atoms_that truth_of a es) a) es)) → (e : Element) → e ∈ es → is_defined (a e.atom) ≡ false
    marks_true n h = at each refl (cases (true_marks es).passed) (cases (true_marks es).failed) (cases (true_marks es).passable) (cases (true_marks es).failable)
      where
        known : Is (settled_by each (true_marks es))
        known =
            sym (ap (settled_by each)
            (marks_by_lem c k (restricted (atoms_that truth_of a es) a) es
            ∙ marks_same c k (λ e. cell_value (restricted (atoms_that truth_of a es) a e.atom)) (λ e. true_only (a e.atom)) es (λ e m.
            known_true (has e.atom (atoms_that truth_of a es)) (a e.atom) (λ x. (atoms_from_lem truth_of a es e.atom (has_e (atoms_that truth_of a es) x)).3) (λ x. has_i (atoms_in_lem truth_of a es e m x))))) ∙ h

        Out : Type 0
        Out = (e : Element) → e ∈ es → is_defined (a e.atom) ≡ false

        against : (e : Element) × (e ∈ es) × Is (Alone e) → Out
        against t = absurd (clash t.2 (n t.0 t.1))

        empty : (true_marks es).passable ≡ false → Out
        empty q e m =
            contra (is_defined (a e.atom)) {b = false} (λ d. absurd (clash (none_passes (ltb_none (passing_of c k es) (sym (true_passable es) ∙ q)) e m d) (n e m))) refl

        -- the marks, field by field
        is : (p f q u : Bool) → (true_marks es).passed ≡ p → (true_marks es).failed ≡ f → (true_marks es).passable ≡ q → (true_marks es).failable ≡ u
            → Is (settled_by each (record { passed = p; failed = f; passable = q; failable = u }))
        is p f q u ep ef eq eu = sym (ap (settled_by each) (λ t. record { passed = ep t; failed = ef t; passable = eq t; failable = eu t })) ∙ known

        full : (true_marks es).failable ≡ false → ltb 0 (length es - passing_of c k es) ≡ false
        full q = ap (ltb 0) (failing_is c k es) ∙ sym (true_failable es) ∙ q

        Case : Bool → Type 0
        Case b = Is b ⊎ (b ≡ false)

        at : (x : Bool) → each ≡ x → Case (true_marks es).passed → Case (true_marks es).failed → Case (true_marks es).passable → Case (true_marks es).failable → Out
        at x e p f (inr q) u = empty q
        at false e (inl p) f (inl q) u =
            against (hit_alone true (passed_hit es p) (ap (λ (b : Bool). alone_by b true true (ltb 1 (passing_of c k es)) (ltb 0 (length es - passing_of c k es))) e))
        at false e (inr p) f (inl q) u = absurd (open_some p q)
          where
            open_some : (true_marks es).passed ≡ false → Is (true_marks es).passable → ⊥
            open_some ep eq =
                clash (is false (true_marks es).failed true (true_marks es).failable ep refl eq refl) (ap (λ (b : Bool). settled_by b (record { passed = false; failed = (true_marks es).failed; passable = true; failable = (true_marks es).failable })) e)
        at true e p (inl f) (inl q) u =
            against (hit_alone false (failed_hit es f) (ap (λ (b : Bool). alone_by b true false (ltb 0 (passing_of c k es)) (ltb 1 (length es - passing_of c k es))) e))
        at true e (inl p) (inr f) (inl q) (inr u) =
            against (hit_alone true (passed_hit es p)
            (ap (λ (b : Bool). alone_by b true true (ltb 1 (passing_of c k es)) (ltb 0 (length es - passing_of c k es))) e ∙ ap (λ (b : Bool). not true || not b) (full u)))
        at true e (inl p) (inr f) (inl q) (inl u) =
            absurd (clash (is true false true true p f q u) (ap (λ (b : Bool). settled_by b (record { passed = true; failed = false; passable = true; failable = true })) e))
        at true e (inr p) (inr f) (inl q) u =
            absurd (clash (is false false true (true_marks es).failable p f q refl) (ap (λ (b : Bool). settled_by b (record { passed = false; failed = false; passable = true; failable = (true_marks es).failable })) e))
