-- One array of marks and a walk over the rules for each round make the defined rounds and rules, for every program and every set of atoms.
--   marks_are_whys    after the rounds 1 to k the marks are `why_of P k X`
--   marked-sole, marked-none   a rule changes the mark of at most one atom, its only true head atom
--   quiet_stays       a round that adds nothing is the last one: the marks stay as they are in all later rounds
-- Assumes nothing.
use mathlib.Core.Path.{◌≡◌, refl, sym, ap, ap₂, ◌∙◌, fun_ext, subst}
use mathlib.Core.Logic.{◌⊎◌, inl, inr, ◌≢◌}
use mathlib.Core.Bool.{Bool, true, false, cond, ◌&&◌, ◌||◌}
use mathlib.Core.List.{[], ◌∷◌}
use Prim.Native.Nat.{ℕ, zero, suc, ◌+◌, ◌≤◌}
use native.Mathlib.Omega.{arith}
use lib.Dec.{eqb, ltb}
use Rattle.meaning.specs.Lists.{Is, ◌∈◌, all, any}
use Rattle.meaning.specs.Aggregates.{Atoms}
use Rattle.meaning.specs.Program.{Rule, Program}
use Rattle.meaning.specs.Foundedness.{supports}
use Rattle.numbered.specs.Numbered.{lowest_from, lowest_rule}
use Rattle.meaning.proofs.Tools.{clash, and_i, and_l, and_r, eq, neq_i, both, contra}
use Rattle.meaning.proofs.Bounds.{lt, lt_i}
use Rattle.meaning.proofs.Cond.{if_eq_yes, if_eq_no, eq_case}
use Rattle.meaning.proofs.Meaning.{supports_only}
use Rattle.meaning.specs.Cond.{if_eq}
use Rattle.numbered.proofs.Numbered.{LowestIs, lowest_cases, numbered_in, numbered_from_lem}
use Rattle.rounds.specs.declared.Why.{Why}
use Rattle.rounds.specs.Rounds.{adds, added_by, first_from, round_of, why_at, why_of}
use Rattle.rounds.specs.Marks.{seen, earlier, marked, walk, marks_after}
use Rattle.rounds.proofs.Rounds.{added_old, added_up, added_e, added_new, round_holds, holds_round, why_round}

-- what the walk of a round makes of one mark: j is the lowest rule that can add the atom, 0 if none can
abbrev given : Why → ℕ → ℕ → Why
given v r zero = v
given v r (suc j) = cond (eqb v.round 0) (record { round = r; rule = suc j }) v

given_kept : (v : Why) (r j : ℕ) → eqb v.round 0 ≡ false → given v r j ≡ v
given_kept v r zero e = refl
given_kept v r (suc j) e = ap (λ (b : Bool). cond b (record { round = r; rule = suc j }) v) e

-- rule number i + 1 passes (b) or not, the atom has no round (z) or has one
given_step : (v : Why) (r i j : ℕ) (b z : Bool) → eqb v.round 0 ≡ z → given (cond (z && b) (record { round = suc r; rule = suc i }) v) (suc r) j ≡ given v (suc r) (cond b (suc i) j)
given_step v r i j true true e = given_kept (record { round = suc r; rule = suc i }) (suc r) j (neq_i (suc r) 0 (λ h. omega arith)) ∙ sym (ap (λ (c : Bool). cond c (record { round = suc r; rule = suc i }) v) e)
given_step v r i j true false e = given_kept v (suc r) j e ∙ sym (given_kept v (suc r) (suc i) e)
given_step v r i j false true e = refl
given_step v r i j false false e = refl

module _ (X : Atoms) where
  -- a rule that does not support an atom leaves its mark
  unmarked : (r i : ℕ) (s : Rule) (w : ℕ → Why) (q : ℕ) → supports X s q ≡ false → marked X r i s w q ≡ w q
  unmarked r i s w q n =
      ap (λ (b : Bool). cond (eqb (w q).round 0 && (b && all (earlier w r) s.pos)) (record { round = r; rule = i }) (w q)) n ∙ at (eqb (w q).round 0)
    where
      at : (z : Bool) → cond (z && false) (record { round = r; rule = i }) (w q) ≡ w q
      at true = refl
      at false = refl

  -- what a round marks is not seen by it
  marked_earlier : (r i : ℕ) (s : Rule) (w : ℕ → Why) → earlier (marked X r i s w) r ≡ earlier w r
  marked_earlier r i s w = fun_ext (λ b. at b (eqb (w b).round 0 && (supports X s b && all (earlier w r) s.pos)) refl)
    where
      at : (b : ℕ) (c : Bool) → (eqb (w b).round 0 && (supports X s b && all (earlier w r) s.pos)) ≡ c → earlier (marked X r i s w) r b ≡ earlier w r b
      at b true e =
          let z = eq (w b).round 0 (and_l (eqb (w b).round 0) _ e) in
          let new : seen r (record { round = r; rule = i }) ≡ false = contra (seen r (record { round = r; rule = i })) {b = false} (λ h. let l = lt r r (and_r (ltb 0 r) _ h) in absurd (omega arith)) refl in
          let old : earlier w r b ≡ false = contra (earlier w r b) {b = false} (λ h. let l = lt 0 (w b).round (and_l (ltb 0 (w b).round) _ h) in absurd (omega arith)) refl in
          ap (λ (c : Bool). seen r (cond c (record { round = r; rule = i }) (w b))) e ∙ new ∙ sym old
      at b false e = ap (λ (c : Bool). seen r (cond c (record { round = r; rule = i }) (w b))) e

  -- the walk, as one mark sees it
  walk_given : (r i : ℕ) (P : Program) (w : ℕ → Why) (p : ℕ) → walk X (suc r) (suc i) P w p ≡ given (w p) (suc r) (lowest_from (adds X (earlier w (suc r)) p) (suc i) P)
  unfolding walk adds
  walk_given r i [] w p = refl
  walk_given r i (s ∷ P) w p =
      walk_given r (suc i) P (marked X (suc r) (suc i) s w) p
      ∙ ap (λ (G : Atoms). given (marked X (suc r) (suc i) s w p) (suc r) (lowest_from (λ t. supports X t p && all G t.pos) (suc (suc i)) P)) (marked_earlier (suc r) (suc i) s w)
      ∙ given_step (w p) r i (lowest_from (λ t. supports X t p && all (earlier w (suc r)) t.pos) (suc (suc i)) P) (supports X s p && all (earlier w (suc r)) s.pos) (eqb (w p).round 0) refl

  -- ---- what one rule does: code looks at its only true head atom alone

  pub marked_sole : (r i : ℕ) (s : Rule) (w : ℕ → Why) (p : ℕ) → Is (supports X s p)
      → marked X r i s w ≡ (λ q. if_eq q p (cond (eqb (w p).round 0 && all (earlier w r) s.pos) (record { round = r; rule = i }) (w p)) (w q))
  marked_sole r i s w p h = fun_ext (λ q. at q (eq_case q p))
    where
      at : (q : ℕ) → (q ≡ p) ⊎ (q ≢ p) → marked X r i s w q ≡ if_eq q p (cond (eqb (w p).round 0 && all (earlier w r) s.pos) (record { round = r; rule = i }) (w p)) (w q)
      at q (inl e) =
          ap (marked X r i s w) e
          ∙ ap (λ (b : Bool). cond (eqb (w p).round 0 && (b && all (earlier w r) s.pos)) (record { round = r; rule = i }) (w p)) h
          ∙ sym (if_eq_yes q p _ (w q) e)
      at q (inr d) =
          let n : supports X s q ≡ false = contra (supports X s q) {b = false} (λ g. absurd (d ((supports_only X s p h).unique q (supports_only X s q g).in_head (supports_only X s q g).is_true))) refl in
          unmarked r i s w q n ∙ sym (if_eq_no q p _ (w q) d)

  pub marked_none : (r i : ℕ) (s : Rule) (w : ℕ → Why) → ((p : ℕ) → supports X s p ≡ false) → marked X r i s w ≡ w
  marked_none r i s w n = fun_ext (λ q. unmarked r i s w q (n q))

-- ---- rounds

-- one number more
abbrev or_else : ℕ → ℕ → ℕ
or_else zero b = b
or_else (suc a) b = suc a

first_more : (f : ℕ → Bool) (k m : ℕ) → first_from f (suc k) (suc m) ≡ or_else (first_from f (suc k) m) (cond (f (suc (m + k))) (suc (m + k)) 0)
unfolding first_from
first_more f k zero = let e : suc (0 + k) ≡ suc k = omega arith in ap (λ (j : ℕ). cond (f j) j 0) (sym e)
first_more f k (suc m) = at (f (suc k)) (first_more f (suc k) m)
  where
    at : (b : Bool) → first_from f (suc (suc k)) (suc m) ≡ or_else (first_from f (suc (suc k)) m) (cond (f (suc (m + suc k))) (suc (m + suc k)) 0)
        → cond b (suc k) (first_from f (suc (suc k)) (suc m)) ≡ or_else (cond b (suc k) (first_from f (suc (suc k)) m)) (cond (f (suc (suc m + k))) (suc (suc m + k)) 0)
    at true e = refl
    at false e = let h : suc (m + suc k) ≡ suc (suc m + k) = omega arith in e ∙ ap (λ (j : ℕ). or_else (first_from f (suc (suc k)) m) (cond (f j) j 0)) h

module _ (P : Program) (X : Atoms) where
  round_more : (k p : ℕ) → round_of P (suc k) X p ≡ or_else (round_of P k X p) (cond (added_by P X (suc k) p) (suc k) 0)
  round_more k p = let e : suc (k + 0) ≡ suc k = omega arith in first_more (λ j. added_by P X j p) 0 k ∙ ap (λ (j : ℕ). or_else (round_of P k X p) (cond (added_by P X j p) j 0)) e

  -- "added in an earlier round" is what the rounds before hold
  earlier_added : (k : ℕ) → earlier (why_of P k X) (suc k) ≡ added_by P X k
  earlier_added k = fun_ext (λ b. both _ _ (there b) (back b))
    where
      there : (b : ℕ) → Is (earlier (why_of P k X) (suc k) b) → Is (added_by P X k b)
      there b h =
          let e = why_round P X k b in
          let l = lt 0 (why_of P k X b).round (and_l (ltb 0 (why_of P k X b).round) _ h) in
          let t = round_holds P X k b (omega arith) in
          added_up P X (round_of P k X b) k b t.1 t.0

      back : (b : ℕ) → Is (added_by P X k b) → Is (earlier (why_of P k X) (suc k) b)
      back b h =
          let e = why_round P X k b in
          let t = holds_round P X k k b (omega arith) h in
          let x = t.0 in
          let y = t.1 in
          and_i (lt_i 0 (why_of P k X b).round (omega arith)) (lt_i (why_of P k X b).round (suc k) (omega arith))

  -- from round k to round k + 1
  why_more : (k p : ℕ) → given (why_of P k X p) (suc k) (lowest_rule (adds X (added_by P X k) p) P) ≡ why_of P (suc k) X p
  unfolding why_of
  why_more k p = at (round_of P k X p) refl
    where
      at : (z : ℕ) → round_of P k X p ≡ z → given (why_at P X p (round_of P k X p)) (suc k) (lowest_rule (adds X (added_by P X k) p) P) ≡ why_at P X p (round_of P (suc k) X p)
      at (suc z) e =
          let f : round_of P (suc k) X p ≡ suc z = round_more k p ∙ ap (λ (y : ℕ). or_else y (cond (added_by P X (suc k) p) (suc k) 0)) e in
          ap (λ (y : ℕ). given (why_at P X p y) (suc k) (lowest_rule (adds X (added_by P X k) p) P)) e
          ∙ given_kept (why_at P X p (suc z)) (suc k) (lowest_rule (adds X (added_by P X k) p) P) (neq_i (suc z) 0 (λ h. omega arith))
          ∙ sym (ap (why_at P X p) f)
      at zero e = here (lowest_cases (adds X (added_by P X k) p) 1 P)
        where
          f : round_of P (suc k) X p ≡ cond (added_by P X (suc k) p) (suc k) 0
          f = round_more k p ∙ ap (λ (y : ℕ). or_else y (cond (added_by P X (suc k) p) (suc k) 0)) e

          old : Is (added_by P X k p) → ⊥
          old h = let t = holds_round P X k k p (omega arith) h in let x = t.0 in omega arith

          here : LowestIs (adds X (added_by P X k) p) 1 P (lowest_rule (adds X (added_by P X k) p) P) ⊎ ((lowest_rule (adds X (added_by P X k) p) P ≡ 0) × ((r : Rule) → r ∈ P → adds X (added_by P X k) p r ≡ false))
              → given (why_at P X p (round_of P k X p)) (suc k) (lowest_rule (adds X (added_by P X k) p) P) ≡ why_at P X p (round_of P (suc k) X p)
          here (inl d) = num (lowest_rule (adds X (added_by P X k) p) P) refl (numbered_from_lem 1 P _ d.rule d.number)
            where
              a : Is (added_by P X (suc k) p)
              a = added_new P X k p (numbered_in 1 P _ d.rule d.number) d.passes

              num : (j : ℕ) → lowest_rule (adds X (added_by P X k) p) P ≡ j → 1 ≤ j → given (why_at P X p (round_of P k X p)) (suc k) (lowest_rule (adds X (added_by P X k) p) P) ≡ why_at P X p (round_of P (suc k) X p)
              num zero g l = absurd (omega arith)
              num (suc j) g l =
                  ap₂ (λ (y j : ℕ). given (why_at P X p y) (suc k) j) e g
                  ∙ ap {B = Why} (λ (j : ℕ). record { round = suc k; rule = j }) (sym g)
                  ∙ sym (ap (why_at P X p) (f ∙ ap (λ (b : Bool). cond b (suc k) 0) a))
          here (inr d) =
              let n : added_by P X (suc k) p ≡ false = contra (added_by P X (suc k) p) {b = false} (λ h. absurd (new h)) refl in
              ap₂ (λ (y j : ℕ). given (why_at P X p y) (suc k) j) e d.0 ∙ sym (ap (why_at P X p) (f ∙ ap (λ (b : Bool). cond b (suc k) 0) n))
            where
              new : Is (added_by P X (suc k) p) → ⊥
              new h = pick (added_e P X k p h)
                where
                  pick : Is (added_by P X k p) ⊎ ((r : Rule) × (r ∈ P) × Is (adds X (added_by P X k) p r)) → ⊥
                  pick (inl y) = old y
                  pick (inr t) = clash t.2 (d.1 t.0 t.1)

  pub marks_are_whys : (k : ℕ) → marks_after P X k ≡ why_of P k X
  unfolding marks_after why_of first_from
  marks_are_whys zero = refl
  marks_are_whys (suc k) = fun_ext (λ p.
      ap (λ (w : ℕ → Why). walk X (suc k) 1 P w p) (marks_are_whys k)
      ∙ walk_given X k 0 P (why_of P k X) p
      ∙ ap (λ (G : Atoms). given (why_of P k X p) (suc k) (lowest_rule (adds X G p) P)) (earlier_added k)
      ∙ why_more k p)

  -- ---- a round that adds nothing

  quiet_added : (k : ℕ) → why_of P (suc k) X ≡ why_of P k X → added_by P X (suc k) ≡ added_by P X k
  quiet_added k e = sym (earlier_added (suc k)) ∙ fun_ext (λ b. both _ _ (there b) (λ h. back b h))
    where
      same : (b : ℕ) → (why_of P (suc k) X b).round ≡ (why_of P k X b).round
      same b = ap (λ (w : ℕ → Why). (w b).round) e

      there : (b : ℕ) → Is (earlier (why_of P (suc k) X) (suc (suc k)) b) → Is (added_by P X k b)
      there b h =
          let l = lt 0 (why_of P (suc k) X b).round (and_l (ltb 0 (why_of P (suc k) X b).round) _ h) in
          let s = same b in
          let f = why_round P X k b in
          let t = round_holds P X k b (omega arith) in
          added_up P X (round_of P k X b) k b t.1 t.0

      back : (b : ℕ) → Is (added_by P X k b) → Is (earlier (why_of P (suc k) X) (suc (suc k)) b)
      back b h = subst (λ (G : Atoms). Is (G b)) (sym (earlier_added (suc k))) (added_old P X k b h)

  quiet_next : (k : ℕ) → marks_after P X (suc k) ≡ marks_after P X k → marks_after P X (suc (suc k)) ≡ marks_after P X (suc k)
  quiet_next k e = marks_are_whys (suc (suc k)) ∙ fun_ext (λ p. same p) ∙ sym (marks_are_whys (suc k))
    where
      a : added_by P X (suc k) ≡ added_by P X k
      a = quiet_added k (sym (marks_are_whys (suc k)) ∙ e ∙ marks_are_whys k)

      b : added_by P X (suc (suc k)) ≡ added_by P X (suc k)
      b = unfold added_by in ap {B = Atoms} (λ (G : Atoms) (p : ℕ). G p || any (adds X G p) P) a

      rounds : (p z : ℕ) → round_of P (suc k) X p ≡ z → or_else (round_of P (suc k) X p) (cond (added_by P X (suc (suc k)) p) (suc (suc k)) 0) ≡ round_of P (suc k) X p
      rounds p (suc z) h = ap (λ (y : ℕ). or_else y (cond (added_by P X (suc (suc k)) p) (suc (suc k)) 0)) h ∙ sym h
      rounds p zero h =
          let n : added_by P X (suc (suc k)) p ≡ false = ap (λ (G : Atoms). G p) b ∙ contra (added_by P X (suc k) p) {b = false} (λ y. let t = holds_round P X (suc k) (suc k) p (omega arith) y in let x = t.0 in absurd (omega arith)) refl in
          ap₂ (λ (y : ℕ) (c : Bool). or_else y (cond c (suc (suc k)) 0)) h n ∙ sym h

      same : (p : ℕ) → why_of P (suc (suc k)) X p ≡ why_of P (suc k) X p
      same p = unfold why_of in ap (why_at P X p) (round_more (suc k) p ∙ rounds p (round_of P (suc k) X p) refl)

  quiet_on : (k : ℕ) → marks_after P X (suc k) ≡ marks_after P X k → (d : ℕ) → (marks_after P X (d + k) ≡ marks_after P X k) × (marks_after P X (suc (d + k)) ≡ marks_after P X (d + k))
  quiet_on k e zero =
      let z : 0 + k ≡ k = omega arith in
      rw z (refl, e)
  quiet_on k e (suc d) =
      let z : suc d + k ≡ suc (d + k) = omega arith in
      let t = quiet_on k e d in
      rw z (t.1 ∙ t.0, quiet_next (d + k) t.1)

  pub quiet_stays : (k : ℕ) → marks_after P X (suc k) ≡ marks_after P X k → (d : ℕ) → marks_after P X (d + k) ≡ marks_after P X k
  quiet_stays k e d = (quiet_on k e d).0
