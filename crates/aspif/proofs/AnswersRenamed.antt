-- Answer sets go over between the two programs: a smaller model of one reduct gives a smaller model of the other's, atom by atom in the order of rank. Assumes nothing.
use mathlib.Core.Path.{◌≡◌, refl, sym, ap, ◌∙◌, subst}
use mathlib.Core.Logic.{◌⊎◌, inl, inr}
use mathlib.Core.Bool.{Bool, false, ◌&&◌, ◌||◌, beq}
use mathlib.Core.List.Memᴰ
use mathlib.Core.List.{List, map}
use Prim.Native.Nat.{ℕ, zero, suc, ◌≤◌, ◌<◌}
use native.Mathlib.Omega.{arith}
use native.Mathlib.Nat.{le_trans, le_refl, lt_of_lt_of_le, le_of_suc-le-suc, not-suc-le-zero}
use lib.Dec.{eqb, ltb}
use lib.IntN.{ℤ}
use Rattle.meaning.specs.Lists.{Is, ◌∈◌, any}
use Rattle.meaning.specs.Program.{Element, Aggregate, Literal, Rule, Program, In}
use Rattle.meaning.specs.Aggregates.{Atoms}
use Rattle.meaning.specs.Answers.{literal, body, model, reduct, ◌⊆◌, AnswerSet}
use Rattle.meaning.specs.Dependency.{AggregateCycle, Free}
use Rattle.meaning.proofs.Tools.{both, contra, and_i, and_l, and_r, or_l, or_r, or_e, eq, eq_i, any_i, any_e, any_cases, keep_i}
use Rattle.meaning.proofs.Bounds.{lt, ge}
use Rattle.meaning.proofs.Meaning.{BodyTrue, HeadTrue, body_e, body_i, model_e, reduct_i}
use Rattle.meaning.proofs.Least.{literal_same}
use Rattle.meaning.proofs.Proper.{answer_least, answer_i}
use Rattle.meaning.proofs.Rank.{arc_i, rank, rank_arc, rank_added}
use Rattle.table.specs.Contents.{NumberedRule, literal_by, rule_by}
use Rattle.aspif.specs.Statements.{positives}
use Rattle.aspif.specs.Writing.{restricted}
use Rattle.aspif.proofs.Renaming.{restricted_same, restricted_in, new_literal, renamed, old_program, new_program, Defined}
use Rattle.aspif.proofs.Renamed.{body_old, body_new, old_rule, new_rule, old_in, tr_in, def_in, rule_in, lit_in_lem, def_head, not_new, new_pos_e, new_pos_i, old_low, def_agree, fresh_of, agree_old, extended, extended_e, extended_same, extended_fresh, agree_new, extended_defs, old_model, new_model}

module _ (gs : List Aggregate) (rules : List NumberedRule) (L : List ℤ) (aux : ℤ → ℕ) (sgn : ℤ → Bool) (defs : ℤ → List Rule) (n : ℕ)
    (D : Defined gs rules L aux sgn defs n) where
  abbrev P : Program
  P = old_program gs rules L aux sgn defs

  abbrev Q : Program
  Q = new_program gs rules L aux sgn defs

  abbrev tr : NumberedRule → Rule
  tr r = renamed gs rules L aux sgn defs r

  abbrev lit : ℤ → Literal
  lit j = literal_by gs j

  -- ---- smaller models go over, atom by atom in the order of rank: an aggregate's elements have smaller ranks than the head

  module _ (noAgg : Free AggregateCycle P) where
    abbrev rk : ℕ → ℕ
    rk p = rank (suc n) P p

    -- the rule's true head atoms of rank k or less give its body's ranks
    body_rank : (k : ℕ) {r : NumberedRule} → r ∈ rules → (h : ℕ) → h ∈ r.head → rk h ≤ k → (q : ℕ) → q ∈ r.pos → rk q ≤ k
    body_rank k m h hh l q qm = le_trans (rank_arc (suc n) P (old_low gs rules L aux sgn defs n D) h q (arc_i ((old_in gs rules L aux sgn defs n D) m) hh qm)) l

    elem_rank : (k : ℕ) {r : NumberedRule} → r ∈ rules → (h : ℕ) → h ∈ r.head → rk h ≤ k → (j : ℤ) → j ∈ r.aggs → (e : Element) → e ∈ (lit j).aggregate.elements → rk e.atom < k
    elem_rank k {r} m h hh l j ja e em = lt_of_lt_of_le (rank_added (suc n) P (old_low gs rules L aux sgn defs n D) noAgg ((old_in gs rules L aux sgn defs n D) m) hh ((lit_in_lem gs rules L aux sgn defs n D) r ja) em) l

    module _ (k : ℕ) (X W : Atoms) where
      -- X, with only those of 𝓛 up to rank k
      cut : Atoms
      cut q = X q && (W q || ltb k (rk q))

      cut_high : (q : ℕ) → Is (X q && ltb k (rk q)) → Is (cut q)
      unfolding cut
      cut_high q h = and_i {a = X q} (and_l (X q) (ltb k (rk q)) h) (or_r (W q) _ (and_r (X q) _ h))

      cut_i : (q : ℕ) → Is (X q) → Is (W q) → Is (cut q)
      unfolding cut
      cut_i q h w = and_i h (or_l _ _ w)

      cut_in : (q : ℕ) → Is (cut q) → Is (X q)
      unfolding cut
      cut_in q h = and_l (X q) (W q || ltb k (rk q)) h

      cut_e : (q : ℕ) → rk q ≤ k → Is (cut q) → Is (W q)
      unfolding cut
      cut_e q l h = at (or_e (W q) (ltb k (rk q)) (and_r (X q) _ h))
        where
          at : Is (W q) ⊎ Is (ltb k (rk q)) → Is (W q)
          at (inl w) = w
          at (inr g) = let x = lt k (rk q) g in absurd (omega arith)

      not_high : (q : ℕ) → Is (X q) → (X q && ltb k (rk q)) ≡ false → rk q ≤ k
      not_high q h e = ge k (rk q) (contra (ltb k (rk q)) {b = X q && ltb k (rk q)} (λ g. and_i h g) e)

    -- ---- from the old program to the new

    module _ (X : Atoms) (A : AnswerSet P X) (Z : Atoms) (sub : Z ⊆ (extended gs rules L aux sgn defs n D) X) (M : Is (model (reduct Q ((extended gs rules L aux sgn defs n D) X)) Z)) where
      abbrev ext : Atoms
      ext = (extended gs rules L aux sgn defs n D) X

      def_kept : (j : ℤ) → j ∈ L → ((e : Element) → e ∈ (lit j).aggregate.elements → Is (X e.atom) → Is (Z e.atom)) → Is (ext (aux j)) → Is (Z (aux j))
      unfolding reduct
      def_kept j jm f v =
          let t = any_e (body ext) (defs j) (sym ((extended_defs gs rules L aux sgn defs n D) X j jm) ∙ v) in
          let same : (e : Element) → e ∈ (lit j).aggregate.elements → ext e.atom ≡ Z e.atom = λ e em.
          both _ _ (λ h. f e em ((extended_same gs rules L aux sgn defs n D) X e.atom (D.elems j jm e em) ∙ h)) (sub e.atom) in
          let b = (def_agree gs rules L aux sgn defs n D) ext Z j jm t.0 t.1 same t.2 in
          let h = model_e (reduct Q ext) Z M (keep_i (body ext) Q ((def_in gs rules L aux sgn defs n D) j jm t.0 t.1) t.2) b in
          ap Z (sym ((def_head gs rules L aux sgn defs n D) j jm t.0 t.1 h.1)) ∙ h.2

      cut_model : (k : ℕ) → ((q : ℕ) → rk q < k → Is (X q) → Is (Z q)) → Is (model (reduct P X) (cut k X Z))
      unfolding reduct
      cut_model k ih = reduct_i P X (cut k X Z) ((old_rule gs rules L aux sgn defs n D) (λ d. Is (body X d) → Is (body (cut k X Z) d) → HeadTrue (cut k X Z) d) by_rule)
        where
          by_rule : (r : NumberedRule) → r ∈ rules → Is (body X (rule_by gs r)) → Is (body (cut k X Z) (rule_by gs r)) → HeadTrue (cut k X Z) (rule_by gs r)
          by_rule r m b c = at (any_cases (λ a. X a && ltb k (rk a)) r.head)
            where
              bx : BodyTrue ext (tr r)
              bx = (body_new gs rules L aux sgn defs n D) X ext ((agree_new gs rules L aux sgn defs n D) X) r m (body_e X (rule_by gs r) b)

              bc : BodyTrue (cut k X Z) (rule_by gs r)
              bc = body_e (cut k X Z) (rule_by gs r) c

              low : (h : ℕ) → h ∈ r.head → rk h ≤ k → HeadTrue (cut k X Z) (rule_by gs r)
              low h hm l =
                  let bz : BodyTrue Z (tr r) = record {
                    poss = λ q qm. in_pos_lem q (Memᴰ.append_cases r.pos qm);
                    negs = λ q qm. contra (Z q) (sub q) (bx.negs q qm);
                    lits = λ x xm. elim xm [ ];
                  } in
                  let t = model_e (reduct Q ext) Z M (keep_i (body ext) Q ((tr_in gs rules L aux sgn defs n D) m) (body_i ext (tr r) bx)) (body_i Z (tr r) bz) in
                  (t.0, t.1, cut_i k X Z t.0 ((extended_same gs rules L aux sgn defs n D) X t.0 (((rule_in gs rules L aux sgn defs n D) m).heads t.0 t.1) ∙ sub t.0 t.2) t.2)
                where
                  in_pos_lem : (q : ℕ) → (q ∈ r.pos) ⊎ (q ∈ positives (map (new_literal gs rules L aux sgn defs) r.aggs)) → Is (Z q)
                  in_pos_lem q (inl qm) = cut_e k X Z q (body_rank k m h hm l q qm) (bc.poss q qm)
                  in_pos_lem q (inr qm) =
                      let t = (new_pos_e gs rules L aux sgn defs n D) r.aggs qm in
                      ap Z t.3 ∙ def_kept t.0 (D.in_use r m t.0 t.1) (λ e em x. ih e.atom (elem_rank k m h hm l t.0 t.1 e em) x)
                      (bx.poss (aux t.0) (Memᴰ.append_right r.pos ((new_pos_i gs rules L aux sgn defs n D) r.aggs t.1 t.2)))

              at : ((a : ℕ) × (a ∈ r.head) × Is (X a && ltb k (rk a))) ⊎ ((a : ℕ) → a ∈ r.head → (X a && ltb k (rk a)) ≡ false) → HeadTrue (cut k X Z) (rule_by gs r)
              at (inl t) = (t.0, t.1, cut_high k X Z t.0 t.2)
              at (inr f) = let h = model_e P X A.is_model ((old_in gs rules L aux sgn defs n D) m) b in low h.0 h.1 (not_high k X Z h.0 h.2 (f h.0 h.1))

      low_kept : (k p : ℕ) → rk p < k → Is (X p) → Is (Z p)
      low_kept zero p l t = absurd (not-suc-le-zero l)
      low_kept (suc k) p l t = cut_e k X Z p (le_of_suc-le-suc l) (answer_least P X A (cut k X Z) (cut_in k X Z) (cut_model k (λ q. low_kept k q)) p t)

      all_kept : (extended gs rules L aux sgn defs n D) X ⊆ Z
      all_kept p t = at ((extended_e gs rules L aux sgn defs n D) X p t)
        where
          at : (In n p × Is (X p)) ⊎ ((j : ℤ) × (j ∈ L) × (p ≡ aux j) × Is (beq (sgn j) (literal X (lit j)))) → Is (Z p)
          at (inl h) = low_kept (suc (rk p)) p (le_refl _) h.1
          at (inr (j, jm, e, v)) = ap Z e ∙ def_kept j jm (λ d dm x. low_kept (suc (rk d.atom)) d.atom (le_refl _) x) ((extended_fresh gs rules L aux sgn defs n D) X j jm ∙ v)

    pub new_answer : (X : Atoms) → AnswerSet P X → AnswerSet Q ((extended gs rules L aux sgn defs n D) X)
    new_answer X A = answer_i Q ((extended gs rules L aux sgn defs n D) X) ((new_model gs rules L aux sgn defs n D) X A) (λ Z sub M. all_kept X A Z sub M)

    -- ---- from the new program to the old

    module _ (Y : Atoms) (A : AnswerSet Q Y) (W : Atoms) (sub : W ⊆ restricted n Y) (M : Is (model (reduct P (restricted n Y)) W)) where
      abbrev res : Atoms
      res = restricted n Y

      res_in : (q : ℕ) → Is (res q) → Is (Y q)
      res_in q h = sym (restricted_same n Y q (restricted_in n Y q h)) ∙ h

      module _ (k : ℕ) (ih : (q : ℕ) → rk q < k → Is (res q) → Is (W q)) where
        abbrev old_cut : Atoms
        old_cut = cut k res W

        -- the new atoms that are still defined
        newly : ℕ → ℤ → Bool
        newly q j = eqb q (aux j) && (Y q && any (λ d. body Y d && body old_cut d) (defs j))

        whole_cut : Atoms
        whole_cut q = old_cut q || any (newly q) L

        whole_e : (q : ℕ) → In n q → Is (whole_cut q) → Is (old_cut q)
        unfolding whole_cut newly
        whole_e q i h = at (or_e _ _ h)
          where
            at : Is (old_cut q) ⊎ Is (any (newly q) L) → Is (old_cut q)
            at (inl g) = g
            at (inr g) = let t = any_e (newly q) L g in absurd ((not_new gs rules L aux sgn defs n D) t.0 t.1 i.1 (eq q (aux t.0) (and_l _ _ t.2)))

        whole_same : (q : ℕ) → In n q → whole_cut q ≡ old_cut q
        unfolding whole_cut
        whole_same q i = both _ _ (whole_e q i) (λ h. or_l _ _ h)

        whole_in : whole_cut ⊆ Y
        unfolding whole_cut newly
        whole_in q h = at (or_e _ _ h)
          where
            at : Is (old_cut q) ⊎ Is (any (newly q) L) → Is (Y q)
            at (inl g) = res_in q (cut_in k res W q g)
            at (inr g) = let t = any_e (newly q) L g in and_l (Y q) _ (and_r (eqb q (aux t.0)) _ t.2)

        whole_old : (q : ℕ) → Is (old_cut q) → Is (whole_cut q)
        unfolding whole_cut
        whole_old q h = or_l _ _ h

        whole_new : (j : ℤ) → j ∈ L → Is (Y (aux j)) → (d : Rule) → d ∈ defs j → Is (body Y d) → Is (body old_cut d) → Is (whole_cut (aux j))
        unfolding whole_cut newly
        whole_new j jm y d dm b c = or_r (old_cut (aux j)) _ (any_i (newly (aux j)) L jm
            (and_i (eq_i {m = aux j} refl) (and_i y (any_i (λ d. body Y d && body old_cut d) (defs j) dm (and_i b c)))))

        whole_model : Is (model (reduct Q Y) whole_cut)
        unfolding reduct
        whole_model = reduct_i Q Y whole_cut ((new_rule gs rules L aux sgn defs n D) (λ d. Is (body Y d) → Is (body whole_cut d) → HeadTrue whole_cut d) by_rule by_def)
          where
            by_rule : (r : NumberedRule) → r ∈ rules → Is (body Y (tr r)) → Is (body whole_cut (tr r)) → HeadTrue whole_cut (tr r)
            by_rule r m b c = at (any_cases (λ a. res a && ltb k (rk a)) r.head)
              where
                bx : BodyTrue res (rule_by gs r)
                bx = (body_old gs rules L aux sgn defs n D) res Y ((agree_old gs rules L aux sgn defs n D) Y A) r m (body_e Y (tr r) b)

                bc : BodyTrue whole_cut (tr r)
                bc = body_e whole_cut (tr r) c

                low : (h : ℕ) → h ∈ r.head → rk h ≤ k → HeadTrue whole_cut (tr r)
                low h hm l =
                    let bw : BodyTrue W (rule_by gs r) = record {
                      poss = λ q qm. cut_e k res W q (body_rank k m h hm l q qm) (whole_e q (((rule_in gs rules L aux sgn defs n D) m).poss q qm) (bc.poss q (Memᴰ.append_left _ qm)));
                      negs = λ q qm. contra (W q) (sub q) (bx.negs q qm);
                      lits = λ x xm. lits x xm;
                    } in
                    let t = model_e (reduct P res) W M (keep_i (body res) P ((old_in gs rules L aux sgn defs n D) m) (body_i res (rule_by gs r) bx)) (body_i W (rule_by gs r) bw) in
                    (t.0, t.1, whole_old t.0 (cut_i k res W t.0 (sub t.0 t.2) t.2))
                  where
                    lits : (x : Literal) → x ∈ (rule_by gs r).aggs → Is (literal W x)
                    lits x xm =
                        let t = Memᴰ.of_map (literal_by gs) r.aggs xm in
                        let same : (e : Element) → e ∈ (lit t.0).aggregate.elements → res e.atom ≡ W e.atom = λ e em.
                        both _ _ (ih e.atom (elem_rank k m h hm l t.0 t.1 e em)) (sub e.atom) in
                        subst (λ (y : Literal). Is (literal W y)) t.2 (sym (literal_same res W (lit t.0) same) ∙ bx.lits (lit t.0) ((lit_in_lem gs rules L aux sgn defs n D) r t.1))

                at : ((a : ℕ) × (a ∈ r.head) × Is (res a && ltb k (rk a))) ⊎ ((a : ℕ) → a ∈ r.head → (res a && ltb k (rk a)) ≡ false) → HeadTrue whole_cut (tr r)
                at (inl t) = (t.0, t.1, whole_old t.0 (cut_high k res W t.0 t.2))
                at (inr f) =
                    let h = model_e Q Y A.is_model ((tr_in gs rules L aux sgn defs n D) m) b in
                    low h.0 h.1 (not_high k res W h.0 (restricted_same n Y h.0 (((rule_in gs rules L aux sgn defs n D) m).heads h.0 h.1) ∙ h.2) (f h.0 h.1))

            by_def : (j : ℤ) → j ∈ L → (d : Rule) → d ∈ defs j → Is (body Y d) → Is (body whole_cut d) → HeadTrue whole_cut d
            by_def j jm d dm b c =
                let y : Is (Y (aux j)) = (fresh_of gs rules L aux sgn defs n D) Y A j jm ∙ any_i (body Y) (defs j) dm b in
                let e = (def_agree gs rules L aux sgn defs n D) whole_cut old_cut j jm d dm (λ e em. whole_same e.atom (D.elems j jm e em)) c in
                (aux j, subst (λ (l : List ℕ). aux j ∈ l) (sym (D.heads j jm d dm)) (Memᴰ.head refl), whole_new j jm y d dm b e)

        step_down : (p : ℕ) → rk p ≤ k → Is (res p) → Is (W p)
        step_down p l t = cut_e k res W p l (whole_e p (restricted_in n Y p t) (answer_least Q Y A whole_cut whole_in whole_model p (res_in p t)))

      low_down : (k p : ℕ) → rk p < k → Is (res p) → Is (W p)
      low_down zero p l t = absurd (not-suc-le-zero l)
      low_down (suc k) p l t = step_down k (λ q. low_down k q) p (le_of_suc-le-suc l) t

    pub old_answer : (Y : Atoms) → AnswerSet Q Y → AnswerSet P (restricted n Y)
    old_answer Y A = answer_i P (restricted n Y) ((old_model gs rules L aux sgn defs n D) Y A) (λ W sub M p t. low_down Y A W sub M (suc (rk p)) p (le_refl _) t)
