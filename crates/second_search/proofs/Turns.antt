-- What a turn of the second search comes to, by what propagation made and what is decided then. No reason is read: the plain search goes back to the present level.
-- Assumes nothing.
use Prim.Native.Nat.{ℕ, zero, suc, ◌+◌, ◌-◌, ◌*◌, ◌≤◌, ◌<◌}
use native.Mathlib.Omega.{arith}
use mathlib.Core.Path.{◌≡◌, refl, sym, ◌∙◌, ap, ap₂, subst}
use mathlib.Core.Bool.{Bool, true, false, cond, not}
use mathlib.Core.Option.{Option, none, some}
use mathlib.Core.List.{List, map}
use lib.Dec.{ltb}
use Rattle.meaning.specs.Cond.{if_lt}
use Rattle.meaning.specs.Aggregates.{Atoms}
use Rattle.meaning.specs.Program.{Program}
use Rattle.meaning.specs.Answers.{reduct}
use Rattle.levels.specs.Levels.{Levels, up_to}
use Rattle.interpretation.specs.State.{Interpretation, lowest, true_atoms, with_cells}
use Rattle.interpretation.specs.View.{valued}
use Rattle.steps.specs.Steps.{Verdict, settled, conflict, is_settled, passes, begin}
use Rattle.steps.proofs.Indep.{passes_cells, passes_verdict}
use Rattle.search.specs.Search.{Problem, State, Outcome, Next, go, end, plain, answer, no_answer, limit, opened_as, jumped_as, go_back_by, choosing_by, ended, spend, tested, choose, settle, propagated, turn}
use Rattle.search.specs.Base.{verdict_of}
use Rattle.search.specs.Engine.{no_reasons}
use Rattle.search.proofs.Fuel.{meas}
use Rattle.smaller.specs.Smaller.{propagate_rules, lacks_one, second}
use Rattle.second_search.specs.declared.Turn.{Turn}
use Rattle.second_search.specs.declared.Turn.TheVariants.{Smaller, Limit, Choose, Back}
use Rattle.second_search.specs.Looking.{Like, verdict_by, record_at, cells_at, view_of, work_of, turn_of}
use Rattle.second_search.proofs.Lacking.{trues_alone, lowest_alone}

-- the test opens no choices
spend_none : (d : State) → spend 0 d ≡ d
spend_none d = let e : 0 + d.choices ≡ d.choices = omega arith in λ t. record { interpretation = d.interpretation; reason = d.reason; choices = e t; skips = d.skips; passes = d.passes; skipped = d.skipped }

-- where a turn leads from the state e after propagation
abbrev pub Leads : ℕ → ℕ → State → Turn → Next → Type 0
Leads n lim e Smaller x = (o : Outcome) × (x ≡ end o) × ((Y : Atoms) × (o.result ≡ answer Y)) × (o.choices ≡ e.choices)
Leads n lim e Limit x = (o : Outcome) × (x ≡ end o) × (o.result ≡ limit)
Leads n lim e (Choose p) x = (d : State) × (x ≡ go d) × (d.interpretation ≡ opened_as false p e.interpretation) × (d.choices ≡ suc e.choices) × (lowest e.interpretation.cell n ≡ some p) × (ltb e.choices lim ≡ true)
Leads n lim e Back x = (C : Levels) × (x ≡ go_back_by false e C e.interpretation.level)

module _ (Q : Program) (n lim : ℕ) (X : Atoms) (e : State) where
  abbrev P : Problem
  P = second Q n X

  abbrev atom : Option ℕ
  atom = lowest e.interpretation.cell n

  abbrev lacks : Bool
  lacks = lacks_one n X (true_atoms n e.interpretation.cell)

  after_test : (b : Bool) → Leads n lim e (turn_of false none b (ltb e.choices lim)) (tested P plain lim e (verdict_of b))
  after_test true = (record { result = answer (true_atoms n e.interpretation.cell); choices = 0 + e.choices; skips = e.skips; passes = e.passes; skipped = e.skipped }, refl, (true_atoms n e.interpretation.cell, refl), omega arith)
  after_test false = (up_to e.interpretation.level, ap (λ (d : State). go_back_by false d (up_to e.interpretation.level) e.interpretation.level) (spend_none e))

  after_choice : (o : Option ℕ) → atom ≡ o → (m : Bool) → ltb e.choices lim ≡ m → Leads n lim e (turn_of false o lacks m) (choose P plain lim e o)
  unfolding if_lt
  after_choice none f m g = subst (λ (b : Bool). Leads n lim e (turn_of false none lacks b) (tested P plain lim e (verdict_of lacks))) g (after_test lacks)
  after_choice (some p) f true g = (choosing_by false p e, ap (λ (b : Bool). cond b (go (choosing_by false p e)) (ended limit e)) g, refl, refl, f, g)
  after_choice (some p) f false g =
      (record { result = limit; choices = e.choices; skips = e.skips; passes = e.passes; skipped = e.skipped }, ap (λ (b : Bool). cond b (go (choosing_by false p e)) (ended limit e)) g, refl)

  pub leads : (v : Verdict) → Leads n lim e (turn_of (not (is_settled v)) atom lacks (ltb e.choices lim)) (settle P plain lim e v)
  leads settled = after_choice atom refl (ltb e.choices lim) refl
  leads (conflict C) = (C, refl)

-- ---- a step back

pub back_end : (e : State) (C : Levels) (k : ℕ) → k ≡ 0 → (o : Outcome) × (go_back_by false e C k ≡ end o) × (o.result ≡ no_answer) × (o.choices ≡ e.choices)
back_end e C zero h = (_, refl, refl, refl)
back_end e C (suc j) h = absurd (omega arith)

pub back_go : (e : State) (C : Levels) (k : ℕ) → 1 ≤ k → (d : State) × (go_back_by false e C k ≡ go d) × (d.interpretation ≡ jumped_as true (k - 1) e.interpretation) × (d.choices ≡ e.choices)
back_go e C zero h = absurd (omega arith)
back_go e C (suc j) h = let f : j ≡ suc j - 1 = omega arith in (_, refl, ap (λ (i : ℕ). jumped_as true i e.interpretation) f, refl)

-- ---- the state after propagation, whatever the reasons

-- from the arrays vs, ls to us, ks
module _ (Q : Program) (n lim : ℕ) (X : Atoms) (vs ls xs : List ℕ) (d : ℕ) (us ks : List ℕ) (changed conflicting : Bool)
    (m : Like (work_of d (cells_at us ks) changed conflicting) (passes (reduct Q X) 0 (suc n) (work_of d (cells_at vs ls) false false))) (c : State) (h : c.interpretation ≡ view_of vs ls xs d) where
  abbrev R : Program
  R = reduct Q X

  cells_are : cells_at us ks ≡ ((second Q n X).propagate c.interpretation c.reason).cell
  unfolding propagate_rules
  cells_are = m.cells ∙ passes_cells R 0 (suc n) (view_of vs ls xs d) no_reasons c.reason ∙ ap (λ (i : Interpretation). (passes R 0 (suc n) (begin i c.reason)).cell) (sym h)

  pub after_is : (propagated (second Q n X) c).interpretation ≡ view_of us ks xs d
  after_is = ap (with_cells c.interpretation) (sym cells_are) ∙ ap (λ (i : Interpretation). with_cells i (cells_at us ks)) h

  settles : (b : Bool) → is_settled (verdict_by b) ≡ not b
  settles true = refl
  settles false = refl

  twice : (b : Bool) → not (not b) ≡ b
  twice true = refl
  twice false = refl

  pub conflict_is : not (is_settled ((second Q n X).propagate c.interpretation c.reason).verdict) ≡ conflicting
  unfolding propagate_rules
  conflict_is =
      ap not (ap (λ (i : Interpretation). is_settled (passes R 0 (suc n) (begin i c.reason)).verdict) h ∙ passes_verdict R 0 (suc n) (view_of vs ls xs d) c.reason no_reasons ∙ sym m.same ∙ settles conflicting)
      ∙ twice conflicting

  -- a turn, by what is decided; the code asks the values alone
  pub turned : (t : Turn) → t ≡ turn_of conflicting (lowest (valued us) n) (lacks_one n X (true_atoms n (valued us))) (ltb c.choices lim)
      → Leads n lim (propagated (second Q n X) c) t (turn (second Q n X) plain lim c)
  unfolding turn
  turned t f =
      let e = propagated (second Q n X) c in
      let v = ((second Q n X).propagate c.interpretation c.reason).verdict in
      let g : turn_of (not (is_settled v)) (lowest e.interpretation.cell n) (lacks_one n X (true_atoms n e.interpretation.cell)) (ltb c.choices lim) ≡ t =
      ap (λ (b : Bool). turn_of b (lowest e.interpretation.cell n) (lacks_one n X (true_atoms n e.interpretation.cell)) (ltb c.choices lim)) conflict_is
      ∙ ap (λ (i : Interpretation). turn_of conflicting (lowest i.cell n) (lacks_one n X (true_atoms n i.cell)) (ltb c.choices lim)) after_is
      ∙ ap₂ (λ (o : Option ℕ) (Y : Atoms). turn_of conflicting o (lacks_one n X Y) (ltb c.choices lim)) (lowest_alone n us (map record_at ks)) (trues_alone n us (map record_at ks)) ∙ sym f in
      subst (λ (x : Turn). Leads n lim e x (settle (second Q n X) plain lim e v)) g (leads Q n lim X e v)

-- the measure of the defined search, by what the code keeps of its states
pub measured : (P : Problem) (lim : ℕ) (c d : State) (j m k l : ℕ) → c.choices ≡ j → c.interpretation.level ≡ m → d.choices ≡ k → d.interpretation.level ≡ l → meas P lim d < meas P lim c
    → (lim - k) * suc P.atoms + l < (lim - j) * suc P.atoms + m
unfolding meas
measured P lim c d j m k l e f g i h =
    subst (λ (x : ℕ). (lim - x) * suc P.atoms + l < (lim - j) * suc P.atoms + m) g
    (subst (λ (x : ℕ). (lim - d.choices) * suc P.atoms + x < (lim - j) * suc P.atoms + m) i
    (subst (λ (x : ℕ). (lim - d.choices) * suc P.atoms + d.interpretation.level < (lim - x) * suc P.atoms + m) e
    (subst (λ (x : ℕ). (lim - d.choices) * suc P.atoms + d.interpretation.level < (lim - c.choices) * suc P.atoms + x) f h)))
