-- The promise of `relax`, from the judge's verdict and from what the trials come to.
--   refused-one, refused-or-taken   a refusal is one, and what is accepted with a list long enough is not refused
--   relaxing_refused                a refusal
--   relaxing_accepted               result, list and plan are those of the definition: then all that is promised in answer sets follows
-- Assumes nothing.
use mathlib.Core.Path.{◌≡◌, refl, sym, ap, ◌∙◌, subst}
use mathlib.Core.Logic.{◌⊎◌, inl, inr, ◌≢◌}
use mathlib.Core.Bool.{Bool, false}
use mathlib.Core.Option.{some}
use mathlib.Core.List.Memᴰ
use mathlib.Core.List.{List, [], ◌∷◌, ◌++◌}
use Rattle.std.specs.Prelude.{Result, Ok, Err}
use Prim.Native.Nat.{ℕ, ◌≤◌}
use native.Mathlib.Omega.{arith}
use lib.IntN.{ℤ}
use lib.ListN.{length, drop}
use Rattle.meaning.specs.Lists.{Is, ◌∈◌, keep}
use Rattle.meaning.specs.Aggregates.{Atoms}
use Rattle.meaning.specs.Program.{Rule, Program, AtomsIn}
use Rattle.meaning.specs.Answers.{AnswerSet}
use Rattle.meaning.specs.Dependency.{AggregateCycle, Free}
use Rattle.meaning.proofs.Tools.{cases, or_l}
use Rattle.numbered.proofs.Numbered.{in_numbered}
use Rattle.results.specs.declared.Refusal.{Refusal}
use Rattle.results.specs.declared.Ask.{Ask}
use Rattle.results.specs.declared.Relaxed.{Relaxed}
use Rattle.results.specs.declared.Relaxed.TheVariants as told
use Rattle.results.specs.Results.{number_of, place_of, RelaxReport, relax_report_of, refusal_relaxed}
use Rattle.search.specs.Search.{jump, limit, Outcome, solve}
use Rattle.smaller.specs.Cyclic.{base_by}
use Rattle.smaller.proofs.Modes.{HeadsFree}
use Rattle.relaxing.specs.Relaxing as defined
use Rattle.relaxing.specs.Relaxing.{headed, rules_of, dropped_of, with_number, relaxed, no_plan, at_limit, relax}
use Rattle.relaxing.proofs.Fewer.{fewer_rules}
use Rattle.relaxing.proofs.Kept.{rules_i, rules_part}
use Rattle.relaxing.proofs.Relaxing.{relax_gives, none_means_none, limit_is_a_trials, drops_leave_none}
use Rattle.table.specs.Contents.{Contents, program}
use Rattle.table.proofs.Accepted.{accepted_atoms}
use Rattle.judging.specs.declared.Buffer.TheVariants.{Plan}
use Rattle.judging.specs.Refusals.{AcceptedBy}
use Rattle.judging.proofs.Refusals.{heads_free, accepted_unique, refused_not_accepted, refused_unique}
use Rattle.relaxer.specs.Promise.{RelaxRefused, before, short, relaxed_by, list_after, plan_after, GivesUp, Relaxes, Relaxing}

-- ---- refusals

module _ (cycles : Bool) (t : List ℤ) (room places : ℕ) where
  pub refused_one : (n i m j : ℕ) → RelaxRefused cycles t room places n i → RelaxRefused cycles t room places m j → (n ≡ m) × (i ≡ j)
  refused_one n i m j (before h) (before k) = refused_unique t (Plan room) n i m j h k
  refused_one n i m j (before h) (short c a l e f) = absurd (refused_not_accepted t (Plan room) n i c h a)
  refused_one n i m j (short c a l e f) (before k) = absurd (refused_not_accepted t (Plan room) m j c k a)
  refused_one n i m j (short c a l e f) (short d b k g h) = (e ∙ sym g, f ∙ sym h)

  pub refused_or_taken : (n i : ℕ) → RelaxRefused cycles t room places n i → (c : Contents) → AcceptedBy cycles t (Plan room) c → length (program c) ≤ places → ⊥
  refused_or_taken n i (before h) c a l = refused_not_accepted t (Plan room) n i c h a
  refused_or_taken n i (short d b k e f) c a l =
      let s : length (program d) ≡ length (program c) = ap (λ (x : Contents). length (program x)) (accepted_unique t (Plan room) d c b a) in
      omega (arith, k, l, s)

-- what a result that says so is
kinds : {r s : Result Relaxed Refusal} → r ≡ s → (relax_report_of r).kind ≡ (relax_report_of s).kind
kinds e = ap (λ (x : Result Relaxed Refusal). (relax_report_of x).kind) e

module _ (t : List ℤ) (ask : Ask) (list list' plan plan' : List ℕ) (r : Result Relaxed Refusal) where
  abbrev Refuses : ℕ → ℕ → Type 0
  Refuses n i = RelaxRefused ask.cycles t (length plan) (length list) n i

  module _ (f : Refusal) (h : Refuses (number_of f) (place_of f)) (e : r ≡ Err f) where
    says : relax_report_of r ≡ refusal_relaxed (number_of f) (place_of f)
    says = ap relax_report_of e

    -- the number and the place that are told are those that are earned
    row : (n i : ℕ) → relax_report_of r ≡ refusal_relaxed n i → Refuses n i
    row n i k =
        let u : refusal_relaxed (number_of f) (place_of f) ≡ refusal_relaxed n i = sym says ∙ k in
        subst (λ (x : RelaxReport). Refuses x.number x.place) u h

    back : (n i : ℕ) → Refuses n i → relax_report_of r ≡ refusal_relaxed n i
    back n i k =
        let u = refused_one ask.cycles t (length plan) (length list) (number_of f) (place_of f) n i h k in
        says ∙ ap (λ (m : ℕ). refusal_relaxed m (place_of f)) u.0 ∙ ap (refusal_relaxed n) u.1

    pub relaxing_refused : list' ≡ list → plan' ≡ plan → Relaxing t ask list list' plan plan' r
    relaxing_refused u v = record {
      refused = λ n i. (row n i, back n i);
      untouched = λ n i k. (u, v);
      relaxes = λ c a l. absurd (refused_or_taken ask.cycles t (length plan) (length list) (number_of f) (place_of f) h c a l);
    }

-- ---- what the definition comes to, in answer sets

-- a program's answer sets are answer sets of any part of it with all rules that have a head
fewer : (P : Program) (kept : ℕ → Bool) (X : Atoms) → AnswerSet P X → AnswerSet (rules_of P kept) X
fewer P kept X A = fewer_rules (rules_of P kept) P (rules_part kept P) (λ s q. cover s q (cases (headed s))) X A
  where
    cover : (s : Rule) → s ∈ P → Is (headed s) ⊎ (headed s ≡ false) → (s ∈ rules_of P kept) ⊎ (headed s ≡ false)
    cover s q (inl y) = let u = in_numbered 1 P q in inl (rules_i kept 1 P u.0 s u.1 (or_l _ _ y))
    cover s q (inr y) = inr y

module _ (cycles : Bool) (n : ℕ) (P : Program) (inside : AtomsIn n P) (no_head : HeadsFree cycles P) (noAgg : Free AggregateCycle P) (lim : ℕ) (list list' plan plan' : List ℕ) (r : Result Relaxed Refusal)
    (e : r ≡ Ok (relaxed_by P (relax cycles n lim P))) (l : list' ≡ list_after P (relax cycles n lim P) list) (w : plan' ≡ plan_after n (relax cycles n lim P) plan) where
  abbrev x : defined.Relaxed
  x = relax cycles n lim P

  -- the result, by what the definition comes to
  comes : (y : defined.Relaxed) → x ≡ y → r ≡ Ok (relaxed_by P y)
  comes y f = e ∙ ap (λ (z : defined.Relaxed). Ok (relaxed_by P z)) f

  kept_list : (y : defined.Relaxed) → x ≡ y → list' ≡ list_after P y list
  kept_list y f = l ∙ ap (λ (z : defined.Relaxed). list_after P z list) f

  kept_plan : (y : defined.Relaxed) → x ≡ y → plan' ≡ plan_after n y plan
  kept_plan y f = w ∙ ap (λ (z : defined.Relaxed). plan_after n z plan) f

  answers_by : (y : defined.Relaxed) → x ≡ y → (k : ℕ) → r ≡ Ok (told.Answer k) → GivesUp n P list list' plan plan' k
  answers_by (relaxed kept X) f k h =
      let G = relax_gives cycles n P inside no_head noAgg lim kept X f in
      let m : k ≡ length (dropped_of P kept) = ap (λ (s : Result Relaxed Refusal). (relax_report_of s).dropped) (sym h ∙ comes (relaxed kept X) f) in
      record {
        kept = kept;
        keeps = G.keeping;
        written = record { atoms = X; is_answer = G.is_answer; first = G.is_first; written = kept_plan (relaxed kept X) f };
        number = m;
        listed = kept_list (relaxed kept X) f ∙ ap (λ (j : ℕ). dropped_of P kept ++ drop j list) (sym m);
        put_back = drops_leave_none n P kept X G;
      }
  answers_by no_plan f k h = absurd (let z = kinds (sym h ∙ comes no_plan f) in omega arith)
  answers_by at_limit f k h = absurd (let z = kinds (sym h ∙ comes at_limit f) in omega arith)

  none_by : (y : defined.Relaxed) → x ≡ y → r ≡ Ok told.Nothing → ((X : Atoms) → AnswerSet (keep headed P) X → ⊥) × (list' ≡ list) × (plan' ≡ plan)
  none_by (relaxed kept X) f h = absurd (let z = kinds (sym h ∙ comes (relaxed kept X) f) in omega arith)
  none_by no_plan f h = (none_means_none cycles n P inside no_head noAgg lim f, kept_list no_plan f, kept_plan no_plan f)
  none_by at_limit f h = absurd (let z = kinds (sym h ∙ comes at_limit f) in omega arith)

  limit_by : (y : defined.Relaxed) → x ≡ y → r ≡ Ok told.Limit
      → ((kept : ℕ → Bool) × (o : Outcome) × (solve (base_by cycles (rules_of P kept) n) jump lim ≡ some o) × (o.result ≡ limit)) × (list' ≡ list) × (plan' ≡ plan)
  limit_by (relaxed kept X) f h = absurd (let z = kinds (sym h ∙ comes (relaxed kept X) f) in omega arith)
  limit_by no_plan f h = absurd (let z = kinds (sym h ∙ comes no_plan f) in omega arith)
  limit_by at_limit f h = (limit_is_a_trials cycles n P inside no_head noAgg lim f, kept_list at_limit f, kept_plan at_limit f)

  found_by_lem : (y : defined.Relaxed) → x ≡ y → (X : Atoms) → AnswerSet (keep headed P) X → r ≢ Ok told.Limit → (k : ℕ) × (r ≡ Ok (told.Answer k))
  found_by_lem (relaxed kept Y) f X A h = (length (dropped_of P kept), comes (relaxed kept Y) f)
  found_by_lem no_plan f X A h = absurd (none_means_none cycles n P inside no_head noAgg lim f X A)
  found_by_lem at_limit f X A h = absurd (h (comes at_limit f))

  taken_by : (y : defined.Relaxed) → x ≡ y → (m i : ℕ) → relax_report_of r ≢ refusal_relaxed m i
  taken_by (relaxed kept X) f m i h = let z : ◌≡◌ {A = ℕ} 0 3 = ap (λ (s : RelaxReport). s.kind) (sym (ap relax_report_of (comes (relaxed kept X) f)) ∙ h) in omega arith
  taken_by no_plan f m i h = let z : ◌≡◌ {A = ℕ} 1 3 = ap (λ (s : RelaxReport). s.kind) (sym (ap relax_report_of (comes no_plan f)) ∙ h) in omega arith
  taken_by at_limit f m i h = let z : ◌≡◌ {A = ℕ} 2 3 = ap (λ (s : RelaxReport). s.kind) (sym (ap relax_report_of (comes at_limit f)) ∙ h) in omega arith

  -- where the whole program has an answer set, any number dropped could be put back
  whole_by : (X : Atoms) → AnswerSet P X → (k : ℕ) → GivesUp n P list list' plan plan' k → k ≡ 0
  whole_by X A k G = G.number ∙ at (dropped_of P G.kept) refl
    where
      at : (m : List ℕ) → dropped_of P G.kept ≡ m → length m ≡ 0
      at [] g = refl
      at (i ∷ m) g = absurd (G.put_back i (subst (λ (s : List ℕ). i ∈ s) (sym g) (Memᴰ.head refl)) X (fewer P (with_number i G.kept) X A))

  pub relaxes_by : Relaxes cycles n P lim list list' plan plan' r
  relaxes_by = record {
    result = e;
    listed = l;
    written = w;
    answers = answers_by x refl;
    none = none_by x refl;
    limited = limit_by x refl;
    found = found_by_lem x refl;
    whole = λ X A k h. whole_by X A k (answers_by x refl k h);
    taken = taken_by x refl;
  }

-- ---- an accepted table

module _ (t : List ℤ) (ask : Ask) (list list' plan plan' : List ℕ) (r : Result Relaxed Refusal) (c : Contents) (a : AcceptedBy ask.cycles t (Plan (length plan)) c) (fits : length (program c) ≤ length list)
    (e : r ≡ Ok (relaxed_by (program c) (relax ask.cycles c.atoms ask.limit (program c)))) (l : list' ≡ list_after (program c) (relax ask.cycles c.atoms ask.limit (program c)) list)
    (w : plan' ≡ plan_after c.atoms (relax ask.cycles c.atoms ask.limit (program c)) plan) where
  all : Relaxes ask.cycles c.atoms (program c) ask.limit list list' plan plan' r
  all = relaxes_by ask.cycles c.atoms (program c) (accepted_atoms t c a.holds) (heads_free t (Plan (length plan)) c a) a.no_aggregate ask.limit list list' plan plan' r e l w

  pub relaxing_accepted : Relaxing t ask list list' plan plan' r
  relaxing_accepted = record {
    refused = λ n i. (λ h. absurd (all.taken n i h), λ h. absurd (refused_or_taken ask.cycles t (length plan) (length list) n i h c a fits));
    untouched = λ n i h. absurd (all.taken n i h);
    relaxes = λ d b k. subst (λ (y : Contents). Relaxes ask.cycles y.atoms (program y) ask.limit list list' plan plan' r) (accepted_unique t (Plan (length plan)) c d a b) all;
  }
