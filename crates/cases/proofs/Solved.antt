-- From the one computed test to the entry point: whatever meets `solve`'s promise on a case's words, with its limit and any buffer of at least 256 bytes, shows
-- what 01 says. Assumes nothing.
use mathlib.Core.Path.{◌≡◌, refl, sym, ◌∙◌, ap}
use mathlib.Core.Bool.{Bool, true, false, cond}
use mathlib.Core.List.{List, [], ◌∷◌, ◌++◌}
use Rattle.std.specs.Prelude.{⊤, Result, Ok, Err}
use Prim.Native.Nat.{ℕ, zero, suc, ◌+◌, ◌≤◌, ◌<◌}
use native.Mathlib.Omega.{arith}
use lib.Dec.{eqb, leb}
use lib.IntN.{ℤ}
use lib.ListN.{length, get_or, drop}
use borrow.Author.Tests.{leb-true}
use Rattle.meaning.specs.Lists.{Is, ◌∈◌}
use Rattle.meaning.specs.Aggregates.{Atoms}
use Rattle.meaning.specs.Foundedness.{same_list}
use Rattle.meaning.proofs.Tools.{and_l, and_r, eq}
use Rattle.meaning.proofs.Cond.{if_lt_yes}
use Rattle.results.specs.declared.Refusal.{Refusal}
use Rattle.results.specs.declared.Solved.{Solved}
use Rattle.results.specs.Results.{number_of, place_of}
use Rattle.results.proofs.Determined.{report_determines}
use Rattle.table.specs.Contents.{Contents, program}
use Rattle.table.specs.Grammar as grammar
use Rattle.depend.specs.Cycles.{cycle_by}
use Rattle.search.specs.Search as defined
use Rattle.search.specs.Search.{answer, no_answer, limit, jump}
use Rattle.search.specs.Shown.{true_list, shown_result, shown}
use Rattle.judging.specs.declared.Buffer.TheVariants.{Plan}
use Rattle.judging.specs.Refusals.{RefusedBy, table}
use Rattle.judging.proofs.Judged.{plan_good, cycle_refuses, none_accepts}
use Rattle.promises.specs.Plans.{bit_of, bytes_from, plan_with, plan_atoms}
use Rattle.promises.specs.Promises.{plan_after, solved_by, reported}
use Rattle.solver.specs.Solving.{Solving}
use Rattle.cases.specs.Cases.{Case, as_reported, cases, shown_refusal, shown_cycle, shown_contents, shown_for, shown_solved, atoms_in}
use Rattle.cases.proofs.Table.{case_as_reported}

-- ---- equal lists

same_lists : (s t : List ℕ) → Is (same_list s t) → s ≡ t
same_lists [] [] h = refl
same_lists [] (q ∷ t) h = absurd (let z : ◌≡◌ {A = ℕ} 0 1 = cc in omega arith)
same_lists (p ∷ s) [] h = absurd (let z : ◌≡◌ {A = ℕ} 0 1 = cc in omega arith)
same_lists (p ∷ s) (q ∷ t) h =
    let e : p ≡ q = eq p q (and_l (eqb p q) (same_list s t) h) in
    let f : s ≡ t = same_lists s t (and_r (eqb p q) (same_list s t) h) in
    ap (λ (x : ℕ). x ∷ s) e ∙ ap (λ (l : List ℕ). q ∷ l) f

-- ---- the plan that was written shows the answer

byte_at : (X : Atoms) (n p i : ℕ) (rest : List ℕ) → i < n → get_or (bytes_from X p n ++ rest) i 0 ≡ bit_of (X (p + i))
byte_at X zero p i rest h = absurd (omega arith)
byte_at X (suc n) p zero rest h = let e : p + 0 ≡ p = omega arith in ap (λ (q : ℕ). bit_of (X q)) (sym e)
byte_at X (suc n) p (suc i) rest h = let e : suc p + i ≡ p + suc i = omega arith in byte_at X n (suc p) i rest (omega arith) ∙ ap (λ (q : ℕ). bit_of (X q)) e

bit_back : (b : Bool) → eqb (bit_of b) 1 ≡ b
bit_back true = refl
bit_back false = refl

plan_back : (X : Atoms) (n i : ℕ) (old : List ℕ) → i < n → plan_atoms n (plan_with n X old) (suc i) ≡ X (suc i)
plan_back X n i old h =
    let e : 1 + i ≡ suc i = omega arith in
    if_lt_yes i n (eqb (get_or (plan_with n X old) i 0) 1) false h ∙ ap (λ (b : ℕ). eqb b 1) (byte_at X n 1 i (drop n old) h) ∙ bit_back (X (1 + i)) ∙ ap X e

true_lists : (k : ℕ) (X Z : Atoms) → ((i : ℕ) → i < k → X (suc i) ≡ Z (suc i)) → true_list k X ≡ true_list k Z
true_lists zero X Z h = refl
true_lists (suc k) X Z h =
    ap (λ (l : List ℕ). l ++ cond (X (suc k)) (suc k ∷ []) []) (true_lists k X Z (λ i l. h i (omega arith))) ∙ ap (λ (b : Bool). true_list k Z ++ cond b (suc k ∷ []) []) (h k (omega arith))

shown_by : (n : ℕ) (x : defined.Result) (k s p : ℕ) (old : List ℕ) → shown_solved n (Ok (solved_by x (record { choices = k; skips = s; passes = p }))) (plan_after n x old) ≡ shown_result n k s x
shown_by n (answer X) k s p old = ap (λ (l : List ℕ). 0 ∷ k ∷ s ∷ l) (true_lists n (plan_atoms n (plan_with n X old)) X (λ i h. plan_back X n i old h))
shown_by n no_answer k s p old = refl
shown_by n limit k s p old = refl

-- ---- what meets the promise shows what the definitions report

module _ (cycles : Bool) (t : List ℤ) (lim : ℕ) (old new : List ℕ) (r : Result Solved Refusal) (short : length t ≤ 16384) (wide : 256 ≤ length old) (S : Solving t (record { cycles = cycles; limit = lim }) old new r) where
  refusal_shown : (n : ℕ) (f : Refusal) → RefusedBy cycles t (Plan (length old)) (number_of f) (place_of f) → shown_solved n r new ≡ shown_refusal f
  refusal_shown n f h = ap (λ (x : Result Solved Refusal). shown_solved n x new) (report_determines r (Err f) ((S.refused (number_of f) (place_of f)).1 h))

  by_cycle : (c : Contents) → grammar.contents_of t ≡ grammar.accepted c → (k : Result ⊤ Refusal) → cycle_by cycles c.atoms (program c) ≡ k → shown_solved c.atoms r new ≡ shown_cycle cycles k jump lim c
  by_cycle c e (Err f) i = refusal_shown c.atoms f (cycle_refuses t (Plan (length old)) short (plan_good (length old) wide) c e f i)
  by_cycle c e (Ok tt) i =
      let x = S.searching c (none_accepts t (Plan (length old)) short (plan_good (length old) wide) c e i) in
      let o = x.0 in
      ap (λ (y : Result Solved Refusal). shown_solved c.atoms y new) x.1.result ∙ ap (shown_solved c.atoms (Ok (reported o))) x.1.plan
      ∙ shown_by c.atoms o.result o.choices o.skips o.passes old ∙ sym (ap (shown c.atoms) x.1.jumping)

  by_contents : (x : grammar.Outcome) → grammar.contents_of t ≡ x → shown_solved (atoms_in x) r new ≡ shown_contents cycles x jump lim
  by_contents (grammar.refused_for f) e = refusal_shown 0 f (table short (plan_good (length old) wide) f e refl refl)
  by_contents (grammar.accepted c) e = by_cycle c e (cycle_by cycles c.atoms (program c)) refl

  pub shown_solved_lem : shown_solved (atoms_in (grammar.contents_of t)) r new ≡ shown_for cycles jump t lim
  shown_solved_lem = by_contents (grammar.contents_of t) refl

pub case_solved : (c : Case) → c ∈ cases → (old new : List ℕ) (r : Result Solved Refusal) → 256 ≤ length old → Solving c.words (record { cycles = c.cycles; limit = c.limit }) old new r
    → shown_solved (atoms_in (grammar.contents_of c.words)) r new ≡ c.jumps
unfolding as_reported
case_solved c m old new r wide S =
    let h = case_as_reported c m in
    let rest = and_r (leb (length c.words) 16384) _ h in
    let short = leb-true (length c.words) 16384 (and_l (leb (length c.words) 16384) _ h) in
    shown_solved_lem c.cycles c.words c.limit old new r short wide S ∙ same_lists (shown_for c.cycles jump c.words c.limit) c.jumps (and_l (same_list (shown_for c.cycles jump c.words c.limit) c.jumps) _ rest)
