-- A result that reports the outcome of the defined plain search on an accepted table is alike to what the jumping search ends with. (The meaning of demand 2 is `means`
-- of crate `promises`.) Assumes nothing.
use mathlib.Core.Path.{◌≡◌, ◌∙◌, ap}
use mathlib.Core.Logic.{◌≢◌, ◌⊎◌, inl, inr}
use mathlib.Core.Bool.{Bool}
use mathlib.Core.Option.{some}
use mathlib.Core.List.{List}
use Prim.Native.Nat.{ℕ, ◌+◌, ◌≤◌}
use native.Mathlib.Omega.{arith}
use Rattle.meaning.specs.Aggregates.{Atoms}
use Rattle.meaning.specs.Answers.{AnswerSet}
use Rattle.results.specs.declared.Counts.{Counts}
use Rattle.std.specs.Prelude.{Result, Ok}
use Rattle.results.specs.declared.Refusal.{Refusal}
use Rattle.results.specs.declared.Solved.{Solved}
use Rattle.results.specs.Results.{counts_of}
use Rattle.search.specs.Search.{Problem, limit, Outcome, jump, plain, solve}
use Rattle.search.specs.Laws.{Laws}
use Rattle.search.proofs.Theorems as theorems
use Rattle.smaller.specs.Cyclic.{base_by}
use Rattle.table.specs.Contents.{Contents, program}
use Rattle.promises.specs.Promises.{plan_after, solved_by}
use Rattle.promises.proofs.Kept.{counts_by}
use Rattle.plain.specs.Promise.{plain_counts, Searched}

module _ (cycles : Bool) (c : Contents) (L : Laws (AnswerSet (program c)) (base_by cycles (program c) c.atoms)) (lim : ℕ)
    (p : Outcome) (e : solve (base_by cycles (program c) c.atoms) plain lim ≡ some p) (old new : List ℕ) (r : Result Solved Refusal)
    (told : r ≡ Ok (solved_by p.result (plain_counts p.choices))) (kept : new ≡ plan_after c.atoms p.result old) where
  abbrev AS : Atoms → Type 0
  AS = AnswerSet (program c)

  abbrev B : Problem
  B = base_by cycles (program c) c.atoms

  -- any limit of the jumping search: under the larger of the two both end as they did
  alike : p.result ≢ limit → (other : ℕ) (o : Outcome) → solve B jump other ≡ some o → o.result ≢ limit → (o.result ≡ p.result) × (o.choices ≤ p.choices)
  alike n other o f m = at x.1
    where
      x : (o.choices ≤ p.choices) × ((p.result ≡ limit) ⊎ (o.result ≡ p.result))
      x = theorems.jump≤plain AS B L (lim + other) o p
          (theorems.limit_no_matter AS B L other (lim + other) (omega arith) jump o f m)
          (theorems.limit_no_matter AS B L lim (lim + other) (omega arith) plain p e n)

      at : (p.result ≡ limit) ⊎ (o.result ≡ p.result) → (o.result ≡ p.result) × (o.choices ≤ p.choices)
      at (inl z) = absurd (n z)
      at (inr z) = (z, x.0)

  pub searched : Searched cycles c lim old new r p
  searched =
      let k : (counts_of r).choices ≡ p.choices = ap (λ (x : Counts). x.choices) (ap counts_of told ∙ counts_by p.result (plain_counts p.choices)) in
      let few = theorems.choices≤limit AS B L lim plain p e in
      record { plainly = e; result = told; plan = kept; alike = alike; bounded = rw k few }
