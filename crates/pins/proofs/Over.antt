-- Promises over one set of answer sets, said of another that has the same members. Assumes nothing.
use mathlib.Core.List.{List}
use Rattle.std.specs.Prelude.{Result}
use Prim.Native.Nat.{ℕ}
use Rattle.meaning.specs.Aggregates.{Atoms}
use Rattle.results.specs.declared.Refusal.{Refusal}
use Rattle.results.specs.declared.Solved.{Solved}
use Rattle.search.specs.Search.{Problem, Outcome}
use Rattle.promises.specs.Promises.{Meaning, Searching}

module _ (AS BS : Atoms → Type 0) (to : (X : Atoms) → AS X → BS X) (from : (X : Atoms) → BS X → AS X) (lim : ℕ) (old new : List ℕ) (r : Result Solved Refusal) where
  pub meaning_over : (n : ℕ) → Meaning n AS lim old new r → Meaning n BS lim old new r
  meaning_over n m = record {
    answers = λ k h. let w = m.answers k h in record { atoms = w.atoms; is_answer = to w.atoms w.is_answer; first = λ Z b. w.first Z (from Z b); written = w.written };
    none = λ k h. (λ X b. (m.none k h).0 X (from X b), (m.none k h).1);
    limited = m.limited;
    found = λ X b u. m.found X (from X b) u;
    taken = m.taken;
  }

  pub searching_over : (P : Problem) (o : Outcome) → Searching AS P r o lim old new → Searching BS P r o lim old new
  searching_over P o s = record {
    jumping = s.jumping;
    result = s.result;
    plan = s.plan;
    beside = λ L le. let b = s.beside L le in record { ends = b.ends; plainly = b.plainly; fewer = b.fewer; alike = b.alike };
    sooner = s.sooner;
    skipped = s.skipped;
    dead = λ b m X a. s.dead b m X (from X a);
    passes = s.passes;
    bounded = s.bounded;
  }
