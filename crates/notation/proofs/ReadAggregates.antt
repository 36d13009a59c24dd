-- An aggregate's tokens are read as that aggregate. Assumes nothing.
use mathlib.Core.Path.{◌≡◌, refl, sym, ap, ◌∙◌, subst}
use mathlib.Core.Bool.{Bool, true, false, ◌&&◌}
use mathlib.Core.List.{List, [], ◌∷◌, ◌++◌, map, append_assoc}
use mathlib.Core.Option.{Option, some}
use Prim.Native.Nat.{ℕ, zero, suc, ◌+◌, ◌≤◌, ◌<◌}
use native.Mathlib.Omega.{arith}
use borrow.Author.Tests.{le-leb, lt-leb}
use lib.Dec.{T, leb}
use lib.IntN.{ℤ, pos, negsuc}
use lib.ListN.{length, length-map}
use Rattle.meaning.specs.Lists.{Is}
use Rattle.meaning.specs.Program.{Element, Aggregate}
use Rattle.meaning.specs.declared.Function.{Function}
use Rattle.meaning.specs.declared.Function.TheVariants.{Count, Sum, Min, Max}
use Rattle.meaning.specs.declared.Comparison.{Comparison}
use Rattle.meaning.specs.declared.Comparison.TheVariants.{Less, Greater}
use Rattle.table.specs.Roles.{within}
use Rattle.table.specs.Contents.{Each, Ascending, AggregateInRange}
use Rattle.notation.specs.Tokens.{Token, number, word, mark}
use Rattle.notation.specs.Parser.{outside, Parser, done, next, ◌>>=◌, made, run, last_from}
use Rattle.notation.specs.Aggregates.{elements_from, aggregate, function_of, function_by, function_in, threshold_in, comparison_in}
use Rattle.notation.proofs.TokenLists.{joined_t, element_t, threshold_t, comparison_mark, function_word, rest_t}
use Rattle.notation.proofs.Runs.{bind, check_run, last_snoc, snoc_long, member_then}

-- ---- the elements

abbrev atoms_of : List Element → List ℕ
atoms_of es = map (λ (e : Element). e.atom) es

atoms_snoc : (es : List Element) (e : Element) → atoms_of (es ++ (e ∷ [])) ≡ atoms_of es ++ (e.atom ∷ [])
atoms_snoc [] e = refl
atoms_snoc (x ∷ es) e = ap (λ (l : List ℕ). x.atom ∷ l) (atoms_snoc es e)

module _ (top : ℕ) (us : List Token) where
  pub elements_run : (rest : List Element) (es : List Element) (e : Element) (n : ℕ) → length rest < n → Each (λ (x : Element). x.value ≤ 65535) (e ∷ rest)
      → Ascending top (last_from 0 (atoms_of es)) (atoms_of (e ∷ rest)) → length es + suc (length rest) ≤ 64
      → run (elements_from n top es e.value) (mark 58 ∷ number e.atom ∷ (joined_t 44 true (map element_t rest) ++ (mark 125 ∷ us))) ≡ made (es ++ (e ∷ rest)) us
  unfolding elements_from run
  elements_run rest es e zero h v a l = absurd (omega arith)
  elements_run [] es e (suc n) h v a l =
      let k = length-map es (λ (x : Element). x.atom) in
      check_run _ _ _ _ _ (le-leb e.value 65535 v.0) ∙ member_then 0 top 64 (atoms_of es) e.atom _ _ a.0 a.1 (omega arith)
  elements_run (x ∷ rest) es e (suc n) h v a l =
      let k = length-map es (λ (y : Element). y.atom) in
      let s = snoc_long es e in
      let f : last_from 0 (atoms_of (es ++ (e ∷ []))) ≡ e.atom = ap (last_from 0) (atoms_snoc es e) ∙ last_snoc 0 (atoms_of es) e.atom in
      let b : Ascending top (last_from 0 (atoms_of (es ++ (e ∷ [])))) (atoms_of (x ∷ rest)) = subst (λ (p : ℕ). Ascending top p (atoms_of (x ∷ rest))) (sym f) a.2 in
      check_run _ _ _ _ _ (le-leb e.value 65535 v.0)
      ∙ member_then 0 top 64 (atoms_of es) e.atom _ _ a.0 a.1 (omega arith)
      ∙ elements_run rest (es ++ (e ∷ [])) x n (omega arith) v.1 b (omega arith)
      ∙ ap (λ (m : List Element). made m us) (append_assoc es (e ∷ []) (x ∷ rest))

-- ---- comparison and threshold

module _ (f : Function) (es : List Element) (us : List Token) where
  abbrev made_of : Comparison → ℤ → Aggregate
  made_of k z = record { function = f; comparison = k; threshold = z; elements = es }

  abbrev ending : Comparison → Parser Aggregate
  ending k = next threshold_in >>= (λ z. done (made_of k z))

  threshold_run : (k : Comparison) (z : ℤ) → Is (within (negsuc 0) (pos 4194304) z) → run (ending k) (threshold_t z ++ us) ≡ made (made_of k z) us
  unfolding run
  threshold_run k (ℤ.pos n) h = bind (threshold_in (number n)) (λ z. done (made_of k z)) us us (pos n) (check_run (leb n 4194304) outside 0 (λ a. done (pos n)) us h)
  threshold_run k (negsuc zero) h = refl
  threshold_run k (negsuc (suc n)) h = absurd (subst T (sym h ∙ ap (λ (b : Bool). b && true) (lt-leb (suc n) 0 (omega arith))) tt)

  tail_run : (k : Comparison) (z : ℤ) → Is (within (negsuc 0) (pos 4194304) z) → run (next comparison_in >>= ending) (mark (comparison_mark k) ∷ (threshold_t z ++ us)) ≡ made (made_of k z) us
  unfolding run
  tail_run Less z h = threshold_run Less z h
  tail_run Greater z h = threshold_run Greater z h

-- ---- the whole

module _ (top : ℕ) (f : Function) (k : Comparison) (z : ℤ) (us : List Token) (h : Is (within (negsuc 0) (pos 4194304) z)) where
  abbrev tail : List Token
  tail = mark (comparison_mark k) ∷ threshold_t z

  parts_run : (es : List Element) → length es ≤ 64 → Each (λ (e : Element). e.value ≤ 65535) es → Ascending top 0 (atoms_of es)
      → run (aggregate top f) (mark 123 ∷ ((joined_t 44 false (map element_t es) ++ (mark 125 ∷ tail)) ++ us)) ≡ made (record { function = f; comparison = k; threshold = z; elements = es }) us
  unfolding aggregate run
  parts_run [] l v a = tail_run f [] us k z h
  parts_run (e ∷ es) l v a =
      ap (λ (ts : List Token). run (aggregate top f) (mark 123 ∷ number e.value ∷ mark 58 ∷ number e.atom ∷ ts)) (append_assoc (joined_t 44 true (map element_t es)) (mark 125 ∷ tail) us)
      ∙ bind (elements_from 64 top [] e.value) _ _ (tail ++ us) (e ∷ es) (elements_run top (tail ++ us) es [] e 64 (omega arith) v a (omega arith))
      ∙ tail_run f (e ∷ es) us k z h

pub aggregate_run : (top : ℕ) (a : Aggregate) (us : List Token) → AggregateInRange top a → run (aggregate top a.function) (rest_t a ++ us) ≡ made a us
aggregate_run top a us r = parts_run top a.function a.comparison a.threshold us r.threshold a.elements r.few r.values r.atoms

-- its first word
pub function_is : (f : Function) → function_of (function_word f) ≡ some f
unfolding function_of
function_is Count = refl
function_is Sum = refl
function_is Min = refl
function_is Max = refl

-- from its first word on, and then what comes after it
pub function_then : {B : Type 0} (g : Function → Parser B) (f : Function) (ts : List Token) → run (function_in (word (function_word f)) >>= g) ts ≡ run (g f) ts
unfolding run
function_then g f ts = ap (λ (o : Option Function). run (function_by o >>= g) ts) (function_is f)
