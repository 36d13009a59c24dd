-- How the words of an accepted table stand for a program (01, "The rule table"): total functions of the words and an index, and what "the
-- parts lie in the table" means. What is accepted, and which program it stands for, is the page of crate `table`; there it is shown that an accepted table is `Laid`.
--   nat_at t i          the word at i without its sign
--   part_at, past_at     the words of the list whose count stands at i, and the index past it
--   aggregate_at        the aggregate that begins at i;  start_from t i k: where the k-th one from i on begins
--   rule_at, past_rule   the rule that begins at i, and the index past it
--   rules_from t i n    the n rules from i on
--   program_of t tb     the program of a table whose places are tb
--   Laid t tb          all places of tb are right, and everything lies within the words and within 01's ranges
-- Reached by public contracts, and so to be believed: `function_by`, `comparison_by`.
-- Assumes nothing.
use Rattle.std.specs.Prelude.{◌≡◌, List, [], ◌∷◌, map, ℕ, zero, suc, ◌+◌, ◌-◌, ◌*◌, ◌≤◌, ◌<◌, T, ℤ, pos, negsuc, nat_abs, length, get_or, take, drop}
use Rattle.std.specs.Int.Signed.{non_neg}
use Rattle.meaning.specs.Program.{Element, Aggregate, Literal, Rule, Program}
use Rattle.meaning.specs.declared.Function.{Function}
use Rattle.meaning.specs.declared.Function.TheVariants.{Count, Sum, Min, Max}
use Rattle.meaning.specs.declared.Comparison.{Comparison}
use Rattle.meaning.specs.declared.Comparison.TheVariants.{Less, Greater}
use Rattle.layout.specs.declared.Table.{Table}

abbrev pub nat_at : List ℤ → ℕ → ℕ
nat_at t i = nat_abs (get_or t i (pos 0))

-- ---- lists: a count and then its members

abbrev pub part_at : List ℤ → ℕ → List ℤ
part_at t i = take (nat_at t i) (drop (i + 1) t)

abbrev pub past_at : List ℤ → ℕ → ℕ
past_at t i = i + 1 + nat_at t i

-- the words of a list of atoms as numbers
abbrev pub atoms : List ℤ → List ℕ
atoms l = map nat_abs l

-- every member of the list, without its sign, is one of 1 .. top
abbrev pub Members : ℕ → List ℤ → Type 0
Members top l = (k : ℕ) → k < length l → (1 ≤ nat_abs (get_or l k (pos 0))) × (nat_abs (get_or l k (pos 0)) ≤ top)

-- a list stands at i, its members of 1 .. top
pub record Listed (top : ℕ) (t : List ℤ) (i : ℕ) : Type 0 where
  pub fits : past_at t i ≤ length t
  pub members : Members top (part_at t i)

-- no word of the list is negative
abbrev pub Plain : List ℤ → Type 0
Plain l = (k : ℕ) → k < length l → T (non_neg (get_or l k (pos 0)))

-- nor is its count, which stands at i
pub record PlainAt (t : List ℤ) (i : ℕ) : Type 0 where
  pub count : T (non_neg (get_or t i (pos 0)))
  pub words : Plain (part_at t i)

-- ---- aggregates: "function, comparison, threshold, element count, then pairs of value and atom"

abbrev pub function_by : ℕ → Function
function_by zero = Count
function_by (suc zero) = Sum
function_by (suc (suc zero)) = Min
function_by (suc (suc (suc n))) = Max

abbrev pub comparison_by : ℕ → Comparison
comparison_by zero = Less
comparison_by (suc n) = Greater

-- pairs of value and atom
unfoldable pub pairs : List ℤ → List Element
pairs [] = []
pairs (v ∷ []) = []
pairs (v ∷ p ∷ l) = record { value = nat_abs v; atom = nat_abs p } ∷ pairs l

-- the words of the pairs
abbrev pub pairs_at : List ℤ → ℕ → List ℤ
pairs_at t i = take (2 * nat_at t (i + 3)) (drop (i + 4) t)

abbrev pub past_aggregate : List ℤ → ℕ → ℕ
past_aggregate t i = i + 4 + 2 * nat_at t (i + 3)

unfoldable pub aggregate_at : List ℤ → ℕ → Aggregate
aggregate_at t i = record {
  function = function_by (nat_at t i);
  comparison = comparison_by (nat_at t (i + 1));
  threshold = get_or t (i + 2) (pos 0);
  elements = pairs (pairs_at t i);
}

unfoldable pub start_from : List ℤ → ℕ → ℕ → ℕ
start_from t i zero = i
start_from t i (suc k) = start_from t (past_aggregate t i) k

-- aggregate j, from 1: the aggregates begin at index 2
abbrev pub aggregate_of : List ℤ → ℕ → Aggregate
aggregate_of t j = aggregate_at t (start_from t 2 (j - 1))

-- "Atoms ascend strictly": each above the one before, the first above b
abbrev pub Rising : ℕ → List Element → Type 0
Rising b [] = Unit {0}
Rising b (e ∷ es) = (b < e.atom) × Rising e.atom es

-- an aggregate lies at i: "threshold (-1 to 4,194,304), element count (0 to 64), .. value (0 to 65,535)", atoms of 1 .. top
pub record AggregateLies (top : ℕ) (t : List ℤ) (i : ℕ) : Type 0 where
  pub fits : past_aggregate t i ≤ length t
  pub few : nat_at t (i + 3) ≤ 64
  pub functions : nat_at t i ≤ 3
  pub comparisons : nat_at t (i + 1) ≤ 1
  pub threshold : (n : ℕ) → get_or t (i + 2) (pos 0) ≡ pos n → n ≤ 4194304
  pub lowest : (n : ℕ) → get_or t (i + 2) (pos 0) ≡ negsuc n → n ≡ 0
  pub values : (k : ℕ) → k < nat_at t (i + 3) → nat_at t (i + 4 + 2 * k) ≤ 65535
  pub atoms : (k : ℕ) → k < nat_at t (i + 3) → (1 ≤ nat_at t (i + 4 + 2 * k + 1)) × (nat_at t (i + 4 + 2 * k + 1) ≤ top)
  pub ascend : Rising 0 (pairs (pairs_at t i))
  pub plain : Plain (pairs_at t i)

-- ---- rules: head atoms, positive body atoms, negated body atoms, aggregate literals

-- "j for aggregate j and -j for its negation"
abbrev pub literal_of : List ℤ → ℤ → Literal
literal_of t w = record { plain = non_neg w; aggregate = aggregate_of t (nat_abs w) }

abbrev pub pos_at : List ℤ → ℕ → ℕ
pos_at t i = past_at t i

abbrev pub neg_at : List ℤ → ℕ → ℕ
neg_at t i = past_at t (pos_at t i)

abbrev pub aggs_at : List ℤ → ℕ → ℕ
aggs_at t i = past_at t (neg_at t i)

abbrev pub past_rule : List ℤ → ℕ → ℕ
past_rule t i = past_at t (aggs_at t i)

unfoldable pub rule_at : List ℤ → ℕ → Rule
rule_at t i = record {
  head = atoms (part_at t i);
  pos = atoms (part_at t (pos_at t i));
  neg = atoms (part_at t (neg_at t i));
  aggs = map (literal_of t) (part_at t (aggs_at t i));
}

unfoldable pub rules_from : List ℤ → ℕ → ℕ → Program
rules_from t i zero = []
rules_from t i (suc n) = rule_at t i ∷ rules_from t (past_rule t i) n

-- a rule lies at i, over atoms 1 .. top and aggregates 1 .. most
pub record RuleLies (top most : ℕ) (t : List ℤ) (i : ℕ) : Type 0 where
  pub heads : Listed top t i
  pub poss : Listed top t (pos_at t i)
  pub negs : Listed top t (neg_at t i)
  pub aggs : Listed most t (aggs_at t i)
  pub plain_head : PlainAt t i
  pub plain_pos : PlainAt t (pos_at t i)
  pub plain_neg : PlainAt t (neg_at t i)

unfoldable pub RulesLie : ℕ → ℕ → List ℤ → ℕ → ℕ → Type 0
RulesLie top most t i zero = Unit {0}
RulesLie top most t i (suc n) = RuleLies top most t i × RulesLie top most t (past_rule t i) n

-- ---- the table

abbrev pub program_of : List ℤ → Table → Program
program_of t tb = rules_from t tb.first tb.rules

pub record Laid (t : List ℤ) (tb : Table) : Type 0 where
  pub short : length t ≤ 16384
  pub few_atoms : tb.atoms ≤ 256
  pub few_aggregates : tb.aggregates ≤ 64
  pub few_rules : tb.rules ≤ 1024
  -- aggregate j + 1 begins where its place says
  pub starts : (j : ℕ) → j < tb.aggregates → get_or tb.starts j 0 ≡ start_from t 2 j
  pub aggregates : (j : ℕ) → j < tb.aggregates → AggregateLies tb.atoms t (start_from t 2 j)
  pub rules_lie : RulesLie tb.atoms tb.aggregates t tb.first tb.rules
