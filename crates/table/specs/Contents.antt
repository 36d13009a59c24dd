-- What a table holds (01, "The rule table"), its words, and the program it stands for. Definitions only: to be believed.
--   Contents     the number of atoms, the aggregates, the rules with their aggregate literals by number
--   InRange c    all numbers of c are within 01's ranges, and its lists ascend strictly
--   encode c     the words of c: "Three sections in a fixed order, each after its count"
--   program c    the rules with aggregates in the place of their numbers
-- Assumes nothing.
use Rattle.std.specs.Prelude.{List, [], ◌∷◌, ◌++◌, map, ℕ, ◌-◌, ◌≤◌, ◌<◌, ℤ, pos, negsuc, nat_abs, length, get_or}
use Rattle.std.specs.Int.Signed.{non_neg}
use Rattle.meaning.specs.Lists.{Is}
use Rattle.meaning.specs.Program.{Element, Aggregate, Literal, Rule, Program}
use Rattle.meaning.specs.declared.Function.{Function}
use Rattle.meaning.specs.declared.Function.TheVariants.{Count, Sum, Min, Max}
use Rattle.meaning.specs.declared.Comparison.{Comparison}
use Rattle.meaning.specs.declared.Comparison.TheVariants.{Less, Greater}
use Rattle.table.specs.Roles.{within}

-- a rule whose aggregate literals are numbers: "j for aggregate j and -j for its negation"
pub record NumberedRule : Type 0 where
  pub head : List ℕ
  pub pos : List ℕ
  pub neg : List ℕ
  pub aggs : List ℤ

pub record Contents : Type 0 where
  pub atoms : ℕ
  pub aggregates : List Aggregate
  pub rules : List NumberedRule

-- ---- 01's ranges

-- every member has the property
abbrev pub Each : {A : Type 0} → (A → Type 0) → List A → Type 0
Each P [] = Unit {0}
Each P (x ∷ l) = P x × Each P l

-- numbers above `previous` and at most top, each above the one before: with 0 for `previous`, "ascends strictly" among 1 to top
abbrev pub Ascending : ℕ → ℕ → List ℕ → Type 0
Ascending top previous [] = Unit {0}
Ascending top previous (x ∷ l) = (previous < x) × (x ≤ top) × Ascending top x l

-- "threshold (-1 to 4,194,304), element count (0 to 64), then pairs of value (0 to 65,535) and atom. Atoms ascend strictly"
pub record AggregateInRange (n : ℕ) (a : Aggregate) : Type 0 where
  pub threshold : Is (within (negsuc 0) (pos 4194304) a.threshold)
  pub few : length a.elements ≤ 64
  pub values : Each (λ e. e.value ≤ 65535) a.elements
  pub atoms : Ascending n 0 (map (λ (e : Element). e.atom) a.elements)

-- "head atoms (0 to 16), positive body atoms (0 to 64), negated body atoms (0 to 64), aggregate literals (0 to 8)"; "Each list ascends
-- strictly, the last by the number without its sign"
pub record RuleInRange (n g : ℕ) (r : NumberedRule) : Type 0 where
  pub few_head : length r.head ≤ 16
  pub head : Ascending n 0 r.head
  pub few_pos : length r.pos ≤ 64
  pub pos : Ascending n 0 r.pos
  pub few_neg : length r.neg ≤ 64
  pub neg : Ascending n 0 r.neg
  pub few_aggs : length r.aggs ≤ 8
  pub aggs : Ascending g 0 (map nat_abs r.aggs)

-- "the count N, 0 to 256", "the count G, 0 to 64", "the count M, 0 to 1,024"
pub record InRange (c : Contents) : Type 0 where
  pub few_atoms : c.atoms ≤ 256
  pub few_aggregates : length c.aggregates ≤ 64
  pub aggregates : Each (AggregateInRange c.atoms) c.aggregates
  pub few_rules : length c.rules ≤ 1024
  pub rules : Each (RuleInRange c.atoms (length c.aggregates)) c.rules

-- ---- the words

-- "function (0 count, 1 sum, 2 min, 3 max)"
abbrev pub function_code : Function → ℕ
function_code Count = 0
function_code Sum = 1
function_code Min = 2
function_code Max = 3

-- "comparison (0 less than, 1 greater than)"
abbrev pub comparison_code : Comparison → ℕ
comparison_code Less = 0
comparison_code Greater = 1

-- a list "after its count"
abbrev pub encode_list : List ℤ → List ℤ
encode_list l = pos (length l) ∷ l

abbrev pub encode_atoms : List ℕ → List ℤ
encode_atoms l = encode_list (map pos l)

abbrev pub encode_elements : List Element → List ℤ
encode_elements [] = []
encode_elements (e ∷ es) = pos e.value ∷ pos e.atom ∷ encode_elements es

unfoldable pub encode_aggregate : Aggregate → List ℤ
encode_aggregate a =
    pos (function_code a.function) ∷ pos (comparison_code a.comparison) ∷ a.threshold ∷ pos (length a.elements) ∷ encode_elements a.elements

unfoldable pub encode_rule : NumberedRule → List ℤ
encode_rule r = encode_atoms r.head ++ (encode_atoms r.pos ++ (encode_atoms r.neg ++ encode_list r.aggs))

-- one after another
abbrev pub encode_all : {A : Type 0} → (A → List ℤ) → List A → List ℤ
encode_all e [] = []
encode_all e (x ∷ xs) = e x ++ encode_all e xs

unfoldable pub encode : Contents → List ℤ
encode c =
    pos c.atoms ∷ pos (length c.aggregates) ∷ (encode_all encode_aggregate c.aggregates ++ (pos (length c.rules) ∷ encode_all encode_rule c.rules))

-- ---- the program

-- the aggregate that stands for a number that no aggregate has: never met where numbers are in range
abbrev pub no_aggregate : Aggregate
no_aggregate = record { function = Count; comparison = Less; threshold = pos 0; elements = [] }

-- aggregate j, from 1
abbrev pub aggregate_by : List Aggregate → ℕ → Aggregate
aggregate_by gs j = get_or gs (j - 1) no_aggregate

abbrev pub literal_by : List Aggregate → ℤ → Literal
literal_by gs w = record { plain = non_neg w; aggregate = aggregate_by gs (nat_abs w) }

abbrev pub rule_by : List Aggregate → NumberedRule → Rule
rule_by gs r = record { head = r.head; pos = r.pos; neg = r.neg; aggs = map (literal_by gs) r.aggs }

unfoldable pub program : Contents → Program
program c = map (rule_by c.aggregates) c.rules
