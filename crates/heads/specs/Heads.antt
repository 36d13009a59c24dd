-- The rules that have an atom in the head, as the code keeps them: a rule is named by the index at which it begins. Definitions only; they need not
-- be believed: `proofs/Laws.antt` ties them to the program that a table stands for.
--   bounds, size       how many words say where lists begin and end, and how many there are in all
--   places_from t i n   where each of the n rules from i on begins
--   with_head t p l     those of the rules at l that have p in the head, in the same order
--   list_at a k         list k of the array a
--   Holds a k l        list k lies in the array, and it is l
--   Part t tb l        rules lie at the places l, and those of them with an atom in the head are the table's
--   taking t a         the rules of list 0: those that take part
--   Listed t tb a      list 0 has a part of the table's rules, list p those with p in the head
--   Whole t tb a       and list 0 has all rules of the table
--   Counted l a b      b is a after a rule with the head l is counted: one more at 2p + 1 for each p of l
--   Counts t tb l a    all rules stand in list 0's place, and at 2p + 1 the number of the rules at l that have p in the head
--   end_of a s p        where list p ends, by the counts of a, list 0 ending at s
--   Ended s n a b      b is a with the ends of lists 0 .. n in the place of their counts; all but list 0 are empty
--   Regions a          the lists lie one after the other, the first from index `bounds` on
--   Room l a           there is a free word before the list of each p of l
--   Put l i a b        b is a after rule i is put at the front of the list of each p of l
-- Assumes nothing.
use Rattle.std.specs.Prelude.{◌≡◌, true, cond, List, [], ◌∷◌, map, ℕ, zero, suc, ◌+◌, ◌-◌, ◌*◌, ◌≤◌, ◌<◌, ℤ, length, get_or, take, drop}
use Rattle.meaning.specs.Lists.{has}
use Rattle.meaning.specs.Program.{Program}
use Rattle.layout.specs.Layout.{past_rule, rule_at, RuleLies}
use Rattle.layout.specs.declared.Table.{Table}

-- two for list 0 and two for each of 256 atoms
abbrev pub bounds : ℕ
bounds = 514

-- those, one for each of 1,024 rules, and one for each atom of a head, of which there are fewer than 16,384
abbrev pub size : ℕ
size = 17922

unfoldable pub places_from : List ℤ → ℕ → ℕ → List ℕ
places_from t i zero = []
places_from t i (suc n) = i ∷ places_from t (past_rule t i) n

abbrev pub places_of : List ℤ → Table → List ℕ
places_of t tb = places_from t tb.first tb.rules

unfoldable pub with_head : List ℤ → ℕ → List ℕ → List ℕ
with_head t p [] = []
with_head t p (i ∷ l) = cond (has p (rule_at t i).head) (i ∷ with_head t p l) (with_head t p l)

-- a rule lies at each place of l
abbrev pub AllLie : Table → List ℤ → List ℕ → Type 0
AllLie tb t l = (k : ℕ) → k < length l → RuleLies tb.atoms tb.aggregates t (get_or l k 0)

abbrev pub list_at : List ℕ → ℕ → List ℕ
list_at a k = take (get_or a (2 * k + 1) 0 - get_or a (2 * k) 0) (drop (get_or a (2 * k) 0) a)

pub record Holds (a : List ℕ) (k : ℕ) (l : List ℕ) : Type 0 where
  pub within : 2 * k + 1 < length a
  pub ordered : get_or a (2 * k) 0 ≤ get_or a (2 * k + 1) 0
  pub fits : get_or a (2 * k + 1) 0 ≤ length a
  pub same : list_at a k ≡ l

-- so only constraints may be missing, and the order is the table's for the rules with an atom in the head
pub record Part (t : List ℤ) (tb : Table) (l : List ℕ) : Type 0 where
  pub lie : AllLie tb t l
  pub heads : (p : ℕ) → with_head t p l ≡ with_head t p (places_of t tb)

abbrev pub taking : List ℤ → List ℕ → Program
taking t a = map (rule_at t) (list_at a 0)

-- list 0 begins behind the bounds, and no other list in the room for all rules: so list 0 may be made again with other rules
pub record Listed (t : List ℤ) (tb : Table) (a : List ℕ) : Type 0 where
  pub long : length a ≡ size
  pub first : get_or a 0 0 ≡ bounds
  pub all : Holds a 0 (list_at a 0)
  pub part : Part t tb (list_at a 0)
  pub apart : (p : ℕ) → 1 ≤ p → p ≤ tb.atoms → bounds + tb.rules ≤ get_or a (2 * p) 0
  pub each : (p : ℕ) → 1 ≤ p → p ≤ tb.atoms → Holds a p (with_head t p (places_of t tb))

pub record Whole (t : List ℤ) (tb : Table) (a : List ℕ) : Type 0 where
  pub listed : Listed t tb a
  pub whole : list_at a 0 ≡ places_of t tb

-- ---- counting

pub record Counted (l : List ℕ) (a b : List ℕ) : Type 0 where
  pub sized : length b ≡ size
  pub behind : drop bounds b ≡ drop bounds a
  pub counts : (p : ℕ) → p ≤ 256 → get_or b (2 * p + 1) 0 ≡ cond (has p l) (get_or a (2 * p + 1) 0 + 1) (get_or a (2 * p + 1) 0)

pub record Counts (t : List ℤ) (tb : Table) (l : List ℕ) (a : List ℕ) : Type 0 where
  pub sized : length a ≡ size
  pub places : take tb.rules (drop bounds a) ≡ places_of t tb
  pub counts : (p : ℕ) → p ≤ 256 → get_or a (2 * p + 1) 0 ≡ length (with_head t p l)

unfoldable pub end_of : List ℕ → ℕ → ℕ → ℕ
end_of a s zero = s
end_of a s (suc p) = end_of a s p + get_or a (2 * suc p + 1) 0

pub record Ended (s n : ℕ) (a b : List ℕ) : Type 0 where
  pub sized : length b ≡ size
  pub behind : drop bounds b ≡ drop bounds a
  pub first : get_or b 0 0 ≡ bounds
  pub begins : (p : ℕ) → 1 ≤ p → p ≤ n → get_or b (2 * p) 0 ≡ end_of a s p
  pub ends : (p : ℕ) → p ≤ n → get_or b (2 * p + 1) 0 ≡ end_of a s p

-- ---- putting

pub record Regions (a : List ℕ) : Type 0 where
  pub sized : length a ≡ size
  pub first : get_or a 0 0 ≡ bounds
  pub ordered : (p : ℕ) → p ≤ 256 → get_or a (2 * p) 0 ≤ get_or a (2 * p + 1) 0
  pub apart : (p q : ℕ) → p < q → q ≤ 256 → get_or a (2 * p + 1) 0 ≤ get_or a (2 * q) 0
  pub fits : (p : ℕ) → p ≤ 256 → get_or a (2 * p + 1) 0 ≤ size

abbrev pub Room : List ℕ → List ℕ → Type 0
Room l a = (p q : ℕ) → p ≤ 256 → has p l ≡ true → q < p → get_or a (2 * q + 1) 0 < get_or a (2 * p) 0

pub record Put (l : List ℕ) (i : ℕ) (a b : List ℕ) : Type 0 where
  pub regions : Regions b
  pub begins : (p : ℕ) → p ≤ 256 → get_or b (2 * p) 0 ≡ cond (has p l) (get_or a (2 * p) 0 - 1) (get_or a (2 * p) 0)
  pub ends : (p : ℕ) → p ≤ 256 → get_or b (2 * p + 1) 0 ≡ get_or a (2 * p + 1) 0
  pub lists : (p : ℕ) → p ≤ 256 → list_at b p ≡ cond (has p l) (i ∷ list_at a p) (list_at a p)
