-- Which table is refused, and with which number and place (01, "What comes back"): "Order: .. 1, 10; then the first faulty word from the left ..; then 3, 8, 9".
-- Request 14: "In a mode chosen by the call, 8 is no longer given". Definitions only: to be believed.
--   earns b              the number that the entry's own buffer b earns, if it is bad: "plan buffer shorter than 256 bytes" is 10; of rows "the buffer's length
--                        isn't a multiple of 256" is 17, "in the place of 10"
--   AcceptedBy m t b c   the words t, with the buffer b, are accepted in the mode m, and c is what they hold;  Accepted, in 01's mode
--   RefusedBy m t b n i  they are refused with number n and place i: a row of 01's table, under its condition and in 01's order;  Refused, in 01's mode
-- The mode is true where the call takes head cycles; 01's is false.
-- What the words hold, and the refusals 2 to 7 and 3, are `contents_of` of crate `table`, with number and place by `number_of` and `place_of` of crate `results`; the
-- cycles are those of crate `meaning`.
-- Assumes nothing.
use Rattle.std.specs.Prelude.{◌≡◌, Bool, false, List, ℕ, ◌≤◌, ◌<◌, ◌%◌, ℤ, length}
use Rattle.std.proofs.Math.Option.{Option, none, some}
use Rattle.meaning.specs.Cond.{if_lt, if_eq}
use Rattle.meaning.specs.Dependency.{AggregateCycle, Free}
use Rattle.results.specs.declared.Refusal.{Refusal}
use Rattle.results.specs.Results.{number_of, place_of}
use Rattle.table.specs.Contents.{Contents, program}
use Rattle.table.specs.Grammar.{accepted, refused_for, contents_of}
use Rattle.depend.specs.Cycles.{HeadCycleBy, Lowest}
use Rattle.judging.specs.declared.Buffer.{Buffer}
use Rattle.judging.specs.declared.Buffer.TheVariants as lent

-- the number of the refusal that an entry's own buffer earns, in the place of 10; none where the buffer is good, or the entry has none
abbrev pub earns : Buffer → Option ℕ
earns lent.Nothing = none
-- 10: "plan buffer shorter than 256 bytes"
earns (lent.Plan room) = if_lt room 256 (some 10) none
-- 17 (request 7): "the buffer's length isn't a multiple of 256, in the place of 10 for this entry"
earns (lent.Rows room) = if_eq (room % 256) 0 none (some 17)

pub record AcceptedBy (cycles : Bool) (t : List ℤ) (b : Buffer) (c : Contents) : Type 0 where
  pub words : length t ≤ 16384
  pub buffer : earns b ≡ none
  pub holds : contents_of t ≡ accepted c
  pub no_head : Free (HeadCycleBy cycles) (program c)
  pub no_aggregate : Free AggregateCycle (program c)

pub data RefusedBy (cycles : Bool) (t : List ℤ) (b : Buffer) (number place : ℕ) : Type 0 where
  -- 1: "more than 16,384 words", place 0
  words : 16384 < length t → number ≡ 1 → place ≡ 0 → RefusedBy cycles t b number place
  -- 10, or what stands in its place, place 0
  buffer : length t ≤ 16384 → earns b ≡ some number → place ≡ 0 → RefusedBy cycles t b number place
  -- 2, 4, 7, 5, 6 at the first faulty word from the left, then 3: "its index"
  table : length t ≤ 16384 → earns b ≡ none → (f : Refusal) → contents_of t ≡ refused_for f → number ≡ number_of f → place ≡ place_of f → RefusedBy cycles t b number place
  -- 8: "head cycle", "lowest such rule, from 1"; given in 01's mode alone
  head : length t ≤ 16384 → earns b ≡ none → (c : Contents) → contents_of t ≡ accepted c
      → Lowest (HeadCycleBy cycles (program c)) (program c) place → number ≡ 8 → RefusedBy cycles t b number place
  -- 9: "aggregate cycle", "lowest rule with such an arc"
  aggregate : length t ≤ 16384 → earns b ≡ none → (c : Contents) → contents_of t ≡ accepted c → Free (HeadCycleBy cycles) (program c)
      → Lowest (AggregateCycle (program c)) (program c) place → number ≡ 9 → RefusedBy cycles t b number place

-- ---- in 01's mode

abbrev pub Accepted : List ℤ → Buffer → Contents → Type 0
Accepted t b c = AcceptedBy false t b c

abbrev pub Refused : List ℤ → Buffer → ℕ → ℕ → Type 0
Refused t b number place = RefusedBy false t b number place
