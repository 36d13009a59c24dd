-- The place of a refusal is small: the index of a word or the number of the words, or a rule's number. So it fits any number that a caller may
-- want it in. Assumes nothing.
use mathlib.Core.Path.{◌≡◌}
use mathlib.Core.Bool.{Bool}
use mathlib.Core.List.{List}
use Prim.Native.Nat.{ℕ, ◌≤◌}
use native.Mathlib.Omega.{arith}
use lib.IntN.{ℤ}
use lib.ListN.{length, length-map}
use Rattle.table.specs.Contents.{Contents, InRange, program, rule_by}
use Rattle.table.specs.Grammar.{accepted, contents_of}
use Rattle.table.proofs.Theorem.{accepted↔encoding, first_fault}
use Rattle.judging.specs.declared.Buffer.{Buffer}
use Rattle.judging.specs.Refusals.{RefusedBy, words, buffer, table, head, aggregate}

-- what an accepted table holds is within 01's ranges
pub ranges : (t : List ℤ) (c : Contents) → contents_of t ≡ accepted c → InRange c
ranges t c e = ((accepted↔encoding t c).0 e).range

rules_few : (t : List ℤ) (c : Contents) → contents_of t ≡ accepted c → length (program c) ≤ 1024
unfolding program
rules_few t c e = let m = length-map c.rules (rule_by c.aggregates) in let n = (ranges t c e).few_rules in omega (arith, m, n)

pub place_small : {cycles : Bool} (t : List ℤ) (b : Buffer) (n i : ℕ) → RefusedBy cycles t b n i → i ≤ 16384
place_small t b n i (words h e p) = omega (arith, p)
place_small t b n i (buffer s e p) = omega (arith, p)
place_small t b n i (table s h f e u p) = let z = (first_fault t s f e).inside in omega (arith, z, s, p)
place_small t b n i (head s h c e l g) = let m = rules_few t c e in let u = l.upto in omega (arith, m, u)
place_small t b n i (aggregate s h c e f l g) = let m = rules_few t c e in let u = l.upto in omega (arith, m, u)
