-- What the judge hands back, in the terms of `Refusals`. Definitions only.
--   Placed            the places tb are those of the contents c in the words t
--   JudgedBy m        the whole judgement in the mode m: the refusal, or the places of what the words hold;  Judged, in 01's mode
--   JudgedWords m     the same of the words alone, where they are not too many and no buffer is bad
--   Filled            the lists of rules by head that are made on the way
--   fault_of          the refusal that the entry's own buffer earns
-- Assumes nothing.
use Rattle.std.specs.Prelude.{◌≡◌, Bool, false, List, ℕ, ◌≤◌, ◌%◌, ℤ, length, Result, Ok, Err}
use Rattle.std.proofs.Math.Option.{none}
use Rattle.meaning.specs.Cond.{if_lt, if_eq}
use Rattle.results.specs.declared.Refusal.{Refusal}
use Rattle.results.specs.declared.Refusal.TheVariants as refusal
use Rattle.results.specs.Results.{number_of, place_of}
use Rattle.layout.specs.declared.Table.{Table}
use Rattle.layout.specs.Layout.{Laid, program_of}
use Rattle.heads.specs.Heads.{Whole}
use Rattle.table.specs.Contents.{Contents, program}
use Rattle.table.specs.Places.{table_of}
use Rattle.judging.specs.declared.Buffer.{Buffer}
use Rattle.judging.specs.declared.Buffer.TheVariants as lent
use Rattle.judging.specs.Refusals.{earns, AcceptedBy, RefusedBy}

pub record Placed (t : List ℤ) (tb : Table) (c : Contents) : Type 0 where
  pub laid : Laid t tb
  pub atoms : tb.atoms ≡ c.atoms
  pub rules : program_of t tb ≡ program c

abbrev pub fault_of : Buffer → Result (Unit {0}) Refusal
fault_of lent.Nothing = Ok tt
fault_of (lent.Plan room) = if_lt room 256 (Err refusal.ShortPlan) (Ok tt)
fault_of (lent.Rows room) = if_eq (room % 256) 0 (Ok tt) (Err refusal.PartRow)

pub data JudgedBy (cycles : Bool) (t : List ℤ) (b : Buffer) (r : Result Table Refusal) : Type 0 where
  refused : (f : Refusal) → RefusedBy cycles t b (number_of f) (place_of f) → r ≡ Err f → JudgedBy cycles t b r
  taken : (c : Contents) → AcceptedBy cycles t b c → r ≡ Ok (table_of c) → JudgedBy cycles t b r

abbrev pub Judged : List ℤ → Buffer → Result Table Refusal → Type 0
Judged t b r = JudgedBy false t b r

abbrev pub JudgedWords : Bool → List ℤ → Result Table Refusal → Type 0
JudgedWords cycles t r = length t ≤ 16384 → (b : Buffer) → earns b ≡ none → JudgedBy cycles t b r

-- the lists of rules by head of a table that is not refused
abbrev pub Filled : List ℤ → Result Table Refusal → List ℕ → Type 0
Filled t r a = (tb : Table) → r ≡ Ok tb → Whole t tb a
