-- What is known of an accepted table: it is the encoding of its contents, which are within 01's ranges; the places that `read` returns are
-- right (`Laid`), and the program that `layout` reads there is the one that the table stands for. Assumes nothing.
use mathlib.Core.Path.{◌≡◌, refl, sym, ap, ◌∙◌, subst}
use mathlib.Core.Bool.{Bool, true, false}
use mathlib.Core.List.{List, [], ◌∷◌, ◌++◌, append-nil}
use Prim.Native.Nat.{ℕ, suc, ◌+◌, ◌-◌, ◌≤◌, ◌<◌}
use native.Mathlib.Omega.{arith}
use lib.Dec.{T, leb}
use lib.IntN.{ℤ, pos}
use lib.ListN.{length, get_or, drop, length-drop, length-append}
use borrow.Author.Tests.{leb-true}
use Rattle.std.specs.Prelude.{Ok, Err}
use Rattle.results.specs.declared.Refusal.{Refusal}
use Rattle.meaning.specs.Program.{Rule, Program, AtomsIn}
use Rattle.layout.specs.declared.Table.{Table}
use Rattle.layout.specs.Layout.{Laid, program_of, start_from, aggregate_at, rule_at}
use Rattle.layout.proofs.Inside.{atoms_in_lem}
use Rattle.table.specs.Roles.{Result, read, refused, run}
use Rattle.table.specs.Contents.{Contents, InRange, encode_aggregate, encode_rule, encode_all, encode, no_aggregate, program}
use Rattle.table.specs.Grammar.{table, Outcome, accepted, refused_for, ended, outcome_by, contents_of}
use Rattle.table.specs.Promises.{Encoding, rule_from}
use Rattle.table.specs.Places.{no_starts, placed, table_of, reading_by, reading_of}
use Rattle.table.proofs.Drops.{at_next, at_skip}
use Rattle.table.proofs.Whole.{table_sound}
use Rattle.table.proofs.LaidAggregates.{aggregates_are, aggregates_lie, placed_starts}
use Rattle.table.proofs.LaidRules.{rules_are, rules_lie_lem, rule_at_lem, walk_end}

-- ---- outcomes taken apart

abbrev is_accepted : Outcome → Bool
is_accepted (accepted c) = true
is_accepted (refused_for r) = false

abbrev contents_in : Contents → Outcome → Contents
contents_in d (accepted c) = c
contents_in d (refused_for r) = d

pub accepted≢refused {ℓ} : {X : Type ℓ} {c : Contents} {r : Refusal} → accepted c ≡ refused_for r → X
accepted≢refused e = absurd (subst T (ap is_accepted e) tt)

pub same_contents : {c d : Contents} → accepted c ≡ accepted d → c ≡ d
same_contents {c} e = ap (contents_in c) e

-- ---- what `read` returns

pub reading_accepted : (t : List ℤ) (c : Contents) → contents_of t ≡ accepted c → reading_of t ≡ Ok (table_of c)
unfolding reading_of
reading_accepted t c e = ap reading_by e

pub reading_refused : (t : List ℤ) (r : Refusal) → contents_of t ≡ refused_for r → reading_of t ≡ Err r
unfolding reading_of
reading_refused t r e = ap reading_by e

-- nothing is at fault: the table is accepted, and these are its places
pub fault_nothing : (t : List ℤ) (tb : Table) → reading_of t ≡ Ok tb → (c : Contents) × (contents_of t ≡ accepted c) × (tb ≡ table_of c)
fault_nothing t tb e = go (contents_of t) refl
  where
    go : (o : Outcome) → contents_of t ≡ o → (c : Contents) × (contents_of t ≡ accepted c) × (tb ≡ table_of c)
    go (accepted c) h = let f = reading_accepted t c h in (c, h, cc)
    go (refused_for r) h = let f = reading_refused t r h in absurd (cc)

pub fault_refused : (t : List ℤ) (r : Refusal) → reading_of t ≡ Err r → contents_of t ≡ refused_for r
fault_refused t r e = go (contents_of t) refl
  where
    go : (o : Outcome) → contents_of t ≡ o → contents_of t ≡ refused_for r
    go (accepted c) h = let f = reading_accepted t c h in absurd (cc)
    go (refused_for s) h = let f = reading_refused t s h in cc

-- ---- an accepted table is an encoding

ended_accepted : (t : List ℤ) (c : Contents) (r : Result Contents) → run table 0 t ≡ r → ended r ≡ accepted c → (t ≡ encode c) × InRange c
ended_accepted t c (read d i []) h e =
    let w = table_sound 0 t d i [] h in
    (w.there ∙ append-nil (encode d) ∙ ap encode (same_contents e), subst InRange (same_contents e) w.range)
ended_accepted t c (read d i (v ∷ vs)) h e = accepted≢refused (sym e)
ended_accepted t c (refused r) h e = accepted≢refused (sym e)

pub accepted_encoding : (t : List ℤ) (c : Contents) → contents_of t ≡ accepted c → Encoding t c
unfolding contents_of
accepted_encoding t c e = go (leb (length t) 16384) refl
  where
    go : (b : Bool) → leb (length t) 16384 ≡ b → Encoding t c
    go true h =
        let w = ended_accepted t c (run table 0 t) refl (ap (λ (b : Bool). outcome_by b t) (sym h) ∙ e) in
        record { short = leb-true (length t) 16384 h; words = w.0; range = w.1 }
    go false h = accepted≢refused (sym (ap (λ (b : Bool). outcome_by b t) (sym h) ∙ e))

-- ---- its parts lie where the places say

module _ (t : List ℤ) (c : Contents) (e : Encoding t c) where
  abbrev rules_words : List ℤ
  rules_words = pos (length c.rules) ∷ encode_all encode_rule c.rules

  at_aggregates : drop 2 t ≡ encode_all encode_aggregate c.aggregates ++ rules_words
  unfolding encode
  at_aggregates = ap (drop 2) e.words

  at_rules : drop (3 + length (encode_all encode_aggregate c.aggregates)) t ≡ encode_all encode_rule c.rules ++ []
  at_rules =
      let n = length (encode_all encode_aggregate c.aggregates) in
      let z : 3 + n ≡ suc (2 + n) = omega arith in
      ap (λ (k : ℕ). drop k t) z
      ∙ at_next t (2 + n) _ _ (at_skip t 2 (encode_all encode_aggregate c.aggregates) rules_words at_aggregates)
      ∙ sym (append-nil (encode_all encode_rule c.rules))

  pub encoding_laid : Laid t (table_of c)
  unfolding table_of
  encoding_laid = record {
    short = e.short;
    few_atoms = e.range.few_atoms;
    few_aggregates = e.range.few_aggregates;
    few_rules = e.range.few_rules;
    starts = starts;
    aggregates = aggregates_lie t c.atoms c.aggregates 2 rules_words at_aggregates e.range.aggregates;
    rules_lie = rules_lie_lem t c.aggregates (aggregates_are t c.aggregates 2 rules_words at_aggregates) c.atoms c.rules (3 + length (encode_all encode_aggregate c.aggregates)) [] at_rules e.range.rules;
  }
    where
      room : 0 + length c.aggregates ≤ length no_starts
      room = let f = e.range.few_aggregates in omega arith

      starts : (j : ℕ) → j < length c.aggregates → get_or (placed 0 2 c.aggregates no_starts) j 0 ≡ start_from t 2 j
      starts j h =
          let z : j ≡ 0 + j = omega arith in
          ap (λ (k : ℕ). get_or (placed 0 2 c.aggregates no_starts) k 0) z ∙ placed_starts t c.aggregates 0 2 no_starts rules_words at_aggregates room j h

  pub encoding_program : program_of t (table_of c) ≡ program c
  unfolding table_of program
  encoding_program =
      rules_are t c.aggregates (aggregates_are t c.aggregates 2 rules_words at_aggregates) c.atoms c.rules (3 + length (encode_all encode_aggregate c.aggregates)) [] at_rules e.range.rules

  -- walking the rules from the first ends with the table
  pub encoding_walk : rule_from t (table_of c).first (table_of c).rules ≡ length t
  unfolding table_of encode
  encoding_walk =
      let n = length (encode_all encode_aggregate c.aggregates) in
      let l : length t ≡ suc (suc (n + suc (length (encode_all encode_rule c.rules)))) =
      ap length e.words ∙ ap (λ (k : ℕ). suc (suc k)) (length-append (encode_all encode_aggregate c.aggregates) rules_words) in
      let w = walk_end t c.aggregates (aggregates_are t c.aggregates 2 rules_words at_aggregates) c.atoms c.rules (3 + n) [] at_rules (omega arith) in
      let z : length t - rule_from t (3 + n) (length c.rules) ≡ 0 = sym (length-drop (rule_from t (3 + n) (length c.rules)) t) ∙ ap length w.0 in
      let y = w.1 in
      omega arith

-- ---- the same of an accepted table

pub table_atoms : (c : Contents) → (table_of c).atoms ≡ c.atoms
unfolding table_of
table_atoms c = refl

module _ (t : List ℤ) (c : Contents) (e : contents_of t ≡ accepted c) where
  pub accepted_laid : Laid t (table_of c)
  accepted_laid = encoding_laid t c (accepted_encoding t c e)

  pub accepted_program : program_of t (table_of c) ≡ program c
  accepted_program = encoding_program t c (accepted_encoding t c e)

  -- the rules of the program are those found by walking the table
  pub accepted_rule : (k : ℕ) (d : Rule) → k < (table_of c).rules → get_or (program c) k d ≡ rule_at t (rule_from t (table_of c).first k)
  accepted_rule k d h = ap (λ (P : Program). get_or P k d) (sym accepted_program) ∙ rule_at_lem t (table_of c).rules (table_of c).first k d h

  pub accepted_walk : rule_from t (table_of c).first (table_of c).rules ≡ length t
  accepted_walk = encoding_walk t c (accepted_encoding t c e)

  -- the aggregates are those that begin where the places say
  pub accepted_aggregate : (j : ℕ) → j < (table_of c).aggregates → aggregate_at t (get_or (table_of c).starts j 0) ≡ get_or c.aggregates j no_aggregate
  unfolding table_of
  accepted_aggregate j h =
      let g = accepted_encoding t c e in
      ap (aggregate_at t) (accepted_laid.starts j h) ∙ aggregates_are t c.aggregates 2 (rules_words t c g) (at_aggregates t c g) j h

  -- every atom of the program is one of 1 to N
  pub accepted_atoms : AtomsIn c.atoms (program c)
  unfolding table_of
  accepted_atoms = subst (AtomsIn c.atoms) accepted_program (atoms_in_lem t (table_of c) accepted_laid)
