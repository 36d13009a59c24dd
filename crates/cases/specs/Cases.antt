-- 01's cases with a star (A to K), its worked example, and cases of request 14: mode, limit, words, answer sets, and what the jumping and the plain search report. Definitions
-- only.
--   shown_for       what the definitions report of words with a mode and a limit, as numbers: 0 answer, 1 none, 2 limit, each with the choices, the skips and the true
--                  atoms; 3 refused, with 01's number and place
--   listed_for      the answer sets of an accepted table, by trying every interpretation, in 01's order; a refused one has no such list
--   as_reported     the shared claim about the definitions, as one test: the answer sets, and both searches
-- Assumes nothing.
use Rattle.std.specs.Prelude.{ℕ, Bool, true, false, ◌&&◌, List, [], ◌∷◌, leb, ℤ, pos, negsuc, length, ⊤, Result, Ok, Err}
use Rattle.std.proofs.Math.Option.{Option, none, some}
use Rattle.meaning.specs.Foundedness.{same_list}
use Rattle.meaning.specs.Enumerated.{answers_of}
use Rattle.results.specs.declared.Refusal.{Refusal}
use Rattle.results.specs.declared.Solved.{Solved}
use Rattle.results.specs.declared.Solved.TheVariants as solved
use Rattle.results.specs.Results.{number_of, place_of}
use Rattle.table.specs.Contents.{Contents, program}
use Rattle.table.specs.Grammar as grammar
use Rattle.depend.specs.Cycles.{cycle_by}
use Rattle.search.specs.Search.{Mode, jump, plain, solve}
use Rattle.smaller.specs.Cyclic.{base_by}
use Rattle.search.specs.Shown.{true_list, shown}
use Rattle.promises.specs.Plans.{plan_atoms}

-- ---- what the definitions report

abbrev pub shown_refusal : Refusal → List ℕ
shown_refusal f = 3 ∷ number_of f ∷ place_of f ∷ []

-- the search on contents whose cycles are k
abbrev pub shown_cycle : Bool → Result ⊤ Refusal → Mode → ℕ → Contents → List ℕ
shown_cycle cycles (Err f) mode lim c = shown_refusal f
shown_cycle cycles (Ok tt) mode lim c = shown c.atoms (solve (base_by cycles (program c) c.atoms) mode lim)

abbrev pub shown_contents : Bool → grammar.Outcome → Mode → ℕ → List ℕ
shown_contents cycles (grammar.refused_for f) mode lim = shown_refusal f
shown_contents cycles (grammar.accepted c) mode lim = shown_cycle cycles (cycle_by cycles c.atoms (program c)) mode lim c

abbrev pub shown_for : Bool → Mode → List ℤ → ℕ → List ℕ
shown_for cycles mode t lim = shown_contents cycles (grammar.contents_of t) mode lim

-- ---- the answer sets, with no search

abbrev pub listed_cycle : Result ⊤ Refusal → Contents → Option (List (List ℕ))
listed_cycle (Err f) c = none
listed_cycle (Ok tt) c = some (answers_of (program c) c.atoms)

abbrev pub listed_contents : Bool → grammar.Outcome → Option (List (List ℕ))
listed_contents cycles (grammar.refused_for f) = none
listed_contents cycles (grammar.accepted c) = listed_cycle (cycle_by cycles c.atoms (program c)) c

abbrev pub listed_for : Bool → List ℤ → Option (List (List ℕ))
listed_for cycles t = listed_contents cycles (grammar.contents_of t)

abbrev pub same_lists : List (List ℕ) → List (List ℕ) → Bool
same_lists [] [] = true
same_lists [] (m ∷ t) = false
same_lists (l ∷ s) [] = false
same_lists (l ∷ s) (m ∷ t) = same_list l m && same_lists s t

abbrev pub same_answers : Option (List (List ℕ)) → Option (List (List ℕ)) → Bool
same_answers none none = true
same_answers none (some t) = false
same_answers (some s) none = false
same_answers (some s) (some t) = same_lists s t

-- ---- what a result and a later plan buffer show of a table with n atoms

abbrev pub shown_solved : ℕ → Result Solved Refusal → List ℕ → List ℕ
shown_solved n (Ok (solved.Answer k)) new = 0 ∷ k.choices ∷ k.skips ∷ true_list n (plan_atoms n new)
shown_solved n (Ok (solved.Nothing k)) new = 1 ∷ k.choices ∷ k.skips ∷ []
shown_solved n (Ok (solved.Limit k)) new = 2 ∷ k.choices ∷ k.skips ∷ []
shown_solved n (Err f) new = shown_refusal f

-- the number of atoms that the words have; refused words have none
abbrev pub atoms_in : grammar.Outcome → ℕ
atoms_in (grammar.refused_for f) = 0
atoms_in (grammar.accepted c) = c.atoms

-- ---- the table

pub record Case : Type 0 where
  -- whether the call takes head cycles
  pub cycles : Bool
  pub limit : ℕ
  pub words : List ℤ
  -- of an accepted table all its answer sets in 01's order, of a refused one none is listed
  pub answers : Option (List (List ℕ))
  pub jumps : List ℕ
  pub plains : List ℕ

abbrev pub case : ℕ → List ℤ → Option (List (List ℕ)) → List ℕ → List ℕ → Case
case l t a j p = record { cycles = false; limit = l; words = t; answers = a; jumps = j; plains = p }

-- of request 14: where the call takes head cycles
abbrev pub cyclic : ℕ → List ℤ → Option (List (List ℕ)) → List ℕ → List ℕ → Case
cyclic l t a j p = record { cycles = true; limit = l; words = t; answers = a; jumps = j; plains = p }

unfoldable pub as_reported : Case → Bool
as_reported c =
    leb (length c.words) 16384
    && (same_list (shown_for c.cycles jump c.words c.limit) c.jumps
    && (same_list (shown_for c.cycles plain c.words c.limit) c.plains && same_answers (listed_for c.cycles c.words) c.answers))

-- the words of the worked example: 8 atoms, no aggregates, 8 rules
abbrev pub worked : List ℤ
worked =
    pos 8 ∷ pos 0 ∷ pos 8
    ∷ pos 2 ∷ pos 1 ∷ pos 2 ∷ pos 0 ∷ pos 0 ∷ pos 0
    ∷ pos 2 ∷ pos 3 ∷ pos 4 ∷ pos 0 ∷ pos 0 ∷ pos 0
    ∷ pos 2 ∷ pos 5 ∷ pos 6 ∷ pos 0 ∷ pos 0 ∷ pos 0
    ∷ pos 2 ∷ pos 7 ∷ pos 8 ∷ pos 0 ∷ pos 0 ∷ pos 0
    ∷ pos 0 ∷ pos 3 ∷ pos 1 ∷ pos 5 ∷ pos 7 ∷ pos 0 ∷ pos 0
    ∷ pos 0 ∷ pos 3 ∷ pos 1 ∷ pos 5 ∷ pos 8 ∷ pos 0 ∷ pos 0
    ∷ pos 0 ∷ pos 3 ∷ pos 1 ∷ pos 6 ∷ pos 7 ∷ pos 0 ∷ pos 0
    ∷ pos 0 ∷ pos 3 ∷ pos 1 ∷ pos 6 ∷ pos 8 ∷ pos 0 ∷ pos 0 ∷ []

-- the words of E: 1 or 2; 1 if 2; 2 if 1
abbrev pub crossed : List ℤ
crossed = pos 2 ∷ pos 0 ∷ pos 3 ∷ pos 2 ∷ pos 1 ∷ pos 2 ∷ pos 0 ∷ pos 0 ∷ pos 0 ∷ pos 1 ∷ pos 1 ∷ pos 1 ∷ pos 2 ∷ pos 0 ∷ pos 0 ∷ pos 1 ∷ pos 2 ∷ pos 1 ∷ pos 1 ∷ pos 0 ∷ pos 0 ∷ []

-- the worked example's answer sets
abbrev pub worked_sets : List (List ℕ)
worked_sets = (2 ∷ 3 ∷ 5 ∷ 7 ∷ []) ∷ (2 ∷ 3 ∷ 5 ∷ 8 ∷ []) ∷ (2 ∷ 3 ∷ 6 ∷ 7 ∷ []) ∷ (2 ∷ 3 ∷ 6 ∷ 8 ∷ []) ∷ (2 ∷ 4 ∷ 5 ∷ 7 ∷ []) ∷ (2 ∷ 4 ∷ 5 ∷ 8 ∷ []) ∷ (2 ∷ 4 ∷ 6 ∷ 7 ∷ []) ∷ (2 ∷ 4 ∷ 6 ∷ 8 ∷ []) ∷ []

unfoldable pub cases : List Case
cases =
    -- A, limit 0: answer, nothing true, choices 0, skips 0
    case 0 (pos 0 ∷ pos 0 ∷ pos 0 ∷ []) (some ([] ∷ [])) (0 ∷ 0 ∷ 0 ∷ []) (0 ∷ 0 ∷ 0 ∷ [])
    -- B: none, 1 and 0
    ∷ case 5 (pos 1 ∷ pos 0 ∷ pos 1 ∷ pos 1 ∷ pos 1 ∷ pos 0 ∷ pos 1 ∷ pos 1 ∷ pos 0 ∷ []) (some []) (1 ∷ 1 ∷ 0 ∷ []) (1 ∷ 1 ∷ 0 ∷ [])
    -- B with limit 0: limit, 0 and 0
    ∷ case 0 (pos 1 ∷ pos 0 ∷ pos 1 ∷ pos 1 ∷ pos 1 ∷ pos 0 ∷ pos 1 ∷ pos 1 ∷ pos 0 ∷ []) (some []) (2 ∷ 0 ∷ 0 ∷ []) (2 ∷ 0 ∷ 0 ∷ [])
    -- C: answer, nothing true, 1 and 0
    ∷ case 5 (pos 2 ∷ pos 0 ∷ pos 2 ∷ pos 1 ∷ pos 1 ∷ pos 1 ∷ pos 2 ∷ pos 0 ∷ pos 0 ∷ pos 1 ∷ pos 2 ∷ pos 1 ∷ pos 1 ∷ pos 0 ∷ pos 0 ∷ []) (some ([] ∷ [])) (0 ∷ 1 ∷ 0 ∷ []) (0 ∷ 1 ∷ 0 ∷ [])
    -- D: answer 1; choices 1
    ∷ case 5 (pos 2 ∷ pos 0 ∷ pos 1 ∷ pos 2 ∷ pos 1 ∷ pos 2 ∷ pos 0 ∷ pos 0 ∷ pos 0 ∷ []) (some ((1 ∷ []) ∷ (2 ∷ []) ∷ [])) (0 ∷ 1 ∷ 0 ∷ 1 ∷ []) (0 ∷ 1 ∷ 0 ∷ 1 ∷ [])
    -- E: refused 8, place 1
    ∷ case 5 crossed none (3 ∷ 8 ∷ 1 ∷ []) (3 ∷ 8 ∷ 1 ∷ [])
    -- F: answer 1 2 3; choices 0
    ∷ case 5 (pos 3 ∷ pos 1 ∷ pos 0 ∷ pos 1 ∷ pos 1 ∷ pos 2 ∷ pos 1 ∷ pos 1 ∷ pos 1 ∷ pos 2 ∷ pos 3 ∷ pos 1 ∷ pos 1 ∷ pos 0 ∷ pos 0 ∷ pos 0 ∷ pos 1 ∷ pos 2 ∷ pos 0 ∷ pos 0 ∷ pos 0 ∷ pos 1 ∷ pos 3 ∷ pos 0 ∷ pos 0 ∷ pos 1 ∷ pos 1 ∷ []) (some ((1 ∷ 2 ∷ 3 ∷ []) ∷ [])) (0 ∷ 0 ∷ 0 ∷ 1 ∷ 2 ∷ 3 ∷ []) (0 ∷ 0 ∷ 0 ∷ 1 ∷ 2 ∷ 3 ∷ [])
    -- F with threshold 2: answer 1 2
    ∷ case 5 (pos 3 ∷ pos 1 ∷ pos 0 ∷ pos 1 ∷ pos 2 ∷ pos 2 ∷ pos 1 ∷ pos 1 ∷ pos 1 ∷ pos 2 ∷ pos 3 ∷ pos 1 ∷ pos 1 ∷ pos 0 ∷ pos 0 ∷ pos 0 ∷ pos 1 ∷ pos 2 ∷ pos 0 ∷ pos 0 ∷ pos 0 ∷ pos 1 ∷ pos 3 ∷ pos 0 ∷ pos 0 ∷ pos 1 ∷ pos 1 ∷ []) (some ((1 ∷ 2 ∷ []) ∷ [])) (0 ∷ 0 ∷ 0 ∷ 1 ∷ 2 ∷ []) (0 ∷ 0 ∷ 0 ∷ 1 ∷ 2 ∷ [])
    -- G: nothing true
    ∷ case 5 (pos 2 ∷ pos 1 ∷ pos 2 ∷ pos 1 ∷ pos 3 ∷ pos 1 ∷ pos 5 ∷ pos 1 ∷ pos 1 ∷ pos 1 ∷ pos 2 ∷ pos 0 ∷ pos 0 ∷ pos 1 ∷ pos 1 ∷ []) (some ([] ∷ [])) (0 ∷ 0 ∷ 0 ∷ []) (0 ∷ 0 ∷ 0 ∷ [])
    -- G with the aggregate negated: answer 2
    ∷ case 5 (pos 2 ∷ pos 1 ∷ pos 2 ∷ pos 1 ∷ pos 3 ∷ pos 1 ∷ pos 5 ∷ pos 1 ∷ pos 1 ∷ pos 1 ∷ pos 2 ∷ pos 0 ∷ pos 0 ∷ pos 1 ∷ negsuc 0 ∷ []) (some ((2 ∷ []) ∷ [])) (0 ∷ 0 ∷ 0 ∷ 2 ∷ []) (0 ∷ 0 ∷ 0 ∷ 2 ∷ [])
    -- H: refused 9, place 1
    ∷ case 5 (pos 1 ∷ pos 1 ∷ pos 0 ∷ pos 1 ∷ pos 0 ∷ pos 1 ∷ pos 1 ∷ pos 1 ∷ pos 1 ∷ pos 1 ∷ pos 1 ∷ pos 0 ∷ pos 0 ∷ pos 1 ∷ pos 1 ∷ []) none (3 ∷ 9 ∷ 1 ∷ []) (3 ∷ 9 ∷ 1 ∷ [])
    -- I: answer 1 2 3
    ∷ case 5 (pos 3 ∷ pos 1 ∷ pos 1 ∷ pos 1 ∷ pos 65535 ∷ pos 2 ∷ pos 65535 ∷ pos 1 ∷ pos 1 ∷ pos 2 ∷ pos 3 ∷ pos 1 ∷ pos 1 ∷ pos 0 ∷ pos 0 ∷ pos 0 ∷ pos 1 ∷ pos 2 ∷ pos 0 ∷ pos 0 ∷ pos 0 ∷ pos 1 ∷ pos 3 ∷ pos 0 ∷ pos 0 ∷ pos 1 ∷ pos 1 ∷ []) (some ((1 ∷ 2 ∷ 3 ∷ []) ∷ [])) (0 ∷ 0 ∷ 0 ∷ 1 ∷ 2 ∷ 3 ∷ []) (0 ∷ 0 ∷ 0 ∷ 1 ∷ 2 ∷ 3 ∷ [])
    -- I with threshold 65,536: answer 1 2
    ∷ case 5 (pos 3 ∷ pos 1 ∷ pos 1 ∷ pos 1 ∷ pos 65536 ∷ pos 2 ∷ pos 65535 ∷ pos 1 ∷ pos 1 ∷ pos 2 ∷ pos 3 ∷ pos 1 ∷ pos 1 ∷ pos 0 ∷ pos 0 ∷ pos 0 ∷ pos 1 ∷ pos 2 ∷ pos 0 ∷ pos 0 ∷ pos 0 ∷ pos 1 ∷ pos 3 ∷ pos 0 ∷ pos 0 ∷ pos 1 ∷ pos 1 ∷ []) (some ((1 ∷ 2 ∷ []) ∷ [])) (0 ∷ 0 ∷ 0 ∷ 1 ∷ 2 ∷ []) (0 ∷ 0 ∷ 0 ∷ 1 ∷ 2 ∷ [])
    -- K: no words: refused 2, place 0
    ∷ case 5 ([]) none (3 ∷ 2 ∷ 0 ∷ []) (3 ∷ 2 ∷ 0 ∷ [])
    -- K: words 257: refused 4, place 0
    ∷ case 5 (pos 257 ∷ []) none (3 ∷ 4 ∷ 0 ∷ []) (3 ∷ 4 ∷ 0 ∷ [])
    -- K: words 0 0 0 0: refused 3, place 3
    ∷ case 5 (pos 0 ∷ pos 0 ∷ pos 0 ∷ pos 0 ∷ []) none (3 ∷ 3 ∷ 3 ∷ []) (3 ∷ 3 ∷ 3 ∷ [])
    -- the worked example: answer 6 1: 2 3 5 7; the plain search opens 7 choices
    ∷ case 100 worked (some worked_sets) (0 ∷ 6 ∷ 1 ∷ 2 ∷ 3 ∷ 5 ∷ 7 ∷ []) (0 ∷ 7 ∷ 0 ∷ 2 ∷ 3 ∷ 5 ∷ 7 ∷ [])
    -- the worked example with limit 5: limit 5 1
    ∷ case 5 worked (some worked_sets) (2 ∷ 5 ∷ 1 ∷ []) (2 ∷ 5 ∷ 0 ∷ [])
    -- E where head cycles are taken: answer 1 2; one choice, and one of the test, which finds no smaller model
    ∷ cyclic 5 crossed (some ((1 ∷ 2 ∷ []) ∷ [])) (0 ∷ 2 ∷ 0 ∷ 1 ∷ 2 ∷ []) (0 ∷ 2 ∷ 0 ∷ 1 ∷ 2 ∷ [])
    -- the same with limit 1: the test's choice would pass it
    ∷ cyclic 1 crossed (some ((1 ∷ 2 ∷ []) ∷ [])) (2 ∷ 1 ∷ 0 ∷ []) (2 ∷ 1 ∷ 0 ∷ [])
    -- C where head cycles are taken: the candidate 1 has a smaller model, which costs the test a choice; then nothing is true
    ∷ cyclic 5 (pos 2 ∷ pos 0 ∷ pos 2 ∷ pos 1 ∷ pos 1 ∷ pos 1 ∷ pos 2 ∷ pos 0 ∷ pos 0 ∷ pos 1 ∷ pos 2 ∷ pos 1 ∷ pos 1 ∷ pos 0 ∷ pos 0 ∷ []) (some ([] ∷ [])) (0 ∷ 2 ∷ 0 ∷ []) (0 ∷ 2 ∷ 0 ∷ [])
    -- a pair of heads that depend on each other, and each on what is no fact: none
    ∷ cyclic 5 (pos 2 ∷ pos 0 ∷ pos 2 ∷ pos 1 ∷ pos 1 ∷ pos 0 ∷ pos 1 ∷ pos 1 ∷ pos 0 ∷ pos 2 ∷ pos 1 ∷ pos 2 ∷ pos 1 ∷ pos 1 ∷ pos 0 ∷ pos 0 ∷ []) (some []) (1 ∷ 2 ∷ 0 ∷ []) (1 ∷ 2 ∷ 0 ∷ [])
    -- 1 or 2 if 1, 1 or 2 if not 1: answer 2
    ∷ cyclic 3 (pos 2 ∷ pos 0 ∷ pos 2 ∷ pos 2 ∷ pos 1 ∷ pos 2 ∷ pos 1 ∷ pos 1 ∷ pos 0 ∷ pos 0 ∷ pos 2 ∷ pos 1 ∷ pos 2 ∷ pos 0 ∷ pos 1 ∷ pos 1 ∷ pos 0 ∷ []) (some ((2 ∷ []) ∷ [])) (0 ∷ 2 ∷ 0 ∷ 2 ∷ []) (0 ∷ 2 ∷ 0 ∷ 2 ∷ [])
    -- H where head cycles are taken: 9 is still given
    ∷ cyclic 5 (pos 1 ∷ pos 1 ∷ pos 0 ∷ pos 1 ∷ pos 0 ∷ pos 1 ∷ pos 1 ∷ pos 1 ∷ pos 1 ∷ pos 1 ∷ pos 1 ∷ pos 0 ∷ pos 0 ∷ pos 1 ∷ pos 1 ∷ []) none (3 ∷ 9 ∷ 1 ∷ []) (3 ∷ 9 ∷ 1 ∷ [])
    ∷ []
