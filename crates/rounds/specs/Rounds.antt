-- The round and the rule of each true atom (02, request 1). Definitions only: to be believed.
--   adds X G p r     what the foundedness test asks: rule r has body true, p as its only true head atom, and all positive body atoms in G
--   added_by P X k    "Round 1 holds what the foundedness test can add from nothing, round 2 what it can add from round 1, and so on": what rounds 1 to k hold
--   round_of          the first round, of 1 to n, that holds the atom; 0 if none does
--   why_of            the round, and "the rule is the lowest that could add the atom in that round"; "false atoms .. have 0 in both"
--   Explains P X w   the same said of any rounds and rules w, with no computation: there is one such w for a founded X, and it is `why_of`
--   Shown            "each rule shown has a true body, the atom as its only true head atom, and positive body atoms of smaller rounds"
--   Recorded ws w    an array of 256 records holds these rounds and rules, atom p's at index p - 1 (`whys_in`)
--   Explained        all that is promised of the records that come with an answer set
-- Assumes nothing.
use Rattle.std.specs.Prelude.{◌≡◌, ◌⊎◌, Bool, false, cond, ◌&&◌, ◌||◌, List, ℕ, zero, suc, ◌≤◌, ◌<◌, length, get_or}
use Rattle.meaning.specs.Lists.{Is, ◌∈◌, all, any}
use Rattle.meaning.specs.Aggregates.{Atoms}
use Rattle.meaning.specs.Program.{Rule, Program}
use Rattle.meaning.specs.Answers.{body}
use Rattle.meaning.specs.Foundedness.{supports}
use Rattle.numbered.specs.Numbered.{Numbered, lowest_rule}
use Rattle.rounds.specs.declared.Why.{Why}

-- round 0 and rule 0: none
abbrev pub no_why : Why
no_why = record { round = 0; rule = 0 }

-- of all atoms
abbrev pub no_whys : ℕ → Why
no_whys p = no_why

unfoldable pub adds : Atoms → Atoms → ℕ → Rule → Bool
adds X G p r = supports X r p && all G r.pos

unfoldable pub added_by : Program → Atoms → ℕ → Atoms
added_by P X zero = λ p. false
added_by P X (suc k) = λ p. added_by P X k p || any (adds X (added_by P X k) p) P

-- the first of the numbers k, k + 1, .. (m of them) that passes, or 0
unfoldable pub first_from : (ℕ → Bool) → ℕ → ℕ → ℕ
first_from f k zero = 0
first_from f k (suc m) = cond (f k) k (first_from f (suc k) m)

abbrev pub round_of : Program → ℕ → Atoms → ℕ → ℕ
round_of P n X p = first_from (λ k. added_by P X k p) 1 n

-- an atom that is added in the round given
abbrev pub why_at : Program → Atoms → ℕ → ℕ → Why
why_at P X p zero = no_why
why_at P X p (suc k) = record { round = suc k; rule = lowest_rule (adds X (added_by P X k) p) P }

unfoldable pub why_of : Program → ℕ → Atoms → ℕ → Why
why_of P n X p = why_at P X p (round_of P n X p)

-- ---- what is meant, said of any rounds and rules

-- rule r can add p in round q, from the atoms of earlier rounds
pub record CanAdd (X : Atoms) (w : ℕ → Why) (q p : ℕ) (r : Rule) : Type 0 where
  pub supporting : Is (supports X r p)
  pub earlier : (b : ℕ) → b ∈ r.pos → (1 ≤ (w b).round) × ((w b).round < q)

-- a true atom: its rule can add it in its round, no rule can in a round before, and no lower rule can in that round
pub record Added (P : Program) (X : Atoms) (w : ℕ → Why) (p : ℕ) : Type 0 where
  pub rule : Rule
  pub number : Numbered P (w p).rule rule
  pub from : 1 ≤ (w p).round
  pub adding : CanAdd X w (w p).round p rule
  pub first : (q : ℕ) → 1 ≤ q → (s : Rule) → s ∈ P → CanAdd X w q p s → (w p).round ≤ q
  pub lowest : (j : ℕ) (s : Rule) → Numbered P j s → CanAdd X w (w p).round p s → (w p).rule ≤ j

pub record Explains (P : Program) (X : Atoms) (w : ℕ → Why) : Type 0 where
  pub of_true : (p : ℕ) → Is (X p) → Added P X w p
  pub of_false : (p : ℕ) → X p ≡ false → w p ≡ no_why

-- ---- the statement wanted, of a true atom p

pub record Shown (P : Program) (n : ℕ) (X : Atoms) (w : ℕ → Why) (p : ℕ) : Type 0 where
  pub rule : Rule
  pub number : Numbered P (w p).rule rule
  pub from : 1 ≤ (w p).round
  pub upto : (w p).round ≤ n
  pub body_true : Is (body X rule)
  pub in_head : p ∈ rule.head
  pub only_true : (h : ℕ) → h ∈ rule.head → Is (X h) → h ≡ p
  pub smaller : (b : ℕ) → b ∈ rule.pos → (1 ≤ (w b).round) × ((w b).round < (w p).round)
  -- a round above 1 has a positive body atom of the round just before it
  pub just_before : ((w p).round ≡ 1) ⊎ ((b : ℕ) × (b ∈ rule.pos) × (suc (w b).round ≡ (w p).round))

-- ---- the array of records

unfoldable pub whys_in : List Why → ℕ → Why
whys_in ws zero = no_why
whys_in ws (suc i) = get_or ws i no_why

pub record Recorded (ws : List Why) (w : ℕ → Why) : Type 0 where
  pub number : length ws ≡ 256
  pub each : whys_in ws ≡ w

-- of an answer set X of P, over the atoms 1 to n
pub record Explained (P : Program) (n : ℕ) (X : Atoms) (ws : List Why) : Type 0 where
  -- the records are those of the definition, "false atoms .. have 0 in both", and so has every atom above n
  pub defined : Recorded ws (why_of P n X)
  pub explains : Explains P X (whys_in ws)
  pub shown : (p : ℕ) → Is (X p) → Shown P n X (whys_in ws) p
