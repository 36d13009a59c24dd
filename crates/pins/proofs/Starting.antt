-- The pins set one after the other make the start of the search with the pins held. Assumes nothing.
use mathlib.Core.Path.{◌≡◌, refl, sym, ap, ◌∙◌, subst}
use mathlib.Core.Bool.{Bool, true, false, not, cond, ◌&&◌, ◌||◌}
use mathlib.Core.Option.{Option, none, some}
use mathlib.Core.List.{List, [], ◌∷◌}
use Prim.Native.Nat.{ℕ, zero, suc, ◌+◌, ◌-◌, ◌≤◌, ◌<◌}
use native.Mathlib.Omega.{arith}
use native.Mathlib.Numerals.{add-one}
use borrow.Author.Tests.{lt-ltb, le-ltb}
use lib.Dec.{ltb, eqb}
use lib.IntN.{ℤ}
use lib.ListN.{length, get_or}
use Rattle.meaning.specs.Cond.{if_eq}
use Rattle.meaning.specs.Cycles.{inside}
use Rattle.meaning.specs.Program.{Program, In}
use Rattle.meaning.proofs.Tools.{and_l, and_r}
use Rattle.meaning.proofs.Bounds.{lt}
use Rattle.interpretation.specs.State.{Cell, undefined, defined, Interpretation, set_at, unset, lowest, true_atoms}
use Rattle.interpretation.specs.View.{cells, cell_by, blank, valued, cell_value}
use Rattle.interpretation.specs.declared.Value.{Value}
use Rattle.interpretation.specs.declared.Value.TheVariants.{True, False, Undefined}
use Rattle.interpretation.specs.declared.Record.{Record}
use Rattle.interpretation.proofs.Cells.{not_defined, same_val, same_level}
use Rattle.steps.specs.Steps.{Verdict, settled, conflict, propagate}
use Rattle.search.specs.Search.{jump, Tested, passed, failed, exhausted, State, tested, choose, settle, propagated, turn, pinned_cell}
use Rattle.smaller.specs.Cyclic.{test_by, problem_by, base_by}
use Rattle.outcome.specs.declared.Halt.{Halt}
use Rattle.jumping.specs.Jumping.{Ordered, Led, here, on, Searched}
use Rattle.sessions.specs.Sessions.{Pin, Pins, pin, first, is_held, refusal, changed, unless, next, held_from, held, settings, pins_of, cells_of}
use Rattle.sessions.proofs.Held.{Good, held_snoc}
use Rattle.sessions.proofs.Plans.{pins_e, start_cells_lem}
use Rattle.pins.specs.Memory.{atom_as, value_as, word_at, pins_to}
use Rattle.pins.specs.Setting.{is_undefined, is_free, set_pin, start_with}
use Rattle.pins.proofs.Words.{pins_length}

-- ---- the values say which atoms are free

undefined_by : (v k l : ℕ) → is_undefined (cell_by v k) ≡ is_undefined (cell_by v l)
undefined_by zero k l = refl
undefined_by (suc zero) k l = refl
undefined_by (suc (suc v)) k l = refl

pub undefined_alone : (vs : List ℕ) (rs : List Record) (p : ℕ) → is_undefined (valued vs p) ≡ is_undefined (cells vs rs p)
unfolding cells
undefined_alone vs rs zero = refl
undefined_alone vs rs (suc i) = undefined_by (get_or vs i 0) 0 (get_or rs i blank).level

-- what the code is told of a value
abbrev pub says_undefined : Value → Bool
says_undefined Undefined = true
says_undefined True = false
says_undefined False = false

pub says_undefined_lem : (c : Cell) → says_undefined (cell_value c) ≡ is_undefined c
says_undefined_lem undefined = refl
says_undefined_lem (defined true l) = refl
says_undefined_lem (defined false l) = refl

pub inside_i : (n p : ℕ) → 1 ≤ p → p ≤ n → inside n p ≡ true
inside_i n p h k = ap (λ (b : Bool). b && ltb p (suc n)) (lt-ltb 0 p (omega arith)) ∙ lt-ltb p (suc n) (omega arith)

pub outside : (n p : ℕ) → n < p → inside n p ≡ false
outside n p h = at (ltb 0 p) (le-ltb p (suc n) (omega arith))
  where
    at : (b : Bool) → ltb p (suc n) ≡ false → (b && ltb p (suc n)) ≡ false
    at true e = e
    at false e = refl

pub free_in : (n : ℕ) (a : ℕ → Cell) (p : ℕ) → is_free n a p ≡ true → (1 ≤ p) × (p ≤ n)
free_in n a p e =
    let i = and_l (inside n p) _ e in
    let h = lt 0 p (and_l (ltb 0 p) _ i) in
    let k = lt p (suc n) (and_r (ltb 0 p) _ i) in
    (omega arith, omega arith)

-- ---- an atom is free exactly if it is not pinned

held_cell : (pins : Pins) (p : ℕ) → is_undefined (cells_of pins p) ≡ not (is_held p pins)
unfolding cells_of is_held if_eq
held_cell [] p = refl
held_cell (x ∷ l) p = at (eqb p x.atom) (held_cell l p)
  where
    at : (b : Bool) → is_undefined (cells_of l p) ≡ not (is_held p l) → is_undefined (cond b (defined x.value 0) (cells_of l p)) ≡ not (b || is_held p l)
    at true e = refl
    at false e = e

-- ---- one pin

set_by : (a b : Bool) (n p : ℕ) (v : Bool) (pins : Pins) → inside n p ≡ a → is_held p pins ≡ b → length pins < 64
    → cond (a && not b) (set_at p v (start_with pins)) (start_with pins) ≡ start_with (unless (first (not a) 20 (first b 21 none)) pins (changed (pin p v) pins))
unfolding cells_of
set_by true true n p v pins e f l = refl
set_by true false n p v pins e f l = refl
set_by false true n p v pins e f l = refl
set_by false false n p v pins e f l = refl

pub set_next : (n p : ℕ) (v : Bool) (pins : Pins) → length pins < 64 → set_pin n p v (start_with pins) ≡ start_with (next n (pin p v) pins)
unfolding next refusal
set_next n p v pins l =
    ap (λ (b : Bool). cond (inside n p && b) (set_at p v (start_with pins)) (start_with pins)) (held_cell pins p)
    ∙ set_by (inside n p) (is_held p pins) n p v pins refl refl l
    ∙ ap (λ (b : Bool). start_with (unless (first (not (inside n p)) 20 (first (is_held p pins) 21 (first b 22 none))) pins (changed (pin p v) pins))) (sym (le-ltb 63 (length pins) (omega arith)))

-- ---- all of them

next_length : (n p : ℕ) (v : Bool) (pins : Pins) → length (next n (pin p v) pins) ≤ suc (length pins)
unfolding next
next_length n p v pins = at (refusal n pins (pin p v))
  where
    at : (o : Option ℕ) → length (unless o pins (changed (pin p v) pins)) ≤ suc (length pins)
    at none = omega arith
    at (some k) = omega arith

pub few_held : (n : ℕ) (pins : Pins) → length (held n (settings pins)) ≤ length pins
unfolding settings held_from
few_held n [] = omega arith
few_held n (x ∷ l) =
    let e = ap (length {A = Pin}) (held_snoc n x l) in
    let h = next_length n x.atom x.value (held n (settings l)) in
    let k = few_held n l in
    omega arith

pub start_none : (n : ℕ) (s : List ℤ) → unset ≡ start_with (held n (settings (pins_to s 0)))
unfolding pins_to cells_of settings held_from
start_none n s = refl

pub start_more : (n : ℕ) (s : List ℤ) (i : ℕ) → i < 64 → (w : Interpretation) → w ≡ start_with (held n (settings (pins_to s i)))
    → set_pin n (atom_as (word_at s i)) (value_as (word_at s i)) w ≡ start_with (held n (settings (pins_to s (i + 1))))
unfolding pins_to
start_more n s i h w e =
    let l = few_held n (pins_to s i) in
    let k = pins_length s i in
    ap (set_pin n (atom_as (word_at s i)) (value_as (word_at s i))) e
    ∙ set_next n (atom_as (word_at s i)) (value_as (word_at s i)) (held n (settings (pins_to s i))) (omega arith)
    ∙ ap start_with (sym (held_snoc n (record { atom = atom_as (word_at s i); value = value_as (word_at s i) }) (pins_to s i)))
    ∙ ap (λ (j : ℕ). start_with (held n (settings (pins_to s j)))) (sym (add-one i))

-- ---- the start is one from which the code can search, and it is the defined one

pinned_is : (o : Option Bool) (v : Bool) (l : ℕ) → pinned_cell o ≡ defined v l → (o ≡ some v) × (l ≡ 0)
pinned_is none v l e = absurd (not_defined refl e)
pinned_is (some w) v l e = (ap some (same_val {c = defined w 0} refl e), sym (same_level {c = defined w 0} refl e))

pub ordered_pins : (n : ℕ) (pins : Pins) → Good n pins → Ordered n (start_with pins)
ordered_pins n pins G = record { low = low; free = λ q h e. omega arith; chosen = λ l h k. absurd (omega arith) }
  where
    low : (q : ℕ) (v : Bool) (l : ℕ) → cells_of pins q ≡ defined v l → (l ≤ q) × (1 ≤ q) × (q ≤ n)
    low q v l e =
        let x = pinned_is (pins_of pins q) v l (sym (ap (λ (f : ℕ → Cell). f q) (start_cells_lem pins)) ∙ e) in
        let y = pins_e pins q v x.0 in
        let i = subst (In n) y.2 (G.inside_all y.0 y.1) in
        let z = x.1 in
        (omega (arith, i.0), i.0, i.1)

module _ (cycles : Bool) (P : Program) (n : ℕ) (pins : ℕ → Option Bool) (lim : ℕ) where
  tested_same : (c : State) (x : Tested) → tested (base_by cycles P n) jump lim c x ≡ tested (problem_by cycles P n pins) jump lim c x
  tested_same c (passed k) = refl
  tested_same c (failed k) = refl
  tested_same c exhausted = refl

  choose_same : (c : State) (o : Option ℕ) → choose (base_by cycles P n) jump lim c o ≡ choose (problem_by cycles P n pins) jump lim c o
  choose_same c none = tested_same c (test_by cycles P n (lim - c.choices) (true_atoms n c.interpretation.cell))
  choose_same c (some p) = refl

  settle_same : (c : State) (v : Verdict) → settle (base_by cycles P n) jump lim c v ≡ settle (problem_by cycles P n pins) jump lim c v
  settle_same c settled = choose_same c (lowest c.interpretation.cell n)
  settle_same c (conflict C) = refl

  -- turns do not look at the pins
  turn_same : (c : State) → turn (base_by cycles P n) jump lim c ≡ turn (problem_by cycles P n pins) jump lim c
  unfolding turn
  turn_same c = settle_same (propagated (base_by cycles P n) c) (propagate P n c.interpretation c.reason).verdict

  led_pinned : (c d : State) → Led (base_by cycles P n) lim c d → Led (problem_by cycles P n pins) lim c d
  led_pinned c d (here e) = here e
  led_pinned c x (on {d} {e} l t) = on {d = d} {e = e} (led_pinned c d l) (sym (turn_same d) ∙ t)

  pub searched_pinned : (c : State) (h : Halt) → Searched (base_by cycles P n) lim c h → Searched (problem_by cycles P n pins) lim c h
  searched_pinned c h s = record {
    last = s.last;
    skipped = s.skipped;
    led = led_pinned c s.last s.led;
    ends = sym (turn_same s.last) ∙ s.ends;
    state = s.state;
    reasoned = s.reasoned;
    again = s.again;
  }
