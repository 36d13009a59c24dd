-- The promises of `open`, `pin` and `unpin`, by what was decided. Assumes nothing.
use mathlib.Core.Path.{◌≡◌, refl, sym, ap, ◌∙◌, subst}
use mathlib.Core.Bool.{Bool, false, not}
use mathlib.Core.Option.{Option, none, some}
use mathlib.Core.List.{List, [], ◌++◌}
use Rattle.std.specs.Prelude.{⊤, Result, Ok, Err}
use Prim.Native.Nat.{ℕ, zero, suc, ◌+◌, ◌-◌, ◌<◌}
use native.Mathlib.Omega.{arith}
use lib.Dec.{ltb}
use lib.IntN.{ℤ, pos, nat_abs}
use lib.ListN.{length, get_or, take, drop, set, length-set, length-append, length-drop}
use lib.Seq.{take-set-le, take-append_seam}
use Rattle.meaning.specs.Cycles.{inside}
use Rattle.results.specs.declared.Refusal.{Refusal}
use Rattle.results.specs.Results.{number_of, place_of, CheckReport, refusal_check, pinned_report_of}
use Rattle.table.specs.Contents.{Contents, encode}
use Rattle.table.proofs.Accepted.{accepted_encoding}
use Rattle.judging.specs.declared.Buffer.TheVariants as lent
use Rattle.judging.specs.Refusals.{AcceptedBy, RefusedBy}
use Rattle.judging.proofs.Refusals.{accepted_unique, refused_not_accepted, refused_unique}
use Rattle.judging.proofs.Places.{ranges}
use Rattle.sessions.specs.Sessions.{Pins, Call, pin, unpin, first, is_held, no_pins, refusal, without_last}
use Rattle.sessions.proofs.Held.{taken_e, refused_stays, taken_changes}
use Rattle.pins.specs.Memory.{count_in, table_in, atoms_in, pins_to, held_in, pins_in, mode_word, cycles_in, opened_with, pin_word, with_pin, without_pin}
use Rattle.pins.specs.Session.{Opened, Opening, told_for, changed_by, kept_or, Changing}
use Rattle.pins.proofs.Words.{number_small, number_is, number_other, number_same, table_other, mode_other, mode_same, pins_length, pins_other, pins_more}

-- ---- which refusal

pub refusal_by : (n : ℕ) (pins : Pins) (p : ℕ) (v : Bool) (a b c : Bool) → inside n p ≡ a → is_held p pins ≡ b → ltb 63 (length pins) ≡ c
    → refusal n pins (pin p v) ≡ first (not a) 20 (first b 21 (first c 22 none))
unfolding refusal
refusal_by n pins p v a b c e f g =
    ap (λ (x : Bool). first (not x) 20 (first (is_held p pins) 21 (first (ltb 63 (length pins)) 22 none))) e
    ∙ ap (λ (x : Bool). first (not a) 20 (first x 21 (first (ltb 63 (length pins)) 22 none))) f
    ∙ ap (λ (x : Bool). first (not a) 20 (first b 21 (first x 22 none))) g

pub unpin_refused : (n : ℕ) (s : List ℤ) → held_in s ≡ 0 → refusal n (pins_in s) unpin ≡ some 23
unfolding refusal pins_to
unpin_refused n s e = ap (λ (k : ℕ). first (no_pins (pins_to s k)) 23 none) e

no_pins_not : (s : List ℤ) (k : ℕ) → 0 < k → no_pins (pins_to s k) ≡ false
unfolding pins_to
no_pins_not s zero h = absurd (omega arith)
no_pins_not s (suc k) h = refl

pub unpin_taken : (n : ℕ) (s : List ℤ) → 0 < held_in s → refusal n (pins_in s) unpin ≡ none
unfolding refusal
unpin_taken n s h = ap (λ (b : Bool). first b 23 none) (no_pins_not s (held_in s) h)

-- ---- pins and removals

-- refused: "The session stays as it stood"
pub changing_refused : (call : Call) (s : List ℤ) (r : Result ⊤ Refusal) (k : ℕ) → refusal (atoms_in s) (pins_in s) call ≡ some k → pinned_report_of r ≡ refusal_check k 0 → Changing call s s r
changing_refused call s r k e f = record {
  told = f ∙ sym (ap told_for e);
  words = sym (ap (λ (o : Option ℕ). kept_or o s (changed_by call s)) e);
  table = refl;
  atoms = refl;
  pins = sym (refused_stays (atoms_in s) call (pins_in s) k e);
  mode = refl;
}

module _ (s : List ℤ) (l : length s ≡ 16451) where
  pub changing_pin : (p : ℕ) (v : Bool) → refusal (atoms_in s) (pins_in s) (pin p v) ≡ none → Changing (pin p v) s (with_pin p v s) (Ok tt)
  changing_pin p v e =
      let t = taken_e (atoms_in s) (pins_in s) p v e in
      let room : held_in s < 64 = subst (λ (k : ℕ). k < 64) (pins_length s (held_in s)) t.room in
      let few = number_small s 0 256 in
      let i = t.is_inside in
      let u = set s (16386 + held_in s) (pos (pin_word p v)) in
      let long : length u ≡ 16451 = length-set s (16386 + held_in s) (pos (pin_word p v)) ∙ l in
      let more : held_in s + 1 ≡ suc (held_in s) = omega arith in
      let h : held_in (with_pin p v s) ≡ suc (held_in s) = number_same u 16385 (held_in s + 1) 64 (omega arith) (omega arith) ∙ more in
      record {
        told = sym (ap told_for e);
        words = sym (ap (λ (o : Option ℕ). kept_or o s (with_pin p v s)) e);
        table = table_other u 16385 (pos (held_in s + 1)) (omega arith) ∙ table_other s (16386 + held_in s) (pos (pin_word p v)) (omega arith);
        atoms = number_other u 16385 (pos (held_in s + 1)) 0 256 (λ z. omega arith) ∙ number_other s (16386 + held_in s) (pos (pin_word p v)) 0 256 (λ z. omega arith);
        pins = ap (pins_to (with_pin p v s)) h ∙ pins_other u 16385 (pos (held_in s + 1)) (suc (held_in s)) (λ q g. λ z. omega arith)
            ∙ pins_more s (held_in s) p v l room i.0 (omega (arith, i.1)) ∙ sym (taken_changes (atoms_in s) (pin p v) (pins_in s) e);
        mode = mode_other u 16385 (pos (held_in s + 1)) (λ z. omega arith) ∙ mode_other s (16386 + held_in s) (pos (pin_word p v)) (λ z. omega arith);
      }

  fewer : (k : ℕ) → 0 < k → pins_to s (k - 1) ≡ without_last (pins_to s k)
  unfolding pins_to
  fewer zero h = absurd (omega arith)
  fewer (suc k) h = let z : suc k - 1 ≡ k = omega arith in ap (pins_to s) z

  pub changing_unpin : refusal (atoms_in s) (pins_in s) unpin ≡ none → 0 < held_in s → Changing unpin s (without_pin s) (Ok tt)
  changing_unpin e k =
      let few = number_small s 16385 64 in
      let h : held_in (without_pin s) ≡ held_in s - 1 = number_same s 16385 (held_in s - 1) 64 (omega arith) (omega arith) in
      record {
        told = sym (ap told_for e);
        words = sym (ap (λ (o : Option ℕ). kept_or o s (without_pin s)) e);
        table = table_other s 16385 (pos (held_in s - 1)) (omega arith);
        atoms = number_other s 16385 (pos (held_in s - 1)) 0 256 (λ z. omega arith);
        pins = ap (pins_to (without_pin s)) h ∙ pins_other s 16385 (pos (held_in s - 1)) (held_in s - 1) (λ q g. λ z. omega arith)
            ∙ fewer (held_in s) k ∙ sym (taken_changes (atoms_in s) unpin (pins_in s) e);
        mode = mode_other s 16385 (pos (held_in s - 1)) (λ z. omega arith);
      }

-- ---- opening

pub opening_refused : (cycles : Bool) (t s : List ℤ) (f : Refusal) → RefusedBy cycles t lent.Nothing (number_of f) (place_of f) → Opening cycles t s s (Err f)
opening_refused cycles t s f h = record {
  refused = λ n i. (
    λ k. subst (λ (x : CheckReport). RefusedBy cycles t lent.Nothing x.number x.place) k h,
    λ k. let u = refused_unique t lent.Nothing (number_of f) (place_of f) n i h k in ap (λ (m : ℕ). refusal_check m (place_of f)) u.0 ∙ ap (refusal_check n) u.1,
  );
  untouched = λ n i k. refl;
  opened = λ c a. absurd (refused_not_accepted t lent.Nothing (number_of f) (place_of f) c h a);
}

module _ (cycles : Bool) (t s : List ℤ) (l : length s ≡ 16451) (c : Contents) (a : AcceptedBy cycles t lent.Nothing c) where
  abbrev front : List ℤ
  front = t ++ drop (length t) s

  front_long : length front ≡ 16451
  front_long = let w = a.words in let d = length-drop (length t) s in let e = length-append t (drop (length t) s) in omega arith

  abbrev counted : List ℤ
  counted = set front 16384 (pos (length t))

  counted_long : length counted ≡ 16451
  counted_long = length-set front 16384 (pos (length t)) ∙ front_long

  abbrev cleared : List ℤ
  cleared = set counted 16385 (pos 0)

  cleared_long : length cleared ≡ 16451
  cleared_long = length-set counted 16385 (pos 0) ∙ counted_long

  count : count_in (opened_with cycles t s) ≡ length t
  count =
      let f = front_long in
      number_other cleared 16450 (pos (mode_word cycles)) 16384 16384 (λ z. omega arith)
      ∙ number_other counted 16385 (pos 0) 16384 16384 (λ z. omega arith) ∙ number_same front 16384 (length t) 16384 (omega arith) a.words

  table : table_in (opened_with cycles t s) ≡ t
  table =
      let w = a.words in
      ap (λ (k : ℕ). take k (opened_with cycles t s)) count
      ∙ take-set-le (length t) cleared 16450 (pos (mode_word cycles)) (omega arith)
      ∙ take-set-le (length t) counted 16385 (pos 0) (omega arith)
      ∙ take-set-le (length t) front 16384 (pos (length t)) w
      ∙ take-append_seam t (drop (length t) s)

  held : held_in (opened_with cycles t s) ≡ 0
  held =
      let f = counted_long in
      number_other cleared 16450 (pos (mode_word cycles)) 16385 64 (λ z. omega arith) ∙ number_same counted 16385 0 64 (omega arith) (omega arith)

  mode : cycles_in (opened_with cycles t s) ≡ cycles
  mode = let f = cleared_long in mode_same cleared cycles (omega arith)

  -- the first word is the number of atoms
  head_word : get_or front 0 (pos 0) ≡ pos c.atoms
  unfolding encode
  head_word = ap (λ (x : List ℤ). get_or (x ++ drop (length t) s) 0 (pos 0)) (accepted_encoding t c a.holds).words

  atoms : atoms_in (opened_with cycles t s) ≡ c.atoms
  atoms =
      let few = (ranges t c a.holds).few_atoms in
      let e : nat_abs (get_or front 0 (pos 0)) ≡ c.atoms = ap nat_abs head_word in
      number_other cleared 16450 (pos (mode_word cycles)) 0 256 (λ z. omega arith)
      ∙ number_other counted 16385 (pos 0) 0 256 (λ z. omega arith)
      ∙ number_other front 16384 (pos (length t)) 0 256 (λ z. omega arith)
      ∙ number_is front 0 256 (omega arith) ∙ e

  pins : pins_in (opened_with cycles t s) ≡ []
  unfolding pins_to
  pins = ap (pins_to (opened_with cycles t s)) held

  kept : Opened cycles t c s (opened_with cycles t s) (Ok tt)
  kept = record { done = refl; words = refl; table = table; atoms = atoms; pins = pins; mode = mode }

  pub opening_accepted : Opening cycles t s (opened_with cycles t s) (Ok tt)
  opening_accepted = record {
    refused = λ n i. (λ k. absurd (let z = ap (λ (x : CheckReport). x.kind) k in omega arith), λ k. absurd (refused_not_accepted t lent.Nothing n i c k a));
    untouched = λ n i k. absurd (let z = ap (λ (x : CheckReport). x.kind) k in omega arith);
    opened = λ d b. subst (λ (x : Contents). Opened cycles t x s (opened_with cycles t s) (Ok tt)) (accepted_unique t lent.Nothing c d a b) kept;
  }
