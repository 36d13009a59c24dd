-- `pins::pin_in` meets its contract: the three tests in their order. Assumes nothing.
use mathlib.Core.Path.{◌≡◌, refl, sym, ap, ◌∙◌, subst}
use mathlib.Core.Bool.{Bool, true, false}
use mathlib.Core.Option.{none}
use mathlib.Core.List.{List}
use Prim.Native.Nat.{ℕ}
use native.Mathlib.Omega.{arith}
use borrow.Author.Tests.{lt-ltb, le-ltb}
use lib.IntN.{ℤ}
use lib.ListN.{length}
use Rattle.meaning.specs.Cycles.{inside}
use Rattle.results.specs.declared.Refusal.TheVariants.{PinNumber, PinTwice, PinsFull}
use Rattle.std.specs.Prelude.{Ok, Err}
use Rattle.sessions.specs.Sessions.{pin, is_held, refusal}
use Rattle.sessions.proofs.Held.{taken_e}
use Rattle.pins.specs.Memory.{atoms_in, pins_to, pins_in, held_in}
use Rattle.pins.specs.Session.{Changing}
use Rattle.pins.proofs.Words.{number_small, pins_length}
use Rattle.pins.proofs.Changes.{refusal_by, changing_refused, changing_pin}
use Rattle.pins.proofs.pin_in.Goals as goal

pub returns-then-not-is_inside : goal.returns-then-not-is_inside
returns-then-not-is_inside c =
    let within : (b : Bool) → c.is_inside.result ≡ b → let a = c.args in inside (atoms_in a.s.now) a.atom ≡ b = λ b e.
    let a = c.args in
    ap (λ (n : ℕ). inside n a.atom) (sym c.number-n.ensures) ∙ sym c.is_inside.ensures ∙ e in
    let a = c.args in
    changing_refused (pin a.atom a.value) a.s.now (Err PinNumber) 20
    (refusal_by (atoms_in a.s.now) (pins_in a.s.now) a.atom a.value false _ _ (within false (c.if-not-is_inside.true)) refl refl) refl

pub is_held-requires : goal.is_held-requires
is_held-requires c =
    let e = c.number-held.ensures in
    let l = number_small c.args.s.now 16385 64 in
    (omega arith, c.requires)

pub returns-then-is_held : goal.returns-then-is_held
returns-then-is_held c =
    let within : (b : Bool) → c.is_inside.result ≡ b → let a = c.args in inside (atoms_in a.s.now) a.atom ≡ b = λ b e.
    let a = c.args in
    ap (λ (n : ℕ). inside n a.atom) (sym c.number-n.ensures) ∙ sym c.is_inside.ensures ∙ e in
    let inner : let a = c.args in inside (atoms_in a.s.now) a.atom ≡ true = within true (c.if-not-is_inside.false) in
    let again : (b : Bool) → c.is_held.result ≡ b → let a = c.args in is_held a.atom (pins_in a.s.now) ≡ b = λ b e.
    let a = c.args in
    ap (λ (k : ℕ). is_held a.atom (pins_to a.s.now k)) (sym c.number-held.ensures) ∙ sym c.is_held.ensures ∙ e in
    let a = c.args in
    changing_refused (pin a.atom a.value) a.s.now (Err PinTwice) 21
    (refusal_by (atoms_in a.s.now) (pins_in a.s.now) a.atom a.value true true _ inner (again true c.if-is_held.true) refl) refl

pub returns-then-held-gt63 : goal.returns-then-held-gt63
returns-then-held-gt63 c =
    let many : let a = c.args in c.number-held.result ≡ length (pins_in a.s.now) =
    let a = c.args in
    c.number-held.ensures ∙ sym (pins_length a.s.now (held_in a.s.now)) in
    let within : (b : Bool) → c.is_inside.result ≡ b → let a = c.args in inside (atoms_in a.s.now) a.atom ≡ b = λ b e.
    let a = c.args in
    ap (λ (n : ℕ). inside n a.atom) (sym c.number-n.ensures) ∙ sym c.is_inside.ensures ∙ e in
    let inner : let a = c.args in inside (atoms_in a.s.now) a.atom ≡ true = within true (c.if-not-is_inside.false) in
    let again : (b : Bool) → c.is_held.result ≡ b → let a = c.args in is_held a.atom (pins_in a.s.now) ≡ b = λ b e.
    let a = c.args in
    ap (λ (k : ℕ). is_held a.atom (pins_to a.s.now k)) (sym c.number-held.ensures) ∙ sym c.is_held.ensures ∙ e in
    let a = c.args in
    let k = c.if-held-gt63.true in
    let e = many in
    changing_refused (pin a.atom a.value) a.s.now (Err PinsFull) 22
    (refusal_by (atoms_in a.s.now) (pins_in a.s.now) a.atom a.value true false true inner (again false c.if-is_held.false) (lt-ltb 63 (length (pins_in a.s.now)) (omega arith))) refl

pub push-requires : goal.push-requires
push-requires c =
    let many : let a = c.args in c.number-held.result ≡ length (pins_in a.s.now) =
    let a = c.args in
    c.number-held.ensures ∙ sym (pins_length a.s.now (held_in a.s.now)) in
    let within : (b : Bool) → c.is_inside.result ≡ b → let a = c.args in inside (atoms_in a.s.now) a.atom ≡ b = λ b e.
    let a = c.args in
    ap (λ (n : ℕ). inside n a.atom) (sym c.number-n.ensures) ∙ sym c.is_inside.ensures ∙ e in
    let inner : let a = c.args in inside (atoms_in a.s.now) a.atom ≡ true = within true (c.if-not-is_inside.false) in
    let again : (b : Bool) → c.is_held.result ≡ b → let a = c.args in is_held a.atom (pins_in a.s.now) ≡ b = λ b e.
    let a = c.args in
    ap (λ (k : ℕ). is_held a.atom (pins_to a.s.now k)) (sym c.number-held.ensures) ∙ sym c.is_held.ensures ∙ e in
    let free : let a = c.args in refusal (atoms_in a.s.now) (pins_in a.s.now) (pin a.atom a.value) ≡ none =
    let a = c.args in
    let k = c.if-held-gt63.false in
    let e = many in
    refusal_by (atoms_in a.s.now) (pins_in a.s.now) a.atom a.value true false false inner (again false c.if-is_held.false) (le-ltb 63 (length (pins_in a.s.now)) (omega arith)) in
    let a = c.args in
    let k = c.if-held-gt63.false in
    let i = (taken_e (atoms_in a.s.now) (pins_in a.s.now) a.atom a.value free).is_inside in
    let l = number_small a.s.now 0 256 in
    (omega arith, c.number-held.ensures, omega (arith, i.1), c.requires)

pub returns : goal.returns
returns c =
    let many : let a = c.args in c.number-held.result ≡ length (pins_in a.s.now) =
    let a = c.args in
    c.number-held.ensures ∙ sym (pins_length a.s.now (held_in a.s.now)) in
    let within : (b : Bool) → c.is_inside.result ≡ b → let a = c.args in inside (atoms_in a.s.now) a.atom ≡ b = λ b e.
    let a = c.args in
    ap (λ (n : ℕ). inside n a.atom) (sym c.number-n.ensures) ∙ sym c.is_inside.ensures ∙ e in
    let inner : let a = c.args in inside (atoms_in a.s.now) a.atom ≡ true = within true (c.if-not-is_inside.false) in
    let again : (b : Bool) → c.is_held.result ≡ b → let a = c.args in is_held a.atom (pins_in a.s.now) ≡ b = λ b e.
    let a = c.args in
    ap (λ (k : ℕ). is_held a.atom (pins_to a.s.now k)) (sym c.number-held.ensures) ∙ sym c.is_held.ensures ∙ e in
    let free : let a = c.args in refusal (atoms_in a.s.now) (pins_in a.s.now) (pin a.atom a.value) ≡ none =
    let a = c.args in
    let k = c.if-held-gt63.false in
    let e = many in
    refusal_by (atoms_in a.s.now) (pins_in a.s.now) a.atom a.value true false false inner (again false c.if-is_held.false) (le-ltb 63 (length (pins_in a.s.now)) (omega arith)) in
    let a = c.args in
    subst (λ (u : List ℤ). Changing (pin a.atom a.value) a.s.now u (Ok tt)) (sym c.push.ensures) (changing_pin a.s.now c.requires a.atom a.value free)
