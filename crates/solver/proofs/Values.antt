-- "An aggregate literal is true (false) if it is so in every completion of its undefined atoms": of every literal of every accepted table, exactly, whatever the
-- cells. Assumes nothing.
use mathlib.Core.Path.{◌≡◌}
use mathlib.Core.Logic.{◌↔◌}
use mathlib.Core.Bool.{Bool, true, false}
use mathlib.Core.List.{List}
use Prim.Native.Nat.{ℕ}
use lib.IntN.{ℤ}
use Rattle.meaning.specs.Lists.{◌∈◌}
use Rattle.meaning.specs.Program.{Literal, Rule}
use Rattle.interpretation.specs.State.{Cell}
use Rattle.interpretation.specs.declared.Value.TheVariants.{True, False, Undefined}
use Rattle.valuing.specs.Values.{literal_value}
use Rattle.valuing.specs.Exact.{Always, Sometimes}
use Rattle.valuing.proofs.Exact as exact
use Rattle.table.specs.Contents.{Contents, program}
use Rattle.table.proofs.Members.{accepted_distinct}
use Rattle.judging.specs.declared.Buffer.{Buffer}
use Rattle.judging.specs.Refusals.{AcceptedBy}

module _ (cycles : Bool) (t : List ℤ) (b : Buffer) (c : Contents) (h : AcceptedBy cycles t b c) (r : Rule) (m : r ∈ program c) (l : Literal) (n : l ∈ r.aggs) (a : ℕ → Cell) where
  pub true_exactly : (literal_value a l ≡ True) ↔ Always a l true
  true_exactly = exact.exact_true a l (accepted_distinct t c h.holds r m l n)

  pub false_exactly : (literal_value a l ≡ False) ↔ Always a l false
  false_exactly = exact.exact_false a l (accepted_distinct t c h.holds r m l n)

  pub undefined_exactly : (literal_value a l ≡ Undefined) ↔ (Sometimes a l true × Sometimes a l false)
  undefined_exactly = exact.exact_undefined a l (accepted_distinct t c h.holds r m l n)
