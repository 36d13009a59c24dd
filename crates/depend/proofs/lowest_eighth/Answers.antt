-- `depend::lowest_eighth` meets its contract. Assumes nothing.
use mathlib.Core.Path.{sym, ap, ◌∙◌}
use mathlib.Core.Bool.{Bool}
use Prim.Native.Nat.{ℕ, suc}
use Rattle.std.specs.Prelude.{Option}
use Rattle.layout.specs.Layout.{program_of}
use Rattle.depend.specs.Cycles.{lowest, head_cycle_by}
use Rattle.depend.proofs.Exact.{nowhere}
use mathlib.Core.List.{List}
use lib.IntN.{ℤ}
use Rattle.layout.specs.declared.Table.{Table}
use Rattle.depend.proofs.lowest_eighth.Goals as goal

-- the lowest rule by the mode
abbrev by : List ℤ → Table → Bool → Option ℕ
by t tb cycles = let P = program_of t tb in lowest (head_cycle_by cycles (suc tb.atoms) P) 1 P

pub returns-then-cycles : goal.returns-then-cycles
returns-then-cycles c = sym (nowhere 1 (program_of c.args.t.now.words.now c.args.t.now.places)) ∙ ap (by c.args.t.now.words.now c.args.t.now.places) (sym c.if-cycles.true)

pub returns : goal.returns
returns c = c.lowest_of.ensures ∙ ap (by c.args.t.now.words.now c.args.t.now.places) (sym c.if-cycles.false)
