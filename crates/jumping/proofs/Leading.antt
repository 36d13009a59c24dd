-- A search that was led by turns from the start of the defined search to its end has what `solve` gives. Assumes nothing.
use mathlib.Core.Path.{◌≡◌, sym, ap, subst}
use Prim.Native.Nat.{ℕ}
use Rattle.interpretation.specs.State.{Interpretation, true_atoms, AllDefined}
use Rattle.interpretation.specs.View.{view}
use Rattle.outcome.specs.declared.Ending.{Ending}
use Rattle.outcome.specs.declared.Ending.TheVariants as ending
use Rattle.search.specs.Search.{Problem, State, Outcome, jump, start}
use Rattle.search.proofs.Listing.{plan_found}
use Rattle.search.proofs.Loop.{Ends, ends_end, ends_go, ends_solve}
use Rattle.outcome.specs.declared.Halt.{Halt}
use Rattle.jumping.specs.Jumping.{Led, here, on, result_of, end_of, Searched, Solves}

module _ (P : Problem) (lim : ℕ) where
  pub led_ends : (c d : State) (o : Outcome) → Led P lim c d → Ends P jump lim d o → Ends P jump lim c o
  led_ends c d o (here e) x = subst (λ (y : State). Ends P jump lim y o) (sym e) x
  led_ends c x o (on {d} {e} l t) y = led_ends c d o l (ends_go P jump lim d e o t y)

  -- with an answer every atom is defined: it was found where no atom was left to choose
  pub answer_whole : (c : State) (h : Halt) → Searched P lim c h → h.found.ending ≡ ending.Answer → AllDefined P.atoms (view h.found.it).cell
  answer_whole c h s a =
      let X = true_atoms P.atoms (view h.found.it).cell in
      let f = plan_found P jump lim s.last (end_of P.atoms h.found s.skipped) X (ap (λ (e : Ending). result_of e X) a) s.ends in
      subst (λ (i : Interpretation). AllDefined P.atoms i.cell) (sym s.state) f.total

  pub solves_by : (c : State) (h : Halt) → c ≡ start P → Searched P lim c h → Solves P lim h.found
  solves_by c h e s =
      let o = end_of P.atoms h.found s.skipped in
      (s.skipped, ends_solve P jump lim o (subst (λ (y : State). Ends P jump lim y o) e (led_ends c s.last o s.led (ends_end P jump lim s.last o s.ends))), answer_whole c h s)
