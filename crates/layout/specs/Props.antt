-- That a table is laid has one proof at most, so it can stand in a struct. Assumes nothing.
use Rattle.std.proofs.Common.{◌≡◌, ℕ, suc, zero, ◌≤◌, ◌<◌, ◌+◌, List, [], ◌∷◌, length, get_or, ℤ, pos}
use Rattle.std.specs.Coded.{×_prop, Unit-prop, le_prop}
use denote.Struct.Props.{props}
use Rattle.meaning.specs.Program.{Element}
use Rattle.layout.specs.declared.Table.{Table}
use Rattle.layout.specs.Layout.{Rising, AggregateLies, RuleLies, RulesLie, past_rule, start_from, Laid}

pub Rising_prop : (b : ℕ) (es : List Element) → IsProp (Rising b es)
Rising_prop b [] = Unit-prop
Rising_prop b (e ∷ es) = ×_prop le_prop (Rising_prop e.atom es)

pub AggregateLies_prop : (top : ℕ) (t : List ℤ) (i : ℕ) → IsProp (AggregateLies top t i)
AggregateLies_prop top t i = Prim.hlevel (props, Rising_prop)

pub RuleLies_prop : (top most : ℕ) (t : List ℤ) (i : ℕ) → IsProp (RuleLies top most t i)
RuleLies_prop top most t i = Prim.hlevel props

pub RulesLie_prop : (top most : ℕ) (t : List ℤ) (i n : ℕ) → IsProp (RulesLie top most t i n)
unfolding RulesLie
RulesLie_prop top most t i zero = Unit-prop
RulesLie_prop top most t i (suc n) = ×_prop (RuleLies_prop top most t i) (RulesLie_prop top most t (past_rule t i) n)

pub Laid_prop : (t : List ℤ) (tb : Table) → IsProp (Laid t tb)
Laid_prop t tb = Prim.hlevel (props, AggregateLies_prop, RulesLie_prop)
