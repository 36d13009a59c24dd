-- The one computed test over the whole table of cases, and the law that hands out each entry. Assumes nothing.
use mathlib.Core.Path.{refl}
use Rattle.meaning.specs.Lists.{Is, ◌∈◌, all, has}
use Rattle.meaning.specs.Cond.{if_lt, if_eq}
use Rattle.meaning.specs.Aggregates.{compared}
use Rattle.meaning.specs.Answers.{literal, body, holds, model, reduct}
use Rattle.meaning.specs.Enumerated.{is_answer, answers_of}
use Rattle.meaning.specs.Dependency.{arc, occurs, added_arc, any_arc}
use Rattle.meaning.specs.Foundedness.{only_head, supports, founded}
use Rattle.meaning.specs.Cycles.{via, mutually, head_cycle, returns, aggregate_cycle}
use Rattle.meaning.proofs.Tools.{all_at}
use Rattle.levels.specs.Levels.{highest}
use Rattle.interpretation.specs.State.{undone, lowest}
use Rattle.valuing.specs.Values.{aggregate_value, literal_value}
use Rattle.valuing.specs.Settling.{settles, settling_of}
use Rattle.valuing.specs.Reasons.{reason_of}
use Rattle.steps.specs.Steps.{propagate}
use Rattle.search.specs.Search.{trues, branches, turn, run, solve}
use Rattle.smaller.specs.Smaller.{propagate_rules, others, lacks_one}
use Rattle.table.specs.Roles as roles
use Rattle.table.specs.Grammar as grammar
use Rattle.table.specs.Contents.{program}
use Rattle.depend.specs.Cycles as cycles
use Rattle.cases.specs.Cases.{Case, as_reported, cases}

pub cases_as_reported : Is (all as_reported cases)
unfolding cases as_reported answers_of is_answer model holds reduct if_lt if_eq has compared literal body arc occurs added_arc any_arc only_head supports founded via mutually head_cycle returns aggregate_cycle highest undone lowest aggregate_value literal_value settles settling_of reason_of propagate trues branches turn run solve propagate_rules others lacks_one roles.fault roles.run grammar.times grammar.members grammar.list grammar.atoms grammar.elements grammar.aggregate grammar.rule grammar.aggregates grammar.rules grammar.table grammar.contents_of program cycles.lowest cycles.cycle_by
cases_as_reported = refl

pub case_as_reported : (c : Case) → c ∈ cases → Is (as_reported c)
case_as_reported c m = all_at as_reported cases cases_as_reported m
