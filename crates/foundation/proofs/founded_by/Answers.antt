-- `foundation::founded_by` meets its contract: "All true atoms added: answer." Assumes nothing.
use mathlib.Core.Path.{◌∙◌}
use Rattle.interpretation.specs.View.{valued}
use Rattle.layout.specs.Layout.{program_of}
use Rattle.layout.proofs.Inside.{atoms_in_lem}
use Rattle.foundation.specs.Walk.{marked}
use Rattle.foundation.proofs.Walks.{covered}
use Rattle.foundation.proofs.founded_by.Goals as goal

pub returns : goal.returns
returns c =
    c.all_covered.ensures
    ∙ covered c.args.t.now.places.atoms (valued c.args.values.now) c.requires (program_of c.args.t.now.words.now c.args.t.now.places) (atoms_in_lem c.args.t.now.words.now c.args.t.now.places c.args.t.now.laid) (marked c.added-marks.result) c.added-marks.ensures
