use Rattle.std.proofs.Common.{Err, ap}
use Rattle.cide_io.specs.Faults.{Rose}
use Rattle.cide_tool.proofs.Inputs.{text_as}
use Rattle.cide_tool.proofs.Runs.{err_maps, fault_as, no_fault, unread_gives}
use Rattle.cide_tool.proofs.project.read_project.Goals as goal

pub returns-in_err-text-clause-refused : goal.returns-in_err-text-clause-refused
returns-in_err-text-clause-refused g c =
    unread_gives (g.R.Room.input c.args.room.now) (Rose (g.R.Room.read_faults c.args.room.now) (g.R.Room.read_faults c.read_input.new.room))
    c.args.name.now c.in_err-text.field-0.0 c.from_residual.result c.from_residual.ensures.1 c.in_err-text.ensures.text
    (λ k. c.in_err-text.ensures.cause (ap Err k))

pub returns-clause-refused : goal.returns-clause-refused
returns-clause-refused g c =
    err_maps c.parse.result _ _ c.parse.ensures.refused (λ r h asked named.
    fault_as no_fault (h (g.R.Room.input c.args.room.now) asked (text_as (g.R.Room.input c.args.room.now) c.args.name.now _ _ _ c.in_ok-text.ensures.text named c.as_slice.ensures.value)))
