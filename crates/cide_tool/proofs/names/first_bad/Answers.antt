use Rattle.std.proofs.Common.{◌∷◌}
use Rattle.cide_tool.proofs.BadNames.{still_first, next_is_bad}
use Rattle.cide_tool.proofs.names.first_bad.Goals as goal

pub returns-in-Ok : goal.returns-in-Ok
returns-in-Ok c = λ part rest unknown. next_is_bad _ _ rest part c.in-Ok.ensures.spelled.named unknown

pub returns-in-Err : goal.returns-in-Err
returns-in-Err c = λ part rest unknown. still_first _ _ (part ∷ rest) _ c.in-Err.ensures.fault
