use Rattle.cide_io.proofs.Gaining.{gains_as}
use Rattle.cide_tool.proofs.running.say.Goals as goal

pub returns : goal.returns
returns g c = (c.put_all.result, gains_as g.E.Sink _ _ _ _ _ c.as_bytes.ensures.value c.put_all.ensures)
