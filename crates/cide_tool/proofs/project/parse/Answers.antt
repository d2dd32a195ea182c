use Rattle.std.proofs.Common.{Some, refl}
use Rattle.cide_tool.proofs.Runs.{memory_refused}
use Rattle.cide_tool.proofs.project.parse.Goals as goal

pub returns-in-Err-NoMemory-clause-refused : goal.returns-in-Err-NoMemory-clause-refused
returns-in-Err-NoMemory-clause-refused c = λ inputs asked whole. memory_refused inputs ⊥ (Some asked) _ refl
