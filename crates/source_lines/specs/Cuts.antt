-- What contracts see of a source in memory that gives few bytes at once.
use Rattle.std.specs.Prelude.{ℕ}
use Rattle.cide_io.specs.Memory.{MemoryInput}

-- the source, and how many bytes it gives at most
pub record CutInput : Type 0 where
  pub input : MemoryInput
  pub piece : ℕ
