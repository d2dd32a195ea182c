-- What contracts see of a reader of lines.
use Rattle.std.specs.Prelude.{ℕ, List, Option}
use Rattle.cide_io.specs.Known.{Known}
use Rattle.source_lines.specs.declared.reads.Read.{Read}

-- What is left behind the last line, as far as it is told; the last line, without its newline; the source's count of
-- faults; how many bytes a line may have; and the answer that stays, once a line was too long or the source failed.
pub record Reader : Type 0 where
  pub left : Known
  pub line : List ℕ
  pub faults : ℕ
  pub limit : ℕ
  pub stays : Option Read
