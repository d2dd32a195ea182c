-- The text of a project, and what it is.
use Rattle.std.specs.Prelude.{◌≡◌, ℕ, ◌<◌, ◌≤◌, List, length, Some, None}
use Rattle.cfj_model.specs.declared.fault.FaultKind.{FaultKind}
use Rattle.cfj_model.specs.Faults.{IsFirstFault}
use Rattle.cfj_model.specs.Languages.{IsTextOf, projects}
use Rattle.cfj_model.specs.ProductLines.{ProductLine}
use Rattle.cide_io.specs.Known.{Known}

-- the most bytes in the text of a project
abbrev pub most_bytes : ℕ
most_bytes = 4194304

-- The text is all of an input, where the input is told. Of an untold input it is some text.
abbrev pub IsAllOf : Known → List ℕ → Type 0
IsAllOf None text = Unit {0}
IsAllOf (Some bytes) text = text ≡ bytes

-- The project's text: all of the input, and not too long.
pub record IsProjectText (input : Known) (text : List ℕ) : Type 0 where
  pub all : IsAllOf input text
  pub short : length text ≤ most_bytes

-- The project's text stands for this product line.
pub record StandsFor (input : Known) (project : ProductLine) : Type 0 where
  pub text : List ℕ
  pub whole : IsProjectText input text
  pub read : IsTextOf projects text project

-- The project's text is none within the limits, and this is its first fault.
pub record HasFirstFault (input : Known) (at : ℕ) (kind : FaultKind) : Type 0 where
  pub text : List ℕ
  pub whole : IsProjectText input text
  pub first : IsFirstFault projects text at kind

-- The input has more bytes than the text of a project may have.
pub record IsTooLong (input : Known) : Type 0 where
  pub text : List ℕ
  pub all : IsAllOf input text
  pub longer : most_bytes < length text
