-- A project's text in format Two stands for the project there.
use Rattle.cfj_model.specs.Languages.{IsTextOf, projects}
use Rattle.cfj_model.specs.Numbered.{IsNumbered}
use Rattle.cfj_model.specs.Print.{printed}
use Rattle.cfj_model.specs.ProductLines.{ProductLine, IsProject, in_format_two}
use Rattle.cfj_model.proofs.FormatTwo.{kept_in_two}
use Rattle.print_law.proofs.Law.{project_law}

-- the text of a numbered project in format Two stands for the project there
pub migrated_law : (line : ProductLine) → IsProject line → IsNumbered line → IsTextOf projects (printed (in_format_two line)) (in_format_two line)
migrated_law line is n = project_law (in_format_two line) (kept_in_two line is) n
