use Rattle.std.proofs.Common.{◌≡◌, true}
use Rattle.std.proofs.lemmas.Result.{IfOk-weaker}
use Rattle.cfj_model.specs.Coloring.{palette_of}
use Rattle.cfj_model.specs.Languages.{IsTextOf}
use Rattle.cfj_model.specs.Numbered.{is_numbered_ctor}
use Rattle.cfj_model.specs.ProductLines.{is_ctor}
use Rattle.cfj_model.specs.PartLanguages.{constructors}
use Rattle.fj_parser.specs.Goals.{reader_for}
use Rattle.fj_parser.specs.declared.goal.Goal.TheVariants as reads
use Rattle.fj_parser.proofs.ConstructorLaw.{constructor_laws}
use Rattle.fj_parser.proofs.Exact.{only_read, only_told}
use Rattle.fj_parser.proofs.TextsKept.{ctor_text_kept, ctor_text_numbered}
use Rattle.fj_parser.proofs.constructor_text.parse_constructor.Goals as goal

pub returns-clause-only : goal.returns-clause-only
returns-clause-only c =
    let format = c.args.model.now.format in
    let features = c.args.model.now.features in
    let class = c.args.class.now in
    only_read (constructors format features class) (reader_for reads.Constructor format features class) (constructor_laws format features class) c.args.text.now c.read_constructor.result c.read_constructor.ensures.read c.read_constructor.ensures.fault

pub returns-clause-first : goal.returns-clause-first
returns-clause-first c =
    let format = c.args.model.now.format in
    let features = c.args.model.now.features in
    let class = c.args.class.now in
    only_told (constructors format features class) (reader_for reads.Constructor format features class) (constructor_laws format features class) c.args.text.now c.read_constructor.result c.read_constructor.ensures.read c.read_constructor.ensures.fault

pub returns-clause-kept : goal.returns-clause-kept
returns-clause-kept c =
    let format = c.args.model.now.format in
    let features = c.args.model.now.features in
    let class = c.args.class.now in
    IfOk-weaker c.read_constructor.result (IsTextOf (constructors format features class) c.args.text.now) (λ ctor. is_ctor (palette_of c.args.model.now) ctor ≡ true) (ctor_text_kept format features class c.args.text.now) c.read_constructor.ensures.read

pub returns-clause-numbered : goal.returns-clause-numbered
returns-clause-numbered c =
    let format = c.args.model.now.format in
    let features = c.args.model.now.features in
    let class = c.args.class.now in
    IfOk-weaker c.read_constructor.result (IsTextOf (constructors format features class) c.args.text.now) (λ ctor. is_numbered_ctor ctor ≡ true) (ctor_text_numbered format features class c.args.text.now) c.read_constructor.ensures.read
