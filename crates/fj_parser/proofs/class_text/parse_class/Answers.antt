use Rattle.std.proofs.Common.{◌≡◌, true, nat_le}
use Rattle.std.proofs.lemmas.Result.{IfOk-weaker}
use Rattle.cfj_model.specs.Coloring.{palette_of}
use Rattle.cfj_model.specs.Languages.{IsTextOf, single_classes}
use Rattle.cfj_model.specs.Numbered.{is_numbered_class}
use Rattle.cfj_model.specs.ProductLines.{class_size, is_class, most_size}
use Rattle.fj_parser.specs.Goals.{reader_for}
use Rattle.fj_machine.specs.Machine.{unnamed}
use Rattle.fj_parser.specs.declared.goal.Goal.TheVariants as reads
use Rattle.fj_parser.proofs.ClassLaw.{class_laws}
use Rattle.fj_parser.proofs.Exact.{only_read, only_told}
use Rattle.cfj_model.proofs.Numbering.{class_read_numbered}
use Rattle.fj_parser.proofs.TextsKept.{class_text_kept}
use Rattle.fj_parser.proofs.class_text.parse_class.Goals as goal

pub returns-clause-only : goal.returns-clause-only
returns-clause-only c =
    let format = c.args.model.now.format in
    let features = c.args.model.now.features in
    only_read (single_classes format features) (reader_for reads.Class format features unnamed) (class_laws format features) c.args.text.now c.read_class.result c.read_class.ensures.read c.read_class.ensures.fault

pub returns-clause-first : goal.returns-clause-first
returns-clause-first c =
    let format = c.args.model.now.format in
    let features = c.args.model.now.features in
    only_told (single_classes format features) (reader_for reads.Class format features unnamed) (class_laws format features) c.args.text.now c.read_class.result c.read_class.ensures.read c.read_class.ensures.fault

pub returns-clause-kept : goal.returns-clause-kept
returns-clause-kept c =
    let format = c.args.model.now.format in
    let features = c.args.model.now.features in
    IfOk-weaker c.read_class.result (IsTextOf (single_classes format features) c.args.text.now) (λ k. is_class (palette_of c.args.model.now) k ≡ true) (λ k h. (class_text_kept format features c.args.text.now k h).0) c.read_class.ensures.read

pub returns-clause-fits : goal.returns-clause-fits
returns-clause-fits c =
    let format = c.args.model.now.format in
    let features = c.args.model.now.features in
    IfOk-weaker c.read_class.result (IsTextOf (single_classes format features) c.args.text.now) (λ k. nat_le (class_size k) most_size ≡ true) (λ k h. (class_text_kept format features c.args.text.now k h).1) c.read_class.ensures.read

pub returns-clause-numbered : goal.returns-clause-numbered
returns-clause-numbered c =
    let format = c.args.model.now.format in
    let features = c.args.model.now.features in
    IfOk-weaker c.read_class.result (IsTextOf (single_classes format features) c.args.text.now) (λ k. is_numbered_class k ≡ true) (class_read_numbered format features c.args.text.now) c.read_class.ensures.read
