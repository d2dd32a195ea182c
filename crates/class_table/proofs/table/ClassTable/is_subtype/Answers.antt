use Rattle.std.proofs.Common.{sym, ◌∙◌, ap₂}
use Rattle.std.specs.Str.{bytes_eq}
use Rattle.class_table.proofs.Nearest.{subtype_is}
use Rattle.class_table.proofs.table.ClassTable.is_subtype.Goals as goal

pub returns-else-eq : goal.returns-else-eq
returns-else-eq c =
    subtype_is c.args.self.now c.args.class.now c.args.above.now c.chain.result.now c.is_extended.result c.chain.ensures
    (sym (ap₂ bytes_eq c.text.ensures.value c.text-2.ensures.value) ∙ sym c.eq.ensures ∙ c.if-eq.false) c.is_extended.ensures
