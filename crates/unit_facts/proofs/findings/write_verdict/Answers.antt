use Rattle.std.proofs.Common.{◌∙◌, ap, sym}
use Rattle.unit_facts.specs.Findings.{verdict_line}
use Rattle.unit_facts.specs.declared.entry.Verdict.TheVariants as verdict
use Rattle.unit_facts.proofs.Written.{written_as}
use Rattle.unit_facts.proofs.findings.write_verdict.Goals as goal

pub returns-in-Unknown : goal.returns-in-Unknown
returns-in-Unknown c =
    written_as _ _ _
    (ap (λ cs. verdict_line c.args.features.now (verdict.Unknown cs)) c.clauses.ensures ∙ ap (verdict_line c.args.features.now) (sym c.in-Unknown.is))
    c.writeln.ensures.bytes
