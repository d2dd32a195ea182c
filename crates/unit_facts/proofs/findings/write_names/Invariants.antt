use denote.Text.{Utf8}
use denote.Shadow.{shadow}
use Rattle.std.proofs.Common.{◌≡◌, ◌++◌, string_bytes}
use Rattle.unit_facts.specs.Findings.{spaced}
use Rattle.unit_facts.proofs.Selected.{separator, first_selected}
use Rattle.unit_facts.proofs.findings.write_names.Given as goal

abbrev pub invariant-features : goal.invariant-features
invariant-features l =
    record {
      utf8 : shadow (Utf8 l.between);
      between : l.between ≡ separator (first_selected l.selection l.features l.feature);
      written : string_bytes l.text ≡ string_bytes l.fn.text ++ spaced (first_selected l.selection l.features l.feature);
    }
