use Rattle.std.proofs.Common.{◌≡◌, ◌++◌, flat_map, take, string_bytes}
use Rattle.unit_facts.specs.Findings.{entry_line}
use Rattle.unit_facts.proofs.findings.write_entries.Given as goal

abbrev pub invariant-entries : goal.invariant-entries
invariant-entries l = string_bytes l.text ≡ string_bytes l.fn.text ++ flat_map (entry_line l.features) (take l.entry-index l.entries)
