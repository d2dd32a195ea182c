use Rattle.std.proofs.Common.{◌≡◌, ◌++◌, ◌+◌, ◌∙◌, ap, codes, List, ℕ}
use Rattle.std.specs.Fmt.{decimal}
use Rattle.unit_facts.proofs.Written.{written_as}
use Rattle.unit_facts.proofs.findings.write_summary.Goals as goal

-- the line with these numbers
abbrev counted : ℕ → ℕ → List ℕ
counted broken undecided = codes "summary broken " ++ (decimal broken ++ (codes " undecided " ++ (decimal undecided ++ codes "\n")))

same_counts : {a b c d e f : ℕ} → a ≡ d → b ≡ e → c ≡ f → counted a (b + c) ≡ counted d (e + f)
same_counts {a} {b} {c} {d} {e} {f} x y z = ap (λ n. counted n (b + c)) x ∙ ap (λ n. counted d (n + c)) y ∙ ap (λ n. counted d (e + n)) z

pub returns : goal.returns
returns c = written_as _ _ _ (same_counts c.broken_count-broken.ensures c.undecided_count.ensures c.undecided_verdicts.ensures) c.writeln.ensures.bytes
