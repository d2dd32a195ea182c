-- The text of what is found of a product line.
use Rattle.std.specs.Prelude.{◌≡◌, ℕ, ◌+◌, ◌==◌, Bool, true, not, if◌then◌else◌, List, [], ◌∷◌, ◌++◌, length, flat_map, codes, count_by}
use Rattle.std.specs.List.{list_all}
use Rattle.std.specs.Fmt.{decimal}
use Rattle.cfj_model.specs.Sites.{site_text}
use Rattle.cfj_logic.specs.Selections.{Chosen, is_on}
use Rattle.cfj_model.specs.declared.site.Rule.{Rule}
use Rattle.cfj_model.specs.declared.site.Rule.TheVariants.{K1, K2, K3, K4, K5, K6, K7, K8, K9, E1, E2, E3, E4, E5, E6, E7, E8}
use Rattle.unit_facts.specs.Diagnostics.{is_broken}
use Rattle.unit_facts.specs.declared.entry.Entry.{Entry}
use Rattle.unit_facts.specs.declared.entry.Entry.TheVariants as entry
use Rattle.unit_facts.specs.declared.entry.Verdict.{Verdict}
use Rattle.unit_facts.specs.declared.entry.Verdict.TheVariants as verdict

abbrev pub rule_text : Rule → List ℕ
rule_text K1 = codes "K1"
rule_text K2 = codes "K2"
rule_text K3 = codes "K3"
rule_text K4 = codes "K4"
rule_text K5 = codes "K5"
rule_text K6 = codes "K6"
rule_text K7 = codes "K7"
rule_text K8 = codes "K8"
rule_text K9 = codes "K9"
rule_text E1 = codes "E1"
rule_text E2 = codes "E2"
rule_text E3 = codes "E3"
rule_text E4 = codes "E4"
rule_text E5 = codes "E5"
rule_text E6 = codes "E6"
rule_text E7 = codes "E7"
rule_text E8 = codes "E8"

-- the selected ones of these features, which are numbered from `n` on
abbrev pub selected_from : Chosen → ℕ → List (List ℕ) → List (List ℕ)
selected_from s n [] = []
selected_from s n (f ∷ fs) = if is_on s n then f ∷ selected_from s (n + 1) fs else selected_from s (n + 1) fs

-- words with single spaces between them
abbrev pub spaced : List (List ℕ) → List ℕ
spaced [] = []
spaced (w ∷ ws) = w ++ flat_map (λ v. codes " " ++ v) ws

-- `[A B]`: the selected features, in declaration order
abbrev pub selection_text : List (List ℕ) → Chosen → List ℕ
selection_text features s = codes "[" ++ (spaced (selected_from s 0 features) ++ codes "]")

-- `model valid [A B]`, `model void`, or `model undecided N` with the number of clauses
abbrev pub verdict_line : List (List ℕ) → Verdict → List ℕ
verdict_line features (verdict.Valid s) = codes "model valid " ++ (selection_text features s ++ codes "\n")
verdict_line features (verdict.Void log) = codes "model void\n"
verdict_line features (verdict.Unknown log) = codes "model undecided " ++ (decimal (length log) ++ codes "\n")

-- `broken SITE RULE [A B]`, or `undecided SITE RULE N`
abbrev pub entry_line : List (List ℕ) → Entry → List ℕ
entry_line features (entry.Broken site rule s) =
    codes "broken " ++ (site_text site ++ (codes " " ++ (rule_text rule ++ (codes " " ++ (selection_text features s ++ codes "\n")))))
entry_line features (entry.Undecided site rule log) =
    codes "undecided " ++ (site_text site ++ (codes " " ++ (rule_text rule ++ (codes " " ++ (decimal (length log) ++ codes "\n")))))

-- how many entries are broken
abbrev pub broken_count : List Entry → ℕ
broken_count es = count_by is_broken es

-- and how many are undecided
abbrev pub undecided_count : List Entry → ℕ
undecided_count es = count_by (λ e. not (is_broken e)) es

-- an undecided verdict counts too
abbrev pub undecided_verdicts : Verdict → ℕ
undecided_verdicts (verdict.Unknown log) = 1
undecided_verdicts v = 0

-- `summary broken B undecided U`
abbrev pub summary_line : Verdict → List Entry → List ℕ
summary_line v es = codes "summary broken " ++ (decimal (broken_count es) ++ (codes " undecided " ++ (decimal (undecided_count es + undecided_verdicts v) ++ codes "\n")))

-- ---- what can be printed

-- the verdict's selection, if any, is one of so many features
abbrev pub is_verdict_over : ℕ → Verdict → Bool
is_verdict_over features (verdict.Valid s) = s.features == features
is_verdict_over features (verdict.Void log) = true
is_verdict_over features (verdict.Unknown log) = true

-- the entry's selection, if any, is one of so many features
abbrev pub is_entry_over : ℕ → Entry → Bool
is_entry_over features (entry.Broken site rule s) = s.features == features
is_entry_over features (entry.Undecided site rule log) = true

-- every selection in the verdict and the entries is one of these features
pub record AreOfModel (features : List (List ℕ)) (v : Verdict) (es : List Entry) : Type 0 where
  pub verdict : is_verdict_over (length features) v ≡ true
  pub entries : list_all (is_entry_over (length features)) es ≡ true

-- ---- the text

-- the findings of a product line with these features: a line for the verdict, one for each entry, and the summary
abbrev pub findings : List (List ℕ) → Verdict → List Entry → List ℕ
findings features v es = verdict_line features v ++ (flat_map (entry_line features) es ++ summary_line v es)
