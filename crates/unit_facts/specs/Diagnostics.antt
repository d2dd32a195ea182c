-- The diagnostics of a product line, over all its valid selections; and when entries and a verdict tell them, within
-- a budget.
use Rattle.std.specs.Prelude.{◌≡◌, ℕ, ◌^◌, ◌<◌, Bool, true, false, not, ◌==◌, ◌&&◌, ◌||◌, List, [], ◌∷◌, length, bit_and}
use Rattle.std.specs.List.{list_all}
use Rattle.cfj_model.specs.Judging.{Pair, Breaks, pairs_of}
use Rattle.cfj_model.specs.ProductLines.{ProductLine}
use Rattle.cfj_model.specs.Projection.{projected}
use Rattle.cfj_logic.specs.Selections.{Chosen, IsEarlier, is_subset}
use Rattle.cfj_logic.specs.Sides.{Sides, empty_clause, is_empty, is_over, is_within}
use Rattle.cfj_words.specs.Lists.{Has}
use Rattle.cfj_logic.specs.Validity.{IsValid}
use Rattle.unit_facts.specs.declared.entry.Entry.{Entry}
use Rattle.unit_facts.specs.declared.entry.Entry.TheVariants as entry
use Rattle.unit_facts.specs.declared.entry.Verdict.{Verdict}
use Rattle.unit_facts.specs.declared.entry.Verdict.TheVariants as verdict

-- a selection of the line's features under which each constraint is true
pub record IsValidFor (line : ProductLine) (s : Chosen) : Type 0 where
  pub features : s.features ≡ length line.model.features
  pub on : s.on < 2 ^ s.features
  pub valid : IsValid line.model.constraints s

-- the rule breaks at the site in the variant of a selection
abbrev pub BreaksIn : ProductLine → Pair → Chosen → Type 0
BreaksIn line p s = Breaks (projected s line).classes p.0 p.1

-- The least valid selection of which something is so.
pub record IsLeast (line : ProductLine) (So : Chosen → Type 0) (s : Chosen) : Type 0 where
  pub valid : IsValidFor line s
  pub so : So s
  pub least : (t : Chosen) → IsValidFor line t → So t → IsEarlier t s → ⊥

-- of no valid selection it is so
abbrev pub IsNever : ProductLine → (Chosen → Type 0) → Type 0
IsNever line So = (s : Chosen) → IsValidFor line s → So s → ⊥

-- The diagnostics of a line: each pair that breaks under some valid selection, with the least one. A pair that
-- breaks under none has no diagnostic.
abbrev pub IsDiagnosed : ProductLine → Pair → Chosen → Type 0
IsDiagnosed line p = IsLeast line (BreaksIn line p)

-- a selection makes a clause true
abbrev pub satisfies : Chosen → Sides → Bool
satisfies s c = not (bit_and c.on s.on == 0) || not (is_subset c.off s.on)

-- a clause holds no feature twice
abbrev pub is_simple : Sides → Bool
is_simple c = bit_and c.on c.off == 0

-- no clause contains all literals of an earlier one
abbrev pub are_fresh : List Sides → Bool
are_fresh [] = true
are_fresh (c ∷ cs) = list_all (λ d. not (is_within c d)) cs && are_fresh cs

-- A log over the line's features that spends a budget: so many clauses, none of them empty, none with all literals
-- of an earlier one, each true under every valid selection of which something is so. So a selection that any of them
-- denies is no answer.
pub record IsSpent (line : ProductLine) (budget : ℕ) (So : Chosen → Type 0) (log : List Sides) : Type 0 where
  pub long : length log ≡ budget
  pub over : list_all (is_over (length line.model.features)) log ≡ true
  pub simple : list_all is_simple log ≡ true
  pub telling : list_all (λ c. not (is_empty c)) log ≡ true
  pub fresh : are_fresh log ≡ true
  pub true_of_answers : (s : Chosen) → IsValidFor line s → So s → list_all (satisfies s) log ≡ true

-- the pair that an entry is about
abbrev pub pair_of_entry : Entry → Pair
pair_of_entry (entry.Broken site rule selection) = (site, rule)
pair_of_entry (entry.Undecided site rule log) = (site, rule)

-- an entry tells what it is about rightly
abbrev pub IsExact : ProductLine → ℕ → Entry → Type 0
IsExact line budget (entry.Broken site rule selection) = IsDiagnosed line (site, rule) selection
IsExact line budget (entry.Undecided site rule log) = IsSpent line budget (BreaksIn line (site, rule)) log

-- Entries for these pairs, in their order, at most one for each: a pair without one breaks under no valid selection.
pub data AreExact (line : ProductLine) (budget : ℕ) : List Pair → List Entry → Type 0 where
  all_told : AreExact line budget [] []
  unbroken : (p : Pair) (ps : List Pair) (es : List Entry) → IsNever line (BreaksIn line p) → AreExact line budget ps es → AreExact line budget (p ∷ ps) es
  told : (e : Entry) (ps : List Pair) (es : List Entry) → IsExact line budget e → AreExact line budget ps es → AreExact line budget (pair_of_entry e ∷ ps) (e ∷ es)

-- of each selection
abbrev pub Always : Chosen → Type 0
Always s = Unit {0}

-- a verdict tells rightly which selection is the least that is valid, or that there is none
abbrev pub IsRight : ProductLine → ℕ → Verdict → Type 0
IsRight line budget (verdict.Valid s) = IsLeast line Always s
IsRight line budget (verdict.Void log) = IsNever line Always × Has log empty_clause
IsRight line budget (verdict.Unknown log) = IsSpent line budget Always log

-- A checked product line: a right verdict, and exact entries for all its pairs.
pub record IsChecked (line : ProductLine) (budget : ℕ) (v : Verdict) (es : List Entry) : Type 0 where
  pub verdict : IsRight line budget v
  pub entries : AreExact line budget (pairs_of line.classes) es

-- ---- what is decided

-- the pair breaks under some valid selection; else the entry is undecided
abbrev pub is_broken : Entry → Bool
is_broken (entry.Broken site rule selection) = true
is_broken (entry.Undecided site rule log) = false

abbrev pub is_decided_verdict : Verdict → Bool
is_decided_verdict (verdict.Unknown log) = false
is_decided_verdict v = true

abbrev pub are_decided : Verdict → List Entry → Bool
are_decided v es = is_decided_verdict v && list_all is_broken es
