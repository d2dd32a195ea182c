-- Two product lines with the same features, constraints, classes and variants are checked alike.
use Rattle.std.proofs.Common.{◌≡◌, ◌↔◌, ℕ, suc, true, List, length, refl, sym, subst}
use Rattle.std.specs.List.{list_all}
use Rattle.cfj_model.specs.Judging.{Pair, Breaks, pairs_of}
use Rattle.cfj_model.specs.ProductLines.{ProductLine, in_format_two}
use Rattle.cfj_model.specs.Projection.{projected}
use Rattle.cfj_model.specs.declared.class.Class.{Class}
use Rattle.cfj_logic.specs.Selections.{Chosen}
use Rattle.cfj_logic.specs.Sides.{Sides, is_over}
use Rattle.cfj_logic.specs.Validity.{IsValid}
use Rattle.cfj_words.specs.Lists.{Has}
use Rattle.unit_facts.specs.Diagnostics.{Always, AreExact, BreaksIn, IsChecked, IsExact, IsLeast, IsNever, IsRight, IsSpent, IsValidFor, pair_of_entry}
use Rattle.unit_facts.specs.declared.entry.Entry.{Entry}
use Rattle.unit_facts.specs.declared.entry.Entry.TheVariants as entry
use Rattle.unit_facts.specs.declared.entry.Verdict.{Verdict}
use Rattle.unit_facts.specs.declared.entry.Verdict.TheVariants as verdict

-- as many features, and the same selections are valid
pub record AreValidAlike (a b : ProductLine) : Type 0 where
  pub number : length a.model.features ≡ length b.model.features
  pub there : (s : Chosen) → IsValidFor a s → IsValidFor b s
  pub back : (s : Chosen) → IsValidFor b s → IsValidFor a s

-- the pair breaks in the variants of the same selections
abbrev pub BreaksAlike : ProductLine → ProductLine → Pair → Type 0
BreaksAlike a b p = (s : Chosen) → BreaksIn a p s ↔ BreaksIn b p s

module _ (a b : ProductLine) (alike : AreValidAlike a b) (budget : ℕ) where
  module _ (So Then : Chosen → Type 0) (on : (s : Chosen) → So s → Then s) (from : (s : Chosen) → Then s → So s) where
    least : (s : Chosen) → IsLeast a So s → IsLeast b Then s
    least s l = record { valid = alike.there s l.valid; so = on s l.so; least = λ t valid so. l.least t (alike.back t valid) (from t so) }

    never : IsNever a So → IsNever b Then
    never none = λ s valid so. none s (alike.back s valid) (from s so)

    spent : (log : List Sides) → IsSpent a budget So log → IsSpent b budget Then log
    spent log l =
        record {
          long = l.long;
          over = subst (λ (n : ℕ). list_all (is_over n) log ≡ true) alike.number l.over;
          simple = l.simple;
          telling = l.telling;
          fresh = l.fresh;
          true_of_answers = λ s valid so. l.true_of_answers s (alike.back s valid) (from s so);
        }

  exact : (e : Entry) → BreaksAlike a b (pair_of_entry e) → IsExact a budget e → IsExact b budget e
  exact (entry.Broken site rule s) same = least (BreaksIn a (site, rule)) (BreaksIn b (site, rule)) (λ t. (same t).0) (λ t. (same t).1) s
  exact (entry.Undecided site rule log) same = spent (BreaksIn a (site, rule)) (BreaksIn b (site, rule)) (λ t. (same t).0) (λ t. (same t).1) log

  -- entries are exact for pairs that break alike
  pub all_exact : (ps : List Pair) (es : List Entry) → ((p : Pair) → Has ps p → BreaksAlike a b p) → AreExact a budget ps es → AreExact b budget ps es
  all_exact _ _ same AreExact.all_told = AreExact.all_told
  all_exact _ _ same (AreExact.unbroken p ps es none rest) =
      AreExact.unbroken p ps es (never (BreaksIn a p) (BreaksIn b p) (λ t. (same p (0, refl) t).0) (λ t. (same p (0, refl) t).1) none)
      (all_exact ps es (λ r here. same r (suc here.0, here.1)) rest)
  all_exact _ _ same (AreExact.told e ps es is rest) =
      AreExact.told e ps es (exact e (same (pair_of_entry e) (0, refl)) is) (all_exact ps es (λ r here. same r (suc here.0, here.1)) rest)

  pub right : (v : Verdict) → IsRight a budget v → IsRight b budget v
  right (verdict.Valid s) r = least Always Always (λ t x. x) (λ t x. x) s r
  right (verdict.Void log) r = (never Always Always (λ t x. x) (λ t x. x) r.0, r.1)
  right (verdict.Unknown log) r = spent Always Always (λ t x. x) (λ t x. x) log r

-- valid under the same selections, with the same classes and variants
pub record AreAlike (a b : ProductLine) : Type 0 where
  pub valid : AreValidAlike a b
  pub classes : a.classes ≡ b.classes
  pub variants : (s : Chosen) → projected s a ≡ projected s b

pub checked_alike : (a b : ProductLine) → AreAlike a b → (budget : ℕ) (v : Verdict) (es : List Entry) → IsChecked a budget v es → IsChecked b budget v es
checked_alike a b alike budget v es c =
    record {
      verdict = right a b alike.valid budget v c.verdict;
      entries = subst (λ (ks : List Class). AreExact b budget (pairs_of ks) es) alike.classes (all_exact a b alike.valid budget (pairs_of a.classes) es (λ p here. same p) c.entries);
    }
  where
    same : (p : Pair) → BreaksAlike a b p
    same p s = (subst (λ (v : ProductLine). Breaks v.classes p.0 p.1) (alike.variants s), subst (λ (v : ProductLine). Breaks v.classes p.0 p.1) (sym (alike.variants s)))

-- a variant doesn't depend on the format
same_variant : (line : ProductLine) (s : Chosen) → projected s line ≡ projected s (in_format_two line)
unfolding projected
same_variant line s = refl

valid_there : (line : ProductLine) (s : Chosen) → IsValidFor line s → IsValidFor (in_format_two line) s
valid_there line s v = record { features = v.features; on = v.on; valid = v.valid }

valid_back : (line : ProductLine) (s : Chosen) → IsValidFor (in_format_two line) s → IsValidFor line s
valid_back line s v = record { features = v.features; on = v.on; valid = v.valid }

pub to_two : (line : ProductLine) → AreAlike line (in_format_two line)
to_two line = record { valid = record { number = refl; there = valid_there line; back = valid_back line }; classes = refl; variants = same_variant line }

pub from_two : (line : ProductLine) → AreAlike (in_format_two line) line
from_two line = record { valid = record { number = refl; there = valid_back line; back = valid_there line }; classes = refl; variants = λ s. sym (same_variant line s) }
