-- Pairs of a site and a rule are the same where their parts are.
use Rattle.std.proofs.Common.{◌≡◌, Bool, refl, sym, ◌∙◌, ap}
use Rattle.std.specs.Bool.{Decides}
use Rattle.std.proofs.lemmas.Bool.Decides.{Decides-and, Decides-eqb, Decides-like}
use Rattle.std.proofs.lemmas.Slice.Eq.{bytes_eq-Decides}
use Rattle.cfj_model.specs.Judging.{Pair}
use Rattle.cfj_model.specs.contracts.site.Rule as rule_type
use Rattle.cfj_model.specs.declared.site.Rule.{Rule}
use Rattle.cfj_model.specs.declared.site.Site.{Site}
use Rattle.cfj_model.specs.declared.site.Site.TheVariants as site
use Rattle.plain_judge.specs.PairParts.{pair_parts, seen_pair}
use Rattle.plain_judge.specs.SiteParts.{SiteParts, parts_of}
use Rattle.plain_judge.specs.contracts.breaks.PairPartsPartialEq.TheImpl as derived
use Rattle.plain_judge.specs.contracts.site_parts.Kind as kind_type
use Rattle.plain_judge.specs.declared.breaks.PairParts.{PairParts}
use Rattle.plain_judge.specs.declared.site_parts.Kind.{Kind}
use Rattle.plain_judge.specs.declared.site_parts.Kind.TheVariants as kind
use denote.Enum.Bare.{sameb, same_true, true_same}

-- ---- the derived comparison

abbrev pub eq : PairParts → PairParts → Bool
eq = derived.eq-value.it

kind_same : (a b : Kind) → Decides (sameb kind_type.the_type a b) (a ≡ b)
kind_same a b = (same_true kind_type.the_type tt a b, true_same kind_type.the_type a b)

rule_same : (a b : Rule) → Decides (sameb rule_type.the_type a b) (a ≡ b)
rule_same a b = (same_true rule_type.the_type tt a b, true_same rule_type.the_type a b)

-- it compares what is read
pub eq-Decides : (a b : PairParts) → Decides (eq a b) (seen_pair a ≡ seen_pair b)
eq-Decides a b =
    Decides-like (eq a b)
    (λ h. cc (h.0, h.1.0, h.1.1.0, h.1.1.1.0, h.1.1.1.1.0, h.1.1.1.1.1))
    (λ e. (ap (λ x. x.1) e, (ap (λ x. x.0.kind) e, (ap (λ x. x.0.alt) e, (ap (λ x. x.0.slot) e, (ap (λ x. x.0.class) e, ap (λ x. x.0.member) e))))))
    (Decides-and _ _ (rule_same a.rule b.rule)
    (Decides-and _ _ (kind_same a.parts.kind b.parts.kind)
    (Decides-and _ _ (Decides-eqb a.parts.alt b.parts.alt)
    (Decides-and _ _ (Decides-eqb a.parts.slot b.parts.slot)
    (Decides-and _ _ (bytes_eq-Decides a.parts.class.now b.parts.class.now) (bytes_eq-Decides a.parts.member.now b.parts.member.now))))))

-- ---- the parts of a site tell which it is

abbrev site_by : Kind → SiteParts → Site
site_by kind.Model p = site.Model
site_by kind.Class p = site.Class p.class
site_by kind.Field p = site.Field p.class p.member p.alt
site_by kind.Ctor p = site.Ctor p.class
site_by kind.CtorParam p = site.CtorParam p.class p.slot
site_by kind.SuperArg p = site.SuperArg p.class p.slot
site_by kind.Assign p = site.Assign p.class p.slot
site_by kind.Method p = site.Method p.class p.member p.alt
site_by kind.Param p = site.Param p.class p.member p.alt p.slot
site_by kind.Node p = site.Node p.class p.member p.alt p.slot

abbrev site_of : SiteParts → Site
site_of p = site_by p.kind p

site_back : (s : Site) → site_of (parts_of s) ≡ s
site_back site.Model = refl
site_back (site.Class c) = refl
site_back (site.Field c f alt) = refl
site_back (site.Ctor c) = refl
site_back (site.CtorParam c i) = refl
site_back (site.SuperArg c i) = refl
site_back (site.Assign c i) = refl
site_back (site.Method c m alt) = refl
site_back (site.Param c m alt i) = refl
site_back (site.Node c m alt n) = refl

abbrev pair_of : SiteParts × Rule → Pair
pair_of x = (site_of x.0, x.1)

pair_back : (p : Pair) → pair_of (pair_parts p) ≡ p
pair_back p = ap (λ s. (s, p.1)) (site_back p.0)

pub same_pair : (p q : Pair) → pair_parts p ≡ pair_parts q → p ≡ q
same_pair p q e = sym (pair_back p) ∙ ap pair_of e ∙ pair_back q
