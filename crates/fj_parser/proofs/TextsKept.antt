-- A text stands for what a project's type keeps.
use Rattle.std.proofs.Common.{◌≡◌, ℕ, true, List, [], refl, sym, subst, nat_le}
use Rattle.std.specs.Str.{chars}
use Rattle.std.proofs.lemmas.Bool.{and_parts}
use Rattle.cfj_model.specs.declared.class.Class.{Class}
use Rattle.cfj_model.specs.declared.class.Constructor.{Constructor}
use Rattle.cfj_model.specs.declared.expr.Expr.{Expr}
use Rattle.cfj_model.specs.declared.feature_model.FeatureModel.{FeatureModel}
use Rattle.cfj_model.specs.declared.member.Member.{Member}
use Rattle.cfj_model.specs.Coloring.{Palette}
use Rattle.cfj_model.specs.declared.feature_model.Format.{Format}
use Rattle.expression_reader.proofs.KnownColors.{palette_over}
use Rattle.cfj_model.specs.Expressions.{slots}
use Rattle.cfj_model.specs.Languages.{Language, IsTextOf, projects, single_classes}
use Rattle.cfj_model.specs.Grammar.{spell, spell_class}
use Rattle.cfj_model.specs.Numbered.{run_from, is_numbered_ctor}
use Rattle.cfj_model.specs.ProductLines.{ProductLine, IsProject, is_body, is_class, is_ctor, class_size, most_size}
use Rattle.cfj_model.specs.Roles.{nothing}
use Rattle.cfj_words.specs.Names.{is_identifier, is_short_identifier}
use Rattle.fj_symbols.specs.Views.{are_read}
use Rattle.cfj_model.proofs.Numbering.{body_numbered, ctor_numbered, method_numbered}
use Rattle.cfj_model.specs.PartLanguages.{MemberTree, a_field, a_method, constructors, expressions, in_class, models, names, value_member}
use Rattle.cfj_model.specs.Parts.{IsModel, is_member, is_numbered_member}
use Rattle.cfj_model.specs.PartLanguages.{members_wanted}
use Rattle.cfj_model.specs.declared.want.Want.{Want}
use Rattle.cfj_model.specs.declared.want.Want.TheVariants.{Any, Field, Method}
use Rattle.fj_parser.proofs.Kept.{kept, kept_class}
use Rattle.fj_parser.proofs.KeptExpressions.{kept_expression}
use Rattle.fj_parser.proofs.KeptNames.{used_short}
use Rattle.fj_parser.proofs.KeptParts.{kept_ctor, kept_field, kept_member, kept_method, kept_model}
use Rattle.fj_parser.proofs.Texts.{takes_read, scalars_of}

pub text_kept : (text : List ℕ) (line : ProductLine) → IsTextOf projects text line → IsProject line
text_kept text line h =
    subst IsProject (sym h.valued) (kept h.tree h.within (takes_read (chars text) (spell h.tree []) h.rest (scalars_of text h.utf8) h.spelled))

-- And so does the text of a class by itself: one that a project keeps, and that fits.
pub class_text_kept : (format : Format) (features : List (List ℕ)) (text : List ℕ) (k : Class) → IsTextOf (single_classes format features) text k → (is_class (palette_over format features) k ≡ true) × (nat_le (class_size k) most_size ≡ true)
class_text_kept format features text k h =
    subst (λ c. (is_class (palette_over format features) c ≡ true) × (nat_le (class_size c) most_size ≡ true)) (sym h.valued)
    (kept_class format features h.tree h.within (takes_read (chars text) (spell_class h.tree []) h.rest (scalars_of text h.utf8) h.spelled))

-- ---- parts

-- the tokens of a text are read
tokens_read : {V : Type 0} (l : Language V) (text : List ℕ) (v : V) → (h : IsTextOf l text v) → are_read (l.spell h.tree []) ≡ true
tokens_read l text v h = takes_read (chars text) (l.spell h.tree []) h.rest (scalars_of text h.utf8) h.spelled

pub model_text_kept : (text : List ℕ) (m : FeatureModel) → IsTextOf models text m → IsModel m
model_text_kept text m h = subst IsModel (sym h.valued) (kept_model h.tree h.within (tokens_read models text m h))

pub name_text_kept : (text w : List ℕ) → IsTextOf names text w → is_short_identifier w ≡ true
name_text_kept text w h = subst (λ x. is_short_identifier x ≡ true) (sym h.valued) (used_short h.tree nothing (and_parts (is_identifier h.tree) true (tokens_read names text w h)).0 h.within.0)

pub ctor_text_kept : (format : Format) (features : List (List ℕ)) (class text : List ℕ) (c : Constructor) → IsTextOf (constructors format features class) text c → is_ctor (palette_over format features) c ≡ true
ctor_text_kept format features class text c h =
    subst (λ x. is_ctor (palette_over format features) x ≡ true) (sym h.valued) (kept_ctor format features class h.tree h.within (tokens_read (constructors format features class) text c h))

pub member_text_kept : (want : Want) (format : Format) (features : List (List ℕ)) (text : List ℕ) (m : Member) → IsTextOf (members_wanted want format features) text m → is_member (palette_over format features) m ≡ true
member_text_kept Any format features text m h =
    subst (λ x. is_member (palette_over format features) x ≡ true) (sym h.valued) (kept_member format features h.tree h.within (tokens_read (members_wanted Any format features) text m h))
member_text_kept Field format features text m h =
    subst (λ x. is_member (palette_over format features) x ≡ true) (sym h.valued) (kept_field format features h.tree h.within (tokens_read (members_wanted Field format features) text m h))
member_text_kept Method format features text m h =
    subst (λ x. is_member (palette_over format features) x ≡ true) (sym h.valued) (kept_method format features h.tree h.within (tokens_read (members_wanted Method format features) text m h))

pub expression_text_kept : (text : List ℕ) (x : Expr) → IsTextOf expressions text x → (p : Palette) → is_body p x ≡ true
expression_text_kept text x h p =
    subst (λ y. is_body p y ≡ true) (sym h.valued) (kept_expression h.tree.tree h.tree.unmarked h.within (tokens_read expressions text x h) p)

-- ---- and it is numbered

pub ctor_text_numbered : (format : Format) (features : List (List ℕ)) (class text : List ℕ) (c : Constructor) → IsTextOf (constructors format features class) text c → is_numbered_ctor c ≡ true
ctor_text_numbered format features class text c h = subst (λ x. is_numbered_ctor x ≡ true) (sym h.valued) (ctor_numbered features (in_class class h.tree))

member_numbered : (features : List (List ℕ)) (x : MemberTree) → is_numbered_member (value_member features x) ≡ true
member_numbered features (a_field d) = refl
member_numbered features (a_method m) = method_numbered features m

pub member_text_numbered : (want : Want) (format : Format) (features : List (List ℕ)) (text : List ℕ) (m : Member) → IsTextOf (members_wanted want format features) text m → is_numbered_member m ≡ true
member_text_numbered Any format features text m h = subst (λ x. is_numbered_member x ≡ true) (sym h.valued) (member_numbered features h.tree)
member_text_numbered Field format features text m h = subst (λ x. is_numbered_member x ≡ true) (sym h.valued) (member_numbered features (a_field h.tree))
member_text_numbered Method format features text m h = subst (λ x. is_numbered_member x ≡ true) (sym h.valued) (member_numbered features (a_method h.tree))

pub expression_text_numbered : (text : List ℕ) (x : Expr) → IsTextOf expressions text x → run_from 0 (slots x) ≡ true
expression_text_numbered text x h = subst (λ y. run_from 0 (slots y) ≡ true) (sym h.valued) (body_numbered [] h.tree.tree)
