-- What follows a tree's tokens, or its roles, stands behind them.
use Rattle.std.proofs.Common.{◌≡◌, Bool, true, false, List, [], ◌∷◌, ◌++◌, ℕ, ◌+◌, refl, sym, ap, ◌∙◌}
use Rattle.cfj_words.specs.Tokens.{Token, Id, ClassWord, ExtendsWord, SuperWord, ThisWord, ReturnWord, OpenBrace, CloseBrace, OpenParen, CloseParen, Semicolon, Comma, Dot, Equals, At}
use Rattle.cfj_model.specs.Grammar.{Declared, Named, MethodTree, ClassTree, Tree, constraint_word, features_word, spell_name, spell_format, spell_features, spell_field, spell_param, spell_sent, spell_assign, spell_ctor, spell_method, spell_constraint, spell_class, spell}
use Rattle.cfj_model.specs.declared.feature_model.Format.{Format}
use Rattle.cfj_model.specs.declared.feature_model.Format.TheVariants.{One, Two}
use Rattle.cfj_model.specs.declared.signed.Signed.{Signed}
use Rattle.cfj_model.specs.Languages.{projects, single_classes}
use Rattle.cfj_model.specs.ExpressionGrammar.{spell_expr, roles_expr}
use Rattle.cfj_model.specs.FormulaGrammar.{IffTree, one_implies, iff, ImpliesTree, one_or, implies, OrTree, one_and, or, AndTree, one_unary, and, UnaryTree, negated, named, true_word, false_word, bracketed, roles_iff, roles_implies, roles_or, roles_and, roles_unary}
use Rattle.formula_reader.proofs.Texts.{spell_iff_append, roles_iff_append}
use Rattle.expression_reader.proofs.Composing as expression
use Rattle.cfj_model.specs.Marks.{in_order, each_behind, separated, spell_sign, spell_mark, spell_marks, roles_sign, roles_mark, roles_marks}
use Rattle.cfj_model.specs.Roles.{Role, mark_name, feature_name, class_name, field_name, method_name, param_name, method_param_name, sent_name, assigned_name, used_name, formula_node, formula_opens, other_token, are_settled}
use Rattle.cfj_model.specs.TreeRoles.{roles_format, roles_feature, roles_features, roles_field, roles_param, roles_method_param, roles_sent, roles_assign, roles_ctor, roles_method, roles_constraint, roles_class, roles}
use Rattle.fj_parser.specs.Laws.{IsPlainLanguage}

-- ---- lists of parts

-- what follows a part stands behind it
abbrev IsBefore : {A B : Type 0} → (A → List B → List B) → Type 0
IsBefore {A} {B} f = (x : A) (a b : List B) → f x (a ++ b) ≡ f x a ++ b

in_order_before : {A B : Type 0} (f : A → List B → List B) → IsBefore f → (xs : List A) (a b : List B) → in_order f xs (a ++ b) ≡ in_order f xs a ++ b
in_order_before f h [] a b = refl
in_order_before f h (x ∷ xs) a b = ap (f x) (in_order_before f h xs a b) ∙ h x (in_order f xs a) b

each_behind_before : {A B : Type 0} (comma : B) (f : A → List B → List B) → IsBefore f → (xs : List A) (a b : List B) → each_behind comma f xs (a ++ b) ≡ each_behind comma f xs a ++ b
each_behind_before comma f h [] a b = refl
each_behind_before comma f h (x ∷ xs) a b = ap (λ ys. comma ∷ ys) (ap (f x) (each_behind_before comma f h xs a b) ∙ h x (each_behind comma f xs a) b)

separated_before : {A B : Type 0} (comma : B) (f : A → List B → List B) → IsBefore f → (xs : List A) (a b : List B) → separated comma f xs (a ++ b) ≡ separated comma f xs a ++ b
separated_before comma f h [] a b = refl
separated_before comma f h (x ∷ xs) a b = ap (f x) (each_behind_before comma f h xs a b) ∙ h x (each_behind comma f xs a) b

-- ---- tokens

features_before : (fs : List (List ℕ)) (a b : List Token) → spell_features fs (a ++ b) ≡ spell_features fs a ++ b
features_before [] a b = refl
features_before (f ∷ fs) a b = ap (λ ts. Id features_word ∷ (Id f ∷ ts)) (each_behind_before Comma spell_name (λ w x y. refl) fs (Semicolon ∷ a) b)

format_before : (format : Format) (a b : List Token) → spell_format format (a ++ b) ≡ spell_format format a ++ b
format_before One a b = refl
format_before Two a b = refl

sign_before : (off : Bool) (a b : List Token) → spell_sign off (a ++ b) ≡ spell_sign off a ++ b
sign_before false a b = refl
sign_before true a b = refl

marks_before : (ms : List Signed) (a b : List Token) → spell_marks ms (a ++ b) ≡ spell_marks ms a ++ b
marks_before = in_order_before spell_mark (λ m a b. ap (λ ts. At ∷ ts) (sign_before m.off (Id m.name ∷ a) b))

pub field_before : (d : Declared) (a b : List Token) → spell_field d (a ++ b) ≡ spell_field d a ++ b
field_before d a b = marks_before d.marks (Id d.of ∷ (Id d.name ∷ (Semicolon ∷ a))) b

param_before : (d : Declared) (a b : List Token) → spell_param d (a ++ b) ≡ spell_param d a ++ b
param_before d a b = marks_before d.marks (Id d.of ∷ (Id d.name ∷ a)) b

sent_before : (s : Named) (a b : List Token) → spell_sent s (a ++ b) ≡ spell_sent s a ++ b
sent_before s a b = marks_before s.marks (Id s.name ∷ a) b

assign_before : (s : Named) (a b : List Token) → spell_assign s (a ++ b) ≡ spell_assign s a ++ b
assign_before s a b = marks_before s.marks (ThisWord ∷ (Dot ∷ (Id s.name ∷ (Equals ∷ (Id s.name ∷ (Semicolon ∷ a)))))) b

assigns_before : (k : ClassTree) (a b : List Token) → in_order spell_assign k.assigns (CloseBrace ∷ (a ++ b)) ≡ in_order spell_assign k.assigns (CloseBrace ∷ a) ++ b
assigns_before k a b = in_order_before spell_assign assign_before k.assigns (CloseBrace ∷ a) b

sends_before : (k : ClassTree) (a b : List Token) → separated Comma spell_sent k.sends (CloseParen ∷ (Semicolon ∷ (a ++ b))) ≡ separated Comma spell_sent k.sends (CloseParen ∷ (Semicolon ∷ a)) ++ b
sends_before k a b = separated_before Comma spell_sent sent_before k.sends (CloseParen ∷ (Semicolon ∷ a)) b

abbrev body : ClassTree → List Token → List Token
body k rest = OpenBrace ∷ (SuperWord ∷ (OpenParen ∷ separated Comma spell_sent k.sends (CloseParen ∷ (Semicolon ∷ in_order spell_assign k.assigns (CloseBrace ∷ rest)))))

body_before : (k : ClassTree) (a b : List Token) → body k (a ++ b) ≡ body k a ++ b
body_before k a b =
    ap (λ ts. OpenBrace ∷ (SuperWord ∷ (OpenParen ∷ ts)))
    (ap (λ ts. separated Comma spell_sent k.sends (CloseParen ∷ (Semicolon ∷ ts))) (assigns_before k a b)
    ∙ sends_before k (in_order spell_assign k.assigns (CloseBrace ∷ a)) b)

pub ctor_before : (k : ClassTree) (a b : List Token) → spell_ctor k (a ++ b) ≡ spell_ctor k a ++ b
ctor_before k a b =
    ap (λ ts. Id k.name ∷ (OpenParen ∷ ts))
    (ap (λ ts. separated Comma spell_param k.params (CloseParen ∷ ts)) (body_before k a b)
    ∙ separated_before Comma spell_param param_before k.params (CloseParen ∷ body k a) b)

-- a method behind its parameters, and behind its marks
abbrev pub returned : MethodTree → List Token → List Token
returned m rest = OpenBrace ∷ (ReturnWord ∷ spell_expr m.body (Semicolon ∷ (CloseBrace ∷ rest)))

abbrev method_words : MethodTree → List Token → List Token
method_words m rest = Id m.result ∷ (Id m.name ∷ (OpenParen ∷ separated Comma spell_param m.params (CloseParen ∷ returned m rest)))

returned_before : (m : MethodTree) (a b : List Token) → returned m (a ++ b) ≡ returned m a ++ b
returned_before m a b = ap (λ ts. OpenBrace ∷ (ReturnWord ∷ ts)) (sym (expression.spell_before m.body (Semicolon ∷ (CloseBrace ∷ a)) b))

pub method_rest_before : (m : MethodTree) (a b : List Token) → separated Comma spell_param m.params (CloseParen ∷ returned m (a ++ b)) ≡ separated Comma spell_param m.params (CloseParen ∷ returned m a) ++ b
method_rest_before m a b = ap (λ ts. separated Comma spell_param m.params (CloseParen ∷ ts)) (returned_before m a b) ∙ separated_before Comma spell_param param_before m.params (CloseParen ∷ returned m a) b

pub method_before : (m : MethodTree) (a b : List Token) → spell_method m (a ++ b) ≡ spell_method m a ++ b
method_before m a b =
    ap (λ ts. spell_marks m.marks (Id m.result ∷ (Id m.name ∷ (OpenParen ∷ ts)))) (method_rest_before m a b)
    ∙ marks_before m.marks (method_words m a) b

-- the members of a class, and its brace
abbrev members : ClassTree → List Token → List Token
members k rest = in_order spell_field k.fields (spell_ctor k (in_order spell_method k.methods (CloseBrace ∷ rest)))

members_before : (k : ClassTree) (a b : List Token) → members k (a ++ b) ≡ members k a ++ b
members_before k a b =
    ap (λ ts. in_order spell_field k.fields (spell_ctor k ts)) (in_order_before spell_method method_before k.methods (CloseBrace ∷ a) b)
    ∙ ap (in_order spell_field k.fields) (ctor_before k (in_order spell_method k.methods (CloseBrace ∷ a)) b)
    ∙ in_order_before spell_field field_before k.fields (spell_ctor k (in_order spell_method k.methods (CloseBrace ∷ a))) b

abbrev head : ClassTree → List Token → List Token
head k rest = ClassWord ∷ (Id k.name ∷ (ExtendsWord ∷ (Id k.parent ∷ (OpenBrace ∷ rest))))

class_before : (k : ClassTree) (a b : List Token) → spell_class k (a ++ b) ≡ spell_class k a ++ b
class_before k a b = ap (λ ts. spell_marks k.marks (head k ts)) (members_before k a b) ∙ marks_before k.marks (head k (members k a)) b

constraint_before : (x : IffTree) (a b : List Token) → spell_constraint x (a ++ b) ≡ spell_constraint x a ++ b
constraint_before x a b = ap (λ ts. Id constraint_word ∷ ts) (sym (spell_iff_append x (Semicolon ∷ a) b))

-- What follows a tree's tokens stands behind them.
spell_before : (x : Tree) (a b : List Token) → spell x (a ++ b) ≡ spell x a ++ b
spell_before x a b =
    let constraints : List Token → List Token = in_order spell_constraint x.constraints in
    ap (spell_format x.format)
    (ap (λ ts. spell_features x.features (constraints ts)) (in_order_before spell_class class_before x.classes a b)
    ∙ ap (spell_features x.features) (in_order_before spell_constraint constraint_before x.constraints (in_order spell_class x.classes a) b)
    ∙ features_before x.features (constraints (in_order spell_class x.classes a)) b)
    ∙ format_before x.format (spell_features x.features (constraints (in_order spell_class x.classes a))) b

-- ---- roles

feature_roles_before : (fs : List (List ℕ)) (a b : List Role) → roles_features fs (a ++ b) ≡ roles_features fs a ++ b
feature_roles_before [] a b = refl
feature_roles_before (f ∷ fs) a b = ap (λ rs. used_name features_word ∷ (feature_name f ∷ rs)) (each_behind_before other_token roles_feature (λ w x y. refl) fs (other_token ∷ a) b)

format_roles_before : (format : Format) (a b : List Role) → roles_format format (a ++ b) ≡ roles_format format a ++ b
format_roles_before One a b = refl
format_roles_before Two a b = refl

sign_roles_before : (off : Bool) (a b : List Role) → roles_sign off (a ++ b) ≡ roles_sign off a ++ b
sign_roles_before false a b = refl
sign_roles_before true a b = refl

pub mark_roles_before : (ms : List Signed) (a b : List Role) → roles_marks ms (a ++ b) ≡ roles_marks ms a ++ b
mark_roles_before = in_order_before roles_mark (λ m a b. ap (λ rs. other_token ∷ rs) (sign_roles_before m.off (mark_name m.name ∷ a) b))

pub field_roles_before : (d : Declared) (a b : List Role) → roles_field d (a ++ b) ≡ roles_field d a ++ b
field_roles_before d a b = mark_roles_before d.marks (used_name d.of ∷ (field_name d.name ∷ (other_token ∷ a))) b

param_roles_before : (d : Declared) (a b : List Role) → roles_param d (a ++ b) ≡ roles_param d a ++ b
param_roles_before d a b = mark_roles_before d.marks (used_name d.of ∷ (param_name d.name ∷ a)) b

sent_roles_before : (s : Named) (a b : List Role) → roles_sent s (a ++ b) ≡ roles_sent s a ++ b
sent_roles_before s a b = mark_roles_before s.marks (sent_name s.name ∷ a) b

assign_roles_before : (s : Named) (a b : List Role) → roles_assign s (a ++ b) ≡ roles_assign s a ++ b
assign_roles_before s a b = mark_roles_before s.marks (other_token ∷ (other_token ∷ (assigned_name s.name ∷ (other_token ∷ (used_name s.name ∷ (other_token ∷ a)))))) b

abbrev body_roles : ClassTree → List Role → List Role
body_roles k rest = other_token ∷ (other_token ∷ (other_token ∷ separated other_token roles_sent k.sends (other_token ∷ (other_token ∷ in_order roles_assign k.assigns (other_token ∷ rest)))))

body_roles_before : (k : ClassTree) (a b : List Role) → body_roles k (a ++ b) ≡ body_roles k a ++ b
body_roles_before k a b =
    ap (λ rs. other_token ∷ (other_token ∷ (other_token ∷ rs)))
    (ap (λ rs. separated other_token roles_sent k.sends (other_token ∷ (other_token ∷ rs))) (in_order_before roles_assign assign_roles_before k.assigns (other_token ∷ a) b)
    ∙ separated_before other_token roles_sent sent_roles_before k.sends (other_token ∷ (other_token ∷ in_order roles_assign k.assigns (other_token ∷ a))) b)

pub ctor_roles_before : (k : ClassTree) (a b : List Role) → roles_ctor k (a ++ b) ≡ roles_ctor k a ++ b
ctor_roles_before k a b =
    ap (λ rs. used_name k.name ∷ (other_token ∷ rs))
    (ap (λ rs. separated other_token roles_param k.params (other_token ∷ rs)) (body_roles_before k a b)
    ∙ separated_before other_token roles_param param_roles_before k.params (other_token ∷ body_roles k a) b)

method_param_roles_before : (d : Declared) (a b : List Role) → roles_method_param d (a ++ b) ≡ roles_method_param d a ++ b
method_param_roles_before d a b = mark_roles_before d.marks (used_name d.of ∷ (method_param_name d.name ∷ a)) b

abbrev pub returned_roles : MethodTree → List Role → List Role
returned_roles m rest = other_token ∷ (other_token ∷ roles_expr 0 m.body (other_token ∷ (other_token ∷ rest)))

abbrev method_word_roles : MethodTree → List Role → List Role
method_word_roles m rest = used_name m.result ∷ (method_name m.name ∷ (other_token ∷ separated other_token roles_method_param m.params (other_token ∷ returned_roles m rest)))

returned_roles_before : (m : MethodTree) (a b : List Role) → returned_roles m (a ++ b) ≡ returned_roles m a ++ b
returned_roles_before m a b = ap (λ rs. other_token ∷ (other_token ∷ rs)) (sym (expression.roles_before 0 m.body (other_token ∷ (other_token ∷ a)) b))

pub method_rest_roles_before : (m : MethodTree) (a b : List Role) → separated other_token roles_method_param m.params (other_token ∷ returned_roles m (a ++ b)) ≡ separated other_token roles_method_param m.params (other_token ∷ returned_roles m a) ++ b
method_rest_roles_before m a b = ap (λ rs. separated other_token roles_method_param m.params (other_token ∷ rs)) (returned_roles_before m a b) ∙ separated_before other_token roles_method_param method_param_roles_before m.params (other_token ∷ returned_roles m a) b

pub method_roles_before : (m : MethodTree) (a b : List Role) → roles_method m (a ++ b) ≡ roles_method m a ++ b
method_roles_before m a b =
    ap (λ rs. roles_marks m.marks (used_name m.result ∷ (method_name m.name ∷ (other_token ∷ rs)))) (method_rest_roles_before m a b)
    ∙ mark_roles_before m.marks (method_word_roles m a) b

abbrev member_roles : ClassTree → List Role → List Role
member_roles k rest = in_order roles_field k.fields (roles_ctor k (in_order roles_method k.methods (other_token ∷ rest)))

member_roles_before : (k : ClassTree) (a b : List Role) → member_roles k (a ++ b) ≡ member_roles k a ++ b
member_roles_before k a b =
    ap (λ rs. in_order roles_field k.fields (roles_ctor k rs)) (in_order_before roles_method method_roles_before k.methods (other_token ∷ a) b)
    ∙ ap (in_order roles_field k.fields) (ctor_roles_before k (in_order roles_method k.methods (other_token ∷ a)) b)
    ∙ in_order_before roles_field field_roles_before k.fields (roles_ctor k (in_order roles_method k.methods (other_token ∷ a))) b

abbrev head_roles : ClassTree → List Role → List Role
head_roles k rest = other_token ∷ (class_name k.name ∷ (other_token ∷ (used_name k.parent ∷ (other_token ∷ rest))))

class_roles_before : (k : ClassTree) (a b : List Role) → roles_class k (a ++ b) ≡ roles_class k a ++ b
class_roles_before k a b = ap (λ rs. roles_marks k.marks (head_roles k rs)) (member_roles_before k a b) ∙ mark_roles_before k.marks (head_roles k (member_roles k a)) b

constraint_roles_before : (x : IffTree) (a b : List Role) → roles_constraint x (a ++ b) ≡ roles_constraint x a ++ b
constraint_roles_before x a b = ap (λ rs. used_name constraint_word ∷ rs) (sym (roles_iff_append 0 x (other_token ∷ a) b))

-- What follows a tree's roles stands behind them.
roles_before : (x : Tree) (a b : List Role) → roles x (a ++ b) ≡ roles x a ++ b
roles_before x a b =
    let constraints : List Role → List Role = in_order roles_constraint x.constraints in
    ap (roles_format x.format)
    (ap (λ rs. roles_features x.features (constraints rs)) (in_order_before roles_class class_roles_before x.classes a b)
    ∙ ap (roles_features x.features) (in_order_before roles_constraint constraint_roles_before x.constraints (in_order roles_class x.classes a) b)
    ∙ feature_roles_before x.features (constraints (in_order roles_class x.classes a)) b)
    ∙ format_roles_before x.format (roles_features x.features (constraints (in_order roles_class x.classes a))) b

-- ---- settled roles

-- A part is settled where what follows is.
abbrev AreSettled : {A : Type 0} → (A → List Role → List Role) → Type 0
AreSettled {A} f = (x : A) (rest : List Role) → are_settled rest ≡ true → are_settled (f x rest) ≡ true

in_order_settled : {A : Type 0} (f : A → List Role → List Role) → AreSettled f → (xs : List A) (rest : List Role) → are_settled rest ≡ true → are_settled (in_order f xs rest) ≡ true
in_order_settled f h [] rest e = e
in_order_settled f h (x ∷ xs) rest e = h x (in_order f xs rest) (in_order_settled f h xs rest e)

each_behind_settled : {A : Type 0} (f : A → List Role → List Role) → AreSettled f → (xs : List A) (rest : List Role) → are_settled rest ≡ true → are_settled (each_behind other_token f xs rest) ≡ true
each_behind_settled f h [] rest e = e
each_behind_settled f h (x ∷ xs) rest e = h x (each_behind other_token f xs rest) (each_behind_settled f h xs rest e)

separated_settled : {A : Type 0} (f : A → List Role → List Role) → AreSettled f → (xs : List A) (rest : List Role) → are_settled rest ≡ true → are_settled (separated other_token f xs rest) ≡ true
separated_settled f h [] rest e = e
separated_settled f h (x ∷ xs) rest e = h x (each_behind other_token f xs rest) (each_behind_settled f h xs rest e)

features_settled : (fs : List (List ℕ)) (rest : List Role) → are_settled rest ≡ true → are_settled (roles_features fs rest) ≡ true
features_settled [] rest e = e
features_settled (f ∷ fs) rest e = each_behind_settled roles_feature (λ w rs r. r) fs (other_token ∷ rest) e

format_settled : (format : Format) (rest : List Role) → are_settled rest ≡ true → are_settled (roles_format format rest) ≡ true
format_settled One rest e = e
format_settled Two rest e = e

sign_settled : (off : Bool) (rest : List Role) → are_settled rest ≡ true → are_settled (roles_sign off rest) ≡ true
sign_settled false rest e = e
sign_settled true rest e = e

pub marks_settled : (ms : List Signed) (rest : List Role) → are_settled rest ≡ true → are_settled (roles_marks ms rest) ≡ true
marks_settled = in_order_settled roles_mark (λ m rs r. sign_settled m.off (mark_name m.name ∷ rs) r)

pub field_settled : (d : Declared) (rest : List Role) → are_settled rest ≡ true → are_settled (roles_field d rest) ≡ true
field_settled d rest e = marks_settled d.marks (used_name d.of ∷ (field_name d.name ∷ (other_token ∷ rest))) e

param_settled : (d : Declared) (rest : List Role) → are_settled rest ≡ true → are_settled (roles_param d rest) ≡ true
param_settled d rest e = marks_settled d.marks (used_name d.of ∷ (param_name d.name ∷ rest)) e

method_param_settled : (d : Declared) (rest : List Role) → are_settled rest ≡ true → are_settled (roles_method_param d rest) ≡ true
method_param_settled d rest e = marks_settled d.marks (used_name d.of ∷ (method_param_name d.name ∷ rest)) e

sent_settled : (s : Named) (rest : List Role) → are_settled rest ≡ true → are_settled (roles_sent s rest) ≡ true
sent_settled s rest e = marks_settled s.marks (sent_name s.name ∷ rest) e

assign_settled : (s : Named) (rest : List Role) → are_settled rest ≡ true → are_settled (roles_assign s rest) ≡ true
assign_settled s rest e = marks_settled s.marks (other_token ∷ (other_token ∷ (assigned_name s.name ∷ (other_token ∷ (used_name s.name ∷ (other_token ∷ rest)))))) e

pub ctor_settled : (k : ClassTree) (rest : List Role) → are_settled rest ≡ true → are_settled (roles_ctor k rest) ≡ true
ctor_settled k rest e =
    separated_settled roles_param param_settled k.params (other_token ∷ body_roles k rest)
    (separated_settled roles_sent sent_settled k.sends (other_token ∷ (other_token ∷ in_order roles_assign k.assigns (other_token ∷ rest)))
    (in_order_settled roles_assign assign_settled k.assigns (other_token ∷ rest) e))

pub method_settled : (m : MethodTree) (rest : List Role) → are_settled rest ≡ true → are_settled (roles_method m rest) ≡ true
method_settled m rest e =
    marks_settled m.marks (method_word_roles m rest)
    (separated_settled roles_method_param method_param_settled m.params (other_token ∷ returned_roles m rest) (expression.roles_settled 0 m.body (other_token ∷ (other_token ∷ rest)) e))

class_settled : (k : ClassTree) (rest : List Role) → are_settled rest ≡ true → are_settled (roles_class k rest) ≡ true
class_settled k rest e =
    marks_settled k.marks (head_roles k (member_roles k rest))
    (in_order_settled roles_field field_settled k.fields (roles_ctor k (in_order roles_method k.methods (other_token ∷ rest)))
    (ctor_settled k (in_order roles_method k.methods (other_token ∷ rest)) (in_order_settled roles_method method_settled k.methods (other_token ∷ rest) e)))

-- A formula has no cast.
mutual
  iff_settled : (d : ℕ) (x : IffTree) (rest : List Role) → are_settled (roles_iff d x rest) ≡ are_settled rest
  iff_settled d (one_implies x) rest = implies_settled d x rest
  iff_settled d (iff x y) rest = iff_settled d x (formula_node ∷ roles_implies d y rest) ∙ implies_settled d y rest

  implies_settled : (d : ℕ) (x : ImpliesTree) (rest : List Role) → are_settled (roles_implies d x rest) ≡ are_settled rest
  implies_settled d (one_or x) rest = or_settled d x rest
  implies_settled d (implies x y) rest = or_settled d x (formula_opens (d + 1) ∷ roles_implies (d + 1) y rest) ∙ implies_settled (d + 1) y rest

  or_settled : (d : ℕ) (x : OrTree) (rest : List Role) → are_settled (roles_or d x rest) ≡ are_settled rest
  or_settled d (one_and x) rest = and_settled d x rest
  or_settled d (or x y) rest = or_settled d x (formula_node ∷ roles_and d y rest) ∙ and_settled d y rest

  and_settled : (d : ℕ) (x : AndTree) (rest : List Role) → are_settled (roles_and d x rest) ≡ are_settled rest
  and_settled d (one_unary x) rest = unary_settled d x rest
  and_settled d (and x y) rest = and_settled d x (formula_node ∷ roles_unary d y rest) ∙ unary_settled d y rest

  unary_settled : (d : ℕ) (x : UnaryTree) (rest : List Role) → are_settled (roles_unary d x rest) ≡ are_settled rest
  unary_settled d (negated x) rest = unary_settled (d + 1) x rest
  unary_settled d (named w) rest = refl
  unary_settled d true_word rest = refl
  unary_settled d false_word rest = refl
  unary_settled d (bracketed x) rest = iff_settled (d + 1) x (other_token ∷ rest)

constraint_settled : (x : IffTree) (rest : List Role) → are_settled rest ≡ true → are_settled (roles_constraint x rest) ≡ true
constraint_settled x rest e = iff_settled 0 x (other_token ∷ rest) ∙ e

-- A tree's roles are settled.
roles_settled : (x : Tree) → are_settled (roles x []) ≡ true
roles_settled x =
    format_settled x.format (roles_features x.features (in_order roles_constraint x.constraints (in_order roles_class x.classes [])))
    (features_settled x.features (in_order roles_constraint x.constraints (in_order roles_class x.classes []))
    (in_order_settled roles_constraint constraint_settled x.constraints (in_order roles_class x.classes []) (in_order_settled roles_class class_settled x.classes [] refl)))

pub grammar_is_plain : IsPlainLanguage projects
grammar_is_plain = record { spells = spell_before; gives = roles_before; settled = roles_settled }

-- The same holds of single classes.
pub class_grammar_is_plain : (format : Format) (features : List (List ℕ)) → IsPlainLanguage (single_classes format features)
class_grammar_is_plain format features = record { spells = class_before; gives = class_roles_before; settled = λ k. class_settled k [] refl }
