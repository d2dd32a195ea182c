-- What is in hand behind the end of a part's text.
use Rattle.std.proofs.Common.{◌≡◌, ℕ, ◌+◌, List, [], ◌∷◌, length, sym, ap, ◌∙◌, arith}
use Rattle.cfj_model.specs.declared.class.Class.{Class}
use Rattle.cfj_model.specs.declared.class.Field.{Field}
use Rattle.cfj_model.specs.declared.class.Method.{Method}
use Rattle.cfj_model.specs.declared.member.Member.{Member}
use Rattle.cfj_model.specs.declared.member.Member.TheVariants as member
use Rattle.cfj_model.specs.declared.feature_model.Format.{Format}
use Rattle.cfj_model.specs.declared.feature_model.Format.TheVariants.{One}
use Rattle.fj_parser.specs.Ending.{IsReadTo}
use Rattle.fj_parser.specs.GoalViews.{met_of, reader_of, IsPart}
use Rattle.fj_machine.specs.Machine.{State, unnamed}
use Rattle.fj_parser.specs.declared.goal.Goal.TheVariants as goal
use Rattle.fj_parser.specs.declared.part.Part.{Part}
use Rattle.fj_parser.proofs.ClassLaw.{class_laws, class_stands}
use Rattle.fj_parser.proofs.ExpressionLaw.{expression_laws, expression_stands}
use Rattle.fj_parser.proofs.FieldLaw.{field_laws, field_stands}
use Rattle.fj_parser.proofs.MemberLaw.{member_laws, member_stands, IsMember, as_field, as_method}
use Rattle.fj_parser.proofs.MethodLaw.{method_laws, method_stands}
use Rattle.fj_parser.proofs.PartTexts.{read_by_goal}

-- the one item of a list
pub one_item : {A : Type 0} (xs : List A) (x y : A) → xs ≡ x ∷ [] → xs ≡ y ∷ [] → x ≡ y
one_item xs x y p q = cc (p, q)

pub one_class : (p : Part) (format : Format) (features : List (List ℕ)) → IsPart p goal.Class format features unnamed → (text : List ℕ) (n : State) → IsReadTo (met_of p) (reader_of p) text n → (k : Class) × (n.classes ≡ k ∷ []) × ((class_laws format features).stands_for n ≡ k)
one_class p format features is text n r =
    let h = read_by_goal p goal.Class format features unnamed is text n r in
    class_stands format features h.reading.tokens h.s n h.reading.roles h.reading.ran h.accepted.goes

pub one_field : (p : Part) (format : Format) (features : List (List ℕ)) → IsPart p goal.Field format features unnamed → (text : List ℕ) (n : State) → IsReadTo (met_of p) (reader_of p) text n → (f : Field) × (n.fields ≡ f ∷ []) × ((field_laws format features).stands_for n ≡ f)
one_field p format features is text n r =
    let h = read_by_goal p goal.Field format features unnamed is text n r in
    field_stands format features h.reading.tokens h.s n h.reading.roles h.reading.ran h.accepted.goes

pub one_method : (p : Part) (format : Format) (features : List (List ℕ)) → IsPart p goal.Method format features unnamed → (text : List ℕ) (n : State) → IsReadTo (met_of p) (reader_of p) text n → (m : Method) × (n.methods ≡ m ∷ []) × ((method_laws format features).stands_for n ≡ m)
one_method p format features is text n r =
    let h = read_by_goal p goal.Method format features unnamed is text n r in
    method_stands format features h.reading.tokens h.s n h.reading.roles h.reading.ran h.accepted.goes

pub one_member : (p : Part) (format : Format) (features : List (List ℕ)) → IsPart p goal.Member format features unnamed → (text : List ℕ) (n : State) → IsReadTo (met_of p) (reader_of p) text n → IsMember format features n ((member_laws format features).stands_for n)
one_member p format features is text n r =
    let h = read_by_goal p goal.Member format features unnamed is text n r in
    member_stands format features h.reading.tokens h.s n h.reading.roles h.reading.ran h.accepted.goes

pub one_body : (p : Part) → IsPart p goal.Expression One [] unnamed → (text : List ℕ) (n : State) → IsReadTo (met_of p) (reader_of p) text n → (m : Method) × (n.methods ≡ m ∷ []) × (expression_laws.stands_for n ≡ m.body)
one_body p is text n r =
    let h = read_by_goal p goal.Expression One [] unnamed is text n r in
    expression_stands h.reading.tokens h.s n h.reading.roles h.reading.ran h.accepted.goes

-- A member by itself is the one field in hand, or the one method.
pub one_in_all : (format : Format) (features : List (List ℕ)) (n : State) (x : Member) → IsMember format features n x → length n.fields + length n.methods ≡ 1
one_in_all format features n x (as_field f fields methods is) = let a : length n.fields ≡ 1 = ap length fields in let b : length n.methods ≡ 0 = ap length methods in omega arith
one_in_all format features n x (as_method m fields methods is) = let a : length n.fields ≡ 0 = ap length fields in let b : length n.methods ≡ 1 = ap length methods in omega arith

pub the_member : (format : Format) (features : List (List ℕ)) (n : State) (x y : Member) → IsMember format features n x → ((f : Field) → n.fields ≡ f ∷ [] → y ≡ member.Field f) → ((m : Method) → n.fields ≡ [] → n.methods ≡ m ∷ [] → y ≡ member.Method m) → x ≡ y
the_member format features n x y (as_field f fields methods is) field method = is ∙ sym (field f fields)
the_member format features n x y (as_method m fields methods is) field method = is ∙ sym (method m fields methods)
