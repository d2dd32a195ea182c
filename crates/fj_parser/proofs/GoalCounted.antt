-- No more is in hand than what was counted, where a part is read by itself.
use Rattle.std.proofs.Common.{◌≡◌, ℕ, ◌≤◌, Bool, true, false, List, [], ◌∷◌, ◌++◌, length, Option, None, IfSome, refl, sym, ap, subst, ◌∙◌, arith, cond}
use Rattle.std.proofs.lemmas.Bool.{leb-true}
use Rattle.std.specs.Prelude.{nat_le}
use Rattle.std.specs.Str.{bytes_eq}
use Rattle.cfj_model.specs.declared.class.Class.{Class}
use Rattle.cfj_model.specs.declared.class.Field.{Field}
use Rattle.cfj_model.specs.declared.class.Method.{Method}
use Rattle.cfj_model.specs.ProductLines.{most_features}
use Rattle.cfj_model.specs.Roles.{Tally, other_token, tallied, AreWithin}
use Rattle.cfj_words.specs.Tokens.{Token, Id, ClassWord, OpenParen, Semicolon, At, End}
use Rattle.expression_reader.specs.Machine as expression
use Rattle.expression_reader.specs.declared.mode.Mode as reading
use Rattle.expression_reader.specs.declared.mode.Mode.TheVariants as at
use Rattle.fj_parser.specs.Accepting.{IsAccepted}
use Rattle.fj_parser.specs.Counting.{Place, before_class, before_method, before_body, in_body, place_of, in_hand, IsEmptyAt, IsCounted, Counted}
use Rattle.fj_parser.specs.Goals.{start_for, begins_member, ends, class_or_end, field_or_end, method_or_end, member_or_end, step_for, reader_for}
use Rattle.cfj_model.specs.Languages.{with_features}
use Rattle.cfj_model.specs.declared.feature_model.Format.{Format}
use Rattle.fj_machine.specs.Machine.{State, emitted, step_in, token_role}
use Rattle.fj_parser.specs.declared.goal.Goal.{Goal}
use Rattle.fj_parser.specs.declared.goal.Goal.TheVariants as goal
use Rattle.fj_machine.specs.declared.mode.Mode.{Mode}
use Rattle.fj_machine.specs.declared.mode.Mode.TheVariants.{Begin, Start, BetweenClasses, InMembers, AfterType, InMethods, AfterMethodName, InExpression, AfterBody}
use Rattle.fj_parser.proofs.Counted.{body_begun, counted_in}

-- the state that a step reaches, if there is one, has no more in hand than was counted with this token
abbrev CountedBehind : Mode → State → Tally → Token → Option State → Type 0
CountedBehind m s t token o = IfSome o (λ n. Counted n (tallied t (emitted (record s { mode = m }) token)))

-- the end of the text settles nothing that counts
ends_counted : {place : Place} (m : Mode) (s : State) (t : Tally) (token : Token) → IsCounted place (in_hand s) t → IfSome (ends (record s { mode = m }) token) (λ n. Counted n (tallied t (token_role m token ∷ [])))
ends_counted m s t End h = body_begun h
ends_counted m s t _ h = tt

only_if : (b : Bool) (m : Mode) (s : State) (t : Tally) (token : Token) (o : Option State) → CountedBehind m s t token o → CountedBehind m s t token (cond b o None)
only_if true m s t token o h = h
only_if false m s t token o h = tt

class_counted : (ks : List Class) (s : State) (t : Tally) (token : Token) → IsCounted before_class (in_hand s) t → AreWithin t (emitted (record s { mode = BetweenClasses }) token) → CountedBehind BetweenClasses s t token (class_or_end ks (record s { mode = BetweenClasses }) token)
class_counted [] s t End h b = tt
class_counted [] s t token h b = counted_in BetweenClasses s t token h b
class_counted (k ∷ ks) s t token h b = ends_counted BetweenClasses s t token h

-- a member begins in this mode
member_begun : (m : Mode) (s : State) (t : Tally) (token : Token) → IsCounted (place_of m) (in_hand s) t → AreWithin t (emitted (record s { mode = m }) token) → CountedBehind m s t token (begins_member m (record s { mode = m }) token)
member_begun m s t At h b = counted_in m s t At h b
member_begun m s t (Id w) h b = counted_in m s t (Id w) h b
member_begun m s t _ h b = tt

field_counted : (fs : List Field) (s : State) (t : Tally) (token : Token) → IsCounted before_body (in_hand s) t → AreWithin t (emitted (record s { mode = InMembers }) token) → CountedBehind InMembers s t token (field_or_end fs (record s { mode = InMembers }) token)
field_counted [] s t token h b = member_begun InMembers s t token h b
field_counted (f ∷ fs) s t token h b = ends_counted InMembers s t token h

method_counted : (ms : List Method) (s : State) (t : Tally) (token : Token) → IsCounted before_method (in_hand s) t → AreWithin t (emitted (record s { mode = InMethods }) token) → CountedBehind InMethods s t token (method_or_end ms (record s { mode = InMethods }) token)
method_counted [] s t token h b = member_begun InMethods s t token h b
method_counted (m ∷ ms) s t token h b = ends_counted InMethods s t token h

member_counted : (fs : List Field) (ms : List Method) (s : State) (t : Tally) (token : Token) → IsCounted before_method (in_hand s) t → AreWithin t (emitted (record s { mode = InMethods }) token) → CountedBehind InMethods s t token (member_or_end fs ms (record s { mode = InMethods }) token)
member_counted [] ms s t token h b = method_counted ms s t token h b
member_counted (f ∷ fs) ms s t token h b = ends_counted InMethods s t token h

-- The end of the text settles what a semicolon settles.
settled_alike : (m : reading.Mode) (d : ℕ) → expression.settled (expression.settles_in m End) (expression.pending_in m d) ≡ expression.settled (expression.settles_in m Semicolon) (expression.pending_in m d)
settled_alike at.Paren d = refl
settled_alike (at.ParenName w) d = refl
settled_alike (at.ParenClosed w) d = refl
settled_alike _ d = refl

waits_alike : (m : reading.Mode) → expression.waits_in m End ≡ expression.waits_in m Semicolon
waits_alike at.Begin = refl
waits_alike _ = refl

pub end_emits : (s : State) → emitted (record s { mode = InExpression }) End ≡ emitted (record s { mode = InExpression }) Semicolon
end_emits s =
    let m = s.expression.mode in
    ap (λ rs. rs ++ expression.unless (expression.waits_in m End) other_token) (settled_alike m (expression.open_frames s.expression.frames))
    ∙ ap (λ b. expression.settled (expression.settles_in m Semicolon) (expression.pending_in m (expression.open_frames s.expression.frames)) ++ expression.unless b other_token) (waits_alike m)

-- One more token that breaks nothing.
counted_for : (g : Goal) (m : Mode) (s : State) (t : Tally) (token : Token) → IsCounted (place_of m) (in_hand s) t → AreWithin t (emitted (record s { mode = m }) token) → CountedBehind m s t token (step_for g m (record s { mode = m }) token)
counted_for goal.Model Begin s t At h b = tt
counted_for goal.Model Begin s t ClassWord h b = tt
counted_for goal.Model Start s t At h b = tt
counted_for goal.Model Start s t ClassWord h b = tt
counted_for goal.Class BetweenClasses s t token h b = class_counted s.classes s t token h b
counted_for goal.Constructor InMembers s t (Id w) h b = only_if (bytes_eq w s.name) InMembers s t (Id w) (step_in InMembers (record s { mode = InMembers }) (Id w)) (counted_in InMembers s t (Id w) h b)
counted_for goal.Constructor InMembers s t token h b = tt
counted_for goal.Constructor AfterType s t (Id w) h b = tt
counted_for goal.Constructor InMethods s t token h b = ends_counted InMethods s t token h
counted_for goal.Field InMembers s t token h b = field_counted s.fields s t token h b
counted_for goal.Field AfterType s t OpenParen h b = tt
counted_for goal.Method InMethods s t token h b = method_counted s.methods s t token h b
counted_for goal.Member InMethods s t token h b = member_counted s.fields s.methods s t token h b
counted_for goal.Member AfterMethodName s t Semicolon h b = h
counted_for goal.Name InMembers s t At h b = tt
counted_for goal.Name AfterType s t token h b = ends_counted AfterType s t token h
counted_for goal.Expression InExpression s t At h b = tt
counted_for goal.Expression InExpression s t Semicolon h b = tt
counted_for goal.Expression InExpression s t End h b =
    subst (λ rs. IfSome (step_in InExpression (record s { mode = InExpression }) Semicolon) (λ n. Counted n (tallied t rs))) (sym (end_emits s))
    (counted_in InExpression s t Semicolon h (subst (AreWithin t) (end_emits s) b))
counted_for goal.Expression AfterBody s t token h b = tt
counted_for g m s t token h b = counted_in m s t token h b

-- ---- what others cite

pub counts_on : (g : Goal) (format : Format) (features : List (List ℕ)) (class : List ℕ) (s n : State) (t u : Tally) (token : Token) → Counted s t → IsAccepted (reader_for g format features class) s t token n u → Counted n u
counts_on g format features class s n t u token h a =
    let P : Option State → Type 0 = λ o. IfSome o (λ x. Counted x (tallied t (emitted s token))) in
    subst (λ x. Counted n x) (sym a.counts) (subst P a.goes (counted_for g s.mode s t token h a.within))

-- nothing is in hand but features
features_counted : (place : Place) (k : ℕ) (format : Format) (features : List (List ℕ)) → k ≤ length features → length features ≤ most_features → IsCounted place (record { features = k; params = 0; sends = 0; assigns = 0; slots = 0 }) (with_features format features)
features_counted place k format features le few =
    record { empty = none place; features = le; params = omega arith; sends = omega arith; assigns = omega arith; slots = omega arith; few_features = few; few_params = omega arith; few_param_names = omega arith; few_sends = omega arith; few_assigns = omega arith; few_nodes = omega arith }
  where
    none : (p : Place) → IsEmptyAt p (record { features = k; params = 0; sends = 0; assigns = 0; slots = 0 })
    none before_class = (refl, refl, refl, refl)
    none before_method = (refl, refl)
    none before_body = refl
    none in_body = tt

starts_counted : (g : Goal) (format : Format) (features : List (List ℕ)) (class : List ℕ) → length features ≤ most_features → Counted (start_for g format features class) (with_features format features)
starts_counted goal.Project format features class few = features_counted before_class 0 format features (omega arith) few
starts_counted goal.Model format features class few = features_counted before_class 0 format features (omega arith) few
starts_counted goal.Class format features class few = features_counted before_class (length features) format features (omega arith) few
starts_counted goal.Constructor format features class few = features_counted before_body (length features) format features (omega arith) few
starts_counted goal.Field format features class few = features_counted before_body (length features) format features (omega arith) few
starts_counted goal.Method format features class few = features_counted before_method (length features) format features (omega arith) few
starts_counted goal.Member format features class few = features_counted before_method (length features) format features (omega arith) few
starts_counted goal.Name format features class few = features_counted before_body (length features) format features (omega arith) few
starts_counted goal.Expression format features class few = features_counted in_body (length features) format features (omega arith) few

pub first_counted : (g : Goal) (format : Format) (features : List (List ℕ)) (class : List ℕ) (s : State) (t : Tally) → nat_le (length features) most_features ≡ true → s ≡ start_for g format features class → t ≡ with_features format features → Counted s t
first_counted g format features class s t few is counts =
    subst (λ n. Counted n t) (sym is) (subst (λ u. Counted (start_for g format features class) u) (sym counts) (starts_counted g format features class (leb-true _ _ few)))
