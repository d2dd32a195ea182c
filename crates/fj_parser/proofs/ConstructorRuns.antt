-- The machine for a single constructor: it goes as that for projects does, up to the end of the constructor.
use Rattle.std.proofs.Common.{◌≡◌, ℕ, ◌+◌, ◌*◌, ◌≤◌, Bool, true, false, if◌then◌else◌, List, [], ◌∷◌, length, Some, None, refl, sym, ◌∙◌, ap, arith, length-append}
use Rattle.std.proofs.lemmas.Option.{none-some, same_Some}
use Rattle.std.specs.Str.{bytes_eq}
use Rattle.cfj_model.specs.Grammar.{ClassTree, spell_ctor, spell_param, spell_sent, spell_assign}
use Rattle.cfj_model.specs.Marks.{in_order, separated}
use Rattle.cfj_model.specs.Roles.{Role, used_name, other_token}
use Rattle.cfj_words.specs.Tokens.{Token, Id, SuperWord, OpenBrace, CloseBrace, OpenParen, CloseParen, Semicolon, Comma, At, End}
use Rattle.cfj_model.specs.TreeRoles.{roles_ctor, roles_param}
use Rattle.fj_parser.specs.declared.goal.Goal.TheVariants as goal
use Rattle.fj_machine.specs.declared.mode.Mode.{Mode}
use Rattle.fj_machine.specs.declared.mode.Mode.TheVariants.{InMembers, AfterAt, AfterType, InParams, InMethods, AfterResult, AtEnd}
use Rattle.fj_machine.specs.declared.mode.Node.TheVariants as node
use Rattle.fj_machine.specs.declared.mode.Owner.TheVariants as owner
use Rattle.fj_parser.specs.Goals.{step_for, reader_for}
use Rattle.cfj_model.specs.PartLanguages.{CtorTree, in_class}
use Rattle.cfj_model.specs.declared.feature_model.Format.{Format}
use Rattle.fj_machine.specs.Machine.{unnamed, State, behind, with_class, step_in, run}
use Rattle.fj_machine.specs.Readers.{Run, Reader, with_roles, then_run, run_of}
use Rattle.fj_parser.proofs.Complete.{same_name, params_run, body_run, behind_ctor}
use Rattle.fj_parser.proofs.Parts.{Follows, same_run, phase, phase_grows}
use Rattle.fj_parser.proofs.Readers.{on_from, run_append}
use Rattle.fj_parser.proofs.Spelled.{ctor_before}

abbrev pub ctor_reader : Format → List (List ℕ) → List ℕ → Reader
ctor_reader format features class = reader_for goal.Constructor format features class

-- before the constructor of a class of this name
abbrev pub before_ctor : Format → List (List ℕ) → List ℕ → State
before_ctor format features class = record (behind format features [] []) { mode = InMembers; name = class }

-- and behind it
abbrev pub behind_one : Format → List (List ℕ) → List ℕ → CtorTree → State
behind_one format features class c = behind_ctor (in_class class c) (record (behind format features [] []) { name = class })

-- false isn't true
pub no_case : {A : Type 0} → false ≡ true → A
no_case e = absurd (let no : ⊥ = cc e in no)

-- ---- what it takes up to the end, the machine for projects takes

abbrev pub is_end : Mode → Bool
is_end AtEnd = true
is_end _ = false

abbrev pub IsOpen : State → Type 0
IsOpen s = is_end s.mode ≡ false

pub passes : (b : Bool) (s n : State) (w : List ℕ) → (if b then step_in InMembers s (Id w) else None) ≡ Some n → step_in InMembers s (Id w) ≡ Some n
passes true s n w h = h
passes false s n w h = absurd (none-some n h)

-- but behind the constructor
pub narrow_in : (m : Mode) (s n : State) (t : Token) → is_end n.mode ≡ false → step_for goal.Constructor m s t ≡ Some n → step_in m s t ≡ Some n
narrow_in InMembers s n (Id w) k h = passes (bytes_eq w s.name) s n w h
narrow_in InMembers s n t k h = absurd (none-some n h)
narrow_in AfterType s n (Id w) k h = absurd (none-some n h)
narrow_in AfterType s n t k h = h
narrow_in InMethods s n End k h =
    let at_end : true ≡ false = ap (λ (x : State). is_end x.mode) (same_Some (record s { mode = AtEnd }) n h) ∙ k in
    no_case (sym at_end)
narrow_in InMethods s n t k h = absurd (none-some n h)
narrow_in _ s n t k h = h

open_before : (m : Mode) (s n : State) (t : Token) → step_for goal.Constructor m s t ≡ Some n → is_end m ≡ false
open_before AtEnd s n t h = absurd (none-some n h)
open_before _ s n t h = refl

narrows : Follows goal.Constructor goal.Project (λ s. Unit {0}) IsOpen
narrows = record { onwards = λ s n t here h. tt; back = λ s n t h k. open_before s.mode s n t h; same = λ s n t here k h. narrow_in s.mode s n t k h }

pub narrow_run : (format : Format) (features : List (List ℕ)) (class : List ℕ) (ts : List Token) (s n : State) (rs : List Role) → is_end n.mode ≡ false → run_of (ctor_reader format features class) ts s ≡ (Some n, rs) → run ts s ≡ (Some n, rs)
narrow_run format features class ts s n rs k h = same_run goal.Constructor goal.Project (λ x. Unit {0}) IsOpen narrows format format features [] class unnamed ts s n rs tt k h

-- ---- and the other way round, from the parameters up to the end of the constructor

abbrev IsBegun : State → Type 0
IsBegun s = 4 ≤ phase s

abbrev IsInFirst : State → Type 0
IsInFirst s = phase s ≤ 5

wide_methods : (s n : State) (t : Token) → phase n ≤ 5 → step_in InMethods s t ≡ Some n → step_for goal.Constructor InMethods s t ≡ Some n
wide_methods s n At k h =
    let far : phase n ≡ 10 * length s.classes + 6 = ap phase (sym (same_Some (record s { mode = AfterAt node.Method false }) n h)) in
    absurd (omega (arith, far, k))
wide_methods s n (Id w) k h =
    let far : phase n ≡ 10 * length s.classes + 6 = ap phase (sym (same_Some (record s { mode = AfterResult; of = w }) n h)) in
    absurd (omega (arith, far, k))
wide_methods s n CloseBrace k h =
    let far : phase n ≡ phase (with_class s) = ap phase (sym (same_Some (with_class s) n h)) in
    let long : length (with_class s).classes ≡ length s.classes + 1 = length-append s.classes _ in
    absurd (omega (arith, far, long, k))
wide_methods s n t k h = absurd (none-some n h)

wide_in : (m : Mode) (s n : State) (t : Token) → s.mode ≡ m → 4 ≤ phase s → phase n ≤ 5 → phase s ≤ phase n → step_in m s t ≡ Some n → step_for goal.Constructor m s t ≡ Some n
wide_in InMembers s n t here begun k on h =
    let at : phase s ≡ 10 * length s.classes + 3 = ap (λ m. phase (record s { mode = m })) here in
    absurd (omega (arith, at, begun, k, on))
wide_in AfterType s n t here begun k on h =
    let at : phase s ≡ 10 * length s.classes + 3 = ap (λ m. phase (record s { mode = m })) here in
    absurd (omega (arith, at, begun, k, on))
wide_in InMethods s n t here begun k on h = wide_methods s n t k h
wide_in _ s n t here begun k on h = h

widens : Follows goal.Project goal.Constructor IsBegun IsInFirst
widens =
    record {
      onwards = λ s n t here h. (let on : phase s ≤ phase n = phase_grows s n t h in omega (arith, on, here));
      back = λ s n t h k. (let on : phase s ≤ phase n = phase_grows s n t h in omega (arith, on, k));
      same = λ s n t here k h. wide_in s.mode s n t refl here k (phase_grows s n t h) h;
    }

-- ---- a constructor

-- behind its name and the bracket
abbrev pub in_ctor : Format → List (List ℕ) → List ℕ → State
in_ctor format features class = record (before_ctor format features class) { mode = InParams owner.Constructor }

-- what stands there
abbrev pub ctor_words : ClassTree → List Token → List Token
ctor_words k rest = separated Comma spell_param k.params (CloseParen ∷ (OpenBrace ∷ (SuperWord ∷ (OpenParen ∷ separated Comma spell_sent k.sends (CloseParen ∷ (Semicolon ∷ in_order spell_assign k.assigns (CloseBrace ∷ rest)))))))

-- the name and the bracket
head_runs : (format : Format) (features : List (List ℕ)) (class : List ℕ) (ts : List Token) → run_of (ctor_reader format features class) (Id class ∷ (OpenParen ∷ ts)) (before_ctor format features class) ≡ with_roles (used_name class ∷ (other_token ∷ [])) (run_of (ctor_reader format features class) ts (in_ctor format features class))
unfolding run_of
head_runs format features class ts =
    let m : State = record (before_ctor format features class) { mode = AfterType; of = class } in
    ap (λ b. then_run (run_of (ctor_reader format features class) (OpenParen ∷ ts)) (used_name class ∷ []) (if b then Some m else None)) (same_name class)
    ∙ ap (λ b. with_roles (used_name class ∷ []) (then_run (run_of (ctor_reader format features class) ts) (other_token ∷ []) (if b then Some (in_ctor format features class) else None))) (same_name class)

-- the roles of what stands behind them
words_run : (format : Format) (features : List (List ℕ)) (class : List ℕ) (c : CtorTree) → (rs : List Role) × (run (ctor_words (in_class class c) []) (in_ctor format features class) ≡ (Some (behind_one format features class c), rs)) × (roles_ctor (in_class class c) [] ≡ used_name class ∷ (other_token ∷ rs))
unfolding run_of
words_run format features class c =
    let k : ClassTree = in_class class c in
    let body : List Token = OpenBrace ∷ (SuperWord ∷ (OpenParen ∷ separated Comma spell_sent k.sends (CloseParen ∷ (Semicolon ∷ in_order spell_assign k.assigns (CloseBrace ∷ []))))) in
    (_, params_run owner.Constructor k.params body (in_ctor format features class) ∙ ap (λ (p : Run State). (p.0, separated other_token roles_param k.params (other_token ∷ p.1))) (body_run k [] (record (behind format features [] []) { name = class })), refl)

ctor_alone : (format : Format) (features : List (List ℕ)) (class : List ℕ) (c : CtorTree) → run_of (ctor_reader format features class) (spell_ctor (in_class class c) []) (before_ctor format features class) ≡ (Some (behind_one format features class c), roles_ctor (in_class class c) [])
ctor_alone format features class c =
    let w = words_run format features class c in
    head_runs format features class (ctor_words (in_class class c) [])
    ∙ ap (with_roles (used_name class ∷ (other_token ∷ []))) (same_run goal.Project goal.Constructor IsBegun IsInFirst widens format format [] features unnamed class (ctor_words (in_class class c) []) (in_ctor format features class) (behind_one format features class c) w.0 (omega arith) (omega arith) w.1)
    ∙ ap (λ (q : List Role). (Some (behind_one format features class c), q)) (sym w.2)

-- a constructor, and more
pub ctor_runs : (format : Format) (features : List (List ℕ)) (class : List ℕ) (c : CtorTree) (ts : List Token) → run_of (ctor_reader format features class) (spell_ctor (in_class class c) ts) (before_ctor format features class) ≡ with_roles (roles_ctor (in_class class c) []) (run_of (ctor_reader format features class) ts (behind_one format features class c))
ctor_runs format features class c ts =
    ap (λ w. run_of (ctor_reader format features class) w (before_ctor format features class)) (ctor_before (in_class class c) [] ts)
    ∙ run_append (ctor_reader format features class) (spell_ctor (in_class class c) []) ts (before_ctor format features class)
    ∙ ap (on_from (ctor_reader format features class) ts) (ctor_alone format features class c)
