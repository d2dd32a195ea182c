-- The fields and the constructor of a class, read to their end.
use Rattle.std.proofs.Common.{◌≡◌, ℕ, zero, suc, ◌<◌, true, false, List, [], ◌∷◌, ◌++◌, length, map, refl, sym, ◌∙◌, ap, subst, arith, append_assoc}
use Rattle.std.proofs.lemmas.List.{append-nil}
use Rattle.std.proofs.lemmas.Slice.Eq.{bytes_eq-Decides}
use Rattle.std.specs.Str.{bytes_eq}
use Rattle.cfj_model.specs.declared.signed.Signed.{Signed}
use Rattle.cfj_model.specs.Coloring.{no_colors}
use Rattle.cfj_model.specs.declared.class.Field.{Field}
use Rattle.cfj_words.specs.Tokens.{Token, Id, SuperWord, OpenBrace, CloseBrace, OpenParen, CloseParen, Semicolon, Comma, At, Bang}
use Rattle.cfj_model.specs.Grammar.{Declared, Named, MethodTree, ClassTree, spell_field, spell_param, spell_sent, spell_assign, spell_ctor, value_field, value_param, value_sent, numbered}
use Rattle.cfj_model.specs.Marks.{in_order, separated, spell_mark, marked, colored}
use Rattle.cfj_model.specs.Roles.{other_token}
use Rattle.fj_machine.specs.declared.mode.Owner.TheVariants as owner
use Rattle.fj_machine.specs.declared.mode.Node.TheVariants as node
use Rattle.fj_machine.specs.declared.mode.Mode.TheVariants.{AfterMark, InParams, InSends, InAssigns}
use Rattle.fj_machine.specs.Machine.{unnamed, State, run}
use Rattle.fj_machine.specs.Readers.{run_of}
use Rattle.fj_parser.proofs.Complete.{named, after_params, after_sends, with_a_field, behind_ctor}
use Rattle.fj_parser.proofs.ListsSound.{sign_longer, Accepts, never, passed, Read, Fixed, params_text, sends_text, Params, params_read, Sends, sends_read, Assigns, assigns_read}

-- ---- the constructor

-- what a constructor is made of
pub record CtorTree : Type 0 where
  pub params : List Declared
  pub sends : List Named
  pub assigns : List Named

-- a class without marks, with such a constructor
abbrev pub class_with : List ℕ → List ℕ → List Declared → CtorTree → List MethodTree → ClassTree
class_with name parent fields c methods = record { marks = []; name = name; parent = parent; fields = fields; params = c.params; sends = c.sends; assigns = c.assigns; methods = methods }

-- what opens the body, up to the sent names
abbrev Opening : List Token → State → Type 0
Opening ts s = Fixed (λ rest. OpenBrace ∷ (SuperWord ∷ (OpenParen ∷ rest))) (record s { mode = InSends; colors = no_colors; of = unnamed }) ts

-- only these may stand behind the parameters
opening_read : (ts : List Token) (s : State) → Accepts ts (after_params owner.Constructor s) → Opening ts s
unfolding run_of
opening_read (OpenBrace ∷ (SuperWord ∷ (OpenParen ∷ ts))) s h = record { rest = ts; spelled = refl; shorter = omega arith; goes = h }
opening_read _ s h = never h

-- the semicolon behind the sent names
abbrev Semi : List Token → State → Type 0
Semi ts s = Fixed (λ rest. Semicolon ∷ rest) (record s { mode = InAssigns; colors = no_colors }) ts

-- only the semicolon may stand there
semi_read : (ts : List Token) (s : State) → Accepts ts (after_sends s) → Semi ts s
unfolding run_of
semi_read (Semicolon ∷ ts) s h = record { rest = ts; spelled = refl; shorter = omega arith; goes = h }
semi_read _ s h = never h

-- a constructor behind its name and the bracket
abbrev pub ctor_rest : CtorTree → List Token → List Token
ctor_rest c rest =
    separated Comma spell_param c.params
    (CloseParen
    ∷ (OpenBrace
    ∷ (SuperWord
    ∷ (OpenParen
    ∷ separated Comma spell_sent c.sends
    (CloseParen
    ∷ (Semicolon
    ∷ in_order spell_assign c.assigns (CloseBrace ∷ rest)))))))

-- the state behind such a constructor
abbrev pub behind_this : State → CtorTree → State
behind_this s c = behind_ctor (class_with [] [] [] c []) s

-- a constructor of its parts
ctor_of : (ts : List Token) (s : State) (p : Params owner.Constructor ts s) (o : Opening p.rest (record s { params = numbered (value_param s.features) 0 p.part })) (t : Sends o.rest (record s { params = numbered (value_param s.features) 0 p.part; colors = no_colors; of = unnamed })) (m : Semi t.rest (record s { params = numbered (value_param s.features) 0 p.part; sends = numbered (value_sent s.features) 0 t.part; colors = no_colors; of = unnamed })) → Assigns m.rest (record s { params = numbered (value_param s.features) 0 p.part; sends = numbered (value_sent s.features) 0 t.part; assigns = []; colors = no_colors; of = unnamed }) → Read CtorTree ctor_rest (behind_this s) ts
ctor_of ts s p o t m a =
    record {
      part = record { params = p.part; sends = t.part; assigns = a.part };
      rest = a.rest;
      spelled = p.spelled ∙ ap (params_text p.part) (o.spelled ∙ ap (λ w. OpenBrace ∷ (SuperWord ∷ (OpenParen ∷ w))) (t.spelled ∙ ap (sends_text t.part) (m.spelled ∙ ap (λ w. Semicolon ∷ w) a.spelled)));
      shorter = omega (arith, p.shorter, o.shorter, t.shorter, m.shorter, a.shorter);
      goes = a.goes;
    }

-- a constructor behind its name and the bracket
pub ctor_read : (k : ℕ) (ts : List Token) → length ts < k → (s : State) → Accepts ts (record s { mode = InParams owner.Constructor; params = []; sends = []; assigns = []; colors = no_colors; of = unnamed; last = unnamed }) → Read CtorTree ctor_rest (behind_this s) ts
ctor_read k ts le s h =
    let n : State = record s { params = []; sends = []; assigns = []; colors = no_colors; of = unnamed; last = unnamed } in
    let p = params_read owner.Constructor k ts le n h in
    let in_body : State = record n { params = numbered (value_param s.features) 0 p.part } in
    let o = opening_read p.rest in_body p.goes in
    let t = sends_read k o.rest (omega (arith, p.shorter, o.shorter)) in_body o.goes in
    let m = semi_read t.rest (record in_body { sends = numbered (value_sent s.features) 0 t.part }) t.goes in
    ctor_of ts n p o t m (assigns_read k m.rest (omega (arith, p.shorter, o.shorter, t.shorter, m.shorter)) (record in_body { sends = numbered (value_sent s.features) 0 t.part }) m.goes)

-- ---- {field} ctor

-- a field with the colours in hand, in a class of this name
abbrev colored_field : List ℕ → State → Declared → State
colored_field w s d = named w (record s { fields = s.fields ++ record { alt = 0; colors = colored s.features s.colors d.marks; of = d.of; name = d.name } ∷ [] })

-- one more mark of a field
mark_field : (m : Signed) (ts : List Token) (w : List ℕ) (s : State) → Read Declared spell_field (colored_field w (record s { colors = marked s.features s.colors m })) ts → Read Declared spell_field (colored_field w s) (spell_mark m ts)
mark_field m ts w s r =
    record {
      part = record { marks = m ∷ r.part.marks; of = r.part.of; name = r.part.name };
      rest = r.rest;
      spelled = ap (spell_mark m) r.spelled;
      shorter = omega (arith, r.shorter, sign_longer m.off m.name ts);
      goes = r.goes;
    }

-- a field behind marks
marked_field_read : (ts : List Token) (w : List ℕ) (s : State) → Accepts ts (record (named w s) { mode = AfterMark node.Member; colors = s.colors }) → Read Declared spell_field (colored_field w s) ts
unfolding run_of
marked_field_read (At ∷ (Id word ∷ ts)) w s h =
    let m : Signed = record { off = false; name = word } in
    mark_field m ts w s (marked_field_read ts w (record s { colors = marked s.features s.colors m }) h)
marked_field_read (At ∷ (Bang ∷ (Id word ∷ ts))) w s h =
    let m : Signed = record { off = true; name = word } in
    mark_field m ts w s (marked_field_read ts w (record s { colors = marked s.features s.colors m }) h)
marked_field_read (Id a ∷ (Id b ∷ (Semicolon ∷ ts))) w s h = record { part = record { marks = []; of = a; name = b }; rest = ts; spelled = refl; shorter = omega arith; goes = h }
marked_field_read _ w s h = never h

-- What stands in a class: a field, or the constructor with the class's name.
data Member (ts : List Token) (w : List ℕ) (s : State) : Type 0 where
  field : Read Declared spell_field (λ d. named w (with_a_field s d)) ts → Member ts w s
  ctor : Fixed (λ rest. Id w ∷ (OpenParen ∷ rest)) (record (named w s) { mode = InParams owner.Constructor }) ts → Member ts w s

-- what stands next in a class
member_read : (ts : List Token) (w : List ℕ) (s : State) → Accepts ts (named w s) → Member ts w s
unfolding run_of
member_read (At ∷ (Id word ∷ ts)) w s h =
    let m : Signed = record { off = false; name = word } in
    field (mark_field m ts w (record s { colors = no_colors }) (marked_field_read ts w (record s { colors = marked s.features no_colors m }) h))
member_read (At ∷ (Bang ∷ (Id word ∷ ts))) w s h =
    let m : Signed = record { off = true; name = word } in
    field (mark_field m ts w (record s { colors = no_colors }) (marked_field_read ts w (record s { colors = marked s.features no_colors m }) h))
member_read (Id a ∷ (Id b ∷ (Semicolon ∷ ts))) w s h = field (record { part = record { marks = []; of = a; name = b }; rest = ts; spelled = refl; shorter = omega arith; goes = h })
member_read (Id a ∷ (OpenParen ∷ ts)) w s h =
    let p = passed (bytes_eq a w) (run ts) (other_token ∷ []) (record (named w s) { mode = InParams owner.Constructor }) h in
    let same : a ≡ w = (bytes_eq-Decides a w).0 p.0 in
    ctor (record { rest = ts; spelled = ap (λ x. Id x ∷ (OpenParen ∷ ts)) same; shorter = omega arith; goes = p.1 })
member_read _ w s h = never h

-- the fields and the constructor of a class
pub record Members : Type 0 where
  pub fields : List Declared
  pub ctor : CtorTree

-- their text, in a class of this name
abbrev pub members_text : List ℕ → Members → List Token → List Token
members_text w m rest = in_order spell_field m.fields (spell_ctor (class_with w [] [] m.ctor []) rest)

-- the state behind them
abbrev behind_these : List ℕ → State → List Field → CtorTree → State
behind_these w s fields c = behind_ctor (class_with w [] [] c []) (record s { name = w; fields = fields })

abbrev pub behind_members : List ℕ → State → Members → State
behind_members w s m = behind_these w s (s.fields ++ map (value_field s.features) m.fields) m.ctor

-- what they are read as
abbrev pub ReadMembers : List Token → List ℕ → State → Type 0
ReadMembers ts w s = Read Members (members_text w) (behind_members w s) ts

-- a field and more
field_and : (ts : List Token) (w : List ℕ) (s : State) (d : Read Declared spell_field (λ d. named w (with_a_field s d)) ts) → ReadMembers d.rest w (with_a_field s d.part) → ReadMembers ts w s
field_and ts w s d m =
    let part : Members = record { fields = d.part ∷ m.part.fields; ctor = m.part.ctor } in
    let is : ts ≡ members_text w part m.rest = d.spelled ∙ ap (spell_field d.part) m.spelled in
    record {
      part = part;
      rest = m.rest;
      spelled = is;
      shorter = omega (arith, d.shorter, m.shorter);
      goes = subst (λ ds. Accepts m.rest (behind_these w s ds m.part.ctor)) (append_assoc s.fields (value_field s.features d.part ∷ []) (map (value_field s.features) m.part.fields)) m.goes;
    }

-- the constructor and no field
ctor_alone : (ts : List Token) (w : List ℕ) (s : State) (d : Fixed (λ rest. Id w ∷ (OpenParen ∷ rest)) (record (named w s) { mode = InParams owner.Constructor }) ts) → Read CtorTree ctor_rest (behind_this (named w s)) d.rest → ReadMembers ts w s
ctor_alone ts w s d c =
    let part : Members = record { fields = []; ctor = c.part } in
    let is : ts ≡ members_text w part c.rest = d.spelled ∙ ap (λ x. Id w ∷ (OpenParen ∷ x)) c.spelled in
    record {
      part = part;
      rest = c.rest;
      spelled = is;
      shorter = omega (arith, d.shorter, c.shorter);
      goes = subst (λ ds. Accepts c.rest (behind_these w s ds c.part)) (sym (append-nil s.fields)) c.goes;
    }

-- {field} ctor
pub members_read : (k : ℕ) (ts : List Token) → length ts < k → (w : List ℕ) (s : State) → Accepts ts (named w s) → ReadMembers ts w s
members_read zero ts le w s h = absurd (omega arith)
members_read (suc k) ts le w s h = go (λ rest shorter n goes. members_read k rest shorter w n goes) (member_read ts w s h)
  where
    go : ((rest : List Token) → length rest < k → (n : State) → Accepts rest (named w n) → ReadMembers rest w n) → Member ts w s → ReadMembers ts w s
    go ih (field d) = field_and ts w s d (ih d.rest (omega (arith, d.shorter)) (with_a_field s d.part) d.goes)
    go ih (ctor d) = ctor_alone ts w s d (ctor_read k d.rest (omega (arith, d.shorter)) (named w s) d.goes)
