-- What a class and a method have where none of their rules breaks.
use Rattle.std.proofs.Common.{◌≡◌, Bool, true, false, not, ◌&&◌, map, is_some}
use Rattle.std.specs.List.{list_all, list_any}
use Rattle.std.proofs.lemmas.Bool.{and_parts, and_from, not-true, not_from_false}
use Rattle.cfj_words.specs.Lists.{Has}
use Rattle.cfj_model.specs.LookUps.{Table, is_known, all_fields, ancestors, field_called, first_some, method_called}
use Rattle.cfj_model.specs.Members.{field_name_of, method_name_of}
use Rattle.cfj_model.specs.ProductLines.{are_distinct}
use Rattle.cfj_model.specs.Judging.{are_same, takes_fields, extends_itself, is_no_result, is_overridden_wrongly}
use Rattle.cfj_model.specs.declared.class.Class.{Class}
use Rattle.cfj_model.specs.declared.class.Field.{Field}
use Rattle.cfj_model.specs.declared.class.Method.{Method}
use Rattle.class_table.proofs.Members.{has_all, all_has}
use Rattle.plain_fj.proofs.Quiet.{body_type, are_known_params, method_keeps, field_keeps, fields_keep, ctor_keeps, methods_keep, class_keeps}

-- what a class has where none of its rules breaks
pub record IsKept (p : Table) (k : Class) : Type 0 where
  pub parent : is_known p k.parent ≡ true
  pub itself : extends_itself p k ≡ false
  pub fields : (f : Field) → Has k.fields f → (is_known p f.of ≡ true) × (list_any (λ a. is_some (field_called f.name a)) (ancestors p k.name) ≡ false)
  pub fields_alone : are_distinct (map field_name_of k.fields) ≡ true
  pub takes : takes_fields k.ctor.params (all_fields p k.name) ≡ true
  pub sends : are_same (map (λ s. s.name) k.ctor.sends) (map (λ f. f.name) (all_fields p k.parent)) ≡ true
  pub assigns : are_same (map (λ a. a.name) k.ctor.assigns) (map (λ f. f.name) k.fields) ≡ true
  pub ctor : are_known_params p k.ctor.params ≡ true
  pub methods : (m : Method) → Has k.methods m → method_keeps p k m ≡ true
  pub methods_alone : are_distinct (map method_name_of k.methods) ≡ true

pub kept : (p : Table) (k : Class) → class_keeps p k ≡ true → IsKept p k
kept p k h =
    record {
      parent = a.0;
      itself = not-true (extends_itself p k) b.0;
      fields = λ f i. of f (all_has (field_keeps p k) k.fields u.0 f i);
      fields_alone = u.1;
      takes = t.0;
      sends = s.0;
      assigns = r.0;
      ctor = r.1;
      methods = all_has (method_keeps p k) k.methods v.0;
      methods_alone = v.1;
    }
  where
    fs : Bool
    fs = fields_keep p k

    ms : Bool
    ms = methods_keep p k

    takes : Bool
    takes = takes_fields k.ctor.params (all_fields p k.name)

    sends : Bool
    sends = are_same (map (λ s. s.name) k.ctor.sends) (map (λ f. f.name) (all_fields p k.parent))

    assigns : Bool
    assigns = are_same (map (λ a. a.name) k.ctor.assigns) (map (λ f. f.name) k.fields)

    a : (is_known p k.parent ≡ true) × ((not (extends_itself p k) && (fs && (ctor_keeps p k && ms))) ≡ true)
    a = and_parts (is_known p k.parent) (not (extends_itself p k) && (fs && (ctor_keeps p k && ms))) h

    b : (not (extends_itself p k) ≡ true) × ((fs && (ctor_keeps p k && ms)) ≡ true)
    b = and_parts (not (extends_itself p k)) (fs && (ctor_keeps p k && ms)) a.1

    c : (fs ≡ true) × ((ctor_keeps p k && ms) ≡ true)
    c = and_parts fs (ctor_keeps p k && ms) b.1

    d : (ctor_keeps p k ≡ true) × (ms ≡ true)
    d = and_parts (ctor_keeps p k) ms c.1

    u : (list_all (field_keeps p k) k.fields ≡ true) × (are_distinct (map field_name_of k.fields) ≡ true)
    u = and_parts (list_all (field_keeps p k) k.fields) (are_distinct (map field_name_of k.fields)) c.0

    v : (list_all (method_keeps p k) k.methods ≡ true) × (are_distinct (map method_name_of k.methods) ≡ true)
    v = and_parts (list_all (method_keeps p k) k.methods) (are_distinct (map method_name_of k.methods)) d.1

    t : (takes ≡ true) × ((sends && (assigns && are_known_params p k.ctor.params)) ≡ true)
    t = and_parts takes (sends && (assigns && are_known_params p k.ctor.params)) d.0

    s : (sends ≡ true) × ((assigns && are_known_params p k.ctor.params) ≡ true)
    s = and_parts sends (assigns && are_known_params p k.ctor.params) t.1

    r : (assigns ≡ true) × (are_known_params p k.ctor.params ≡ true)
    r = and_parts assigns (are_known_params p k.ctor.params) s.1

    of : (f : Field) → field_keeps p k f ≡ true → (is_known p f.of ≡ true) × (list_any (λ a. is_some (field_called f.name a)) (ancestors p k.name) ≡ false)
    of f h =
        let parts = and_parts (is_known p f.of) (not (list_any (λ a. is_some (field_called f.name a)) (ancestors p k.name))) h in
        (parts.0, not-true (list_any (λ a. is_some (field_called f.name a)) (ancestors p k.name)) parts.1)

pub keeps : (p : Table) (k : Class) → IsKept p k → class_keeps p k ≡ true
keeps p k i =
    and_from (is_known p k.parent) (not (extends_itself p k) && (fs && (ctor_keeps p k && ms))) i.parent
    (and_from (not (extends_itself p k)) (fs && (ctor_keeps p k && ms)) (not_from_false (extends_itself p k) i.itself)
    (and_from fs (ctor_keeps p k && ms) (and_from (list_all (field_keeps p k) k.fields) (are_distinct (map field_name_of k.fields)) (has_all (field_keeps p k) k.fields of) i.fields_alone)
    (and_from (ctor_keeps p k) ms (and_from takes (sends && (assigns && are_known_params p k.ctor.params)) i.takes
    (and_from sends (assigns && are_known_params p k.ctor.params) i.sends (and_from assigns (are_known_params p k.ctor.params) i.assigns i.ctor)))
    (and_from (list_all (method_keeps p k) k.methods) (are_distinct (map method_name_of k.methods)) (has_all (method_keeps p k) k.methods i.methods) i.methods_alone))))
  where
    fs : Bool
    fs = fields_keep p k

    ms : Bool
    ms = methods_keep p k

    takes : Bool
    takes = takes_fields k.ctor.params (all_fields p k.name)

    sends : Bool
    sends = are_same (map (λ s. s.name) k.ctor.sends) (map (λ f. f.name) (all_fields p k.parent))

    assigns : Bool
    assigns = are_same (map (λ a. a.name) k.ctor.assigns) (map (λ f. f.name) k.fields)

    of : (f : Field) → Has k.fields f → field_keeps p k f ≡ true
    of f h =
        and_from (is_known p f.of) (not (list_any (λ a. is_some (field_called f.name a)) (ancestors p k.name))) (i.fields f h).0
        (not_from_false (list_any (λ a. is_some (field_called f.name a)) (ancestors p k.name)) (i.fields f h).1)

-- what a method has where none of its rules breaks
pub record IsKeptMethod (p : Table) (k : Class) (m : Method) : Type 0 where
  pub result : is_known p m.result ≡ true
  pub overrides : is_overridden_wrongly m (first_some (method_called m.name) (ancestors p k.name)) ≡ false
  pub returns : is_no_result p m (body_type p k m) ≡ false
  pub params : are_known_params p m.params ≡ true
  pub typed : is_some (body_type p k m) ≡ true

pub kept_method : (p : Table) (k : Class) (m : Method) → method_keeps p k m ≡ true → IsKeptMethod p k m
kept_method p k m h = record { result = a.0; overrides = not-true wrong b.0; returns = not-true none c.0; params = d.0; typed = d.1 }
  where
    wrong : Bool
    wrong = is_overridden_wrongly m (first_some (method_called m.name) (ancestors p k.name))

    none : Bool
    none = is_no_result p m (body_type p k m)

    some : Bool
    some = is_some (body_type p k m)

    a : (is_known p m.result ≡ true) × ((not wrong && (not none && (are_known_params p m.params && some))) ≡ true)
    a = and_parts (is_known p m.result) (not wrong && (not none && (are_known_params p m.params && some))) h

    b : (not wrong ≡ true) × ((not none && (are_known_params p m.params && some)) ≡ true)
    b = and_parts (not wrong) (not none && (are_known_params p m.params && some)) a.1

    c : (not none ≡ true) × ((are_known_params p m.params && some) ≡ true)
    c = and_parts (not none) (are_known_params p m.params && some) b.1

    d : (are_known_params p m.params ≡ true) × (some ≡ true)
    d = and_parts (are_known_params p m.params) some c.1

pub keeps_method : (p : Table) (k : Class) (m : Method) → IsKeptMethod p k m → method_keeps p k m ≡ true
keeps_method p k m i =
    and_from (is_known p m.result) (not wrong && (not none && (are_known_params p m.params && some))) i.result
    (and_from (not wrong) (not none && (are_known_params p m.params && some)) (not_from_false wrong i.overrides)
    (and_from (not none) (are_known_params p m.params && some) (not_from_false none i.returns) (and_from (are_known_params p m.params) some i.params i.typed)))
  where
    wrong : Bool
    wrong = is_overridden_wrongly m (first_some (method_called m.name) (ancestors p k.name))

    none : Bool
    none = is_no_result p m (body_type p k m)

    some : Bool
    some = is_some (body_type p k m)
