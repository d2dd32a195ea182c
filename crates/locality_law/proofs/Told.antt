-- What a project keeps, and what equal facts tell of two projects.
use Rattle.std.proofs.Common.{◌≡◌, ℕ, true, false, not, ◌&&◌, nat_le, List, [], ◌∷◌, length, map, Option, None, Some, refl, sym, ◌∙◌, ap, subst}
use Rattle.std.specs.List.{list_all}
use Rattle.std.specs.Str.{bytes_eq}
use Rattle.std.proofs.lemmas.Bool.{and_parts, not-true}
use Rattle.cfj_model.specs.Coloring.{Palette, are_known, palette_of}
use Rattle.cfj_model.specs.Expressions.{slots}
use Rattle.cfj_model.specs.LookUps.{Table, declared, is_called}
use Rattle.cfj_model.specs.Members.{field_alts_rise, method_alts_rise}
use Rattle.cfj_model.specs.ProductLines.{IsProject, ProductLine, are_distinct, are_fields, are_methods, are_params, are_sents, is_body, is_class, is_ctor, is_field, is_method, is_param, most_in_ctor, most_params, object, rise_from}
use Rattle.cfj_model.specs.declared.class.Class.{Class}
use Rattle.cfj_model.specs.declared.class.Method.{Method}
use Rattle.cfj_model.specs.declared.class.Param.{Param}
use Rattle.cfj_words.specs.Lists.{Has}
use Rattle.cfj_words.specs.Names.{is_short_identifier}
use Rattle.class_table.proofs.Without.{declared_has}
use Rattle.class_table.proofs.Members.{all_has, none_find}
use Rattle.unit_facts.specs.Facts.{Contents, Head, Signature, absent, head_at, head_is, if_any, if_some, signatures_at}
use Rattle.unit_facts.specs.Reach.{IsAbove, Reaches, signature_types}

-- ---- what a project keeps

-- the slots of a method's parameters and nodes rise
pub record IsMethodKept (m : Method) : Type 0 where
  pub params : rise_from 0 (map (λ (p : Param). p.slot) m.params) ≡ true
  pub nodes : rise_from 0 (slots m.body) ≡ true

-- A class isn't called `Object`, the alts of its members rise, and so do the slots in it.
pub record IsKept (k : Class) : Type 0 where
  pub other : bytes_eq k.name object ≡ false
  pub rise : method_alts_rise k.methods ≡ true
  pub fields_rise : field_alts_rise k.fields ≡ true
  pub takes : rise_from 0 (map (λ (p : Param). p.slot) k.ctor.params) ≡ true
  pub methods : (m : Method) → Has k.methods m → IsMethodKept m

params_rise : (most : ℕ) (palette : Palette) (ps : List Param) → are_params most palette ps ≡ true → rise_from 0 (map (λ (p : Param). p.slot) ps) ≡ true
params_rise most palette ps e =
    let a = and_parts (nat_le (length ps) most && rise_from 0 (map (λ (p : Param). p.slot) ps)) (list_all (is_param palette) ps) e in
    (and_parts (nat_le (length ps) most) (rise_from 0 (map (λ (p : Param). p.slot) ps)) a.0).1

method_kept : (palette : Palette) (m : Method) → is_method palette m ≡ true → IsMethodKept m
unfolding is_method
method_kept palette m e =
    let a = and_parts _ (is_body palette m.body) e in
    let b = and_parts _ (are_distinct (map (λ (p : Param). p.name) m.params)) a.0 in
    let c = and_parts _ (are_params most_params palette m.params) b.0 in
    let d = and_parts _ (rise_from 0 (slots m.body)) a.1 in
    record { params = params_rise most_params palette m.params c.1; nodes = d.1 }

class_kept : (palette : Palette) (k : Class) → is_class palette k ≡ true → IsKept k
unfolding is_class
class_kept palette k e =
    let a = and_parts _ (are_methods palette k.methods) e in
    let b = and_parts _ (is_ctor palette k.ctor) a.0 in
    let c = and_parts _ (are_fields palette k.fields) b.0 in
    let d = and_parts _ (is_short_identifier k.parent) c.0 in
    let f = and_parts _ (are_known palette k.colors) d.0 in
    let g = and_parts _ (not (bytes_eq k.name object)) f.0 in
    let h = and_parts _ (list_all (is_method palette) k.methods) a.1 in
    let i = and_parts _ (method_alts_rise k.methods) h.0 in
    let l = and_parts _ (list_all (is_field palette) k.fields) c.1 in
    let n = and_parts _ (field_alts_rise k.fields) l.0 in
    let o = and_parts _ (are_sents palette k.ctor.assigns) b.1 in
    let r = and_parts (are_params most_in_ctor palette k.ctor.params) (are_sents palette k.ctor.sends) o.0 in
    record {
      other = not-true (bytes_eq k.name object) g.1;
      rise = i.1;
      fields_rise = n.1;
      takes = params_rise most_in_ctor palette k.ctor.params r.0;
      methods = λ m at. method_kept palette m (all_has (is_method palette) k.methods h.1 m at);
    }

pub kept_class : (q : ProductLine) → IsProject q → (k : Class) → Has q.classes k → IsKept k
kept_class q project k h = class_kept (palette_of q.model) k (all_has (is_class (palette_of q.model)) q.classes project.each_class k h)

pub kept_declared : (q : ProductLine) → IsProject q → (n : List ℕ) (k : Class) → declared q.classes n ≡ Some k → IsKept k
kept_declared q project n k e = kept_class q project k (declared_has q.classes n k e)

-- `Object` has no head
pub no_object : (q : ProductLine) → IsProject q → declared q.classes object ≡ None
no_object q project = none_find (is_called object) q.classes (λ k h. (kept_class q project k h).other)

-- ---- contents are told apart

pub some_told : {A : Type 0} (holds : A → Contents) → ((x y : A) → holds x ≡ holds y → x ≡ y) → ((x : A) → holds x ≡ absent → ⊥) → (a b : Option A) → if_some holds a ≡ if_some holds b → a ≡ b
some_told holds same never None None e = refl
some_told holds same never None (Some y) e = absurd (never y (sym e))
some_told holds same never (Some x) None e = absurd (never x e)
some_told holds same never (Some x) (Some y) e = ap (λ w. Some w) (same x y e)

pub head_told : (a b : Option Head) → if_some head_is a ≡ if_some head_is b → a ≡ b
head_told a b e = some_told head_is (λ x y s. cc s) (λ x s. let none : ⊥ = cc s in none) a b e

pub any_told : (xs ys : List Signature) → if_any xs ≡ if_any ys → xs ≡ ys
any_told [] [] e = refl
any_told [] (y ∷ ys) e = absurd (let none : ⊥ = cc e in none)
any_told (x ∷ xs) [] e = absurd (let none : ⊥ = cc e in none)
any_told (x ∷ xs) (y ∷ ys) e = cc e

-- ---- the same reach

module _ (p q : Table) (starts asked : List (List ℕ)) (heads : (n : List ℕ) → Reaches p starts asked n → head_at p n ≡ head_at q n)
    (signatures : (n m : List ℕ) → Reaches p starts asked n → Has asked m → signatures_at p n m ≡ signatures_at q n m) where
  pub reach_there : (n : List ℕ) → Reaches p starts asked n → Reaches q starts asked n
  reach_there _ (Reaches.start n h) = Reaches.start n h
  reach_there _ (Reaches.superclass n h r e) = Reaches.superclass n h (reach_there n r) (sym (heads n r) ∙ e)
  reach_there _ (Reaches.field_type n t h r e has) = Reaches.field_type n t h (reach_there n r) (sym (heads n r) ∙ e) has
  reach_there _ (Reaches.method_type n t m r here has) = Reaches.method_type n t m (reach_there n r) here (subst (λ gs. Has (signature_types gs) t) (signatures n m r here) has)

  pub reach_back : (n : List ℕ) → Reaches q starts asked n → Reaches p starts asked n
  reach_back _ (Reaches.start n h) = Reaches.start n h
  reach_back _ (Reaches.superclass n h r e) = let s = reach_back n r in Reaches.superclass n h s (heads n s ∙ e)
  reach_back _ (Reaches.field_type n t h r e has) = let s = reach_back n r in Reaches.field_type n t h s (heads n s ∙ e) has
  reach_back _ (Reaches.method_type n t m r here has) =
      let s = reach_back n r in Reaches.method_type n t m s here (subst (λ gs. Has (signature_types gs) t) (sym (signatures n m s here)) has)

module _ (p q : Table) (c : List ℕ) (heads : (n : List ℕ) → IsAbove p c n → head_at p n ≡ head_at q n) where
  pub above_there : (n : List ℕ) → IsAbove p c n → IsAbove q c n
  above_there _ IsAbove.itself = IsAbove.itself
  above_there _ (IsAbove.further n h r e) = IsAbove.further n h (above_there n r) (sym (heads n r) ∙ e)

  pub above_back : (n : List ℕ) → IsAbove q c n → IsAbove p c n
  above_back _ IsAbove.itself = IsAbove.itself
  above_back _ (IsAbove.further n h r e) = let s = above_back n r in IsAbove.further n h s (heads n s ∙ e)
