-- Where no rule breaks, in one test for each class.
use Rattle.std.proofs.Common.{◌≡◌, ℕ, Bool, true, false, not, ◌&&◌, List, [], ◌∷◌, ◌++◌, map, Option, None, Some, is_some, option_map, refl, sym, ◌∙◌, ap}
use Rattle.std.specs.List.{list_all, list_any, find, flat_map}
use Rattle.std.proofs.lemmas.Bool.{not-true, not_from_false}
use Rattle.std.proofs.lemmas.List.Folds.{list_all-append}
use Rattle.cfj_model.specs.LookUps.{Table, is_known, all_fields, ancestors, field_called, first_some, method_called}
use Rattle.cfj_model.specs.Members.{Placed, placed, is_again, field_name_of, method_name_of}
use Rattle.cfj_model.specs.ProductLines.{are_distinct}
use Rattle.cfj_model.specs.Judging.{RuleAt, Ruling, judged_at, judged_field, judged_ctor, judged_method, judged_class, judged, pair_of, first_breaking, are_same, takes_fields, environment_of, extends_itself, is_no_result, is_overridden_wrongly, variable_type}
use Rattle.cfj_model.specs.declared.class.Class.{Class}
use Rattle.cfj_model.specs.declared.class.Field.{Field}
use Rattle.cfj_model.specs.declared.class.Method.{Method}
use Rattle.cfj_model.specs.declared.class.Param.{Param}
use Rattle.cfj_model.specs.declared.site.Rule.TheVariants.{K1}
use Rattle.cfj_model.specs.declared.site.Site.{Site}
use Rattle.cfj_model.specs.declared.site.Site.TheVariants as site
use Rattle.class_table.proofs.Members.{unlike, find_none, none_find, has_all, all_has, all_flat_map, all_same}
use Rattle.plain_fj.proofs.Alternatives.{tested_apart}
use Rattle.plain_fj.proofs.Typed.{judged_of, type_of}
use Rattle.plain_fj.proofs.Clear.{none_breaks, nodes_clear, clear}

-- none of these breaks
abbrev none_judged : List RuleAt → Bool
none_judged js = list_all (λ j. not j.breaks) js

-- the type of a method's body
abbrev pub body_type : Table → Class → Method → Option (List ℕ)
body_type p k m = type_of p (variable_type (environment_of k m)) m.body

abbrev pub are_known_params : Table → List Param → Bool
are_known_params p qs = list_all (λ q. is_known p q.of) qs

-- no rule of the method breaks, but for the one on its name
abbrev pub method_keeps : Table → Class → Method → Bool
method_keeps p k m =
    is_known p m.result
    && (not (is_overridden_wrongly m (first_some (method_called m.name) (ancestors p k.name)))
    && (not (is_no_result p m (body_type p k m)) && (are_known_params p m.params && is_some (body_type p k m))))

abbrev pub field_keeps : Table → Class → Field → Bool
field_keeps p k f = is_known p f.of && not (list_any (λ a. is_some (field_called f.name a)) (ancestors p k.name))

-- no rule of a field breaks
abbrev pub fields_keep : Table → Class → Bool
fields_keep p k = list_all (field_keeps p k) k.fields && are_distinct (map field_name_of k.fields)

-- no rule of a method breaks
abbrev pub methods_keep : Table → Class → Bool
methods_keep p k = list_all (method_keeps p k) k.methods && are_distinct (map method_name_of k.methods)

abbrev pub ctor_keeps : Table → Class → Bool
ctor_keeps p k =
    takes_fields k.ctor.params (all_fields p k.name)
    && (are_same (map (λ s. s.name) k.ctor.sends) (map (λ f. f.name) (all_fields p k.parent))
    && (are_same (map (λ a. a.name) k.ctor.assigns) (map (λ f. f.name) k.fields) && are_known_params p k.ctor.params))

-- no rule of the class breaks
abbrev pub class_keeps : Table → Class → Bool
class_keeps p k =
    is_known p k.parent
    && (not (extends_itself p k) && (fields_keep p k && (ctor_keeps p k && methods_keep p k)))

-- ---- tests

one_rule : (b : Bool) → (not (not b) && true) ≡ b
one_rule true = refl
one_rule false = refl

field_rules : (a b n : Bool) → (not (not a) && (not b && (not n && true))) ≡ ((a && not b) && not n)
field_rules false b n = refl
field_rules true true n = refl
field_rules true false true = refl
field_rules true false false = refl

two_and_more : (a b c : Bool) → (not (not a) && (not b && c)) ≡ (a && (not b && c))
two_and_more true b c = refl
two_and_more false b c = refl

ctor_rules : (a b c d : Bool) → (not (not a) && (not (not b) && (not (not c) && d))) ≡ (a && (b && (c && d)))
ctor_rules false b c d = refl
ctor_rules true false c d = refl
ctor_rules true true false d = refl
ctor_rules true true true d = refl

method_rules : (a b c n d x : Bool) → (not (not a) && (not b && (not c && (not n && (d && (x && true)))))) ≡ ((a && (not b && (not c && (d && x)))) && not n)
method_rules false b c n d x = refl
method_rules true true c n d x = refl
method_rules true false true n d x = refl
method_rules true false false n false x = go n
  where
    go : (n : Bool) → (not n && false) ≡ false
    go true = refl
    go false = refl
method_rules true false false true true true = refl
method_rules true false false true true false = refl
method_rules true false false false true true = refl
method_rules true false false false true false = refl

-- ---- sites

judged_clear : (s : Site) (vs : List Ruling) → none_judged (judged_at s vs) ≡ none_breaks vs
judged_clear s [] = refl
judged_clear s (v ∷ vs) = ap (λ b. not v.1 && b) (judged_clear s vs)

params_judged : (at : Param → Site) (p : Table) (qs : List Param) → none_judged (flat_map (λ q. judged_at (at q) ((K1, not (is_known p q.of)) ∷ [])) qs) ≡ are_known_params p qs
params_judged at p qs =
    all_flat_map (λ (j : RuleAt). not j.breaks) (λ (q : Param). judged_at (at q) ((K1, not (is_known p q.of)) ∷ [])) qs
    ∙ all_same (λ (q : Param). not (not (is_known p q.of)) && true) (λ (q : Param). is_known p q.of) (λ q. one_rule (is_known p q.of)) qs

nodes_judged : (at : ℕ → Site) (ns : List (ℕ × List Ruling)) → none_judged (flat_map (λ n. judged_at (at n.0) n.1) ns) ≡ nodes_clear ns
nodes_judged at ns =
    all_flat_map (λ (j : RuleAt). not j.breaks) (λ (n : ℕ × List Ruling). judged_at (at n.0) n.1) ns
    ∙ all_same (λ (n : ℕ × List Ruling). none_judged (judged_at (at n.0) n.1)) (λ (n : ℕ × List Ruling). none_breaks n.1) (λ n. judged_clear (at n.0) n.1) ns

method_judged : (p : Table) (k : Class) (q : Placed Method) → none_judged (judged_method p k q) ≡ (method_keeps p k q.item && not (is_again method_name_of q))
method_judged p k q =
    ap (λ b. not (not (is_known p m.result)) && (not wrong && (not (is_no_result p m (body_type p k m)) && (not (is_again method_name_of q) && b))))
    (list_all-append (λ (j : RuleAt). not j.breaks) params nodes
    ∙ ap (λ b. b && none_judged nodes) (params_judged (λ q. site.Param k.name m.name m.alt q.slot) p m.params)
    ∙ ap (λ b. are_known_params p m.params && b) (nodes_judged (λ n. site.Node k.name m.name m.alt n) ((judged_of p (variable_type (environment_of k m)) m.body).rules []) ∙ clear p (variable_type (environment_of k m)) m.body []))
    ∙ method_rules (is_known p m.result) wrong (is_no_result p m (body_type p k m)) (is_again method_name_of q) (are_known_params p m.params) (is_some (body_type p k m))
  where
    m : Method
    m = q.item

    wrong : Bool
    wrong = is_overridden_wrongly m (first_some (method_called m.name) (ancestors p k.name))

    params : List RuleAt
    params = flat_map (λ (q : Param). judged_at (site.Param k.name m.name m.alt q.slot) ((K1, not (is_known p q.of)) ∷ [])) m.params

    nodes : List RuleAt
    nodes = flat_map (λ (n : ℕ × List Ruling). judged_at (site.Node k.name m.name m.alt n.0) n.1) ((judged_of p (variable_type (environment_of k m)) m.body).rules [])

ctor_judged : (p : Table) (k : Class) → none_judged (judged_ctor p k) ≡ ctor_keeps p k
ctor_judged p k =
    ap (λ b. not (not takes) && (not (not sends) && (not (not assigns) && b))) (params_judged (λ q. site.CtorParam k.name q.slot) p k.ctor.params)
    ∙ ctor_rules takes sends assigns (are_known_params p k.ctor.params)
  where
    takes : Bool
    takes = takes_fields k.ctor.params (all_fields p k.name)

    sends : Bool
    sends = are_same (map (λ s. s.name) k.ctor.sends) (map (λ f. f.name) (all_fields p k.parent))

    assigns : Bool
    assigns = are_same (map (λ a. a.name) k.ctor.assigns) (map (λ f. f.name) k.fields)

fields_judged : (p : Table) (k : Class) → none_judged (flat_map (judged_field p k) (placed k.fields)) ≡ fields_keep p k
fields_judged p k =
    all_flat_map (λ (j : RuleAt). not j.breaks) (judged_field p k) (placed k.fields)
    ∙ all_same (λ (q : Placed Field). none_judged (judged_field p k q)) (λ (q : Placed Field). field_keeps p k q.item && not (is_again field_name_of q))
    (λ q. field_rules (is_known p q.item.of) (list_any (λ a. is_some (field_called q.item.name a)) (ancestors p k.name)) (is_again field_name_of q)) (placed k.fields)
    ∙ tested_apart field_name_of (field_keeps p k) k.fields

methods_judged : (p : Table) (k : Class) → none_judged (flat_map (judged_method p k) (placed k.methods)) ≡ methods_keep p k
methods_judged p k =
    all_flat_map (λ (j : RuleAt). not j.breaks) (judged_method p k) (placed k.methods)
    ∙ all_same (λ (q : Placed Method). none_judged (judged_method p k q)) (λ (q : Placed Method). method_keeps p k q.item && not (is_again method_name_of q)) (method_judged p k) (placed k.methods)
    ∙ tested_apart method_name_of (method_keeps p k) k.methods

class_judged : (p : Table) (k : Class) → none_judged (judged_class p k) ≡ class_keeps p k
class_judged p k =
    ap (λ b. not (not (is_known p k.parent)) && (not (extends_itself p k) && b))
    (list_all-append (λ (j : RuleAt). not j.breaks) fields (judged_ctor p k ++ methods)
    ∙ ap (λ b. b && none_judged (judged_ctor p k ++ methods)) (fields_judged p k)
    ∙ ap (λ b. fields_keep p k && b)
    (list_all-append (λ (j : RuleAt). not j.breaks) (judged_ctor p k) methods
    ∙ ap (λ b. b && none_judged methods) (ctor_judged p k)
    ∙ ap (λ b. ctor_keeps p k && b) (methods_judged p k)))
    ∙ two_and_more (is_known p k.parent) (extends_itself p k) (fields_keep p k && (ctor_keeps p k && methods_keep p k))
  where
    fields : List RuleAt
    fields = flat_map (judged_field p k) (placed k.fields)

    methods : List RuleAt
    methods = flat_map (judged_method p k) (placed k.methods)

table_judged : (p : Table) → none_judged (judged p) ≡ list_all (class_keeps p) p
unfolding judged
table_judged p =
    all_flat_map (λ (j : RuleAt). not j.breaks) (judged_class p) p ∙ all_same (λ (k : Class). none_judged (judged_class p k)) (class_keeps p) (class_judged p) p

-- No rule breaks exactly where each class keeps its rules.
pub quiet_keeps : (p : Table) → first_breaking p ≡ None → list_all (class_keeps p) p ≡ true
quiet_keeps p h =
    sym (table_judged p) ∙ has_all (λ (j : RuleAt). not j.breaks) (judged p) (λ j m. not_from_false j.breaks (find_none (λ (j : RuleAt). j.breaks) (judged p) (unfound (find (λ j. j.breaks) (judged p)) h) j m))
  where
    unfound : (o : Option RuleAt) → option_map pair_of o ≡ None → o ≡ None
    unfound None h = refl
    unfound (Some j) h = absurd (unlike (sym h))

pub keeps_quiet : (p : Table) → list_all (class_keeps p) p ≡ true → first_breaking p ≡ None
keeps_quiet p h =
    ap (option_map pair_of) (none_find (λ (j : RuleAt). j.breaks) (judged p) (λ j m. not-true j.breaks (all_has (λ (j : RuleAt). not j.breaks) (judged p) (table_judged p ∙ h) j m)))
