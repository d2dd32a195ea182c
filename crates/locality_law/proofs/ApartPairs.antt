-- No pair of a project stands in it twice.
use Rattle.std.proofs.Common.{◌≡◌, ℕ, true, false, not, nat_le, List, [], ◌∷◌, ◌++◌, map, refl, sym, ◌∙◌, ap, subst}
use Rattle.std.specs.List.{flat_map}
use Rattle.std.proofs.lemmas.List.{map-append}
use Rattle.cfj_model.specs.Expressions.{slots}
use Rattle.cfj_model.specs.Judging.{Pair, RuleAt, Ruling, environment_of, judged, judged_at, judged_class, judged_ctor, judged_expr, judged_field, judged_method, pair_of, pairs_of, rank}
use Rattle.cfj_model.specs.LookUps.{Table, is_known}
use Rattle.cfj_model.specs.Members.{Placed, placed, placed_behind}
use Rattle.cfj_model.specs.ProductLines.{IsProject, ProductLine}
use Rattle.cfj_model.specs.declared.class.Class.{Class}
use Rattle.cfj_model.specs.declared.class.Field.{Field}
use Rattle.cfj_model.specs.declared.class.Method.{Method}
use Rattle.cfj_model.specs.declared.class.Param.{Param}
use Rattle.cfj_model.specs.declared.site.Rule.{Rule}
use Rattle.cfj_model.specs.declared.site.Rule.TheVariants.{K1, K2, K3, K4, K5, K6, K7, K8, K9}
use Rattle.cfj_model.specs.declared.site.Site.{Site}
use Rattle.cfj_model.specs.declared.site.Site.TheVariants as site
use Rattle.locality_law.specs.Apart.{AreApart}
use Rattle.locality_law.proofs.ApartLists.{alts_apart, apart_by, apart_flat, apart_tested, names_apart, rising_apart}
use Rattle.locality_law.proofs.ClassUnits.{each_placed}
use Rattle.locality_law.proofs.Items.{Each, each_both, each_of}
use Rattle.locality_law.proofs.NodeSites.{AreRanked, no_more, stands}
use Rattle.locality_law.proofs.Told.{IsKept, IsMethodKept, kept_class}

-- ---- labels of sites

-- the parts of a class, in their order
abbrev kind_of : Site → ℕ
kind_of site.Model = 0
kind_of (site.Class c) = 1
kind_of (site.Field c f alt) = 2
kind_of (site.Ctor c) = 3
kind_of (site.CtorParam c i) = 4
kind_of (site.SuperArg c i) = 5
kind_of (site.Assign c i) = 6
kind_of (site.Method c m alt) = 7
kind_of (site.Param c m alt i) = 8
kind_of (site.Node c m alt n) = 9

abbrev class_of : Site → List ℕ
class_of site.Model = []
class_of (site.Class c) = c
class_of (site.Field c f alt) = c
class_of (site.Ctor c) = c
class_of (site.CtorParam c i) = c
class_of (site.SuperArg c i) = c
class_of (site.Assign c i) = c
class_of (site.Method c m alt) = c
class_of (site.Param c m alt i) = c
class_of (site.Node c m alt n) = c

abbrev member_of : Site → List ℕ × ℕ
member_of (site.Field c f alt) = (f, alt)
member_of (site.Method c m alt) = (m, alt)
member_of (site.Param c m alt i) = (m, alt)
member_of (site.Node c m alt n) = (m, alt)
member_of _ = ([], 0)

abbrev slot_of : Site → ℕ
slot_of (site.CtorParam c i) = i
slot_of (site.Param c m alt i) = i
slot_of (site.Node c m alt n) = n
slot_of _ = 0

-- ---- lists of judged rules

-- no pair twice
abbrev AreApartAt : List RuleAt → Type 0
AreApartAt js = AreApart (map pair_of js)

-- the sites have something
abbrev AtSites : (Site → Type 0) → List RuleAt → Type 0
AtSites P js = Each (λ (j : RuleAt). P j.site) js

at_one : (P : Site → Type 0) (s : Site) → P s → (vs : List Ruling) → AtSites P (judged_at s vs)
at_one P s h [] = tt
at_one P s h (v ∷ vs) = (h, at_one P s h vs)

at_all : {A : Type 0} (P : Site → Type 0) (f : A → List RuleAt) (xs : List A) → ((x : A) → AtSites P (f x)) → AtSites P (flat_map f xs)
at_all P f [] h = tt
at_all P f (x ∷ xs) h = each_both (λ (j : RuleAt). P j.site) (f x) (flat_map f xs) (h x) (at_all P f xs h)

to_pairs : (P : Site → Type 0) (js : List RuleAt) → AtSites P js → Each (λ (p : Pair). P p.0) (map pair_of js)
to_pairs P [] h = tt
to_pairs P (j ∷ js) h = (h.0, to_pairs P js h.1)

map_joined : {A : Type 0} (f : A → List RuleAt) (xs : List A) → map pair_of (flat_map f xs) ≡ flat_map (λ x. map pair_of (f x)) xs
map_joined f [] = refl
map_joined f (x ∷ xs) = map-append pair_of (f x) (flat_map f xs) ∙ ap (λ w. map pair_of (f x) ++ w) (map_joined f xs)

-- at one site the rules tell the pairs apart
one_apart : (s : Site) (vs : List Ruling) → AreRanked (0, vs) → AreApartAt (judged_at s vs)
one_apart s vs h = apart_by (λ (p : Pair). rank p.1) (map pair_of (judged_at s vs)) (subst AreApart (sym (ranks_are vs)) (rising_apart 0 (map (λ (v : Ruling). rank v.0) vs) h))
  where
    ranks_are : (ws : List Ruling) → map (λ (p : Pair). rank p.1) (map pair_of (judged_at s ws)) ≡ map (λ (v : Ruling). rank v.0) ws
    ranks_are [] = refl
    ranks_are (w ∷ ws) = ap (λ z. rank w.0 ∷ z) (ranks_are ws)

-- the pairs of these rules don't depend on what breaks
abbrev quiet : List Rule → List Ruling
quiet rules = map (λ r. (r, false)) rules

-- parts of different kinds, up to one and above it
kinds_apart : (n : ℕ) (js ks : List RuleAt) → AreApartAt js → AreApartAt ks → AtSites (λ s. nat_le (kind_of s) n ≡ true) js → AtSites (λ s. nat_le (kind_of s) n ≡ false) ks → AreApartAt (js ++ ks)
kinds_apart n js ks a b front back =
    subst AreApart (sym (map-append pair_of js ks))
    (apart_tested (λ (p : Pair). nat_le (kind_of p.0) n) (map pair_of js) (map pair_of ks) a b (to_pairs (λ s. nat_le (kind_of s) n ≡ true) js front) (to_pairs (λ s. nat_le (kind_of s) n ≡ false) ks back))

-- items whose keys are labels of their sites
items_apart : {A L : Type 0} (key : A → L) (label : Site → L) (f : A → List RuleAt) (xs : List A) → ((x : A) → AtSites (λ s. label s ≡ key x) (f x)) → Each (λ x. AreApartAt (f x)) xs → AreApart (map key xs)
    → AreApartAt (flat_map f xs)
items_apart {A} key label f xs labels each a =
    subst AreApart (sym (map_joined f xs))
    (apart_flat key (λ (p : Pair). label p.0) (λ x. map pair_of (f x)) xs (over xs) each a)
  where
    over : (ys : List A) → Each (λ x. Each (λ (p : Pair). label p.0 ≡ key x) (map pair_of (f x))) ys
    over [] = tt
    over (y ∷ ys) = (to_pairs (λ s. label s ≡ key y) (f y) (labels y), over ys)

each_item : {A : Type 0} (P : A → Type 0) (xs : List A) → ((x : A) → P x) → Each P xs
each_item P xs h = each_of P xs (λ x here. h x)

placed_keys : {A L : Type 0} (key : A → L) (before xs : List A) → map (λ (q : Placed A). key q.item) (placed_behind before xs) ≡ map key xs
placed_keys key before [] = refl
placed_keys key before (x ∷ xs) = ap (λ w. key x ∷ w) (placed_keys key (before ++ x ∷ []) xs)

-- ---- the sites of a class

abbrev Later : ℕ → Site → Type 0
Later n s = nat_le (kind_of s) n ≡ false

module _ (p : Table) (k : Class) where
  abbrev taken_rules : Param → List RuleAt
  taken_rules c = judged_at (site.CtorParam k.name c.slot) ((K1, not (is_known p c.of)) ∷ [])

  module _ (m : Method) where
    abbrev param_rules : Param → List RuleAt
    param_rules a = judged_at (site.Param k.name m.name m.alt a.slot) ((K1, not (is_known p a.of)) ∷ [])

    abbrev node_rules : ℕ × List Ruling → List RuleAt
    node_rules n = judged_at (site.Node k.name m.name m.alt n.0) n.1

    abbrev nodes : List (ℕ × List Ruling)
    nodes = (judged_expr p (environment_of k m) m.body).rules []

  -- what all sites of a method have
  of_method : (P : Site → Type 0) (q : Placed Method) → P (site.Method k.name q.item.name q.item.alt) → ((i : ℕ) → P (site.Param k.name q.item.name q.item.alt i)) → ((i : ℕ) → P (site.Node k.name q.item.name q.item.alt i))
      → AtSites P (judged_method p k q)
  of_method P q own params body =
      let m : Method = q.item in (
        own,
        (
          own,
          (
            own,
            (
              own,
              each_both (λ (j : RuleAt). P j.site) (flat_map (param_rules m) m.params) (flat_map (node_rules m) (nodes m)) (at_all P (param_rules m) m.params (λ a. (params a.slot, tt)))
                  (at_all P (node_rules m) (nodes m) (λ n. at_one P (site.Node k.name m.name m.alt n.0) (body n.0) n.1)),
            ),
          ),
        ),
      )

  abbrev behind_fields : List RuleAt
  behind_fields = judged_ctor p k ++ flat_map (judged_method p k) (placed k.methods)

  -- what the sites of a part have
  of_ctor : (P : Site → Type 0) → P (site.Ctor k.name) → ((i : ℕ) → P (site.CtorParam k.name i)) → AtSites P (judged_ctor p k)
  of_ctor P own params = (own, (own, (own, at_all P taken_rules k.ctor.params (λ c. (params c.slot, tt)))))

  of_methods : (P : Site → Type 0) → ((m : List ℕ) (alt : ℕ) → P (site.Method k.name m alt)) → ((m : List ℕ) (alt i : ℕ) → P (site.Param k.name m alt i)) → ((m : List ℕ) (alt i : ℕ) → P (site.Node k.name m alt i))
      → AtSites P (flat_map (judged_method p k) (placed k.methods))
  of_methods P own params body = at_all P (judged_method p k) (placed k.methods) (λ q. of_method P q (own q.item.name q.item.alt) (params q.item.name q.item.alt) (body q.item.name q.item.alt))

  of_fields : (P : Site → Type 0) → ((f : List ℕ) (alt : ℕ) → P (site.Field k.name f alt)) → AtSites P (flat_map (judged_field p k) (placed k.fields))
  of_fields P own = at_all P (judged_field p k) (placed k.fields) (λ f. (own f.item.name f.item.alt, (own f.item.name f.item.alt, (own f.item.name f.item.alt, tt))))

  of_behind : (P : Site → Type 0) → P (site.Ctor k.name) → ((i : ℕ) → P (site.CtorParam k.name i)) → ((m : List ℕ) (alt : ℕ) → P (site.Method k.name m alt)) → ((m : List ℕ) (alt i : ℕ) → P (site.Param k.name m alt i))
      → ((m : List ℕ) (alt i : ℕ) → P (site.Node k.name m alt i)) → AtSites P behind_fields
  of_behind P own params methods takes body =
      each_both (λ (j : RuleAt). P j.site) (judged_ctor p k) (flat_map (judged_method p k) (placed k.methods)) (of_ctor P own params) (of_methods P methods takes body)

-- ---- a class

module _ (p : Table) (k : Class) (kept : IsKept k) where
  field_label : (f : Placed Field) → AtSites (λ s. member_of s ≡ (f.item.name, f.item.alt)) (judged_field p k f)
  field_label f = (refl, (refl, (refl, tt)))

  fields_apart : AreApartAt (flat_map (judged_field p k) (placed k.fields))
  fields_apart =
      items_apart (λ (f : Placed Field). (f.item.name, f.item.alt)) member_of (judged_field p k) (placed k.fields) field_label
      (each_item (λ (f : Placed Field). AreApartAt (judged_field p k f)) (placed k.fields) (λ f. one_apart (site.Field k.name f.item.name f.item.alt) (quiet (K1 ∷ (K3 ∷ (K9 ∷ [])))) refl))
      (subst AreApart (sym (placed_keys (λ (f : Field). (f.name, f.alt)) [] k.fields)) (alts_apart (map (λ (f : Field). (f.name, f.alt)) k.fields) kept.fields_rise))

  taken_apart : AreApartAt (flat_map (taken_rules p k) k.ctor.params)
  taken_apart =
      items_apart (λ (c : Param). c.slot) slot_of (taken_rules p k) k.ctor.params (λ c. (refl, tt))
      (each_item (λ (c : Param). AreApartAt ((taken_rules p k) c)) k.ctor.params (λ c. one_apart (site.CtorParam k.name c.slot) (quiet (K1 ∷ [])) refl)) (rising_apart 0 (map (λ (c : Param). c.slot) k.ctor.params) kept.takes)

  ctor_apart : AreApartAt (judged_ctor p k)
  ctor_apart =
      kinds_apart 3 (judged_at (site.Ctor k.name) (quiet (K4 ∷ (K5 ∷ (K6 ∷ []))))) (flat_map (taken_rules p k) k.ctor.params) (one_apart (site.Ctor k.name) (quiet (K4 ∷ (K5 ∷ (K6 ∷ [])))) refl) taken_apart
      (at_one (λ s. nat_le (kind_of s) 3 ≡ true) (site.Ctor k.name) refl (quiet (K4 ∷ (K5 ∷ (K6 ∷ []))))) (at_all (Later 3) (taken_rules p k) k.ctor.params (λ c. (refl, tt)))

  module _ (m : Method) (inside : IsMethodKept m) where
    params_apart : AreApartAt (flat_map (param_rules p k m) m.params)
    params_apart =
        items_apart (λ (a : Param). a.slot) slot_of (param_rules p k m) m.params (λ a. (refl, tt))
        (each_item (λ (a : Param). AreApartAt (param_rules p k m a)) m.params (λ a. one_apart (site.Param k.name m.name m.alt a.slot) (quiet (K1 ∷ [])) refl)) (rising_apart 0 (map (λ (a : Param). a.slot) m.params) inside.params)

    nodes_apart : AreApartAt (flat_map (node_rules p k m) (nodes p k m))
    nodes_apart =
        items_apart (λ (n : ℕ × List Ruling). n.0) slot_of (node_rules p k m) (nodes p k m) (λ n. at_one (λ s. slot_of s ≡ n.0) (site.Node k.name m.name m.alt n.0) refl n.1)
        (over (nodes p k m) at.1) (subst AreApart (sym at.0) (rising_apart 0 (slots m.body) inside.nodes))
      where
        at : (map (λ (n : ℕ × List Ruling). n.0) (nodes p k m) ≡ slots m.body) × Each AreRanked (nodes p k m)
        at = stands p (environment_of k m) m.body [] no_more

        over : (ns : List (ℕ × List Ruling)) → Each AreRanked ns → Each (λ (n : ℕ × List Ruling). AreApartAt (node_rules p k m n)) ns
        over [] h = tt
        over (n ∷ ns) h = (one_apart (site.Node k.name m.name m.alt n.0) n.1 h.0, over ns h.1)

    parts_apart : AreApartAt (flat_map (param_rules p k m) m.params ++ flat_map (node_rules p k m) (nodes p k m))
    parts_apart =
        kinds_apart 8 (flat_map (param_rules p k m) m.params) (flat_map (node_rules p k m) (nodes p k m)) params_apart nodes_apart
        (at_all (λ s. nat_le (kind_of s) 8 ≡ true) (param_rules p k m) m.params (λ a. (refl, tt)))
        (at_all (Later 8) (node_rules p k m) (nodes p k m) (λ n. at_one (Later 8) (site.Node k.name m.name m.alt n.0) refl n.1))

    parts_later : AtSites (Later 7) (flat_map (param_rules p k m) m.params ++ flat_map (node_rules p k m) (nodes p k m))
    parts_later =
        each_both (λ (j : RuleAt). Later 7 j.site) (flat_map (param_rules p k m) m.params) (flat_map (node_rules p k m) (nodes p k m)) (at_all (Later 7) (param_rules p k m) m.params (λ a. (refl, tt)))
        (at_all (Later 7) (node_rules p k m) (nodes p k m) (λ n. at_one (Later 7) (site.Node k.name m.name m.alt n.0) refl n.1))

  method_apart : (q : Placed Method) → IsMethodKept q.item → AreApartAt (judged_method p k q)
  method_apart q inside =
      let m : Method = q.item in
      kinds_apart 7 (judged_at (site.Method k.name m.name m.alt) (quiet (K1 ∷ (K7 ∷ (K8 ∷ (K9 ∷ [])))))) (flat_map (param_rules p k m) m.params ++ flat_map (node_rules p k m) (nodes p k m)) (one_apart (site.Method k.name m.name m.alt) (quiet (K1 ∷ (K7 ∷ (K8 ∷ (K9 ∷ []))))) refl) (parts_apart m inside)
      (at_one (λ s. nat_le (kind_of s) 7 ≡ true) (site.Method k.name m.name m.alt) refl (quiet (K1 ∷ (K7 ∷ (K8 ∷ (K9 ∷ [])))))) (parts_later m inside)

  methods_apart : AreApartAt (flat_map (judged_method p k) (placed k.methods))
  methods_apart =
      items_apart (λ (q : Placed Method). (q.item.name, q.item.alt)) member_of (judged_method p k) (placed k.methods)
      (λ q. of_method p k (λ s. member_of s ≡ (q.item.name, q.item.alt)) q refl (λ i. refl) (λ i. refl))
      (over (placed k.methods) (each_placed IsMethodKept [] k.methods (each_of IsMethodKept k.methods kept.methods)))
      (subst AreApart (sym (placed_keys (λ (m : Method). (m.name, m.alt)) [] k.methods)) (alts_apart (map (λ (m : Method). (m.name, m.alt)) k.methods) kept.rise))
    where
      over : (qs : List (Placed Method)) → Each (λ (q : Placed Method). IsMethodKept q.item) qs → Each (λ (q : Placed Method). AreApartAt (judged_method p k q)) qs
      over [] h = tt
      over (q ∷ qs) h = (method_apart q h.0, over qs h.1)

  behind_apart : AreApartAt (behind_fields p k)
  behind_apart =
      kinds_apart 6 (judged_ctor p k) (flat_map (judged_method p k) (placed k.methods)) ctor_apart methods_apart (of_ctor p k (λ s. nat_le (kind_of s) 6 ≡ true) refl (λ i. refl))
      (of_methods p k (Later 6) (λ m alt. refl) (λ m alt i. refl) (λ m alt i. refl))

  members_apart : AreApartAt (flat_map (judged_field p k) (placed k.fields) ++ (behind_fields p k))
  members_apart =
      kinds_apart 2 (flat_map (judged_field p k) (placed k.fields)) (behind_fields p k) fields_apart behind_apart (of_fields p k (λ s. nat_le (kind_of s) 2 ≡ true) (λ f alt. refl))
      (of_behind p k (Later 2) refl (λ i. refl) (λ m alt. refl) (λ m alt i. refl) (λ m alt i. refl))

  class_apart : AreApartAt (judged_class p k)
  class_apart =
      kinds_apart 1 (judged_at (site.Class k.name) (quiet (K1 ∷ (K2 ∷ [])))) (flat_map (judged_field p k) (placed k.fields) ++ (behind_fields p k))
      (one_apart (site.Class k.name) (quiet (K1 ∷ (K2 ∷ []))) refl) members_apart (refl, (refl, tt))
      (each_both (λ (j : RuleAt). Later 1 j.site) (flat_map (judged_field p k) (placed k.fields)) (behind_fields p k) (of_fields p k (Later 1) (λ f alt. refl))
      (of_behind p k (Later 1) refl (λ i. refl) (λ m alt. refl) (λ m alt i. refl) (λ m alt i. refl)))

class_label : (p : Table) (k : Class) → AtSites (λ s. class_of s ≡ k.name) (judged_class p k)
class_label p k =
    let P : Site → Type 0 = λ s. class_of s ≡ k.name in (
      refl,
      (
        refl,
        each_both (λ (j : RuleAt). P j.site) (flat_map (judged_field p k) (placed k.fields)) (behind_fields p k) (of_fields p k P (λ f alt. refl))
            (of_behind p k P refl (λ i. refl) (λ m alt. refl) (λ m alt i. refl) (λ m alt i. refl)),
      ),
    )

-- ---- a project

pub pairs_apart : (line : ProductLine) → IsProject line → AreApart (pairs_of line.classes)
unfolding judged
pairs_apart line project =
    items_apart (λ (k : Class). k.name) class_of (judged_class line.classes) line.classes (class_label line.classes)
    (each_of (λ (k : Class). AreApartAt (judged_class line.classes k)) line.classes (λ k h. class_apart line.classes k (kept_class line project k h)))
    (names_apart (λ (k : Class). k.name) line.classes project.classes_distinct)
