-- A method of a variant is judged by what is seen of its class and of what it reaches.
use Rattle.std.proofs.Common.{◌≡◌, ℕ, ◌==◌, Bool, true, false, not, ◌&&◌, ◌||◌, nat_lt, cond, List, [], ◌∷◌, ◌++◌, map, Option, None, Some, option_map, refl, sym, ◌∙◌, ap, ap₂, arith}
use Rattle.std.specs.List.{find, flat_map, list_all}
use Rattle.std.specs.Option.{option_and_then}
use Rattle.std.specs.Str.{bytes_eq}
use Rattle.std.proofs.lemmas.Bool.{and_parts, eqb-true, ltb-true, or_left}
use Rattle.std.proofs.lemmas.List.{map-append}
use Rattle.std.proofs.lemmas.List.Folds.{list_any-append}
use Rattle.cfj_logic.specs.Selections.{Chosen}
use Rattle.cfj_logic.specs.Sides.{Sides}
use Rattle.cfj_model.specs.Judging.{JudgedExpr, RuleAt, Ruling, are_same, is_no_result, is_overridden_wrongly, judged_at, judged_expr, judged_method, param_type, variable_type}
use Rattle.cfj_model.specs.LookUps.{Table, ancestors, declared, first_some, is_known, method_called}
use Rattle.cfj_model.specs.Members.{Placed, alts_rise, is_again, method_alts_rise, method_name_of, placed, placed_behind}
use Rattle.cfj_model.specs.Projection.{is_present, presence_of, projected_class, projected_method}
use Rattle.cfj_model.specs.Typing.{Environment, classes_named_by, param_types, this}
use Rattle.cfj_model.specs.declared.class.Class.{Class}
use Rattle.cfj_model.specs.declared.class.Method.{Method}
use Rattle.cfj_model.specs.declared.class.Param.{Param}
use Rattle.cfj_model.specs.declared.site.Rule.TheVariants.{K1, K7, K8, K9}
use Rattle.cfj_model.specs.declared.site.Site.TheVariants as site
use Rattle.cfj_words.specs.Lists.{Has}
use Rattle.cfj_words.specs.Names.{is_among}
use Rattle.class_table.proofs.Without.{declared_name}
use Rattle.class_table.proofs.Members.{all_has, find_has, has_map, is_name, name_is, none_find}
use Rattle.unit_facts.specs.Facts.{method_at, signatures_of}
use Rattle.unit_facts.specs.Reach.{methods_called_by}
use Rattle.unit_facts.specs.Units.{is_declaration, placed_method, of_some, unit_judged}
use Rattle.unit_facts.specs.declared.unit.Unit.TheVariants as unit
use Rattle.locality_law.proofs.Bodies.{Agree, If, judged_same}
use Rattle.locality_law.proofs.Items.{Each, IsAlone, each_has, find_kept, flat_each, each_of, left_of}
use Rattle.locality_law.proofs.SeenChains.{SigSeen, sig_seen}
use Rattle.locality_law.proofs.SeenVariants.{AreNamedApart, declared_variant, first_present, shown, sig_in_variant, variant_of}

-- a method of a class with this name, which may have namesakes before it
abbrev pub judged_named : Table → List ℕ → Bool → Method → List RuleAt
judged_named p c again m =
    let body : JudgedExpr = judged_expr p (record { class = c; params = m.params }) m.body in
    judged_at (site.Method c m.name m.alt)
    ((K1, not (is_known p m.result))
    ∷ (K7, is_overridden_wrongly m (first_some (method_called m.name) (ancestors p c)))
    ∷ (K8, is_no_result p m body.type)
    ∷ (K9, again) ∷ [])
    ++ (flat_map (λ (q : Param). judged_at (site.Param c m.name m.alt q.slot) ((K1, not (is_known p q.of)) ∷ [])) m.params
    ++ flat_map (λ (n : ℕ × List Ruling). judged_at (site.Node c m.name m.alt n.0) n.1) (body.rules []))

named_is : (p : Table) (k : Class) (q : Placed Method) → judged_method p k q ≡ judged_named p k.name (is_again method_name_of q) q.item
named_is p k q = refl

-- ---- the same rules

-- an overridden method is seen by its signature
abbrev is_seen_wrongly : Method → Option SigSeen → Bool
is_seen_wrongly m None = false
is_seen_wrongly m (Some g) = not (are_same g.params (param_types m.params) && bytes_eq g.result m.result)

overridden_seen : (m : Method) (o : Option Method) → is_overridden_wrongly m o ≡ is_seen_wrongly m (option_map sig_seen o)
overridden_seen m None = refl
overridden_seen m (Some d) = refl

module _ (N K : List ℕ → Type 0) (p q : Table) (agree : Agree N K p q) where
  pub named_same : (c : List ℕ) (m : Method) → N c → N m.result → Each N (param_types m.params) → Each N (classes_named_by m.body) → K m.name → Each K (methods_called_by m.body)
      → (again : Bool) → judged_named p c again m ≡ judged_named q c again m
  named_same c m at result params names own calls again =
      ap (λ b. parts b (wrongly p) (no_result p (body p)) (params_of p) (body p)) (agree.known m.result result)
      ∙ ap (λ b. parts (is_known q m.result) b (no_result p (body p)) (params_of p) (body p)) wrongly_same
      ∙ ap (λ b. parts (is_known q m.result) (wrongly q) b (params_of p) (body p)) (result_same (body p).type bodies.1)
      ∙ ap (λ ps. parts (is_known q m.result) (wrongly q) (no_result q (body p)) ps (body p)) params_same
      ∙ ap (λ j. parts (is_known q m.result) (wrongly q) (no_result q j) (params_of q) j) bodies.0
    where
      g : Environment
      g = record { class = c; params = m.params }

      body : Table → JudgedExpr
      body t = judged_expr t g m.body

      wrongly : Table → Bool
      wrongly t = is_overridden_wrongly m (first_some (method_called m.name) (ancestors t c))

      no_result : Table → JudgedExpr → Bool
      no_result t j = is_no_result t m j.type

      params_of : Table → List RuleAt
      params_of t = flat_map (λ (q : Param). judged_at (site.Param c m.name m.alt q.slot) ((K1, not (is_known t q.of)) ∷ [])) m.params

      parts : Bool → Bool → Bool → List RuleAt → JudgedExpr → List RuleAt
      parts known overridden unfit ps j =
          judged_at (site.Method c m.name m.alt) ((K1, not known) ∷ (K7, overridden) ∷ (K8, unfit) ∷ (K9, again) ∷ [])
          ++ (ps ++ flat_map (λ (n : ℕ × List Ruling). judged_at (site.Node c m.name m.alt n.0) n.1) (j.rules []))

      wrongly_same : wrongly p ≡ wrongly q
      wrongly_same =
          overridden_seen m (first_some (method_called m.name) (ancestors p c))
          ∙ ap (is_seen_wrongly m) (agree.overridden c m.name at own)
          ∙ sym (overridden_seen m (first_some (method_called m.name) (ancestors q c)))

      result_same : (t : Option (List ℕ)) → If N t → is_no_result p m t ≡ is_no_result q m t
      result_same None h = refl
      result_same (Some t) h = ap not (agree.below t m.result h)

      params_same : params_of p ≡ params_of q
      params_same =
          flat_each (λ (a : Param). judged_at (site.Param c m.name m.alt a.slot) ((K1, not (is_known p a.of)) ∷ []))
          (λ (a : Param). judged_at (site.Param c m.name m.alt a.slot) ((K1, not (is_known q a.of)) ∷ [])) m.params
          (each_of (λ (a : Param). judged_at (site.Param c m.name m.alt a.slot) ((K1, not (is_known p a.of)) ∷ []) ≡ judged_at (site.Param c m.name m.alt a.slot) ((K1, not (is_known q a.of)) ∷ [])) m.params
          (λ a h. ap (λ b. judged_at (site.Param c m.name m.alt a.slot) ((K1, not b) ∷ [])) (agree.known a.of (each_has N (param_types m.params) params a.of (has_map (λ (b : Param). b.of) m.params a h)))))

      in_params : (x : List ℕ) (o : Option Param) → find (λ (a : Param). bytes_eq a.name x) m.params ≡ o → If N (option_map (λ (a : Param). a.of) o)
      in_params x None e = tt
      in_params x (Some a) e = each_has N (param_types m.params) params a.of (has_map (λ (b : Param). b.of) m.params a (find_has (λ (b : Param). bytes_eq b.name x) m.params a e).0)

      in_env : (x : List ℕ) → If N (variable_type g x)
      in_env x = go (bytes_eq x this)
        where
          go : (b : Bool) → If N (cond b (Some c) (param_type m.params x))
          go true = at
          go false = in_params x (find (λ (a : Param). bytes_eq a.name x) m.params) refl

      bodies : (body p ≡ body q) × If N (body p).type
      bodies = judged_same N K p q agree g in_env m.body names calls

-- ---- found by name and alt

-- what is found among items with those before them
placed_found : {A : Type 0} (test : A → Bool) (before xs : List A) → option_map (λ (q : Placed A). q.item) (find (λ (q : Placed A). test q.item) (placed_behind before xs)) ≡ find test xs
placed_found test before [] = refl
placed_found {A} test before (x ∷ xs) = go (test x) (placed_found test (before ++ x ∷ []) xs)
  where
    rest : Option (Placed A)
    rest = find (λ (q : Placed A). test q.item) (placed_behind (before ++ x ∷ []) xs)

    go : (b : Bool) → option_map (λ (q : Placed A). q.item) rest ≡ find test xs → option_map (λ (q : Placed A). q.item) (cond b (Some (record { before = before; item = x })) rest) ≡ cond b (Some x) (find test xs)
    go true ih = refl
    go false ih = ih

pub method_found : (m : List ℕ) (alt : ℕ) (k : Class) → option_map (λ (q : Placed Method). q.item) (placed_method m alt k) ≡ find (is_declaration m alt) k.methods
method_found m alt k = placed_found (is_declaration m alt) [] k.methods

-- a method that is there, and its class
pub class_of_method : (p : Table) (c m : List ℕ) (alt : ℕ) (d : Method) → method_at p c m alt ≡ Some d → (k : Class) × (declared p c ≡ Some k) × (find (is_declaration m alt) k.methods ≡ Some d)
class_of_method p c m alt d e = go (declared p c) refl e
  where
    go : (o : Option Class) → declared p c ≡ o → option_and_then (λ k. option_map (λ (q : Placed Method). q.item) (placed_method m alt k)) o ≡ Some d
        → (k : Class) × (declared p c ≡ Some k) × (find (is_declaration m alt) k.methods ≡ Some d)
    go None q f = absurd (let none : ⊥ = cc f in none)
    go (Some k) q f = (k, q, sym (method_found m alt k) ∙ f)

-- where alts rise, a name and an alt tell a method apart
pub rise_alone : (m : List ℕ) (alt : ℕ) (ds : List Method) → method_alts_rise ds ≡ true → IsAlone (is_declaration m alt) ds
rise_alone m alt [] e = tt
rise_alone m alt (x ∷ xs) e = (λ here. none_find (is_declaration m alt) xs (other here), rise_alone m alt xs parts.1)
  where
    key : Method → List ℕ × ℕ
    key d = (d.name, d.alt)

    above : List ℕ × ℕ → Bool
    above n = not (bytes_eq n.0 x.name) || nat_lt x.alt n.1

    parts : (list_all above (map key xs) ≡ true) × (alts_rise (map key xs) ≡ true)
    parts = and_parts (list_all above (map key xs)) (alts_rise (map key xs)) e

    never : (y : Method) → above (key y) ≡ true → bytes_eq y.name x.name ≡ true → x.alt ≡ y.alt → ⊥
    never y up named alts = omega (arith, ltb-true x.alt y.alt (sym (ap (λ b. not b || nat_lt x.alt y.alt) named) ∙ up), alts)

    other : is_declaration m alt x ≡ true → (y : Method) → Has xs y → is_declaration m alt y ≡ false
    other here y h = go (is_declaration m alt y) refl
      where
        first : (bytes_eq x.name m ≡ true) × ((x.alt == alt) ≡ true)
        first = and_parts (bytes_eq x.name m) (x.alt == alt) here

        go : (b : Bool) → is_declaration m alt y ≡ b → b ≡ false
        go false q = refl
        go true q =
            let second = and_parts (bytes_eq y.name m) (y.alt == alt) q in
            absurd (never y (all_has above (map key xs) parts.0 (key y) (has_map key xs y h))
            (is_name y.name x.name (name_is y.name m second.0 ∙ sym (name_is x.name m first.0)))
            (eqb-true x.alt alt first.1 ∙ sym (eqb-true y.alt alt second.1)))

-- ---- namesakes before

-- the first declaration of a name has this alt
abbrev pub is_first : ℕ → Option SigSeen → Bool
is_first alt None = false
is_first alt (Some g) = g.alt == alt

more_before : (m : List ℕ) (before : List Method) (x : Method) → is_among (map method_name_of (before ++ x ∷ [])) m ≡ (is_among (map method_name_of before) m || (bytes_eq x.name m || false))
more_before m before x =
    ap (λ ns. is_among ns m) (map-append method_name_of before (x ∷ [])) ∙ list_any-append (λ n. bytes_eq n m) (map method_name_of before) (x.name ∷ [])

stays_again : (m : List ℕ) (alt : ℕ) (before xs : List Method) (q : Placed Method) → find (λ (q : Placed Method). is_declaration m alt q.item) (placed_behind before xs) ≡ Some q
    → is_among (map method_name_of before) m ≡ true → is_among (map method_name_of q.before) m ≡ true
stays_again m alt before [] q e h = absurd (let none : ⊥ = cc e in none)
stays_again m alt before (x ∷ xs) q e h = go (stays_again m alt (before ++ x ∷ []) xs q) (is_declaration m alt x) e
  where
    rest : Option (Placed Method)
    rest = find (λ (q : Placed Method). is_declaration m alt q.item) (placed_behind (before ++ x ∷ []) xs)

    go : (rest ≡ Some q → is_among (map method_name_of (before ++ x ∷ [])) m ≡ true → is_among (map method_name_of q.before) m ≡ true)
        → (b : Bool) → cond b (Some (record { before = before; item = x })) rest ≡ Some q → is_among (map method_name_of q.before) m ≡ true
    go ih true f = let s : before ≡ q.before = cc f in ap (λ w. is_among (map method_name_of w) m) (sym s) ∙ h
    go ih false f = ih f (more_before m before x ∙ or_left (is_among (map method_name_of before) m) (bytes_eq x.name m || false) h)

-- a method that is found by name and alt stands behind a namesake exactly where the first of its name has another alt
again_among : (m : List ℕ) (alt : ℕ) (before xs : List Method) (q : Placed Method) → find (λ (q : Placed Method). is_declaration m alt q.item) (placed_behind before xs) ≡ Some q
    → is_among (map method_name_of before) m ≡ false → is_among (map method_name_of q.before) m ≡ not (is_first alt (option_map sig_seen (find (λ d. bytes_eq d.name m) xs)))
again_among m alt before [] q e h = absurd (let none : ⊥ = cc e in none)
again_among m alt before (x ∷ xs) q e h = go (again_among m alt (before ++ x ∷ []) xs q) (bytes_eq x.name m) refl (x.alt == alt) refl e
  where
    rest : Option (Placed Method)
    rest = find (λ (q : Placed Method). is_declaration m alt q.item) (placed_behind (before ++ x ∷ []) xs)

    go : (rest ≡ Some q → is_among (map method_name_of (before ++ x ∷ [])) m ≡ false → is_among (map method_name_of q.before) m ≡ not (is_first alt (option_map sig_seen (find (λ d. bytes_eq d.name m) xs))))
        → (b : Bool) → bytes_eq x.name m ≡ b → (c : Bool) → (x.alt == alt) ≡ c → cond (b && c) (Some (record { before = before; item = x })) rest ≡ Some q
        → is_among (map method_name_of q.before) m ≡ not (is_first alt (option_map sig_seen (cond b (Some x) (find (λ d. bytes_eq d.name m) xs))))
    go ih true r true t f = let s : before ≡ q.before = cc f in ap (λ w. is_among (map method_name_of w) m) (sym s) ∙ h ∙ sym (ap not t)
    go ih true r false t f =
        stays_again m alt (before ++ x ∷ []) xs q f (more_before m before x ∙ ap₂ (λ a b. a || (b || false)) h r) ∙ sym (ap not t)
    go ih false r c t f = ih f (more_before m before x ∙ ap₂ (λ a b. a || (b || false)) h r)

again_known : (m : List ℕ) (alt : ℕ) (k : Class) (q : Placed Method) → placed_method m alt k ≡ Some q → is_again method_name_of q ≡ not (is_first alt (option_map sig_seen (method_called m k)))
again_known m alt k q e =
    let test = (find_has (λ (q : Placed Method). is_declaration m alt q.item) (placed k.methods) q e).1 in
    ap (is_among (map method_name_of q.before)) (name_is q.item.name m (and_parts (bytes_eq q.item.name m) (q.item.alt == alt) test).0)
    ∙ again_among m alt [] k.methods q e refl

-- ---- a method's unit in a variant

-- by the colours of its class, the signatures of its name and the declaration itself
abbrev pub shown_method : Table → Chosen → List ℕ → ℕ → Sides → Option SigSeen → Method → List RuleAt
shown_method p s c alt around first d =
    cond (is_present s around)
    (of_some (judged_named p c (not (is_first alt first))) (cond (is_present s (presence_of around d.colors)) (Some (projected_method s around d)) None))
    []

pub method_unit : (s : Chosen) (p : Table) → AreNamedApart p → (c m : List ℕ) (alt : ℕ) (k : Class) (d : Method) → declared p c ≡ Some k → method_alts_rise k.methods ≡ true
    → find (is_declaration m alt) k.methods ≡ Some d
    → unit_judged (variant_of s p) (unit.Method c m alt) ≡ shown_method (variant_of s p) s c alt k.colors (first_present s k.colors (signatures_of m k)) d
method_unit s p apart c m alt k d found rise here =
    ap (of_some inside) (declared_variant s p apart c) ∙ ap (λ o. of_some inside (option_and_then (shown s) o)) found ∙ go (is_present s k.colors)
  where
    t : Table
    t = variant_of s p

    v : Class
    v = projected_class s k

    inside : Class → List RuleAt
    inside w = of_some (judged_method t w) (placed_method m alt w)

    again : Bool
    again = not (is_first alt (first_present s k.colors (signatures_of m k)))

    keeps : Method → Bool
    keeps e = is_present s (presence_of k.colors e.colors)

    left : Option Method
    left = cond (keeps d) (Some (projected_method s k.colors d)) None

    item_is : option_map (λ (q : Placed Method). q.item) (placed_method m alt v) ≡ left
    item_is =
        method_found m alt v
        ∙ find_kept (projected_method s k.colors) keeps (is_declaration m alt) (is_declaration m alt) (λ e. refl) k.methods (rise_alone m alt k.methods rise)
        ∙ ap (option_and_then (left_of (projected_method s k.colors) keeps)) here

    at : (o : Option (Placed Method)) → placed_method m alt v ≡ o → of_some (judged_method t v) o ≡ of_some (judged_named t c again) left
    at None e = ap (of_some (judged_named t c again)) (ap (option_map (λ (q : Placed Method). q.item)) (sym e) ∙ item_is)
    at (Some q) e =
        ap₂ (λ n b. judged_named t n b q.item) (declared_name p c k found) (again_known m alt v q e ∙ ap (λ o. not (is_first alt o)) (sig_in_variant s k.colors m k.methods))
        ∙ ap (of_some (judged_named t c again)) (ap (option_map (λ (q : Placed Method). q.item)) (sym e) ∙ item_is)

    go : (b : Bool) → of_some inside (cond b (Some v) None) ≡ cond b (of_some (judged_named t c again) left) []
    go true = at (placed_method m alt v) refl
    go false = refl
