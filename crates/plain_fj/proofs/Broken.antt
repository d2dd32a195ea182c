-- The pairs that break, part by part: lists that grow by what breaks.
use Rattle.std.proofs.Common.{◌≡◌, ℕ, zero, suc, ◌+◌, ◌<◌, ◌≤◌, Bool, true, false, ◌||◌, cond, List, [], ◌∷◌, ◌++◌, length, map, drop, take, slice_get, slice_index_or, Option, None, Some, is_some, option_map, Bor, refl, sym, ◌∙◌, ap, ap₂, subst}
use Rattle.std.specs.Prelude.{◌↔◌, Result, Ok, Err, OnOk}
use Rattle.std.specs.List.{list_any, find, filter, flat_map}
use Rattle.std.specs.Option.{option_copied}
use Rattle.std.proofs.lemmas.List.{append-nil, map-append}
use Rattle.std.proofs.lemmas.List.Elements.{filter-append}
use Rattle.cfj_model.specs.LookUps.{Table, ancestors, field_called, first_some}
use Rattle.cfj_model.specs.Judging.{Breaks, RuleAt, JudgedExpr, Pair, Ruling, environment_of, first_breaking, judged, judged_at, judged_class, judged_expr, pair_of}
use Rattle.cfj_model.specs.ProductLines.{ProductLine, IsProject}
use Rattle.cfj_model.specs.Typing.{IsWellTyped}
use Rattle.cfj_words.specs.Lists.{Has}
use Rattle.cfj_model.specs.declared.class.Class.{Class}
use Rattle.cfj_model.specs.declared.class.Field.{Field}
use Rattle.cfj_model.specs.declared.class.Method.{Method}
use Rattle.cfj_model.specs.declared.class.Param.{Param}
use Rattle.cfj_model.specs.declared.site.Rule.{Rule}
use Rattle.cfj_model.specs.declared.site.Site.{Site}
use Rattle.class_table.specs.ByName.{seen}
use Rattle.class_table.proofs.Members.{has_none, has_rest, has_map, has_filter, filter_has}
use Rattle.plain_fj.specs.Breaking.{Adds, AddsAtNodes, breaking, broken, told}
use Rattle.plain_fj.specs.declared.node_break.NodeBreak.{NodeBreak}
use Rattle.plain_fj.specs.declared.site_break.Break.{Break}
use Rattle.plain_fj.proofs.Growing.{grows_all, grows_as, grows_more, grows_then}
use Rattle.plain_fj.proofs.TypeLists.{drop_at, take_more}
use Rattle.plain_fj.proofs.Law.{well_typed_project}

-- ---- lists of what is judged

pub broken_append : (js ks : List RuleAt) → broken (js ++ ks) ≡ broken js ++ broken ks
broken_append js ks =
    ap (map pair_of) (filter-append (λ (j : RuleAt). j.breaks) js ks) ∙ map-append pair_of (filter (λ (j : RuleAt). j.breaks) js) (filter (λ (j : RuleAt). j.breaks) ks)

-- what is added first, and then
pub adds_then : (a b c : List Break) (js ks : List RuleAt) → Adds a b js → Adds b c ks → Adds a c (js ++ ks)
adds_then a b c js ks first next = grows_then told broken broken_append a b c js ks first next

pub adds_none : (a : List Break) → Adds a a []
adds_none a = sym (append-nil (map told a))

pub adds_as : (a b : List Break) (js ks : List RuleAt) → broken js ≡ broken ks → Adds a b js → Adds a b ks
adds_as a b js ks same adds = grows_as told broken broken_append a b js ks same adds

-- what is added where there is memory for it
pub then_added : {X E : Type 0} (a b c : List Break) (js ks : List RuleAt) (r : Result X E) → Adds a b js → OnOk r (Adds b c ks) → OnOk r (Adds a c (js ++ ks))
then_added a b c js ks (Ok x) first next = adds_then a b c js ks first next
then_added a b c js ks (Err e) first next = tt

-- a rule at a site, by whether it breaks there
pub noted : (s : Site) (r : Rule) (c d : Bool) (a b : List Break) → c ≡ d → Adds a b (judged_at s ((r, c) ∷ [])) → Adds a b (judged_at s ((r, d) ∷ []))
noted s r c d a b same adds = subst (λ z. Adds a b (judged_at s ((r, z) ∷ []))) same adds

pub noted_where : {X E : Type 0} (s : Site) (r : Rule) (c d : Bool) (a b : List Break) (o : Result X E) → c ≡ d → OnOk o (Adds a b (judged_at s ((r, c) ∷ []))) → OnOk o (Adds a b (judged_at s ((r, d) ∷ [])))
noted_where s r c d a b o same adds = subst (λ z. OnOk o (Adds a b (judged_at s ((r, z) ∷ [])))) same adds

-- three rules at a site
pub three_noted : (s : Site) (u v w : Ruling) (a b c d : List Break) → Adds a b (judged_at s (u ∷ [])) → Adds b c (judged_at s (v ∷ [])) → Adds c d (judged_at s (w ∷ [])) → Adds a d (judged_at s (u ∷ (v ∷ (w ∷ []))))
three_noted s u v w a b c d first second third =
    adds_then a b d (judged_at s (u ∷ [])) (judged_at s (v ∷ (w ∷ []))) first (adds_then b c d (judged_at s (v ∷ [])) (judged_at s (w ∷ [])) second third)

-- four rules at a site
pub four_noted : (s : Site) (u v w x : Ruling) (a b c d e : List Break) → Adds a b (judged_at s (u ∷ [])) → Adds b c (judged_at s (v ∷ [])) → Adds c d (judged_at s (w ∷ [])) → Adds d e (judged_at s (x ∷ []))
    → Adds a e (judged_at s (u ∷ (v ∷ (w ∷ (x ∷ [])))))
four_noted s u v w x a b c d e first second third last =
    adds_then a b e (judged_at s (u ∷ [])) (judged_at s (v ∷ (w ∷ (x ∷ [])))) first (three_noted s v w x b c d e second third last)

-- the same, where it breaks as other rules do
pub then_added_as : {X E : Type 0} (a b c : List Break) (js ks ls : List RuleAt) (r : Result X E) → broken ks ≡ broken ls → Adds a b js → OnOk r (Adds b c ks) → OnOk r (Adds a c (js ++ ls))
then_added_as a b c js ks ls (Ok x) same first next = adds_then a b c js ls first (adds_as b c ks ls same next)
then_added_as a b c js ks ls (Err e) same first next = tt

-- ---- one after another

-- the item at a place of items that are read, and those behind it
pub drop_item : {A : Type 0} (xs ys : List A) (i : ℕ) (x : A) → ys ≡ xs → i < length ys → x ≡ slice_index_or ys i x → drop i xs ≡ x ∷ drop (i + 1) xs
drop_item xs ys i x read lt at = ap (drop i) (sym read) ∙ drop_at ys i x lt at ∙ ap (λ zs. x ∷ drop (i + 1) zs) read

module _ {A : Type 0} (of : A → List RuleAt) (xs : List A) (i : ℕ) (a b : List Break) where
  -- with what is judged of the items from the place on, all is added
  abbrev pub IsAddedUpTo : Type 0
  IsAddedUpTo = map told b ++ broken (flat_map of (drop i xs)) ≡ map told a ++ broken (flat_map of xs)

  pub added_more : (x : A) (c : List Break) → IsAddedUpTo → drop i xs ≡ x ∷ drop (i + 1) xs → Adds b c (of x)
      → map told c ++ broken (flat_map of (drop (i + 1) xs)) ≡ map told a ++ broken (flat_map of xs)
  added_more x c so_far at adds = grows_more told broken broken_append of xs i a b x c so_far at adds

  pub added_all : IsAddedUpTo → length xs ≤ i → Adds a b (flat_map of xs)
  added_all so_far le = grows_all told broken broken_append of xs i a b refl so_far le

  pub added_all_read : IsAddedUpTo → (ys : List A) → ys ≡ xs → length ys ≤ i → Adds a b (flat_map of xs)
  added_all_read so_far ys read le = added_all so_far (subst (λ z. length z ≤ i) read le)

-- ---- fields

fields_above : (f : List ℕ) (ks : List Class) → is_some (first_some (field_called f) ks) ≡ list_any (λ a. is_some (field_called f a)) ks
fields_above f [] = refl
fields_above f (k ∷ ks) = go (field_called f k) (fields_above f ks)
  where
    go : (o : Option Field) → is_some (first_some (field_called f) ks) ≡ list_any (λ a. is_some (field_called f a)) ks
        → is_some (cond (is_some o) o (first_some (field_called f) ks)) ≡ (is_some o || list_any (λ a. is_some (field_called f a)) ks)
    go None ih = ih
    go (Some x) ih = refl

-- an ancestor declares a field of this name exactly where the nearest such field is found
pub field_hidden : (p : Table) (c f : List ℕ) (ks : List (Bor Class)) (o : Option (Bor Field)) → seen ks ≡ ancestors p c → option_copied o ≡ first_some (field_called f) (seen ks)
    → is_some o ≡ list_any (λ a. is_some (field_called f a)) (ancestors p c)
field_hidden p c f ks o above found =
    copied o ∙ ap is_some found ∙ fields_above f (seen ks) ∙ ap (list_any (λ a. is_some (field_called f a))) above
  where
    copied : (o : Option (Bor Field)) → is_some o ≡ is_some (option_copied o)
    copied None = refl
    copied (Some x) = refl

-- ---- bodies

module _ (p : Table) (k : Class) (m : Method) (ps : List Param) (named : ps ≡ m.params) where
  -- the body as it is judged over parameters that are read
  abbrev body : List Param → JudgedExpr
  body qs = judged_expr p (record { class = k.name; params = qs }) m.body

  pub body_type : (o : Option (List ℕ)) → o ≡ (body ps).type → o ≡ (judged_expr p (environment_of k m) m.body).type
  body_type o typed = typed ∙ ap (λ qs. (body qs).type) named

  pub body_adds : (a b : List NodeBreak) → AddsAtNodes a b ((body ps).rules []) → AddsAtNodes a b ((judged_expr p (environment_of k m) m.body).rules [])
  body_adds a b adds = subst (λ qs. AddsAtNodes a b ((body qs).rules [])) named adds

-- ---- projects

pub class_of_table : (p q : Table) (k : Class) (a b : List Break) → q ≡ p → Adds a b (judged_class q k) → Adds a b (judged_class p k)
class_of_table p q k a b same adds = subst (λ z. Adds a b (judged_class z k)) same adds

pub all_judged : (p : Table) → broken (flat_map (judged_class p) p) ≡ breaking p
unfolding judged
all_judged p = refl

-- a rule breaks at a site exactly where the pair is among those that break
pub has_broken : (p : Table) (found : List Pair) → found ≡ breaking p → (s : Site) (r : Rule) → Breaks p s r ↔ Has found (s, r)
has_broken p found is s r = (
  λ h. subst (λ z. Has z (s, r)) (sym is) (has_map pair_of (filter (λ (j : RuleAt). j.breaks) (judged p)) (record { site = s; rule = r; breaks = true }) (has_filter (λ (j : RuleAt). j.breaks) (judged p) (record { site = s; rule = r; breaks = true }) h refl)),
  λ h. back (unmapped (filter (λ (j : RuleAt). j.breaks) (judged p)) (subst (λ z. Has z (s, r)) is h)),
)
  where
    IsPair : List RuleAt → Type 0
    IsPair js = (j : RuleAt) × Has js j × (pair_of j ≡ (s, r))

    unmapped : (js : List RuleAt) → Has (map pair_of js) (s, r) → IsPair js
    unmapped [] h = absurd (has_none (s, r) h)
    unmapped (j ∷ js) (zero, e) = (j, (0, refl), cc e)
    unmapped (j ∷ js) (suc k, e) = let rest = unmapped js (k, e) in (rest.0, has_rest j js rest.0 rest.1, rest.2)

    back : IsPair (filter (λ (j : RuleAt). j.breaks) (judged p)) → Breaks p s r
    back (j, h, e) =
        let kept = filter_has (λ (j : RuleAt). j.breaks) (judged p) j h in
        subst (Has (judged p)) (same j kept.1 e) kept.0
      where
        same : (j : RuleAt) → j.breaks ≡ true → pair_of j ≡ (s, r) → j ≡ record { site = s; rule = r; breaks = true }
        same j b e =
            ap₂ (λ (q : Pair) (b : Bool). let w : RuleAt = record { site = q.0; rule = q.1; breaks = b } in w) e b

-- one more pair
pub told_more : (xs : List Break) (i : ℕ) (x : Break) (ps qs : List Pair) (q : Pair) → ps ≡ map told (take i xs) → i < length xs → x ≡ slice_index_or xs i x → q ≡ told x → qs ≡ ps ++ q ∷ []
    → qs ≡ map told (take (i + 1) xs)
told_more xs i x ps qs q so_far lt at is pushed =
    pushed ∙ ap₂ (λ z w. z ++ w ∷ []) so_far is ∙ sym (map-append told (take i xs) (x ∷ [])) ∙ ap (map told) (sym (take_more xs i x lt at))

first_kept : (js : List RuleAt) → slice_get (broken js) 0 ≡ option_map pair_of (find (λ (j : RuleAt). j.breaks) js)
first_kept [] = refl
first_kept (j ∷ js) = go j.breaks (first_kept js)
  where
    go : (b : Bool) → slice_get (broken js) 0 ≡ option_map pair_of (find (λ (j : RuleAt). j.breaks) js)
        → slice_get (map pair_of (cond b (j ∷ filter (λ (j : RuleAt). j.breaks) js) (filter (λ (j : RuleAt). j.breaks) js))) 0
        ≡ option_map pair_of (cond b (Some j) (find (λ (j : RuleAt). j.breaks) js))
    go true ih = refl
    go false ih = ih

map_get : (xs : List Break) (i : ℕ) → slice_get (map told xs) i ≡ option_map told (slice_get xs i)
map_get [] i = refl
map_get (x ∷ xs) zero = refl
map_get (x ∷ xs) (suc i) = map_get xs i

-- the first of the breaks is the first pair that breaks
pub first_is : (p : Table) (xs ys : List Break) (o : Option (Bor Break)) → map told xs ≡ breaking p → ys ≡ xs → option_copied o ≡ slice_get ys 0 → option_map (λ x. told x.now) o ≡ first_breaking p
first_is p xs ys o all read is =
    copied o ∙ ap (option_map told) (is ∙ ap (λ z. slice_get z 0) read) ∙ sym (map_get xs 0) ∙ ap (λ z. slice_get z 0) all ∙ first_kept (judged p)
  where
    copied : (o : Option (Bor Break)) → option_map (λ x. told x.now) o ≡ option_map told (option_copied o)
    copied None = refl
    copied (Some x) = refl

-- what is found first is nothing exactly where the project is well typed
pub typed_where_none : (q : ProductLine) → IsProject q → (o : Option Pair) → o ≡ first_breaking q.classes → IsWellTyped q.classes ↔ (o ≡ None)
typed_where_none q project o first = subst (λ z. IsWellTyped q.classes ↔ (z ≡ None)) (sym first) (well_typed_project q project)
