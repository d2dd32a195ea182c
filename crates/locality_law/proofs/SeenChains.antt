-- Chains and look-ups see a class only as others see it: what is seen alike is looked up alike.
use Rattle.std.proofs.Common.{◌≡◌, ◌⊎◌, inl, inr, ℕ, zero, suc, ◌≤◌, Bool, true, false, not, ◌||◌, cond, List, [], ◌∷◌, ◌++◌, length, map, Option, None, Some, is_some, option_map, refl, sym, ◌∙◌, ap, ap₂, arith}
use Rattle.std.specs.List.{find, filter, list_any}
use Rattle.std.specs.Str.{bytes_eq}
use Rattle.cfj_model.specs.LookUps.{Table, added, all_fields, ancestors, chain, chain_in, declared, field_called, field_of, fields_of, first_some, is_subtype, method_called, method_of, without}
use Rattle.cfj_model.specs.declared.class.Class.{Class}
use Rattle.cfj_model.specs.Typing.{param_types}
use Rattle.cfj_model.specs.declared.class.Field.{Field}
use Rattle.cfj_model.specs.declared.class.Method.{Method}
use Rattle.class_table.proofs.Without.{declared_before, others, taken, without_lt}
use Rattle.class_table.proofs.Members.{names_tell, unlike}
use Rattle.locality_law.proofs.Items.{Each}

none_declared : (p : Table) (n : List ℕ) → length p ≤ 0 → declared p n ≡ None
none_declared [] n le = refl
none_declared (k ∷ ks) n le = absurd (omega arith)

-- ---- chains

module _ {V : Type 0} (view : Class → V) (parent : V → List ℕ) (parent_is : (k : Class) → parent (view k) ≡ k.parent) (N : List ℕ → Type 0) where
  -- the classes of these names are seen alike
  abbrev pub AreAlike : Table → Table → Type 0
  AreAlike p q = (n : List ℕ) → N n → option_map view (declared p n) ≡ option_map view (declared q n)

  -- their superclasses are among them
  abbrev pub IsClosed : Table → Type 0
  IsClosed p = (n : List ℕ) (k : Class) → N n → declared p n ≡ Some k → N k.parent

  alike_without : (p q : Table) (n : List ℕ) → AreAlike p q → AreAlike (without n p) (without n q)
  alike_without p q n alike m at = go (names_tell m n)
    where
      gone : (t : Table) → m ≡ n → option_map view (declared (without n t) m) ≡ None
      gone t s = ap (λ w. option_map view (declared (without n t) w)) s ∙ ap (option_map view) (taken t n)

      go : (m ≡ n) ⊎ (m ≡ n → ⊥) → option_map view (declared (without n p) m) ≡ option_map view (declared (without n q) m)
      go (inl s) = gone p s ∙ sym (gone q s)
      go (inr ne) = ap (option_map view) (others p n m ne) ∙ alike m at ∙ sym (ap (option_map view) (others q n m ne))

  closed_without : (p : Table) (n : List ℕ) → IsClosed p → IsClosed (without n p)
  closed_without p n closed m k at e = closed m k at (declared_before p n m k e)

  no_view : (o : Option Class) (more : Class → List Class) → option_map view o ≡ None → map view (added more o) ≡ []
  no_view None more e = refl
  no_view (Some k) more e = absurd (unlike (sym e))

  seen_in : (a b : ℕ) (p q : Table) → length p ≤ a → length q ≤ b → AreAlike p q → IsClosed p → (n : List ℕ) → N n
      → map view (chain_in a p n) ≡ map view (chain_in b q n)
  unfolding chain_in
  seen_in zero zero p q lp lq alike closed n at = refl
  seen_in zero (suc b) p q lp lq alike closed n at =
      sym (no_view (declared q n) (λ c. chain_in b (without n q) c.parent) (sym (alike n at) ∙ ap (option_map view) (none_declared p n lp)))
  seen_in (suc a) zero p q lp lq alike closed n at =
      no_view (declared p n) (λ c. chain_in a (without n p) c.parent) (alike n at ∙ ap (option_map view) (none_declared q n lq))
  seen_in (suc a) (suc b) p q lp lq alike closed n at =
      go (λ l r. seen_in a b (without n p) (without n q) l r (alike_without p q n alike) (closed_without p n closed)) (declared p n) refl (declared q n) refl (alike n at)
    where
      go : (length (without n p) ≤ a → length (without n q) ≤ b → (m : List ℕ) → N m → map view (chain_in a (without n p) m) ≡ map view (chain_in b (without n q) m))
          → (o : Option Class) → declared p n ≡ o → (w : Option Class) → declared q n ≡ w → option_map view o ≡ option_map view w
          → map view (added (λ c. chain_in a (without n p) c.parent) o) ≡ map view (added (λ c. chain_in b (without n q) c.parent) w)
      go ih None d None f e = refl
      go ih None d (Some l) f e = absurd (unlike e)
      go ih (Some k) d None f e = absurd (unlike (sym e))
      go ih (Some k) d (Some l) f e =
          let s : view k ≡ view l = cc e in
          let lt = without_lt p n k d in
          let rt = without_lt q n l f in
          ap₂ (λ x xs. x ∷ xs) s
          (ih (omega (arith, lt)) (omega (arith, rt)) k.parent (closed n k at d)
          ∙ ap (λ m. map view (chain_in b (without n q) m)) (sym (parent_is k) ∙ ap parent s ∙ parent_is l))

  -- tables where these classes are seen alike have chains that are seen alike
  pub chain_same : (p q : Table) → AreAlike p q → IsClosed p → (n : List ℕ) → N n → map view (chain p n) ≡ map view (chain q n)
  chain_same p q alike closed n at = seen_in (length p) (length q) p q (omega arith) (omega arith) alike closed n at

-- what holds of each declared class of these names holds along their chains
all_in : (N : List ℕ → Type 0) (P : Class → Type 0) (a : ℕ) (p : Table) → ((n : List ℕ) (k : Class) → N n → declared p n ≡ Some k → N k.parent)
    → ((n : List ℕ) (k : Class) → N n → declared p n ≡ Some k → P k) → (n : List ℕ) → N n → Each P (chain_in a p n)
unfolding chain_in
all_in N P zero p closed holds n at = tt
all_in N P (suc a) p closed holds n at =
    go (all_in N P a (without n p) (λ m k here e. closed m k here (declared_before p n m k e)) (λ m k here e. holds m k here (declared_before p n m k e))) (declared p n) refl
  where
    go : ((m : List ℕ) → N m → Each P (chain_in a (without n p) m)) → (o : Option Class) → declared p n ≡ o → Each P (added (λ c. chain_in a (without n p) c.parent) o)
    go ih None d = tt
    go ih (Some k) d = (holds n k at d, ih k.parent (closed n k at d))

pub chain_all : (N : List ℕ → Type 0) (P : Class → Type 0) (p : Table) → ((n : List ℕ) (k : Class) → N n → declared p n ≡ Some k → N k.parent)
    → ((n : List ℕ) (k : Class) → N n → declared p n ≡ Some k → P k) → (n : List ℕ) → N n → Each P (chain p n)
chain_all N P p closed holds n at = all_in N P (length p) p closed holds n at

-- ---- look-ups along what is seen

module _ {K V : Type 0} (view : K → V) where
  any_view : (g : V → Bool) (ks : List K) → list_any (λ k. g (view k)) ks ≡ list_any g (map view ks)
  any_view g [] = refl
  any_view g (k ∷ ks) = ap (λ b. g (view k) || b) (any_view g ks)

  first_view : {B : Type 0} (g : V → Option B) (ks : List K) → first_some (λ k. g (view k)) ks ≡ first_some g (map view ks)
  first_view g [] = refl
  first_view g (k ∷ ks) = ap (λ o. cond (is_some (g (view k))) (g (view k)) o) (first_view g ks)

  kept_view : (keeps : V → Bool) (ks : List K) → map view (filter (λ k. keeps (view k)) ks) ≡ filter keeps (map view ks)
  kept_view keeps [] = refl
  kept_view keeps (k ∷ ks) = go (keeps (view k)) (kept_view keeps ks)
    where
      go : (b : Bool) → map view (filter (λ k. keeps (view k)) ks) ≡ filter keeps (map view ks)
          → map view (cond b (k ∷ filter (λ k. keeps (view k)) ks) (filter (λ k. keeps (view k)) ks)) ≡ cond b (view k ∷ filter keeps (map view ks)) (filter keeps (map view ks))
      go true ih = ap (λ w. view k ∷ w) ih
      go false ih = ih

first_mapped : {K B C : Type 0} (h : B → C) (of : K → Option B) (ks : List K) → option_map h (first_some of ks) ≡ first_some (λ k. option_map h (of k)) ks
first_mapped h of [] = refl
first_mapped {K} {B} {C} h of (k ∷ ks) = go (of k) (first_mapped h of ks)
  where
    go : (o : Option B) → option_map h (first_some of ks) ≡ first_some (λ k. option_map h (of k)) ks
        → option_map h (cond (is_some o) o (first_some of ks)) ≡ cond (is_some (option_map h o)) (option_map h o) (first_some (λ k. option_map h (of k)) ks)
    go None ih = ih
    go (Some x) ih = refl

-- ---- what is seen of a class

-- without regard to methods
pub record HeadSeen : Type 0 where
  pub name : List ℕ
  pub parent : List ℕ
  pub fields : List Field

-- a declaration that is nearest
pub record SigSeen : Type 0 where
  pub alt : ℕ
  pub params : List (List ℕ)
  pub result : List ℕ

-- with the first declaration of one method
pub record ClassSeen : Type 0 where
  pub head : HeadSeen
  pub method : Option SigSeen

abbrev pub head_seen : Class → HeadSeen
head_seen k = record { name = k.name; parent = k.parent; fields = k.fields }

abbrev pub sig_seen : Method → SigSeen
sig_seen d = record { alt = d.alt; params = param_types d.params; result = d.result }

abbrev pub class_seen : List ℕ → Class → ClassSeen
class_seen m k = record { head = head_seen k; method = option_map sig_seen (method_called m k) }

-- ---- what is looked up in chains that are seen alike

-- the fields of a list of classes that are seen
abbrev fields_seen : List HeadSeen → List Field
fields_seen [] = []
fields_seen (v ∷ vs) = fields_seen vs ++ v.fields

fields_view : (ks : List Class) → fields_of ks ≡ fields_seen (map head_seen ks)
fields_view [] = refl
fields_view (k ∷ ks) = ap (λ w. w ++ k.fields) (fields_view ks)

abbrev field_seen : List ℕ → HeadSeen → Option Field
field_seen f v = find (λ d. bytes_eq d.name f) v.fields

-- the ancestors among what is seen
abbrev above_seen : List ℕ → List HeadSeen → List HeadSeen
above_seen c vs = filter (λ v. not (bytes_eq v.name c)) vs

abbrev classes_above : List ℕ → List ClassSeen → List ClassSeen
classes_above c vs = filter (λ v. not (bytes_eq v.head.name c)) vs

heads_of : (m : List ℕ) (ks : List Class) → map head_seen ks ≡ map (λ v. v.head) (map (class_seen m) ks)
heads_of m [] = refl
heads_of m (k ∷ ks) = ap (λ w. head_seen k ∷ w) (heads_of m ks)

-- chains that are seen alike with a method are seen alike without it
pub heads_alike : (m : List ℕ) (ks ls : List Class) → map (class_seen m) ks ≡ map (class_seen m) ls → map head_seen ks ≡ map head_seen ls
heads_alike m ks ls e = heads_of m ks ∙ ap (map (λ v. v.head)) e ∙ sym (heads_of m ls)

module _ (p q : Table) (n : List ℕ) (same : map head_seen (chain p n) ≡ map head_seen (chain q n)) where
  pub any_parent_same : (d : List ℕ) → list_any (λ k. bytes_eq k.parent d) (chain p n) ≡ list_any (λ k. bytes_eq k.parent d) (chain q n)
  any_parent_same d =
      let test : HeadSeen → Bool = λ v. bytes_eq v.parent d in
      any_view head_seen test (chain p n) ∙ ap (list_any test) same ∙ sym (any_view head_seen test (chain q n))

  pub below_same : (d : List ℕ) → is_subtype p n d ≡ is_subtype q n d
  below_same d = ap (λ b. bytes_eq n d || b) (any_parent_same d)

  pub fields_same : all_fields p n ≡ all_fields q n
  fields_same = fields_view (chain p n) ∙ ap fields_seen same ∙ sym (fields_view (chain q n))

  pub field_same : (f : List ℕ) → field_of p n f ≡ field_of q n f
  field_same f = first_view head_seen (field_seen f) (chain p n) ∙ ap (first_some (field_seen f)) same ∙ sym (first_view head_seen (field_seen f) (chain q n))

  above_same : map head_seen (ancestors p n) ≡ map head_seen (ancestors q n)
  above_same =
      let keeps : HeadSeen → Bool = λ v. not (bytes_eq v.name n) in
      kept_view head_seen keeps (chain p n) ∙ ap (filter keeps) same ∙ sym (kept_view head_seen keeps (chain q n))

  pub inherited_same : (f : List ℕ) → list_any (λ a. is_some (field_called f a)) (ancestors p n) ≡ list_any (λ a. is_some (field_called f a)) (ancestors q n)
  inherited_same f =
      let test : HeadSeen → Bool = λ v. is_some (field_seen f v) in
      any_view head_seen test (ancestors p n) ∙ ap (list_any test) above_same ∙ sym (any_view head_seen test (ancestors q n))

module _ (p q : Table) (n m : List ℕ) (same : map (class_seen m) (chain p n) ≡ map (class_seen m) (chain q n)) where
  nearest_of : (ks : List Class) → option_map sig_seen (first_some (method_called m) ks) ≡ first_some (λ v. v.method) (map (class_seen m) ks)
  nearest_of ks = first_mapped sig_seen (method_called m) ks ∙ first_view (class_seen m) (λ (v : ClassSeen). v.method) ks

  pub method_same : option_map sig_seen (method_of p n m) ≡ option_map sig_seen (method_of q n m)
  method_same = nearest_of (chain p n) ∙ ap (first_some (λ v. v.method)) same ∙ sym (nearest_of (chain q n))

  pub overridden_same : option_map sig_seen (first_some (method_called m) (ancestors p n)) ≡ option_map sig_seen (first_some (method_called m) (ancestors q n))
  overridden_same =
      let keeps : ClassSeen → Bool = λ v. not (bytes_eq v.head.name n) in
      let above : map (class_seen m) (ancestors p n) ≡ map (class_seen m) (ancestors q n) =
      kept_view (class_seen m) keeps (chain p n) ∙ ap (filter keeps) same ∙ sym (kept_view (class_seen m) keeps (chain q n)) in
      nearest_of (ancestors p n) ∙ ap (first_some (λ v. v.method)) above ∙ sym (nearest_of (ancestors q n))
