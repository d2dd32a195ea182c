-- Items, one more at a time: which of them is the first that is there.
use Rattle.std.proofs.Common.{◌≡◌, ℕ, ◌+◌, ◌<◌, ◌≤◌, ◌==◌, Bool, true, false, not, ◌&&◌, ◌||◌, cond, List, [], ◌∷◌, ◌++◌, get_or, length, map, take, drop, refl, sym, ◌∙◌, ap, ap₂, arith, zero, suc}
use Rattle.std.specs.List.{filter}
use Rattle.std.proofs.lemmas.Bool.{eqb-true}
use Rattle.std.proofs.lemmas.List.{map-append, take-append-drop, take_all, take_more}
use Rattle.std.proofs.lemmas.List.Elements.{All-append, All-nil, filter-append}
use Rattle.cfj_logic.specs.Selections.{Chosen}
use Rattle.cfj_logic.specs.Sides.{Sides}
use Rattle.cfj_model.specs.Projection.{is_present}
use Rattle.cond_circuit.proofs.ValueLemmas.{Grown-inside, Grown-value, Is-grown}
use Rattle.cond_circuit.specs.Gates.{Gates, Grown, Is, value}
use Rattle.guarded_seq.proofs.TableLaws.{inside_grown}
use Rattle.guarded_seq.specs.Sequences.{AreInside, present}
use Rattle.guarded_seq.specs.declared.guarded.Guarded.{Guarded}
use Rattle.guarded_types.proofs.VariantChains.{there_append}
use Rattle.guarded_types.specs.Along.{at_most_one, first, there}
use Rattle.guarded_types.specs.Within.{IsOfFirst, IsWithin, pushed}
use Rattle.guarded_types.specs.declared.marked.Marked.{Marked}

-- something is there
abbrev pub is_some_there : {A : Type 0} → List A → Bool
is_some_there [] = false
is_some_there (x ∷ xs) = true

-- ---- the gates of a turn

pub within_grown : (old new : Gates) (w : Sides) (g : ℕ) (v : Chosen → Bool) → Grown old new → IsWithin old w g v → IsWithin new w g v
within_grown old new w g v grown is = record {
  inside = Grown-inside old new g grown is.inside;
  worth = λ s here. Grown-value old new s g grown is.inside ∙ is.worth s here;
}

module _ (c d e f g : Gates) (w m : Sides) (taken there_gate free here or_gate : ℕ) (inside : taken < length c.parts) (first_grown : Grown c d) (second_grown : Grown d e) (third_grown : Grown e f) (fourth_grown : Grown f g)
    (is_there : IsWithin d w there_gate (λ s. is_present s m)) (is_free : Is e free (λ s. not (value s d.parts taken))) where
  pub turn_here : Is f here (λ s. value s e.parts free && value s e.parts there_gate) → IsWithin g w here (λ s. not (value s c.parts taken) && is_present s m)
  turn_here is =
      within_grown f g w here (λ s. not (value s c.parts taken) && is_present s m) fourth_grown
      (record {
        inside = is.inside;
        worth = λ s within.
            is.worth s
            ∙ ap₂ (λ a b. a && b) (is_free.worth s ∙ ap not (Grown-value c d s taken first_grown inside)) (Grown-value d e s there_gate second_grown is_there.inside ∙ is_there.worth s within);
      })

  pub turn_taken : Is g or_gate (λ s. value s f.parts taken || value s f.parts there_gate) → IsWithin g w or_gate (λ s. value s c.parts taken || is_present s m)
  turn_taken is = record {
    inside = is.inside;
    worth = λ s within.
        let taken_in : taken < length d.parts = Grown-inside c d taken first_grown inside in
        let taken_e : taken < length e.parts = Grown-inside d e taken second_grown taken_in in
        let there_e : there_gate < length e.parts = Grown-inside d e there_gate second_grown is_there.inside in
        is.worth s
        ∙ ap₂ (λ a b. a || b)
        (Grown-value e f s taken third_grown taken_e ∙ Grown-value d e s taken second_grown taken_in ∙ Grown-value c d s taken first_grown inside)
        (Grown-value e f s there_gate third_grown there_e ∙ Grown-value d e s there_gate second_grown is_there.inside ∙ is_there.worth s within);
  }

-- ---- what remains

pub present_append : {T : Type 0} (on : ℕ → Bool) (xs ys : List (Guarded T)) → present on (xs ++ ys) ≡ present on xs ++ present on ys
present_append {T} on xs ys =
    ap (map (λ (g : Guarded T). g.item)) (filter-append (λ (g : Guarded T). on g.gate) xs ys)
    ∙ map-append (λ (g : Guarded T). g.item) (filter (λ (g : Guarded T). on g.gate) xs) (filter (λ (g : Guarded T). on g.gate) ys)

-- what remains stays, where gates are added
pub present_grown : {T : Type 0} (old new : Gates) (s : Chosen) → Grown old new → (xs : List (Guarded T)) → AreInside old xs → present (value s new.parts) xs ≡ present (value s old.parts) xs
present_grown old new s grown [] inside = refl
present_grown {T} old new s grown (x ∷ xs) inside =
    ap (λ b. map (λ (g : Guarded T). g.item) (cond b (x ∷ filter (λ (g : Guarded T). value s new.parts g.gate) xs) (filter (λ (g : Guarded T). value s new.parts g.gate) xs)))
    (Grown-value old new s x.gate grown (inside 0 x (omega arith)))
    ∙ go (value s old.parts x.gate) (present_grown old new s grown xs (λ k d below. inside (suc k) d (omega (arith, below))))
  where
    fresh : List (Guarded T)
    fresh = filter (λ (g : Guarded T). value s new.parts g.gate) xs

    before : List (Guarded T)
    before = filter (λ (g : Guarded T). value s old.parts g.gate) xs

    go : (b : Bool) → map (λ (g : Guarded T). g.item) fresh ≡ map (λ (g : Guarded T). g.item) before
        → map (λ (g : Guarded T). g.item) (cond b (x ∷ fresh) fresh) ≡ map (λ (g : Guarded T). g.item) (cond b (x ∷ before) before)
    go true e = ap (λ ys. x.item ∷ ys) e
    go false e = e

-- an item under its gate
pub present_pushed : {T : Type 0} (c : Gates) (s : Chosen) (g : ℕ) (x : T) → Is c 0 (λ s. false) → present (value s c.parts) (pushed g x) ≡ cond (value s c.parts g) (x ∷ []) []
present_pushed {T} c s g x never = go (g == 0) refl
  where
    one : Guarded T
    one = record { gate = g; item = x }

    alone : (b : Bool) → map (λ (g : Guarded T). g.item) (cond b (one ∷ []) []) ≡ cond b (x ∷ []) []
    alone true = refl
    alone false = refl

    go : (b : Bool) → (g == 0) ≡ b → present (value s c.parts) (cond b [] (one ∷ [])) ≡ cond (value s c.parts g) (x ∷ []) []
    go true e = sym (ap (λ b. cond b (x ∷ []) []) (ap (value s c.parts) (eqb-true g 0 e) ∙ never.worth s))
    go false e = alone (value s c.parts g)

pub inside_pushed : {T : Type 0} (c : Gates) (g : ℕ) (x : T) → g < length c.parts → AreInside c (pushed g x)
inside_pushed {T} c g x below = go (g == 0)
  where
    one : Guarded T
    one = record { gate = g; item = x }

    alone : AreInside c (one ∷ [])
    alone zero d lt = below
    alone (suc k) d lt = absurd (omega (arith, lt))

    go : (b : Bool) → AreInside c (cond b [] (one ∷ []))
    go true = All-nil (λ (g : Guarded T). g.gate < length c.parts)
    go false = alone

-- ---- one more

there_one : {T : Type 0} (s : Chosen) (x : Marked T) → there s (x ∷ []) ≡ cond (is_present s x.marks) (x.item ∷ []) []
there_one {T} s x = go (is_present s x.marks)
  where
    go : (b : Bool) → map (λ (x : Marked T). x.item) (cond b (x ∷ []) []) ≡ cond b (x.item ∷ []) []
    go true = refl
    go false = refl

there_more : {T : Type 0} (s : Chosen) (xs : List (Marked T)) (i : ℕ) (x : Marked T) → i < length xs → x ≡ get_or xs i x
    → there s (take (i + 1) xs) ≡ there s (take i xs) ++ cond (is_present s x.marks) (x.item ∷ []) []
there_more s xs i x lt at =
    ap (there s) (take_more xs i x lt ∙ ap (λ y. take i xs ++ y ∷ []) (sym at)) ∙ there_append s (take i xs) (x ∷ []) ∙ ap (λ ys. there s (take i xs) ++ ys) (there_one s x)

some_more : {A : Type 0} (xs : List A) (b : Bool) (x : A) → is_some_there (xs ++ cond b (x ∷ []) []) ≡ (is_some_there xs || b)
some_more [] true x = refl
some_more [] false x = refl
some_more (y ∷ ys) b x = refl

first_more : {A : Type 0} (xs : List A) (b : Bool) (x : A) → at_most_one (first xs) ++ cond (not (is_some_there xs) && b) (x ∷ []) [] ≡ at_most_one (first (xs ++ cond b (x ∷ []) []))
first_more [] true x = refl
first_more [] false x = refl
first_more (y ∷ ys) b x = refl

first_behind : {A : Type 0} (xs ys : List A) → is_some_there xs ≡ true → first xs ≡ first (xs ++ ys)
first_behind [] ys e = let none : ⊥ = cc e in absurd none
first_behind (x ∷ xs) ys e = refl

module _ {T : Type 0} (c d : Gates) (w : Sides) (xs : List (Marked T)) (i : ℕ) (x : Marked T) (lt : i < length xs) (at : x ≡ get_or xs i x) (taken : ℕ) (grown : Grown c d)
    (some : IsWithin c w taken (λ s. is_some_there (there s (take i xs)))) where
  pub taken_more : (next : ℕ) → IsWithin d w next (λ s. value s c.parts taken || is_present s x.marks) → IsWithin d w next (λ s. is_some_there (there s (take (i + 1) xs)))
  taken_more next is = record {
    inside = is.inside;
    worth = λ s within.
        is.worth s within
        ∙ ap (λ b. b || is_present s x.marks) (some.worth s within)
        ∙ sym (ap is_some_there (there_more s xs i x lt at) ∙ some_more (there s (take i xs)) (is_present s x.marks) x.item);
  }

  pub first_more_is : (found : List (Guarded T)) (here : ℕ) → Is c 0 (λ s. false) → AreInside c found → IsOfFirst c w found (take i xs)
      → IsWithin d w here (λ s. not (value s c.parts taken) && is_present s x.marks) → IsOfFirst d w (found ++ pushed here x.item) (take (i + 1) xs)
  first_more_is found here never inside before is s within =
      present_append (value s d.parts) found (pushed here x.item)
      ∙ ap₂ (λ a b. a ++ b) (present_grown c d s grown found inside ∙ before s within)
      (present_pushed d s here x.item (Is-grown c d 0 (λ s. false) grown never)
      ∙ ap (λ b. cond b (x.item ∷ []) []) (is.worth s within ∙ ap (λ b. not b && is_present s x.marks) (some.worth s within)))
      ∙ first_more (there s (take i xs)) (is_present s x.marks) x.item
      ∙ sym (ap (λ ys. at_most_one (first ys)) (there_more s xs i x lt at))

  pub inside_more : (found : List (Guarded T)) (here : ℕ) → AreInside c found → here < length d.parts → AreInside d (found ++ pushed here x.item)
  inside_more found here inside below =
      All-append (λ (g : Guarded T). g.gate < length d.parts) found (pushed here x.item) (inside_grown c d found grown inside) (inside_pushed d here x.item below)

-- where one is always there, nothing behind it is the first
pub first_settled : {T : Type 0} (c : Gates) (w : Sides) (found : List (Guarded T)) (xs : List (Marked T)) (i taken : ℕ) → IsWithin c w taken (λ s. is_some_there (there s (take i xs)))
    → Is c taken (λ s. true) → IsOfFirst c w found (take i xs) → IsOfFirst c w found xs
first_settled c w found xs i taken some always before s within =
    before s within
    ∙ ap at_most_one (first_behind (there s (take i xs)) (there s (drop i xs)) (sym (some.worth s within) ∙ always.worth s))
    ∙ ap (λ ys. at_most_one (first ys)) (sym (there_append s (take i xs) (drop i xs)) ∙ ap (there s) (take-append-drop i xs))

pub first_all : {T : Type 0} (c : Gates) (w : Sides) (found : List (Guarded T)) (xs : List (Marked T)) (i : ℕ) → length xs ≤ i → IsOfFirst c w found (take i xs) → IsOfFirst c w found xs
first_all c w found xs i le before s within = before s within ∙ ap (λ ys. at_most_one (first (there s ys))) (take_all i xs le)
