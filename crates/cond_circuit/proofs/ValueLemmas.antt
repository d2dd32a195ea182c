-- What a gate is worth, by its part, and that gates keep what they are worth.
use Rattle.std.proofs.Common.{◌≡◌, ℕ, ◌+◌, ◌<◌, Bool, true, false, not, ◌&&◌, ◌||◌, List, [], ◌∷◌, ◌++◌, length, get_or, take, drop, Some, slice_get, refl, sym, ◌∙◌, ap, ap₂, arith, append_assoc, length-append}
use Rattle.std.proofs.lemmas.List.{get_or_append_left, append-nil, take_more, take-append-drop, length-take-le}
use Rattle.std.proofs.lemmas.Option.{get_or_from_slice_get, slice_get_within}
use Rattle.std.proofs.Math.Seq.{get_or-append_seam}
use Rattle.cfj_logic.specs.Selections.{Chosen, is_on}
use Rattle.cond_circuit.specs.declared.part.Part.{Part}
use Rattle.cond_circuit.specs.declared.part.Part.TheVariants.{Zero, One, Feat, Not, And, Or}
use Rattle.cond_circuit.specs.Gates.{Gates, Stands, IsCircuit, part_value, values_behind, value, Grown, Is}

values_behind-append : (s : Chosen) (vs : List Bool) (ps qs : List Part) → values_behind s vs (ps ++ qs) ≡ values_behind s (values_behind s vs ps) qs
values_behind-append s vs [] qs = refl
values_behind-append s vs (p ∷ ps) qs = values_behind-append s (vs ++ part_value s vs p ∷ []) ps qs

length-values_behind : (s : Chosen) (vs : List Bool) (ps : List Part) → length (values_behind s vs ps) ≡ length vs + length ps
length-values_behind s vs [] = omega arith
length-values_behind s vs (p ∷ ps) =
    omega (arith, length-append vs (part_value s vs p ∷ []), length-values_behind s (vs ++ part_value s vs p ∷ []) ps)

-- what stands in front stays
front_stays : (s : Chosen) (vs : List Bool) (ps : List Part) (g : ℕ) → g < length vs → get_or (values_behind s vs ps) g false ≡ get_or vs g false
front_stays s vs [] g below = refl
front_stays s vs (p ∷ ps) g below =
    front_stays s (vs ++ part_value s vs p ∷ []) ps g (omega (arith, length-append vs (part_value s vs p ∷ [])))
    ∙ get_or_append_left vs (part_value s vs p ∷ []) false g below

-- earlier gates keep their values
pub value_more : (s : Chosen) (ps qs : List Part) (g : ℕ) → g < length ps → value s (ps ++ qs) g ≡ value s ps g
unfolding value
value_more s ps qs g below =
    ap (λ vs. get_or vs g false) (values_behind-append s [] ps qs)
    ∙ front_stays s (values_behind s [] ps) qs g (omega (arith, length-values_behind s [] ps))

-- a gate behind all others is worth what its part is
pub value_last : (s : Chosen) (ps : List Part) (p : Part) → value s (ps ++ p ∷ []) (length ps) ≡ part_value s (values_behind s [] ps) p
unfolding value
value_last s ps p =
    let vs = values_behind s [] ps in
    let l : length ps ≡ length vs = omega (arith, length-values_behind s [] ps) in
    ap (λ ws. get_or ws (length ps) false) (values_behind-append s [] ps (p ∷ []))
    ∙ ap (λ g. get_or (vs ++ part_value s vs p ∷ []) g false) l
    ∙ get_or-append_seam vs (part_value s vs p) [] false

-- a part is worth what its operands say
part_value_same : (s : Chosen) (vs ws : List Bool) (n g : ℕ) (p : Part) → Stands n g p → ((a : ℕ) → a < g → get_or vs a false ≡ get_or ws a false) → part_value s vs p ≡ part_value s ws p
part_value_same s vs ws n g Zero h same = refl
part_value_same s vs ws n g One h same = refl
part_value_same s vs ws n g (Feat f) h same = refl
part_value_same s vs ws n g (Not a) h same = ap not (same a h.1)
part_value_same s vs ws n g (And a b) h same = ap₂ (λ x y. x && y) (same a (omega arith)) (same b h.2)
part_value_same s vs ws n g (Or a b) h same = ap₂ (λ x y. x || y) (same a (omega arith)) (same b h.2)

-- the gates up to one, and those behind it
split_at_gate : (ps : List Part) (g : ℕ) (p : Part) → slice_get ps g ≡ Some p → ps ≡ (take g ps ++ p ∷ []) ++ drop (g + 1) ps
split_at_gate ps g p is =
    sym (take-append-drop (g + 1) ps)
    ∙ ap (λ xs. xs ++ drop (g + 1) ps) (take_more ps g p (slice_get_within ps g p is) ∙ ap (λ q. take g ps ++ q ∷ []) (get_or_from_slice_get ps g p p is))

-- a gate is worth what its part is
pub value_at : (s : Chosen) (ps : List Part) (n g : ℕ) (p : Part) → slice_get ps g ≡ Some p → Stands n g p → value s ps g ≡ part_value s (values_behind s [] ps) p
unfolding value
value_at s ps n g p is h =
    let front = take g ps in
    let within : g < length ps = slice_get_within ps g p is in
    let l : length front ≡ g = length-take-le g ps (omega arith) in
    let split = split_at_gate ps g p is in
    ap (λ qs. value s qs g) split
    ∙ value_more s (front ++ p ∷ []) (drop (g + 1) ps) g (omega (arith, length-append front (p ∷ [])))
    ∙ ap (λ k. value s (front ++ p ∷ []) k) (sym l)
    ∙ value_last s front p
    ∙ part_value_same s (values_behind s [] front) (values_behind s [] ps) n g p h
    (λ a below. sym (ap (λ qs. value s qs a) (split ∙ append_assoc front (p ∷ []) (drop (g + 1) ps)) ∙ value_more s front (p ∷ drop (g + 1) ps) a (omega arith)))

pub value_zero : (s : Chosen) (ps : List Part) (g : ℕ) → slice_get ps g ≡ Some Zero → g ≡ 0 → value s ps g ≡ false
value_zero s ps g is h = value_at s ps 0 g Zero is h

pub value_one : (s : Chosen) (ps : List Part) (g : ℕ) → slice_get ps g ≡ Some One → g ≡ 1 → value s ps g ≡ true
value_one s ps g is h = value_at s ps 0 g One is h

pub value_feat : (s : Chosen) (ps : List Part) (g f : ℕ) → slice_get ps g ≡ Some (Feat f) → value s ps g ≡ is_on s f
value_feat s ps g f is = value_at s ps (f + 1) g (Feat f) is (omega arith)

pub value_not : (s : Chosen) (ps : List Part) (n g a : ℕ) → slice_get ps g ≡ Some (Not a) → Stands n g (Not a) → value s ps g ≡ not (value s ps a)
unfolding value
value_not s ps n g a is h = value_at s ps n g (Not a) is h

pub value_and : (s : Chosen) (ps : List Part) (n g a b : ℕ) → slice_get ps g ≡ Some (And a b) → Stands n g (And a b) → value s ps g ≡ (value s ps a && value s ps b)
unfolding value
value_and s ps n g a b is h = value_at s ps n g (And a b) is h

pub value_or : (s : Chosen) (ps : List Part) (n g a b : ℕ) → slice_get ps g ≡ Some (Or a b) → Stands n g (Or a b) → value s ps g ≡ (value s ps a || value s ps b)
unfolding value
value_or s ps n g a b is h = value_at s ps n g (Or a b) is h

-- ---- what callers keep of a gate while others are added

pub Grown-refl : (c : Gates) → Grown c c
Grown-refl c = record { features = refl; more = []; parts = sym (append-nil c.parts) }

pub Grown-trans : (a b c : Gates) → Grown a b → Grown b c → Grown a c
Grown-trans a b c v w = record { features = w.features ∙ v.features; more = v.more ++ w.more; parts = w.parts ∙ ap (λ ps. ps ++ w.more) v.parts ∙ append_assoc a.parts v.more w.more }

pub Grown-inside : (old new : Gates) (g : ℕ) → Grown old new → g < length old.parts → g < length new.parts
Grown-inside old new g w below = omega (arith, length-append old.parts w.more, ap length w.parts)

pub Grown-value : (old new : Gates) (s : Chosen) (g : ℕ) → Grown old new → g < length old.parts → value s new.parts g ≡ value s old.parts g
Grown-value old new s g w below = ap (λ ps. value s ps g) w.parts ∙ value_more s old.parts w.more g below

pub Is-grown : (old new : Gates) (g : ℕ) (v : Chosen → Bool) → Grown old new → Is old g v → Is new g v
Is-grown old new g v w is = record { inside = Grown-inside old new g w is.inside; worth = λ s. Grown-value old new s g w is.inside ∙ is.worth s }

pub zero_is : (c : Gates) → IsCircuit c.features c.parts → Is c 0 (λ s. false)
zero_is c k = record { inside = slice_get_within c.parts 0 Zero k.zero_is; worth = λ s. value_zero s c.parts 0 k.zero_is refl }

pub one_is : (c : Gates) → IsCircuit c.features c.parts → Is c 1 (λ s. true)
one_is c k = record { inside = slice_get_within c.parts 1 One k.one_is; worth = λ s. value_one s c.parts 1 k.one_is refl }
