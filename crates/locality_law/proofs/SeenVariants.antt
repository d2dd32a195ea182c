-- What is seen of a class in a variant is known by its facts.
use Rattle.std.proofs.Common.{◌≡◌, ℕ, Bool, true, false, cond, List, [], ◌∷◌, map, Option, None, Some, option_map, refl, sym, ◌∙◌, ap, ap₂}
use Rattle.std.specs.List.{find, filter}
use Rattle.std.specs.Option.{option_and_then}
use Rattle.std.specs.Str.{bytes_eq}
use Rattle.cfj_logic.specs.Selections.{Chosen}
use Rattle.cfj_logic.specs.Sides.{Sides}
use Rattle.cfj_model.specs.LookUps.{Table, declared, is_called}
use Rattle.cfj_model.specs.ProductLines.{ProductLine, are_distinct}
use Rattle.cfj_model.specs.Projection.{bare_param, is_present, presence_of, present_fields, present_params, projected, projected_class, projected_method}
use Rattle.cfj_model.specs.Typing.{param_types}
use Rattle.cfj_model.specs.declared.class.Class.{Class}
use Rattle.cfj_model.specs.declared.class.Method.{Method}
use Rattle.cfj_model.specs.declared.class.Param.{Param}
use Rattle.class_table.proofs.Without.{declared_name}
use Rattle.unit_facts.specs.Facts.{Head, Signature, Taken, head_at, head_of, signature_of, signatures_at, signatures_in, signatures_of, taken_of}
use Rattle.locality_law.proofs.Items.{distinct_alone, find_kept}
use Rattle.locality_law.proofs.SeenChains.{ClassSeen, HeadSeen, SigSeen, class_seen, head_seen, sig_seen}

-- class names are distinct
abbrev pub AreNamedApart : Table → Type 0
AreNamedApart p = are_distinct (map (λ k. k.name) p) ≡ true

-- the classes of a variant
abbrev pub variant_of : Chosen → Table → Table
variant_of s p = map (projected_class s) (filter (λ k. is_present s k.colors) p)

pub variant_is : (s : Chosen) (line : ProductLine) → (projected s line).classes ≡ variant_of s line.classes
unfolding projected
variant_is s line = refl

-- what a variant has of a class
abbrev pub shown : Chosen → Class → Option Class
shown s k = cond (is_present s k.colors) (Some (projected_class s k)) None

pub declared_variant : (s : Chosen) (p : Table) → AreNamedApart p → (n : List ℕ) → declared (variant_of s p) n ≡ option_and_then (shown s) (declared p n)
declared_variant s p apart n =
    find_kept (projected_class s) (λ k. is_present s k.colors) (is_called n) (is_called n) (λ k. refl) p (distinct_alone (λ (k : Class). k.name) n p apart)

-- a class of a variant is what is left of one of the line
pub shown_of : (s : Chosen) (p : Table) → AreNamedApart p → (n : List ℕ) (v : Class) → declared (variant_of s p) n ≡ Some v
    → (k : Class) × (declared p n ≡ Some k) × (is_present s k.colors ≡ true) × (projected_class s k ≡ v)
shown_of s p apart n v e = go (declared p n) refl (sym (declared_variant s p apart n) ∙ e)
  where
    here : (k : Class) → declared p n ≡ Some k → (b : Bool) → is_present s k.colors ≡ b → cond b (Some (projected_class s k)) None ≡ Some v
        → (k : Class) × (declared p n ≡ Some k) × (is_present s k.colors ≡ true) × (projected_class s k ≡ v)
    here k d true q f = (k, d, q, (cc f))
    here k d false q f = absurd (let none : ⊥ = cc f in none)

    go : (o : Option Class) → declared p n ≡ o → option_and_then (shown s) o ≡ Some v → (k : Class) × (declared p n ≡ Some k) × (is_present s k.colors ≡ true) × (projected_class s k ≡ v)
    go None d f = absurd (let none : ⊥ = cc f in none)
    go (Some k) d f = here k d (is_present s k.colors) refl f

-- ---- heads

-- a head in a variant
abbrev pub head_in_variant : Chosen → List ℕ → Option Head → Option HeadSeen
head_in_variant s n None = None
head_in_variant s n (Some h) = cond (is_present s h.colors) (Some (record { name = n; parent = h.parent; fields = present_fields s h.colors h.fields })) None

pub heads_known : (s : Chosen) (p : Table) → AreNamedApart p → (n : List ℕ) → option_map head_seen (declared (variant_of s p) n) ≡ head_in_variant s n (head_at p n)
heads_known s p apart n = ap (option_map head_seen) (declared_variant s p apart n) ∙ go (declared p n) refl
  where
    here : (k : Class) → k.name ≡ n → (b : Bool) → option_map head_seen (cond b (Some (projected_class s k)) None)
        ≡ cond b (Some (record { name = n; parent = k.parent; fields = present_fields s k.colors k.fields })) None
    here k named true = ap (λ (w : List ℕ). Some (let v : HeadSeen = record { name = w; parent = k.parent; fields = present_fields s k.colors k.fields } in v)) named
    here k named false = refl

    go : (o : Option Class) → declared p n ≡ o → option_map head_seen (option_and_then (shown s) o) ≡ head_in_variant s n (option_map head_of o)
    go None d = refl
    go (Some k) d = here k (declared_name p n k d) (is_present s k.colors)

-- ---- methods

-- what a signature shows within these colours
abbrev pub sig_shown : Chosen → Sides → Signature → SigSeen
sig_shown s around g =
    record {
      alt = g.alt;
      params = map (λ (t : Taken). t.of) (filter (λ (t : Taken). is_present s (presence_of (presence_of around g.colors) t.colors)) g.params);
      result = g.result;
    }

-- the first signature that is present
abbrev pub first_present : Chosen → Sides → List Signature → Option SigSeen
first_present s around [] = None
first_present s around (g ∷ gs) = cond (is_present s (presence_of around g.colors)) (Some (sig_shown s around g)) (first_present s around gs)

params_shown : (s : Chosen) (within : Sides) (ps : List Param) → param_types (present_params s within ps)
    ≡ map (λ (t : Taken). t.of) (filter (λ (t : Taken). is_present s (presence_of within t.colors)) (map taken_of ps))
params_shown s within [] = refl
params_shown s within (p ∷ ps) = go (is_present s (presence_of within p.colors)) (params_shown s within ps)
  where
    rest : List Param
    rest = filter (λ (p : Param). is_present s (presence_of within p.colors)) ps

    others : List Taken
    others = filter (λ (t : Taken). is_present s (presence_of within t.colors)) (map taken_of ps)

    go : (b : Bool) → param_types (map bare_param rest) ≡ map (λ (t : Taken). t.of) others
        → param_types (map bare_param (cond b (p ∷ rest) rest)) ≡ map (λ (t : Taken). t.of) (cond b (taken_of p ∷ others) others)
    go true ih = ap (λ w. p.of ∷ w) ih
    go false ih = ih

sig_shown_is : (s : Chosen) (around : Sides) (d : Method) → sig_seen (projected_method s around d) ≡ sig_shown s around (signature_of d)
sig_shown_is s around d =
    ap (λ (w : List (List ℕ)). let v : SigSeen = record { alt = d.alt; params = w; result = d.result } in v) (params_shown s (presence_of around d.colors) d.params)

pub sig_in_variant : (s : Chosen) (around : Sides) (m : List ℕ) (ds : List Method)
    → option_map sig_seen (find (λ d. bytes_eq d.name m) (map (projected_method s around) (filter (λ d. is_present s (presence_of around d.colors)) ds)))
    ≡ first_present s around (map signature_of (filter (λ d. bytes_eq d.name m) ds))
sig_in_variant s around m [] = refl
sig_in_variant s around m (d ∷ ds) = go (is_present s (presence_of around d.colors)) refl (bytes_eq d.name m) refl (sig_in_variant s around m ds)
  where
    left : List Method
    left = filter (λ d. is_present s (presence_of around d.colors)) ds

    named : List Method
    named = filter (λ d. bytes_eq d.name m) ds

    found : Option Method
    found = find (λ d. bytes_eq d.name m) (map (projected_method s around) left)

    go : (b : Bool) → is_present s (presence_of around d.colors) ≡ b → (c : Bool) → bytes_eq d.name m ≡ c → option_map sig_seen found ≡ first_present s around (map signature_of named)
        → option_map sig_seen (find (λ d. bytes_eq d.name m) (map (projected_method s around) (cond b (d ∷ left) left))) ≡ first_present s around (map signature_of (cond c (d ∷ named) named))
    go true q true r ih =
        ap (λ c. option_map sig_seen (cond c (Some (projected_method s around d)) found)) r
        ∙ ap (λ w. Some w) (sig_shown_is s around d)
        ∙ sym (ap (λ b. cond b (Some (sig_shown s around (signature_of d))) (first_present s around (map signature_of named))) q)
    go true q false r ih = ap (λ c. option_map sig_seen (cond c (Some (projected_method s around d)) found)) r ∙ ih
    go false q true r ih = ih ∙ sym (ap (λ b. cond b (Some (sig_shown s around (signature_of d))) (first_present s around (map signature_of named))) q)
    go false q false r ih = ih

-- a class with a method, in a variant
abbrev pub class_in_variant : Chosen → List ℕ → Option Head → List Signature → Option ClassSeen
class_in_variant s n None gs = None
class_in_variant s n (Some h) gs =
    cond (is_present s h.colors)
    (Some (record { head = record { name = n; parent = h.parent; fields = present_fields s h.colors h.fields }; method = first_present s h.colors gs }))
    None

pub classes_known : (s : Chosen) (p : Table) → AreNamedApart p → (n m : List ℕ)
    → option_map (class_seen m) (declared (variant_of s p) n) ≡ class_in_variant s n (head_at p n) (signatures_at p n m)
classes_known s p apart n m = ap (option_map (class_seen m)) (declared_variant s p apart n) ∙ go (declared p n) refl
  where
    here : (k : Class) → k.name ≡ n → (b : Bool) → option_map (class_seen m) (cond b (Some (projected_class s k)) None)
        ≡ cond b (Some (record { head = record { name = n; parent = k.parent; fields = present_fields s k.colors k.fields }; method = first_present s k.colors (signatures_of m k) })) None
    here k named true =
        ap₂ (λ (w : List ℕ) (o : Option SigSeen). Some (let v : ClassSeen = record { head = record { name = w; parent = k.parent; fields = present_fields s k.colors k.fields }; method = o } in v))
        named (sig_in_variant s k.colors m k.methods)
    here k named false = refl

    go : (o : Option Class) → declared p n ≡ o → option_map (class_seen m) (option_and_then (shown s) o) ≡ class_in_variant s n (option_map head_of o) (signatures_in m o)
    go None d = refl
    go (Some k) d = here k (declared_name p n k d) (is_present s k.colors)
