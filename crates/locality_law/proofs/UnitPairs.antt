-- The pairs of a unit are known by the unit itself.
use Rattle.std.proofs.Common.{◌≡◌, ℕ, List, [], ◌∷◌, ◌++◌, map, Option, None, Some, option_map, refl, ◌∙◌, ap}
use Rattle.std.specs.List.{flat_map}
use Rattle.std.specs.Option.{option_and_then}
use Rattle.cfj_model.specs.Coloring.{no_colors}
use Rattle.cfj_model.specs.Judging.{Pair, judged_ctor, judged_field, judged_method, pair_of}
use Rattle.cfj_model.specs.LookUps.{Table, declared}
use Rattle.cfj_model.specs.Members.{Placed, placed}
use Rattle.cfj_model.specs.declared.class.Class.{Class}
use Rattle.cfj_model.specs.declared.class.Method.{Method}
use Rattle.cfj_model.specs.declared.site.Rule.TheVariants.{K1, K2}
use Rattle.cfj_model.specs.declared.site.Site.TheVariants as site
use Rattle.class_table.proofs.Without.{declared_name}
use Rattle.unit_facts.specs.Pairs.{ctor_pairs, field_pairs, method_pairs, pairs_at}
use Rattle.unit_facts.proofs.ProjectPairs.{ctor_listed, method_listed, pairs_append, placed_pairs}
use Rattle.unit_facts.specs.Facts.{method_at, own_at, own_of}
use Rattle.unit_facts.specs.Units.{judged_own, placed_method, of_some, unit_pairs}
use Rattle.unit_facts.specs.declared.unit.Unit.TheVariants as unit

-- a class with a name and nothing else
abbrev pub class_called : List ℕ → Class
class_called c = record { name = c; colors = no_colors; parent = []; fields = []; ctor = record { params = []; sends = []; assigns = [] }; methods = [] }

-- the pairs of a class by itself
abbrev pub own_pairs : Class → List Pair
own_pairs k = pairs_at (site.Class k.name) (K1 ∷ (K2 ∷ [])) ++ (flat_map (field_pairs k) k.fields ++ ctor_pairs k)

pub own_listed : (p : Table) (k : Class) → map pair_of (judged_own p k) ≡ own_pairs k
own_listed p k =
    ap (λ w. (site.Class k.name, K1) ∷ ((site.Class k.name, K2) ∷ w))
    (pairs_append (flat_map (judged_field p k) (placed k.fields)) (judged_ctor p k) (flat_map (field_pairs k) k.fields) (ctor_pairs k)
    (placed_pairs (judged_field p k) (field_pairs k) (λ f. refl) [] k.fields) (ctor_listed p k))

pub class_pairs_known : (p : Table) (c : List ℕ) → unit_pairs p (unit.Class c) ≡ of_some own_pairs (own_at p c)
class_pairs_known p c = go (declared p c)
  where
    go : (o : Option Class) → map pair_of (of_some (judged_own p) o) ≡ of_some own_pairs (option_map own_of o)
    go None = refl
    go (Some k) = own_listed p k

pub method_pairs_known : (p : Table) (c m : List ℕ) (alt : ℕ) → unit_pairs p (unit.Method c m alt) ≡ of_some (method_pairs (class_called c)) (method_at p c m alt)
method_pairs_known p c m alt = go (declared p c) refl
  where
    here : (k : Class) → k.name ≡ c → (o : Option (Placed Method)) → map pair_of (of_some (judged_method p k) o) ≡ of_some (method_pairs (class_called c)) (option_map (λ (q : Placed Method). q.item) o)
    here k named None = refl
    here k named (Some q) = method_listed p k q ∙ ap (λ n. method_pairs (class_called n) q.item) named

    go : (o : Option Class) → declared p c ≡ o → map pair_of (of_some (λ k. of_some (judged_method p k) (placed_method m alt k)) o)
        ≡ of_some (method_pairs (class_called c)) (option_and_then (λ k. option_map (λ (q : Placed Method). q.item) (placed_method m alt k)) o)
    go None e = refl
    go (Some k) e = here k (declared_name p c k e) (placed_method m alt k)
