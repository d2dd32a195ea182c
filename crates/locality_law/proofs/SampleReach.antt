-- The worked rows on the sample.
use Rattle.std.proofs.Common.{◌≡◌, ◌⊎◌, inl, inr, ℕ, List, [], ◌∷◌, ◌++◌, codes, Some, refl, sym, ◌∙◌, ap, subst}
use Rattle.std.specs.Str.{bytes_eq}
use Rattle.cfj_model.specs.ProductLines.{object}
use Rattle.cfj_model.specs.Typing.{classes_named_by, method_uses}
use Rattle.cfj_model.specs.declared.expr.Expr.TheVariants as e
use Rattle.cfj_words.specs.Lists.{Has}
use Rattle.class_table.proofs.Members.{has_cases, has_none}
use Rattle.unit_facts.specs.Facts.{Head, head_at, head_of, own_of}
use Rattle.unit_facts.specs.Reach.{ClassReaches, IsAbove, IsBefore, IsNotObject, IsReach, MethodReaches, Reaches, methods_asked}
use Rattle.unit_facts.specs.declared.unit.Unit.TheVariants as unit
use Rattle.locality_law.specs.Sample.{class_c, keys_of_c, keys_of_m, method_m, sample}
use Rattle.locality_law.proofs.Bodies.{calls_call, calls_var, names_call, names_var}
use Rattle.locality_law.proofs.Items.{Each, each_has}
use Rattle.locality_law.proofs.Keys.{all_reached, class_keys, leads_to, method_keys}

abbrev names : List (List ℕ)
names = codes "A" ∷ (codes "B" ∷ (codes "C" ∷ (codes "Missing" ∷ [])))

abbrev asked : List (List ℕ)
asked = codes "m" ∷ (codes "n" ∷ [])

-- what is reached, with `Object`
abbrev reached : List (List ℕ)
reached = object ∷ names

a_is : Has reached (codes "A")
a_is = (1, refl)

b_is : Has reached (codes "B")
b_is = (2, refl)

c_is : Has reached (codes "C")
c_is = (3, refl)

missing_is : Has reached (codes "Missing")
missing_is = (4, refl)

-- ---- `A.m()`

abbrev N : List ℕ → Type 0
N = MethodReaches sample.classes (codes "A") method_m

asked_are : methods_asked method_m ≡ asked
asked_are = ap (λ w. codes "m" ∷ w) (calls_call 1 (e.Var 0 (codes "c")) (codes "n") [] ∙ ap (λ w. codes "n" ∷ (w ++ [])) (calls_var 0 (codes "c")))

names_are : classes_named_by method_m.body ≡ []
names_are = names_call 1 (e.Var 0 (codes "c")) (codes "n") [] ∙ ap (λ w. w ++ []) (names_var 0 (codes "c"))

names_there : Each (λ n. N n × IsNotObject n) names
names_there = (
  (Reaches.start (codes "A") (0, refl), refl),
  (
    (Reaches.start (codes "B") (1, refl), refl),
    ((Reaches.start (codes "C") (2, refl), refl), ((Reaches.superclass (codes "C") (head_of class_c) (Reaches.start (codes "C") (2, refl)) refl, refl), tt)),
  ),
)

starts_in : Each (Has reached) (codes "A" ∷ method_uses method_m)
starts_in = (a_is, (b_is, (c_is, subst (Each (Has reached)) (sym names_are) tt)))

closed_in : Each (λ n. Each (Has reached) (leads_to sample.classes asked n)) reached
closed_in = (tt, (((0, refl), (b_is, (b_is, (c_is, tt)))), ((a_is, tt), ((missing_is, (b_is, tt)), (tt, tt)))))

reached_there : (n : List ℕ) → N n → IsNotObject n → Has names n
reached_there n at other =
    go (has_cases object names n
    (all_reached sample.classes (codes "A" ∷ method_uses method_m) asked reached (each_has (Has reached) (codes "A" ∷ method_uses method_m) starts_in)
    (λ n t h there. each_has (Has reached) (leads_to sample.classes asked n) (each_has (λ n. Each (Has reached) (leads_to sample.classes asked n)) reached closed_in n h) t there) n
    (subst (λ w. Reaches sample.classes (codes "A" ∷ method_uses method_m) w n) asked_are at)))
  where
    go : (object ≡ n) ⊎ Has names n → Has names n
    go (inl s) = absurd (let none : ⊥ = cc (ap (λ w. bytes_eq w object) s ∙ other) in none)
    go (inr h) = h

pub reach_of_m : IsReach sample (unit.Method (codes "A") (codes "m") 0) keys_of_m
reach_of_m = record {
  ordered = record {
    names = names;
    methods = asked;
    names_rise = (
      each_has (IsBefore (codes "A")) (codes "B" ∷ (codes "C" ∷ (codes "Missing" ∷ []))) (refl, (refl, (refl, tt))),
      (each_has (IsBefore (codes "B")) (codes "C" ∷ (codes "Missing" ∷ [])) (refl, (refl, tt)), (each_has (IsBefore (codes "C")) (codes "Missing" ∷ []) (refl, tt), (λ m h. absurd (has_none m h), tt))),
    );
    methods_rise = (each_has (IsBefore (codes "m")) (codes "n" ∷ []) (refl, tt), (λ m h. absurd (has_none m h), tt));
    are = refl;
  };
  each = method_keys sample (codes "A") (codes "m") 0 method_m refl refl refl names asked
      (λ n. (λ h. each_has (λ n. N n × IsNotObject n) names names_there n h, λ h. reached_there n h.0 h.1)) (λ k. (λ h. subst (λ w. Has w k) (sym asked_are) h, λ h. subst (λ w. Has w k) asked_are h));
}

-- ---- the class C

above_c : (n : List ℕ) → IsAbove sample.classes (codes "C") n → Has (codes "C" ∷ (codes "Missing" ∷ [])) n
above_c _ IsAbove.itself = (0, refl)
above_c _ (IsAbove.further n h r e) = go (above_c n r)
  where
    go : Has (codes "C" ∷ (codes "Missing" ∷ [])) n → Has (codes "C" ∷ (codes "Missing" ∷ [])) h.parent
    go here = at (has_cases (codes "C") (codes "Missing" ∷ []) n here)
      where
        missing : Has (codes "Missing" ∷ []) n → ⊥
        missing there = last (has_cases (codes "Missing") [] n there)
          where
            last : (codes "Missing" ≡ n) ⊎ Has [] n → ⊥
            last (inl s) = let f = ap (head_at sample.classes) s ∙ e in let none : ⊥ = cc f in none
            last (inr none) = has_none n none

        at : (codes "C" ≡ n) ⊎ Has (codes "Missing" ∷ []) n → Has (codes "C" ∷ (codes "Missing" ∷ [])) h.parent
        at (inl s) =
            let f : Some (head_of class_c) ≡ Some h = ap (head_at sample.classes) s ∙ e in
            let same : head_of class_c ≡ h = cc f in
            subst (λ (w : Head). Has (codes "C" ∷ (codes "Missing" ∷ [])) w.parent) same (1, refl)
        at (inr there) = absurd (missing there)

pub reach_of_c : IsReach sample (unit.Class (codes "C")) keys_of_c
reach_of_c = record {
  ordered = record {
    names = codes "C" ∷ (codes "Missing" ∷ []);
    methods = [];
    names_rise = (each_has (IsBefore (codes "C")) (codes "Missing" ∷ []) (refl, tt), (λ m h. absurd (has_none m h), tt));
    methods_rise = tt;
    are = refl;
  };
  each = class_keys sample (codes "C") (own_of class_c) refl (codes "C" ∷ (codes "Missing" ∷ []))
      (λ n. (λ h. each_has (λ n. ClassReaches sample.classes (codes "C") (own_of class_c) n × IsNotObject n) (codes "C" ∷ (codes "Missing" ∷ [])) there n h, λ h. back n h.0));
}
  where
    there : Each (λ n. ClassReaches sample.classes (codes "C") (own_of class_c) n × IsNotObject n) (codes "C" ∷ (codes "Missing" ∷ []))
    there = ((inl IsAbove.itself, refl), ((inl (IsAbove.further (codes "C") (head_of class_c) IsAbove.itself refl), refl), tt))

    back : (n : List ℕ) → ClassReaches sample.classes (codes "C") (own_of class_c) n → Has (codes "C" ∷ (codes "Missing" ∷ [])) n
    back n (inl at) = above_c n at
    back n (inr none) = absurd (has_none n none)
