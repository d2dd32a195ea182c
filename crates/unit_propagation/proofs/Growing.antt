-- How trails grow.
use Rattle.std.proofs.Common.{◌≡◌, ℕ, zero, suc, ◌+◌, ◌<◌, ◌≤◌, Bool, List, [], ◌∷◌, ◌++◌, length, get_or, slice_set, Some, Result, Ok, Err, refl, sym, subst, arith}
use Rattle.std.specs.Prelude.{sum_by, OnOk}
use Rattle.std.proofs.lemmas.List.Sums.{sum_by-cons}
use Rattle.std.proofs.lemmas.Option.{slice_get_read}
use Rattle.cfj_logic.specs.declared.clauses.Literal.{Literal}
use Rattle.cfj_logic.specs.UnitClauses.{Values, with_true, IsUnit, Reaches, here, by_unit}
use Rattle.unit_propagation.specs.declared.trail.Step.{Step}
use Rattle.unit_propagation.specs.Standings.{unvalued}
use Rattle.unit_propagation.specs.Trails.{Grows, still, by_unit_at}

pub grows_then : (cs : List (List Literal)) (vs ws us : Values) (t u w : List Step) → Grows cs vs t ws u → Grows cs ws u us w → Grows cs vs t us w
grows_then cs vs ws us t u w (still _ _) h = h
grows_then cs vs ws us t u w (by_unit_at _ _ _ _ place c l there unit g) h =
    by_unit_at vs us t w place c l there unit (grows_then cs (with_true vs l) ws us (t ++ record { literal = l; cause = Some place } ∷ []) u w g h)

pub grows_reaches : (cs : List (List Literal)) (vs ws : Values) (t u : List Step) → Grows cs vs t ws u → Reaches cs vs ws
grows_reaches cs vs ws t u (still _ _) = here vs
grows_reaches cs vs ws t u (by_unit_at _ _ _ _ place c l there unit g) =
    by_unit vs ws c l (place, there) unit (grows_reaches cs (with_true vs l) ws (t ++ record { literal = l; cause = Some place } ∷ []) u g)

-- one more step
pub grows_one : (cs : List (List Literal)) (vs ws : Values) (t u : List Step) (i : ℕ) (x y : List Literal) (l : Literal) → i < length cs → x ≡ get_or cs i x → y ≡ x → IsUnit vs y l →
    ws ≡ with_true vs l → u ≡ t ++ record { literal = l; cause = Some i } ∷ [] → Grows cs vs t ws u
grows_one cs vs ws t u i x y l lt is same unit ws_is u_is =
    let next = t ++ record { literal = l; cause = Some i } ∷ [] in
    by_unit_at vs ws t u i x l (slice_get_read cs (length cs) i x refl lt is) (subst (λ w. IsUnit vs w l) same unit)
    (subst (λ w. Grows cs (with_true vs l) next w u) (sym ws_is) (subst (λ w. Grows cs (with_true vs l) next (with_true vs l) w) (sym u_is) (still (with_true vs l) next)))

pub grows_more : (cs : List (List Literal)) (vs us ws : Values) (t w u : List Step) (i : ℕ) (x y : List Literal) (l : Literal) → i < length cs → x ≡ get_or cs i x → y ≡ x → IsUnit us y l →
    ws ≡ with_true us l → u ≡ w ++ record { literal = l; cause = Some i } ∷ [] → Grows cs vs t us w → Grows cs vs t ws u
grows_more cs vs us ws t w u i x y l lt is same unit ws_is u_is g = grows_then cs vs us ws t w u g (grows_one cs us ws w u i x y l lt is same unit ws_is u_is)

-- ---- fewer variables without a value

unvalued_most : (vs : Values) (x : ℕ) (b : Bool) → sum_by unvalued (slice_set vs x (Some b)) ≤ sum_by unvalued vs
unvalued_most [] x b = omega arith
unvalued_most (v ∷ vs) zero b =
    let new : sum_by unvalued (slice_set (v ∷ vs) zero (Some b)) ≡ sum_by unvalued vs = refl in
    let old : sum_by unvalued (v ∷ vs) ≡ unvalued v + sum_by unvalued vs = sum_by-cons unvalued v vs in
    omega (arith, new, old)
unvalued_most (v ∷ vs) (suc x) b =
    let ih = unvalued_most vs x b in
    let new : sum_by unvalued (slice_set (v ∷ vs) (suc x) (Some b)) ≡ unvalued v + sum_by unvalued (slice_set vs x (Some b)) = sum_by-cons unvalued v (slice_set vs x (Some b)) in
    let old : sum_by unvalued (v ∷ vs) ≡ unvalued v + sum_by unvalued vs = sum_by-cons unvalued v vs in
    omega (arith, ih, new, old)

pub grows_unvalued : (cs : List (List Literal)) (vs ws : Values) (t u : List Step) → Grows cs vs t ws u → sum_by unvalued ws ≤ sum_by unvalued vs
grows_unvalued cs vs ws t u (still _ _) = omega arith
grows_unvalued cs vs ws t u (by_unit_at _ _ _ _ place c l there unit g) =
    let ih = grows_unvalued cs (with_true vs l) ws (t ++ record { literal = l; cause = Some place } ∷ []) u g in
    let one = unvalued_most vs l.var l.on in
    omega (arith, ih, one)

-- where a call came back well it went on from what was reached before
pub grows_on : {A E : Type 0} (r : Result A E) (cs : List (List Literal)) (vs us ws : Values) (t w u : List Step) → Grows cs vs t us w → OnOk r (Grows cs us w ws u) → OnOk r (Grows cs vs t ws u)
grows_on (Ok x) cs vs us ws t w u g h = grows_then cs vs us ws t w u g h
grows_on (Err e) cs vs us ws t w u g h = h
