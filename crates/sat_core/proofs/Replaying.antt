-- Why each selected feature has to be: values that deny it repeat the trail up to it.
use Rattle.std.proofs.Common.{◌≡◌, ℕ, zero, suc, ◌+◌, ◌<◌, ◌≤◌, ◌⊎◌, inl, inr, Bool, true, false, not, List, [], ◌∷◌, ◌++◌, length, take, slice_get, Option, Some, None, refl, sym, ◌∙◌, ap, subst, arith, length-append}
use Rattle.std.proofs.lemmas.List.{length-take-le, get_or-set_same}
use Rattle.std.proofs.lemmas.Option.{slice_get_within}
use Rattle.std.proofs.Math.Seq.{take-length}
use Rattle.cfj_logic.specs.declared.clauses.Literal.{Literal}
use Rattle.cfj_logic.specs.declared.clauses.Clauses.{Clauses}
use Rattle.cfj_logic.specs.Selections.{Chosen, is_on, choices}
use Rattle.cfj_words.specs.Lists.{Has}
use Rattle.cfj_logic.specs.UnitClauses.{Values, value_of, IsFalse, IsFalsified, with_true, IsUnit, Leads}
use Rattle.cfj_logic.specs.Logs.{fixed, AreForced}
use Rattle.unit_propagation.specs.declared.trail.Step.{Step}
use Rattle.unit_propagation.specs.Falsified.{IsFalsifiedAt}
use Rattle.unit_propagation.specs.Standings.{AreOpen}
use Rattle.unit_propagation.specs.Trails.{values_after}
use Rattle.unit_propagation.proofs.Members.{lt_or_ge, slice_get_left, slice_get_end}
use Rattle.unit_propagation.proofs.UnitSteps.{Within, value_cases, grown, grown_within, falsified_within, reaches_one, leads_here, leads_after, stuck}
use Rattle.refutation_check.proofs.FirstValues.{fixed_length, fixed_at, set_length}
use Rattle.refutation_check.proofs.Least.{fixed_value, choice_at, choices_length}
use Rattle.clause_learning.specs.Decided.{IsValued, IsDecision, IsImplied, IsTrail, AreCaused}
use Rattle.clause_learning.specs.Denials.{is_value}
use Rattle.clause_learning.proofs.Resolving.{within_whole}
use Rattle.clause_learning.proofs.Valuing.{none_first, some_step, steps_below, values_step, within_front, free_front, step_free, step_value, valued_between}

-- the decisions before this place hold in the values
abbrev pub AreHeld : List Step → ℕ → Values → Type 0
AreHeld t k ws = (j : ℕ) (s : Step) → j < k → slice_get t j ≡ Some s → s.cause ≡ None → value_of ws s.literal.var ≡ Some s.literal.on

-- from all values that have these and those before this place, unit clauses lead to a falsified clause
abbrev pub LeadAbove : List (List Literal) → ℕ → List Step → ℕ → Values → Type 0
LeadAbove cs vars t k ws = (zs : Values) → length zs ≡ vars → Within ws zs → Within (values_after vars (take k t)) zs → Leads cs zs

with_within : (vs ws : Values) (l : Literal) → Within vs ws → value_of ws l.var ≡ None → value_of (with_true ws l) l.var ≡ Some l.on → Within (with_true vs l) (with_true ws l)
with_within vs ws l w free made = grown_within vs (with_true ws l) l (λ x b v. grown ws l free x b (w x b v)) made

-- a step whose literal holds, or follows
one_step : (cs : List (List Literal)) (n vars : ℕ) (t : List Step) (k : ℕ) (s : Step) (ws zs : Values) → s.literal.var < vars → slice_get t k ≡ Some s → (s.cause ≡ None → value_of ws s.literal.var ≡ Some s.literal.on) → LeadAbove cs vars t (k + 1) ws → length zs ≡ vars → Within ws zs →
    Within (values_after vars (take k t)) zs → IsDecision cs n (values_after vars (take k t)) s ⊎ IsImplied cs (values_after vars (take k t)) s → Leads cs zs
one_step cs n vars t k s ws zs lt e held above size more front step = go step
  where
    -- the literal is true
    holds : value_of zs s.literal.var ≡ Some s.literal.on → Leads cs zs
    holds v = above zs size more (subst (λ w. Within w zs) (sym (values_step vars t k s e)) (grown_within (values_after vars (take k t)) zs s.literal front v))

    moved : (c : List Literal) → IsUnit (values_after vars (take k t)) c s.literal → (m : Literal) → Has c m → (m ≡ s.literal) ⊎ IsFalse zs m
    moved c u m h = each (u.others m h)
      where
        each : (m ≡ s.literal) ⊎ IsFalse (values_after vars (take k t)) m → (m ≡ s.literal) ⊎ IsFalse zs m
        each (inl q) = inl q
        each (inr f) = inr (front m.var (not m.on) f)

    falsified : (c : List Literal) → IsFalse zs s.literal → ((m : Literal) → Has c m → (m ≡ s.literal) ⊎ IsFalse zs m) → IsFalsified zs c
    falsified c f all m h = each (all m h)
      where
        each : (m ≡ s.literal) ⊎ IsFalse zs m → IsFalse zs m
        each (inl q) = subst (IsFalse zs) (sym q) f
        each (inr g) = g

    valued : (i : IsImplied cs (values_after vars (take k t)) s) (b : Bool) → value_of zs s.literal.var ≡ Some b → (b ≡ s.literal.on) ⊎ (b ≡ not s.literal.on) → Leads cs zs
    valued i b v (inl q) = holds (v ∙ ap Some q)
    valued i b v (inr q) = leads_here cs zs i.clause (i.place, i.there) (falsified i.clause (v ∙ ap Some q) (moved i.clause i.unit))

    lead : (i : IsImplied cs (values_after vars (take k t)) s) (v : Option Bool) → value_of zs s.literal.var ≡ v → Leads cs zs
    lead i (Some b) v = valued i b v (value_cases b s.literal.on)
    lead i None v =
        let next = with_true zs s.literal in
        let made : value_of next s.literal.var ≡ Some s.literal.on = get_or-set_same zs s.literal.var (Some s.literal.on) None (omega (arith, lt, size)) in
        leads_after cs zs next (reaches_one cs zs i.clause s.literal (i.place, i.there) (record { has = i.unit.has; unvalued = v; others = moved i.clause i.unit }))
        (above next (set_length zs s.literal.var (Some s.literal.on) ∙ size) (λ x b w. grown zs s.literal v x b (more x b w))
        (subst (λ w. Within w next) (sym (values_step vars t k s e)) (with_within (values_after vars (take k t)) zs s.literal front v made)))

    go : IsDecision cs n (values_after vars (take k t)) s ⊎ IsImplied cs (values_after vars (take k t)) s → Leads cs zs
    go (inl d) = holds (more s.literal.var s.literal.on (held d.cause))
    go (inr i) = lead i (value_of zs s.literal.var) refl

pub replay : (cs : List (List Literal)) (n vars : ℕ) (t : List Step) (k : ℕ) (ws : Values) → IsTrail cs n vars t → k ≤ length t → length ws ≡ vars → AreHeld t k ws → LeadAbove cs vars t k ws → Leads cs ws
replay cs n vars t zero ws trail le size held above = above ws size (λ x b v. v) (λ x b v. absurd (none_first vars t x (b, v)))
replay cs n vars t (suc k) ws trail le size held above =
    let e : k + 1 ≡ suc k = omega arith in
    let s = some_step t k (omega (arith, le)) in
    replay cs n vars t k ws trail (omega (arith, le)) size (λ j r lt at none. held j r (omega (arith, lt)) at none)
    (λ zs l more front. one_step cs n vars t k s.0 ws zs (steps_below cs n vars t trail k s.0 s.1) s.1 (λ none. held k s.0 (omega arith) s.1 none) (subst (λ j. LeadAbove cs vars t j ws) (sym e) above) l more front (trail.steps k s.0 s.1))

-- without decisions a falsified clause refutes
pub refuted_by : (cs : List (List Literal)) (n vars : ℕ) (t : List Step) (vs : Values) (k : ℕ) → IsTrail cs n vars t → vs ≡ values_after vars t → AreCaused t 0 → IsFalsifiedAt cs vs k → Leads cs (fixed vars [])
refuted_by cs n vars t vs k trail are caused f =
    replay cs n vars t (length t) (fixed vars []) trail (omega arith) (fixed_length vars []) (λ j s lt e none. absurd (caused j s (omega arith) e none))
    (λ zs l more front. leads_here cs zs f.clause (k, f.there) (falsified_within vs zs f.clause (subst (λ w. Within w zs) (ap (values_after vars) (take-length t) ∙ sym are) front) f.falsified))

-- ---- a selected feature

-- the values of the features before this one, and this one not selected
abbrev pub denying : List Bool → ℕ → List Bool
denying p f = take f p ++ false ∷ []

denying_length : (p : List Bool) (f : ℕ) → f < length p → length (denying p f) ≡ f + 1
denying_length p f lt =
    let l : length (take f p) ≡ f = length-take-le f p (omega (arith, lt)) in
    length-append (take f p) (false ∷ []) ∙ ap (λ k. k + 1) l

denying_at : (p : List Bool) (f x : ℕ) (b : Bool) → f < length p → x < f → slice_get p x ≡ Some b → slice_get (denying p f) x ≡ Some b
denying_at p f x b lt below e =
    let l : length (take f p) ≡ f = length-take-le f p (omega (arith, lt)) in
    slice_get_left (take f p) (false ∷ []) x (omega (arith, l, below)) ∙ taken p f x below ∙ e
  where
    taken : {A : Type 0} (xs : List A) (k j : ℕ) → j < k → slice_get (take k xs) j ≡ slice_get xs j
    taken xs zero j lt = absurd (omega (arith, lt))
    taken [] (suc k) j lt = refl
    taken (y ∷ xs) (suc k) zero lt = refl
    taken (y ∷ xs) (suc k) (suc j) lt = taken xs k j (omega (arith, lt))

denying_last : (p : List Bool) (f : ℕ) → f < length p → slice_get (denying p f) f ≡ Some false
denying_last p f lt =
    let l : length (take f p) ≡ f = length-take-le f p (omega (arith, lt)) in
    ap (slice_get (denying p f)) (sym l) ∙ slice_get_end (take f p) false

-- a feature that a clause made selected, where the selection has the values of the trail
pub forced_at : (cs : List (List Literal)) (n vars : ℕ) (t : List Step) (p : List Bool) (j f : ℕ) (s : Step) → IsTrail cs n vars t → length p ≡ n → ((x : ℕ) (b : Bool) → x < n → value_of (values_after vars t) x ≡ Some b → slice_get p x ≡ Some b) →
    f < n → slice_get t j ≡ Some s → f ≡ s.literal.var → s.literal.on ≡ true → IsDecision cs n (values_after vars (take j t)) s ⊎ IsImplied cs (values_after vars (take j t)) s → Leads cs (fixed vars (denying p f))
forced_at cs n vars t p j f s trail size agrees lt e is on (inl d) = let no : true ≡ false = sym on ∙ d.off in absurd (let bad : ⊥ = cc no in bad)
forced_at cs n vars t p j f s trail size agrees lt e is on (inr i) = replay cs n vars t j ws trail (omega (arith, within)) (fixed_length vars (denying p f)) held above
  where
    ws : Values
    ws = fixed vars (denying p f)

    within : j < length t
    within = slice_get_within t j s e

    few : n ≤ vars
    few = trail.features

    -- a decision before it is of an earlier feature
    earlier : (k : ℕ) (r : Step) → k < j → slice_get t k ≡ Some r → IsDecision cs n (values_after vars (take k t)) r → r.literal.var < f
    earlier k r below at d = go (lt_or_ge r.literal.var f)
      where
        free : value_of (values_after vars (take j t)) f ≡ None
        free = ap (value_of (values_after vars (take j t))) is ∙ i.unit.unvalued

        value : value_of (values_after vars (take j t)) r.literal.var ≡ Some r.literal.on
        value = within_front cs n vars t (k + 1) j trail (omega (arith, below)) (omega (arith, within)) r.literal.var r.literal.on (step_value cs n vars t k r trail at)

        first : f < r.literal.var → ⊥
        first less =
            let v = d.first f less in
            let no : None ≡ Some v.0 = sym free ∙ within_front cs n vars t k j trail (omega (arith, below)) (omega (arith, within)) f v.0 v.1 in
            cc no

        cases : (f < r.literal.var) ⊎ (r.literal.var ≤ f) → f ≤ r.literal.var → r.literal.var < f
        cases (inl less) ge = absurd (first less)
        cases (inr le) ge =
            let same : r.literal.var ≡ f = omega (arith, le, ge) in
            let no : None ≡ Some r.literal.on = sym free ∙ ap (value_of (values_after vars (take j t))) (sym same) ∙ value in
            absurd (let bad : ⊥ = cc no in bad)

        go : (r.literal.var < f) ⊎ (f ≤ r.literal.var) → r.literal.var < f
        go (inl less) = less
        go (inr ge) = cases (lt_or_ge f r.literal.var) ge

    held : AreHeld t j ws
    held k r below at none = go (trail.steps k r at)
      where
        go : IsDecision cs n (values_after vars (take k t)) r ⊎ IsImplied cs (values_after vars (take k t)) r → value_of ws r.literal.var ≡ Some r.literal.on
        go (inr m) = let no : None ≡ Some m.place = sym none ∙ m.cause in absurd (let bad : ⊥ = cc no in bad)
        go (inl d) =
            let less = earlier k r below at d in
            let value = within_whole cs n vars t (k + 1) trail (omega (arith, below, within)) r.literal.var r.literal.on (step_value cs n vars t k r trail at) in
            let chosen = agrees r.literal.var r.literal.on d.feature value in
            fixed_at vars (denying p f) r.literal.var r.literal.on (denying_at p f r.literal.var r.literal.on (omega (arith, lt, size)) less chosen) (omega (arith, less, lt, few))

    above : LeadAbove cs vars t j ws
    above zs l more front = leads_here cs zs i.clause (i.place, i.there) (λ m h. each m (i.unit.others m h))
      where
        denied : IsFalse zs s.literal
        denied =
            let last = fixed_at vars (denying p f) f false (denying_last p f (omega (arith, lt, size))) (omega (arith, lt, few)) in
            ap (value_of zs) (sym is) ∙ more f false last ∙ ap Some (ap not (sym on))

        each : (m : Literal) → (m ≡ s.literal) ⊎ IsFalse (values_after vars (take j t)) m → IsFalse zs m
        each m (inl q) = subst (IsFalse zs) (sym q) denied
        each m (inr g) = front m.var (not m.on) g

-- ---- at last

value_itself : (b : Bool) → is_value true (Some b) ≡ b
value_itself true = refl
value_itself false = refl

-- the selection has the values of the trail
pub selected_agrees : (n : ℕ) (s : Chosen) (vs : Values) → s.features ≡ n → ((x : ℕ) → x < n → is_on s x ≡ is_value true (value_of vs x)) → (x : ℕ) (b : Bool) → x < n → value_of vs x ≡ Some b → slice_get (choices s) x ≡ Some b
selected_agrees n s vs same selected x b lt e = choice_at s x (omega (arith, lt, same)) ∙ ap Some (selected x lt ∙ ap (is_value true) e ∙ value_itself b)

pub forced_last : (cs : List (List Literal)) (n vars : ℕ) (t : List Step) (s : Chosen) → IsTrail cs n vars t → s.features ≡ n → ((x : ℕ) → x < n → IsValued (values_after vars t) x) →
    ((x : ℕ) → x < n → is_on s x ≡ is_value true (value_of (values_after vars t) x)) → AreForced vars cs (choices s)
forced_last cs n vars t s trail same all selected f chosen = go (valued_between vars t 0 (length t) f (omega arith) (omega arith) (subst (λ w. IsValued (values_after vars w) f) (sym (take-length t)) value))
  where
    within : f < length (choices s)
    within = slice_get_within (choices s) f true chosen

    lt : f < n
    lt = let l = choices_length s in omega (arith, within, l, same)

    value : IsValued (values_after vars t) f
    value = all f lt

    agrees : (x : ℕ) (b : Bool) → x < n → value_of (values_after vars t) x ≡ Some b → slice_get (choices s) x ≡ Some b
    agrees = selected_agrees n s (values_after vars t) same selected

    go : IsValued (values_after vars (take 0 t)) f ⊎ ((j : ℕ) × (r : Step) × (0 ≤ j) × (j < length t) × (slice_get t j ≡ Some r) × (f ≡ r.literal.var)) → Leads cs (fixed vars (denying (choices s) f))
    go (inl q) = absurd (none_first vars t f q)
    go (inr q) =
        let j = q.0 in
        let r = q.1 in
        let inside = q.3 in
        let is = q.5 in
        let have = within_whole cs n vars t (j + 1) trail (omega (arith, inside)) r.literal.var r.literal.on (step_value cs n vars t j r trail q.4) in
        let both : Some r.literal.on ≡ Some true = sym (agrees r.literal.var r.literal.on (subst (λ x. x < n) is lt) have) ∙ ap (slice_get (choices s)) (sym is) ∙ chosen in
        forced_at cs n vars t (choices s) j f r trail (choices_length s ∙ same) agrees lt q.4 is (cc both) (trail.steps j r q.4)

pub clear_last : (cs : List (List Literal)) (n vars : ℕ) (s : Chosen) (vs : Values) → AreOpen cs vs → s.features ≡ n → ((x : ℕ) → x < n → IsValued vs x) → ((x : ℕ) → x < n → is_on s x ≡ is_value true (value_of vs x)) → Leads cs (fixed vars (choices s)) → ⊥
clear_last cs n vars s vs opened same all selected = stuck cs (fixed vars (choices s)) vs opened within
  where
    within : Within (fixed vars (choices s)) vs
    within x b e =
        let at = fixed_value vars (choices s) x b e in
        let inside = slice_get_within (choices s) x b at in
        let l = choices_length s in
        let lt : x < n = omega (arith, inside, l, same) in
        let v = all x lt in
        let both : Some v.0 ≡ Some b = sym (selected_agrees n s vs same selected x v.0 lt v.1) ∙ at in
        let is : v.0 ≡ b = cc both in
        v.1 ∙ ap Some is
