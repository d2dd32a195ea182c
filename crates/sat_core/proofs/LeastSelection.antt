-- Why what the search finds is the least selection that extends to a model.
use Rattle.std.proofs.Common.{◌≡◌, ℕ, zero, suc, ◌+◌, ◌<◌, ◌≤◌, ◌⊎◌, inl, inr, Bool, false, List, [], ◌∷◌, ◌++◌, length, take, map, Some, slice_get, sym, ◌∙◌, ap, subst, arith, length-append}
use Rattle.std.proofs.lemmas.List.{length-take-le}
use Rattle.std.proofs.lemmas.Option.{slice_get_within}
use Rattle.cfj_logic.specs.declared.clauses.Literal.{Literal}
use Rattle.cfj_logic.specs.declared.clauses.Clauses.{Clauses}
use Rattle.cfj_logic.specs.Selections.{Chosen, is_on, choices, IsEarlier}
use Rattle.cfj_logic.specs.Sides.{Sides}
use Rattle.cfj_words.specs.Lists.{Has}
use Rattle.cfj_logic.specs.UnitClauses.{value_of, Leads}
use Rattle.cfj_logic.specs.Logs.{Assignment, AreWellFormed, IsModel, IsTrueIn, ExtendsToModel, literals, premises, fixed, IsAccepted, AreForced, AreSettledByFeatures, IsProofOfLeast}
use Rattle.unit_propagation.proofs.Members.{lt_or_ge, has_left, has_split, has_source, slice_get_left, slice_get_end}
use Rattle.unit_propagation.proofs.UnitSteps.{leads_more}
use Rattle.refutation_check.proofs.Consequences.{true_where_follows, sound}
use Rattle.refutation_check.proofs.Least.{fixed_value, choice_at, choices_length, settled_extends}
use Rattle.sat_core.specs.Searches.{IsLeastThatExtends}
use Rattle.sat_core.specs.States.{IsLearned}

take_get : {A : Type 0} (xs : List A) (k j : ℕ) (x : A) → slice_get (take k xs) j ≡ Some x → (j < k) × (slice_get xs j ≡ Some x)
take_get xs zero j x e = absurd (let bad : ⊥ = cc e in bad)
take_get [] (suc k) j x e = absurd (let bad : ⊥ = cc e in bad)
take_get (y ∷ xs) (suc k) zero x e = (omega arith, e)
take_get (y ∷ xs) (suc k) (suc j) x e = let r = take_get xs k j x e in let lt = r.0 in (omega (arith, lt), r.1)

-- ---- a model of the clauses makes the log true

premises_model : (clauses : Clauses) (log : List Sides) (v : Assignment) → IsModel clauses.list v → ((c : Sides) → Has log c → IsTrueIn v (literals c)) → IsModel (premises clauses log) v
premises_model clauses log v model each c h = go (has_split clauses.list (map literals log) c h)
  where
    of_log : (d : Sides) × Has log d × (literals d ≡ c) → IsTrueIn v c
    of_log r = subst (IsTrueIn v) r.2 (each r.0 r.1)

    go : Has clauses.list c ⊎ Has (map literals log) c → IsTrueIn v c
    go (inl k) = model c k
    go (inr k) = of_log (has_source literals log c k)

up_to : (clauses : Clauses) (log : List Sides) (v : Assignment) → IsModel clauses.list v → IsAccepted clauses log → (k j : ℕ) (c : Sides) → j < k → slice_get log j ≡ Some c → IsTrueIn v (literals c)
up_to clauses log v model all zero j c lt e = absurd (omega arith)
up_to clauses log v model all (suc k) j c lt e = go (λ i d below is. up_to clauses log v model all k i d below is) (lt_or_ge j k)
  where
    go : ((i : ℕ) (d : Sides) → i < k → slice_get log i ≡ Some d → IsTrueIn v (literals d)) → (j < k) ⊎ (k ≤ j) → IsTrueIn v (literals c)
    go ih (inl below) = ih j c below e
    go ih (inr ge) =
        let at : j ≡ k = omega arith in
        let entry = all k c (ap (slice_get log) (sym at) ∙ e) in
        true_where_follows clauses.vars (premises clauses (take k log)) (literals c) v
        (premises_model clauses (take k log) v model (λ d h. (let r = take_get log k h.0 d h.1 in ih h.0 d r.0 r.1))) entry.follows

pub accepted_model : (clauses : Clauses) (log : List Sides) (v : Assignment) → IsModel clauses.list v → IsAccepted clauses log → IsModel (premises clauses log) v
accepted_model clauses log v model all =
    premises_model clauses log v model (λ c h. up_to clauses log v model all (suc h.0) h.0 c (omega arith) h.1)

-- ---- no earlier selection extends

pub none_earlier : (clauses : Clauses) (log : List Sides) (s t : Chosen) → s.features ≡ clauses.features → IsAccepted clauses log → AreForced clauses.vars (premises clauses log) (choices s) → IsEarlier t s → ExtendsToModel clauses t → ⊥
none_earlier clauses log s t same all forced e x =
    sound (premises clauses log) x.values (fixed clauses.vars front) (accepted_model clauses log x.values x.model all) agrees leads
  where
    f : ℕ
    f = e.feature

    in_s : f < s.features
    in_s = let a = e.within in let b = e.features in omega (arith, a, b)

    front : List Bool
    front = take f (choices s) ++ false ∷ []

    leads : Leads (premises clauses log) (fixed clauses.vars front)
    leads = forced f (choice_at s f in_s ∙ ap Some e.has)

    front_length : length (take f (choices s)) ≡ f
    front_length = let n = choices_length s in length-take-le f (choices s) (omega (arith, n, in_s))

    agrees : (y : ℕ) (b : Bool) → value_of (fixed clauses.vars front) y ≡ Some b → x.values y ≡ b
    agrees y b is = go (lt_or_ge y f)
      where
        at : slice_get front y ≡ Some b
        at = fixed_value clauses.vars front y b is

        go : (y < f) ⊎ (f ≤ y) → x.values y ≡ b
        go (inl lt) =
            let l = front_length in
            let taken = sym (slice_get_left (take f (choices s)) (false ∷ []) y (omega (arith, lt, l))) ∙ at in
            let whole = (take_get (choices s) f y b taken).1 in
            let y_in : y < s.features = omega (arith, lt, in_s) in
            let chosen : Some (is_on s y) ≡ Some b = sym (choice_at s y y_in) ∙ whole in
            let b_is : is_on s y ≡ b = cc chosen in
            x.features y (omega (arith, y_in, same)) ∙ e.before y lt ∙ b_is
        go (inr ge) =
            let l = front_length in
            let n : length front ≡ length (take f (choices s)) + 1 = length-append (take f (choices s)) (false ∷ []) in
            let within = slice_get_within front y b at in
            let y_is : y ≡ length (take f (choices s)) = omega (arith, ge, l, n, within) in
            let y_f : y ≡ f = y_is ∙ l in
            let last : Some false ≡ Some b = sym (slice_get_end (take f (choices s)) false) ∙ ap (slice_get front) (sym y_is) ∙ at in
            let b_is : false ≡ b = cc last in
            x.features y (omega (arith, y_f, in_s, same)) ∙ ap (is_on t) y_f ∙ e.lacks ∙ b_is

-- ---- the answer

pub least_of : (clauses : Clauses) (budget : ℕ) (log : List Sides) (prefix : List Bool) (s : Chosen) → AreWellFormed clauses → AreSettledByFeatures clauses → IsAccepted clauses log → length log ≤ budget →
    AreForced clauses.vars (premises clauses log) prefix → s.features ≡ clauses.features → choices s ≡ prefix → (Leads (premises clauses log) (fixed clauses.vars prefix) → ⊥) → IsLeastThatExtends clauses s × IsProofOfLeast clauses log s × (length log ≤ budget)
least_of clauses budget log prefix s formed settled accepted within all same are clear = (
  record { features = same; extends = extends; least = λ t e x. none_earlier clauses log s t same accepted forced e x },
  record { accepted = accepted; extends = extends; forced = forced },
  within,
)
  where
    forced : AreForced clauses.vars (premises clauses log) (choices s)
    forced = subst (AreForced clauses.vars (premises clauses log)) (sym are) all

    extends : ExtendsToModel clauses s
    extends = settled_extends clauses s formed settled same (λ leads.
        clear (subst (λ p. Leads (premises clauses log) (fixed clauses.vars p)) are
        (leads_more clauses.list (premises clauses log) (fixed clauses.vars (choices s)) (λ c h. has_left clauses.list (map literals log) c h) leads)))

pub least_at_last : (clauses : Clauses) (budget : ℕ) (log : List Sides) (ps : List (List Literal)) (prefix : List Bool) (s : Chosen) → AreWellFormed clauses → AreSettledByFeatures clauses → IsLearned clauses log ps → length log ≤ budget →
    AreForced clauses.vars ps prefix → s.features ≡ clauses.features → choices s ≡ prefix → (Leads ps (fixed clauses.vars prefix) → ⊥) → IsLeastThatExtends clauses s × IsProofOfLeast clauses log s × (length log ≤ budget)
least_at_last clauses budget log ps prefix s formed settled known within forced same are clear =
    least_of clauses budget log prefix s formed settled known.accepted within (subst (λ w. AreForced clauses.vars w prefix) known.premises_are forced) same are
    (λ leads. clear (subst (λ w. Leads w (fixed clauses.vars prefix)) (sym known.premises_are) leads))
