-- Logs that are accepted.
use Rattle.std.proofs.Common.{◌≡◌, ℕ, ◌+◌, ◌^◌, ◌<◌, ◌≤◌, ◌⊎◌, inl, inr, Bool, true, false, ◌==◌, nat_lt, List, [], ◌∷◌, ◌++◌, length, get_or, take, map, Some, slice_get, refl, sym, ◌∙◌, ap, subst, arith, length-append, append_assoc, append-nil, bit_and}
use Rattle.std.specs.Prelude.{All}
use Rattle.std.specs.List.{list_any}
use Rattle.std.proofs.lemmas.Bool.{ltb-true}
use Rattle.std.proofs.lemmas.Nat.Bits.{bit_at_above}
use Rattle.std.proofs.lemmas.List.{take-append-le, map-append}
use Rattle.std.proofs.lemmas.Option.{slice_get_within, slice_get_read}
use Rattle.std.proofs.Math.Seq.{take-append_seam}
use Rattle.cfj_logic.specs.declared.clauses.Literal.{Literal}
use Rattle.cfj_logic.specs.declared.clauses.Clauses.{Clauses}
use Rattle.cfj_logic.specs.Selections.{has_bit}
use Rattle.cfj_logic.specs.Sides.{Sides, is_over, is_within}
use Rattle.cfj_words.specs.Lists.{Has}
use Rattle.cfj_logic.specs.Logs.{AreBelow, AreWellFormed, literals, premises, Follows, IsEntry, IsAccepted}
use Rattle.unit_propagation.proofs.Members.{lt_or_ge, all_has, all_from, has_split, has_source, any_has, none_has, slice_get_left, slice_get_end, take_next, both_true}
use Rattle.refutation_check.proofs.ClauseLiterals.{side, literals_has}

-- ---- literals of clauses over features

bit_below : (n features f : ℕ) → n < 2 ^ features → has_bit n f ≡ true → f < features
bit_below n features f small bit = go (lt_or_ge f features)
  where
    go : (f < features) ⊎ (features ≤ f) → f < features
    go (inl lt) = lt
    go (inr le) = let no : true ≡ false = sym bit ∙ ap (λ b. b == 1) (bit_at_above n features f small le) in absurd (let bad : ⊥ = cc no in bad)

pub over_literal : (features : ℕ) (c : Sides) (l : Literal) → is_over features c ≡ true → Has (literals c) l → l.var < features
over_literal features c l over h = go l.on (literals_has c l h).1
  where
    go : (on : Bool) → has_bit (side c on) l.var ≡ true → l.var < features
    go true bit = bit_below c.on features l.var (ltb-true c.on (2 ^ features) (both_true (nat_lt c.on (2 ^ features)) (nat_lt c.off (2 ^ features)) over).0) bit
    go false bit = bit_below c.off features l.var (ltb-true c.off (2 ^ features) (both_true (nat_lt c.on (2 ^ features)) (nat_lt c.off (2 ^ features)) over).1) bit

pub over_below : (features vars : ℕ) (c : Sides) → features ≤ vars → is_over features c ≡ true → AreBelow vars (literals c)
over_below features vars c le over = all_from (λ l. l.var < vars) (literals c) (λ l h. (let lt = over_literal features c l over h in omega (arith, lt, le)))

-- ---- entries

pub entry_of : (clauses : Clauses) (before : List Sides) (ps : List (List Literal)) (c : Sides) (list : List Literal) → ps ≡ premises clauses before → list ≡ literals c →
    is_over clauses.features c ≡ true → bit_and c.on c.off ≡ 0 → list_any (λ d. is_within d c) before ≡ false → Follows clauses.vars ps list → IsEntry clauses before c
entry_of clauses before ps c list ps_is list_is over once known follows = record {
  over = over;
  once = once;
  follows = subst (Follows clauses.vars (premises clauses before)) list_is (subst (λ w. Follows clauses.vars w list) ps_is follows);
  new = λ d h. none_has (λ e. is_within e c) before d known h;
}

pub entry_follows : (clauses : Clauses) (before : List Sides) (ps : List (List Literal)) (c : Sides) (list : List Literal) → ps ≡ premises clauses before → list ≡ literals c →
    IsEntry clauses before c → Follows clauses.vars ps list
entry_follows clauses before ps c list ps_is list_is e =
    subst (λ w. Follows clauses.vars w list) (sym ps_is) (subst (Follows clauses.vars (premises clauses before)) (sym list_is) e.follows)

pub known_not_entry : (clauses : Clauses) (before : List Sides) (c : Sides) → list_any (λ d. is_within d c) before ≡ true → IsEntry clauses before c → ⊥
known_not_entry clauses before c known e =
    let r = any_has (λ d. is_within d c) before known in
    let no : true ≡ false = sym r.2 ∙ e.new r.0 r.1 in
    cc no

-- ---- logs

pub accepted_none : (clauses : Clauses) → IsAccepted clauses []
accepted_none clauses k c e = absurd (let no : ⊥ = cc e in no)

pub accepted_push : (clauses : Clauses) (log : List Sides) (c : Sides) → IsAccepted clauses log → IsEntry clauses log c → IsAccepted clauses (log ++ c ∷ [])
accepted_push clauses log c all entry k d is = go (lt_or_ge k (length log))
  where
    within : k < length (log ++ c ∷ [])
    within = slice_get_within (log ++ c ∷ []) k d is

    go : (k < length log) ⊎ (length log ≤ k) → IsEntry clauses (take k (log ++ c ∷ [])) d
    go (inl lt) =
        subst (λ w. IsEntry clauses w d) (sym (take-append-le k log (c ∷ []) (omega arith)))
        (all k d (sym (slice_get_left log (c ∷ []) k lt) ∙ is))
    go (inr ge) =
        let l : length (log ++ c ∷ []) ≡ length log + 1 = length-append log (c ∷ []) in
        let at : k ≡ length log = omega (arith, within, l) in
        let e : Some c ≡ Some d = sym (slice_get_end log c) ∙ ap (slice_get (log ++ c ∷ [])) (sym at) ∙ is in
        let same : c ≡ d = cc e in
        let front : take k (log ++ c ∷ []) ≡ log = ap (λ j. take j (log ++ c ∷ [])) at ∙ take-append_seam log (c ∷ []) in
        subst (λ w. IsEntry clauses w d) (sym front) (subst (IsEntry clauses log) same entry)

pub accepted_next : (clauses : Clauses) (log : List Sides) (i : ℕ) (x : Sides) → i < length log → x ≡ get_or log i x → IsAccepted clauses (take i log) → IsEntry clauses (take i log) x → IsAccepted clauses (take (i + 1) log)
accepted_next clauses log i x lt is all entry = subst (IsAccepted clauses) (sym (take_next log i x lt is)) (accepted_push clauses (take i log) x all entry)

-- a logged clause joins the premises
pub premises_push : (clauses : Clauses) (log : List Sides) (c : Sides) → premises clauses (log ++ c ∷ []) ≡ premises clauses log ++ literals c ∷ []
premises_push clauses log c = ap (λ w. clauses.list ++ w) (map-append literals log (c ∷ [])) ∙ sym (append_assoc clauses.list (map literals log) (literals c ∷ []))

pub premises_next : (clauses : Clauses) (log : List Sides) (i : ℕ) (x : Sides) (old new : List (List Literal)) (list : List Literal) → i < length log → x ≡ get_or log i x → old ≡ premises clauses (take i log) → list ≡ literals x →
    new ≡ old ++ list ∷ [] → new ≡ premises clauses (take (i + 1) log)
premises_next clauses log i x old new list lt is so_far list_is pushed =
    pushed ∙ ap (λ w. w ++ list ∷ []) so_far ∙ ap (λ w. premises clauses (take i log) ++ w ∷ []) list_is ∙ sym (premises_push clauses (take i log) x)
    ∙ ap (premises clauses) (sym (take_next log i x lt is))

pub premises_none : (clauses : Clauses) → clauses.list ≡ premises clauses []
premises_none clauses = sym (append-nil clauses.list)

pub accepted_at : (clauses : Clauses) (log : List Sides) (i : ℕ) (x : Sides) → i < length log → x ≡ get_or log i x → IsAccepted clauses log → IsEntry clauses (take i log) x
accepted_at clauses log i x lt is all = all i x (slice_get_read log (length log) i x refl lt is)

pub accepted_below : (clauses : Clauses) (log : List Sides) → AreWellFormed clauses → IsAccepted clauses log → All (AreBelow clauses.vars) (map literals log)
accepted_below clauses log formed all = all_from (AreBelow clauses.vars) (map literals log) (λ list h. each list (has_source literals log list h))
  where
    each : (list : List Literal) → (c : Sides) × Has log c × (literals c ≡ list) → AreBelow clauses.vars list
    each list r = subst (AreBelow clauses.vars) r.2 (over_below clauses.features clauses.vars r.0 formed.features (all r.1.0 r.0 r.1.1).over)

pub premises_below : (clauses : Clauses) (log : List Sides) → AreWellFormed clauses → IsAccepted clauses log → All (AreBelow clauses.vars) (premises clauses log)
premises_below clauses log formed all = all_from (AreBelow clauses.vars) (premises clauses log) (λ c h. each c (has_split clauses.list (map literals log) c h))
  where
    each : (c : List Literal) → Has clauses.list c ⊎ Has (map literals log) c → AreBelow clauses.vars c
    each c (inl h) = all_has (AreBelow clauses.vars) clauses.list c formed.literals h
    each c (inr h) = all_has (AreBelow clauses.vars) (map literals log) c (accepted_below clauses log formed all) h

pub below_as : (clauses : Clauses) (log : List Sides) (ps : List (List Literal)) → AreWellFormed clauses → IsAccepted clauses log → ps ≡ premises clauses log → All (AreBelow clauses.vars) ps
below_as clauses log ps formed all is = subst (All (AreBelow clauses.vars)) (sym is) (premises_below clauses log formed all)
