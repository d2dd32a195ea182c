-- Clauses that join a log.
use Rattle.std.proofs.Common.{◌≡◌, ℕ, ◌^◌, ◌<◌, inl, Bool, true, false, ◌==◌, ◌&&◌, ◌||◌, List, [], ◌∷◌, ◌++◌, bit_and, refl, sym, ◌∙◌, ap, subst, Result, Ok, Err, nat_lt}
use Rattle.std.specs.Prelude.{OnOk}
use Rattle.std.specs.List.{list_any}
use Rattle.std.specs.Int.Bits.{and_zero_r}
use Rattle.std.proofs.lemmas.Bool.{eqb-true, lt-ltb}
use Rattle.std.proofs.lemmas.List.Folds.{list_any-append}
use Rattle.std.proofs.lemmas.Nat.{pow_pos}
use Rattle.cfj_logic.specs.declared.clauses.Literal.{Literal}
use Rattle.cfj_logic.specs.declared.clauses.Clauses.{Clauses}
use Rattle.cfj_logic.specs.Selections.{is_subset}
use Rattle.cfj_logic.specs.Sides.{Sides, empty_clause, is_empty, is_within}
use Rattle.cfj_words.specs.Lists.{Has}
use Rattle.cfj_logic.specs.UnitClauses.{Leads}
use Rattle.cfj_logic.specs.Logs.{literals, premises, assumed, fixed, IsEntry, IsRefutation}
use Rattle.unit_propagation.proofs.Members.{has_left, has_right, has_any, both_true}
use Rattle.refutation_check.proofs.FirstValues.{fixed_none}
use Rattle.refutation_check.proofs.Accepting.{accepted_none, accepted_push, premises_none, premises_push}
use Rattle.sat_core.specs.States.{IsLearned}

-- ---- the empty clause

empty_literals : literals empty_clause ≡ []
unfolding literals
empty_literals = refl

within_empty : (d : Sides) → is_within d empty_clause ≡ true → is_empty d ≡ true
within_empty d e =
    let h = both_true (is_subset d.on 0) (is_subset d.off 0) e in
    let p : bit_and d.on 0 ≡ d.on = eqb-true (bit_and d.on 0) d.on h.0 in
    let q : bit_and d.off 0 ≡ d.off = eqb-true (bit_and d.off 0) d.off h.1 in
    let on : d.on ≡ 0 = sym p ∙ and_zero_r d.on in
    let off : d.off ≡ 0 = sym q ∙ and_zero_r d.off in
    ap (λ n. (n == 0) && (d.off == 0)) on ∙ ap (λ n. n == 0) off

pub empty_entry : (clauses : Clauses) (log : List Sides) → list_any is_empty log ≡ false → Leads (premises clauses log) (fixed clauses.vars []) → IsEntry clauses log empty_clause
empty_entry clauses log plain leads = record {
  over = over_none (2 ^ clauses.features) (pow_pos clauses.features);
  once = refl;
  follows = inl (subst (Leads (premises clauses log)) (sym (ap (assumed clauses.vars) empty_literals ∙ fixed_none clauses.vars)) leads);
  new = λ d h. go d h (is_within d empty_clause) refl;
}
  where
    over_none : (n : ℕ) → 0 < n → nat_lt 0 n && nat_lt 0 n ≡ true
    over_none n lt = ap (λ b. b && b) (lt-ltb 0 n lt)

    go : (d : Sides) → Has log d → (b : Bool) → is_within d empty_clause ≡ b → is_within d empty_clause ≡ false
    go d h true e = absurd (let bad : true ≡ false = sym (has_any is_empty log d h (within_empty d e)) ∙ plain in cc bad)
    go d h false e = e

-- ---- learning

plain_push : (log : List Sides) (c : Sides) → list_any is_empty log ≡ false → is_empty c ≡ false → list_any is_empty (log ++ c ∷ []) ≡ false
plain_push log c plain some = list_any-append is_empty log (c ∷ []) ∙ ap (λ b. b || (is_empty c || false)) plain ∙ ap (λ b. b || false) some

pub learned_push : (clauses : Clauses) (log new : List Sides) (ps more : List (List Literal)) (c : Sides) (list : List Literal) → IsLearned clauses log ps → IsEntry clauses log c → is_empty c ≡ false →
    list ≡ literals c → more ≡ ps ++ list ∷ [] → new ≡ log ++ c ∷ [] → IsLearned clauses new more
learned_push clauses log new ps more c list known entry some list_is more_is new_is = subst (λ w. IsLearned clauses w more) (sym new_is) (record {
  premises_are = more_is ∙ ap (λ w. w ++ list ∷ []) known.premises_are ∙ ap (λ w. premises clauses log ++ w ∷ []) list_is ∙ sym (premises_push clauses log c);
  accepted = accepted_push clauses log c known.accepted entry;
  plain = plain_push log c known.plain some;
})

pub on_ok : {A E : Type 0} (r : Result A E) (P Q : Type 0) → (P → Q) → OnOk r P → OnOk r Q
on_ok (Ok x) P Q f h = f h
on_ok (Err e) P Q f h = h

-- ---- the ends

pub learned_first : (clauses : Clauses) (log : List Sides) (ps : List (List Literal)) → log ≡ [] → ps ≡ clauses.list → IsLearned clauses log ps
learned_first clauses log ps none is =
    subst (λ w. IsLearned clauses w ps) (sym none) (record { premises_are = is ∙ premises_none clauses; accepted = accepted_none clauses; plain = refl })

pub spent : (clauses : Clauses) (log : List Sides) (ps : List (List Literal)) → IsLearned clauses log ps → Has log empty_clause → ⊥
spent clauses log ps known h = let bad : true ≡ false = sym (has_any is_empty log empty_clause h refl) ∙ known.plain in cc bad

pub refuted_at_last : (clauses : Clauses) (log new : List Sides) (ps : List (List Literal)) → IsLearned clauses log ps → Leads ps (fixed clauses.vars []) → new ≡ log ++ empty_clause ∷ [] → IsRefutation clauses new
refuted_at_last clauses log new ps known leads is = subst (IsRefutation clauses) (sym is) (record {
  accepted = accepted_push clauses log empty_clause known.accepted (empty_entry clauses log known.plain (subst (λ w. Leads w (fixed clauses.vars [])) known.premises_are leads));
  empty = has_right log (empty_clause ∷ []) empty_clause (0, refl);
})
