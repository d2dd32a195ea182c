-- The values in which all literals of a clause are false.
use Rattle.std.proofs.Common.{◌≡◌, ℕ, zero, suc, ◌<◌, ◌⊎◌, inl, inr, Bool, not, List, [], ◌∷◌, length, Option, Some, None, refl, sym, ◌∙◌, ap, subst, arith}
use Rattle.std.proofs.lemmas.List.{get_or-set_same}
use Rattle.cfj_logic.specs.declared.clauses.Literal.{Literal}
use Rattle.cfj_words.specs.Lists.{Has}
use Rattle.cfj_logic.specs.UnitClauses.{Values, value_of, with_false}
use Rattle.cfj_logic.specs.Logs.{assumed_from}
use Rattle.unit_propagation.proofs.Members.{has_none}
use Rattle.unit_propagation.proofs.UnitSteps.{set_cases}
use Rattle.refutation_check.proofs.FirstValues.{set_length}

assumed_keeps : (c : List Literal) (vs : Values) (x : ℕ) (b : Bool) → ((m : Literal) → Has c m → m.var ≡ x → not m.on ≡ b) → value_of vs x ≡ Some b → value_of (assumed_from vs c) x ≡ Some b
assumed_keeps [] vs x b each e = e
assumed_keeps (l ∷ c) vs x b each e = assumed_keeps c (with_false vs l) x b (λ m h. each m (suc h.0, h.1)) (go (set_cases vs l.var x (Some (not l.on))))
  where
    go : ((x ≡ l.var) × (value_of (with_false vs l) x ≡ Some (not l.on))) ⊎ (value_of (with_false vs l) x ≡ value_of vs x) → value_of (with_false vs l) x ≡ Some b
    go (inl s) = s.1 ∙ ap Some (each l (0, refl) (sym s.0))
    go (inr s) = s ∙ e

one_denied : (v : ℕ → Option Bool) (m k : Literal) → v m.var ≡ Some (not m.on) → v k.var ≡ Some (not k.on) → k.var ≡ m.var → not k.on ≡ not m.on
one_denied v m k d e same =
    let s : Some (not k.on) ≡ Some (not m.on) = sym e ∙ ap v same ∙ d in
    cc s

-- where all literals of a clause are false under some values, assuming them false gives those values
pub assumed_has : (c : List Literal) (vs : Values) (v : ℕ → Option Bool) (m : Literal) → ((k : Literal) → Has c k → v k.var ≡ Some (not k.on)) → Has c m → m.var < length vs → value_of (assumed_from vs c) m.var ≡ Some (not m.on)
assumed_has [] vs v m denies h lt = absurd (has_none m h)
assumed_has (l ∷ c) vs v m denies (zero, e) lt =
    let same : l ≡ m = cc e in
    assumed_keeps c (with_false vs l) m.var (not m.on) (λ k h s. one_denied v m k (denies m (0, e)) (denies k (suc h.0, h.1)) s)
    (subst (λ (w : Literal). value_of (with_false vs w) m.var ≡ Some (not m.on)) (sym same) (get_or-set_same vs m.var (Some (not m.on)) None lt))
assumed_has (l ∷ c) vs v m denies (suc k, e) lt =
    let n = set_length vs l.var (Some (not l.on)) in
    assumed_has c (with_false vs l) v m (λ d h. denies d (suc h.0, h.1)) (k, e) (omega (arith, n, lt))
