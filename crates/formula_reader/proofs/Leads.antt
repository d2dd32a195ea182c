-- How tokens lead to the end of a formula, step by step, for what reads a formula inside a longer text.
use Rattle.std.proofs.Common.{◌≡◌, ℕ, Bool, true, false, List, [], ◌∷◌, Option, Some, None, refl, sym, ◌∙◌, ap, subst}
use Rattle.cfj_logic.specs.declared.formula.Formula.{Formula}
use Rattle.cfj_model.specs.FormulaGrammar.{IffTree, spell_iff, roles_iff, value_iff}
use Rattle.cfj_model.specs.Roles.{Role, other_token}
use Rattle.cfj_words.specs.Tokens.{Token, Semicolon}
use Rattle.formula_reader.specs.Machine.{State, start, done, step, role, is_done, Run, with_role, then_run, run}
use Rattle.formula_reader.proofs.Complete.{formula_runs}
use Rattle.formula_reader.proofs.Law.{some_same, done_stops, only_semicolon_ends}

-- The tokens, the last of which is the formula's semicolon, lead from a state to the end of a formula.
pub data Leads (features : List (List ℕ)) : List Token → State → List Role → Formula → Type 0 where
  last : (s : State) (y : Formula) → step features s Semicolon ≡ Some (done y) → Leads features (Semicolon ∷ []) s (other_token ∷ []) y
  more : (t : Token) (ts : List Token) (s n : State) (rs : List Role) (y : Formula) → step features s t ≡ Some n → is_done n ≡ false → Leads features ts n rs y → Leads features (t ∷ ts) s (role s t ∷ rs) y

module _ (features : List (List ℕ)) where
  -- so they run to it
  pub leads_run : (ts : List Token) (s : State) (rs : List Role) (y : Formula) → Leads features ts s rs y → run features ts s ≡ (Some (done y), rs)
  unfolding run
  leads_run _ s _ y (last _ _ e) = ap (then_run (run features []) other_token) e
  leads_run _ s _ y (more t ts _ n rs _ e goes l) = ap (then_run (run features ts) (role s t)) e ∙ ap (with_role (role s t)) (leads_run ts n rs y l)

  -- nothing is read behind the end
  ended_run : (ts : List Token) (n : State) (rs : List Role) (y : Formula) → is_done n ≡ true → run features ts n ≡ (Some (done y), rs) → (ts ≡ []) × (n ≡ done y) × (rs ≡ [])
  unfolding run
  ended_run [] n rs y e h = (refl, some_same n (done y) (ap (λ (p : Run). p.0) h), sym (ap (λ (p : Run). p.1) h))
  ended_run (t ∷ ts) n rs y e h =
      let o : None ≡ Some (done y) = ap (λ (p : Run). p.0) (sym (ap (then_run (run features ts) (role n t)) (done_stops features n t e)) ∙ h) in
      absurd (let no : ⊥ = cc o in no)

  -- And what runs to the end of a formula leads there.
  pub run_leads : (ts : List Token) (s : State) (rs : List Role) (y : Formula) → is_done s ≡ false → run features ts s ≡ (Some (done y), rs) → Leads features ts s rs y
  unfolding run
  run_leads [] s rs y undone h =
      let same : s ≡ done y = some_same s (done y) (ap (λ (p : Run). p.0) h) in
      absurd (let wrong : false ≡ true = sym undone ∙ ap is_done same in let no : ⊥ = cc wrong in no)
  run_leads (t ∷ ts) s rs y undone h = go (λ n qs e g. run_leads ts n qs y e g) (step features s t) refl h
    where
      at_end : (n : State) → step features s t ≡ Some n → is_done n ≡ true → with_role (role s t) (run features ts n) ≡ (Some (done y), rs) → Leads features (t ∷ ts) s rs y
      at_end n e ends g =
          let b = ended_run ts n (run features ts n).1 y ends (ap (λ o. (o, (run features ts n).1)) (ap (λ (p : Run). p.0) g)) in
          let semicolon : t ≡ Semicolon = only_semicolon_ends features s n t e ends in
          let roles : role s Semicolon ∷ [] ≡ rs = ap (λ u. role s u ∷ []) (sym semicolon) ∙ ap (λ qs. role s t ∷ qs) (sym b.2) ∙ ap (λ (p : Run). p.1) g in
          subst (λ us. Leads features us s rs y) (ap (λ us. Semicolon ∷ us) (sym b.0) ∙ ap (λ u. u ∷ ts) (sym semicolon))
          (subst (λ qs. Leads features (Semicolon ∷ []) s qs y) roles (last s y (ap (step features s) (sym semicolon) ∙ e ∙ ap Some b.1)))

      go : ((n : State) (qs : List Role) → is_done n ≡ false → run features ts n ≡ (Some (done y), qs) → Leads features ts n qs y) → (o : Option State) → step features s t ≡ o → then_run (run features ts) (role s t) o ≡ (Some (done y), rs) → Leads features (t ∷ ts) s rs y
      go ih None e g = let o : None ≡ Some (done y) = ap (λ (p : Run). p.0) g in absurd (let no : ⊥ = cc o in no)
      go ih (Some n) e g = by_end (is_done n) refl
        where
          by_end : (b : Bool) → is_done n ≡ b → Leads features (t ∷ ts) s rs y
          by_end true ends = at_end n e ends g
          by_end false goes =
              let l = ih n (run features ts n).1 goes (ap (λ o. (o, (run features ts n).1)) (ap (λ (p : Run). p.0) g)) in
              subst (λ qs. Leads features (t ∷ ts) s qs y) (ap (λ (p : Run). p.1) g) (more t ts s n (run features ts n).1 y e goes l)

  -- a formula's text leads from the start to its value
  pub formula_leads : (x : IffTree) → Leads features (spell_iff x (Semicolon ∷ [])) start (roles_iff 0 x (other_token ∷ [])) (value_iff features x)
  formula_leads x = run_leads (spell_iff x (Semicolon ∷ [])) start (roles_iff 0 x (other_token ∷ [])) (value_iff features x) refl (formula_runs features x)
