-- No rule of an expression's nodes breaks exactly where the expression has a type; the classes that it names are known then.
use Rattle.std.proofs.Common.{◌≡◌, ℕ, suc, nat_lt, Bool, true, false, not, ◌&&◌, ◌||◌, ◌==◌, cond, List, [], ◌∷◌, length, map, Option, None, Some, is_some, option_map, refl, sym, ◌∙◌, ap, arith}
use Rattle.std.specs.List.{list_all, list_any}
use Rattle.std.proofs.lemmas.Bool.{and_parts, and_from}
use Rattle.std.proofs.lemmas.List.{length-map}
use Rattle.std.proofs.lemmas.List.Folds.{list_all-append}
use Rattle.cfj_model.specs.LookUps.{Table, is_known}
use Rattle.cfj_model.specs.Judging.{Ruling, JudgedExpr, judged_step_with, judged_arg, types_of, Fit, fits, fit_of, fit_numbers, misfits, no_misfits, argument_rules, type_if, accessed, called, result_type, field_types, is_unrelated, rank, with_ruling}
use Rattle.cfj_model.specs.Typing.{param_types, classes_named_by, classes_named_step, joined}
use Rattle.cfj_model.specs.declared.class.Method.{Method}
use Rattle.cfj_model.specs.declared.expr.Arg.{Arg}
use Rattle.cfj_model.specs.declared.expr.Expr.{Expr}
use Rattle.cfj_model.specs.declared.expr.Expr.TheVariants as e
use Rattle.cfj_model.specs.declared.site.Rule.{Rule}
use Rattle.cfj_model.specs.declared.site.Rule.TheVariants.{E2, E3, E4, E5, E6, E7, E8}
use Rattle.cfj_model.proofs.ExprCases.{fold_var, fold_get, fold_call, fold_new, fold_cast, Proved, args_of, by_cases}
use Rattle.class_table.proofs.Members.{unlike, not_true}
use Rattle.plain_fj.proofs.Typed.{type_of, judged_of, judged_args, arg_types, type_var, type_get, type_call, type_new, type_cast}

-- none of these rules breaks
abbrev pub none_breaks : List Ruling → Bool
none_breaks vs = list_all (λ v. not v.1) vs

-- none of the rules of these nodes breaks
abbrev pub nodes_clear : List (ℕ × List Ruling) → Bool
nodes_clear ns = list_all (λ n. none_breaks n.1) ns

-- one more ruling breaks, or one of the others
pub none_with_ruling : (v : Ruling) (vs : List Ruling) → none_breaks (with_ruling v vs) ≡ (not v.1 && none_breaks vs)
none_with_ruling v [] = refl
none_with_ruling v (w ∷ ws) = go (nat_lt (rank w.0) (rank v.0)) (none_with_ruling v ws)
  where
    turned : (a b c : Bool) → (a && (b && c)) ≡ (b && (a && c))
    turned true true c = refl
    turned true false c = refl
    turned false true c = refl
    turned false false c = refl

    go : (b : Bool) → none_breaks (with_ruling v ws) ≡ (not v.1 && none_breaks ws) → none_breaks (cond b (w ∷ with_ruling v ws) (v ∷ (w ∷ ws))) ≡ (not v.1 && (not w.1 && none_breaks ws))
    go true ih = ap (λ b. not w.1 && b) ih ∙ turned (not w.1) (not v.1) (none_breaks ws)
    go false ih = refl

-- ---- tests

some_type : (ok : Bool) (t : List ℕ) → is_some (type_if ok t) ≡ ok
some_type true t = refl
some_type false t = refl

some_result : (ok : Bool) (d : Option Method) → is_some (result_type ok d) ≡ (is_some d && ok)
some_result ok None = refl
some_result ok (Some d) = some_type ok d.result

some_called : (p : Table) (on : Option (List ℕ)) (ts : Option (List (List ℕ))) (m : List ℕ) → is_some (called p on ts m) ≡ true → (is_some on ≡ true) × (is_some ts ≡ true)
some_called p None ts m h = absurd (not_true (sym h))
some_called p (Some c) None m h = absurd (not_true (sym h))
some_called p (Some c) (Some ts) m h = (refl, refl)

some_accessed : (p : Table) (on : Option (List ℕ)) (f : List ℕ) → is_some (accessed p on f) ≡ true → is_some on ≡ true
some_accessed p None f h = absurd (not_true (sym h))
some_accessed p (Some c) f h = refl

some_types : (o : Option (List ℕ)) (os : List (Option (List ℕ))) → is_some (types_of (o ∷ os)) ≡ (is_some o && is_some (types_of os))
some_types None os = refl
some_types (Some t) os = go (types_of os)
  where
    go : (r : Option (List (List ℕ))) → is_some (option_map (λ us. t ∷ us) r) ≡ is_some r
    go None = refl
    go (Some us) = refl

var_bools : (d m : Bool) → ((not (not d) && m) && true) ≡ (d && m)
var_bools true true = refl
var_bools true false = refl
var_bools false m = refl

get_bools : (a d m : Bool) → (d ≡ true → a ≡ true) → ((a && true) && ((not (a && not d) && m) && true)) ≡ (d && m)
get_bools false false m i = refl
get_bools false true m i = absurd (not_true (sym (i refl)))
get_bools true false m i = refl
get_bools true true true i = refl
get_bools true true false i = refl

call_bools : (a b d q m y : Bool) → (d ≡ true → (a ≡ true) × (b ≡ true))
    → ((a && true) && ((not (a && b && not d) && (not q && m)) && (b && not y))) ≡ ((d && (not q && not y)) && m)
call_bools false b false q m y i = refl
call_bools false b true q m y i = absurd (not_true (sym (i refl).0))
call_bools true false false true m y i = refl
call_bools true false false false true y i = refl
call_bools true false false false false y i = refl
call_bools true false true q m y i = absurd (not_true (sym (i refl).1))
call_bools true true false q m y i = refl
call_bools true true true true m y i = refl
call_bools true true true false true true i = refl
call_bools true true true false true false i = refl
call_bools true true true false false true i = refl
call_bools true true true false false false i = refl

new_bools : (b k q m y : Bool) → ((not (not k) && (not q && m)) && (b && not y)) ≡ ((b && k && (not q && not y)) && m)
new_bools true false q m y = refl
new_bools false false q m y = refl
new_bools b true true m y = go b
  where
    go : (b : Bool) → false ≡ ((b && true && (not true && not y)) && m)
    go true = refl
    go false = refl
new_bools true true false true true = refl
new_bools true true false true false = refl
new_bools true true false false true = refl
new_bools true true false false false = refl
new_bools false true false true y = refl
new_bools false true false false y = refl

cast_bools : (a k u m : Bool) → ((not (not k) && (not u && m)) && (a && true)) ≡ ((a && k && not u) && m)
cast_bools true false u m = refl
cast_bools false false u m = refl
cast_bools true true true m = refl
cast_bools false true true m = refl
cast_bools true true false true = refl
cast_bools true true false false = refl
cast_bools false true false true = refl
cast_bools false true false false = refl

args_bools : (a b c d : Bool) → ((a && (not b && true)) && (c && not d)) ≡ ((a && c) && not (b || d))
args_bools false b c d = refl
args_bools true true true d = refl
args_bools true true false d = refl
args_bools true false true d = refl
args_bools true false false d = refl

-- ---- as many answers as arguments

pub misfits_length : (p : Table) (ts ws : List (List ℕ)) → length (misfits p ts ws) ≡ length ts
misfits_length p [] ws = refl
misfits_length p (t ∷ ts) [] = ap suc (misfits_length p ts [])
misfits_length p (t ∷ ts) (w ∷ ws) = ap suc (misfits_length p ts ws)

pub types_length : (os : List (Option (List ℕ))) (ts : List (List ℕ)) → types_of os ≡ Some ts → length ts ≡ length os
types_length [] ts h = let same : [] ≡ ts = cc h in ap length (sym same)
types_length (None ∷ os) ts h = absurd (unlike h)
types_length (Some t ∷ os) ts h = go (types_length os) (types_of os) refl h
  where
    go : ((us : List (List ℕ)) → types_of os ≡ Some us → length us ≡ length os) → (o : Option (List (List ℕ))) → types_of os ≡ o → option_map (λ us. t ∷ us) o ≡ Some ts
        → length ts ≡ suc (length os)
    go ih None q h = absurd (unlike h)
    go ih (Some us) q h = let same : t ∷ us ≡ ts = cc h in ap length (sym same) ∙ ap suc (ih us q)

numbers_length : (p : Table) (ts ws : List (List ℕ)) → length (fit_numbers p ts ws).misfits ≡ length ts
numbers_length p ts ws = go (length ts == length ws)
  where
    go : (b : Bool) → length (cond {A = Fit} b (record { differs = false; misfits = misfits p ts ws }) (record { differs = true; misfits = no_misfits ts })).misfits ≡ length ts
    go true = misfits_length p ts ws
    go false = length-map ts (λ x. false)

fit_length : (p : Table) (xs : List JudgedExpr) (wanted : Option (List (List ℕ))) → length (fit_of p xs (types_of (map (λ x. x.type) xs)) wanted).misfits ≡ length xs
fit_length p xs wanted = go (types_of (map (λ (x : JudgedExpr). x.type) xs)) refl wanted
  where
    go : (o : Option (List (List ℕ))) → types_of (map (λ (x : JudgedExpr). x.type) xs) ≡ o → (w : Option (List (List ℕ))) → length (fit_of p xs o w).misfits ≡ length xs
    go None q w = length-map xs (λ x. false)
    go (Some ts) q None = length-map xs (λ x. false)
    go (Some ts) q (Some ws) = numbers_length p ts ws ∙ types_length (map (λ (x : JudgedExpr). x.type) xs) ts q ∙ length-map xs (λ (x : JudgedExpr). x.type)

-- ---- expressions

-- over the types that variables have
module _ (p : Table) (types : List ℕ → Option (List ℕ)) where
  -- No rule of its nodes breaks, nor one that the node round it judges at its root, exactly where it has a type and none of those does.
  abbrev Clear : Expr → Type 0
  Clear x = (more : List Ruling) → nodes_clear ((judged_of p types x).rules more) ≡ (is_some (type_of p types x) && none_breaks more)

  args_clear : (rule : Rule) (ys : List (Proved Clear)) (bs : List Bool) → length bs ≡ length (judged_args p types (args_of Clear ys))
      → nodes_clear (argument_rules rule (judged_args p types (args_of Clear ys)) bs) ≡ (is_some (arg_types p types (args_of Clear ys)) && not (list_any (λ b. b) bs))
  args_clear rule [] [] l = refl
  args_clear rule [] (b ∷ bs) l = absurd (omega (arith, l))
  args_clear rule (y ∷ ys) [] l = absurd (omega (arith, l))
  args_clear rule (y ∷ ys) (b ∷ bs) l =
      let rest : length bs ≡ length (judged_args p types (args_of Clear ys)) = omega (arith, l) in
      list_all-append (λ n. none_breaks n.1) ((judged_of p types y.0.expr).rules ((rule, b) ∷ [])) (argument_rules rule (judged_args p types (args_of Clear ys)) bs)
      ∙ ap (λ a. a && nodes_clear (argument_rules rule (judged_args p types (args_of Clear ys)) bs)) (y.1 ((rule, b) ∷ []))
      ∙ ap (λ a. (is_some (type_of p types y.0.expr) && (not b && true)) && a) (args_clear rule ys bs rest)
      ∙ args_bools (is_some (type_of p types y.0.expr)) b (is_some (arg_types p types (args_of Clear ys))) (list_any (λ b. b) bs)
      ∙ ap (λ a. a && not (b || list_any (λ b. b) bs)) (sym (some_types (type_of p types y.0.expr) (map (λ (x : JudgedExpr). x.type) (judged_args p types (args_of Clear ys)))))

  clear_var : (slot : ℕ) (x : List ℕ) → Clear (e.Var slot x)
  clear_var slot x more =
      ap (λ (j : JudgedExpr). nodes_clear (j.rules more)) (fold_var JudgedExpr JudgedExpr (judged_step_with p types) judged_arg slot x)
      ∙ var_bools (is_some (types x)) (none_breaks more)
      ∙ ap (λ o. is_some o && none_breaks more) (sym (type_var p types slot x))

  clear_get : (slot : ℕ) (on : Expr) → Clear on → (f : List ℕ) → Clear (e.Get slot on f)
  clear_get slot on ih f more =
      ap (λ (j : JudgedExpr). nodes_clear (j.rules more)) (fold_get JudgedExpr JudgedExpr (judged_step_with p types) judged_arg slot on f)
      ∙ list_all-append (λ n. none_breaks n.1) ((judged_of p types on).rules []) ((slot, (E2, is_some t && not (is_some d)) ∷ more) ∷ [])
      ∙ ap (λ a. a && ((not (is_some t && not (is_some d)) && none_breaks more) && true)) (ih [])
      ∙ get_bools (is_some t) (is_some d) (none_breaks more) (some_accessed p t f)
      ∙ ap (λ o. is_some o && none_breaks more) (sym (type_get p types slot on f))
    where
      t : Option (List ℕ)
      t = type_of p types on

      d : Option (List ℕ)
      d = accessed p t f

  clear_call : (slot : ℕ) (on : Expr) → Clear on → (m : List ℕ) (ys : List (Proved Clear)) → Clear (e.Call slot on m (args_of Clear ys))
  clear_call slot on ih m ys more =
      ap (λ (j : JudgedExpr). nodes_clear (j.rules more)) (fold_call JudgedExpr JudgedExpr (judged_step_with p types) judged_arg slot on m (args_of Clear ys))
      ∙ list_all-append (λ n. none_breaks n.1) ((judged_of p types on).rules []) ((slot, (E3, is_some t && is_some ts && not (is_some d)) ∷ ((E4, f.differs) ∷ more)) ∷ argument_rules E5 xs f.misfits)
      ∙ ap (λ a. a && (here && nodes_clear (argument_rules E5 xs f.misfits))) (ih [])
      ∙ ap (λ a. (is_some t && true) && (here && a)) (args_clear E5 ys f.misfits (fit_length p xs (option_map (λ (d : Method). param_types d.params) d)))
      ∙ call_bools (is_some t) (is_some ts) (is_some d) f.differs (none_breaks more) (list_any (λ b. b) f.misfits) (some_called p t ts m)
      ∙ ap (λ b. b && none_breaks more) (sym (some_result (fits f) d))
      ∙ ap (λ o. is_some o && none_breaks more) (sym (type_call p types slot on m (args_of Clear ys)))
    where
      t : Option (List ℕ)
      t = type_of p types on

      xs : List JudgedExpr
      xs = judged_args p types (args_of Clear ys)

      ts : Option (List (List ℕ))
      ts = arg_types p types (args_of Clear ys)

      d : Option Method
      d = called p t ts m

      f : Fit
      f = fit_of p xs ts (option_map (λ (d : Method). param_types d.params) d)

      here : Bool
      here = not (is_some t && is_some ts && not (is_some d)) && (not f.differs && none_breaks more)

  clear_new : (slot : ℕ) (c : List ℕ) (ys : List (Proved Clear)) → Clear (e.New slot c (args_of Clear ys))
  clear_new slot c ys more =
      ap (λ (j : JudgedExpr). nodes_clear (j.rules more)) (fold_new JudgedExpr JudgedExpr (judged_step_with p types) judged_arg slot c (args_of Clear ys))
      ∙ ap (λ a. (not (not (is_known p c)) && a) && nodes_clear (argument_rules E7 xs f.misfits)) (none_with_ruling (E6, f.differs) more)
      ∙ ap (λ a. (not (not (is_known p c)) && (not f.differs && none_breaks more)) && a) (args_clear E7 ys f.misfits (fit_length p xs (field_types p c)))
      ∙ new_bools (is_some ts) (is_known p c) f.differs (none_breaks more) (list_any (λ b. b) f.misfits)
      ∙ ap (λ b. b && none_breaks more) (sym (some_type (is_some ts && is_known p c && fits f) c))
      ∙ ap (λ o. is_some o && none_breaks more) (sym (type_new p types slot c (args_of Clear ys)))
    where
      xs : List JudgedExpr
      xs = judged_args p types (args_of Clear ys)

      ts : Option (List (List ℕ))
      ts = arg_types p types (args_of Clear ys)

      f : Fit
      f = fit_of p xs ts (field_types p c)

  clear_cast : (slot : ℕ) (c : List ℕ) (on : Expr) → Clear on → Clear (e.Cast slot c on)
  clear_cast slot c on ih more =
      ap (λ (j : JudgedExpr). nodes_clear (j.rules more)) (fold_cast JudgedExpr JudgedExpr (judged_step_with p types) judged_arg slot c on)
      ∙ ap (λ a. (not (not (is_known p c)) && a) && nodes_clear ((judged_of p types on).rules [])) (none_with_ruling (E8, is_unrelated p t c) more)
      ∙ ap (λ a. (not (not (is_known p c)) && (not (is_unrelated p t c) && none_breaks more)) && a) (ih [])
      ∙ cast_bools (is_some t) (is_known p c) (is_unrelated p t c) (none_breaks more)
      ∙ ap (λ b. b && none_breaks more) (sym (some_type (is_some t && is_known p c && not (is_unrelated p t c)) c))
      ∙ ap (λ o. is_some o && none_breaks more) (sym (type_cast p types slot c on))
    where
      t : Option (List ℕ)
      t = type_of p types on

  pub clear : (x : Expr) (more : List Ruling) → nodes_clear ((judged_of p types x).rules more) ≡ (is_some (type_of p types x) && none_breaks more)
  clear = by_cases Clear (record { var_case = clear_var; get_case = clear_get; call_case = clear_call; new_case = clear_new; cast_case = clear_cast })

  -- ---- names

  -- the classes that it names are known where it has a type
  abbrev Named : Expr → Type 0
  Named x = is_some (type_of p types x) ≡ true → list_all (is_known p) (classes_named_by x) ≡ true

  args_named : (ys : List (Proved Named)) → is_some (arg_types p types (args_of Named ys)) ≡ true
      → list_all (is_known p) (joined (map (λ (a : Arg). classes_named_by a.expr) (args_of Named ys))) ≡ true
  args_named [] h = refl
  args_named (y ∷ ys) h =
      let parts = and_parts (is_some (type_of p types y.0.expr)) (is_some (arg_types p types (args_of Named ys)))
      (sym (some_types (type_of p types y.0.expr) (map (λ (x : JudgedExpr). x.type) (judged_args p types (args_of Named ys)))) ∙ h) in
      list_all-append (is_known p) (classes_named_by y.0.expr) (joined (map (λ (a : Arg). classes_named_by a.expr) (args_of Named ys)))
      ∙ and_from (list_all (is_known p) (classes_named_by y.0.expr)) (list_all (is_known p) (joined (map (λ (a : Arg). classes_named_by a.expr) (args_of Named ys))))
      (y.1 parts.0) (args_named ys parts.1)

  named_var : (slot : ℕ) (x : List ℕ) → Named (e.Var slot x)
  named_var slot x h = ap (list_all (is_known p)) (fold_var (List (List ℕ)) (List (List ℕ)) classes_named_step (λ a. a.expr) slot x)

  named_get : (slot : ℕ) (on : Expr) → Named on → (f : List ℕ) → Named (e.Get slot on f)
  named_get slot on ih f h =
      ap (list_all (is_known p)) (fold_get (List (List ℕ)) (List (List ℕ)) classes_named_step (λ a. a.expr) slot on f)
      ∙ ih (some_accessed p (type_of p types on) f (sym (ap is_some (type_get p types slot on f)) ∙ h))

  named_call : (slot : ℕ) (on : Expr) → Named on → (m : List ℕ) (ys : List (Proved Named)) → Named (e.Call slot on m (args_of Named ys))
  named_call slot on ih m ys h =
      let ts : Option (List (List ℕ)) = arg_types p types (args_of Named ys) in
      let d : Option Method = called p (type_of p types on) ts m in
      let ok : Bool = fits (fit_of p (judged_args p types (args_of Named ys)) ts (option_map (λ (d : Method). param_types d.params) d)) in
      let there = (and_parts (is_some d) ok (sym (some_result ok d) ∙ sym (ap is_some (type_call p types slot on m (args_of Named ys))) ∙ h)).0 in
      let parts = some_called p (type_of p types on) ts m there in
      ap (list_all (is_known p)) (fold_call (List (List ℕ)) (List (List ℕ)) classes_named_step (λ a. a.expr) slot on m (args_of Named ys))
      ∙ list_all-append (is_known p) (classes_named_by on) (joined (map (λ (a : Arg). classes_named_by a.expr) (args_of Named ys)))
      ∙ and_from (list_all (is_known p) (classes_named_by on)) (list_all (is_known p) (joined (map (λ (a : Arg). classes_named_by a.expr) (args_of Named ys))))
      (ih parts.0) (args_named ys parts.1)

  -- what a `new` or a cast is judged by
  three : (a b c : Bool) → (a && b && c) ≡ true → (a ≡ true) × (b ≡ true)
  three true true c h = (refl, refl)
  three true false c h = absurd (not_true (sym h))
  three false true c h = absurd (not_true (sym h))
  three false false c h = absurd (not_true (sym h))

  named_new : (slot : ℕ) (c : List ℕ) (ys : List (Proved Named)) → Named (e.New slot c (args_of Named ys))
  named_new slot c ys h =
      let ts : Option (List (List ℕ)) = arg_types p types (args_of Named ys) in
      let ok : Bool = fits (fit_of p (judged_args p types (args_of Named ys)) ts (field_types p c)) in
      let parts = three (is_some ts) (is_known p c) ok (sym (some_type (is_some ts && is_known p c && ok) c) ∙ sym (ap is_some (type_new p types slot c (args_of Named ys))) ∙ h) in
      ap (list_all (is_known p)) (fold_new (List (List ℕ)) (List (List ℕ)) classes_named_step (λ a. a.expr) slot c (args_of Named ys))
      ∙ and_from (is_known p c) (list_all (is_known p) (joined (map (λ (a : Arg). classes_named_by a.expr) (args_of Named ys)))) parts.1 (args_named ys parts.0)

  named_cast : (slot : ℕ) (c : List ℕ) (on : Expr) → Named on → Named (e.Cast slot c on)
  named_cast slot c on ih h =
      let t : Option (List ℕ) = type_of p types on in
      let parts = three (is_some t) (is_known p c) (not (is_unrelated p t c))
      (sym (some_type (is_some t && is_known p c && not (is_unrelated p t c)) c) ∙ sym (ap is_some (type_cast p types slot c on)) ∙ h) in
      ap (list_all (is_known p)) (fold_cast (List (List ℕ)) (List (List ℕ)) classes_named_step (λ a. a.expr) slot c on)
      ∙ and_from (is_known p c) (list_all (is_known p) (classes_named_by on)) parts.1 (ih parts.0)

  pub names_known : (x : Expr) → is_some (type_of p types x) ≡ true → list_all (is_known p) (classes_named_by x) ≡ true
  names_known = by_cases Named (record { var_case = named_var; get_case = named_get; call_case = named_call; new_case = named_new; cast_case = named_cast })
