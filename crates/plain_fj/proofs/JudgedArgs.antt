-- What is found of arguments, one after another.
use Rattle.std.proofs.Common.{◌≡◌, ℕ, suc, ◌+◌, ◌<◌, ◌≤◌, List, [], ◌∷◌, ◌++◌, length, map, take, Option, None, Some, option_map, slice_index_or, Bor, Vec, Global, Result, Ok, Err, refl, sym, ◌∙◌, ap, ap₂, subst, arith}
use Rattle.std.specs.Option.{option_copied}
use Rattle.std.specs.Result.{IfOk}
use Rattle.std.proofs.lemmas.List.{append-nil, length-map}
use Rattle.cfj_model.specs.Judging.{JudgedExpr, types_of}
use Rattle.cfj_model.specs.declared.expr.Arg.{Arg}
use Rattle.cfj_model.specs.declared.expr.Expr.{Expr}
use Rattle.plain_fj.specs.Found.{AreJudged, IsJudged, judged_all, judged_in, names, nodes_in}
use Rattle.plain_fj.specs.declared.body.Body.{Body}
use Rattle.plain_fj.specs.declared.node_break.NodeBreak.{NodeBreak}
use Rattle.plain_fj.proofs.AddedNodes.{IsAddedUpTo, added_all}
use Rattle.plain_fj.proofs.TypeLists.{names_push, take_all, take_more}

-- what follows of a value, where there is one
pub ok_gives : {X E : Type 0} (P Q : X → Type 0) → ((x : X) → P x → Q x) → (r : Result X E) → IfOk r P → IfOk r Q
ok_gives P Q gives (Ok x) h = gives x h
ok_gives P Q gives (Err e) h = tt

-- the types of those that have one
pub typed_of : List (Option (List ℕ)) → List (List ℕ)
typed_of [] = []
typed_of (None ∷ os) = typed_of os
typed_of (Some t ∷ os) = t ∷ typed_of os

no_more_than : (os : List (Option (List ℕ))) → length (typed_of os) ≤ length os
unfolding typed_of
no_more_than [] = omega arith
no_more_than (None ∷ os) = let rest = no_more_than os in omega arith
no_more_than (Some t ∷ os) = let rest = no_more_than os in omega arith

all_typed : (os : List (Option (List ℕ))) → length (typed_of os) ≡ length os → types_of os ≡ Some (typed_of os)
unfolding typed_of
all_typed [] h = refl
all_typed (None ∷ os) h = let rest = no_more_than os in absurd (omega arith)
all_typed (Some t ∷ os) h = let rest : length (typed_of os) ≡ length os = omega arith in ap (option_map (λ us. t ∷ us)) (all_typed os rest)

some_untyped : (os : List (Option (List ℕ))) → (length (typed_of os) ≡ length os → ⊥) → types_of os ≡ None
unfolding typed_of
some_untyped [] differ = absurd (differ refl)
some_untyped (None ∷ os) differ = refl
some_untyped (Some t ∷ os) differ = ap (option_map (λ us. t ∷ us)) (some_untyped os (λ e. differ (ap suc e)))

typed_push : (os : List (Option (List ℕ))) (o : Option (List ℕ)) → typed_of (os ++ o ∷ []) ≡ typed_of os ++ typed_of (o ∷ [])
unfolding typed_of
typed_push [] o = refl
typed_push (None ∷ os) o = typed_push os o
typed_push (Some t ∷ os) o = ap (λ z. t ∷ z) (typed_push os o)

typed_one : (t : List ℕ) → typed_of (Some t ∷ []) ≡ t ∷ []
unfolding typed_of
typed_one t = refl

typed_none : typed_of (None ∷ []) ≡ []
unfolding typed_of
typed_none = refl

typed_nothing : typed_of [] ≡ []
unfolding typed_of
typed_nothing = refl

module _ (b : Body) where
  -- what is found of an expression is found of the same one
  pub judged_as : (x y : Expr) (r : Option (Bor (List ℕ))) (a c : List NodeBreak) → x ≡ y → IsJudged b y r a c → IsJudged b x r a c
  judged_as x y r a c same found = subst (λ z. IsJudged b z r a c) (sym same) found

  pub types : List Arg → List (Option (List ℕ))
  types args = map (λ (j : JudgedExpr). j.type) (judged_all b args)

  types_push : (args : List Arg) (a : Arg) → types (args ++ a ∷ []) ≡ types args ++ (judged_in b a.expr).type ∷ []
  unfolding types
  types_push [] a = refl
  types_push (x ∷ xs) a = ap (λ z. (judged_in b x.expr).type ∷ z) (types_push xs a)

  -- the types of those before the place that have one
  abbrev pub AreTypesUpTo : List Arg → ℕ → List (Bor (List ℕ)) → Type 0
  AreTypesUpTo args i ns = names ns ≡ typed_of (types (take i args))

  pub types_begin : (args : List Arg) (ns : List (Bor (List ℕ))) → ns ≡ [] → AreTypesUpTo args 0 ns
  unfolding types
  types_begin args ns none = ap names none ∙ sym typed_nothing

  module _ (args : List Arg) (i : ℕ) (x : Arg) (r : Option (Bor (List ℕ))) (ns : List (Bor (List ℕ))) (before after : List NodeBreak) (lt : i < length args) (at : x ≡ slice_index_or args i x)
      (j : IsJudged b x.expr r before after) (so_far : AreTypesUpTo args i ns) where
    next_types : typed_of (types (take (i + 1) args)) ≡ names ns ++ typed_of (option_copied r ∷ [])
    next_types =
        ap (λ z. typed_of (types z)) (take_more args i x lt at) ∙ ap typed_of (types_push (take i args) x) ∙ typed_push (types (take i args)) (judged_in b x.expr).type
        ∙ ap₂ (λ z o. z ++ typed_of (o ∷ [])) (sym so_far) (sym j.typed)

    pub types_more : (t : Bor (List ℕ)) (ms : List (Bor (List ℕ))) → r ≡ Some t → ms ≡ ns ++ t ∷ [] → AreTypesUpTo args (i + 1) ms
    types_more t ms is pushed =
        names_push ms ns t pushed ∙ ap (λ z. names ns ++ z) (sym (typed_one t.now)) ∙ ap (λ o. names ns ++ typed_of (o ∷ [])) (sym (ap option_copied is)) ∙ sym next_types

    pub types_same : r ≡ None → AreTypesUpTo args (i + 1) ns
    types_same is = sym (append-nil (names ns)) ∙ ap (λ z. names ns ++ z) (sym typed_none) ∙ ap (λ o. names ns ++ typed_of (o ∷ [])) (sym (ap option_copied is)) ∙ sym next_types

  module _ (args : List Arg) (i : ℕ) (ts : Vec (Bor (List ℕ)) Global) (before after : List NodeBreak) (end : i ≡ length args) (so_far : AreTypesUpTo args i ts.items)
      (added : IsAddedUpTo (λ (a : Arg). nodes_in b a.expr) args i before after) where
    abbrev Found : Type 0
    Found = Option (Vec (Bor (List ℕ)) Global)

    all_so_far : names ts.items ≡ typed_of (types args)
    all_so_far = so_far ∙ ap (λ z. typed_of (types z)) (take_all args i end)

    types_length : length (types args) ≡ length args
    unfolding types
    types_length = length-map (judged_all b args) (λ (j : JudgedExpr). j.type) ∙ length-map args (λ (a : Arg). judged_in b a.expr)

    past : length args ≤ i
    past = omega (arith, end)

    -- all have types
    pub found_all : length ts.items ≡ length args → AreJudged b args (Some ts) before after
    unfolding types
    found_all as_many =
        let same : length (typed_of (types args)) ≡ length (types args) = sym (ap length all_so_far) ∙ length-map ts.items (λ n. n.now) ∙ as_many ∙ sym types_length in
        record { typed = ap Some all_so_far ∙ sym (all_typed (types args) same); adds = added_all (λ (a : Arg). nodes_in b a.expr) args i before after added past }

    -- some has none
    pub found_none : (length ts.items ≡ length args → ⊥) → AreJudged b args None before after
    unfolding types
    found_none fewer =
        record {
          typed = sym (some_untyped (types args) (λ e. fewer (sym (length-map ts.items (λ n. n.now)) ∙ ap length all_so_far ∙ e ∙ types_length)));
          adds = added_all (λ (a : Arg). nodes_in b a.expr) args i before after added past;
        }
