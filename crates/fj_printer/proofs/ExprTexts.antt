-- The text of what is printed of an expression, variant by variant.
use Rattle.std.proofs.Common.{◌≡◌, refl, sym, ap, ◌∙◌, Bool, true, false, if◌then◌else◌, List, [], ℕ, ◌++◌, map, codes, append-nil}
use Rattle.std.specs.List.{filter}
use Rattle.std.proofs.lemmas.List.{append_assoc}
use Rattle.cfj_model.specs.declared.expr.Arg.{Arg}
use Rattle.cfj_model.specs.declared.expr.Expr.{Expr}
use Rattle.cfj_model.specs.declared.expr.Expr.TheVariants as e
use Rattle.cfj_model.proofs.ExprCases.{fold_var, fold_get, fold_call, fold_new, fold_cast, by_cases, args_of}
use Rattle.cfj_model.specs.Print.{joined, Shown, shown_step, shown_arg, receiver_text, itself, expr_text}
use Rattle.cfj_model.specs.Projection.{is_present}
use Rattle.feature_views.specs.Selected.{selected_arg, selected_args}
use Rattle.feature_views.proofs.SelectedBodies.{selected_var, selected_get, selected_call, selected_new, selected_cast}
use Rattle.fj_printer.specs.declared.showing.Showing.{Showing}
use Rattle.fj_printer.specs.declared.showing.Showing.TheVariants as showing
use Rattle.fj_printer.specs.Parts.{shown, arg_text}
use Rattle.fj_printer.specs.Shown.{names, shown_expr, shown_args, shown_arg_text}
use Rattle.fj_printer.proofs.Lists.{all_kept, joined-map}

abbrev text_of : Shown → List ℕ
text_of x = x.text

-- a receiver with brackets, and without
bracketed : (b : Bool) (x : Shown) → b ≡ x.is_cast → b ≡ true → receiver_text x ≡ codes "(" ++ (x.text ++ codes ")")
bracketed b x e is = ap (λ c. if c then codes "(" ++ (x.text ++ codes ")") else x.text) (sym e ∙ is)

unbracketed : (b : Bool) (x : Shown) → b ≡ x.is_cast → b ≡ false → receiver_text x ≡ x.text
unbracketed b x e is = ap (λ c. if c then codes "(" ++ (x.text ++ codes ")") else x.text) (sym e ∙ is)

-- the arguments that are printed, each as it is printed
abbrev printed_args : Showing → List Arg → List Arg
printed_args (showing.Marked features) args = args
printed_args (showing.Selected selection) args = selected_args selection.now args

-- what is printed of each variant
shown_var : (view : Showing) (slot : ℕ) (name : List ℕ) → shown_expr view (e.Var slot name) ≡ e.Var slot name
shown_var (showing.Marked features) slot name = refl
shown_var (showing.Selected selection) slot name = selected_var selection.now slot name

shown_get : (view : Showing) (slot : ℕ) (on : Expr) (field : List ℕ) → shown_expr view (e.Get slot on field) ≡ e.Get slot (shown_expr view on) field
shown_get (showing.Marked features) slot on field = refl
shown_get (showing.Selected selection) slot on field = selected_get selection.now slot on field

shown_call : (view : Showing) (slot : ℕ) (on : Expr) (method : List ℕ) (args : List Arg) → shown_expr view (e.Call slot on method args) ≡ e.Call slot (shown_expr view on) method (printed_args view args)
shown_call (showing.Marked features) slot on method args = refl
shown_call (showing.Selected selection) slot on method args = selected_call selection.now slot on method args

shown_new : (view : Showing) (slot : ℕ) (class : List ℕ) (args : List Arg) → shown_expr view (e.New slot class args) ≡ e.New slot class (printed_args view args)
shown_new (showing.Marked features) slot class args = refl
shown_new (showing.Selected selection) slot class args = selected_new selection.now slot class args

shown_cast : (view : Showing) (slot : ℕ) (class : List ℕ) (on : Expr) → shown_expr view (e.Cast slot class on) ≡ e.Cast slot class (shown_expr view on)
shown_cast (showing.Marked features) slot class on = refl
shown_cast (showing.Selected selection) slot class on = selected_cast selection.now slot class on

-- the text of arguments is that of those that are printed
args_text : (view : Showing) (args : List Arg) → joined (arg_text (names view)) (printed_args view args) ≡ joined (shown_arg_text view) (shown_args view args)
args_text (showing.Marked features) args = ap (joined (arg_text features.now)) (sym (all_kept args))
args_text (showing.Selected selection) args = joined-map (arg_text []) (selected_arg selection.now) (filter (λ (a : Arg). is_present selection.now a.colors) args)

-- of each variant, by what stands for its parts
module _ (view : Showing) where
  abbrev seen : Expr → Shown
  seen x = shown (names view) (shown_expr view x)

  abbrev receiver : Expr → List ℕ
  receiver on = receiver_text (seen on)

  abbrev arguments : List Arg → List ℕ
  arguments args = joined (shown_arg_text view) (shown_args view args)

  abbrev text : Expr → List ℕ
  text x = expr_text (names view) (shown_expr view x)

  abbrev of_argument : Arg → List ℕ
  of_argument = arg_text (names view)

  joined_args : (args : List Arg) → joined itself (map of_argument (printed_args view args)) ≡ arguments args
  joined_args args = joined-map itself of_argument (printed_args view args) ∙ args_text view args

  seen_var : (slot : ℕ) (name : List ℕ) → seen (e.Var slot name) ≡ record { is_cast = false; text = name }
  seen_var slot name =
      ap (shown (names view)) (shown_var view slot name) ∙ fold_var Shown (List ℕ) shown_step (shown_arg (names view)) slot name

  seen_get : (slot : ℕ) (on : Expr) (field : List ℕ) → seen (e.Get slot on field) ≡ record { is_cast = false; text = receiver on ++ (codes "." ++ field) }
  seen_get slot on field =
      ap (shown (names view)) (shown_get view slot on field) ∙ fold_get Shown (List ℕ) shown_step (shown_arg (names view)) slot (shown_expr view on) field

  seen_call : (slot : ℕ) (on : Expr) (method : List ℕ) (args : List Arg) → seen (e.Call slot on method args) ≡ record { is_cast = false; text = receiver on ++ (codes "." ++ (method ++ (codes "(" ++ (arguments args ++ codes ")")))) }
  seen_call slot on method args =
      ap (shown (names view)) (shown_call view slot on method args)
      ∙ fold_call Shown (List ℕ) shown_step (shown_arg (names view)) slot (shown_expr view on) method (printed_args view args)
      ∙ ap (λ w. (let x : Shown = record { is_cast = false; text = receiver on ++ (codes "." ++ (method ++ (codes "(" ++ (w ++ codes ")")))) } in x)) (joined_args args)

  seen_new : (slot : ℕ) (class : List ℕ) (args : List Arg) → seen (e.New slot class args) ≡ record { is_cast = false; text = codes "new " ++ (class ++ (codes "(" ++ (arguments args ++ codes ")"))) }
  seen_new slot class args =
      ap (shown (names view)) (shown_new view slot class args)
      ∙ fold_new Shown (List ℕ) shown_step (shown_arg (names view)) slot class (printed_args view args)
      ∙ ap (λ w. (let x : Shown = record { is_cast = false; text = codes "new " ++ (class ++ (codes "(" ++ (w ++ codes ")"))) } in x)) (joined_args args)

  seen_cast : (slot : ℕ) (class : List ℕ) (on : Expr) → seen (e.Cast slot class on) ≡ record { is_cast = true; text = codes "(" ++ (class ++ (codes ") " ++ text on)) }
  seen_cast slot class on =
      ap (shown (names view)) (shown_cast view slot class on) ∙ fold_cast Shown (List ℕ) shown_step (shown_arg (names view)) slot class (shown_expr view on)

  pub get_text : (whole : Expr) (slot : ℕ) (on x : Expr) (field name : List ℕ) → whole ≡ e.Get slot on field → x ≡ on → name ≡ field → text whole ≡ receiver x ++ (codes "." ++ (name ++ []))
  get_text whole slot on x field name is on_is name_is =
      ap text is
      ∙ ap text_of (seen_get slot on field)
      ∙ ap (λ w. receiver w ++ (codes "." ++ field)) (sym on_is)
      ∙ ap (λ w. receiver x ++ (codes "." ++ w)) (sym (append-nil name ∙ name_is))

  pub call_text : (whole : Expr) (slot : ℕ) (on x : Expr) (method name : List ℕ) (args list : List Arg) → whole ≡ e.Call slot on method args → x ≡ on → name ≡ method → list ≡ args → text whole ≡ receiver x ++ ((codes "." ++ (name ++ codes "(")) ++ (arguments list ++ codes ")"))
  call_text whole slot on x method name args list is on_is name_is args_is =
      ap text is
      ∙ ap text_of (seen_call slot on method args)
      ∙ ap (λ w. receiver w ++ (codes "." ++ (method ++ (codes "(" ++ (arguments args ++ codes ")"))))) (sym on_is)
      ∙ ap (λ w. receiver x ++ (codes "." ++ (w ++ (codes "(" ++ (arguments args ++ codes ")"))))) (sym name_is)
      ∙ ap (λ w. receiver x ++ (codes "." ++ (name ++ (codes "(" ++ (arguments w ++ codes ")"))))) (sym args_is)
      ∙ ap (λ w. receiver x ++ (codes "." ++ w)) (sym (append_assoc name (codes "(") (arguments list ++ codes ")")))

  pub new_text : (whole : Expr) (slot : ℕ) (class name : List ℕ) (args list : List Arg) → whole ≡ e.New slot class args → name ≡ class → list ≡ args → text whole ≡ (codes "new " ++ (name ++ codes "(")) ++ (arguments list ++ codes ")")
  new_text whole slot class name args list is name_is args_is =
      ap text is
      ∙ ap text_of (seen_new slot class args)
      ∙ ap (λ w. codes "new " ++ (w ++ (codes "(" ++ (arguments args ++ codes ")")))) (sym name_is)
      ∙ ap (λ w. codes "new " ++ (name ++ (codes "(" ++ (arguments w ++ codes ")")))) (sym args_is)
      ∙ ap (λ w. codes "new " ++ w) (sym (append_assoc name (codes "(") (arguments list ++ codes ")")))

  pub cast_text : (whole : Expr) (slot : ℕ) (class name : List ℕ) (on x : Expr) → whole ≡ e.Cast slot class on → name ≡ class → x ≡ on → text whole ≡ (codes "(" ++ (name ++ codes ") ")) ++ text x
  cast_text whole slot class name on x is name_is on_is =
      ap text is
      ∙ ap text_of (seen_cast slot class on)
      ∙ ap (λ w. codes "(" ++ (w ++ (codes ") " ++ text on))) (sym name_is)
      ∙ ap (λ w. codes "(" ++ (name ++ (codes ") " ++ text w))) (sym on_is)
      ∙ ap (λ w. codes "(" ++ w) (sym (append_assoc name (codes ") ") (text x)))

  -- a cast is printed as one, and nothing else is
  abbrev IsAlike : Expr → Type 0
  IsAlike x = (shown (names view) x).is_cast ≡ (seen x).is_cast

  abbrev cast_of : Shown → Bool
  cast_of x = x.is_cast

  alike : (x : Expr) → IsAlike x
  alike = by_cases IsAlike (record {
    var_case = λ slot name. ap cast_of (fold_var Shown (List ℕ) shown_step (shown_arg (names view)) slot name) ∙ sym (ap cast_of (seen_var slot name));
    get_case = λ slot on h field. ap cast_of (fold_get Shown (List ℕ) shown_step (shown_arg (names view)) slot on field) ∙ sym (ap cast_of (seen_get slot on field));
    call_case = λ slot on h method args.
        ap cast_of (fold_call Shown (List ℕ) shown_step (shown_arg (names view)) slot on method (args_of IsAlike args)) ∙ sym (ap cast_of (seen_call slot on method (args_of IsAlike args)));
    new_case = λ slot class args.
        ap cast_of (fold_new Shown (List ℕ) shown_step (shown_arg (names view)) slot class (args_of IsAlike args)) ∙ sym (ap cast_of (seen_new slot class (args_of IsAlike args)));
    cast_case = λ slot class on h. ap cast_of (fold_cast Shown (List ℕ) shown_step (shown_arg (names view)) slot class on) ∙ sym (ap cast_of (seen_cast slot class on));
  })

  pub in_brackets : (b : Bool) (x : Expr) → b ≡ (shown (names view) x).is_cast → b ≡ true → receiver x ≡ codes "(" ++ (text x ++ codes ")")
  in_brackets b x is true_is = bracketed b (seen x) (is ∙ alike x) true_is

  pub without_brackets : (b : Bool) (x : Expr) → b ≡ (shown (names view) x).is_cast → b ≡ false → receiver x ≡ text x
  without_brackets b x is false_is = unbracketed b (seen x) (is ∙ alike x) false_is
