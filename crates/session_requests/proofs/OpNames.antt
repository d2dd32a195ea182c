-- Each op is known by its name.
use Rattle.std.proofs.Common.{◌≡◌, ℕ, List, [], ◌∷◌, Bool, true, false, Option, Some, None, MatchOption, zero, suc, slice_get, cond, bytes_eq, find, true≢false, refl, sym, ◌∙◌}
use Rattle.std.proofs.lemmas.Slice.Eq.{bytes_eq-Decides}
use Rattle.session_requests.specs.Ops.{op_text}
use Rattle.session_requests.specs.declared.op.EditOp.TheVariants as edit
use Rattle.session_requests.specs.declared.op.Op.{Op}
use Rattle.session_requests.specs.declared.op.Op.TheVariants as op

-- the place of an op among all
abbrev pub place : Op → ℕ
place (op.Edit edit.AddClass) = 0
place (op.Edit edit.RemoveClass) = 1
place (op.Edit edit.AddMember) = 2
place (op.Edit edit.ReplaceMember) = 3
place (op.Edit edit.RemoveMember) = 4
place (op.Edit edit.SetSuper) = 5
place (op.Edit edit.SetConstructor) = 6
place (op.Edit edit.SetColors) = 7
place (op.Edit edit.SetModel) = 8
place op.Refresh = 9
place op.Read = 10
place op.Entries = 11
place op.Source = 12
place op.Export = 13
place op.View = 14
place op.Done = 15

-- every op
abbrev pub all_ops : List Op
all_ops =
    op.Edit edit.AddClass ∷ op.Edit edit.RemoveClass ∷ op.Edit edit.AddMember ∷ op.Edit edit.ReplaceMember ∷ op.Edit edit.RemoveMember ∷
    op.Edit edit.SetSuper ∷ op.Edit edit.SetConstructor ∷ op.Edit edit.SetColors ∷ op.Edit edit.SetModel ∷
    op.Refresh ∷ op.Read ∷ op.Entries ∷ op.Source ∷ op.Export ∷ op.View ∷ op.Done ∷ []

placed : (o : Op) → slice_get all_ops (place o) ≡ Some o
placed (op.Edit edit.AddClass) = refl
placed (op.Edit edit.RemoveClass) = refl
placed (op.Edit edit.AddMember) = refl
placed (op.Edit edit.ReplaceMember) = refl
placed (op.Edit edit.RemoveMember) = refl
placed (op.Edit edit.SetSuper) = refl
placed (op.Edit edit.SetConstructor) = refl
placed (op.Edit edit.SetColors) = refl
placed (op.Edit edit.SetModel) = refl
placed op.Refresh = refl
placed op.Read = refl
placed op.Entries = refl
placed op.Source = refl
placed op.Export = refl
placed op.View = refl
placed op.Done = refl

found_at : {X : Type 0} (p : X → Bool) (y : X) (r : Option X) (x : X) → (r ≡ Some x → p x ≡ true) → (b : Bool) → p y ≡ b → cond b (Some y) r ≡ Some x → p x ≡ true
found_at p y r x later true is e = cc
found_at p y r x later false is e = later e

found : {X : Type 0} (p : X → Bool) (xs : List X) (x : X) → find p xs ≡ Some x → p x ≡ true
found p [] x e = cc
found p (y ∷ ys) x e = found_at p y (find p ys) x (found p ys x) (p y) refl e

passed_here : {X : Type 0} (p : X → Bool) (y : X) (r : Option X) (b : Bool) → p y ≡ b → cond b (Some y) r ≡ None → (p y ≡ false) × (r ≡ None)
passed_here p y r true is e = cc
passed_here p y r false is e = (is, e)

passed : {X : Type 0} (p : X → Bool) (xs : List X) → find p xs ≡ None → (i : ℕ) (x : X) → slice_get xs i ≡ Some x → p x ≡ false
passed p [] e i x at = cc
passed p (y ∷ ys) e zero x at = let here = (passed_here p y (find p ys) (p y) refl e).0 in cc
passed p (y ∷ ys) e (suc i) x at = passed p ys (passed_here p y (find p ys) (p y) refl e).1 i x at

abbrev has_name : List ℕ → Op → Bool
has_name text o = bytes_eq (op_text o) text

-- the op that is found by a name has it, and where none is found none has it
pub of_named : (text : List ℕ) (r : Option Op) → r ≡ find (λ o. bytes_eq (op_text o) text) all_ops
    → MatchOption r ((o : Op) → text ≡ op_text o → ⊥) (λ o. text ≡ op_text o)
of_named text None e = λ o is.
    let no : bytes_eq (op_text o) text ≡ false = passed (has_name text) all_ops (sym e) (place o) o (placed o) in
    let yes : bytes_eq (op_text o) text ≡ true = (bytes_eq-Decides (op_text o) text).1 (sym is) in
    true≢false (sym yes ∙ no)
of_named text (Some o) e = sym ((bytes_eq-Decides (op_text o) text).0 (found (has_name text) all_ops o (sym e)))
