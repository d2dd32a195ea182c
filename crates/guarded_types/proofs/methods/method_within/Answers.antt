use Rattle.std.proofs.Common.{◌≡◌, ◌∙◌, ap, sym, subst, length, All, true}
use Rattle.std.proofs.lemmas.Result.{IfOk-weaker}
use Rattle.cfj_logic.specs.Sides.{is_over}
use Rattle.cfj_model.specs.Coloring.{no_colors}
use Rattle.cfj_model.specs.LookUps.{Table, chain}
use Rattle.guarded_types.specs.Along.{along}
use Rattle.guarded_types.specs.Declarations.{named_methods, read}
use Rattle.guarded_types.specs.declared.methods.Declaration.{Declaration}
use Rattle.cfj_model.specs.declared.class.Class.{Class}
use Rattle.cfj_model.specs.declared.class.Method.{Method}
use Rattle.guarded_types.specs.Within.{IsOfFirst}
use Rattle.guarded_types.specs.declared.marked.Marked.{Marked}
use Rattle.guarded_types.proofs.MethodDeclarations.{methods_guarded}
use Rattle.guarded_types.proofs.KnownMarks.{methods_along_over, declarations_over}
use Rattle.guarded_types.proofs.methods.method_within.Goals as goal

pub firsts-requires : goal.firsts-requires
firsts-requires c =
    let line = c.args.project.now in
    let n = length line.model.features in
    let is : read c.as_slice.result.now ≡ along (named_methods c.args.method.now) no_colors (chain line.classes c.args.class.now) =
    ap read c.as_slice.ensures.value ∙ c.in_ok-items.ensures ∙ ap (along (named_methods c.args.method.now) no_colors) (c.chain.ensures ∙ ap (λ (t : Table). chain t c.args.class.now) c.requires.table) in
    subst (λ m. All (λ (x : Marked Declaration). is_over m x.marks ≡ true) c.as_slice.result.now) (sym c.requires.features)
    (declarations_over n c.as_slice.result.now
    (subst (λ xs. All (λ (x : Marked (Class × Method)). is_over n x.marks ≡ true) xs) (sym is) (methods_along_over line c.model-features.ensures.kept c.args.class.now c.args.method.now)))

pub returns-clause-method : goal.returns-clause-method
returns-clause-method c =
    let line = c.args.project.now in
    let is : read c.as_slice.result.now ≡ along (named_methods c.args.method.now) no_colors (chain line.classes c.args.class.now) =
    ap read c.as_slice.ensures.value ∙ c.in_ok-items.ensures ∙ ap (along (named_methods c.args.method.now) no_colors) (c.chain.ensures ∙ ap (λ (t : Table). chain t c.args.class.now) c.requires.table) in
    IfOk-weaker c.firsts.result (λ found. IsOfFirst c.firsts.new.circuit c.args.within found.items c.as_slice.result.now) _
    (λ found of.
    methods_guarded line c.model-features.ensures.kept c.args.class.now c.args.method.now c.args.within c.firsts.new.circuit found.items c.as_slice.result.now is of)
    c.firsts.ensures.first
