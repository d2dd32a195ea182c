use Rattle.std.proofs.Common.{◌≡◌, ap, false, sym, ◌∙◌}
use Rattle.std.specs.Str.{bytes_eq}
use Rattle.std.proofs.lemmas.Result.{IfOk-weaker}
use Rattle.cfj_model.specs.LookUps.{Table, chain}
use Rattle.cfj_model.specs.ProductLines.{object}
use Rattle.cfj_model.specs.Projection.{is_present}
use Rattle.guarded_types.specs.Within.{IsWithin}
use Rattle.std.proofs.Common.{get_or}
use Rattle.guarded_types.proofs.Reached.{first_over, known_nowhere, known_where}
use Rattle.guarded_types.proofs.subtypes.known_within.Goals as goal

pub returns-then-is_empty-clause-worth : goal.returns-then-is_empty-clause-worth
returns-then-is_empty-clause-worth c =
    let other : bytes_eq c.args.class.now object ≡ false = ap (λ t. bytes_eq t object) (sym c.text.ensures.value) ∙ sym c.eq.ensures ∙ c.if-eq.false in
    known_nowhere c.args.project.now c.model-features.ensures.kept c.args.class.now c.chain-chain.result.now (c.chain-chain.ensures ∙ ap (λ (t : Table). chain t c.args.class.now) c.requires.table) other
    (sym c.is_empty.ensures ∙ c.if-is_empty.true) c.args.circuit.now c.args.within c.constant-then-is_empty.result c.constant-then-is_empty.ensures.worth

pub holds-requires : goal.holds-requires
holds-requires c =
    first_over c.args.project.now c.model-features.ensures.kept c.args.circuit.now.features c.requires.features c.args.class.now c.chain-chain.result.now
    (c.chain-chain.ensures ∙ ap (λ (t : Table). chain t c.args.class.now) c.requires.table) (sym c.is_empty.ensures ∙ c.if-is_empty.false) c.index-chain-0.result

pub returns-clause-worth : goal.returns-clause-worth
returns-clause-worth c =
    let other : bytes_eq c.args.class.now object ≡ false = ap (λ t. bytes_eq t object) (sym c.text.ensures.value) ∙ sym c.eq.ensures ∙ c.if-eq.false in
    IfOk-weaker c.holds.result (λ g. IsWithin c.holds.new.circuit c.args.within g (λ s. is_present s (get_or c.chain-chain.result.now 0 c.index-chain-0.result).now.colors)) _
    (λ g there.
    known_where c.args.project.now c.model-features.ensures.kept c.args.class.now c.chain-chain.result.now (c.chain-chain.ensures ∙ ap (λ (t : Table). chain t c.args.class.now) c.requires.table) other
    (sym c.is_empty.ensures ∙ c.if-is_empty.false) c.index-chain-0.result c.holds.new.circuit c.args.within g there)
    c.holds.ensures.worth
