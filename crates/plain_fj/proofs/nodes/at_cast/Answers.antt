use Rattle.std.proofs.Common.{refl, sym, ◌∙◌}
use Rattle.plain_fj.proofs.JudgedNodes.{cast_breaks, cast_fits, cast_stops, cast_unknown}
use Rattle.plain_fj.proofs.nodes.at_cast.Goals as goal

pub returns-in-None : goal.returns-in-None
returns-in-None c = λ on before middle named j. cast_stops c.args.body.now c.args.slot c.args.class.now on c.args.operand before middle c.args.breaks.now.items named j c.in-None.is

pub returns-then-not-is_known : goal.returns-then-not-is_known
returns-then-not-is_known c = λ on before middle named j.
    cast_unknown c.args.body.now c.args.slot c.args.class.now on c.args.operand before middle c.args.breaks.now.items named j c.in-Some.from c.in-Some.is
    (sym c.is_known.ensures ∙ c.if-not-is_known.true)

pub returns-then-are_related : goal.returns-then-are_related
returns-then-are_related c = λ on before middle named j.
    cast_fits c.args.body.now c.args.slot c.args.class.now on c.args.operand before middle c.args.breaks.now.items named j c.in-Some.from c.in-Some.is c.args.class refl
    (sym c.is_known.ensures ∙ c.if-not-is_known.false) (sym c.are_related.ensures ∙ c.if-are_related.true)

pub returns : goal.returns
returns c = λ on before middle named j.
    cast_breaks c.args.body.now c.args.slot c.args.class.now on c.args.operand before middle c.args.breaks.now.items named j c.in-Some.from c.in-Some.is c.note_node.new.breaks.items
    (sym c.is_known.ensures ∙ c.if-not-is_known.false) (sym c.are_related.ensures ∙ c.if-are_related.false) c.in_ok-note_node.ensures
