use Rattle.std.proofs.Common.{refl, sym}
use Rattle.plain_fj.proofs.JudgedNodes.{get_breaks, get_stops, get_typed}
use Rattle.plain_fj.proofs.nodes.at_access.Goals as goal

pub returns-in-None : goal.returns-in-None
returns-in-None c = λ on before j. get_stops c.args.body.now c.args.slot on c.args.field.now c.args.receiver before c.args.breaks.now.items c.in-None.is j

pub returns-in-Some-field_of : goal.returns-in-Some-field_of
returns-in-Some-field_of c = λ on before j.
    get_typed c.args.body.now c.args.slot on c.args.field.now c.args.receiver c.in-Some.class c.in-Some-field_of.found.now _ before c.args.breaks.now.items c.in-Some.is
    (sym c.in-Some-field_of.ensures) refl j

pub returns-in_ok-note_node-in-None-field_of : goal.returns-in_ok-note_node-in-None-field_of
returns-in_ok-note_node-in-None-field_of c = λ on before j.
    get_breaks c.args.body.now c.args.slot on c.args.field.now c.args.receiver c.in-Some.class before c.args.breaks.now.items c.note_node.new.breaks.items c.in-Some.is
    (sym c.in-None-field_of.ensures) j c.in_ok-note_node-in-None-field_of.ensures
