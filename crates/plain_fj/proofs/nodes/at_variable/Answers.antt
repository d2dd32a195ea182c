use Rattle.plain_fj.proofs.JudgedNodes.{var_typed, var_unknown}
use Rattle.plain_fj.proofs.nodes.at_variable.Goals as goal

pub returns-in-Some : goal.returns-in-Some
returns-in-Some c =
    var_typed c.args.body.now c.args.slot c.args.name.now c.args.breaks.now.items c.type_of.result c.in-Some.of c.type_of.ensures c.in-Some.is

pub returns-in_ok-note_node-in-None : goal.returns-in_ok-note_node-in-None
returns-in_ok-note_node-in-None c =
    var_unknown c.args.body.now c.args.slot c.args.name.now c.args.breaks.now.items c.note_node.new.breaks.items c.type_of.result c.type_of.ensures c.in-None.is
    c.in_ok-note_node-in-None.ensures
