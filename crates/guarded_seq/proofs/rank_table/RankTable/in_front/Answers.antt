use Rattle.guarded_seq.proofs.TableLaws.{front_here, front_none}
use Rattle.guarded_seq.proofs.rank_table.RankTable.in_front.Goals as goal

pub returns-then-i-k : goal.returns-then-i-k
returns-then-i-k c = front_here c.args.circuit.now c.args.self.now c.args.i c.args.k c.left_gate.result c.requires.ranks c.if-i-k.true c.requires.front c.requires.left c.left_gate.ensures

pub returns-else-i-k : goal.returns-else-i-k
returns-else-i-k c = front_none c.args.circuit.now c.args.self.now c.args.i c.args.k c.constant.result c.requires.ranks c.if-i-k.false c.requires.front c.constant.ensures.worth
