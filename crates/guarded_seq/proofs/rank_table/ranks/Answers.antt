use Rattle.std.proofs.Common.{◌-◌, ◌<◌, List, length, take, drop, map, sym, subst, ap, ◌∙◌}
use Rattle.std.proofs.lemmas.List.{take_rest, length-map}
use Rattle.std.proofs.lemmas.List.Elements.{All-take, All-drop}
use Rattle.guarded_seq.specs.declared.guarded.Guarded.{Guarded}
use Rattle.guarded_seq.specs.Sequences.{AreInside, gates_of}
use Rattle.guarded_seq.proofs.RankLaws.{gates_blank, inside_blanks}
use Rattle.guarded_seq.proofs.TableLaws.{table_from}
use Rattle.guarded_seq.proofs.rank_table.ranks.Goals as goal

pub rank_rows-requires-clause-left : goal.rank_rows-requires-clause-left
rank_rows-requires-clause-left g c =
    let front = c.common_front-front.result in
    let items = c.as_slice-3.result.now in
    let P = λ (x : Guarded Unit). x.gate < length c.args.circuit.now.parts in
    All-take P (length items - front) (drop front items)
    (All-drop P front items (subst (λ (xs : List (Guarded Unit)). AreInside c.args.circuit.now xs) (sym (c.as_slice-3.ensures.value ∙ c.in_ok-left.ensures)) (inside_blanks c.args.circuit.now c.args.left.now c.requires.left)))

pub rank_rows-requires-clause-right : goal.rank_rows-requires-clause-right
rank_rows-requires-clause-right g c =
    let front = c.common_front-front.result in
    let items = c.as_slice-4.result.now in
    let P = λ (x : Guarded Unit). x.gate < length c.args.circuit.now.parts in
    All-take P (length items - front) (drop front items)
    (All-drop P front items (subst (λ (xs : List (Guarded Unit)). AreInside c.args.circuit.now xs) (sym (c.as_slice-4.ensures.value ∙ c.in_ok-right.ensures)) (inside_blanks c.args.circuit.now c.args.right.now c.requires.right)))

pub returns-clause-left : goal.returns-clause-left
returns-clause-left g c = ap gates_of c.in_ok-left.ensures ∙ gates_blank c.args.left.now

pub returns-clause-right : goal.returns-clause-right
returns-clause-right g c = ap gates_of c.in_ok-right.ensures ∙ gates_blank c.args.right.now

pub returns-clause-ranks : goal.returns-clause-ranks
returns-clause-ranks g c =
    let old = c.args.circuit.now in
    table_from old c.rank_rows.new.circuit c.in_ok-left.left.items c.in_ok-right.right.items c.as_slice.result.now c.as_slice-2.result.now
    (take (length c.as_slice-3.result.now - c.common_front-front.result) (drop c.common_front-front.result c.as_slice-3.result.now))
    (take (length c.as_slice-4.result.now - c.common_front-front.result) (drop c.common_front-front.result c.as_slice-4.result.now))
    c.common_front-front.result (length c.in_ok-rows.rows.items) (map (λ row. row.items) c.in_ok-rows.rows.items) c.rank_rows.ensures.grown
    (subst (λ (items : List (Guarded Unit)). AreInside old items) (sym c.in_ok-left.ensures) (inside_blanks old c.args.left.now c.requires.left))
    (subst (λ (items : List (Guarded Unit)). AreInside old items) (sym c.in_ok-right.ensures) (inside_blanks old c.args.right.now c.requires.right))
    c.as_slice.ensures.value c.as_slice-2.ensures.value (take_rest c.as_slice-3.result.now c.common_front-front.result ∙ ap (drop c.common_front-front.result) c.as_slice-3.ensures.value)
    (take_rest c.as_slice-4.result.now c.common_front-front.result ∙ ap (drop c.common_front-front.result) c.as_slice-4.ensures.value) (sym (length-map c.in_ok-rows.rows.items (λ row. row.items)))
    c.common_front-front.ensures.left c.common_front-front.ensures.right c.common_front-front.ensures.same c.in_ok-rows.ensures.many c.in_ok-rows.ensures.rows
