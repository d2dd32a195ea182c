use Rattle.std.proofs.Common.{arith, rules, ap, sym, ◌∙◌}
use Rattle.cfj_model.specs.declared.class.Sent.{Sent}
use Rattle.cfj_model.specs.Print.{joined, sent_text}
use Rattle.fj_printer.specs.Shown.{names, shows, shown_sents}
use Rattle.fj_printer.proofs.Composing.{adds_as, adds_more, adds_stopped}
use Rattle.fj_printer.proofs.Lists.{separator, kept_same, kept_separator, kept_joined_more, kept_joined_there}
use Rattle.fj_printer.proofs.ctors.sends.Goals as goal
use Rattle.fj_printer.proofs.ctors.sends.Goals.{then-shows+in_ok-sent, else-shows}

pub returns-in_err-sent : goal.returns-in_err-sent
returns-in_err-sent g c =
    adds_stopped _ c.from_residual.result c.from_residual.ensures.0 c.sends.invariant.adds c.in_err-sent.ensures
    (ap (λ list. joined (sent_text (names c.args.showing.now)) (shown_sents c.args.showing.now list)) (sym c.slice-list.ensures)
    ∙ kept_joined_there (sent_text (names c.args.showing.now)) (λ (x : Sent). shows c.args.showing.now x.colors) c.slice-list.result.now c.sends.item-index c.item-item.result (omega arith) c.item-item.is
    (sym c.shows.ensures ∙ c.if-shows.true) _ c.sends.invariant.between)

pub sends-preserved : goal.sends-preserved
sends-preserved g c =
    elim c.if-shows.branch [
      | then-shows+in_ok-sent w ↦
          rw (w.buffer-is, w.sink-is, w.separator-is)
          (record {
            utf8 = search rules;
            between = kept_separator (λ (x : Sent). shows c.args.showing.now x.colors) c.slice-list.result.now c.sends.item-index c.item-item.result (omega arith) c.item-item.is (sym c.shows.ensures ∙ w.if-shows.true);
            adds = adds_more c.sends.invariant.adds w.in_ok-sent.ensures
                (kept_joined_more (sent_text (names c.args.showing.now)) (λ (x : Sent). shows c.args.showing.now x.colors) c.slice-list.result.now c.sends.item-index c.item-item.result (omega arith) c.item-item.is
                (sym c.shows.ensures ∙ w.if-shows.true) _ c.sends.invariant.between);
          })
      | else-shows w ↦
          let same = kept_same (λ (x : Sent). shows c.args.showing.now x.colors) c.slice-list.result.now c.sends.item-index c.item-item.result (omega arith) c.item-item.is (sym c.shows.ensures ∙ w.if-shows.false) in
          rw (w.buffer-is, w.sink-is, w.separator-is)
          (record {
            utf8 = c.sends.invariant.utf8;
            between = c.sends.invariant.between ∙ ap separator (sym same);
            adds = adds_as (ap (joined (sent_text (names c.args.showing.now))) same) c.sends.invariant.adds;
          })
    ]
