use Rattle.std.proofs.Common.{◌≡◌, ◌++◌, ◌<◌, ◌∙◌, ap, sym, true, false, rules, arith, string_bytes, length, get_or}
use Rattle.std.proofs.lemmas.List.{append_assoc}
use Rattle.cfj_logic.specs.Selections.{is_on}
use Rattle.unit_facts.specs.Findings.{spaced}
use Rattle.unit_facts.proofs.Selected.{first_selected, selected_no, separator, separator_yes, spaced_yes}
use Rattle.unit_facts.proofs.findings.write_names.Goals.{then-has+in_ok-write_word, else-has}
use Rattle.unit_facts.proofs.findings.write_names.Goals as goal

pub features-preserved : goal.features-preserved
features-preserved c =
    let number = c.features-feature-end.ensures.number in
    let within : c.features.feature < length c.args.features.now = omega (arith, number, c.requires) in
    elim c.if-has.branch [
      | then-has+in_ok-write_word w ↦
          let on : is_on c.args.selection c.features.feature ≡ true = cc in
          let word : w.text.result.now ≡ get_or c.args.features.now c.features.feature w.index-features-from.result = cc in
          let text = spaced_yes c.args.selection c.args.features.now c.features.feature w.index-features-from.result c.features.between.now within on c.features.invariant.between in
          record {
            utf8 = search rules;
            between = ap (λ (b : _). b.now) w.between-is ∙ separator_yes c.args.selection c.args.features.now c.features.feature w.index-features-from.result within on;
            written =
                ap string_bytes w.text-is ∙ w.in_ok-write_word.ensures ∙ ap (λ t. t ++ (c.features.between.now ++ w.text.result.now)) c.features.invariant.written
                ∙ append_assoc (string_bytes c.args.text.now) _ _
                ∙ ap (λ t. string_bytes c.args.text.now ++ t) (ap (λ v. spaced (first_selected c.args.selection c.args.features.now c.features.feature) ++ (c.features.between.now ++ v)) word ∙ sym text);
          }
      | else-has w ↦
          let off : is_on c.args.selection c.features.feature ≡ false = cc in
          let same = selected_no c.args.selection c.args.features.now c.features.feature within off in
          record {
            utf8 = search rules;
            between = ap (λ (b : _). b.now) w.between-is ∙ c.features.invariant.between ∙ ap separator (sym same);
            written = ap string_bytes w.text-is ∙ c.features.invariant.written ∙ ap (λ ws. string_bytes c.args.text.now ++ spaced ws) (sym same);
          }
    ]
