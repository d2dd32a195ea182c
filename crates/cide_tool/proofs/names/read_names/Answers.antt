use Rattle.std.proofs.Common.{◌≡◌, false, List, ℕ, ◌∷◌, ◌++◌, subst, arith}
use Rattle.cfj_words.specs.Names.{is_among}
use Rattle.feature_model.specs.NamedSelections.{IsFirstBad}
use Rattle.cide_tool.proofs.BadNames.{first_of_parts}
use Rattle.cide_tool.proofs.names.read_names.Goals as goal

pub returns-in-None-clause-fault : goal.returns-in-None-clause-fault
returns-in-None-clause-fault c =
    let features = c.args.model.now.features in
    let Bad = λ (names : List (List ℕ)). (part : List ℕ) (rest : List (List ℕ)) → is_among features part ≡ false → IsFirstBad features (names ++ part ∷ rest) c.first_bad.result in
    first_of_parts features _ c.parts.part-index _ c.parts.names.items _ (omega arith) c.parts.invariant c.requires.named
    (rw c.in-None.is at c.in_ok-name.ensures.none)
    (subst Bad c.as_slice.ensures.value c.first_bad.ensures)
