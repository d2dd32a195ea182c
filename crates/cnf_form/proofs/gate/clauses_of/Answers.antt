use Rattle.std.proofs.Common.{◌≡◌, ◌↔◌, true, Result, Ok, Err, IfOk}
use Rattle.cfj_logic.specs.Selections.{Chosen}
use Rattle.cfj_logic.specs.Logs.{AreSettledByFeatures, AreWellFormed, ExtendsToModel}
use Rattle.cond_circuit.specs.Gates.{value}
use Rattle.cnf_form.specs.GateClauses.{AreClausesOf}
use Rattle.cnf_form.proofs.Extending.{extends_where_true}
use Rattle.cnf_form.proofs.Forming.{are_formed}
use Rattle.cnf_form.proofs.Settling.{are_settled}
use Rattle.cnf_form.proofs.gate.clauses_of.Goals as goal

-- what a fact says of what was given says it of the result
if_ok : {X E : Type 0} (P Q : X → Type 0) (r : Result X E) → ((x : X) → P x → Q x) → IfOk r P → IfOk r Q
if_ok P Q (Ok x) f h = f x h
if_ok P Q (Err e) f h = tt

pub returns-clause-formed : goal.returns-clause-formed
returns-clause-formed c =
    if_ok (AreClausesOf c.args.circuit.now c.args.gate) (λ out. AreWellFormed out) c.listed.result
    (λ out a. are_formed c.args.circuit.now c.features-kept.ensures.kept c.args.gate c.requires out a) c.listed.ensures

pub returns-clause-extends : goal.returns-clause-extends
returns-clause-extends c =
    if_ok (AreClausesOf c.args.circuit.now c.args.gate) (λ out. (s : Chosen) → ExtendsToModel out s ↔ (value s c.args.circuit.now.parts c.args.gate ≡ true)) c.listed.result
    (λ out a s. extends_where_true c.args.circuit.now c.features-kept.ensures.kept c.args.gate c.requires out a s) c.listed.ensures

pub returns-clause-settled : goal.returns-clause-settled
returns-clause-settled c =
    if_ok (AreClausesOf c.args.circuit.now c.args.gate) (λ out. AreSettledByFeatures out) c.listed.result
    (λ out a. are_settled c.args.circuit.now c.features-kept.ensures.kept c.args.gate c.requires out a) c.listed.ensures
