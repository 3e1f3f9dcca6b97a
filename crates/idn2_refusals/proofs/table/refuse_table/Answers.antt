use Rattle.std.proofs.Common.{◌∙◌, [], ◌∷◌, Result, Ok, Err, ap, subst, sym}
use Rattle.std.specs.Option.{option_copied}
use Rattle.std.proofs.lemmas.Result.{err_from_is_err_and}
use Rattle.idn2_output.specs.declared.status.Status.{Status}
use Rattle.idn2_output.specs.declared.status.Status.TheVariants.{Unusable}
use Rattle.idn2_output.specs.declared.stop.Stop.{Stop}
use Rattle.idn2_output.specs.Writing.{Emits}
use Rattle.idn2_refusals.specs.Messages.{fault_line}
use Rattle.idn2_refusals.proofs.ToldRefusals.{told_as_is}
use Rattle.idn2_refusals.proofs.table.refuse_table.Goals as goal

pub returns-in_err-write_fault-clause-told : goal.returns-in_err-write_fault-clause-told
returns-in_err-write_fault-clause-told g c = λ properties notation is.
    let p = err_from_is_err_and c.from_residual.result c.from_residual.ensures.1 in
    let lines = fault_line c.args.form c.in-Some.line c.in-Some.told (option_copied c.as_ref.result) ∷ [] in
    told_as_is properties c.args.form c.args.wanted notation c.args.text.now c.args.refusal.now c.args.console.now c.write_fault.new.console c.from_residual.result (c.in-Some.line, c.in-Some.told)
    (option_copied c.as_ref.result) is (sym c.told_of.ensures ∙ c.in-Some.is) (c.as_ref.ensures.value ∙ c.fault_cause_if_wanted-cause.ensures)
    (subst (λ (r : Result Status Stop). Emits c.args.console.now c.write_fault.new.console lines r) (sym (p.1 ∙ ap Err p.2)) (c.in_err-write_fault.ensures {u = tt}))

pub returns-clause-told : goal.returns-clause-told
returns-clause-told g c = λ properties notation is.
    told_as_is properties c.args.form c.args.wanted notation c.args.text.now c.args.refusal.now c.args.console.now c.write_fault.new.console (Ok Unusable) (c.in-Some.line, c.in-Some.told) (option_copied c.as_ref.result) is
    (sym c.told_of.ensures ∙ c.in-Some.is) (c.as_ref.ensures.value ∙ c.fault_cause_if_wanted-cause.ensures) (c.in_ok-write_fault.ensures {u = tt})
