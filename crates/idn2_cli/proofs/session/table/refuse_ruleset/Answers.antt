use Rattle.std.proofs.Common.{subst}
use Rattle.lgr_table.specs.Texts.{IsToldOf}
use Rattle.lgr_table.specs.declared.fault.TableError.{TableError}
use Rattle.lgr_table.specs.declared.fault.TableError.TheVariants.{Fault}
use Rattle.idn2_cli.proofs.TableLemmas.{tells_ruleset}
use Rattle.idn2_cli.proofs.session.table.refuse_ruleset.Goals as goal

pub returns-in-Fault : goal.returns-in-Fault
returns-in-Fault g c = λ wanted properties notation text xml told.
    let its : IsToldOf properties text (Fault c.in-Fault.fault c.in-Fault.line) = subst (λ (e : TableError). IsToldOf properties text e) c.in-Fault.is told in
    tells_ruleset c.args.form wanted properties notation text _ _ c.refuse_table_line.result c.in-Fault.fault c.in-Fault.line xml its
    (rw c.refusal_of.ensures at c.refuse_table_line.ensures.told) c.refuse_table_line.ensures.status
