use Rattle.idn2_laws.proofs.DispositionLaws.{blocked-blocks, readings-decide, rules-alone-decide}
use Rattle.idn2_laws.proofs.laws.readings_decide.Goals as goal

pub returns-clause-readings : goal.returns-clause-readings
returns-clause-readings c = readings-decide

pub returns-clause-rules : goal.returns-clause-rules
returns-clause-rules c = rules-alone-decide

pub returns-clause-blocked : goal.returns-clause-blocked
returns-clause-blocked c = blocked-blocks
