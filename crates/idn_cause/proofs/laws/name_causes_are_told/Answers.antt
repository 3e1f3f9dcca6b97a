use Rattle.idn_cause.proofs.NameLaws.{name_cause-is, name_fault-has_cause}
use Rattle.idn_cause.proofs.laws.name_causes_are_told.Goals as goal

pub returns : goal.returns
returns c = record { exactly = name_cause-is; always = name_fault-has_cause }
