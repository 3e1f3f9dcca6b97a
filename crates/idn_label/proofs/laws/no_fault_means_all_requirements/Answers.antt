use Rattle.idn_label.proofs.RequirementLemmas.{MeetsRequirements-registrable, registrable-MeetsRequirements}
use Rattle.idn_label.proofs.laws.no_fault_means_all_requirements.Goals as goal

pub returns : goal.returns
returns c properties label = (MeetsRequirements-registrable properties label, registrable-MeetsRequirements properties label)
