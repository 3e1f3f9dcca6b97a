use Rattle.variant_dispositions.proofs.LawLemmas.{ByRulesAlone-holds}
use Rattle.variant_dispositions.proofs.laws.by_rules_alone.Goals as goal

pub returns : goal.returns
returns c = ByRulesAlone-holds
