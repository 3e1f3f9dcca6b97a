use Rattle.idn_cause.proofs.QueryLaws.{query_cause-is, query_fault-has_cause}
use Rattle.idn_cause.proofs.ExampleLemmas.{examples_of_lengths}
use Rattle.idn_cause.proofs.laws.query_causes_are_told.Goals as goal

pub returns : goal.returns
returns c = record { exactly = query_cause-is; always = query_fault-has_cause; examples = examples_of_lengths }
