use Rattle.variant_table.proofs.NoteLemmas.{again_told, class_told, faults_are, source_told}
use Rattle.variant_table.proofs.laws.places_are_told_where_reading_refuses.Goals as goal

pub returns-clause-limit : goal.returns-clause-limit
returns-clause-limit c = λ d n line form e. (faults_are d line form e).limit

pub returns-clause-name : goal.returns-clause-name
returns-clause-name c = λ d n line form e. (faults_are d line form e).name

pub returns-clause-class : goal.returns-clause-class
returns-clause-class c = λ d n line form e. class_told d line form e

pub returns-clause-again : goal.returns-clause-again
returns-clause-again c = λ d n line form e. again_told d line form e

pub returns-clause-source : goal.returns-clause-source
returns-clause-source c = λ d n line form e. source_told d line form e
