use Rattle.idn2_laws.proofs.ReadBackTables.{findings_read_back, registered_faults_read_back, table_faults_read_back}
use Rattle.idn2_laws.proofs.laws.tables_are_read_back.Goals as goal

pub returns-clause-findings : goal.returns-clause-findings
returns-clause-findings c = findings_read_back

pub returns-clause-faults : goal.returns-clause-faults
returns-clause-faults c = table_faults_read_back

pub returns-clause-registered : goal.returns-clause-registered
returns-clause-registered c = registered_faults_read_back
