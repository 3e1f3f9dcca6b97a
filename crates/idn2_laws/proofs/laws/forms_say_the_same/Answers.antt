use Rattle.idn2_laws.proofs.FormLemmas.{transcript_written, same_statements, same_status, json_silent}
use Rattle.idn2_laws.proofs.laws.forms_say_the_same.Goals as goal

pub returns : goal.returns
returns c = record { written = transcript_written; same = same_statements; status = same_status; silent = json_silent }
