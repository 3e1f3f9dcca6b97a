use Rattle.xml_text.proofs.TakenLemmas.{run_more}
use Rattle.xml_text.proofs.run.Run.len.Goals as goal

pub returns-clause-run : goal.returns-clause-run
returns-clause-run c = run_more c.args.self c.args.text.now c.split_at.result.1.now c.lead.result c.split_at.ensures.back c.lead.ensures.run
