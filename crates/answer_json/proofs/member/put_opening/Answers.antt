use Rattle.answer_json.proofs.Plain.{opening_text}
use Rattle.answer_json.proofs.member.put_opening.Goals as goal

pub returns-clause-name : goal.returns-clause-name
returns-clause-name c = let told = opening_text c.args.opening.now c.requires.opening in cc
