use Rattle.std.proofs.Common.{◌∙◌}
use Rattle.answer_json.proofs.Members.{ended, with_one}
use Rattle.answer_json.proofs.answered.write_no_least.Goals as goal

pub returns : goal.returns
returns c = c.end_line.ensures ∙ ended (with_one _ c.begin_line-at.ensures.begun c.put_null-end.ensures.field)
