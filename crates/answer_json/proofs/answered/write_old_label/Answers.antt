use Rattle.std.proofs.Common.{◌∙◌}
use Rattle.answer_json.proofs.Members.{ended, with_one}
use Rattle.answer_json.proofs.answered.write_old_label.Goals as goal

pub returns : goal.returns
returns c =
    c.end_line.ensures ∙ ended (with_one _ (with_one _ c.begin_line-at.ensures.begun c.put_text-next.ensures.field) c.put_flag-end.ensures.field)
