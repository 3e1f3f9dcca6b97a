use Rattle.std.proofs.Common.{Some, ◌∙◌}
use Rattle.answer_json.specs.Details.{details_of, refusal_fields}
use Rattle.answer_json.proofs.Members.{ended_with}
use Rattle.answer_json.proofs.refused.write_refused.Goals as goal

pub returns : goal.returns
returns c =
    c.end_line.ensures
    ∙ ended_with (Some (refusal_fields c.args.refusal (details_of c.args.members.now))) c.begin_line-at.ensures.begun c.put_refusal-end.ensures.object
