use Rattle.std.proofs.Common.{◌∙◌}
use Rattle.answer_json.specs.Objects.{regard_fields}
use Rattle.answer_json.proofs.Members.{ended, with_all, with_one}
use Rattle.answer_json.proofs.answered.write_least.Goals as goal

pub returns : goal.returns
returns c =
    let label = with_one _ c.begin_line-at.ensures.begun c.put_text-next.ensures.field in
    c.end_line.ensures ∙ ended (with_all (regard_fields c.args.regards) label c.put_regards-end.ensures.fields)
