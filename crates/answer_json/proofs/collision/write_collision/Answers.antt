use Rattle.std.proofs.Common.{[], ◌∙◌}
use Rattle.answer_json.specs.Objects.{line_field, regard_fields}
use Rattle.answer_json.proofs.Members.{ended, first, with_all, with_one}
use Rattle.answer_json.proofs.collision.write_collision.Goals as goal

pub returns : goal.returns
returns c =
    let line = line_field c.args.line in
    let begun = first [] line _ c.put_number-at.ensures.field in
    let labels = with_one _ (with_one _ begun c.put_text-next.ensures.field) c.put_text-last.ensures.field in
    c.end_line.ensures ∙ ended (with_all (regard_fields c.args.regards) labels c.put_regards-end.ensures.fields)
