use Rattle.std.proofs.Common.{[], ◌∙◌}
use Rattle.answer_json.specs.Objects.{disposition_fields, line_field}
use Rattle.answer_json.proofs.Members.{ended, first, with_all, with_one}
use Rattle.answer_json.proofs.block.write_variant.Goals as goal

pub returns : goal.returns
returns c =
    let line = line_field c.args.line in
    let begun = first [] line _ c.put_number-at.ensures.field in
    let labels = with_one _ (with_one _ begun c.put_text-next.ensures.field) c.put_text-last.ensures.field in
    c.end_line.ensures ∙ ended (with_all (disposition_fields c.args.disposition) labels c.put_disposition-end.ensures.fields)
