use Rattle.std.proofs.Common.{◌∙◌}
use Rattle.std.specs.Option.{option_copied}
use Rattle.answer_json.specs.Objects.{end_fields}
use Rattle.answer_json.proofs.Members.{ended, with_all, with_one}
use Rattle.answer_json.proofs.block.write_trailer.Goals as goal

pub returns : goal.returns
returns c =
    let stop = option_copied c.args.stop in
    c.end_line.ensures
    ∙ ended (with_all (end_fields stop) (with_one _ c.begin_line-at.ensures.begun c.put_number-next.ensures.field) c.put_end-end.ensures.fields)
