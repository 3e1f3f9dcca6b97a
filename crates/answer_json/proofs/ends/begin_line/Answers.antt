use Rattle.std.proofs.Common.{[]}
use Rattle.answer_json.specs.Objects.{line_field}
use Rattle.answer_json.proofs.Members.{first, with_one}
use Rattle.answer_json.proofs.ends.begin_line.Goals as goal

pub returns-clause-begun : goal.returns-clause-begun
returns-clause-begun c =
    let line = line_field c.args.line in
    with_one _ (first [] line _ c.put_number-at.ensures.field) c.put_input.ensures.field
