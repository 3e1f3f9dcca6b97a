use Rattle.std.proofs.Common.{◌++◌, codes, take}
use Rattle.answer_json.specs.Answers.{count, if_given}
use Rattle.answer_json.specs.Details.{flag_if, point}
use Rattle.answer_json.proofs.Members.{more_fields}
use Rattle.answer_json.proofs.details.put_where.Goals as goal

pub returns-clause-fields : goal.returns-clause-fields
returns-clause-fields c =
    let old = take c.args.at c.args.out.now in
    let told = c.args.members.now in
    let label = if_given (codes "label") count told.label in
    let decoded = flag_if (codes "decoded") told.decoded in
    let code_point = if_given (codes "code_point") point told.code_point in
    let place = if_given (codes "place") count told.place in
    more_fields old (label ++ decoded ++ code_point) place
    (more_fields old (label ++ decoded) code_point (more_fields old label decoded c.put_number_if-decoded.ensures.field c.put_flag_if-code_point.ensures.field) c.put_point_if-place.ensures.field)
    c.put_number_if.ensures.field
