use Rattle.std.proofs.Common.{[], codes, Some, ◌∙◌}
use Rattle.answer_json.specs.Answers.{Field, count}
use Rattle.answer_json.specs.Details.{details_of, refusal_fields}
use Rattle.answer_json.proofs.Members.{ended_with, first}
use Rattle.answer_json.proofs.refused.write_registered_fault.Goals as goal

pub returns : goal.returns
returns c =
    let line : Field = (codes "registered_line", count c.args.line) in
    let begun = first [] line _ c.put_number-at.ensures.field in
    c.end_line.ensures
    ∙ ended_with (Some (refusal_fields c.args.refusal (details_of c.args.members.now))) begun c.put_refusal-end.ensures.object
