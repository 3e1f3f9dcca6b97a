use Rattle.std.proofs.Common.{[], codes, ◌∙◌}
use Rattle.answer_json.specs.Answers.{Field, count}
use Rattle.answer_json.proofs.Members.{ended, first, with_one}
use Rattle.answer_json.proofs.checked.write_checked.Goals as goal

pub returns : goal.returns
returns c =
    let entries : Field = (codes "entries", count c.args.entries) in
    let begun = first [] entries _ c.put_number-at.ensures.field in
    c.end_line.ensures ∙ ended (with_one _ begun c.put_number-end.ensures.field)
