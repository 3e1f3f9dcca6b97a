use Rattle.std.proofs.Common.{[], codes, ◌∙◌}
use Rattle.answer_json.specs.Answers.{Field, text}
use Rattle.answer_json.proofs.Members.{ended, first, with_one}
use Rattle.answer_json.proofs.checked.write_pair.Goals as goal

pub returns : goal.returns
returns c =
    let source : Field = (codes "source", text c.args.source.now) in
    let begun = first [] source _ c.put_text-at.ensures.field in
    c.end_line.ensures ∙ ended (with_one _ begun (rw (c.opening.ensures.comma, c.opening.ensures.name) at c.put_text-end.ensures.field))
