use Rattle.std.proofs.Common.{[], codes, ◌∙◌}
use Rattle.answer_json.specs.Answers.{Field, text}
use Rattle.answer_json.proofs.Members.{ended, first}
use Rattle.answer_json.proofs.checked.write_idle.Goals as goal

pub returns : goal.returns
returns c =
    let name : Field = (codes "idle", text c.args.name.now) in
    c.end_line.ensures ∙ ended (first [] name _ c.put_text-end.ensures.field)
