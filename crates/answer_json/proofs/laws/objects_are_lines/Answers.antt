use Rattle.std.proofs.Common.{false}
use Rattle.json.specs.Tree.{json_tokens}
use Rattle.answer_json.specs.Answers.{json_of}
use Rattle.answer_json.proofs.OneLine.{print_from-clear}
use Rattle.answer_json.proofs.Written.{answer_clear}
use Rattle.answer_json.proofs.laws.objects_are_lines.Goals as goal

pub returns : goal.returns
returns c = λ answer small. print_from-clear false (json_tokens (json_of answer)) (answer_clear answer small)
