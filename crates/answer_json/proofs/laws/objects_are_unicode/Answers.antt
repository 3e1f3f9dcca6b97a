use Rattle.std.proofs.Common.{false}
use Rattle.json.specs.Tree.{json_tokens}
use Rattle.answer_json.specs.Answers.{json_of}
use Rattle.answer_json.proofs.Unicode.{answer_utf8, print_from-utf8}
use Rattle.answer_json.proofs.laws.objects_are_unicode.Goals as goal

pub returns : goal.returns
returns c = λ answer small unicode. print_from-utf8 false (json_tokens (json_of answer)) (answer_utf8 answer small unicode)
