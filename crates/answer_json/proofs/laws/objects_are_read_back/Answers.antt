use Rattle.json.proofs.Printed.Trees.{document-print}
use Rattle.answer_json.specs.Answers.{json_of}
use Rattle.answer_json.proofs.Written.{answer_depth, answer_numbers}
use Rattle.answer_json.proofs.laws.objects_are_read_back.Goals as goal

pub returns : goal.returns
returns c = λ answer small. document-print (json_of answer) (answer_numbers answer small) (answer_depth answer)
