-- A line that is being answered, and what is written in reply.
use Rattle.std.specs.Prelude.{List, Some}
use Rattle.idn_text.specs.Lines.{Numbered}
use Rattle.answer_json.specs.Answers.{Answer}
use Rattle.answer_json.specs.Inputs.{told_of}
use Rattle.idn2_answers.specs.Answers.{LineAnswer}
use Rattle.idn2_answers.specs.Said.{Said, said_object, said_text}
use Rattle.idn2_output.specs.OutputLines.{OutputLine, Output, outputs}
use Rattle.idn2_cli.specs.inner.LineAnswers.{reply_output}
use Rattle.idn2_cli.specs.declared.modes.asked.Asked.{Asked}

-- the line, as the definitions have it
abbrev pub asked_line : Asked → Numbered
asked_line asked = record { number = asked.number; body = Some asked.text.now }

-- what is said in reply, as it is written
abbrev pub said_to : Asked → Said → OutputLine
said_to asked said = Output (said_text asked.form (asked_line asked) said)

abbrev pub lines_to : Asked → List Said → List OutputLine
lines_to asked lines = outputs (said_text asked.form (asked_line asked)) lines

-- what is said, as an object
abbrev pub object_to : Asked → Said → Answer
object_to asked said = said_object asked.number (told_of (Some asked.text.now)) said

-- what is written of an answer to it
abbrev pub reply_to : Asked → LineAnswer → List OutputLine
reply_to asked answer = reply_output asked.form (asked_line asked) answer
