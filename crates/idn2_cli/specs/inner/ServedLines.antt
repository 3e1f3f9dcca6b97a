-- What became of a line, as a result: why it is refused, if it is, or why the run stops.
use Rattle.std.specs.Prelude.{◌≡◌, ℕ, List, Option, Some, None, Result, Ok, Err, IfOk}
use Rattle.idn_text.specs.Reading.{Reading, line_at}
use Rattle.idn2_answers.specs.Answers.{LineAnswer, line_answer}
use Rattle.idn_text.specs.declared.refusal.Refusal.{Refusal}
use Rattle.idn2_cli.specs.Memory.{BodyNeedsNone}
use Rattle.idn2_cli.specs.inner.LineAnswers.{refusal_in}
use Rattle.idn2_cli.specs.declared.modes.answering.Served.{Served}
use Rattle.idn2_cli.specs.declared.modes.answering.Served.TheVariants as served
use Rattle.idn2_output.specs.declared.stop.Stop.{Stop}

abbrev pub result_of : Served → Result (Option Refusal) Stop
result_of served.Answered = Ok None
result_of (served.Refused refusal) = Ok (Some refusal)
result_of (served.Stopped why) = Err why

-- an answer that was written, or why the run stops
abbrev pub answered_as : Result (Unit {0}) Stop → Result (Option Refusal) Stop
answered_as (Ok written) = Ok None
answered_as (Err why) = Err why

-- the line is refused as this answer refuses it, or answered, if the run does not stop
abbrev pub IsServedAs : LineAnswer → Served → Type 0
IsServedAs answer served = IfOk (result_of served) (λ refusal. refusal ≡ refusal_in answer)

-- ---- the line that the input went on to

-- its answer
abbrev pub answer_at : (List ℕ → LineAnswer) → Reading → LineAnswer
answer_at answer input = line_answer answer (line_at input).body

-- it is one of these, which need no memory
abbrev pub LineNeedsNone : (List ℕ → Type 0) → Reading → Type 0
LineNeedsNone needs_none input = BodyNeedsNone needs_none (line_at input).body
