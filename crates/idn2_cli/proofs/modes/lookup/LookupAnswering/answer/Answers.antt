use Rattle.std.proofs.Common.{◌∙◌, ap, Err}
use Rattle.idn2_answers.specs.Said.{LookedUp}
use Rattle.idn2_cli.specs.inner.LineAnswers.{query_answer}
use Rattle.idn2_cli.proofs.TextAnswers.{query_answer-utf8, text_answer-query, answered-filled, emits_answer, one_answer-answered, one_answer-refused}
use Rattle.idn2_cli.proofs.RefusedLines.{answered_none, emits_answered, kept_as_it_was, kept_if_answered, replies_refusal, refused_is, refused_without}
use Rattle.idn2_cli.proofs.modes.lookup.LookupAnswering.answer.Goals as goal

pub reply-requires-clause-filled : goal.reply-requires-clause-filled
reply-requires-clause-filled g c = answered-filled (query_answer c.args.asked.now.text.now c.args.self.now.std3) _ c.in-Ok.ensures.answer

pub reply-requires-clause-utf8 : goal.reply-requires-clause-utf8
reply-requires-clause-utf8 g c = λ same. query_answer-utf8 c.args.self.now.std3 c.args.asked.now.text.now _ c.in-Ok.ensures.answer

pub returns-in-Ok-clause-written : goal.returns-in-Ok-clause-written
returns-in-Ok-clause-written g c =
    let std3 = c.args.self.now.std3 in
    let text = c.args.asked.now.text.now in
    rw (text_answer-query std3 text)
    (emits_answered _ _ _ c.reply.result c.answered.result c.answered.ensures (emits_answer _ _ _ _ LookedUp (query_answer text std3) _ c.reply.result c.in-Ok.ensures.answer c.reply.ensures.written))

pub returns-in-Ok-clause-refused : goal.returns-in-Ok-clause-refused
returns-in-Ok-clause-refused g c =
    let std3 = c.args.self.now.std3 in
    let text = c.args.asked.now.text.now in
    rw (text_answer-query std3 text, one_answer-answered LookedUp (query_answer text std3) _ c.in-Ok.ensures.answer) (answered_none c.reply.result c.answered.result c.answered.ensures)

pub returns-in-Ok-clause-kept : goal.returns-in-Ok-clause-kept
returns-in-Ok-clause-kept g c = kept_if_answered _ _ c.reply.result c.answered.result c.answered.ensures

pub returns-in-Err-clause-written : goal.returns-in-Err-clause-written
returns-in-Err-clause-written g c =
    let std3 = c.args.self.now.std3 in
    let text = c.args.asked.now.text.now in
    replies_refusal _ _ _ c.in-Err.refusal _ c.refused.result (λ other. text_answer-query std3 text ∙ one_answer-refused LookedUp (query_answer text std3) c.in-Err.refusal (c.in-Err.ensures.answer other)) c.refused.ensures.refused c.refused.ensures.memory

pub returns-in-Err-clause-refused : goal.returns-in-Err-clause-refused
returns-in-Err-clause-refused g c =
    let std3 = c.args.self.now.std3 in
    let text = c.args.asked.now.text.now in
    refused_is c.in-Err.refusal _ c.refused.result (λ other. text_answer-query std3 text ∙ one_answer-refused LookedUp (query_answer text std3) c.in-Err.refusal (c.in-Err.ensures.answer other)) c.refused.ensures.refused c.refused.ensures.memory

pub returns-in-Err-clause-kept : goal.returns-in-Err-clause-kept
returns-in-Err-clause-kept g c = kept_as_it_was _ c.refused.result

pub returns-in-Err-clause-no_memory : goal.returns-in-Err-clause-no_memory
returns-in-Err-clause-no_memory g c = λ none. refused_without c.in-Err.refusal c.refused.result (λ e. c.in-Err.ensures.no_memory none (ap Err e)) c.refused.ensures.refused
