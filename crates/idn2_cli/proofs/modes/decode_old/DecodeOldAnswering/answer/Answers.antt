use Rattle.std.proofs.Common.{◌∙◌, Err, ap, sym}
use Rattle.idn_text.specs.declared.refusal.Refusal.TheVariants.{Empty}
use Rattle.idn_label.specs.OldNames.{zone_answer, zone_in_utf8}
use Rattle.idn2_answers.specs.Answers.{zone_line}
use Rattle.idn2_cli.proofs.TextAnswers.{text_answer-none, text_answer-zone}
use Rattle.idn2_cli.proofs.RefusedLines.{answered_none, emits_answered, kept_as_it_was, kept_if_answered, replies_refusal, refused_is, refused_without}
use Rattle.idn2_cli.proofs.modes.decode_old.DecodeOldAnswering.answer.Goals as goal

-- ---- no label

pub returns-then-is_empty-clause-written : goal.returns-then-is_empty-clause-written
returns-then-is_empty-clause-written g c =
    replies_refusal _ _ _ Empty _ c.refused.result (λ other. text_answer-none (λ label. zone_line (zone_in_utf8 (zone_answer c.args.self.now.properties label))) c.args.asked.now.text.now (sym c.is_empty.ensures ∙ c.if-is_empty.true)) c.refused.ensures.refused c.refused.ensures.memory

pub returns-then-is_empty-clause-refused : goal.returns-then-is_empty-clause-refused
returns-then-is_empty-clause-refused g c =
    refused_is Empty _ c.refused.result (λ other. text_answer-none (λ label. zone_line (zone_in_utf8 (zone_answer c.args.self.now.properties label))) c.args.asked.now.text.now (sym c.is_empty.ensures ∙ c.if-is_empty.true)) c.refused.ensures.refused c.refused.ensures.memory

pub returns-then-is_empty-clause-kept : goal.returns-then-is_empty-clause-kept
returns-then-is_empty-clause-kept g c = kept_as_it_was _ c.refused.result

-- ---- a label of the zone

pub returns-in-Ok-clause-written : goal.returns-in-Ok-clause-written
returns-in-Ok-clause-written g c =
    rw (text_answer-zone c.args.self.now.properties c.args.asked.now.text.now (sym c.is_empty.ensures ∙ c.if-is_empty.false), c.in-Ok.ensures.answer)
    (emits_answered _ _ _ c.reply_label.result c.answered.result c.answered.ensures c.reply_label.ensures.written)

pub returns-in-Ok-clause-refused : goal.returns-in-Ok-clause-refused
returns-in-Ok-clause-refused g c =
    rw (text_answer-zone c.args.self.now.properties c.args.asked.now.text.now (sym c.is_empty.ensures ∙ c.if-is_empty.false), c.in-Ok.ensures.answer)
    (answered_none c.reply_label.result c.answered.result c.answered.ensures)

pub returns-in-Ok-clause-kept : goal.returns-in-Ok-clause-kept
returns-in-Ok-clause-kept g c = kept_if_answered _ _ c.reply_label.result c.answered.result c.answered.ensures

-- ---- or none

pub returns-in-Err-clause-written : goal.returns-in-Err-clause-written
returns-in-Err-clause-written g c =
    replies_refusal _ _ _ c.in-Err.refusal _ c.refused-in-Err.result (λ other. text_answer-zone c.args.self.now.properties c.args.asked.now.text.now (sym c.is_empty.ensures ∙ c.if-is_empty.false) ∙ ap zone_line (c.in-Err.ensures.answer other)) c.refused-in-Err.ensures.refused c.refused-in-Err.ensures.memory

pub returns-in-Err-clause-refused : goal.returns-in-Err-clause-refused
returns-in-Err-clause-refused g c =
    refused_is c.in-Err.refusal _ c.refused-in-Err.result (λ other. text_answer-zone c.args.self.now.properties c.args.asked.now.text.now (sym c.is_empty.ensures ∙ c.if-is_empty.false) ∙ ap zone_line (c.in-Err.ensures.answer other)) c.refused-in-Err.ensures.refused c.refused-in-Err.ensures.memory

pub returns-in-Err-clause-kept : goal.returns-in-Err-clause-kept
returns-in-Err-clause-kept g c = kept_as_it_was _ c.refused-in-Err.result

pub returns-in-Err-clause-no_memory : goal.returns-in-Err-clause-no_memory
returns-in-Err-clause-no_memory g c = λ none. refused_without c.in-Err.refusal c.refused-in-Err.result (λ e. c.in-Err.ensures.no_memory none (ap Err e)) c.refused-in-Err.ensures.refused
