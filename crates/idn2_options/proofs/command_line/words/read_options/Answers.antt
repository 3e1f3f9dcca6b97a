use Rattle.std.proofs.Common.{◌∙◌, ap, cond, map, subst, sym}
use Rattle.std.specs.Prelude.{string_bytes}
use Rattle.idn2_options.specs.Settings.{IsWithinLimits, SuitsMode}
use Rattle.idn2_options.specs.Words.{bad, chosen, settings_of}
use Rattle.idn2_options.proofs.AnswerLemmas.{answer-Err, answer-Ok}
use Rattle.idn2_options.proofs.LimitLemmas.{within_limits}
use Rattle.idn2_options.proofs.AppKinds.{texts}
use Rattle.idn2_options.proofs.SuitLemmas.{suits_mode}
use Rattle.idn2_options.proofs.command_line.words.read_options.Goals as goal

pub returns-in-Err-clause-answer : goal.returns-in-Err-clause-answer
returns-in-Err-clause-answer c =
    answer-Err (map string_bytes c.args.words.now) c.in-Err.error c.usage_of.result (texts c.args.words.now) c.in-Err.ensures.fault c.usage_of.ensures

pub returns-then-not-is_allowed-clause-answer : goal.returns-then-not-is_allowed-clause-answer
returns-then-not-is_allowed-clause-answer c =
    let rows = c.of-given.result in
    answer-Ok (map string_bytes c.args.words.now) rows c.in-Ok.ensures.fault (c.of-given.ensures ∙ c.in-Ok.ensures.ok)
    ∙ ap (λ test. cond test (chosen (settings_of rows)) bad) (sym c.is_allowed.ensures ∙ c.if-not-is_allowed.true)

pub returns-clause-answer : goal.returns-clause-answer
returns-clause-answer c =
    let rows = c.of-given.result in
    answer-Ok (map string_bytes c.args.words.now) rows c.in-Ok.ensures.fault (c.of-given.ensures ∙ c.in-Ok.ensures.ok)
    ∙ (ap (λ test. cond test (chosen (settings_of rows)) bad) (sym c.is_allowed.ensures ∙ c.if-not-is_allowed.false)
    ∙ ap chosen (sym c.in_ok-settings_of.ensures.value))

pub returns-clause-limits : goal.returns-clause-limits
returns-clause-limits c =
    let rows = c.of-given.result in
    subst IsWithinLimits (sym c.in_ok-settings_of.ensures.value)
    (within_limits rows c.in_ok-settings_of.ensures.is_text (sym c.is_allowed.ensures ∙ c.if-not-is_allowed.false))

pub returns-clause-suits : goal.returns-clause-suits
returns-clause-suits c =
    subst SuitsMode (sym c.in_ok-settings_of.ensures.value)
    (suits_mode c.of-given.result (sym c.is_allowed.ensures ∙ c.if-not-is_allowed.false))
