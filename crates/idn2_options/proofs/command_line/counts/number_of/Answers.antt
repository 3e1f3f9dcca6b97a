use Rattle.std.proofs.Common.{sym, ◌∙◌}
use Rattle.idn2_options.proofs.CountLemmas.{no-none, ok-short}
use Rattle.idn2_options.proofs.command_line.counts.number_of.Goals as goal

-- a short numeral is read
pub returns-in_err-number : goal.returns-in_err-number
returns-in_err-number c =
    no-none _ (ok-short c.args.text.now c.parse.result c.ok.result c.args.digits c.requires (sym c.is_numeral.ensures ∙ c.if-not-is_numeral.false)
    c.parse.ensures.value.0 c.ok.ensures.value) c.in_err-number.was
