use Rattle.std.proofs.Common.{◌||◌, ◌∙◌, Bool, ap, not, sym}
use Rattle.idn2_options.specs.Names.{json_name}
use Rattle.idn2_options.specs.Words.{has_flag}
use Rattle.idn2_options.proofs.command_line.rules.prints_plainly.Goals as goal

pub returns-else-not-prints : goal.returns-else-not-prints
returns-else-not-prints c =
    ap not (c.has_flag.ensures ∙ ap (has_flag json_name) c.given.view_is)
    ∙ sym (ap (λ (printed : Bool). not printed || not (has_flag json_name c.args.given.now)) (sym c.prints.ensures ∙ c.if-not-prints.false))
