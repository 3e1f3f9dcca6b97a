use Rattle.std.proofs.Common.{ap, codes, true, ◌∙◌}
use Rattle.std.proofs.lemmas.Result.{IfOk-weaker}
use Rattle.clap.specs.Words.{App, app_of, with_rule}
use Rattle.clap.specs.Simple.{app_of_fields}
use Rattle.idn2_options.specs.CommandLine.{app, option_rules, strings_rule, versioned_app, with_rules}
use Rattle.idn2_options.specs.Names.{strings_name}
use Rattle.idn2_options.proofs.AppLemmas.{with_rules-last}
use Rattle.idn2_options.proofs.command_line.command.command.Goals as goal

pub returns : goal.returns
unfolding app
returns c =
    let begun =
    ap app_of_fields c.after_help-command.ensures ∙ (ap app_of_fields c.about.ensures ∙ (ap app_of_fields c.version.ensures
    ∙ ap (λ (a : App). record a { top = record a.top { has_version = true } }) c.new.ensures.app)) in
    let with_options = c.in_ok-command.ensures ∙ ap (λ a. with_rules a option_rules) begun in
    IfOk-weaker c.arg.result _ _ (λ r adds.
    adds.shape c.strings.ensures.local ∙ ap (with_rule (app_of c.in_ok-command.command)) c.strings.ensures.rule
    ∙ ap (λ a. with_rule a (strings_rule strings_name)) with_options ∙ with_rules-last (versioned_app (codes "idn2")) option_rules (strings_rule strings_name))
    c.arg.ensures
