use Rattle.std.proofs.Common.{Ok, ap, chars, ◌∙◌}
use Rattle.std.specs.Option.{option_copied}
use Rattle.idn_class.specs.declared.properties.Properties.{Properties}
use Rattle.variant_table.specs.Entries.{TableValue}
use Rattle.idn2_options.specs.Settings.{Settings, keeping, tells_causes}
use Rattle.idn2_options.specs.declared.command_line.form.Form.{Form}
use Rattle.idn2_options.specs.declared.command_line.mode.Mode.TheVariants.{Jump}
use Rattle.idn2_answers.specs.Answers.{jump_answer}
use Rattle.idn2_refusals.specs.Explained.{ByRequest, Explained, if_wanted}
use Rattle.idn2_refusals.specs.Explaining.{explained_by}
use Rattle.idn2_refusals.specs.Requests.{requested_label}
use Rattle.idn2_cli.specs.Ends.{Job, lines_job}
use Rattle.idn2_cli.specs.Memory.{IsRefusedWithoutMemory}
use Rattle.idn2_cli.proofs.RunEnds.{does_lines}
use Rattle.idn2_cli.proofs.session.run.serve_jumps.Goals as goal

pub returns : goal.returns
returns g c =
    let o : Settings = c.args.settings.now in
    let table : TableValue = c.args.search.now.table.now in
    let seen = ap (keeping (option_copied c.settings.inside.registered)) c.options.view_is ∙ c.settings.view_is in
    let job : Properties → Form → Explained → Job = λ p f e. lines_job f e (jump_answer p table) (λ line. IsRefusedWithoutMemory p (requested_label (chars line))) (λ line. Unit {0}) in
    let given : Properties = c.options.inside.properties in
    does_lines o Jump (Ok table) _ _ _ _ _ c.serve_lines.result c.requires.mode
    (ap (λ f. job given f (explained_by c.if_wanted-explaining.result)) (ap (λ (v : Settings). v.form) seen)
    ∙ ap (λ e. job given o.form e) c.if_wanted-explaining.ensures
    ∙ ap (λ (p : Properties). job p o.form (if_wanted c.tells_causes.result (ByRequest p table))) (ap (λ (v : Settings). v.properties) seen)
    ∙ ap (λ x. job o.properties o.form (if_wanted x (ByRequest o.properties table))) (c.tells_causes.ensures ∙ ap tells_causes c.settings.view_is))
    c.serve_lines.ensures
