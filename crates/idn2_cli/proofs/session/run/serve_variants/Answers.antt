use Rattle.std.proofs.Common.{Err, Ok, None, ap, chars, ◌≡◌, ◌∙◌}
use Rattle.std.specs.Option.{option_copied}
use Rattle.std.proofs.lemmas.Result.{err_from_is_err_and}
use Rattle.idn_class.specs.declared.properties.Properties.{Properties}
use Rattle.variant_table.specs.Entries.{TableValue}
use Rattle.idn2_options.specs.Settings.{Settings, keeping, tells_causes}
use Rattle.idn2_options.specs.declared.command_line.form.Form.{Form}
use Rattle.idn2_options.specs.declared.command_line.mode.Mode.{Mode}
use Rattle.idn2_options.specs.declared.command_line.mode.Mode.TheVariants.{Variants}
use Rattle.idn2_answers.specs.Answers.{variants_answer}
use Rattle.idn2_refusals.specs.Explained.{ByTable, Explained, if_wanted}
use Rattle.idn2_refusals.specs.Explaining.{explained_by}
use Rattle.idn2_cli.specs.Ends.{Job, lines_job}
use Rattle.idn2_cli.specs.Memory.{IsRefusedWithoutMemory, ListsWithoutMemory}
use Rattle.idn2_cli.proofs.RunEnds.{does_anywhere, does_lines, listed_job, listed_stopped, settings_among}
use Rattle.idn2_cli.proofs.session.run.serve_variants.Goals as goal

pub returns-in_err-dispositions : goal.returns-in_err-dispositions
returns-in_err-dispositions g c =
    let p = err_from_is_err_and c.from_residual.result c.from_residual.ensures.1 in
    listed_stopped c.args.settings.now c.args.table.now _ _ _ c.requires.mode c.requires.unread (p.1 ∙ ap Err p.2)

pub returns : goal.returns
returns g c =
    let o : Settings = c.args.settings.now in
    let set : Settings = record o { mode = Variants } in
    let table : TableValue = c.args.table.now in
    let given : Settings = c.settings.inside.options.now in
    let seen = ap (keeping (option_copied c.settings.inside.registered)) c.options.view_is ∙ c.settings.view_is in
    let whole : keeping None given ≡ set = settings_among o given (option_copied c.settings.inside.registered) None c.settings.view_is c.requires.whole ∙ ap (λ (m : Mode). record o { mode = m }) c.requires.mode in
    let job : Settings → Form → Explained → Job = λ s f e. lines_job f e (variants_answer s table) (λ line. IsRefusedWithoutMemory s.properties (chars line)) (λ line. ListsWithoutMemory s table (chars line)) in
    does_anywhere _ _ _ _ _ _
    (does_lines o Variants (Ok table) _ _ _ _ _ c.serve_lines.result c.requires.mode
    (ap (λ s. job s c.options.inside.form (explained_by c.if_wanted-explaining.result)) whole
    ∙ ap (λ f. job set f (explained_by c.if_wanted-explaining.result)) (ap (λ (v : Settings). v.form) seen)
    ∙ ap (λ e. job set o.form e)
    (c.if_wanted-explaining.ensures ∙ ap (λ (p : Properties). if_wanted c.tells_causes.result (ByTable p table)) (ap (λ (v : Settings). v.properties) seen)
    ∙ ap (λ x. if_wanted x (ByTable o.properties table)) (c.tells_causes.ensures ∙ ap tells_causes c.settings.view_is))
    ∙ listed_job set table o.form _ c.requires.whole)
    c.serve_lines.ensures)
