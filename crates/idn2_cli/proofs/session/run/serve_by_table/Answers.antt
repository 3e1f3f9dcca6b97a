use Rattle.std.proofs.Common.{inl, Ok, ap, sym, subst, ◌∙◌}
use Rattle.std.specs.Option.{option_copied}
use Rattle.idn2_options.specs.Settings.{Settings, keeping, tells_causes}
use Rattle.idn2_options.specs.declared.command_line.form.Form.{Form}
use Rattle.idn2_answers.specs.Transcript.{IsTableIn, check_output}
use Rattle.idn2_output.specs.Writing.{Emits}
use Rattle.idn2_cli.specs.inner.ServedModes.{mode_of}
use Rattle.idn2_cli.proofs.RunEnds.{checked, checked_read, in_form, listed_read, printed, printed_read, refused_text, works_by_table}
use Rattle.idn2_cli.proofs.session.run.serve_by_table.Goals as goal

pub returns-in-Err : goal.returns-in-Err
returns-in-Err g c =
    let o : Settings = c.args.settings.now in
    let seen = ap (keeping (option_copied c.settings.inside.registered)) c.options.view_is ∙ c.settings.view_is in
    refused_text o (mode_of c.args.mode) (works_by_table o c.args.mode c.requires.mode) c.args.text.now _ _ _ c.refuse_unread.result c.requires.unread
    (in_form c.args.text.now _ _ _ _ _ _ _ _ _ _ c.refuse_unread.result (ap (λ (v : Settings). v.form) seen) (c.tells_causes-wanted.ensures ∙ ap tells_causes c.settings.view_is)
    (ap (λ (v : Settings). v.properties) seen) (ap (λ (v : Settings). v.notation) seen) (c.refuse_unread.ensures _ _ c.in-Err.ensures.unread))

pub returns-in-Check : goal.returns-in-Check
returns-in-Check g c =
    let o : Settings = c.args.settings.now in
    let seen = ap (keeping (option_copied c.settings.inside.registered)) c.options.view_is ∙ c.settings.view_is in inl (
      Ok c.in-Ok.table,
      checked_read o c.args.text.now (Ok c.in-Ok.table) (c.requires.mode ∙ ap mode_of c.in-Check.is) (subst (λ (v : Settings). IsTableIn v.properties v.notation c.args.text.now c.in-Ok.table) seen c.in-Ok.ensures.table),
      checked o c.in-Ok.table _ _ _ c.check_table.result (c.requires.mode ∙ ap mode_of c.in-Check.is) c.requires.unread
          (subst (λ (f : Form). Emits c.args.console.now c.check_table.new.console (check_output f (tells_causes o) (Ok c.in-Ok.table)) c.check_table.result) (ap (λ (v : Settings). v.form) seen) c.check_table.ensures.written)
          c.check_table.ensures.status,
    )

pub returns-in-None : goal.returns-in-None
returns-in-None g c =
    let o : Settings = c.args.settings.now in
    let seen = ap (keeping (option_copied c.settings.inside.registered)) c.options.view_is ∙ c.settings.view_is in
    let whole = sym (ap (λ (v : Settings). v.registered) c.settings.view_is) ∙ ap option_copied c.in-None.is in inl (
      Ok c.in-Ok.table,
      listed_read o c.args.text.now (Ok c.in-Ok.table) (c.requires.mode ∙ ap mode_of c.in-Variants.is) whole (subst (λ (v : Settings). IsTableIn v.properties v.notation c.args.text.now c.in-Ok.table) seen c.in-Ok.ensures.table),
      c.serve_variants.ensures,
    )

pub returns : goal.returns
returns g c =
    let o : Settings = c.args.settings.now in
    let seen = ap (keeping (option_copied c.settings.inside.registered)) c.options.view_is ∙ c.settings.view_is in inl (
      Ok c.in-Ok.table,
      printed_read o c.args.text.now (Ok c.in-Ok.table) (c.requires.mode ∙ ap mode_of c.in-Print.is) (subst (λ (v : Settings). IsTableIn v.properties v.notation c.args.text.now c.in-Ok.table) seen c.in-Ok.ensures.table),
      printed o c.in-Ok.table _ _ _ c.print_table.result (c.requires.mode ∙ ap mode_of c.in-Print.is) c.requires.unread c.print_table.ensures.written c.print_table.ensures.status,
    )
