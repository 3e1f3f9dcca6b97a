use Rattle.std.proofs.Common.{inl, Err, Ok, None, ◌∷◌, [], refl, sym, ap, subst, ◌∙◌}
use Rattle.std.specs.Option.{option_copied}
use Rattle.std.proofs.lemmas.Result.{err_from_is_err_and}
use Rattle.idn_text.specs.declared.refusal.Refusal.TheVariants as refusals
use Rattle.idn_class.specs.declared.properties.Properties.{Properties}
use Rattle.variant_table.specs.declared.version.Notation.{Notation}
use Rattle.idn2_options.specs.Settings.{Settings, keeping}
use Rattle.idn2_options.specs.declared.command_line.form.Form.{Form}
use Rattle.idn2_output.specs.Writing.{Emits}
use Rattle.idn2_refusals.specs.Messages.{fault_line}
use Rattle.idn2_answers.specs.Transcript.{IsCrowdedIn, IsTableIn, IsToldFor, is_in_xml}
use Rattle.idn2_cli.proofs.RunEnds.{crowded_search, does_anywhere, search_stopped, searched_read}
use Rattle.idn2_cli.proofs.session.run.serve_search.Goals as goal

pub returns-in-Err-Memory-clause-serves : goal.returns-in-Err-Memory-clause-serves
returns-in-Err-Memory-clause-serves g c = search_stopped c.args.settings.now (option_copied c.args.among) c.args.text.now _ _ _ c.requires.mode c.requires.among c.requires.unread refl

pub line_of_entry-requires-clause-given : goal.line_of_entry-requires-clause-given
line_of_entry-requires-clause-given g c =
    let o : Settings = c.args.settings.now in
    let seen = ap (keeping (option_copied c.settings.inside.registered)) c.options.view_is ∙ c.settings.view_is in
    subst (λ (n : Notation). IsTableIn c.args.table.now.definitions.properties n c.args.text.now c.args.table.now) (sym (ap (λ (v : Settings). v.notation) seen))
    (subst (λ (p : Properties). IsTableIn p o.notation c.args.text.now c.args.table.now) (sym c.requires.properties) c.requires.given)

pub line_of_entry-requires-clause-number : goal.line_of_entry-requires-clause-number
line_of_entry-requires-clause-number g c = (c.in-Err-TooManySources.ensures.crowded _ c.in-Err-TooManySources.field-0-is).within

pub returns-in_err-line-in-Err-TooManySources-clause-serves : goal.returns-in_err-line-in-Err-TooManySources-clause-serves
returns-in_err-line-in-Err-TooManySources-clause-serves g c =
    let p = err_from_is_err_and c.from_residual.result c.from_residual.ensures.1 in
    search_stopped c.args.settings.now (option_copied c.args.among) c.args.text.now _ _ _ c.requires.mode c.requires.among c.requires.unread (p.1 ∙ ap Err p.2)

pub returns-in-Err-TooManySources-clause-serves : goal.returns-in-Err-TooManySources-clause-serves
returns-in-Err-TooManySources-clause-serves g c =
    let o : Settings = c.args.settings.now in
    let seen = ap (keeping (option_copied c.settings.inside.registered)) c.options.view_is ∙ c.settings.view_is in
    let at : IsCrowdedIn o.properties o.notation c.args.text.now c.in_ok-line-in-Err-TooManySources.line = record {
      table = c.args.table.now;
      given = c.requires.given;
      entry = c.in-Err-TooManySources.entry;
      source = c.in-Err-TooManySources.ensures.crowded _ c.in-Err-TooManySources.field-0-is;
      here = subst (λ (v : Settings). IsToldFor (is_in_xml v.notation c.args.text.now) v.notation c.args.text.now c.args.table.now c.in-Err-TooManySources.entry c.in_ok-line-in-Err-TooManySources.line) seen c.in_ok-line-in-Err-TooManySources.ensures;
    } in
    crowded_search o (option_copied c.args.among) c.args.text.now c.in_ok-line-in-Err-TooManySources.line _ _ _ c.refuse_table_line.result c.requires.mode c.requires.among at c.requires.unread
    (subst (λ (f : Form). Emits c.args.console.now c.refuse_table_line.new.console (fault_line f c.in_ok-line-in-Err-TooManySources.line refusals.Limit None ∷ []) c.refuse_table_line.result) (ap (λ (v : Settings). v.form) seen) c.refuse_table_line.ensures.told)
    c.refuse_table_line.ensures.status

pub returns-in_err-dispositions-clause-serves : goal.returns-in_err-dispositions-clause-serves
returns-in_err-dispositions-clause-serves g c =
    let p = err_from_is_err_and c.from_residual-in_err-dispositions.result c.from_residual-in_err-dispositions.ensures.1 in
    search_stopped c.args.settings.now (option_copied c.args.among) c.args.text.now _ _ _ c.requires.mode c.requires.among c.requires.unread (p.1 ∙ ap Err p.2)

pub returns-in-Some-clause-serves : goal.returns-in-Some-clause-serves
returns-in-Some-clause-serves g c = inl (
  Ok c.args.table.now,
  searched_read c.args.settings.now c.args.text.now (Ok c.args.table.now) (option_copied c.args.among) c.requires.mode c.requires.among (c.requires.given, λ crowd. c.in-Ok.ensures.uncrowded crowd.0 crowd.1),
  does_anywhere _ _ _ _ _ _ c.serve_among.ensures,
)

pub returns-clause-serves : goal.returns-clause-serves
returns-clause-serves g c = inl (
  Ok c.args.table.now,
  searched_read c.args.settings.now c.args.text.now (Ok c.args.table.now) (option_copied c.args.among) c.requires.mode c.requires.among (c.requires.given, λ crowd. c.in-Ok.ensures.uncrowded crowd.0 crowd.1),
  does_anywhere _ _ _ _ _ _ c.serve_jumps.ensures,
)

pub returns-in-Some-clause-no_memory : goal.returns-in-Some-clause-no_memory
returns-in-Some-clause-no_memory g c = λ found. c.serve_among.ensures

pub returns-clause-no_memory : goal.returns-clause-no_memory
returns-clause-no_memory g c = λ found. c.serve_jumps.ensures
