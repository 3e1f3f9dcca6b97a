use Rattle.std.proofs.Common.{ap, sym, ◌∙◌, rules}
use Rattle.std.specs.Option.{option_copied}
use Rattle.idn2_options.specs.Settings.{keeping}
use Rattle.idn2_output.specs.Writing.{Held}
use Rattle.idn2_cli.proofs.LentWriters.{lent_back, run_back}
use Rattle.idn2_cli.proofs.HeadlineLemmas.{headline}
use Rattle.idn2_cli.proofs.TableLemmas.{formed}
use Rattle.idn2_answers.proofs.AdmittedLabels.{sound_table}
use Rattle.idn2_cli.proofs.BlockMembers.{rising_some, variants_answer-IsListing, check_findings-IsCheck}
use Rattle.idn2_cli.proofs.JumpAnswers.{jump_answer-IsJumpAnswer}
use Rattle.idn2_cli.proofs.session.run.run_among.Goals as goal

pub returns-clause-ends : goal.returns-clause-ends
returns-clause-ends g c =
    let ended = c.serve-status.ensures in
    let same = lent_back _ _ _ _ _ _ _ ended in
    let output = sym (ap (λ (h : Held). h.output_loan) c.console.view_is ∙ same.0) in
    let messages = sym (ap (λ (h : Held). h.messages_loan) c.console.view_is ∙ same.1) in
    run_back _ _ _ _ _ _ _ _ _ (ap g.W.Sink.state (search (rules, output)) ∙ ap (λ (h : Held). h.output) c.console.view_is)
    (ap g.E.Sink.state (search (rules, messages)) ∙ ap (λ (h : Held). h.messages) c.console.view_is) ended

pub returns-clause-headline : goal.returns-clause-headline
returns-clause-headline g c = λ asks.
    headline (keeping (option_copied c.args.registered) c.args.options.now) _ _ _ _ _ _ (rising_some c.args.options.now.properties (option_copied c.args.registered) c.requires.registered) asks c.requires.unread (returns-clause-ends g c)

pub returns-clause-listing : goal.returns-clause-listing
returns-clause-listing g c = λ table label given registrable. variants_answer-IsListing (keeping (option_copied c.args.registered) c.args.options.now) table label (sound_table table (formed c.args.options.now.properties c.args.options.now.notation c.args.table.now table given)) (rising_some c.args.options.now.properties (option_copied c.args.registered) c.requires.registered) registrable

pub returns-clause-jump : goal.returns-clause-jump
returns-clause-jump g c = λ table request given registrable. jump_answer-IsJumpAnswer c.args.options.now table request (sound_table table (formed c.args.options.now.properties c.args.options.now.notation c.args.table.now table given)) registrable

pub returns-clause-check : goal.returns-clause-check
returns-clause-check g c = λ table given. check_findings-IsCheck table (formed c.args.options.now.properties c.args.options.now.notation c.args.table.now table given).well_formed
