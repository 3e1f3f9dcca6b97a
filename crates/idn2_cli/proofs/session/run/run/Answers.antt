use Rattle.std.proofs.Common.{ap, sym, subst, ◌≡◌, ◌∙◌, None}
use Rattle.idn2_options.specs.Settings.{Settings, keeping}
use Rattle.idn2_cli.proofs.RunEnds.{runs_as}
use Rattle.idn2_answers.proofs.AdmittedLabels.{sound_table}
use Rattle.idn2_cli.proofs.BlockMembers.{HasRising, variants_answer-IsListing}
use Rattle.idn2_cli.proofs.HeadlineLemmas.{headline}
use Rattle.idn2_cli.proofs.TableLemmas.{formed}
use Rattle.idn2_cli.proofs.session.run.run.Goals as goal

-- options have no registered labels
whole_rises : (o : Settings) → keeping None o ≡ o → HasRising o.registered
whole_rises o none = subst HasRising (ap (λ (v : Settings). v.registered) none) tt

pub returns-clause-ends : goal.returns-clause-ends
returns-clause-ends g c =
    let none : keeping None c.args.options.now ≡ c.args.options.now = ap (keeping None) (sym c.options.view_is) ∙ c.options.view_is in
    runs_as _ _ c.args.table.now _ _ _ _ c.run_among.result none c.run_among.ensures.ends

pub returns-clause-headline : goal.returns-clause-headline
returns-clause-headline g c = λ asks.
    let none : keeping None c.args.options.now ≡ c.args.options.now = ap (keeping None) (sym c.options.view_is) ∙ c.options.view_is in
    headline c.args.options.now _ _ _ _ _ _ (whole_rises c.args.options.now none) asks c.requires.unread (returns-clause-ends g c)

pub returns-clause-listing : goal.returns-clause-listing
returns-clause-listing g c = λ table label given registrable. variants_answer-IsListing c.args.options.now table label (sound_table table (formed c.args.options.now.properties c.args.options.now.notation c.args.table.now table given)) (whole_rises c.args.options.now (ap (keeping None) (sym c.options.view_is) ∙ c.options.view_is)) registrable

pub returns-clause-jump : goal.returns-clause-jump
returns-clause-jump g c = c.run_among.ensures.jump

pub returns-clause-check : goal.returns-clause-check
returns-clause-check g c = c.run_among.ensures.check
