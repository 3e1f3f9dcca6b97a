use Rattle.std.proofs.Common.{◌∙◌, ap, sym}
use Rattle.idn2_options.specs.Settings.{Settings}
use Rattle.idn2_output.proofs.WrittenOutputLines.{writes_nothing}
use Rattle.idn2_cli.proofs.CollisionSteps.{ending-named, ending-none, ending-plain}
use Rattle.idn2_cli.proofs.modes.collisions.write_ending.Goals as goal

pub returns-then-not-options-clause-written : goal.returns-then-not-options-clause-written
returns-then-not-options-clause-written g c =
    rw (ending-plain c.args.options.now c.args.label.now c.args.registered.now c.args.found.now c.options.inside.limit (ap (λ (s : Settings). s.limit) c.options.view_is) (sym (ap (λ (s : Settings). s.others) c.options.view_is) ∙ c.if-not-options.true))
    c.write_end_of.ensures.written

pub returns-then-is_empty-clause-written : goal.returns-then-is_empty-clause-written
returns-then-is_empty-clause-written g c =
    rw (ending-none c.args.options.now c.args.label.now c.args.registered.now c.args.found.now c.options.inside.limit (ap (λ (s : Settings). s.limit) c.options.view_is) (sym (ap (λ (s : Settings). s.others) c.options.view_is) ∙ c.if-not-options.false) (sym c.is_empty.ensures ∙ c.if-is_empty.true))
    (writes_nothing _)

pub returns-clause-written : goal.returns-clause-written
returns-clause-written g c =
    rw (ending-named c.args.options.now c.args.label.now c.args.registered.now c.args.found.now c.options.inside.limit (ap (λ (s : Settings). s.limit) c.options.view_is) (sym (ap (λ (s : Settings). s.others) c.options.view_is) ∙ c.if-not-options.false) (sym c.is_empty.ensures ∙ c.if-is_empty.false))
    c.write_named_end.ensures.written
