use Rattle.std.proofs.Common.{ap, drop, map, sym, ◌+◌, ◌∙◌}
use Rattle.std.proofs.lemmas.List.{at_drop_all, at_drop_more}
use Rattle.clap.specs.Words.{app_of, with_rule}
use Rattle.idn2_options.specs.CommandLine.{with_rules}
use Rattle.idn2_options.specs.inner.Known.{known_rule}
use Rattle.idn2_options.proofs.AppLemmas.{with_rules-cons, with_rules-nil}
use Rattle.idn2_options.proofs.command_line.command.with_options.Goals as goal

pub loop-option-preserved : goal.loop-option-preserved
loop-option-preserved c =
    let at = c.loop-option in
    let old = app_of at.command in
    let rest = map known_rule (drop (at.option-index + 1) c.args.options.now) in
    let added = c.in_ok-command.ensures.shape c.argument.ensures.local ∙ ap (with_rule old) c.argument.ensures.rule in
    ap (λ a. with_rules a rest) added ∙ with_rules-cons old _ rest
    ∙ sym (at_drop_more (λ left. with_rules old (map known_rule left)) c.args.options.now at.option-index _ c.loop-option-test.true)
    ∙ at.invariant

pub returns : goal.returns
returns c =
    let at = c.loop-option in
    let last = app_of at.command in
    sym (at_drop_all (λ left. with_rules last (map known_rule left)) c.args.options.now at.option-index c.loop-option-test.false ∙ with_rules-nil last)
    ∙ at.invariant
