use Rattle.std.proofs.Common.{◌≡◌, map, drop}
use Rattle.clap.specs.Words.{app_of}
use Rattle.idn2_options.specs.CommandLine.{with_rules}
use Rattle.idn2_options.specs.inner.Known.{known_rule}
use Rattle.idn2_options.proofs.command_line.command.with_options.Given as goal

-- with the options that are left, it is the whole
abbrev pub invariant-loop-option : goal.invariant-loop-option
invariant-loop-option l =
    with_rules (app_of l.command) (map known_rule (drop l.option-index l.options))
    ≡ with_rules (app_of l.initial.command) (map known_rule l.options)
