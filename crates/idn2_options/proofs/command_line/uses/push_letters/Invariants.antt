use Rattle.std.proofs.Common.{◌≡◌, ◌++◌, map}
use Rattle.std.specs.Prelude.{option_map}
use Rattle.idn2_options.specs.inner.Shown.{use_of, uses_by_letters}
use Rattle.idn2_options.proofs.command_line.uses.push_letters.Given as goal

abbrev pub invariant-loop-letter : goal.invariant-loop-letter
invariant-loop-letter l = map use_of l.uses.items ≡ map use_of l.initial.uses.items ++ uses_by_letters l.yielded (option_map (λ text. text.now) l.next)
