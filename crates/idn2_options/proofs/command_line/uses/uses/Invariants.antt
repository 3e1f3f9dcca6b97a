use Rattle.std.proofs.Common.{◌≡◌, ◌++◌, length, map}
use Rattle.std.specs.Prelude.{string_bytes}
use Rattle.idn2_options.specs.Uses.{uses_in}
use Rattle.idn2_options.specs.inner.Shown.{use_of}
use Rattle.idn2_options.proofs.command_line.uses.uses.Given as goal

abbrev pub invariant-loop-word : goal.invariant-loop-word
invariant-loop-word l = map use_of l.uses.items ++ uses_in (map string_bytes l.left) ≡ uses_in (map string_bytes l.words)

abbrev pub decreases-loop-word : goal.decreases-loop-word
decreases-loop-word l = length l.left
