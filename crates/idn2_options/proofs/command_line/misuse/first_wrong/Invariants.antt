use Rattle.std.proofs.Common.{◌≡◌, [], drop, map, take}
use Rattle.clap.specs.Words.{built}
use Rattle.idn2_options.specs.CommandLine.{app}
use Rattle.idn2_options.specs.Uses.{first_wrong}
use Rattle.idn2_options.specs.inner.Shown.{use_of}
use Rattle.idn2_options.proofs.command_line.misuse.first_wrong.Given as goal

abbrev pub invariant-loop-place : goal.invariant-loop-place
invariant-loop-place l =
    first_wrong (built app).top.rules (map use_of (take l.place l.uses)) (map use_of (drop l.place l.uses)) ≡ first_wrong (built app).top.rules [] (map use_of l.uses)
