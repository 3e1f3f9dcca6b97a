use Rattle.std.proofs.Common.{◌≡◌, drop, take}
use Rattle.variant_table.specs.Conditions.{first_again, given_again}
use Rattle.variant_table.specs.Entries.{entry_from, full_replacements}
use Rattle.variant_table.proofs.checks.given_again.Given as goal

-- the first is still to be found
abbrev pub invariant-loop-number : goal.invariant-loop-number
invariant-loop-number l = first_again (take l.number (full_replacements (entry_from l.sequences))) (drop l.number (full_replacements (entry_from l.sequences))) ≡ given_again (entry_from l.sequences)
