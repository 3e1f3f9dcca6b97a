use Rattle.std.proofs.Common.{◌≡◌, false, take, Some}
use Rattle.std.specs.Prelude.{slice_get}
use Rattle.variant_table.specs.Conditions.{stands_in}
use Rattle.variant_table.specs.Entries.{Variant, entry_from, full_replacements}
use Rattle.variant_table.proofs.checks.stands_before.Given as goal

-- it is none of those so far
abbrev pub invariant-loop-other : goal.invariant-loop-other
invariant-loop-other l = (v : Variant) → slice_get l.sequences l.number ≡ Some v → stands_in (take l.other (full_replacements (entry_from l.sequences))) v ≡ false
