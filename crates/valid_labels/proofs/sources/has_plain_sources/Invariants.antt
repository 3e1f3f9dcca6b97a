use Rattle.std.proofs.Common.{◌≡◌, None, take}
use Rattle.std.specs.List.{AllByRecursion}
use Rattle.valid_labels.proofs.sources.has_plain_sources.Given as goal

-- the sources so far have neither a condition nor a type
abbrev pub invariant-loop-number : goal.invariant-loop-number
invariant-loop-number l = AllByRecursion (λ e. e.condition ≡ None) (take l.number l.table.entries) × AllByRecursion (λ e. e.type ≡ None) (take l.number l.table.entries)
