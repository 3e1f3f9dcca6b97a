use Rattle.std.proofs.Common.{◌≡◌, []}
use Rattle.variant_list.specs.Arising.{table_for}
use Rattle.variant_list.specs.Substitutions.{substitutions_from}
use Rattle.variant_list.proofs.substitutions.Substitutions.found.Given as goal

-- the substitutions of the places so far
abbrev pub invariant-loop-place : goal.invariant-loop-place
invariant-loop-place l = l.draft ≡ record { done = substitutions_from (table_for l.self.cuts l.self.table.now) l.self.label.now 0 l.place; begun = [] }
