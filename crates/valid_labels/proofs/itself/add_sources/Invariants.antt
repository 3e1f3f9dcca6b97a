use Rattle.std.proofs.Common.{◌≡◌, map}
use Rattle.std.specs.List.{Contains, filter}
use Rattle.reading_kinds.specs.Drafts.{with_substitutions}
use Rattle.variant_table.specs.Entries.{Entry}
use Rattle.variant_table.specs.Staying.{may_stand, staying}
use Rattle.valid_labels.proofs.itself.add_sources.Given as goal

-- with the entries that are left it has all that stand
abbrev pub invariant-loop-entry : goal.invariant-loop-entry
invariant-loop-entry l = record {
  rest : (e : Entry) → Contains l.entry-iterator e → Contains l.initial.entry-iterator e;
  taken : with_substitutions l.draft (map staying (filter (may_stand l.table l.label l.place) l.entry-iterator)) ≡ with_substitutions l.fn.draft (map staying (filter (may_stand l.table l.label l.place) l.initial.entry-iterator));
}
