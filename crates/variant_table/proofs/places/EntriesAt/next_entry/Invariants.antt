use Rattle.std.proofs.Common.{◌≡◌, ◌-◌, ◌≤◌, length}
use Rattle.variant_table.specs.Places.{entries_longer}
use Rattle.variant_table.proofs.places.EntriesAt.next_entry.Given as goal

abbrev pub invariant-loop-self : goal.invariant-loop-self
invariant-loop-self l = record {
  same : entries_longer l.self-inside.entries.now l.self-inside.label.now l.self-inside.place l.self-inside.len ≡ l.fn.self;
  within : l.self-inside.place ≤ length l.self-inside.label.now;
  limited : l.self-inside.len ≤ 8;
}

abbrev pub decreases-loop-self : goal.decreases-loop-self
decreases-loop-self l = 8 - l.self-inside.len
