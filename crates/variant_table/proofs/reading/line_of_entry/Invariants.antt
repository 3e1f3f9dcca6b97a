use Rattle.std.proofs.Common.{◌≡◌, ◌+◌, ◌≤◌, length}
use Rattle.variant_table.specs.inner.Readers.{IsCountedIn}
use Rattle.variant_table.specs.Limits.{text_limit}
use Rattle.variant_table.specs.Reading.{with_lines, table_of_text}
use Rattle.variant_table.proofs.EntryLines.{HasReadTo}
use Rattle.variant_table.proofs.reading.line_of_entry.Given as goal

-- reading goes on as it does from the start, and the entry didn't come yet
abbrev pub invariant-loop-line : goal.invariant-loop-line
invariant-loop-line l = record {
  same : with_lines (l.number + 1) l.bytes l.reader.table l.line-iterator ≡ table_of_text l.fn.properties l.fn.notation l.text;
  to_here : HasReadTo l.fn.properties l.fn.notation l.text l.number l.reader.table l.line-iterator;
  not_yet : length l.reader.table.entries ≤ l.entry;
  within : l.bytes ≤ text_limit l.reader.table.version;
  counted : l.number ≤ l.bytes;
  left : IsCountedIn l.reader;
}
