use Rattle.std.proofs.Common.{◌≡◌, ◌+◌, ◌≤◌}
use Rattle.variant_table.specs.FaultyLines.{faulty_line, first_faulty}
use Rattle.variant_table.specs.inner.Readers.{IsCountedIn}
use Rattle.variant_table.specs.Limits.{text_limit}
use Rattle.variant_table.specs.Reading.{with_lines, table_of_text}
use Rattle.variant_table.proofs.reading.read_text.Given as goal

-- reading goes on as it does from the start
abbrev pub invariant-loop-line : goal.invariant-loop-line
invariant-loop-line l = record {
  same : with_lines (l.number + 1) l.bytes l.reader.table l.line-iterator ≡ table_of_text l.fn.properties l.fn.notation
      l.text;
  faulty : first_faulty l.bytes l.reader.table l.line-iterator ≡ faulty_line l.fn.properties l.fn.notation l.text;
  within : l.bytes ≤ text_limit l.reader.table.version;
  counted : l.number ≤ l.bytes;
  left : IsCountedIn l.reader;
}
