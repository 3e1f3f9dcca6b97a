use Rattle.std.proofs.Common.{rules, arith, ◌+◌, ◌≤◌, ℕ, List, length, sym, ap, subst}
use Rattle.idn_text.specs.Lines.{raw_lines}
use Rattle.variant_table.specs.declared.version.Version.{Version}
use Rattle.variant_table.specs.Entries.{TableValue}
use Rattle.variant_table.specs.inner.Readers.{ReadSoFar}
use Rattle.variant_table.specs.Limits.{text_limit}
use Rattle.variant_table.specs.Reading.{table_of_text}
use Rattle.variant_table.specs.Versions.{head_of}
use Rattle.variant_table.proofs.EntryLines.{entry-here, entry-somewhere, reads-begin, reads-on}
use Rattle.variant_table.proofs.FaultlessLemmas.{head_within}
use Rattle.variant_table.proofs.ReadLemmas.{lines_begin, lines_counted, lines_end, lines_step, same_version}
use Rattle.variant_table.proofs.reading.line_of_entry.Goals as goal

pub loop-line-init : goal.loop-line-init
loop-line-init c =
    let lines : List (List ℕ) = raw_lines c.args.text.now in
    let version : Version = c.in-Some.head.version in
    record {
      same = lines_begin c.args.properties c.args.notation lines version c.in-Some.head.lines c.in-Some.head.bytes
          c.new-reader.result.table _
          c.in-Some.ensures.version c.in-Some.ensures.lines c.in-Some.ensures.bytes c.new-reader.ensures.table
          (search rules);
      to_here = reads-begin c.args.properties c.args.notation c.args.text.now version c.in-Some.head.lines
          c.new-reader.result.table _ c.in-Some.ensures.version c.in-Some.ensures.lines c.new-reader.ensures.table
          (search rules);
      not_yet = omega (arith, ap (λ (t : TableValue). length t.entries) c.new-reader.ensures.table);
      within = subst (λ (t : TableValue). c.in-Some.head.bytes ≤ text_limit t.version) (sym c.new-reader.ensures.table)
          (omega (arith, c.in-Some.ensures.bytes, head_within c.args.notation version lines));
      counted = omega (
        arith,
        c.in-Some.ensures.lines,
        c.in-Some.ensures.bytes,
        lines_counted
            (head_of c.args.notation lines),
      );
      left = c.new-reader.ensures.counted;
    }

pub returns-then-len-entry : goal.returns-then-len-entry
returns-then-len-entry c = λ table spells.
    let entries : ℕ = length c.add_raw_line.new.self.table.entries in
    entry-here c.args.properties c.args.notation c.args.text.now c.loop-line.bytes c.loop-line.number
    c.loop-line.reader.table c.add_raw_line.new.self.table c.in-Some-line.line.now c.next.new.self
    c.loop-line.line-iterator c.in-Some-line.ensures.steps c.loop-line.invariant.to_here
    c.in_default-add_raw_line.ensures.read table c.args.entry spells c.loop-line.invariant.not_yet
    (omega (arith, c.if-len-entry.true, c.len.ensures, ap (λ (r : ReadSoFar). length r.table.entries) c.reader.view_is))

pub loop-line-preserved : goal.loop-line-preserved
loop-line-preserved c =
    let t : TableValue = c.loop-line.reader.table in
    let u : TableValue = c.add_raw_line.new.self.table in
    let version = same_version c.loop-line.bytes t u c.in-Some-line.line.now c.in_default-add_raw_line.ensures.read in
    record {
      same = lines_step (c.loop-line.number + 1) c.loop-line.bytes t c.in-Some-line.line.now c.next.new.self
          c.loop-line.line-iterator (table_of_text c.args.properties c.args.notation c.args.text.now)
          c.in-Some-line.ensures.steps c.loop-line.invariant.same u c.in_default-add_raw_line.ensures.read;
      to_here = reads-on c.args.properties c.args.notation c.args.text.now c.loop-line.bytes c.loop-line.number t u
          c.in-Some-line.line.now c.next.new.self c.loop-line.line-iterator c.in-Some-line.ensures.steps
          c.loop-line.invariant.to_here c.in_default-add_raw_line.ensures.read;
      not_yet = omega (arith, c.if-len-entry.false, c.len.ensures, ap (λ (r : ReadSoFar). length r.table.entries) c.reader.view_is);
      within = subst (λ v. c.loop-line.bytes + (length c.in-Some-line.line.now + 1) ≤ text_limit v) (sym version)
          (omega (arith, c.in_default-add_raw_line.ensures.within));
      counted = omega (arith, c.loop-line.invariant.counted);
      left = c.in_default-add_raw_line.ensures.counted;
    }

pub unreachable-requires-2 : goal.unreachable-requires-2
unreachable-requires-2 c =
    let t : TableValue = c.loop-line.reader.table in
    let read = lines_end (c.loop-line.number + 1) c.loop-line.bytes t c.loop-line.line-iterator
    (table_of_text c.args.properties c.args.notation c.args.text.now) c.in-None.ensures.steps.0 c.loop-line.invariant.same in
    entry-somewhere c.args.properties c.args.notation c.args.text.now c.requires.0 t c.args.entry c.requires.1 c.requires.2 read c.loop-line.invariant.not_yet
