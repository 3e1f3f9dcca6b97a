use Rattle.std.proofs.Common.{◌≡◌, ◌⊎◌, Option, inl, inr, rules, arith, ◌+◌, ◌≤◌, ℕ, List, length, Some, Ok, sym, ap}
use Rattle.std.proofs.Common.{subst, ◌∙◌}
use Rattle.idn_text.specs.Lines.{raw_lines}
use Rattle.variant_table.specs.declared.version.Version.{Version}
use Rattle.variant_table.specs.Entries.{TableValue}
use Rattle.variant_table.specs.FaultyLines.{FaultyLine, at_line, faulty_line, line_of, place_in}
use Rattle.variant_table.specs.declared.fault.TableFault.{TableFault}
use Rattle.variant_table.specs.declared.fault.TableFault.TheVariants.{Memory, Syntax}
use Rattle.variant_table.specs.inner.Readers.{ReadSoFar}
use Rattle.variant_table.specs.Limits.{text_limit}
use Rattle.variant_table.specs.Versions.{head_of}
use Rattle.variant_table.specs.Reading.{table_of_text}
use Rattle.variant_table.proofs.FaultlessLemmas.{head_within}
use Rattle.variant_table.proofs.ReadLemmas.{faulty_begins, faulty_later, faulty_lacks, line_faulty, lines_begin}
use Rattle.variant_table.proofs.ReadLemmas.{lines_lack, lines_counted, lines_step, lines_fail, lines_end, same_version}
use Rattle.variant_table.proofs.reading.read_text.Goals as goal

pub loop-line-init : goal.loop-line-init
loop-line-init c =
    let lines : List (List ℕ) = raw_lines c.args.text.now in
    let version : Version = c.in-Some.head.version in
    record {
      faulty = faulty_begins c.args.properties c.args.notation c.args.text.now version c.in-Some.head.bytes
          c.new-reader.result.table _
          c.in-Some.ensures.version c.in-Some.ensures.bytes c.new-reader.ensures.table (search rules);
      same = lines_begin c.args.properties c.args.notation lines version c.in-Some.head.lines c.in-Some.head.bytes
          c.new-reader.result.table _
          c.in-Some.ensures.version c.in-Some.ensures.lines c.in-Some.ensures.bytes c.new-reader.ensures.table
          (search rules);
      within = subst (λ (t : TableValue). c.in-Some.head.bytes ≤ text_limit t.version) (sym c.new-reader.ensures.table)
          (omega (arith, c.in-Some.ensures.bytes, head_within c.args.notation version lines));
      counted = omega (
        arith,
        c.in-Some.ensures.lines,
        c.in-Some.ensures.bytes,
        lines_counted
            (head_of c.args.notation lines),
      );
      left = c.new-reader.ensures.counted;
    }

pub returns-in-Err-clause-read : goal.returns-in-Err-clause-read
returns-in-Err-clause-read c =
    let t : TableValue = c.loop-line.reader.table in
    lines_fail (c.loop-line.number + 1) c.loop-line.bytes t c.in-Some-line.line.now c.next.new.self
    c.loop-line.line-iterator (table_of_text c.args.properties c.args.notation c.args.text.now)
    c.in-Some-line.ensures.steps c.loop-line.invariant.same c.in-Err.refused.fault c.in-Err.ensures.read

pub returns-in-Err-clause-line : goal.returns-in-Err-clause-line
returns-in-Err-clause-line c = by told
  where
    t : TableValue
    t = c.loop-line.reader.table

    line : List ℕ
    line = c.in-Some-line.line.now

    fault : TableFault
    fault = c.in-Err.refused.fault

    whole : Option FaultyLine
    whole = faulty_line c.args.properties c.args.notation c.args.text.now

    bytes : ℕ
    bytes = c.loop-line.bytes

    told : (fault ≡ Memory) ⊎ (Some (at_line bytes t line) ≡ whole)
    told =
        line_faulty (c.loop-line.number + 1) c.loop-line.bytes t line c.next.new.self c.loop-line.line-iterator
        (table_of_text c.args.properties c.args.notation c.args.text.now)
        c.in-Some-line.ensures.steps c.loop-line.invariant.same fault whole c.loop-line.invariant.faulty
        c.in-Err.ensures.read

    by : (fault ≡ Memory) ⊎ (Some (at_line bytes t line) ≡ whole)
        → (fault ≡ Memory) ⊎ ((Some line ≡ line_of (faulty_line c.args.properties c.args.notation c.args.text.now)) ×
        (c.in-Err.refused.place ≡ place_in fault (faulty_line c.args.properties c.args.notation c.args.text.now)))
    by (inl memory) = inl memory
    by (inr is) = inr (ap line_of is, c.in-Err.ensures.place ∙ ap (place_in fault) is)

pub loop-line-preserved : goal.loop-line-preserved
loop-line-preserved c =
    let t : TableValue = c.loop-line.reader.table in
    let u : TableValue = c.add_raw_line.new.self.table in
    let version = same_version c.loop-line.bytes t u c.in-Some-line.line.now c.in_default-add_raw_line.ensures.read in
    record {
      same = lines_step (c.loop-line.number + 1) c.loop-line.bytes t c.in-Some-line.line.now c.next.new.self
          c.loop-line.line-iterator (table_of_text c.args.properties c.args.notation c.args.text.now)
          c.in-Some-line.ensures.steps c.loop-line.invariant.same u c.in_default-add_raw_line.ensures.read;
      faulty = faulty_later (c.loop-line.number + 1) c.loop-line.bytes t c.in-Some-line.line.now c.next.new.self
          c.loop-line.line-iterator (table_of_text c.args.properties c.args.notation c.args.text.now)
          c.in-Some-line.ensures.steps c.loop-line.invariant.same u
          (faulty_line c.args.properties c.args.notation c.args.text.now) c.loop-line.invariant.faulty
          c.in_default-add_raw_line.ensures.read;
      within = subst (λ v. c.loop-line.bytes + (length c.in-Some-line.line.now + 1) ≤ text_limit v) (sym version)
          (omega (arith, c.in_default-add_raw_line.ensures.within));
      counted = omega (arith, c.loop-line.invariant.counted);
      left = c.in_default-add_raw_line.ensures.counted;
    }

pub returns-clause-read : goal.returns-clause-read
returns-clause-read c =
    lines_end (c.loop-line.number + 1) c.loop-line.bytes c.loop-line.reader.table c.loop-line.line-iterator
    (table_of_text c.args.properties c.args.notation c.args.text.now) c.in-None.ensures.steps.0
    c.loop-line.invariant.same
    ∙ ap (λ (r : ReadSoFar). Ok r.table) (sym c.reader-2.view_is)

pub returns-in_default-clause-read : goal.returns-in_default-clause-read
returns-in_default-clause-read c = lines_lack c.args.properties c.args.notation
    (raw_lines c.args.text.now) c.in_default.ensures.version

pub returns-in_default-clause-line : goal.returns-in_default-clause-line
returns-in_default-clause-line c =
    let lacks = faulty_lacks c.args.properties c.args.notation c.args.text.now c.in_default.ensures.version in
    inr (ap line_of lacks, ap (place_in (Syntax 1)) lacks)
