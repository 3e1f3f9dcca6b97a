use Rattle.std.proofs.Common.{Some, None, sym, ap, subst, ◌∙◌}
use Rattle.ruleset_text.specs.PlacedLexemes.{unplaced}
use Rattle.variant_table.specs.Entries.{TableValue}
use Rattle.variant_table.specs.LinePlaces.{definition_line}
use Rattle.variant_table.specs.inner.Readers.{ReadSoFar}
use Rattle.variant_table.specs.inner.ReadingSteps.{Leaves}
use Rattle.variant_table.proofs.FormLemmas.{with_line-defines, with_line-plain}
use Rattle.variant_table.proofs.LinePlaceLemmas.{keyword_placed}
use Rattle.variant_table.proofs.reading.Reader.add_line.Goals as goal

pub returns-in-Some-clause-read : goal.returns-in-Some-clause-read
returns-in-Some-clause-read c =
    let t : TableValue = c.args.self.now.table in
    let found = keyword_placed t.version c.args.line.now (Some c.in-Some.defining)
    (sym c.in-Some.is ∙ c.definition_line.ensures.line
    ∙ ap (λ (r : ReadSoFar). definition_line r.table.version c.args.line.now) c.self.view_is) in
    subst (Leaves c.args.number c.add_definition.result c.add_definition.new.self.table)
    (sym (with_line-defines t c.args.line.now c.in-Some.defining.keyword (unplaced c.in-Some.defining.after)
    (sym c.is_skipped.ensures ∙ c.if-is_skipped.false) found))
    c.add_definition.ensures.read

pub returns-clause-read : goal.returns-clause-read
returns-clause-read c =
    let t : TableValue = c.args.self.now.table in
    let found = keyword_placed t.version c.args.line.now None
    (sym c.in_default.is ∙ c.definition_line.ensures.line
    ∙ ap (λ (r : ReadSoFar). definition_line r.table.version c.args.line.now) c.self.view_is) in
    subst (Leaves c.args.number c.add_entries.result c.add_entries.new.self.table)
    (sym (with_line-plain t c.args.line.now (sym c.is_skipped.ensures ∙ c.if-is_skipped.false) found))
    c.add_entries.ensures.read
