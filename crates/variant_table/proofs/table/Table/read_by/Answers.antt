use Rattle.std.proofs.Common.{subst, sym, ◌∙◌}
use Rattle.variant_table.specs.Entries.{TableValue}
use Rattle.variant_table.specs.Texts.{IsTextOf}
use Rattle.variant_table.specs.Canonical.{table_text}
use Rattle.variant_table.specs.Versions.{notation_of}
use Rattle.variant_table.specs.inner.Drafts.{draft_table}
use Rattle.variant_table.proofs.FaultlessLemmas.{read_text}
use Rattle.variant_table.proofs.TextLemmas.{told_of, memory_alone, one_table}
use Rattle.variant_table.proofs.CanonicalLemmas.{canonical_spelled}
use Rattle.variant_table.proofs.table.Table.read_by.Goals as goal

pub returns-in-Err-clause-fault : goal.returns-in-Err-clause-fault
returns-in-Err-clause-fault c = told_of c.args.properties c.args.notation c.args.text.now c.in-Err.refusal.fault c.in-Err.ensures.read

pub returns-in-Err-clause-canonical : goal.returns-in-Err-clause-canonical
returns-in-Err-clause-canonical c = λ table h same named is.
    memory_alone c.args.properties c.args.notation c.args.text.now table c.in-Err.refusal.fault (rw is (rw named (subst (λ p. IsTextOf p (notation_of table.version) (table_text table.version table.definitions table.entries) table) same (canonical_spelled table h)))) c.in-Err.ensures.read

pub of_draft-requires : goal.of_draft-requires
of_draft-requires c =
    (read_text c.args.properties c.args.notation c.args.text.now (draft_table c.in-Ok.draft) c.in-Ok.ensures.read).lines.well_formed

pub returns-in-Ok-clause-table : goal.returns-in-Ok-clause-table
returns-in-Ok-clause-table c =
    subst (λ (t : TableValue). IsTextOf c.args.properties c.args.notation c.args.text.now t) (sym c.of_draft.ensures)
    (read_text c.args.properties c.args.notation c.args.text.now (draft_table c.in-Ok.draft) c.in-Ok.ensures.read)

pub returns-in-Ok-clause-canonical : goal.returns-in-Ok-clause-canonical
returns-in-Ok-clause-canonical c = λ table h same named is.
    let read : TableValue = draft_table c.in-Ok.draft in
    c.of_draft.ensures
    ∙ one_table c.args.properties c.args.notation c.args.text.now read table (read_text c.args.properties c.args.notation c.args.text.now read c.in-Ok.ensures.read) (rw is (rw named (subst (λ p. IsTextOf p (notation_of table.version) (table_text table.version table.definitions table.entries) table) same (canonical_spelled table h))))
