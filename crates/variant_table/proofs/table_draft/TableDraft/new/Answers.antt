use Rattle.std.proofs.Common.{sym, subst, ap, ◌∙◌}
use Rattle.ruleset_text.specs.Definitions.{Definitions, nothing_defined}
use Rattle.variant_table.specs.Entries.{table_of}
use Rattle.variant_table.specs.inner.Held.{IsCounted}
use Rattle.variant_table.proofs.table_draft.TableDraft.new.Goals as goal

pub returns-clause-table : goal.returns-clause-table
returns-clause-table c =
    ap (λ (d : Definitions). table_of c.args.version d c.new-2.result) c.new.ensures
    ∙ ap (table_of c.args.version (nothing_defined c.args.properties)) c.new-2.ensures

pub returns-clause-counted : goal.returns-clause-counted
returns-clause-counted c =
    subst (λ d. IsCounted c.args.version d c.left_after_head.result c.new-2.result) (sym c.new.ensures)
    (subst (λ es. IsCounted c.args.version (nothing_defined c.args.properties) c.left_after_head.result es)
    (sym c.new-2.ensures) (c.left_after_head.ensures c.args.properties))
