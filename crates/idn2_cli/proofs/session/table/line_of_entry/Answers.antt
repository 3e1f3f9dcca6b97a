use Rattle.std.proofs.Common.{sym, ◌∙◌}
use Rattle.idn2_cli.proofs.TableLemmas.{table_in_lines}
use Rattle.idn2_cli.proofs.session.table.line_of_entry.Goals as goal

pub line_of_entry-requires-clause-text : goal.line_of_entry-requires-clause-text
line_of_entry-requires-clause-text c =
    table_in_lines _ c.args.notation c.args.text.now c.args.table.now (sym c.is_in_xml.ensures ∙ c.if-is_in_xml.false) c.requires.given
