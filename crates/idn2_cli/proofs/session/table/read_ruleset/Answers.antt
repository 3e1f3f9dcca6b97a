use Rattle.std.proofs.Common.{true}
use Rattle.idn2_cli.proofs.TableLemmas.{given_by}
use Rattle.idn2_cli.proofs.session.table.read_ruleset.Goals as goal

pub returns-in-Ok-clause-table : goal.returns-in-Ok-clause-table
returns-in-Ok-clause-table c = given_by c.args.properties c.args.notation c.args.text.now true c.in-Ok.table c.requires c.in-Ok.ensures.table

pub returns-in-Ok-clause-well_formed : goal.returns-in-Ok-clause-well_formed
returns-in-Ok-clause-well_formed c = c.in-Ok.ensures.table.is.says.well_formed

pub returns-in-Ok-clause-by_these : goal.returns-in-Ok-clause-by_these
returns-in-Ok-clause-by_these c = c.in-Ok.ensures.table.is.says.by_these

pub returns-in-Err-clause-unread : goal.returns-in-Err-clause-unread
returns-in-Err-clause-unread c = (c.requires, c.in-Err.ensures.fault)
