use Rattle.std.proofs.Common.{subst}
use Rattle.idn2_cli.specs.inner.UnreadTables.{IsUnreadAs}
use Rattle.idn2_cli.specs.declared.session.table.Unread.{Unread}
use Rattle.idn2_cli.specs.declared.session.table.Unread.TheVariants.{Lines, Ruleset}
use Rattle.idn2_cli.proofs.TableLemmas.{tells_lines}
use Rattle.idn2_cli.proofs.session.table.refuse_unread.Goals as goal

pub returns-in-Lines : goal.returns-in-Lines
returns-in-Lines g c = λ properties notation unread.
    let is : IsUnreadAs properties notation c.args.text.now (Lines c.in-Lines.refusal) =
    subst (λ (u : Unread). IsUnreadAs properties notation c.args.text.now u) c.in-Lines.is unread in
    tells_lines c.args.form c.args.wanted properties notation c.args.text.now _ _ c.refuse_table.result c.in-Lines.refusal.fault is.0 is.1
    (c.refuse_table.ensures.told properties notation is.2) c.refuse_table.ensures.status

pub returns-in-Ruleset : goal.returns-in-Ruleset
returns-in-Ruleset g c = λ properties notation unread.
    let is : IsUnreadAs properties notation c.args.text.now (Ruleset c.in-Ruleset.error) =
    subst (λ (u : Unread). IsUnreadAs properties notation c.args.text.now u) c.in-Ruleset.is unread in
    c.refuse_ruleset.ensures c.args.wanted properties notation c.args.text.now is.0 is.1
