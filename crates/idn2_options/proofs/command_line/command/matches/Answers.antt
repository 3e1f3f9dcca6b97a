use Rattle.std.proofs.lemmas.Result.{IfOk-weaker}
use Rattle.idn2_options.proofs.AppLemmas.{FailsBy-app, rows_of-app}
use Rattle.idn2_options.proofs.command_line.command.matches.Goals as goal

pub returns-clause-ok : goal.returns-clause-ok
returns-clause-ok c =
    IfOk-weaker c.try_get_matches_from.result _ _ (λ m has. rows_of-app _ _ m c.in_ok-command.ensures has)
    c.try_get_matches_from.ensures.matches

pub returns-clause-fault : goal.returns-clause-fault
returns-clause-fault c =
    FailsBy-app _ _ c.try_get_matches_from.result c.in_ok-command.ensures c.try_get_matches_from.ensures.kinds
