use Rattle.lgr_table.proofs.mapped.check_points.Given as goal

abbrev pub invariant-loop-variant : goal.invariant-loop-variant
invariant-loop-variant l = Unit {0}
