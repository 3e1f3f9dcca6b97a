use Rattle.std.proofs.Common.{ap, subst, ◌∙◌}
use Rattle.std.specs.Prelude.{MatchOption}
use Rattle.ruleset_text.specs.Definitions.{Definitions}
use Rattle.valid_labels.specs.inner.Ends.{IsRefusedAt, NoneRefuses}
use Rattle.valid_labels.proofs.dead_prefix.refused_by.Goals as goal

pub returns : goal.returns
returns c =
    let s = c.args.seen.now in
    let same = c.demands-demands.ensures.is ∙ ap (λ (d : Definitions). d.demands) c.definitions.ensures.is in
    subst (λ ds. MatchOption c.refused_end.result (NoneRefuses s ds) (IsRefusedAt s ds)) same c.refused_end.ensures
