use Rattle.std.proofs.Common.{◌≡◌, length, true, false, sym, ◌∙◌}
use Rattle.label_patterns.specs.Matches.{HasItsSets}
use Rattle.ruleset_text.specs.Definitions.{Demand}
use Rattle.valid_labels.specs.Demands.{IsMet}
use Rattle.valid_labels.proofs.DemandLemmas.{demand-at}
use Rattle.valid_labels.proofs.demands.are_met.Goals as goal

pub is_met-requires : goal.is_met-requires
is_met-requires c = demand-at (λ (d : Demand). HasItsSets (length c.args.seen.now.sets) d.pattern) c.args.demands.now c.loop-wanted.wanted-index c.wanted-item.result c.loop-wanted-test.true c.wanted-item.is c.requires

pub returns-then-not-is_met : goal.returns-then-not-is_met
returns-then-not-is_met c = (
  λ h. absurd (let f : false ≡ true = h in cc),
  λ all.
      let one = demand-at (IsMet c.args.seen.now) c.args.demands.now c.loop-wanted.wanted-index c.wanted-item.result c.loop-wanted-test.true c.wanted-item.is all in
      absurd (let f : true ≡ false = sym (c.is_met.ensures.1 one) ∙ c.if-not-is_met.true in cc),
)
