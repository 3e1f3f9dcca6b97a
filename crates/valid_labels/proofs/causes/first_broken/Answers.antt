use Rattle.std.proofs.Common.{◌+◌, length, map, drop, sym, ap, ◌∙◌}
use Rattle.label_patterns.specs.Matches.{HasItsSets}
use Rattle.ruleset_text.specs.DemandTrees.{demand}
use Rattle.ruleset_text.specs.Definitions.{Demand}
use Rattle.valid_labels.specs.Causes.{broken_from}
use Rattle.valid_labels.proofs.CauseLemmas.{met-test, rest-demands, broken-here, broken-later}
use Rattle.valid_labels.proofs.DemandLemmas.{demand-at}
use Rattle.valid_labels.proofs.causes.first_broken.Goals as goal

pub is_met-requires : goal.is_met-requires
is_met-requires c = demand-at (λ (d : Demand). HasItsSets (length c.args.seen.now.sets) d.pattern) c.args.demands.now c.loop-number.number c.index-demands-number.result c.loop-number-test.true c.index-demands-number.is c.requires

pub returns-then-not-is_met : goal.returns-then-not-is_met
returns-then-not-is_met c =
    let s = c.args.seen.now in
    let n = c.loop-number.number in
    let d = c.index-demands-number.result in
    let rest = rest-demands c.args.demands.now n d c.loop-number-test.true c.index-demands-number.is in
    let test = met-test s (demand d) c.is_met.result c.is_met.ensures in
    sym (c.loop-number.invariant ∙ ap (broken_from s n) rest ∙ broken-here s n (demand d) (map demand (drop (n + 1) c.args.demands.now)) (sym test ∙ c.if-not-is_met.true))

pub loop-number-preserved : goal.loop-number-preserved
loop-number-preserved c =
    let s = c.args.seen.now in
    let n = c.loop-number.number in
    let d = c.index-demands-number.result in
    let rest = rest-demands c.args.demands.now n d c.loop-number-test.true c.index-demands-number.is in
    let test = met-test s (demand d) c.is_met.result c.is_met.ensures in
    c.loop-number.invariant ∙ ap (broken_from s n) rest ∙ broken-later s n (demand d) (map demand (drop (n + 1) c.args.demands.now)) (sym test ∙ c.if-not-is_met.false)
