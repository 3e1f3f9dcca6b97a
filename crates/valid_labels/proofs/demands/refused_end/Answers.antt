use Rattle.std.proofs.Common.{◌≡◌, ◌+◌, List, length, map, take, true, false, sym, ap, subst, ◌∙◌, arith}
use Rattle.std.proofs.lemmas.List.{take_all}
use Rattle.label_patterns.specs.Matches.{HasItsSets}
use Rattle.ruleset_text.specs.DemandTrees.{demand}
use Rattle.ruleset_text.specs.Definitions.{Demand}
use Rattle.valid_labels.specs.inner.Ends.{lesser_of}
use Rattle.valid_labels.proofs.DemandLemmas.{demand-at, demands-more, IsLeast, least-same, least-more}
use Rattle.valid_labels.proofs.demands.refused_end.Goals as goal
use Rattle.valid_labels.proofs.demands.refused_end.Goals.{then-is_refusing, else-is_refusing}

pub first_end-requires : goal.first_end-requires
first_end-requires c = demand-at (λ (d : Demand). HasItsSets (length c.args.seen.now.sets) d.pattern) c.args.demands.now c.loop-wanted.wanted-index c.wanted-item.result c.loop-wanted-test.true c.wanted-item.is c.requires

pub loop-wanted-preserved : goal.loop-wanted-preserved
loop-wanted-preserved c =
    let s = c.args.seen.now in
    let n = c.loop-wanted.wanted-index in
    let d = c.wanted-item.result in
    let before : List Demand = map demand (take n c.args.demands.now) in
    let more = demands-more c.args.demands.now n d c.loop-wanted-test.true c.wanted-item.is in
    elim c.if-is_refusing.branch [
      | then-is_refusing w ↦
          subst (IsLeast s (map demand (take (n + 1) c.args.demands.now))) (sym (w.least-is ∙ w.lesser-least.ensures)) (subst (λ ds. IsLeast s ds (lesser_of c.loop-wanted.least w.first_end.result)) (sym more)
          (least-more s before (demand d) c.loop-wanted.least w.first_end.result (c.is_refusing.ensures.0 w.if-is_refusing.true) w.first_end.ensures c.loop-wanted.invariant))
      | else-is_refusing w ↦
          subst (IsLeast s (map demand (take (n + 1) c.args.demands.now))) (sym w.least-is) (subst (λ ds. IsLeast s ds c.loop-wanted.least) (sym more)
          (least-same s before (demand d) c.loop-wanted.least (λ r. (let f : true ≡ false = sym (c.is_refusing.ensures.1 r) ∙ w.if-is_refusing.false in cc)) c.loop-wanted.invariant))
    ]

pub returns : goal.returns
returns c =
    let whole = take_all c.loop-wanted.wanted-index c.args.demands.now (omega (arith, c.loop-wanted-test.false)) in
    subst (λ ds. IsLeast c.args.seen.now ds c.loop-wanted.least) (ap (map demand) whole) c.loop-wanted.invariant
