use Rattle.label_patterns.specs.Trees.{pattern}
use Rattle.label_patterns.proofs.DemandLemmas.{occurs-some, occurs-none, some-from, some-to}
use Rattle.label_patterns.proofs.demands.occurs.Goals as goal

pub returns : goal.returns
returns c =
    let p = pattern c.args.tree.now in
    let s = c.args.seen.now in (
      λ h. occurs-some p s c.len.result c.all_places.result c.ends.result c.len.ensures.is c.all_places.ensures c.ends.ensures c.ends.type_inv (some-from c.ends.result h),
      λ h. some-to c.ends.result (λ none. occurs-none p s c.len.result c.all_places.result c.ends.result c.len.ensures.is c.all_places.ensures c.ends.ensures none h),
    )
