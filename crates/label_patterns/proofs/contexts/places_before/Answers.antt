use Rattle.label_patterns.specs.Trees.{pattern}
use Rattle.label_patterns.proofs.ContextLemmas.{from-all}
use Rattle.label_patterns.proofs.contexts.places_before.Goals as goal

pub returns : goal.returns
returns c = from-all (pattern c.args.context.now) c.args.seen.now c.len.result c.all_places.result c.places_from.result c.len.ensures.is c.all_places.ensures c.places_from.ensures
