use Rattle.std.proofs.Common.{rules}
use Rattle.reading_kinds.proofs.DraftLemmas.{IsKept-ended}
use Rattle.reading_kinds.proofs.substitutions_draft.SubstitutionsDraft.end_place.Goals as goal

pub invariant_of-self-2 : goal.invariant_of-self-2
invariant_of-self-2 c = IsKept-ended c.self.inside.points.items c.self.inside.substitutions.items c.self.inside.places.items c.self.inside.longest c.self.inside.start c.self.invariant.0 c.self.invariant.1 c.push.new.self.items c.len-end.result (search rules) c.in_ok-push.ensures.items
