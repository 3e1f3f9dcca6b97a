use Rattle.std.proofs.Common.{rules, ◌≡◌, [], ◌∷◌, ◌++◌, subst}
use Rattle.reading_kinds.proofs.DraftLemmas.{IsKept-begun, IsKept-added, draft_of, draft_of-added}
use Rattle.reading_kinds.proofs.substitutions_draft.SubstitutionsDraft.add.Goals as goal

pub invariant_of-self-in_err-push : goal.invariant_of-self-in_err-push
invariant_of-self-in_err-push c =
    IsKept-begun c.self.inside.points.items c.self.inside.substitutions.items c.self.inside.places.items c.self.inside.longest c.self.inside.start c.self.invariant.0 c.self.invariant.1
    c.args.points.now c.extend_from_slice.new.self.items c.push.new.self.items c.in_ok-extend_from_slice.ensures.items c.in_err-push.ensures.items

pub invariant_of-self-2 : goal.invariant_of-self-2
invariant_of-self-2 c =
    IsKept-added c.self.inside.points.items c.self.inside.substitutions.items c.self.inside.places.items c.self.inside.longest c.self.inside.start c.self.invariant.0 c.self.invariant.1
    c.args.covers c.args.kinds c.len-start.result c.len-end.result c.args.points.now c.extend_from_slice.new.self.items c.push.new.self.items c.in_ok-extend_from_slice.ensures.items c.in_ok-push.ensures.items (search rules) (search rules)
    c.max-self-inside.result c.max-self-inside.ensures

pub returns : goal.returns
returns c =
    subst (λ v. draft_of c.extend_from_slice.new.self.items c.push.new.self.items c.self.inside.places.items c.self.inside.start ≡ record { done = v.done; begun = v.begun ++ record { covers = c.args.covers; kinds = c.args.kinds; points = c.args.points.now } ∷ [] }) c.self.view_is
    (draft_of-added c.self.inside.points.items c.self.inside.substitutions.items c.self.inside.places.items c.self.inside.longest c.self.inside.start c.self.invariant.0 c.self.invariant.1
    c.args.covers c.args.kinds c.len-start.result c.len-end.result c.args.points.now c.extend_from_slice.new.self.items c.push.new.self.items c.in_ok-extend_from_slice.ensures.items c.in_ok-push.ensures.items (search rules) (search rules))
