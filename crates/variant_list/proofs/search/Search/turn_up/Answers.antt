use Rattle.std.proofs.Common.{◌≡◌, ◌≤◌, ◌++◌, ◌∷◌, [], ap, ◌∙◌, ◌-◌, sym, subst, length, take, arith, Some}
use Rattle.variant_list.specs.inner.Holding.{Holds}
use Rattle.variant_list.specs.inner.Scans.{IsLeast, Continues}
use Rattle.variant_list.specs.inner.Searches.{Standing, IsPlaced, GoesOn}
use Rattle.variant_list.proofs.CursorSteps.{IsPlaced-turn, GoesOn-row, HoldsInside-placed}
use Rattle.variant_list.proofs.search.Search.turn_up.Goals as goal

pub lead_on-requires-clause-inside : goal.lead_on-requires-clause-inside
lead_on-requires-clause-inside c =
    let old : Standing = record { net = c.self.inside.graph.now; rows = c.self.inside.rows; last = c.self.inside.last } in
    HoldsInside-placed old c.args.level c.self.invariant (omega (arith, ap (λ p. length p.last) c.self.view_is, c.requires.within))

pub returns-in_err-point-clause-point : goal.returns-in_err-point-clause-point
returns-in_err-point-clause-point c =
    let old : Standing = record { net = c.self.inside.graph.now; rows = c.self.inside.rows; last = c.self.inside.last } in
    let inside : c.args.level ≤ length old.last = omega (arith, ap (λ p. length p.last) c.self.view_is, c.requires.within) in
    let none : c.lead_on.result ≡ c.from_residual.result = cc in
    subst (λ p. IsLeast (GoesOn p.net (take c.args.level p.last) c.args.least) c.from_residual.result) c.self.view_is
    (GoesOn-row old c.args.level c.args.least c.from_residual.result c.self.invariant inside
    (subst (IsLeast (Continues old.net (Holds old.rows c.args.level) c.args.least (62 - c.args.level))) none c.lead_on.ensures.point))

pub invariant_of-self-2 : goal.invariant_of-self-2
invariant_of-self-2 c =
    let inside : c.args.level ≤ length c.self.inside.last = omega (arith, ap (λ p. length p.last) c.self.view_is, c.requires.within) in
    let last : c.push.new.self ≡ take c.args.level c.self.inside.last ++ c.in_ok-point.point ∷ [] = c.push.ensures ∙ ap (λ t. t ++ c.in_ok-point.point ∷ []) c.keep.ensures in
    subst (λ l. IsPlaced (record { net = c.self.inside.graph.now; rows = c.lead_on.new.rows; last = l })) (sym last)
    (IsPlaced-turn c.self.inside.graph.now c.self.inside.rows c.lead_on.new.rows c.self.inside.last c.args.level c.in_ok-point.point c.self.invariant inside c.requires.short c.in_ok-point.ensures.filled c.in_ok-point.ensures.size)

pub returns-clause-point : goal.returns-clause-point
returns-clause-point c =
    let old : Standing = record { net = c.self.inside.graph.now; rows = c.self.inside.rows; last = c.self.inside.last } in
    let inside : c.args.level ≤ length old.last = omega (arith, ap (λ p. length p.last) c.self.view_is, c.requires.within) in
    subst (λ p. IsLeast (GoesOn p.net (take c.args.level p.last) c.args.least) (Some c.in_ok-point.point)) c.self.view_is
    (GoesOn-row old c.args.level c.args.least (Some c.in_ok-point.point) c.self.invariant inside c.in_ok-point.ensures.point)
