use Rattle.std.proofs.Common.{◌+◌, refl, subst, arith}
use Rattle.label_patterns.specs.Places.{Has}
use Rattle.label_patterns.proofs.contexts.points_in_context.Goals as goal

pub returns : goal.returns
returns c i =
    let b = c.before-2.ensures i in
    let start = c.places_before.ensures i in
    let end = c.places_after.ensures (i + 1) in (
      λ h.
          let x = b.0 h in
          let after = end.0 (subst (Has c.places_after.result) x.2.1 x.1) in
          let l = after.0 in
          (omega (arith, l), (start.0 x.2.0).1, after.1),
      λ h. b.1 (i + 1, end.1 (omega (arith, h.0), h.2), (start.1 (omega (arith, h.0), h.1), refl)),
    )
