use Rattle.std.proofs.Common.{refl, sym, ap, ◌∙◌, inl, inr, arith, ◌-◌}
use Rattle.idn_class.specs.JoiningType.{joins_next}
use Rattle.idn_class.proofs.contextj.joins_before.Goals as goal

pub returns-in-Left : goal.returns-in-Left
returns-in-Left c =
    let type = sym c.joining_type.ensures in (
      λ _. record {
        place = c.loop-end.end - 1;
        earlier = omega arith;
        joins = elim c.in-Left.is [ inl left ↦ ap joins_next (type ∙ left) | inr dual ↦ ap joins_next (type ∙ dual) ];
        clear = λ k low high. c.loop-end.invariant.clear k (omega arith) high;
      },
      λ _. refl,
    )
