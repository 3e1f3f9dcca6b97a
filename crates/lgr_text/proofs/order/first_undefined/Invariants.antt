use Rattle.std.proofs.Common.{◌≡◌, drop, length, map}
use Rattle.lgr_text.specs.DefinitionOrder.{first_undefined, undefined_among}
use Rattle.lgr_text.proofs.OrderLemmas.{all_of}
use Rattle.lgr_text.proofs.order.first_undefined.Given as goal

-- it is named by none of those so far
abbrev pub invariant-loop-named : goal.invariant-loop-named
invariant-loop-named l =
    undefined_among (length l.parts) (all_of (drop l.named-index l.parts)) ≡ first_undefined (map (λ p. p.items) l.parts)
