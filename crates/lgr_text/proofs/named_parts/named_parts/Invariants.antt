use Rattle.std.proofs.Common.{◌≡◌, map, take}
use Rattle.lgr_text.specs.NamedParts.{of_meaning}
use Rattle.lgr_text.proofs.named_parts.named_parts.Given as goal

-- what those so far name
abbrev pub invariant-loop-definition : goal.invariant-loop-definition
invariant-loop-definition l =
    map (λ p. p.items) l.parts.items ≡ map (λ d. of_meaning l.definitions d.meaning) (take l.definition-index l.definitions)
