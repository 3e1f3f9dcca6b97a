use Rattle.std.proofs.Common.{◌≡◌, drop}
use Rattle.lgr_text.specs.DefinitionOrder.{undefined_among}
use Rattle.lgr_text.proofs.order.undefined_among.Given as goal

-- it is none of those so far
abbrev pub invariant-loop-part : goal.invariant-loop-part
invariant-loop-part l = undefined_among l.count (drop l.part-index l.named) ≡ undefined_among l.count l.named
