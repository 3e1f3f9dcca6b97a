use Rattle.std.proofs.Common.{◌≡◌, drop}
use Rattle.lgr_text.specs.Attributes.{value}
use Rattle.lgr_text.proofs.attributes.value_of.Given as goal

-- none of the attributes so far has the name
abbrev pub invariant-loop-attribute : goal.invariant-loop-attribute
invariant-loop-attribute l = value (drop l.attribute-index l.attributes) l.name ≡ value l.attributes l.name
