use Rattle.std.proofs.Common.{◌≡◌, ◌+◌, drop}
use Rattle.std.specs.List.{position_or_len}
use Rattle.lgr_text.specs.NamedParts.{defines}
use Rattle.lgr_text.proofs.named_parts.number_for.Given as goal

-- it is none of those so far
abbrev pub invariant-loop-number : goal.invariant-loop-number
invariant-loop-number l =
    position_or_len (defines l.kind l.name) (drop l.number l.definitions) + l.number ≡ position_or_len (defines l.kind l.name) l.definitions
