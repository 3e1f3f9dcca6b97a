use Rattle.std.proofs.Common.{◌≡◌, length}
use Rattle.label_patterns.specs.Trees.{pattern}
use Rattle.ruleset_text.specs.Reading.{branches, before_branches}
use Rattle.ruleset_text.specs.Pieces.{pieces}
use Rattle.ruleset_text.proofs.pieces.take_branches.Given as goal

-- what is left to fold gives what all pieces give
abbrev pub invariant-loop-piece : goal.invariant-loop-piece
invariant-loop-piece l = record {
  whole : branches (pattern l.whole) (pieces l.pieces.items) ≡ branches (pattern l.fn.last) (pieces l.fn.pieces.items);
  before : before_branches (pieces l.pieces.items) ≡ before_branches (pieces l.fn.pieces.items);
}

abbrev pub decreases-loop-piece : goal.decreases-loop-piece
decreases-loop-piece l = length l.pieces.items
