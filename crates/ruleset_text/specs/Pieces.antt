-- What the pieces in memory are seen as: their patterns, the last one first.
use Rattle.std.specs.Prelude.{Bool, true, false, Option, Some, None, List, map, reverse}
use Rattle.ruleset_text.specs.declared.pieces.Piece as declared
use Rattle.ruleset_text.specs.declared.pieces.Piece.TheVariants as variant
use Rattle.label_patterns.specs.Trees.{pattern}
use Rattle.ruleset_text.specs.declared.signs.Signs.{Signs}
use Rattle.ruleset_text.specs.PatternSigns.{State}
use Rattle.ruleset_text.specs.Reading.{Piece, Opening, Branched, Part}

abbrev pub piece : declared.Piece → Piece
piece variant.Opening = Opening
piece (variant.Branched p) = Branched (pattern p)
piece (variant.Part p b) = Part b (pattern p)

abbrev pub pieces : List declared.Piece → List Piece
pieces s = map piece (reverse s)

-- what was read of the pattern of a rule or of a demand
abbrev pub state : List declared.Piece → Signs → State
state s signs = record { pieces = pieces s; groups = signs.groups; passed = signs.passed }

-- what there is after a token that may stand there; nothing after another one
abbrev pub taken_as : {X : Type 0} → Bool → X → Option X
taken_as true s = Some s
taken_as false s = None
