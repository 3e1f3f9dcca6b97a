-- The pattern that a tree in memory is. A box is more than what is in it, so equal patterns need not be equal values of
-- the program: contracts speak of patterns.
use Rattle.label_patterns.specs.declared.pattern_tree.PatternTree.{PatternTree}
use Rattle.label_patterns.specs.declared.pattern_tree.PatternTree.TheVariants as tree
use Rattle.label_patterns.specs.Patterns.{Pattern, Point, Set, Any, Start, End, Anchor, Group, Optional, Many, Then}
use Rattle.label_patterns.specs.Patterns.{Either}

abbrev pub pattern : PatternTree → Pattern
pattern (tree.Point c) = Point c
pattern (tree.Set n) = Set n
pattern tree.Any = Any
pattern tree.Start = Start
pattern tree.End = End
pattern tree.Anchor = Anchor
pattern (tree.Group' b p) = Group (pattern p)
pattern (tree.Optional' b p) = Optional (pattern p)
pattern (tree.Many' b p) = Many (pattern p)
pattern (tree.Then' b p c q) = Then (pattern p) (pattern q)
pattern (tree.Either' b p c q) = Either (pattern p) (pattern q)
