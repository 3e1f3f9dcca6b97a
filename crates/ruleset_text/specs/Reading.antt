-- Reading a pattern from its first token to its last. What isn't complete is kept in pieces, the last one first.
use Rattle.std.specs.Prelude.{Bool, true, false, Option, Some, None, List, [], ◌∷◌}
use Rattle.ruleset_text.specs.declared.token.Token.{Token}
use Rattle.ruleset_text.specs.declared.token.Token.TheVariants as token
use Rattle.idn_text.specs.Stops.{run}
use Rattle.label_patterns.specs.Patterns.{Pattern, Point, Set, Any, Start, End, Anchor, Group, Optional, Many, Then}
use Rattle.label_patterns.specs.Patterns.{Either}

pub data Piece : Type 0 where
  -- '('
  Opening : Piece
  -- a branch, and the '/' after it
  Branched : Pattern → Piece
  -- an item, and whether '?' or '*' may follow it
  Part : Bool → Pattern → Piece

-- the items with which pieces end, before p, and the pieces before them
abbrev pub items : Pattern → List Piece → Pattern
items p (Part b q ∷ s) = items (Then q p) s
items p s = p

abbrev pub before_items : List Piece → List Piece
before_items (Part b q ∷ s) = before_items s
before_items s = s

-- the same of branches
abbrev pub branches : Pattern → List Piece → Pattern
branches p (Branched q ∷ s) = branches (Either q p) s
branches p s = p

abbrev pub before_branches : List Piece → List Piece
before_branches (Branched q ∷ s) = before_branches s
before_branches s = s

-- what f makes of the whole pattern since the last '(', which ends in an item, and of the pieces before it
abbrev pub ending : {X : Type 0} → (Pattern → List Piece → Option X) → List Piece → Option X
ending f (Part b p ∷ s) = f (branches (items p s) (before_items s)) (before_branches (before_items s))
ending f s = None

-- '?' or '*' after an atom
abbrev pub with_sign : (Pattern → Pattern) → List Piece → Option (List Piece)
with_sign f (Part true p ∷ s) = Some (Part false (f p) ∷ s)
with_sign f s = None

-- '/' after a branch
abbrev pub with_bar : List Piece → Option (List Piece)
with_bar (Part b p ∷ s) = Some (Branched (items p s) ∷ before_items s)
with_bar s = None

-- ')' after a whole pattern before which '(' stands
abbrev pub with_close : Pattern → List Piece → Option (List Piece)
with_close p (Opening ∷ s) = Some (Part true (Group p) ∷ s)
with_close p s = None

-- the pieces with a token more, if it may stand there
abbrev pub step : List Piece → Token → Option (List Piece)
step s (token.Point c) = Some (Part true (Point c) ∷ s)
step s (token.Set n) = Some (Part true (Set n) ∷ s)
step s token.Any = Some (Part true Any ∷ s)
step s token.Start = Some (Part false Start ∷ s)
step s token.End = Some (Part false End ∷ s)
step s token.Anchor = Some (Part false Anchor ∷ s)
step s token.Open = Some (Opening ∷ s)
step s token.Close = ending with_close s
step s token.Optional = with_sign Optional s
step s token.Many = with_sign Many s
step s token.Or = with_bar s
step s token.Other = None

-- a whole pattern before which nothing stands
abbrev pub alone : Pattern → List Piece → Option Pattern
alone p [] = Some p
alone p (x ∷ s) = None

-- the pattern that pieces are, if nothing is left open
abbrev pub ended : List Piece → Option Pattern
ended s = ending alone s

abbrev pub pattern_at : Option (List Piece) → Option Pattern
pattern_at None = None
pattern_at (Some s) = ended s

-- the pattern that tokens spell, if they spell one
unfoldable pub pattern_of : List Token → Option Pattern
pattern_of ts = pattern_at (run step (Some []) ts)
