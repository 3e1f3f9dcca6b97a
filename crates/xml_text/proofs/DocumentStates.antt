-- States of reading a document: what matters between two pieces, and what one piece does to it.
use Rattle.std.proofs.Common.{◌≡◌, ℕ, Bool, true, false, ◌==◌, ◌&&◌, List, [], ◌∷◌, ◌++◌}
use Rattle.xml_text.specs.declared.document_state.Part.{Part}
use Rattle.xml_text.specs.declared.document_state.Part.TheVariants as part
use Rattle.xml_text.specs.declared.repeats.Repeats.{Repeats}
use Rattle.xml_text.specs.Documents.{Written, is_misc, data_byte, tokens_at, said_after}
use Rattle.xml_text.specs.LineEnds.{line_after}
use Rattle.xml_text.specs.Pieces
use Rattle.xml_text.specs.Pieces.{Piece, IsPiece}
use Rattle.xml_text.specs.Tokens.{Token}
use Rattle.xml_text.specs.inner.DocumentSteps.{State, step, after, is_two, may_open, names_with, without_first}
use Rattle.xml_text.specs.inner.TagSteps as tag
use Rattle.xml_text.proofs.Runs

-- what matters between pieces
pub record Core : Type 0 where
  pub tokens : List Token
  pub names : List (List ℕ)
  pub rooted : Bool
  pub said : List ℕ
  pub line : ℕ

-- and what doesn't
pub record Scratch : Type 0 where
  pub begun : ℕ
  pub tag : tag.State
  pub word : List ℕ

abbrev pub at : Core → Scratch → Part → State
at c g p = record { tokens = c.tokens; names = c.names; rooted = c.rooted; said = c.said; line = c.line; begun = g.begun; tag = g.tag; word = g.word; part = p }

abbrev pub between : Core → Scratch → Repeats → State
between c g k = at c g (part.Content k)

abbrev pub Leads : State → List ℕ → State → Type 0
Leads s bytes u = Runs.Leads step s bytes u

abbrev pub lined : Core → List ℕ → Core
lined c bytes = record c { line = line_after c.line bytes }

abbrev pub saying : Core → List ℕ → Core
saying c bytes = record c { said = c.said ++ bytes }

-- ---- one piece

-- a piece may stand in these elements, after a root element or not
abbrev pub Fits : Bool → List (List ℕ) → Piece → Type 0
Fits rooted names (Pieces.Opened t) = may_open rooted names ≡ true
Fits rooted (n ∷ ns) (Pieces.Closed name) = name ≡ n
Fits rooted (n ∷ ns) piece = Unit {0}
Fits rooted [] piece = is_misc piece ≡ true

abbrev pub names_after : List (List ℕ) → Piece → List (List ℕ)
names_after names (Pieces.Opened t) = names_with t.name names t.kind
names_after names (Pieces.Closed name) = without_first names
names_after names piece = names

abbrev pub rooted_after : Bool → Piece → Bool
rooted_after rooted (Pieces.Opened t) = true
rooted_after rooted piece = rooted

abbrev pub tokens_after : List Token → ℕ → List ℕ → Piece → List Token
tokens_after tokens line said (Pieces.Opened t) = tokens ++ tokens_at line said (Pieces.Opened t)
tokens_after tokens line said (Pieces.Closed name) = tokens ++ tokens_at line said (Pieces.Closed name)
tokens_after tokens line said piece = tokens

-- outside the root element nothing is said
abbrev pub said_in : List (List ℕ) → List ℕ → Piece → List ℕ
said_in [] said (Pieces.Opened t) = []
said_in [] said piece = said
said_in (n ∷ ns) said piece = said_after said piece

abbrev pub moved : Core → Written → Core
moved c w = record {
  tokens = tokens_after c.tokens c.line c.said w.piece;
  names = names_after c.names w.piece;
  rooted = rooted_after c.rooted w.piece;
  said = said_in c.names c.said w.piece;
  line = line_after c.line w.text;
}

-- how many brackets stand before the next piece
abbrev pub next : Repeats → Piece → Repeats
next k piece = after (data_byte piece == 93) k

-- no ']]>' ends with it
abbrev pub EndsNothing : Repeats → Piece → Type 0
EndsNothing k piece = (is_two k && data_byte piece == 62) ≡ false

-- ---- pieces, one after another

-- a piece that is read, and those that follow
pub record Step (Next : Type 0) (c : Core) (k : Repeats) (w : Written) : Type 0 where
  pub piece : IsPiece w.text w.piece
  pub fits : Fits c.rooted c.names w.piece
  pub ends : EndsNothing k w.piece
  pub rest : Next

abbrev pub Path : Core → Repeats → List Written → Type 0
Path c k [] = Unit {0}
Path c k (w ∷ ws) = Step (Path (moved c w) (next k w.piece) ws) c k w

abbrev pub core_after : Core → List Written → Core
core_after c [] = c
core_after c (w ∷ ws) = core_after (moved c w) ws

abbrev pub count_after : Repeats → List Written → Repeats
count_after k [] = k
count_after k (w ∷ ws) = count_after (next k w.piece) ws
