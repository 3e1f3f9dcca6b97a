-- Documents of XML 1.0 without a document type. The numbers in brackets are productions. Each text here is characters
-- of XML [2] in UTF-8, and its lines end in line feeds.
use Rattle.std.specs.Prelude.{◌≡◌, ◌⊎◌, ℕ, zero, suc, Bool, true, false, List, [], ◌∷◌, ◌++◌, map, codes}
use Rattle.std.specs.List.{flat_map, list_all}
use Rattle.xml_text.specs.declared.attribute.TagKind.{TagKind}
use Rattle.xml_text.specs.declared.attribute.TagKind.TheVariants.{Start, Empty}
use Rattle.xml_text.specs.LineEnds.{line_after}
use Rattle.xml_text.specs.Names.{is_blank}
use Rattle.xml_text.specs.Pieces
use Rattle.xml_text.specs.Pieces.{Piece, has, IsPiece}
use Rattle.xml_text.specs.References.{referenced}
use Rattle.xml_text.specs.Tags
use Rattle.xml_text.specs.Tags.{Tag, Part, utf8_of_reference}
use Rattle.xml_text.specs.Tokens
use Rattle.xml_text.specs.Tokens.{Token}

-- a piece, as it is written
pub record Written : Type 0 where
  pub text : List ℕ
  pub piece : Piece

abbrev pub texts : List Written → List ℕ
texts pieces = flat_map (λ w. w.text) pieces

abbrev pub ArePieces : List Written → Type 0
ArePieces [] = Unit {0}
ArePieces (w ∷ ws) = IsPiece w.text w.piece × ArePieces ws

-- ---- nesting

-- what may stand in content [43] beside elements
abbrev pub is_plain : Piece → Bool
is_plain (Pieces.Character part) = true
is_plain (Pieces.Section body) = true
is_plain Pieces.Comment = true
is_plain Pieces.Instruction = true
is_plain (Pieces.Opened t) = false
is_plain (Pieces.Closed name) = false

abbrev pub AreItems : (List Written → Type 0) → List (List Written) → Type 0
AreItems IsElement [] = Unit {0}
AreItems IsElement (i ∷ items) =
    (((w : Written) × (i ≡ w ∷ []) × (is_plain w.piece ≡ true)) ⊎ IsElement i) × AreItems IsElement items

-- [43] content, with such elements
abbrev pub IsContent : (List Written → Type 0) → List Written → Type 0
IsContent IsElement ws = (items : List (List Written)) × (ws ≡ flat_map (λ i. i) items) × AreItems IsElement items

pub record IsFull (Content : List Written → Type 0) (ws : List Written) : Type 0 where
  pub open_ : Written
  pub content : List Written
  pub close : Written
  pub tag : Tag
  pub is : ws ≡ open_ ∷ content ++ close ∷ []
  pub opens : open_.piece ≡ Pieces.Opened tag
  pub starts : tag.kind ≡ Start
  pub inside : Content content
  pub closes : close.piece ≡ Pieces.Closed tag.name

pub record IsEmpty (ws : List Written) : Type 0 where
  pub only : Written
  pub tag : Tag
  pub is : ws ≡ only ∷ []
  pub opens : only.piece ≡ Pieces.Opened tag
  pub empties : tag.kind ≡ Empty

-- [39] element, with at most so many levels of elements
unfoldable pub IsElement : ℕ → List Written → Type 0
IsElement zero ws = ⊥
IsElement (suc levels) ws = IsEmpty ws ⊎ IsFull (IsContent (IsElement levels)) ws

-- [27] Misc: a blank, a comment or an instruction
abbrev pub is_misc : Piece → Bool
is_misc (Pieces.Character (Tags.Plain b)) = is_blank b
is_misc (Pieces.Character (Tags.Reference name)) = false
is_misc (Pieces.Section body) = false
is_misc Pieces.Comment = true
is_misc Pieces.Instruction = true
is_misc (Pieces.Opened t) = false
is_misc (Pieces.Closed name) = false

abbrev pub AreMisc : List Written → Type 0
AreMisc ws = list_all (λ w. is_misc w.piece) ws ≡ true

-- the byte of character data, or '<', which is none
abbrev pub data_byte : Piece → ℕ
data_byte (Pieces.Character (Tags.Plain b)) = b
data_byte (Pieces.Character (Tags.Reference name)) = 60
data_byte (Pieces.Section body) = 60
data_byte Pieces.Comment = 60
data_byte Pieces.Instruction = 60
data_byte (Pieces.Opened t) = 60
data_byte (Pieces.Closed name) = 60

-- no ']]>' stands in character data [14]
abbrev pub HasNoEnd : List Written → Type 0
HasNoEnd ws = has (codes "]]>") (map (λ w. data_byte w.piece) ws) ≡ false

-- ---- what is said

abbrev pub text_token : ℕ → List ℕ → List Token
text_token line [] = []
text_token line (b ∷ bs) = record { said = Tokens.Text (b ∷ bs); line = line } ∷ []

abbrev pub closing : ℕ → TagKind → List Token
closing line Start = []
closing line Empty = record { said = Tokens.Close; line = line } ∷ []

-- the tokens of a piece that begins on this line: a tag ends the text before it
abbrev pub tokens_at : ℕ → List ℕ → Piece → List Token
tokens_at line said (Pieces.Opened t) =
    text_token line said ++ record { said = Tokens.Open t.name t.attributes; line = line } ∷ closing line t.kind
tokens_at line said (Pieces.Closed name) = text_token line said ++ record { said = Tokens.Close; line = line } ∷ []
tokens_at line said piece = []

-- what the text says since the last tag
abbrev pub said_after : List ℕ → Piece → List ℕ
said_after said (Pieces.Character (Tags.Plain b)) = said ++ b ∷ []
said_after said (Pieces.Character (Tags.Reference name)) = said ++ utf8_of_reference (referenced name)
said_after said (Pieces.Section body) = said ++ body
said_after said Pieces.Comment = said
said_after said Pieces.Instruction = said
said_after said (Pieces.Opened t) = []
said_after said (Pieces.Closed name) = []

-- the tokens of pieces from this line on
abbrev pub tokens_of : ℕ → List ℕ → List Written → List Token
tokens_of line said [] = []
tokens_of line said (w ∷ ws) =
    tokens_at line said w.piece ++ tokens_of (line_after line w.text) (said_after said w.piece) ws

-- ---- documents

-- [1] document, of 64 levels at most, whose first line is this one
pub record IsBody (first : ℕ) (text : List ℕ) (tokens : List Token) : Type 0 where
  pub before : List Written
  pub element : List Written
  pub after : List Written
  pub spelled : text ≡ texts (before ++ element ++ after)
  pub pieces : ArePieces (before ++ element ++ after)
  pub data_ends : HasNoEnd (before ++ element ++ after)
  pub prolog : AreMisc before
  pub root : IsElement 64 element
  pub epilog : AreMisc after
  pub says : tokens ≡ tokens_of (line_after first (texts before)) [] element
