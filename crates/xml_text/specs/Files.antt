-- Documents as they stand in files: a byte order mark, a declaration, and what follows. The numbers in brackets are
-- productions of XML 1.0.
use Rattle.std.specs.Prelude.{◌≡◌, ℕ, ◌+◌, ◌<◌, ◌≤◌, Bool, true, false, ◌==◌, ◌&&◌, ◌||◌, not, nat_lt}
use Rattle.std.specs.Prelude.{List, [], ◌∷◌, ◌++◌, length, take, drop, codes, bytes_eq, find, slice_index, Option, Some}
use Rattle.std.specs.Prelude.{None, if◌then◌else◌}
use Rattle.std.specs.List.{list_all}
use Rattle.std.specs.Str.{str_eq_ignore_ascii_case}
use Rattle.xml_text.specs.declared.attribute.TagKind.{TagKind}
use Rattle.xml_text.specs.declared.attribute.TagKind.TheVariants.{Start, Empty}
use Rattle.xml_text.specs.declared.fault.DocumentError.{DocumentError}
use Rattle.xml_text.specs.declared.fault.DocumentError.TheVariants.{TooLong, NoCharacter, Declaration, Stop, Memory}
use Rattle.xml_text.specs.declared.fault.Place.{Place}
use Rattle.xml_text.specs.declared.fault.ReadError.{ReadError}
use Rattle.xml_text.specs.declared.fault.ReadError.TheVariants as read
use Rattle.xml_text.specs.Attributes.{Attribute, is}
use Rattle.xml_text.specs.Characters.{AreCharacters, IsWrongAt}
use Rattle.xml_text.specs.Documents.{IsBody}
use Rattle.xml_text.specs.LineEnds.{line_feeds, line_feeds_after, return_after, line_after}
use Rattle.xml_text.specs.Names.{is_blank}
use Rattle.xml_text.specs.Pieces.{begins_with}
use Rattle.xml_text.specs.TagStops.{IsBegun, IsStuck}
use Rattle.xml_text.specs.Tags.{Tag, IsTag}
use Rattle.xml_text.specs.Tokens.{Token}

-- 64 MiB
abbrev pub max_bytes : ℕ
max_bytes = 67108864

-- ---- the byte order mark

abbrev pub byte_order_mark : List ℕ
byte_order_mark = 239 ∷ 187 ∷ 191 ∷ []

abbrev pub mark_of : List ℕ → List ℕ
mark_of text = if begins_with byte_order_mark text then byte_order_mark else []

abbrev pub without_mark : List ℕ → List ℕ
without_mark text = drop (length (mark_of text)) text

-- ---- which texts are taken for XML

abbrev pub is_less_than : Option ℕ → Bool
is_less_than None = false
is_less_than (Some b) = b == 60

-- the first byte that is no blank, after the mark if there is one, is '<'
abbrev pub begins_as_xml : List ℕ → Bool
begins_as_xml text = is_less_than (find (λ b. not (is_blank b)) (without_mark text))

-- ---- the declaration

abbrev pub is_empty : TagKind → Bool
is_empty Start = false
is_empty Empty = true

-- [80] EncodingDecl, of a text in UTF-8, which may be all ASCII
abbrev pub names_encoding : Bool → List ℕ → Bool
names_encoding ascii name =
    str_eq_ignore_ascii_case name (codes "utf-8") || (ascii && str_eq_ignore_ascii_case name (codes "us-ascii"))

abbrev pub is_encoding : Bool → Attribute → Bool
is_encoding ascii a = bytes_eq a.name (codes "encoding") && names_encoding ascii a.value

-- [32] SDDecl
abbrev pub is_standalone : Attribute → Bool
is_standalone a = is a (codes "standalone") (codes "yes") || is a (codes "standalone") (codes "no")

abbrev pub is_version : Attribute → Bool
is_version a = is a (codes "version") (codes "1.0")

abbrev pub are_declared : Bool → List Attribute → Bool
are_declared ascii [] = false
are_declared ascii (v ∷ []) = is_version v
are_declared ascii (v ∷ a ∷ []) = is_version v && (is_encoding ascii a || is_standalone a)
are_declared ascii (v ∷ a ∷ b ∷ []) = is_version v && is_encoding ascii a && is_standalone b
are_declared ascii (v ∷ a ∷ b ∷ c ∷ rest) = false

-- all of a text is ASCII
abbrev pub is_ascii : List ℕ → Bool
is_ascii text = list_all (λ b. nat_lt b 128) text

-- a byte that is no '&' and no '?'
abbrev pub is_declared_byte : ℕ → Bool
is_declared_byte b = not (b == 38) && not (b == 63)

abbrev pub is_xml_tag : Bool → Tag → Bool
is_xml_tag ascii t = is_empty t.kind && bytes_eq t.name (codes "xml") && are_declared ascii t.attributes

-- between '<' and '/>' it is the tag of an empty element named 'xml' with such attributes
abbrev pub IsXmlTag : Bool → List ℕ → Type 0
IsXmlTag ascii inside = (t : Tag) × IsTag (codes "<" ++ (inside ++ codes "/>")) t × (is_xml_tag ascii t ≡ true)

-- [23] XMLDecl, perhaps of a text that is all ASCII: it is written like such a tag, between '<?' and '?>', and without
-- references
pub record IsDeclaration (ascii : Bool) (text : List ℕ) : Type 0 where
  pub inside : List ℕ
  pub spelled : text ≡ codes "<?" ++ (inside ++ codes "?>")
  pub bytes : list_all is_declared_byte inside ≡ true
  pub tag : IsXmlTag ascii inside

-- a text begins with what only a declaration begins with
abbrev pub declares : List ℕ → Bool
declares text = begins_with (codes "<?xml") text && is_blank (slice_index text 5)

abbrev pub IsDeclared : Bool → Bool → List ℕ → Type 0
IsDeclared ascii true declaration = IsDeclaration ascii declaration
IsDeclared ascii false declaration = declaration ≡ []

-- ---- files

-- the mark and the declaration with which a text begins
abbrev pub IsFront : List ℕ → List ℕ → Type 0
IsFront text front =
    (declaration : List ℕ) × (front ≡ mark_of text ++ declaration)
    × (let rest = without_mark text in IsDeclared (is_ascii rest) (declares rest) declaration)

-- the text is a document, which says these tokens
pub record IsDocument (text : List ℕ) (tokens : List Token) : Type 0 where
  pub front : List ℕ
  pub body : List ℕ
  pub spelled : text ≡ front ++ body
  pub begins : IsFront text front
  pub short : length text ≤ max_bytes
  pub characters : AreCharacters text
  pub says : IsBody (line_after 1 (line_feeds front)) (line_feeds body) tokens

-- ---- faults

abbrev pub IsABody : ℕ → List ℕ → Type 0
IsABody line text = (tokens : List Token) × IsBody line text tokens

-- some document begins with the bytes before the place, and none goes on with the next one; or there is no next one,
-- and they are none. The first of these bytes stands on this line
pub record IsStopOf (line : ℕ) (before after : List ℕ) : Type 0 where
  pub begun : IsBegun (IsABody line) (line_feeds before)
  pub stuck : IsStuck (IsABody line) (line_feeds before) (line_feeds_after (return_after false before) after)

abbrev pub StopsBody : ℕ → List ℕ → ReadError → Type 0
StopsBody line text (read.Stop place) = (place ≤ length text) × IsStopOf line (take place text) (drop place text)
StopsBody line text read.Memory = Unit {0}

-- the text begins as a declaration, and with none
abbrev pub HasWrongDeclaration : List ℕ → Type 0
HasWrongDeclaration text =
    (declares text ≡ true)
    × ((declaration body : List ℕ) → text ≡ declaration ++ body → IsDeclaration (is_ascii text) declaration → ⊥)

-- what an error says of a text that begins as a declaration
abbrev pub IsDeclarationFault : List ℕ → DocumentError → Type 0
IsDeclarationFault text Declaration = HasWrongDeclaration text
IsDeclarationFault text Memory = Unit {0}
IsDeclarationFault text TooLong = ⊥
IsDeclarationFault text (NoCharacter place) = ⊥
IsDeclarationFault text (Stop place) = ⊥

-- the place is the first byte with which no document goes on
pub record IsStopAt (text : List ℕ) (place : ℕ) : Type 0 where
  pub front : List ℕ
  pub before : List ℕ
  pub after : List ℕ
  pub spelled : text ≡ front ++ (before ++ after)
  pub begins : IsFront text front
  pub at : place ≡ length front + length before
  pub stop : IsStopOf (line_after 1 (line_feeds front)) before after

-- the line on which a byte stands
abbrev pub IsLineOf : List ℕ → Place → Type 0
IsLineOf text place = place.line ≡ line_after 1 (line_feeds (take place.byte text))

-- the text isn't too long, and all of it is characters
abbrev pub IsReadable : List ℕ → Type 0
IsReadable text = (length text ≤ max_bytes) × AreCharacters text

-- the first of these that is so: each is said only where none before it is
abbrev pub IsFault : List ℕ → DocumentError → Type 0
IsFault text TooLong = max_bytes < length text
IsFault text (NoCharacter place) = (length text ≤ max_bytes) × (IsWrongAt text place.byte × IsLineOf text place)
IsFault text Declaration = IsReadable text × HasWrongDeclaration (without_mark text)
IsFault text (Stop place) = IsReadable text × (IsStopAt text place.byte × IsLineOf text place)
IsFault text Memory = Unit {0}
