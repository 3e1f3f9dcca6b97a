-- The pieces with which a document of XML 1.0 is written, one after another. The numbers in brackets are productions.
use Rattle.std.specs.Prelude.{◌≡◌, ℕ, Bool, true, false, ◌==◌, ◌&&◌, ◌||◌, List, [], ◌∷◌, ◌++◌, codes}
use Rattle.std.specs.Str.{str_eq_ignore_ascii_case}
use Rattle.xml_text.specs.Names.{is_blank, AreBlanks, is_name}
use Rattle.xml_text.specs.Tags.{Tag, IsTag, Part, part_text, is_part}

-- a byte of character data or a reference; a section, with what it says; a comment; a processing instruction; a start
-- tag or the tag of an empty element; an end tag, with its name
pub data Piece : Type 0 where
  Character : Part → Piece
  Section : List ℕ → Piece
  Comment : Piece
  Instruction : Piece
  Opened : Tag → Piece
  Closed : List ℕ → Piece

-- a word stands at the beginning of a text, or somewhere in it
abbrev pub begins_with : List ℕ → List ℕ → Bool
begins_with [] text = true
begins_with (w ∷ ws) [] = false
begins_with (w ∷ ws) (b ∷ bs) = w == b && begins_with ws bs

abbrev pub has : List ℕ → List ℕ → Bool
has word [] = false
has word (b ∷ bs) = begins_with word (b ∷ bs) || has word bs

-- [14] CharData: no '<' and no '&'; [67] Reference
abbrev pub is_content : Part → Bool
is_content part = is_part 60 part

-- [18] CDSect
abbrev pub IsSection : List ℕ → List ℕ → Type 0
IsSection text body = (text ≡ codes "<![CDATA[" ++ body ++ codes "]]>") × (has (codes "]]>") body ≡ false)

-- [15] Comment: no '--' before the last '-->', and no '-' directly before it
abbrev pub IsComment : List ℕ → Type 0
IsComment text =
    (body : List ℕ) × (text ≡ codes "<!--" ++ body ++ codes "-->") × (has (codes "--") (body ++ codes "-") ≡ false)

-- 'xml' in any case, which names no instruction [17]
abbrev pub is_xml : List ℕ → Bool
is_xml name = str_eq_ignore_ascii_case name (codes "xml")

abbrev pub begins_blank : List ℕ → Bool
begins_blank [] = true
begins_blank (b ∷ bs) = is_blank b

-- [16] PI
pub record IsInstruction (text : List ℕ) : Type 0 where
  pub target : List ℕ
  pub body : List ℕ
  pub spelled : text ≡ codes "<?" ++ target ++ body ++ codes "?>"
  pub name : is_name target ≡ true
  pub other : is_xml target ≡ false
  pub separated : begins_blank body ≡ true
  pub ends : has (codes "?>") body ≡ false

-- [42] ETag
abbrev pub IsEndTag : List ℕ → List ℕ → Type 0
IsEndTag text name = (blanks : List ℕ) × (text ≡ codes "</" ++ name ++ blanks ++ codes ">") × AreBlanks blanks

-- the text is this piece
abbrev pub IsPiece : List ℕ → Piece → Type 0
IsPiece text (Character part) = (text ≡ part_text part) × (is_content part ≡ true)
IsPiece text (Section body) = IsSection text body
IsPiece text Comment = IsComment text
IsPiece text Instruction = IsInstruction text
IsPiece text (Opened t) = IsTag text t
IsPiece text (Closed name) = IsEndTag text name
