-- Start tags and tags of empty elements, as XML 1.0 has them. The numbers in brackets are its productions.
use Rattle.std.specs.Prelude.{◌≡◌, ◌≢◌, ℕ, Bool, true, false, ◌==◌, ◌&&◌, not, Option, unwrap_or, is_some, List, []}
use Rattle.std.specs.Prelude.{◌∷◌, ◌++◌, map, encode_utf8, if◌then◌else◌}
use Rattle.std.specs.List.{flat_map, list_all}
use Rattle.std.specs.Option.{option_map}
use Rattle.xml_text.specs.declared.attribute.Tag as read
use Rattle.xml_text.specs.declared.attribute.TagKind.{TagKind}
use Rattle.xml_text.specs.declared.attribute.TagKind.TheVariants.{Start, Empty}
use Rattle.xml_text.specs.declared.quote.Quote.{Quote}
use Rattle.xml_text.specs.declared.quote.Quote.TheVariants as quote
use Rattle.xml_text.specs.Attributes.{Attribute, is_named}
use Rattle.xml_text.specs.Names.{is_blank, AreBlanks, is_name, is_reference_byte}
use Rattle.xml_text.specs.References.{referenced}

-- ---- what a tag says

pub record Tag : Type 0 where
  pub name : List ℕ
  pub attributes : List Attribute
  pub kind : TagKind

abbrev pub tag : read.Tag → Tag
tag t = record { name = t.name.now; attributes = t.attributes.now; kind = t.kind }

-- ---- values

-- a part of a value as it is written: a byte, or the text between the '&' and the ';' of a reference
pub data Part : Type 0 where
  Plain : ℕ → Part
  Reference : List ℕ → Part

abbrev pub part_text : Part → List ℕ
part_text (Plain b) = b ∷ []
part_text (Reference name) = 38 ∷ name ++ 59 ∷ []

-- a blank is a space (section 3.3.3)
abbrev pub spaced : ℕ → ℕ
spaced b = if is_blank b then 32 else b

abbrev pub utf8_of_reference : Option ℕ → List ℕ
utf8_of_reference character = unwrap_or (option_map encode_utf8 character) []

abbrev pub part_value : Part → List ℕ
part_value (Plain b) = spaced b ∷ []
part_value (Reference name) = utf8_of_reference (referenced name)

-- [10] AttValue, between quotes of this kind: [^<&"] or a reference [67]
abbrev pub is_part : ℕ → Part → Bool
is_part q (Plain b) = not (b == q) && not (b == 60) && not (b == 38)
is_part q (Reference name) = list_all is_reference_byte name && is_some (referenced name)

-- ---- attributes

abbrev pub quote_byte : Quote → ℕ
quote_byte quote.Double = 34
quote_byte quote.Single = 39

-- an attribute as it is written
pub record Written : Type 0 where
  pub before : List ℕ
  pub name : List ℕ
  pub left : List ℕ
  pub right : List ℕ
  pub quote : Quote
  pub parts : List Part

-- S [41] Attribute, with [25] Eq: S Name S? '=' S? and a value between quotes
abbrev pub written_text : Written → List ℕ
written_text w =
    w.before ++ w.name ++ w.left ++ 61 ∷ [] ++ w.right ++ quote_byte w.quote ∷ [] ++ flat_map part_text w.parts
    ++ quote_byte w.quote ∷ []

pub record IsWritten (w : Written) : Type 0 where
  pub separated : w.before ≢ []
  pub before : AreBlanks w.before
  pub name : is_name w.name ≡ true
  pub left : AreBlanks w.left
  pub right : AreBlanks w.right
  pub parts : list_all (is_part (quote_byte w.quote)) w.parts ≡ true

abbrev pub attribute_of : Written → Attribute
attribute_of w = record { name = w.name; value = flat_map part_value w.parts }

-- each has a name that none before it has ('Unique Att Spec' in section 3.1)
abbrev pub HaveNewNames : List Attribute → List Attribute → Type 0
HaveNewNames before [] = Unit {0}
HaveNewNames before (a ∷ attributes) = (is_named before a.name ≡ false) × HaveNewNames (before ++ a ∷ []) attributes

-- ---- tags

abbrev pub end_text : TagKind → List ℕ
end_text Start = 62 ∷ []
end_text Empty = 47 ∷ 62 ∷ []

-- [40] STag or [44] EmptyElemTag: '<' Name (S Attribute)* S? and '>' or '/>'
abbrev pub tag_text : List ℕ → List Written → List ℕ → TagKind → List ℕ
tag_text name written blanks kind = 60 ∷ [] ++ name ++ flat_map written_text written ++ blanks ++ end_text kind

abbrev pub AreWritten : List Written → Type 0
AreWritten [] = Unit {0}
AreWritten (w ∷ ws) = IsWritten w × AreWritten ws

-- the text is this tag
pub record IsTag (text : List ℕ) (t : Tag) : Type 0 where
  pub written : List Written
  pub blanks : List ℕ
  pub spelled : text ≡ tag_text t.name written blanks t.kind
  pub name : is_name t.name ≡ true
  pub attributes : t.attributes ≡ map attribute_of written
  pub each : AreWritten written
  pub new : HaveNewNames [] t.attributes
  pub after : AreBlanks blanks
