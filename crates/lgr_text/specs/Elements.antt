-- The elements of a document, and what the tokens of their tags and texts are.
use Rattle.std.specs.Prelude.{◌≡◌, ℕ, Bool, true, false, ◌&&◌, Option, Some, None, List, [], ◌∷◌, ◌++◌, map}
use Rattle.std.specs.Prelude.{option_map, option_and_then, if◌then◌else◌}
use Rattle.std.specs.List.{list_all}
use Rattle.lgr_text.specs.Attributes.{are_among}
use Rattle.xml_text.specs.Attributes.{Attribute}
use Rattle.xml_text.specs.Names.{is_blank}
use Rattle.xml_text.specs.Tokens
use Rattle.xml_text.specs.Tokens.{Said, Token}

-- what stands between two tags, from left to right: a text and what follows it; or an element, with its name, its
-- attributes and what is in it, and what follows it
pub data Content : Type 0 where
  Nothing : Content
  Text : List ℕ → Content → Content
  Element : List ℕ → List Attribute → Content → Content → Content

-- what its tags and texts say, where a prefix stands before the name of each element
abbrev pub said_by : List ℕ → Content → List Said
said_by prefix Nothing = []
said_by prefix (Text text rest) = Tokens.Text text ∷ said_by prefix rest
said_by prefix (Element name attributes within rest) =
    Tokens.Open (prefix ++ name) attributes ∷ said_by prefix within ++ Tokens.Close ∷ said_by prefix rest

-- the tokens say this content
abbrev pub Say : List ℕ → List Token → Content → Type 0
Say prefix tokens content = map (λ t. t.said) tokens ≡ said_by prefix content

-- an element
pub record Node : Type 0 where
  pub name : List ℕ
  pub attributes : List Attribute
  pub within : Content

-- nothing but blanks
abbrev pub is_blank_text : List ℕ → Bool
is_blank_text text = list_all is_blank text

-- one more, where there is one, and where the others are
abbrev pub with_first : {X : Type 0} → Option X → Option (List X) → Option (List X)
with_first first others = option_and_then (λ x. option_map (λ xs. x ∷ xs) others) first

-- what is read of each element, where nothing but blanks stands between them
unfoldable pub each_element : {X : Type 0} → (Node → Option X) → Content → Option (List X)
each_element read Nothing = Some []
each_element read (Text text rest) = if is_blank_text text then each_element read rest else None
each_element read (Element name attributes within rest) =
    with_first (read (record { name = name; attributes = attributes; within = within })) (each_element read rest)

-- each element is so, and nothing but blanks stands between them
unfoldable pub every_element : (Node → Bool) → Content → Bool
every_element is Nothing = true
every_element is (Text text rest) = is_blank_text text && every_element is rest
every_element is (Element name attributes within rest) =
    is (record { name = name; attributes = attributes; within = within }) && every_element is rest

-- no element, and no text but blanks
abbrev pub is_empty : Content → Bool
is_empty content = every_element (λ node. false) content

-- its text, where nothing else is in it
abbrev pub text_of : Content → Option (List ℕ)
text_of Nothing = Some []
text_of (Text text Nothing) = Some text
text_of content = None

-- ---- its attributes

-- what it says, if it has these attributes and no others
abbrev pub if_among : {X : Type 0} → List ℕ → Node → Option X → Option X
if_among names node said = if are_among names node.attributes then said else None

-- the same, if nothing is in it
abbrev pub if_plain : {X : Type 0} → List ℕ → Node → Option X → Option X
if_plain names node said = if are_among names node.attributes && is_empty node.within then said else None
