-- What a document says.
use Rattle.std.specs.Prelude.{ℕ, List}
use Rattle.xml_text.specs.declared.token.Said.{Said as Read}
use Rattle.xml_text.specs.declared.token.Said.TheVariants as read
use Rattle.xml_text.specs.Attributes.{Attribute}

-- a start tag or the beginning of an empty element; what stands between two tags; an end tag or the end of an empty
-- element
pub data Said : Type 0 where
  Open : List ℕ → List Attribute → Said
  Text : List ℕ → Said
  Close : Said

-- and the line on which a tag begins, or a text ends
pub record Token : Type 0 where
  pub said : Said
  pub line : ℕ

abbrev pub said : Read → Said
said (read.Open name attributes) = Open name.now attributes.now
said (read.Text bytes) = Text bytes.now
said read.Close = Close
