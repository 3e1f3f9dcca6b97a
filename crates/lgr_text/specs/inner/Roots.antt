-- The root element.
use Rattle.std.specs.Prelude.{Option, Some, None, List, [], ◌∷◌, codes, bytes_eq, option_and_then, if◌then◌else◌}
use Rattle.lgr_text.specs.Elements
use Rattle.lgr_text.specs.Elements.{Content, each_element}
use Rattle.lgr_text.specs.Records.{Ruleset}
use Rattle.lgr_text.specs.Sections.{section_of, ruleset_by}
use Rattle.xml_text.specs.Attributes.{Attribute}
use Rattle.xml_text.specs.Tokens
use Rattle.xml_text.specs.Tokens.{Said, Token}

-- the attributes of a start tag
abbrev pub attributes_of : Said → Option (List Attribute)
attributes_of (Tokens.Open name attributes) = Some attributes
attributes_of (Tokens.Text text) = None
attributes_of Tokens.Close = None

-- those of the first token
abbrev pub root_attributes : List Token → Option (List Attribute)
root_attributes [] = None
root_attributes (t ∷ ts) = attributes_of t.said

-- what a content says that is the root alone
abbrev pub root_of : Content → Option Ruleset
root_of Elements.Nothing = None
root_of (Elements.Text text rest) = None
root_of (Elements.Element name attributes within Elements.Nothing) =
    if bytes_eq name (codes "lgr") then option_and_then ruleset_by (each_element section_of within) else None
root_of (Elements.Element name attributes within (Elements.Text text rest)) = None
root_of (Elements.Element name attributes within (Elements.Element other others inner rest)) = None
