-- Which elements define which names (RFC 7940, sections 6.2.1 and 6.3.1).
use Rattle.std.specs.Prelude.{ℕ, Option, List, codes, bytes_eq, option_map, option_and_then, if◌then◌else◌}
use Rattle.lgr_text.specs.Attributes.{value}
use Rattle.lgr_text.specs.Classes.{class_of}
use Rattle.lgr_text.specs.Elements.{Node}
use Rattle.lgr_text.specs.Parts.{rule_of}
use Rattle.lgr_text.specs.Records.{Definition, Meaning, IsClass, IsRule}
use Rattle.lgr_text.specs.Values.{name_of}
use Rattle.lgr_text.specs.declared.classes.ClassPlace.TheVariants.{OfRules}
use Rattle.lgr_text.specs.declared.names.NameKind.TheVariants.{Identifier}

-- the levels of elements of a document
abbrev pub max_levels : ℕ
max_levels = 64

-- a rule, or a class or set
abbrev pub meaning_of : Node → Option Meaning
meaning_of node =
    if bytes_eq node.name (codes "rule") then option_map IsRule (rule_of max_levels node) else
    option_map IsClass (class_of max_levels OfRules node)

abbrev pub defined_name : Node → Option (List ℕ)
defined_name node = option_and_then (name_of Identifier) (value node.attributes (codes "name"))

-- what it is, with its name
abbrev pub definition_of : Node → Option Definition
definition_of node =
    option_and_then (λ n. option_map (λ m. record { name = n; meaning = m }) (meaning_of node)) (defined_name node)
