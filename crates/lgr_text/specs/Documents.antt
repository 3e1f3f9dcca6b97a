-- What a document says (RFC 7940, section 4.2).
use Rattle.std.specs.Prelude.{◌≡◌, ℕ, Bool, true, not, ◌&&◌, ◌||◌, Option, Some, None, List, [], ◌∷◌, ◌++◌, codes}
use Rattle.std.specs.Prelude.{bytes_eq, map, Result, Ok, Err, drop, take, option_and_then, if◌then◌else◌}
use Rattle.xml_text.specs.Attributes.{Attribute}
use Rattle.xml_text.specs.Tokens.{Token}
use Rattle.lgr_text.specs.Elements
use Rattle.lgr_text.specs.Elements.{Content, Say, each_element}
use Rattle.lgr_text.specs.Records.{Ruleset, file}
use Rattle.lgr_text.specs.Sections.{section_of, ruleset_by}
use Rattle.lgr_text.specs.Sizes.{exceeds}
use Rattle.lgr_text.specs.Values.{is_name}
use Rattle.lgr_text.specs.declared.fault.ReadError.{ReadError}
use Rattle.lgr_text.specs.declared.fault.ReadError.TheVariants.{Wrong, Limit, Memory}
use Rattle.lgr_text.specs.declared.records.Ruleset as held

abbrev pub namespace : List ℕ
namespace = codes "urn:ietf:params:xml:ns:lgr-1.0"

-- what may stand for a namespace (Namespaces in XML 1.0, section 3)
abbrev pub is_prefix : List ℕ → Bool
is_prefix name = is_name name && not (bytes_eq name (codes "xml") || bytes_eq name (codes "xmlns"))

-- what stands before the name of each element, where an attribute of this name declares their namespace
abbrev pub declared_by : List ℕ → Option (List ℕ)
declared_by name =
    if bytes_eq name (codes "xmlns") then Some [] else
    if bytes_eq (take 6 name) (codes "xmlns:") && is_prefix (drop 6 name) then Some (drop 6 name ++ codes ":") else None

-- the same of the attribute
abbrev pub declared_in : Attribute → Option (List ℕ)
declared_in a = if bytes_eq a.value namespace then declared_by a.name else None

-- the root has no other attribute
abbrev pub prefix_of : List Attribute → Option (List ℕ)
prefix_of [] = None
prefix_of (a ∷ []) = declared_in a
prefix_of (a ∷ b ∷ attributes) = None

-- the tokens of a document say this ruleset: the root is 'lgr', and all elements are of one namespace
pub record Says (tokens : List Token) (ruleset_ : Ruleset) : Type 0 where
  pub prefix : List ℕ
  pub attributes : List Attribute
  pub within : Content
  pub root : Say prefix tokens (Elements.Element (codes "lgr") attributes within Elements.Nothing)
  pub declared : prefix_of attributes ≡ Some prefix
  pub says : option_and_then ruleset_by (each_element section_of within) ≡ Some ruleset_

-- the ruleset that they say; or something is wrong, and they say none; or there is too much; or memory was refused
abbrev pub IsSaidBy : List Token → Result held.Ruleset ReadError → Type 0
IsSaidBy tokens (Ok ruleset_) = Says tokens (file ruleset_)
IsSaidBy tokens (Err (Wrong line)) = (ruleset_ : Ruleset) → Says tokens ruleset_ → ⊥
IsSaidBy tokens (Err (Limit line)) = exceeds 0 0 (map (λ t. t.said) tokens) ≡ true
IsSaidBy tokens (Err Memory) = Unit {0}
