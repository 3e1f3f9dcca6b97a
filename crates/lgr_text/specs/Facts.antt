-- What a file says of itself (RFC 7940, section 4). Nothing follows from it, so its texts may be any.
use Rattle.std.specs.Prelude.{ℕ, Bool, false, ◌&&◌, List, codes, bytes_eq, is_some, if◌then◌else◌}
use Rattle.lgr_text.specs.Attributes.{value, are_among, is_word_of}
use Rattle.lgr_text.specs.Elements.{Node, every_element, text_of}

abbrev pub has : Node → List ℕ → Bool
has node name = is_some (value node.attributes name)

-- these attributes and no others, and no element in it
abbrev pub is_note : List ℕ → Node → Bool
is_note names node = are_among names node.attributes && is_some (text_of node.within)

-- a document that 'ref' names
abbrev pub is_reference : Node → Bool
is_reference node =
    bytes_eq node.name (codes "reference") && (has node (codes "id") && is_note (codes "id comment") node)

abbrev pub are_references : Node → Bool
are_references node = are_among (codes "comment") node.attributes && every_element is_reference node.within

-- those that have nothing but a text
abbrev pub plain_facts : List ℕ
plain_facts = codes "version date language validity-start validity-end unicode-version"

-- an element of 'meta' (section 4.3)
abbrev pub is_fact : Node → Bool
is_fact node =
    if is_word_of plain_facts node.name then is_note (codes "comment") node else
    if bytes_eq node.name (codes "scope") then has node (codes "type") && is_note (codes "type comment") node else
    if bytes_eq node.name (codes "description") then is_note (codes "type comment") node else
    if bytes_eq node.name (codes "references") then are_references node else false
