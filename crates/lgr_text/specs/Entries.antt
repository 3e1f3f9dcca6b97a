-- Which elements say which entries and variants (RFC 7940, section 5).
use Rattle.std.specs.Prelude.{ℕ, Bool, true, false, not, ◌&&◌, Option, Some, None, List, [], ◌∷◌, codes, bytes_eq}
use Rattle.std.specs.Prelude.{option_map, option_and_then, if◌then◌else◌}
use Rattle.std.specs.List.{list_any}
use Rattle.label_patterns.specs.declared.span.Span.{Span}
use Rattle.xml_text.specs.Attributes.{Attribute}
use Rattle.lgr_text.specs.Attributes.{value, condition_of}
use Rattle.lgr_text.specs.Elements.{Node, each_element, if_among, if_plain}
use Rattle.lgr_text.specs.Records.{Condition, Variant, Source, Sequence, Range, Entry}
use Rattle.lgr_text.specs.Values.{not_empty, point, points, span_between, name_of, names_of}
use Rattle.lgr_text.specs.declared.names.NameKind.TheVariants as kinds

-- ---- attributes

-- the code points of an element that has to have them; a variant alone may have none
abbrev pub points_by : List Attribute → Option (List ℕ)
points_by attributes = option_and_then points (value attributes (codes "cp"))

abbrev pub sequence_by : List Attribute → Option (List ℕ)
sequence_by attributes = option_and_then not_empty (points_by attributes)

abbrev pub point_by : Option (List ℕ) → Option ℕ
point_by text = option_and_then point text

-- a range (section 5)
abbrev pub span_by : List Attribute → Option Span
span_by attributes =
    span_between (point_by (value attributes (codes "first-cp"))) (point_by (value attributes (codes "last-cp")))

-- where it exists (section 5.2)
abbrev pub condition_by : List Attribute → Option (Option Condition)
condition_by attributes = condition_of (value attributes (codes "when")) (value attributes (codes "not-when"))

-- a type, which may be left out (section 5.3.2)
abbrev pub type_by : Option (List ℕ) → Option (Option (List ℕ))
type_by None = Some None
type_by (Some text) = option_map (λ t. Some t) (name_of kinds.Type text)

-- no name comes twice
abbrev pub are_distinct : List (List ℕ) → Bool
are_distinct [] = true
are_distinct (name ∷ names) = not (list_any (λ other. bytes_eq other name) names) && are_distinct names

abbrev pub if_distinct : List (List ℕ) → Option (List (List ℕ))
if_distinct names = if are_distinct names then Some names else None

-- tags, which may be left out (section 5.5)
abbrev pub tags_by : Option (List ℕ) → Option (List (List ℕ))
tags_by None = Some []
tags_by (Some text) = option_and_then if_distinct (names_of kinds.Token text)

-- ---- variants

-- its code points, its type and its condition
abbrev pub variant_by : List Attribute → Option Variant
variant_by attributes =
    option_and_then (λ p. option_and_then (λ t. option_map (λ c. record { points = p; type_name = t; condition = c })
    (condition_by attributes)) (type_by (value attributes (codes "type")))) (points_by attributes)

-- a variant (section 5.3)
abbrev pub variant_of : Node → Option Variant
variant_of node =
    if bytes_eq node.name (codes "var") then
    if_plain (codes "cp type when not-when comment ref") node (variant_by node.attributes)
    else None

-- ---- entries

-- only single code points have tags
abbrev pub may_be_tagged : Source → List (List ℕ) → Bool
may_be_tagged s [] = true
may_be_tagged (Sequence []) (t ∷ ts) = false
may_be_tagged (Sequence (c ∷ [])) (t ∷ ts) = true
may_be_tagged (Sequence (c ∷ d ∷ cs)) (t ∷ ts) = false
may_be_tagged (Range span) (t ∷ ts) = true

abbrev pub entry_with : List Attribute → Source → List Variant → Option Entry
entry_with attributes s vs =
    option_and_then (λ c. option_and_then (λ ts.
    if may_be_tagged s ts then Some (record { source = s; condition = c; tags = ts; variants = vs }) else None)
    (tags_by (value attributes (codes "tag")))) (condition_by attributes)

-- a code point or a sequence, with its variants
abbrev pub char_with : List Attribute → List Variant → Option Entry
char_with attributes vs = option_and_then (λ cs. entry_with attributes (Sequence cs) vs) (sequence_by attributes)

abbrev pub char_of : Node → Option Entry
char_of node =
    if_among (codes "cp when not-when tag comment ref") node
    (option_and_then (char_with node.attributes) (each_element variant_of node.within))

abbrev pub range_by : List Attribute → Option Entry
range_by attributes = option_and_then (λ span. entry_with attributes (Range span) []) (span_by attributes)

abbrev pub range_of : Node → Option Entry
range_of node =
    if bytes_eq node.name (codes "range") then
    if_plain (codes "first-cp last-cp when not-when tag comment ref") node (range_by node.attributes)
    else None

-- an entry of the repertoire (section 5)
abbrev pub entry_of : Node → Option Entry
entry_of node = if bytes_eq node.name (codes "char") then char_of node else range_of node
