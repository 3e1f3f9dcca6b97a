-- The properties of Unicode that a class may name (RFC 7940, section 6.2.3), and which code points have them.
use Rattle.std.specs.Prelude.{ℕ, Bool, false, ◌==◌, ◌&&◌, not, ◌+◌, List, map, filter, take, drop, length}
use Rattle.std.specs.Prelude.{nat_le, position, Option, Some, None, codes, option_and_then, if◌then◌else◌}
use Rattle.std.specs.Char.{to_ascii_lowercase}
use Rattle.std.specs.Option.{option_map}
use Rattle.ucd_bidi.specs.BidiClass.{bidi_class, bidi_class_eq}
use Rattle.ucd_bidi.specs.JoiningType.{joining_type, joining_type_eq}
use Rattle.ucd_normal.specs.CanonicalCombiningClass.{canonical_combining_class}
use Rattle.ucd_sets.specs.Lookup.{by_value}
use Rattle.ucd_sets.specs.Sets.{in_set}
use Rattle.ucd_sets.specs.declared.property.BinaryProperty.TheVariants as binary
use Rattle.ucd_sets.specs.declared.set.Set.{Set}
use Rattle.ucd_sets.specs.declared.set.Set.TheVariants as set
use Rattle.lgr_text.specs.PropertyNames.{bidi_named, joining_named, property_named, truth_named}
use Rattle.lgr_text.specs.Values.{number}
use Rattle.lgr_text.specs.declared.property_names.Property.{Property}
use Rattle.lgr_text.specs.declared.property_names.Property.TheVariants as properties

-- ':', which stands between a property and its value
abbrev pub is_colon : ℕ → Bool
is_colon c = c == 58

-- a name as names are compared: without '_' and '-', in small letters (Unicode Standard Annex 44, UAX44-LM3)
abbrev pub loose : List ℕ → List ℕ
loose name = map to_ascii_lowercase (filter (λ c. not (c == 95) && not (c == 45)) name)

-- a category or a group of categories; the names of categories name other sets, too
abbrev pub category_alone : Option Set → Option Set
category_alone None = None
category_alone (Some (set.Category v)) = Some (set.Category v)
category_alone (Some (set.CategoryGroup g)) = Some (set.CategoryGroup g)
category_alone (Some other) = None

-- one to three digits
abbrev pub up_to_254 : ℕ → Option ℕ
up_to_254 class = if nat_le class 254 then Some class else None

-- one to three digits: a combining class is at most 254 (The Unicode Standard, section 3.11)
abbrev pub class_named : List ℕ → Option ℕ
class_named value = if nat_le (length value) 3 then option_and_then up_to_254 (number value) else None

abbrev pub is_deprecated : ℕ → Bool
is_deprecated c = in_set (set.Binary binary.Deprecated) c

-- which code points have the value of this name; there may be no such value
abbrev pub value_test : Property → List ℕ → Option (ℕ → Bool)
value_test properties.GeneralCategory value = option_map in_set (category_alone (by_value (codes "gc") value))
value_test properties.Script value = option_map in_set (by_value (codes "sc") value)
value_test properties.CombiningClass value =
    option_map (λ n c. canonical_combining_class c == n) (class_named value)
value_test properties.BidiClass value = option_map (λ v c. bidi_class_eq (bidi_class c) v) (bidi_named value)
value_test properties.JoiningType value = option_map (λ v c. joining_type_eq (joining_type c) v) (joining_named value)
value_test properties.Deprecated value =
    option_map (λ has c. if has then is_deprecated c else not (is_deprecated c)) (truth_named value)

-- a value as it is compared: all but combining classes, which are numbers, have names
abbrev pub compared : Property → List ℕ → List ℕ
compared properties.CombiningClass value = value
compared properties.GeneralCategory value = loose value
compared properties.Script value = loose value
compared properties.BidiClass value = loose value
compared properties.JoiningType value = loose value
compared properties.Deprecated value = loose value

abbrev pub test_of_value : Option Property → List ℕ → Option (ℕ → Bool)
test_of_value None value = None
test_of_value (Some property) value = value_test property (compared property value)

-- cut at this colon
abbrev pub test_at : List ℕ → Option ℕ → Option (ℕ → Bool)
test_at text None = None
test_at text (Some at) = test_of_value (property_named (loose (take at text))) (drop (at + 1) text)

-- which code points have a property with a value, as in 'gc:Mn'
abbrev pub property_test : List ℕ → Option (ℕ → Bool)
property_test text = test_at text (position is_colon text)

abbrev pub passes : Option (ℕ → Bool) → ℕ → Bool
passes None c = false
passes (Some test) c = test c

-- the code point has it
abbrev pub property_has : List ℕ → ℕ → Bool
property_has text c = passes (property_test text) c
