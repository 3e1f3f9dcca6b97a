-- Which code points a class has (RFC 7940, section 6.2).
use Rattle.std.specs.Prelude.{ℕ, Bool, not, List, [], slice_index_or, Option, Some, None, is_some, length}
use Rattle.std.specs.Prelude.{nat_lt, if◌then◌else◌}
use Rattle.std.specs.List.{list_any}
use Rattle.std.specs.Option.{option_or}
use Rattle.label_patterns.specs.declared.span.Span.{Span}
use Rattle.label_patterns.specs.Sets.{is_in}
use Rattle.ruleset_text.specs.Names.{is_one_of, number_of}
use Rattle.lgr_text.specs.declared.rule_error.RuleFault.{RuleFault}
use Rattle.lgr_text.specs.declared.rule_error.RuleFault.TheVariants.{Undefined, NotSupported}
use Rattle.lgr_text.specs.CodePoints.{AreSpans, is_joined}
use Rattle.lgr_text.specs.Known.{Known, tagged}
use Rattle.lgr_text.specs.Records.{Class, Entry, Listed, OfTag, OfProperty, OfClass, Joined, Complement}
use Rattle.lgr_text.specs.Properties.{property_has, property_test}

-- the set of the class of this name
abbrev pub set_named : Known → List ℕ → List Span
set_named known name = slice_index_or known.sets (number_of known.set_names name) []

-- the code point is in the class
abbrev pub has : Known → Class → ℕ → Bool
has known (Listed spans) c = is_in spans c
has known (OfTag tag) c = is_in (tagged known.entries tag) c
has known (OfProperty property) c = property_has property c
has known (OfClass name) c = is_in (set_named known name) c
has known (Joined operation k m) c = is_joined operation (has known k c) (has known m c)
has known (Complement k) c = not (has known k c)

-- no entry has the tag; there is no such property; no class has the name
abbrev pub tag_fault : List Entry → List ℕ → Option RuleFault
tag_fault entries tag = if list_any (λ e. is_one_of e.tags tag) entries then None else Some Undefined

abbrev pub property_fault : List ℕ → Option RuleFault
property_fault property = if is_some (property_test property) then None else Some NotSupported

abbrev pub set_fault : Known → List ℕ → Option RuleFault
set_fault known name = if nat_lt (number_of known.set_names name) (length known.sets) then None else Some Undefined

-- the first thing that it names and that isn't there
abbrev pub class_fault : Known → Class → Option RuleFault
class_fault known (Listed spans) = None
class_fault known (OfTag tag) = tag_fault known.entries tag
class_fault known (OfProperty property) = property_fault property
class_fault known (OfClass name) = set_fault known name
class_fault known (Joined operation k m) = option_or (class_fault known k) (class_fault known m)
class_fault known (Complement k) = class_fault known k

-- its spans are spans of code points
abbrev pub HasSpans : Class → Type 0
HasSpans (Listed spans) = AreSpans spans
HasSpans (OfTag tag) = Unit {0}
HasSpans (OfProperty property) = Unit {0}
HasSpans (OfClass name) = Unit {0}
HasSpans (Joined operation k m) = HasSpans k × HasSpans m
HasSpans (Complement k) = HasSpans k
