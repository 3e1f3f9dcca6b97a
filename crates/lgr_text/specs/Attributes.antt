-- The attributes of an element.
use Rattle.std.specs.Prelude.{ℕ, Bool, Option, Some, None, List, bytes_eq, find, option_map}
use Rattle.std.specs.List.{list_all, list_any}
use Rattle.label_patterns.specs.declared.condition.ConditionKind.{ConditionKind}
use Rattle.label_patterns.specs.declared.condition.ConditionKind.TheVariants.{When, Unless}
use Rattle.lgr_text.specs.Records.{Condition}
use Rattle.lgr_text.specs.Values.{name_of}
use Rattle.lgr_text.specs.Words.{words}
use Rattle.lgr_text.specs.declared.names.NameKind.TheVariants.{Identifier}
use Rattle.xml_text.specs.Attributes.{Attribute}

-- the value of an attribute, if the element has it
abbrev pub value : List Attribute → List ℕ → Option (List ℕ)
value attributes name = option_map (λ a. a.value) (find (λ a. bytes_eq a.name name) attributes)

-- the name is one of the words of a text
abbrev pub is_word_of : List ℕ → List ℕ → Bool
is_word_of text name = list_any (λ word. bytes_eq word name) (words text)

-- each of the attributes is named so
abbrev pub are_among : List ℕ → List Attribute → Bool
are_among names attributes = list_all (λ a. is_word_of names a.name) attributes

abbrev pub conditioned : ConditionKind → Option (List ℕ) → Option (Option Condition)
conditioned kind rule = option_map (λ r. Some (record { kind = kind; rule = r })) rule

-- one condition at most, by the name of a rule (sections 5.2 and 7.1)
abbrev pub condition_of : Option (List ℕ) → Option (List ℕ) → Option (Option Condition)
condition_of None None = Some None
condition_of (Some rule) None = conditioned When (name_of Identifier rule)
condition_of None (Some rule) = conditioned Unless (name_of Identifier rule)
condition_of (Some rule) (Some other) = None
