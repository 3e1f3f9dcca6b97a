-- Tests of the form of a definition, as the program makes them.
use Rattle.std.specs.Prelude.{ℕ, ◌+◌, ◌&&◌, not, Bool, true, false, Option, Some, None, List, [], ◌∷◌}
use Rattle.std.specs.Prelude.{nat_le, nat_lt, length}
use Rattle.label_patterns.specs.declared.span.Span.{Span}
use Rattle.label_patterns.specs.Patterns.{Pattern, Point, Set, Any, Start, End, Anchor, Group, Optional, Many, Then}
use Rattle.label_patterns.specs.Patterns.{Either}
use Rattle.ruleset_text.specs.declared.pattern_form.PatternSign.{PatternSign}
use Rattle.ruleset_text.specs.declared.pattern_form.PatternSign.TheVariants as held_sign
use Rattle.ruleset_text.specs.declared.pattern_form.PatternSort.{PatternSort}
use Rattle.ruleset_text.specs.declared.pattern_form.PatternSort.TheVariants as held
use Rattle.ruleset_text.specs.declared.named_condition.NamedCondition.{NamedCondition}
use Rattle.ruleset_text.specs.Actions.{NamedAction, NamedTrigger}
use Rattle.std.specs.List.{list_all}
use Rattle.idn_text.specs.Points.{is_scalar_value}
use Rattle.ruleset_text.specs.declared.entry_form.Mapped as held_mapped
use Rattle.ruleset_text.specs.Entries.{Mapped}
use Rattle.ruleset_text.specs.EntryForms.{mapped}
use Rattle.ruleset_text.specs.Definition as definition
use Rattle.ruleset_text.specs.Definition.{Definition}
use Rattle.ruleset_text.specs.Grammar.{Sort, Atom, Item, Branch, Whole}
use Rattle.ruleset_text.specs.Names.{is_name, is_one_of}
use Rattle.ruleset_text.specs.Rules.{has, is_rule_or_whole}
use Rattle.ruleset_text.specs.Signs as sign
use Rattle.ruleset_text.specs.Signs.{Sign}

-- ---- patterns

abbrev pub sort_of : PatternSort → Sort
sort_of held.Atom = Atom
sort_of held.Item = Item
sort_of held.Branch = Branch
sort_of held.Whole = Whole

abbrev pub sign_of : PatternSign → Sign
sign_of held_sign.Start = sign.Start
sign_of held_sign.End = sign.End
sign_of held_sign.Anchor = sign.Anchor

abbrev pub is_atom : Sort → Bool
is_atom Atom = true
is_atom s = false

abbrev pub may_have_items : Sort → Bool
may_have_items Branch = true
may_have_items Whole = true
may_have_items s = false

-- the pattern is of this sort
abbrev pub is_of_sort : Sort → Pattern → Bool
is_of_sort s (Point c) = true
is_of_sort s (Set n) = true
is_of_sort s Any = true
is_of_sort s (Group p) = is_of_sort Whole p
is_of_sort Atom Start = false
is_of_sort s Start = true
is_of_sort Atom End = false
is_of_sort s End = true
is_of_sort Atom Anchor = false
is_of_sort s Anchor = true
is_of_sort Atom (Optional p) = false
is_of_sort s (Optional p) = is_of_sort Atom p
is_of_sort Atom (Many p) = false
is_of_sort s (Many p) = is_of_sort Atom p
is_of_sort Branch (Then p q) = is_of_sort Item p && is_of_sort Branch q
is_of_sort Whole (Then p q) = is_of_sort Item p && is_of_sort Branch q
is_of_sort s (Then p q) = false
is_of_sort Whole (Either p q) = is_of_sort Branch p && is_of_sort Whole q
is_of_sort s (Either p q) = false

-- ---- spans

abbrev pub is_span_from : ℕ → Span → Bool
is_span_from least s = nat_le least s.first && nat_le s.first s.last

-- they rise from this code point on
abbrev pub rise : ℕ → List Span → Bool
rise least [] = true
rise least (s ∷ spans) = is_span_from least s && rise (s.last + 1) spans

abbrev pub are_spans : List Span → Bool
are_spans spans = nat_lt 0 (length spans) && rise 0 spans

-- ---- actions

-- names, none of them twice
abbrev pub are_names : List (List ℕ) → Bool
are_names [] = true
are_names (name ∷ names) = is_name name && not (is_one_of names name) && are_names names

abbrev pub has_rule : Option NamedCondition → Bool
has_rule None = true
has_rule (Some c) = is_name c.rule

abbrev pub has_types : Option NamedTrigger → Bool
has_types None = true
has_types (Some t) = nat_lt 0 (length t.types) && are_names t.types

abbrev pub has_action_form : NamedAction → Bool
has_action_form a = has_rule a.condition && has_types a.trigger

-- ---- definitions

abbrev pub has_form : Definition → Bool
has_form (definition.VariantType name) = is_name name
has_form (definition.Set name spans) = is_name name && are_spans spans
has_form (definition.Rule name p) = is_name name && is_of_sort Whole p && is_rule_or_whole p
has_form (definition.Demand kind p) = is_of_sort Whole p && not (has sign.Anchor p)
has_form (definition.Action a) = has_action_form a

-- ---- entries

abbrev pub is_sequence : List ℕ → Bool
is_sequence points = nat_lt 0 (length points) && list_all is_scalar_value points

abbrev pub may_have_type : Bool → Option (List ℕ) → Bool
may_have_type marked None = true
may_have_type marked (Some name) = not marked && is_name name

abbrev pub is_mapped : Mapped → Bool
is_mapped m = is_sequence m.points && may_have_type m.marked m.type_name && has_rule m.condition

-- a source and variants
abbrev pub is_entry : List held_mapped.Mapped → Bool
is_entry ms = nat_lt 0 (length ms) && list_all (λ m. is_mapped (mapped m)) ms
