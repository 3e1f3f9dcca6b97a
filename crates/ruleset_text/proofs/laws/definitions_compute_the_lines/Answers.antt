use Rattle.std.proofs.Common.{◌≡◌, ℕ, true, false, [], ◌∷◌, Some, refl}
use Rattle.std.specs.Prelude.{codes}
use Rattle.idn_class.specs.Class.{class_of}
use Rattle.idn_class.specs.declared.class.Class.TheVariants.{Disallowed, Pvalid}
use Rattle.idn_class.proofs.ComputedLabels.{in_table, class_of-in_table}
use Rattle.idn_text.specs.Points.{point_of_hex}
use Rattle.ruleset_text.specs.ActionSteps.{action_in}
use Rattle.ruleset_text.specs.Canonical.{point_text}
use Rattle.ruleset_text.specs.Definitions.{all_atoms, canonical_size, with_definition}
use Rattle.ruleset_text.specs.Classes.{has_bad_end}
use Rattle.ruleset_text.specs.Definition as definition
use Rattle.ruleset_text.specs.inner.Examples.{some_defined}
use Rattle.ruleset_text.specs.Names.{number_of}
use Rattle.ruleset_text.specs.Reading.{pattern_of}
use Rattle.ruleset_text.specs.Spans.{span, spans_in}
use Rattle.ruleset_text.specs.Tokens.{tokens_in}
use Rattle.ruleset_text.proofs.DefineLemmas.{by_tests}
use Rattle.ruleset_text.proofs.laws.definitions_compute_the_lines.Goals as goal
use Rattle.idn_class.specs.declared.properties.Properties.TheVariants.{Profile}

-- a code point that is DISALLOWED is a bad end, and A is one
disallowed : (c : ℕ) → class_of Profile c ≡ Disallowed → has_bad_end Profile (span c c ∷ []) ≡ true
disallowed c e = rw e

bad-41 : has_bad_end Profile (span 65 65 ∷ []) ≡ true
unfolding in_table
bad-41 = disallowed 65 (class_of-in_table Profile 65 Disallowed refl)

-- one that is PVALID is none, as a is
allowed : (c : ℕ) → class_of Profile c ≡ Pvalid → has_bad_end Profile (span c c ∷ []) ≡ false
allowed c e = rw e

good-61 : has_bad_end Profile (span 97 97 ∷ []) ≡ false
unfolding in_table
good-61 = allowed 97 (class_of-in_table Profile 97 Pvalid refl)

pub returns-clause-variant_type : goal.returns-clause-variant_type
unfolding with_definition canonical_size all_atoms point_text pattern_of spans_in tokens_in number_of point_of_hex action_in
returns-clause-variant_type c = refl

pub returns-clause-capital : goal.returns-clause-capital
unfolding with_definition canonical_size all_atoms point_text pattern_of spans_in tokens_in number_of point_of_hex action_in
returns-clause-capital c = refl

pub returns-clause-whole : goal.returns-clause-whole
unfolding with_definition canonical_size all_atoms point_text pattern_of spans_in tokens_in number_of point_of_hex action_in
returns-clause-whole c = refl

pub returns-clause-action : goal.returns-clause-action
unfolding with_definition canonical_size all_atoms point_text pattern_of spans_in tokens_in number_of point_of_hex action_in
returns-clause-action c = refl

pub returns-clause-catch_all : goal.returns-clause-catch_all
unfolding with_definition canonical_size all_atoms point_text pattern_of spans_in tokens_in number_of point_of_hex action_in
returns-clause-catch_all c = refl

pub returns-clause-rule : goal.returns-clause-rule
unfolding with_definition canonical_size all_atoms point_text pattern_of spans_in tokens_in number_of point_of_hex action_in
returns-clause-rule c = refl

pub returns-clause-demand : goal.returns-clause-demand
unfolding with_definition canonical_size all_atoms point_text pattern_of spans_in tokens_in number_of point_of_hex action_in
returns-clause-demand c = refl

pub returns-clause-no_word : goal.returns-clause-no_word
unfolding with_definition canonical_size all_atoms point_text pattern_of spans_in tokens_in number_of point_of_hex action_in
returns-clause-no_word c = refl

pub returns-clause-version : goal.returns-clause-version
unfolding with_definition canonical_size all_atoms point_text pattern_of spans_in tokens_in number_of point_of_hex action_in
returns-clause-version c = refl

pub returns-clause-capital_keyword : goal.returns-clause-capital_keyword
unfolding with_definition canonical_size all_atoms point_text pattern_of spans_in tokens_in number_of point_of_hex action_in
returns-clause-capital_keyword c = refl

pub returns-clause-blank_in_keyword : goal.returns-clause-blank_in_keyword
unfolding with_definition canonical_size all_atoms point_text pattern_of spans_in tokens_in number_of point_of_hex action_in
returns-clause-blank_in_keyword c = refl

pub returns-clause-no_name : goal.returns-clause-no_name
unfolding with_definition canonical_size all_atoms point_text pattern_of spans_in tokens_in number_of point_of_hex action_in
returns-clause-no_name c = refl

pub returns-clause-no_span : goal.returns-clause-no_span
unfolding with_definition canonical_size all_atoms point_text pattern_of spans_in tokens_in number_of point_of_hex action_in
returns-clause-no_span c = refl

pub returns-clause-falling : goal.returns-clause-falling
unfolding with_definition canonical_size all_atoms point_text pattern_of spans_in tokens_in number_of point_of_hex action_in
returns-clause-falling c = refl

pub returns-clause-touching : goal.returns-clause-touching
unfolding with_definition canonical_size all_atoms point_text pattern_of spans_in tokens_in number_of point_of_hex action_in
returns-clause-touching c = refl

pub returns-clause-turned : goal.returns-clause-turned
unfolding with_definition canonical_size all_atoms point_text pattern_of spans_in tokens_in number_of point_of_hex action_in
returns-clause-turned c = refl

pub returns-clause-set_in_set : goal.returns-clause-set_in_set
unfolding with_definition canonical_size all_atoms point_text pattern_of spans_in tokens_in number_of point_of_hex action_in
returns-clause-set_in_set c = refl

pub returns-clause-two_digits : goal.returns-clause-two_digits
unfolding with_definition canonical_size all_atoms point_text pattern_of spans_in tokens_in number_of point_of_hex action_in
returns-clause-two_digits c = refl

pub returns-clause-digit_first : goal.returns-clause-digit_first
unfolding with_definition canonical_size all_atoms point_text pattern_of spans_in tokens_in number_of point_of_hex action_in
returns-clause-digit_first c = refl

pub returns-clause-hyphen : goal.returns-clause-hyphen
unfolding with_definition canonical_size all_atoms point_text pattern_of spans_in tokens_in number_of point_of_hex action_in
returns-clause-hyphen c = refl

pub returns-clause-tag : goal.returns-clause-tag
unfolding with_definition canonical_size all_atoms point_text pattern_of spans_in tokens_in number_of point_of_hex action_in
returns-clause-tag c = refl

pub returns-clause-no_type : goal.returns-clause-no_type
unfolding with_definition canonical_size all_atoms point_text pattern_of spans_in tokens_in number_of point_of_hex action_in
returns-clause-no_type c = refl

pub returns-clause-two_types : goal.returns-clause-two_types
unfolding with_definition canonical_size all_atoms point_text pattern_of spans_in tokens_in number_of point_of_hex action_in
returns-clause-two_types c = refl

pub returns-clause-long_name : goal.returns-clause-long_name
unfolding with_definition canonical_size all_atoms point_text pattern_of spans_in tokens_in number_of point_of_hex action_in
returns-clause-long_name c = refl

pub returns-clause-whole_with_anchor : goal.returns-clause-whole_with_anchor
unfolding with_definition canonical_size all_atoms point_text pattern_of spans_in tokens_in number_of point_of_hex action_in
returns-clause-whole_with_anchor c = refl

pub returns-clause-whole_without_pattern : goal.returns-clause-whole_without_pattern
unfolding with_definition canonical_size all_atoms point_text pattern_of spans_in tokens_in number_of point_of_hex action_in
returns-clause-whole_without_pattern c = refl

pub returns-clause-no_disposition : goal.returns-clause-no_disposition
unfolding with_definition canonical_size all_atoms point_text pattern_of spans_in tokens_in number_of point_of_hex action_in
returns-clause-no_disposition c = refl

pub returns-clause-misspelt : goal.returns-clause-misspelt
unfolding with_definition canonical_size all_atoms point_text pattern_of spans_in tokens_in number_of point_of_hex action_in
returns-clause-misspelt c = refl

pub returns-clause-no_types : goal.returns-clause-no_types
unfolding with_definition canonical_size all_atoms point_text pattern_of spans_in tokens_in number_of point_of_hex action_in
returns-clause-no_types c = refl

pub returns-clause-comma_last : goal.returns-clause-comma_last
unfolding with_definition canonical_size all_atoms point_text pattern_of spans_in tokens_in number_of point_of_hex action_in
returns-clause-comma_last c = refl

pub returns-clause-no_comma : goal.returns-clause-no_comma
unfolding with_definition canonical_size all_atoms point_text pattern_of spans_in tokens_in number_of point_of_hex action_in
returns-clause-no_comma c = refl

pub returns-clause-type_twice : goal.returns-clause-type_twice
unfolding with_definition canonical_size all_atoms point_text pattern_of spans_in tokens_in number_of point_of_hex action_in
returns-clause-type_twice c = refl

pub returns-clause-condition_last : goal.returns-clause-condition_last
unfolding with_definition canonical_size all_atoms point_text pattern_of spans_in tokens_in number_of point_of_hex action_in
returns-clause-condition_last c = refl

pub returns-clause-two_triggers : goal.returns-clause-two_triggers
unfolding with_definition canonical_size all_atoms point_text pattern_of spans_in tokens_in number_of point_of_hex action_in
returns-clause-two_triggers c = refl

pub returns-clause-no_rule : goal.returns-clause-no_rule
unfolding with_definition canonical_size all_atoms point_text pattern_of spans_in tokens_in number_of point_of_hex action_in
returns-clause-no_rule c = refl

pub returns-clause-two_conditions : goal.returns-clause-two_conditions
unfolding with_definition canonical_size all_atoms point_text pattern_of spans_in tokens_in number_of point_of_hex action_in
returns-clause-two_conditions c = refl

pub returns-clause-no_anchor : goal.returns-clause-no_anchor
unfolding with_definition canonical_size all_atoms point_text pattern_of spans_in tokens_in number_of point_of_hex action_in
returns-clause-no_anchor c = refl

pub returns-clause-two_anchors : goal.returns-clause-two_anchors
unfolding with_definition canonical_size all_atoms point_text pattern_of spans_in tokens_in number_of point_of_hex action_in
returns-clause-two_anchors c = refl

pub returns-clause-no_context : goal.returns-clause-no_context
unfolding with_definition canonical_size all_atoms point_text pattern_of spans_in tokens_in number_of point_of_hex action_in
returns-clause-no_context c = refl

pub returns-clause-rule_range : goal.returns-clause-rule_range
unfolding with_definition canonical_size all_atoms point_text pattern_of spans_in tokens_in number_of point_of_hex action_in
returns-clause-rule_range c = refl

pub returns-clause-rule_sequence : goal.returns-clause-rule_sequence
unfolding with_definition canonical_size all_atoms point_text pattern_of spans_in tokens_in number_of point_of_hex action_in
returns-clause-rule_sequence c = refl

pub returns-clause-no_pattern : goal.returns-clause-no_pattern
unfolding with_definition canonical_size all_atoms point_text pattern_of spans_in tokens_in number_of point_of_hex action_in
returns-clause-no_pattern c = refl

pub returns-clause-place : goal.returns-clause-place
unfolding with_definition canonical_size all_atoms point_text pattern_of spans_in tokens_in number_of point_of_hex action_in
returns-clause-place c = refl

pub returns-clause-word : goal.returns-clause-word
unfolding with_definition canonical_size all_atoms point_text pattern_of spans_in tokens_in number_of point_of_hex action_in
returns-clause-word c = refl

pub returns-clause-first_branch : goal.returns-clause-first_branch
unfolding with_definition canonical_size all_atoms point_text pattern_of spans_in tokens_in number_of point_of_hex action_in
returns-clause-first_branch c = refl

pub returns-clause-groups : goal.returns-clause-groups
unfolding with_definition canonical_size all_atoms point_text pattern_of spans_in tokens_in number_of point_of_hex action_in
returns-clause-groups c = refl

pub returns-clause-stars : goal.returns-clause-stars
unfolding with_definition canonical_size all_atoms point_text pattern_of spans_in tokens_in number_of point_of_hex action_in
returns-clause-stars c = refl

pub returns-clause-limit_before_name : goal.returns-clause-limit_before_name
unfolding with_definition canonical_size all_atoms point_text pattern_of spans_in tokens_in number_of point_of_hex action_in
returns-clause-limit_before_name c = refl

pub returns-clause-form_before_limit : goal.returns-clause-form_before_limit
unfolding with_definition canonical_size all_atoms point_text pattern_of spans_in tokens_in number_of point_of_hex action_in
returns-clause-form_before_limit c = refl

pub returns-clause-limit_before_class : goal.returns-clause-limit_before_class
unfolding with_definition canonical_size all_atoms point_text pattern_of spans_in tokens_in number_of point_of_hex action_in
returns-clause-limit_before_class c = refl

pub returns-clause-unknown : goal.returns-clause-unknown
unfolding with_definition canonical_size all_atoms point_text pattern_of spans_in tokens_in number_of point_of_hex action_in
returns-clause-unknown c = refl

pub returns-clause-no_set : goal.returns-clause-no_set
unfolding with_definition canonical_size all_atoms point_text pattern_of spans_in tokens_in number_of point_of_hex action_in
returns-clause-no_set c = refl

pub returns-clause-second : goal.returns-clause-second
unfolding with_definition canonical_size all_atoms point_text pattern_of spans_in tokens_in number_of point_of_hex action_in
returns-clause-second c = refl

pub returns-clause-name_before_class : goal.returns-clause-name_before_class
unfolding with_definition canonical_size all_atoms point_text pattern_of spans_in tokens_in number_of point_of_hex action_in
returns-clause-name_before_class c = refl

pub returns-clause-no_such_type : goal.returns-clause-no_such_type
unfolding with_definition canonical_size all_atoms point_text pattern_of spans_in tokens_in number_of point_of_hex action_in
returns-clause-no_such_type c = refl

pub returns-clause-no_such_rule : goal.returns-clause-no_such_rule
unfolding with_definition canonical_size all_atoms point_text pattern_of spans_in tokens_in number_of point_of_hex action_in
returns-clause-no_such_rule c = refl

pub returns-clause-context_rule : goal.returns-clause-context_rule
unfolding with_definition canonical_size all_atoms point_text pattern_of spans_in tokens_in number_of point_of_hex action_in
returns-clause-context_rule c = refl

pub returns-clause-type_as_rule : goal.returns-clause-type_as_rule
unfolding with_definition canonical_size all_atoms point_text pattern_of spans_in tokens_in number_of point_of_hex action_in
returns-clause-type_as_rule c = refl

pub returns-clause-rule_as_type : goal.returns-clause-rule_as_type
unfolding with_definition canonical_size all_atoms point_text pattern_of spans_in tokens_in number_of point_of_hex action_in
returns-clause-rule_as_type c = refl

pub returns-clause-name_before_same_name : goal.returns-clause-name_before_same_name
unfolding with_definition canonical_size all_atoms point_text pattern_of spans_in tokens_in number_of point_of_hex action_in
returns-clause-name_before_same_name c = refl

pub returns-clause-class : goal.returns-clause-class
unfolding canonical_size all_atoms point_text pattern_of spans_in tokens_in number_of point_of_hex
returns-clause-class c =
    let x = definition.Set (codes "C") (span 65 65 ∷ []) in by_tests 1000 some_defined (Some x) x false true false true false refl refl refl refl bad-41 refl

pub returns-clause-class_before_same_name : goal.returns-clause-class_before_same_name
unfolding canonical_size all_atoms point_text pattern_of spans_in tokens_in number_of point_of_hex
returns-clause-class_before_same_name c =
    let x = definition.Set (codes "t") (span 65 65 ∷ []) in by_tests 1000 some_defined (Some x) x false true false true true refl refl refl refl bad-41 refl

pub returns-clause-same_type : goal.returns-clause-same_type
unfolding with_definition canonical_size all_atoms point_text pattern_of spans_in tokens_in number_of point_of_hex action_in
returns-clause-same_type c = refl

pub returns-clause-predefined : goal.returns-clause-predefined
unfolding with_definition canonical_size all_atoms point_text pattern_of spans_in tokens_in number_of point_of_hex action_in
returns-clause-predefined c = refl

pub returns-clause-predefined_as_set : goal.returns-clause-predefined_as_set
unfolding canonical_size all_atoms point_text pattern_of spans_in tokens_in number_of point_of_hex
returns-clause-predefined_as_set c =
    let x = definition.Set (codes "valid") (span 97 97 ∷ []) in by_tests 1000 some_defined (Some x) x false true false false true refl refl refl refl good-61 refl

pub returns-clause-set_as_type : goal.returns-clause-set_as_type
unfolding with_definition canonical_size all_atoms point_text pattern_of spans_in tokens_in number_of point_of_hex action_in
returns-clause-set_as_type c = refl

pub returns-clause-rule_as_a_type : goal.returns-clause-rule_as_a_type
unfolding with_definition canonical_size all_atoms point_text pattern_of spans_in tokens_in number_of point_of_hex action_in
returns-clause-rule_as_a_type c = refl

pub returns-clause-rule_again : goal.returns-clause-rule_again
unfolding with_definition canonical_size all_atoms point_text pattern_of spans_in tokens_in number_of point_of_hex action_in
returns-clause-rule_again c = refl

pub returns-clause-whole_as_rule : goal.returns-clause-whole_as_rule
unfolding with_definition canonical_size all_atoms point_text pattern_of spans_in tokens_in number_of point_of_hex action_in
returns-clause-whole_as_rule c = refl

pub returns-clause-set_as_rule : goal.returns-clause-set_as_rule
unfolding with_definition canonical_size all_atoms point_text pattern_of spans_in tokens_in number_of point_of_hex action_in
returns-clause-set_as_rule c = refl
