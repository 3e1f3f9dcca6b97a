use Rattle.std.proofs.Common.{refl}
use Rattle.idn_text.specs.Points.{point_of_hex}
use Rattle.ruleset_text.specs.EntrySteps.{entry_in}
use Rattle.ruleset_text.proofs.laws.definitions_compute_the_entries.Goals as goal

pub returns-clause-entry : goal.returns-clause-entry
unfolding entry_in point_of_hex
returns-clause-entry c = refl

pub returns-clause-types : goal.returns-clause-types
unfolding entry_in point_of_hex
returns-clause-types c = refl

pub returns-clause-range_with_type : goal.returns-clause-range_with_type
unfolding entry_in point_of_hex
returns-clause-range_with_type c = refl

pub returns-clause-words_as_names : goal.returns-clause-words_as_names
unfolding entry_in point_of_hex
returns-clause-words_as_names c = refl

pub returns-clause-range : goal.returns-clause-range
unfolding entry_in point_of_hex
returns-clause-range c = refl

pub returns-clause-mark_with_type : goal.returns-clause-mark_with_type
unfolding entry_in point_of_hex
returns-clause-mark_with_type c = refl

pub returns-clause-blocked_with_type : goal.returns-clause-blocked_with_type
unfolding entry_in point_of_hex
returns-clause-blocked_with_type c = refl

pub returns-clause-two_types : goal.returns-clause-two_types
unfolding entry_in point_of_hex
returns-clause-two_types c = refl

pub returns-clause-no_type : goal.returns-clause-no_type
unfolding entry_in point_of_hex
returns-clause-no_type c = refl

pub returns-clause-types_without_comma : goal.returns-clause-types_without_comma
unfolding entry_in point_of_hex
returns-clause-types_without_comma c = refl

pub returns-clause-type_last : goal.returns-clause-type_last
unfolding entry_in point_of_hex
returns-clause-type_last c = refl

pub returns-clause-two_conditions : goal.returns-clause-two_conditions
unfolding entry_in point_of_hex
returns-clause-two_conditions c = refl

pub returns-clause-no_rule : goal.returns-clause-no_rule
unfolding entry_in point_of_hex
returns-clause-no_rule c = refl

pub returns-clause-no_variant : goal.returns-clause-no_variant
unfolding entry_in point_of_hex
returns-clause-no_variant c = refl

pub returns-clause-no_source : goal.returns-clause-no_source
unfolding entry_in point_of_hex
returns-clause-no_source c = refl

pub returns-clause-no_point : goal.returns-clause-no_point
unfolding entry_in point_of_hex
returns-clause-no_point c = refl

pub returns-clause-range_as_variant : goal.returns-clause-range_as_variant
unfolding entry_in point_of_hex
returns-clause-range_as_variant c = refl

pub returns-clause-range_of_sequence : goal.returns-clause-range_of_sequence
unfolding entry_in point_of_hex
returns-clause-range_of_sequence c = refl

pub returns-clause-two_marks : goal.returns-clause-two_marks
unfolding entry_in point_of_hex
returns-clause-two_marks c = refl

pub returns-clause-bar_last : goal.returns-clause-bar_last
unfolding entry_in point_of_hex
returns-clause-bar_last c = refl

pub returns-clause-comma : goal.returns-clause-comma
unfolding entry_in point_of_hex
returns-clause-comma c = refl

pub returns-clause-comment_last : goal.returns-clause-comment_last
unfolding entry_in point_of_hex
returns-clause-comment_last c = refl

pub returns-clause-falling : goal.returns-clause-falling
unfolding entry_in point_of_hex
returns-clause-falling c = refl

pub returns-clause-variant_of_range : goal.returns-clause-variant_of_range
unfolding entry_in point_of_hex
returns-clause-variant_of_range c = refl

pub returns-clause-colon_first : goal.returns-clause-colon_first
unfolding entry_in point_of_hex
returns-clause-colon_first c = refl

pub returns-clause-two_bars : goal.returns-clause-two_bars
unfolding entry_in point_of_hex
returns-clause-two_bars c = refl

pub returns-clause-nothing : goal.returns-clause-nothing
unfolding entry_in point_of_hex
returns-clause-nothing c = refl
