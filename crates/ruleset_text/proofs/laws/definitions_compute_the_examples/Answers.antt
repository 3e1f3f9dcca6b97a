use Rattle.std.proofs.Common.{refl}
use Rattle.idn_text.specs.Points.{point_of_hex}
use Rattle.ruleset_text.specs.Names.{number_of}
use Rattle.ruleset_text.specs.Reading.{pattern_of}
use Rattle.ruleset_text.specs.Spans.{spans_in}
use Rattle.ruleset_text.specs.Tokens.{tokens_in}
use Rattle.ruleset_text.proofs.laws.definitions_compute_the_examples.Goals as goal

pub returns-clause-demand : goal.returns-clause-demand
unfolding pattern_of spans_in tokens_in number_of point_of_hex
returns-clause-demand c = refl

pub returns-clause-unknown : goal.returns-clause-unknown
unfolding pattern_of spans_in tokens_in number_of point_of_hex
returns-clause-unknown c = refl

pub returns-clause-no_item : goal.returns-clause-no_item
unfolding pattern_of spans_in tokens_in number_of point_of_hex
returns-clause-no_item c = refl

pub returns-clause-not_closed : goal.returns-clause-not_closed
unfolding pattern_of spans_in tokens_in number_of point_of_hex
returns-clause-not_closed c = refl

pub returns-clause-not_opened : goal.returns-clause-not_opened
unfolding pattern_of spans_in tokens_in number_of point_of_hex
returns-clause-not_opened c = refl

pub returns-clause-no_branch : goal.returns-clause-no_branch
unfolding pattern_of spans_in tokens_in number_of point_of_hex
returns-clause-no_branch c = refl

pub returns-clause-first_branch : goal.returns-clause-first_branch
unfolding pattern_of spans_in tokens_in number_of point_of_hex
returns-clause-first_branch c = refl

pub returns-clause-start_many : goal.returns-clause-start_many
unfolding pattern_of spans_in tokens_in number_of point_of_hex
returns-clause-start_many c = refl

pub returns-clause-two_signs : goal.returns-clause-two_signs
unfolding pattern_of spans_in tokens_in number_of point_of_hex
returns-clause-two_signs c = refl

pub returns-clause-no_atom : goal.returns-clause-no_atom
unfolding pattern_of spans_in tokens_in number_of point_of_hex
returns-clause-no_atom c = refl

pub returns-clause-one_word : goal.returns-clause-one_word
unfolding pattern_of spans_in tokens_in number_of point_of_hex
returns-clause-one_word c = refl

pub returns-clause-stops : goal.returns-clause-stops
unfolding pattern_of spans_in tokens_in number_of point_of_hex
returns-clause-stops c = refl

pub returns-clause-no_name : goal.returns-clause-no_name
unfolding pattern_of spans_in tokens_in number_of point_of_hex
returns-clause-no_name c = refl

pub returns-clause-word : goal.returns-clause-word
unfolding pattern_of spans_in tokens_in number_of point_of_hex
returns-clause-word c = refl

pub returns-clause-place : goal.returns-clause-place
unfolding pattern_of spans_in tokens_in number_of point_of_hex
returns-clause-place c = refl

pub returns-clause-nothing : goal.returns-clause-nothing
unfolding pattern_of spans_in tokens_in number_of point_of_hex
returns-clause-nothing c = refl

pub returns-clause-contexts : goal.returns-clause-contexts
unfolding pattern_of spans_in tokens_in number_of point_of_hex
returns-clause-contexts c = refl

pub returns-clause-anchor_alone : goal.returns-clause-anchor_alone
unfolding pattern_of spans_in tokens_in number_of point_of_hex
returns-clause-anchor_alone c = refl

pub returns-clause-no_anchor : goal.returns-clause-no_anchor
unfolding pattern_of spans_in tokens_in number_of point_of_hex
returns-clause-no_anchor c = refl

pub returns-clause-two_anchors : goal.returns-clause-two_anchors
unfolding pattern_of spans_in tokens_in number_of point_of_hex
returns-clause-two_anchors c = refl

pub returns-clause-branch_without : goal.returns-clause-branch_without
unfolding pattern_of spans_in tokens_in number_of point_of_hex
returns-clause-branch_without c = refl

pub returns-clause-anchor_in_a_group : goal.returns-clause-anchor_in_a_group
unfolding pattern_of spans_in tokens_in number_of point_of_hex
returns-clause-anchor_in_a_group c = refl

pub returns-clause-end_before : goal.returns-clause-end_before
unfolding pattern_of spans_in tokens_in number_of point_of_hex
returns-clause-end_before c = refl

pub returns-clause-end_in_a_group : goal.returns-clause-end_in_a_group
unfolding pattern_of spans_in tokens_in number_of point_of_hex
returns-clause-end_in_a_group c = refl

pub returns-clause-start_last : goal.returns-clause-start_last
unfolding pattern_of spans_in tokens_in number_of point_of_hex
returns-clause-start_last c = refl

pub returns-clause-no_context : goal.returns-clause-no_context
unfolding pattern_of spans_in tokens_in number_of point_of_hex
returns-clause-no_context c = refl

pub returns-clause-range : goal.returns-clause-range
unfolding pattern_of spans_in tokens_in number_of point_of_hex
returns-clause-range c = refl

pub returns-clause-sequence : goal.returns-clause-sequence
unfolding pattern_of spans_in tokens_in number_of point_of_hex
returns-clause-sequence c = refl

pub returns-clause-spans : goal.returns-clause-spans
unfolding pattern_of spans_in tokens_in number_of point_of_hex
returns-clause-spans c = refl

pub returns-clause-falling : goal.returns-clause-falling
unfolding pattern_of spans_in tokens_in number_of point_of_hex
returns-clause-falling c = refl

pub returns-clause-touching : goal.returns-clause-touching
unfolding pattern_of spans_in tokens_in number_of point_of_hex
returns-clause-touching c = refl

pub returns-clause-turned : goal.returns-clause-turned
unfolding pattern_of spans_in tokens_in number_of point_of_hex
returns-clause-turned c = refl

pub returns-clause-set : goal.returns-clause-set
unfolding pattern_of spans_in tokens_in number_of point_of_hex
returns-clause-set c = refl

pub returns-clause-two_digits : goal.returns-clause-two_digits
unfolding pattern_of spans_in tokens_in number_of point_of_hex
returns-clause-two_digits c = refl

pub returns-clause-no_span : goal.returns-clause-no_span
unfolding pattern_of spans_in tokens_in number_of point_of_hex
returns-clause-no_span c = refl

pub returns-clause-open : goal.returns-clause-open
unfolding pattern_of spans_in tokens_in number_of point_of_hex
returns-clause-open c = refl

pub returns-clause-begun : goal.returns-clause-begun
unfolding pattern_of spans_in tokens_in number_of point_of_hex
returns-clause-begun c = refl

pub returns-clause-name : goal.returns-clause-name
unfolding pattern_of spans_in tokens_in number_of point_of_hex
returns-clause-name c = refl

pub returns-clause-digit_first : goal.returns-clause-digit_first
unfolding pattern_of spans_in tokens_in number_of point_of_hex
returns-clause-digit_first c = refl

pub returns-clause-hyphen : goal.returns-clause-hyphen
unfolding pattern_of spans_in tokens_in number_of point_of_hex
returns-clause-hyphen c = refl

pub returns-clause-long_name : goal.returns-clause-long_name
unfolding pattern_of spans_in tokens_in number_of point_of_hex
returns-clause-long_name c = refl
