use Rattle.std.proofs.Common.{refl}
use Rattle.idn_text.specs.Points.{point_of_hex}
use Rattle.ruleset_text.specs.Definitions.{all_atoms, canonical_size}
use Rattle.ruleset_text.specs.Definitions.{with_definition as with_definition_of}
use Rattle.ruleset_text.specs.Names.{number_of}
use Rattle.ruleset_text.specs.Reading.{pattern_of}
use Rattle.ruleset_text.specs.Spans.{spans_in}
use Rattle.ruleset_text.specs.Tokens.{tokens_in}
use Rattle.variant_table.specs.Reading.{table_of_lines, with_definition, with_lines, with_raw_line, with_line, with_form, with_entries}
use Rattle.variant_table.proofs.laws.definitions_compute_the_examples_of_rulesets.Goals as goal
use Rattle.ruleset_text.specs.Canonical.{point_text}
use Rattle.ruleset_text.specs.EntrySteps.{entry_in}

pub returns-clause-empty : goal.returns-clause-empty
unfolding point_of_hex point_text entry_in table_of_lines with_lines with_raw_line with_line with_form with_entries
returns-clause-empty c = refl

pub returns-clause-unnamed : goal.returns-clause-unnamed
unfolding point_of_hex point_text entry_in table_of_lines with_lines with_raw_line with_line with_form with_entries
returns-clause-unnamed c = refl

pub returns-clause-version_2 : goal.returns-clause-version_2
unfolding point_of_hex point_text entry_in table_of_lines with_lines with_raw_line with_line with_form with_entries
returns-clause-version_2 c = refl

pub returns-clause-version_4 : goal.returns-clause-version_4
unfolding point_of_hex point_text entry_in table_of_lines with_lines with_raw_line with_line with_form with_entries
returns-clause-version_4 c = refl

pub returns-clause-commented : goal.returns-clause-commented
unfolding point_of_hex point_text entry_in table_of_lines with_lines with_raw_line with_line with_form with_entries
returns-clause-commented c = refl

pub returns-clause-alone : goal.returns-clause-alone
unfolding point_of_hex point_text entry_in table_of_lines with_lines with_raw_line with_line with_form with_entries
returns-clause-alone c = refl

pub returns-clause-again : goal.returns-clause-again
unfolding point_of_hex point_text entry_in table_of_lines with_lines with_raw_line with_line with_form with_entries
returns-clause-again c = refl

pub returns-clause-falling : goal.returns-clause-falling
unfolding point_of_hex point_text entry_in table_of_lines with_lines with_raw_line with_line with_form with_entries
returns-clause-falling c = refl

pub returns-clause-set : goal.returns-clause-set
unfolding point_of_hex point_text entry_in table_of_lines with_lines with_raw_line with_line with_form with_entries
returns-clause-set c = refl

pub returns-clause-later : goal.returns-clause-later
unfolding point_of_hex point_text entry_in table_of_lines with_lines with_raw_line with_line with_form with_entries
returns-clause-later c = refl

pub returns-clause-limit : goal.returns-clause-limit
unfolding point_of_hex point_text entry_in table_of_lines with_lines with_raw_line with_line with_form with_entries
returns-clause-limit c = refl

pub returns-clause-written : goal.returns-clause-written
unfolding point_of_hex point_text entry_in table_of_lines with_lines with_raw_line with_line with_form with_entries
returns-clause-written c = refl

pub returns-clause-two_marks : goal.returns-clause-two_marks
unfolding point_of_hex point_text entry_in table_of_lines with_lines with_raw_line with_line with_form with_entries
returns-clause-two_marks c = refl

pub returns-clause-no_source : goal.returns-clause-no_source
unfolding point_of_hex point_text entry_in table_of_lines with_lines with_raw_line with_line with_form with_entries
returns-clause-no_source c = refl

pub returns-clause-marked : goal.returns-clause-marked
unfolding point_of_hex point_text entry_in table_of_lines with_lines with_raw_line with_line with_form with_entries
returns-clause-marked c = refl

pub returns-clause-defined : goal.returns-clause-defined
unfolding point_of_hex point_text entry_in table_of_lines with_lines with_raw_line with_line with_form with_entries with_definition with_definition_of canonical_size all_atoms number_of pattern_of spans_in tokens_in
returns-clause-defined c = refl

pub returns-clause-defined_written : goal.returns-clause-defined_written
unfolding point_of_hex point_text entry_in table_of_lines with_lines with_raw_line with_line with_form with_entries with_definition with_definition_of canonical_size all_atoms number_of pattern_of spans_in tokens_in
returns-clause-defined_written c = refl

pub returns-clause-defined_in_version_2 : goal.returns-clause-defined_in_version_2
unfolding point_of_hex point_text entry_in table_of_lines with_lines with_raw_line with_line with_form with_entries with_definition with_definition_of canonical_size all_atoms number_of pattern_of spans_in tokens_in
returns-clause-defined_in_version_2 c = refl

pub returns-clause-same_name : goal.returns-clause-same_name
unfolding point_of_hex point_text entry_in table_of_lines with_lines with_raw_line with_line with_form with_entries with_definition with_definition_of canonical_size all_atoms number_of pattern_of spans_in tokens_in
returns-clause-same_name c = refl

pub returns-clause-no_such_name : goal.returns-clause-no_such_name
unfolding point_of_hex point_text entry_in table_of_lines with_lines with_raw_line with_line with_form with_entries with_definition with_definition_of canonical_size all_atoms number_of pattern_of spans_in tokens_in
returns-clause-no_such_name c = refl

pub returns-clause-no_name : goal.returns-clause-no_name
unfolding point_of_hex point_text entry_in table_of_lines with_lines with_raw_line with_line with_form with_entries with_definition with_definition_of canonical_size all_atoms number_of pattern_of spans_in tokens_in
returns-clause-no_name c = refl

pub returns-clause-stars : goal.returns-clause-stars
unfolding point_of_hex point_text entry_in table_of_lines with_lines with_raw_line with_line with_form with_entries with_definition with_definition_of canonical_size all_atoms number_of pattern_of spans_in tokens_in
returns-clause-stars c = refl

pub returns-clause-demand : goal.returns-clause-demand
unfolding point_of_hex point_text entry_in table_of_lines with_lines with_raw_line with_line with_form with_entries with_definition with_definition_of canonical_size all_atoms number_of pattern_of spans_in tokens_in
returns-clause-demand c = refl

pub returns-clause-conditional_gaps : goal.returns-clause-conditional_gaps
returns-clause-conditional_gaps c = refl

pub returns-clause-without_reverse : goal.returns-clause-without_reverse
returns-clause-without_reverse c = refl

pub returns-clause-condition_in_version_2 : goal.returns-clause-condition_in_version_2
unfolding point_of_hex point_text entry_in table_of_lines with_lines with_raw_line with_line with_form with_entries with_definition with_definition_of canonical_size all_atoms number_of pattern_of spans_in tokens_in
returns-clause-condition_in_version_2 c = refl

pub returns-clause-demand_in_version_2 : goal.returns-clause-demand_in_version_2
unfolding point_of_hex point_text entry_in table_of_lines with_lines with_raw_line with_line with_form with_entries with_definition with_definition_of canonical_size all_atoms number_of pattern_of spans_in tokens_in
returns-clause-demand_in_version_2 c = refl

pub returns-clause-capital : goal.returns-clause-capital
unfolding point_of_hex point_text entry_in table_of_lines with_lines with_raw_line with_line with_form with_entries with_definition with_definition_of canonical_size all_atoms number_of pattern_of spans_in tokens_in
returns-clause-capital c = refl

pub returns-clause-invalid : goal.returns-clause-invalid
unfolding point_of_hex point_text entry_in table_of_lines with_lines with_raw_line with_line with_form with_entries with_definition with_definition_of canonical_size all_atoms number_of pattern_of spans_in tokens_in
returns-clause-invalid c = refl

pub returns-clause-invalid_range : goal.returns-clause-invalid_range
unfolding point_of_hex point_text entry_in table_of_lines with_lines with_raw_line with_line with_form with_entries with_definition with_definition_of canonical_size all_atoms number_of pattern_of spans_in tokens_in
returns-clause-invalid_range c = refl

pub returns-clause-invalid_in_version_2 : goal.returns-clause-invalid_in_version_2
unfolding point_of_hex point_text entry_in table_of_lines with_lines with_raw_line with_line with_form with_entries with_definition with_definition_of canonical_size all_atoms number_of pattern_of spans_in tokens_in
returns-clause-invalid_in_version_2 c = refl

pub returns-clause-gaps : goal.returns-clause-gaps
returns-clause-gaps c = refl

pub returns-clause-without_source : goal.returns-clause-without_source
returns-clause-without_source c = refl

pub returns-clause-typed_gaps : goal.returns-clause-typed_gaps
returns-clause-typed_gaps c = refl

pub returns-clause-type_in_version_2 : goal.returns-clause-type_in_version_2
unfolding point_of_hex point_text entry_in table_of_lines with_lines with_raw_line with_line with_form with_entries with_definition with_definition_of canonical_size all_atoms number_of pattern_of spans_in tokens_in
returns-clause-type_in_version_2 c = refl
