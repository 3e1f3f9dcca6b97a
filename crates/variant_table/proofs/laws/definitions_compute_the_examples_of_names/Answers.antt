use Rattle.std.proofs.Common.{refl}
use Rattle.idn_text.specs.Points.{point_of_hex}
use Rattle.ruleset_text.specs.Definitions.{all_atoms, canonical_size}
use Rattle.ruleset_text.specs.Definitions.{with_definition as with_definition_of}
use Rattle.ruleset_text.specs.Names.{number_of}
use Rattle.ruleset_text.specs.Reading.{pattern_of}
use Rattle.ruleset_text.specs.Spans.{spans_in}
use Rattle.ruleset_text.specs.Tokens.{tokens_in}
use Rattle.variant_table.specs.Reading.{table_of_lines, with_definition, with_lines, with_raw_line, with_line, with_form, with_entries}
use Rattle.variant_table.proofs.laws.definitions_compute_the_examples_of_names.Goals as goal
use Rattle.ruleset_text.specs.Canonical.{point_text}
use Rattle.ruleset_text.specs.EntrySteps.{entry_in}

pub returns-clause-syntax : goal.returns-clause-syntax
unfolding point_of_hex point_text entry_in table_of_lines with_lines with_raw_line with_line with_form with_entries with_definition with_definition_of canonical_size all_atoms number_of pattern_of spans_in tokens_in
returns-clause-syntax c = (refl, (refl, (refl, (refl, (refl, (refl, (refl, (refl, (refl, (refl, (refl, tt)))))))))))

pub returns-clause-names : goal.returns-clause-names
unfolding point_of_hex point_text entry_in table_of_lines with_lines with_raw_line with_line with_form with_entries with_definition with_definition_of canonical_size all_atoms number_of pattern_of spans_in tokens_in
returns-clause-names c = (refl, (refl, (refl, (refl, (refl, (refl, (refl, tt)))))))

pub returns-clause-before_limit : goal.returns-clause-before_limit
unfolding point_of_hex point_text entry_in table_of_lines with_lines with_raw_line with_line with_form with_entries with_definition with_definition_of canonical_size all_atoms number_of pattern_of spans_in tokens_in
returns-clause-before_limit c = refl

pub returns-clause-before_class : goal.returns-clause-before_class
unfolding point_of_hex point_text entry_in table_of_lines with_lines with_raw_line with_line with_form with_entries with_definition with_definition_of canonical_size all_atoms number_of pattern_of spans_in tokens_in
returns-clause-before_class c = refl

pub returns-clause-later : goal.returns-clause-later
unfolding point_of_hex point_text entry_in table_of_lines with_lines with_raw_line with_line with_form with_entries with_definition with_definition_of canonical_size all_atoms number_of pattern_of spans_in tokens_in
returns-clause-later c = refl

pub returns-clause-conditions : goal.returns-clause-conditions
unfolding point_of_hex point_text entry_in table_of_lines with_lines with_raw_line with_line with_form with_entries with_definition with_definition_of canonical_size all_atoms number_of pattern_of spans_in tokens_in
returns-clause-conditions c = refl

pub returns-clause-range : goal.returns-clause-range
unfolding point_of_hex point_text entry_in table_of_lines with_lines with_raw_line with_line with_form with_entries with_definition with_definition_of canonical_size all_atoms number_of pattern_of spans_in tokens_in
returns-clause-range c = refl

pub returns-clause-apart : goal.returns-clause-apart
unfolding point_of_hex point_text entry_in table_of_lines with_lines with_raw_line with_line with_form with_entries with_definition with_definition_of canonical_size all_atoms number_of pattern_of spans_in tokens_in
returns-clause-apart c = refl

pub returns-clause-one_without : goal.returns-clause-one_without
unfolding point_of_hex point_text entry_in table_of_lines with_lines with_raw_line with_line with_form with_entries with_definition with_definition_of canonical_size all_atoms number_of pattern_of spans_in tokens_in
returns-clause-one_without c = refl

pub returns-clause-the_other : goal.returns-clause-the_other
unfolding point_of_hex point_text entry_in table_of_lines with_lines with_raw_line with_line with_form with_entries with_definition with_definition_of canonical_size all_atoms number_of pattern_of spans_in tokens_in
returns-clause-the_other c = refl

pub returns-clause-same : goal.returns-clause-same
unfolding point_of_hex point_text entry_in table_of_lines with_lines with_raw_line with_line with_form with_entries with_definition with_definition_of canonical_size all_atoms number_of pattern_of spans_in tokens_in
returns-clause-same c = refl

pub returns-clause-the_source : goal.returns-clause-the_source
unfolding point_of_hex point_text entry_in table_of_lines with_lines with_raw_line with_line with_form with_entries with_definition with_definition_of canonical_size all_atoms number_of pattern_of spans_in tokens_in
returns-clause-the_source c = refl

pub returns-clause-written : goal.returns-clause-written
unfolding point_of_hex point_text entry_in table_of_lines with_lines with_raw_line with_line with_form with_entries with_definition with_definition_of canonical_size all_atoms number_of pattern_of spans_in tokens_in
returns-clause-written c = refl

pub returns-clause-written_out : goal.returns-clause-written_out
unfolding point_of_hex point_text entry_in table_of_lines with_lines with_raw_line with_line with_form with_entries with_definition with_definition_of canonical_size all_atoms number_of pattern_of spans_in tokens_in
returns-clause-written_out c = refl

pub returns-clause-typed_range : goal.returns-clause-typed_range
unfolding point_of_hex point_text entry_in table_of_lines with_lines with_raw_line with_line with_form with_entries with_definition with_definition_of canonical_size all_atoms number_of pattern_of spans_in tokens_in
returns-clause-typed_range c = refl

pub returns-clause-predefined : goal.returns-clause-predefined
unfolding point_of_hex point_text entry_in table_of_lines with_lines with_raw_line with_line with_form with_entries with_definition with_definition_of canonical_size all_atoms number_of pattern_of spans_in tokens_in
returns-clause-predefined c = refl

pub returns-clause-marks_are_types : goal.returns-clause-marks_are_types
unfolding point_of_hex point_text entry_in table_of_lines with_lines with_raw_line with_line with_form with_entries with_definition with_definition_of canonical_size all_atoms number_of pattern_of spans_in tokens_in
returns-clause-marks_are_types c = refl

pub returns-clause-other_types : goal.returns-clause-other_types
unfolding point_of_hex point_text entry_in table_of_lines with_lines with_raw_line with_line with_form with_entries with_definition with_definition_of canonical_size all_atoms number_of pattern_of spans_in tokens_in
returns-clause-other_types c = refl

pub returns-clause-written_with_marks : goal.returns-clause-written_with_marks
unfolding point_of_hex point_text entry_in table_of_lines with_lines with_raw_line with_line with_form with_entries with_definition with_definition_of canonical_size all_atoms number_of pattern_of spans_in tokens_in
returns-clause-written_with_marks c = refl

pub returns-clause-written_without_marks : goal.returns-clause-written_without_marks
unfolding point_of_hex point_text entry_in table_of_lines with_lines with_raw_line with_line with_form with_entries with_definition with_definition_of canonical_size all_atoms number_of pattern_of spans_in tokens_in
returns-clause-written_without_marks c = refl
