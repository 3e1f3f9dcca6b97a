use Rattle.std.specs.Prelude.{codes}
use Rattle.std.proofs.Common.{None, ℕ, ◌+◌, List, [], ◌∷◌, Result, Ok, refl, ap, ◌∙◌}
use Rattle.idn_text.specs.Points.{point_of_hex}
use Rattle.variant_table.specs.Faults.{LineFault}
use Rattle.variant_table.specs.declared.version.Version.TheVariants.{Two}
use Rattle.ruleset_text.specs.Definitions.{nothing_defined}
use Rattle.variant_table.specs.Entries.{Entry, TableValue, empty_table, table_of}
use Rattle.variant_table.specs.Ranges.{point_entry}
use Rattle.variant_table.specs.Reading.{◌>>=◌, in_line, table_of_lines, with_lines, with_raw_line, with_line, with_form, with_entries}
use Rattle.variant_table.proofs.ExampleLemmas.{three, with_form-range, with_form-blocked, with_form-marked_twice, with_form-from_capital, with_form-b, with_form-b_again}
use Rattle.variant_table.proofs.laws.definitions_compute_the_examples_of_version_2.Goals as goal
use Rattle.ruleset_text.specs.Canonical.{point_text}
use Rattle.ruleset_text.specs.EntrySteps.{entry_in}
use Rattle.idn_class.specs.declared.properties.Properties.TheVariants.{Profile}

pub returns-clause-written : goal.returns-clause-written
unfolding point_of_hex point_text entry_in table_of_lines with_lines with_raw_line with_line with_form with_entries
returns-clause-written c = refl

pub returns-clause-empty : goal.returns-clause-empty
unfolding point_of_hex point_text entry_in table_of_lines with_lines with_raw_line with_line with_form with_entries
returns-clause-empty c = refl

pub returns-clause-falling : goal.returns-clause-falling
unfolding point_of_hex point_text entry_in table_of_lines with_lines with_raw_line with_line with_form with_entries
returns-clause-falling c = refl

pub returns-clause-marked_source : goal.returns-clause-marked_source
unfolding point_of_hex point_text entry_in table_of_lines with_lines with_raw_line with_line with_form with_entries
returns-clause-marked_source c = refl

pub returns-clause-variant_range : goal.returns-clause-variant_range
unfolding point_of_hex point_text entry_in table_of_lines with_lines with_raw_line with_line with_form with_entries
returns-clause-variant_range c = refl

pub returns-clause-again : goal.returns-clause-again
unfolding point_of_hex point_text entry_in table_of_lines with_lines with_raw_line with_line with_form with_entries
returns-clause-again c = refl

pub returns-clause-stops : goal.returns-clause-stops
unfolding point_of_hex point_text entry_in table_of_lines with_lines with_raw_line with_line with_form with_entries
returns-clause-stops c = refl

pub returns-clause-stops_apart : goal.returns-clause-stops_apart
unfolding point_of_hex point_text entry_in table_of_lines with_lines with_raw_line with_line with_form with_entries
returns-clause-stops_apart c = refl

pub returns-clause-limit : goal.returns-clause-limit
unfolding point_of_hex point_text entry_in table_of_lines with_lines with_raw_line with_line with_form with_entries
returns-clause-limit c = refl

-- what a last line of this number gives
abbrev read : ℕ → TableValue → Result (List Entry) LineFault → Result TableValue (ℕ × LineFault)
read number t r = in_line number (r >>= λ all. Ok (record t { entries = all })) >>= λ u. Ok u

-- what a line of this number gives, with a last line after it, which comes after so many bytes
abbrev then : ℕ → ℕ → List ℕ → Result (List Entry) LineFault → Result TableValue (ℕ × LineFault)
then number bytes line r = in_line number (r >>= λ all. Ok (table_of Two (nothing_defined Profile) all)) >>= λ t. in_line (number + 1) (with_raw_line bytes t line) >>= λ u. Ok u

pub returns-clause-table : goal.returns-clause-table
unfolding point_of_hex entry_in table_of_lines with_lines with_raw_line with_line
returns-clause-table c = ap (then 2 22 (codes "0078|!0079:007A")) with_form-range ∙ ap (read 3 (table_of Two (nothing_defined Profile) three)) with_form-blocked

pub returns-clause-same_variant : goal.returns-clause-same_variant
unfolding point_of_hex entry_in table_of_lines with_lines with_raw_line with_line
returns-clause-same_variant c = ap (read 2 (empty_table Profile Two)) with_form-marked_twice

pub returns-clause-bad_class : goal.returns-clause-bad_class
unfolding point_of_hex entry_in table_of_lines with_lines with_raw_line with_line
returns-clause-bad_class c = ap (read 2 (empty_table Profile Two)) with_form-from_capital

pub returns-clause-same_source : goal.returns-clause-same_source
unfolding point_of_hex entry_in table_of_lines with_lines with_raw_line with_line
returns-clause-same_source c = ap (then 2 16 (codes "0061..0063")) with_form-b ∙ ap (read 3 (table_of Two (nothing_defined Profile) (point_entry None 0x62 ∷ []))) with_form-b_again
