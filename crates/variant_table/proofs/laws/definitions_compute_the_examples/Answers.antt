use Rattle.std.specs.Prelude.{codes}
use Rattle.std.proofs.Common.{◌+◌, ℕ, List, [], ◌∷◌, Result, Ok, refl, ap, ◌∙◌}
use Rattle.idn_text.specs.Points.{point_of_hex}
use Rattle.variant_table.specs.Faults.{LineFault}
use Rattle.variant_table.specs.declared.version.Version.TheVariants.{One}
use Rattle.ruleset_text.specs.Definitions.{nothing_defined}
use Rattle.variant_table.specs.Entries.{Entry, TableValue, empty_table, table_of}
use Rattle.variant_table.specs.Reading.{◌>>=◌, in_line, table_of_lines, with_lines, with_raw_line, with_line, with_form, with_entries}
use Rattle.variant_table.proofs.ExampleLemmas.{letter, with_form-capital, with_form-own_variant, with_form-letter, with_form-letter_again}
use Rattle.variant_table.proofs.laws.definitions_compute_the_examples.Goals as goal
use Rattle.ruleset_text.specs.Canonical.{point_text}
use Rattle.ruleset_text.specs.EntrySteps.{entry_in}
use Rattle.idn_class.specs.declared.properties.Properties.TheVariants.{Profile}

pub returns-clause-read : goal.returns-clause-read
unfolding point_of_hex point_text entry_in table_of_lines with_lines with_raw_line with_line with_form with_entries
returns-clause-read c = refl

pub returns-clause-written : goal.returns-clause-written
unfolding point_of_hex point_text entry_in table_of_lines with_lines with_raw_line with_line with_form with_entries
returns-clause-written c = refl

pub returns-clause-six : goal.returns-clause-six
unfolding point_of_hex point_text entry_in table_of_lines with_lines with_raw_line with_line with_form with_entries
returns-clause-six c = refl

pub returns-clause-syntax : goal.returns-clause-syntax
unfolding point_of_hex point_text entry_in table_of_lines with_lines with_raw_line with_line with_form with_entries
returns-clause-syntax c = refl

pub returns-clause-range : goal.returns-clause-range
unfolding point_of_hex point_text entry_in table_of_lines with_lines with_raw_line with_line with_form with_entries
returns-clause-range c = refl

pub returns-clause-blocked : goal.returns-clause-blocked
unfolding point_of_hex point_text entry_in table_of_lines with_lines with_raw_line with_line with_form with_entries
returns-clause-blocked c = refl

pub returns-clause-version : goal.returns-clause-version
unfolding point_of_hex point_text entry_in table_of_lines with_lines with_raw_line with_line with_form with_entries
returns-clause-version c = refl

pub returns-clause-later : goal.returns-clause-later
unfolding point_of_hex point_text entry_in table_of_lines with_lines with_raw_line with_line with_form with_entries
returns-clause-later c = refl

pub returns-clause-limit : goal.returns-clause-limit
unfolding point_of_hex point_text entry_in table_of_lines with_lines with_raw_line with_line with_form with_entries
returns-clause-limit c = refl

pub returns-clause-gaps : goal.returns-clause-gaps
unfolding point_of_hex point_text entry_in table_of_lines with_lines with_raw_line with_line with_form with_entries
returns-clause-gaps c = refl

pub returns-clause-chain : goal.returns-clause-chain
unfolding point_of_hex point_text entry_in table_of_lines with_lines with_raw_line with_line with_form with_entries
returns-clause-chain c = refl

pub returns-clause-places : goal.returns-clause-places
unfolding point_of_hex point_text entry_in table_of_lines with_lines with_raw_line with_line with_form with_entries
returns-clause-places c = refl

-- what a last line of this number gives
abbrev read : ℕ → TableValue → Result (List Entry) LineFault → Result TableValue (ℕ × LineFault)
read number t r = in_line number (r >>= λ all. Ok (record t { entries = all })) >>= λ u. Ok u

-- what a line of this number gives, with a last line after it, which comes after so many bytes
abbrev then : ℕ → ℕ → List ℕ → Result (List Entry) LineFault → Result TableValue (ℕ × LineFault)
then number bytes line r = in_line number (r >>= λ all. Ok (table_of One (nothing_defined Profile) all)) >>= λ t. in_line (number + 1) (with_raw_line bytes t line) >>= λ u. Ok u

pub returns-clause-bad_class : goal.returns-clause-bad_class
unfolding point_of_hex entry_in table_of_lines with_lines with_raw_line with_line
returns-clause-bad_class c = ap (read 1 (empty_table Profile One)) with_form-capital

pub returns-clause-same_variant : goal.returns-clause-same_variant
unfolding point_of_hex entry_in table_of_lines with_lines with_raw_line with_line
returns-clause-same_variant c = ap (read 1 (empty_table Profile One)) with_form-own_variant

pub returns-clause-same_source : goal.returns-clause-same_source
unfolding point_of_hex entry_in table_of_lines with_lines with_raw_line with_line
returns-clause-same_source c = ap (then 1 5 (codes "0061")) with_form-letter ∙ ap (read 2 (table_of One (nothing_defined Profile) (letter [] ∷ []))) with_form-letter_again
