-- Worked examples of the definitions, by computation.
use Rattle.std.specs.Prelude.{◌≡◌, ℕ, List, [], ◌∷◌, ◌++◌, Some, None, Option, Ok, Err, codes, map}
use Rattle.idn_text.specs.Points.{utf8_of}
use Rattle.idn_text.specs.Lines.{lines_of}
use Rattle.idn_text.specs.declared.refusal.Refusal.TheVariants.{Disallowed, Empty, LineTooLong, NotInTable, NotUtf8}
use Rattle.idn_text.specs.declared.refusal.Refusal.TheVariants.{NotValid, Syntax, WriteFault}
use Rattle.variant_table.specs.declared.version.Version.TheVariants.{Two}
use Rattle.variant_table.specs.Entries.{TableValue, empty_table}
use Rattle.variant_table.specs.Ranges.{range_entries}
use Rattle.valid_labels.specs.Examples.{digits, edges, half_ra, leads, signs, some_a}
use Rattle.variant_list.specs.Examples.{a_or_two, b_invalid, entry, letter_or_hyphen, of_type, untyped}
use Rattle.idn2_options.specs.Settings.{Settings}
use Rattle.idn2_options.specs.Examples.{plain_run}
use Rattle.idn2_output.specs.OutputLines.{Output, Message}
use Rattle.idn2_refusals.specs.Messages.{line_message, table_message}
use Rattle.idn2_answers.specs.Transcript.{transcript, status_of, no_table}
use Rattle.idn2_refusals.specs.Reports.{closing_message}
use Rattle.idn2_answers.specs.Listings.{block, nth, nth_if_given, lesser_label, up_to}
use Rattle.idn2_answers.specs.Answers.{if_admitted, LineAnswer, line_answer}
use Rattle.idn2_answers.specs.Said.{said_line, table_line, trailer_line}
use Rattle.idn2_options.specs.declared.command_line.mode.Mode.TheVariants.{Register, Variants}
use Rattle.idn2_output.specs.declared.status.Status.TheVariants.{Refused}
use Rattle.idn_class.specs.declared.properties.Properties.TheVariants.{Profile}

-- sss, sß and ßs
abbrev pub three : List (List ℕ)
three = (115 ∷ 115 ∷ 115 ∷ []) ∷ (115 ∷ 0xDF ∷ []) ∷ (0xDF ∷ 115 ∷ []) ∷ []

-- messages, trailers and stops
pub record ExamplesOfARun : Type 0 where
  pub refused_line : line_message 2 Disallowed ≡ codes "idn2: line 2: 10 disallowed code point\n"
  pub faulty_table : table_message 1 Syntax [] ≡ codes "idn2: table line 1: 30 table syntax\n"
  pub write_fault : closing_message WriteFault ≡ codes "idn2: 61 write fault\n"
  pub checked : table_line 3 2 ≡ codes "#table 3 2"
  pub ended : trailer_line 3 None ≡ codes "#end 3"
  pub stopped : trailer_line 2 (Some (115 ∷ 0xDF ∷ [])) ≡ codes "#stop 2 " ++ utf8_of (115 ∷ 0xDF ∷ [])
  -- the limit-th variant and the tries-th candidate: the same label, one alone, the lesser of two, neither
  pub both : lesser_label (nth_if_given three (Some 2)) (nth three 2) ≡ Some (115 ∷ 0xDF ∷ [])
  pub tries_alone : lesser_label (nth_if_given three None) (nth three 3) ≡ Some (0xDF ∷ 115 ∷ [])
  pub limit_first : lesser_label (nth_if_given three (Some 1)) (nth three 3) ≡ Some (115 ∷ 115 ∷ 115 ∷ [])
  pub neither : lesser_label (nth_if_given three (Some 4)) (nth three 4) ≡ None
  pub up_to_the_second : up_to (Some (115 ∷ 0xDF ∷ [])) three ≡ (115 ∷ 115 ∷ 115 ∷ []) ∷ (115 ∷ 0xDF ∷ []) ∷ []

-- lines that are refused in each mode: a line that is too long, an empty one, and one that isn't UTF-8
pub record ExamplesOfLines (answer : List ℕ → LineAnswer) : Type 0 where
  pub too_long : line_answer answer None ≡ Err LineTooLong
  pub empty : line_answer answer (Some []) ≡ Err Empty
  pub not_utf8 : line_answer answer (Some (0xFF ∷ [])) ≡ Err NotUtf8

-- a listing from the start, with these bounds
abbrev pub listing : Option ℕ → ℕ → Settings
listing limit tries = record (plain_run Variants []) { file = codes "t"; limit = limit; tries = tries }

-- the table 0061..0063, 0078|!0079:007A of version 2
abbrev pub y_or_z : TableValue
y_or_z = record (empty_table Profile Two) {
  entries = range_entries None 0x61 0x63
      ++ entry (codes "x") (of_type 1 (codes "y") ∷ untyped (codes "z") ∷ []) ∷ [];
}

-- the table 0061|!0062, 0061-0061|0062-0062 of version 2
abbrev pub one_or_both : TableValue
one_or_both = record (empty_table Profile Two) {
  entries = entry (codes "a") (of_type 1 (codes "b") ∷ [])
      ∷ entry (codes "aa") (untyped (codes "bb") ∷ []) ∷ [];
}

-- aa spells aa, aaa and aaaa; of the labels that aaa spells, the four that have a hyphen first are not tested, and one
-- step goes over them; ay is blocked; and bb, which is blocked as two letters, is allocatable as one pair
pub record ExamplesOfBlocks : Type 0 where
  pub doubled : map said_line (block (listing None 1000000) a_or_two (codes "aa"))
      ≡ codes "aa\taa" ∷ codes "aaa\taaa" ∷ codes "aaaa\taaaa" ∷ codes "#end 3" ∷ []
  pub limited : map said_line (block (listing (Some 2) 1000000) a_or_two (codes "aa"))
      ≡ codes "aa\taa" ∷ codes "aaa\taaa" ∷ codes "#stop 2 aaa" ∷ []
  pub spent : map said_line (block (listing None 4) letter_or_hyphen (codes "aaa"))
      ≡ codes "a-a\ta-a" ∷ codes "aaa\taaa" ∷ codes "#stop 2 aaa" ∷ []
  pub stepped : map said_line (block (record (listing None 1000000) { steps = Some 3 }) letter_or_hyphen (codes "aaa"))
      ≡ codes "a-a\ta-a" ∷ codes "#stop 1 a-a" ∷ []
  pub y_blocked : map said_line (block (listing None 1000000) y_or_z (codes "ax"))
      ≡ codes "ax\tax\tallocatable" ∷ codes "ay\tay\tblocked" ∷ codes "az\taz\tallocatable" ∷ codes "#end 3" ∷ []
  pub allocatable_by_one_cutting : map said_line (block (listing None 1000000) one_or_both (codes "aa"))
      ≡ codes "aa\taa\tallocatable" ∷ codes "ab\tab\tblocked" ∷ codes "ba\tba\tblocked" ∷ codes "bb\tbb\tallocatable"
      ∷ codes "#end 4" ∷ []

-- labels under rulesets, and whether they are answered, and if not, why: a vowel sign after another one, and a code
-- point that is no source; a vowel that stands after its consonant; a hyphen in the third place; digits of two kinds;
-- no a where each label has one; half a letter where it may not stand; a source of the type invalid
pub record ExamplesOfRefusals : Type 0 where
  pub sign : if_admitted signs (2325 ∷ 2366 ∷ []) [] ≡ Ok []
  pub sign_after_sign : if_admitted signs (2325 ∷ 2366 ∷ 2366 ∷ []) [] ≡ Err NotValid
  pub no_source : if_admitted signs (2325 ∷ 2366 ∷ 2366 ∷ 97 ∷ []) [] ≡ Err NotInTable
  pub lead_at_end : if_admitted leads (3585 ∷ 3648 ∷ []) [] ≡ Err NotValid
  pub hyphen_third : if_admitted edges (codes "ab-c") [] ≡ Err NotValid
  pub hyphen_fourth : if_admitted edges (codes "abc-d") [] ≡ Ok []
  pub two_kinds : if_admitted digits (48 ∷ 2407 ∷ []) [] ≡ Err NotValid
  pub no_a : if_admitted some_a (codes "bb") [] ≡ Err NotValid
  pub half_letter : if_admitted half_ra (2325 ∷ 2353 ∷ 2381 ∷ 2325 ∷ []) [] ≡ Err NotValid
  pub other_half : if_admitted half_ra (2353 ∷ 2325 ∷ []) [] ≡ Err NotInTable
  pub invalid : if_admitted b_invalid (codes "b") [] ≡ Err NotValid

-- three lines, of which the second is refused
abbrev pub three_lines : List ℕ
three_lines = codes "abc\na-\nb\n"

-- a refused line changes nothing of the others
pub record ExamplesOfTranscripts : Type 0 where
  pub between : transcript (plain_run Register []) (Ok no_table) (lines_of three_lines)
      ≡ Output (codes "abc\n") ∷ Message (codes "idn2: line 2: 13 hyphen out of place\n") ∷ Output (codes "b\n") ∷ []
  pub status : status_of (plain_run Register []) (Ok no_table) (lines_of three_lines) ≡ Refused
