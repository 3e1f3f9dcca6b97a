-- How the line that is answered is told.
use Rattle.std.specs.Prelude.{ℕ, List, length, codes, Option, Some, None, if◌then◌else◌}
use Rattle.std.specs.Str.{is_utf8}
use Rattle.answer_json.specs.Answers.{Field, text, nothing}
use Rattle.answer_json.specs.Hexadecimal.{hex_of}
use Rattle.answer_json.specs.declared.input.Input.{Input}
use Rattle.answer_json.specs.declared.input.Input.TheVariants as input

-- its text, its octets, or nothing
pub data Told : Type 0 where
  as_text : List ℕ → Told
  as_octets : List ℕ → Told
  not_kept : Told

-- JSON texts are Unicode (RFC 8259, section 8.1), so a line that is no UTF-8 is told in hexadecimal digits; of a line
-- that is too long no byte is kept
abbrev pub told_of : Option (List ℕ) → Told
told_of None = not_kept
told_of (Some bytes) = if is_utf8 bytes then as_text bytes else as_octets bytes

abbrev pub input_field : Told → Field
input_field (as_text bytes) = (codes "input", text bytes)
input_field (as_octets bytes) = (codes "input_hex", text (hex_of bytes))
input_field not_kept = (codes "input", nothing)

-- ---- the same of the values of Rust

abbrev pub told : Input → Told
told (input.Text bytes) = as_text bytes.now
told (input.Octets bytes) = as_octets bytes.now
told input.NotKept = not_kept

-- the bytes that it holds
abbrev pub told_len : Input → ℕ
told_len (input.Text bytes) = length bytes.now
told_len (input.Octets bytes) = length bytes.now
told_len input.NotKept = 0
