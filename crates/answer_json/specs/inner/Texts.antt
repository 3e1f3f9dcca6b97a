-- The texts of members, as they are written one after another.
use Rattle.std.specs.Prelude.{ℕ, Bool, true, false, ◌&&◌, ◌==◌, not, nat_le, List, [], ◌∷◌, ◌++◌, codes, Option, None}
use Rattle.std.specs.Prelude.{Some}
use Rattle.std.specs.List.{list_all}
use Rattle.std.specs.Fmt.{decimal}
use Rattle.json.specs.Print.{quoted}
use Rattle.answer_json.specs.Answers.{Value, count, text, flag, nothing, Field}

-- a byte of a string that stands as it is (RFC 8259, section 7)
abbrev pub is_plain_byte : ℕ → Bool
is_plain_byte byte = nat_le 32 byte && (not (byte == 34) && not (byte == 92))

abbrev pub is_plain : List ℕ → Bool
is_plain bytes = list_all is_plain_byte bytes

abbrev pub value_text : Value → List ℕ
value_text (count n) = decimal n
value_text (text bytes) = quoted bytes
value_text (flag true) = codes "true"
value_text (flag false) = codes "false"
value_text nothing = codes "null"

-- a name, a colon and a value
unfoldable pub field_text : Field → List ℕ
field_text field = quoted field.0 ++ 58 ∷ value_text field.1

-- each after a comma, and then the rest
abbrev pub fields_text : List Field → List ℕ → List ℕ
fields_text [] rest = rest
fields_text (field ∷ fields) rest = 44 ∷ (field_text field ++ fields_text fields rest)

-- the object of a refusal, and then the rest
abbrev pub object_text : List Field → List ℕ → List ℕ
object_text [] rest = 123 ∷ 125 ∷ rest
object_text (field ∷ fields) rest = 123 ∷ (field_text field ++ fields_text fields (125 ∷ rest))

-- its member, where there is one
abbrev pub refusal_text : Option (List Field) → List ℕ → List ℕ
refusal_text None rest = rest
refusal_text (Some fields) rest = 44 ∷ (quoted (codes "refusal") ++ 58 ∷ object_text fields rest)
