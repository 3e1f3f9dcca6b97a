-- JSON texts are Unicode, in UTF-8 (RFC 8259, section 8.1).
use Rattle.std.specs.Prelude.{List, [], ◌∷◌, Option, None, Some, IsUtf8, ⊤}
use Rattle.answer_json.specs.Answers.{Value, count, text, flag, nothing, Field, Answer}

abbrev pub IsUnicode : Value → Type 0
IsUnicode (count n) = ⊤
IsUnicode (text bytes) = IsUtf8 bytes
IsUnicode (flag b) = ⊤
IsUnicode nothing = ⊤

abbrev pub AreUnicode : List Field → Type 0
AreUnicode [] = ⊤
AreUnicode (field ∷ fields) = IsUtf8 field.0 × IsUnicode field.1 × AreUnicode fields

abbrev pub AreUnicodeIfGiven : Option (List Field) → Type 0
AreUnicodeIfGiven None = ⊤
AreUnicodeIfGiven (Some fields) = AreUnicode fields

-- each name and each text of the answer is UTF-8
abbrev pub HasUnicodeTexts : Answer → Type 0
HasUnicodeTexts answer = AreUnicode answer.fields × AreUnicodeIfGiven answer.refusal
