-- What is written of UTF-8 is UTF-8.
use Rattle.std.proofs.Common.{Bool, IsUtf8, List, [], ◌∷◌, ◌++◌, Option, None, Some, codes, refl}
use Rattle.std.proofs.lemmas.Fmt.{IsAscii-decimal}
use Rattle.std.proofs.lemmas.Str.{IsUtf8-append, IsUtf8-from_ascii, IsUtf8-nil}
use Rattle.json.specs.Json.{Members, no_members}
use Rattle.json.specs.Print.{token_text, separator, print_from, ends}
use Rattle.json.specs.Token.{Token, begin_object, end_object, begin_array, end_array, key, string, number, boolean, null, bad}
use Rattle.json.specs.Tree.{json_tokens, members_tokens}
use Rattle.json.proofs.Printed.Utf8.{IsUtf8-are_ascii, IsUtf8-boolean, IsUtf8-key, IsUtf8-quoted, IsUtf8-separator}
use Rattle.answer_json.specs.Answers.{Answer, Field, Value, count, text, flag, nothing, json_of, json_of_value, members_before, refusal_member, IsSmall, AreSmall, AreSmallIfGiven, HasSmallNumbers}
use Rattle.answer_json.specs.Unicode.{IsUnicode, AreUnicode, AreUnicodeIfGiven, HasUnicodeTexts}

abbrev pub IsUtf8Token : Token → Type 0
IsUtf8Token (key bytes) = IsUtf8 bytes
IsUtf8Token (string bytes) = IsUtf8 bytes
IsUtf8Token (number bytes) = IsUtf8 bytes
IsUtf8Token _ = Unit {0}

abbrev pub AreUtf8Tokens : List Token → Type 0
AreUtf8Tokens [] = Unit {0}
AreUtf8Tokens (token ∷ tokens) = IsUtf8Token token × AreUtf8Tokens tokens

token_utf8 : (token : Token) → IsUtf8Token token → IsUtf8 (token_text token)
token_utf8 begin_object h = IsUtf8-are_ascii (123 ∷ []) refl
token_utf8 end_object h = IsUtf8-are_ascii (125 ∷ []) refl
token_utf8 begin_array h = IsUtf8-are_ascii (91 ∷ []) refl
token_utf8 end_array h = IsUtf8-are_ascii (93 ∷ []) refl
token_utf8 (key bytes) h = IsUtf8-key bytes h
token_utf8 (string bytes) h = IsUtf8-quoted bytes h
token_utf8 (number bytes) h = h
token_utf8 (boolean b) h = IsUtf8-boolean b
token_utf8 null h = IsUtf8-are_ascii (codes "null") refl
token_utf8 bad h = IsUtf8-nil

pub print_from-utf8 : (after : Bool) (tokens : List Token) → AreUtf8Tokens tokens → IsUtf8 (print_from after tokens)
unfolding print_from
print_from-utf8 after [] h = IsUtf8-nil
print_from-utf8 after (token ∷ tokens) h =
    IsUtf8-append (separator after token) (token_text token ++ print_from (ends token) tokens) (IsUtf8-separator after token)
    (IsUtf8-append (token_text token) (print_from (ends token) tokens) (token_utf8 token h.0) (print_from-utf8 (ends token) tokens h.1))

AreUtf8Tokens-append : (tokens others : List Token) → AreUtf8Tokens tokens → AreUtf8Tokens others → AreUtf8Tokens (tokens ++ others)
AreUtf8Tokens-append [] others h k = k
AreUtf8Tokens-append (token ∷ tokens) others h k = (h.0, AreUtf8Tokens-append tokens others h.1 k)

value_utf8 : (value : Value) → IsSmall value → IsUnicode value → AreUtf8Tokens (json_tokens (json_of_value value))
value_utf8 (count n) small h = (IsUtf8-from_ascii _ (IsAscii-decimal n small), tt)
value_utf8 (text bytes) small h = (h, tt)
value_utf8 (flag b) small h = (tt, tt)
value_utf8 nothing small h = (tt, tt)

utf8_before : (fields : List Field) (rest : Members) → AreSmall fields → AreUnicode fields → AreUtf8Tokens (members_tokens rest)
    → AreUtf8Tokens (members_tokens (members_before fields rest))
utf8_before [] rest small h k = k
utf8_before (field ∷ fields) rest small h k = (
  h.0,
  AreUtf8Tokens-append (json_tokens (json_of_value field.1)) (members_tokens (members_before fields rest)) (value_utf8 field.1 small.0 h.1) (utf8_before fields rest small.1 h.2 k),
)

refusal_utf8 : (refusal : Option (List Field)) → AreSmallIfGiven refusal → AreUnicodeIfGiven refusal → AreUtf8Tokens (members_tokens (refusal_member refusal))
refusal_utf8 None small h = (tt, tt)
refusal_utf8 (Some fields) small h = (
  IsUtf8-are_ascii (codes "refusal") refl,
  (
    tt,
    AreUtf8Tokens-append (members_tokens (members_before fields no_members)) (members_tokens no_members) (utf8_before fields no_members small h (tt, tt)) (tt, tt),
  ),
)

pub answer_utf8 : (answer : Answer) → HasSmallNumbers answer → HasUnicodeTexts answer → AreUtf8Tokens (json_tokens (json_of answer))
answer_utf8 answer small h = (tt, utf8_before answer.fields (refusal_member answer.refusal) small.0 h.0 (refusal_utf8 answer.refusal small.1 h.1))
