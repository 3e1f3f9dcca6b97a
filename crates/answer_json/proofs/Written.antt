-- What the laws of answers need: their numbers are numbers of JSON, they nest little, and no byte of them is below the space.
use Rattle.std.proofs.Common.{◌≡◌, ◌≤◌, List, [], ◌∷◌, ◌++◌, Option, None, Some, refl, arith}
use Rattle.json.specs.Json.{Members, no_members}
use Rattle.json.specs.Token.{Token}
use Rattle.json.specs.Tree.{json_tokens, members_tokens, depth, members_depth, HasNumbers, MembersHaveNumbers}
use Rattle.json.proofs.Printed.Decimals.{IsNumber-decimal}
use Rattle.answer_json.specs.Answers.{Answer, Field, Value, count, text, flag, nothing, json_of, json_of_value, members_before, refusal_member, IsSmall, AreSmall, AreSmallIfGiven, HasSmallNumbers}
use Rattle.answer_json.proofs.OneLine.{decimal-clear, AreClear}

-- ---- numbers

value_numbers : (value : Value) → IsSmall value → HasNumbers (json_of_value value)
value_numbers (count n) small = IsNumber-decimal n small
value_numbers (text bytes) small = tt
value_numbers (flag b) small = tt
value_numbers nothing small = tt

numbers_before : (fields : List Field) (rest : Members) → AreSmall fields → MembersHaveNumbers rest → MembersHaveNumbers (members_before fields rest)
numbers_before [] rest small h = h
numbers_before (field ∷ fields) rest small h = (value_numbers field.1 small.0, numbers_before fields rest small.1 h)

refusal_numbers : (refusal : Option (List Field)) → AreSmallIfGiven refusal → MembersHaveNumbers (refusal_member refusal)
refusal_numbers None small = tt
refusal_numbers (Some fields) small = (numbers_before fields no_members small tt, tt)

pub answer_numbers : (answer : Answer) → HasSmallNumbers answer → HasNumbers (json_of answer)
answer_numbers answer small = numbers_before answer.fields (refusal_member answer.refusal) small.0 (refusal_numbers answer.refusal small.1)

-- ---- nesting

value_depth : (value : Value) → depth (json_of_value value) ≡ 0
value_depth (count n) = refl
value_depth (text bytes) = refl
value_depth (flag b) = refl
value_depth nothing = refl

depth_before : (fields : List Field) (rest : Members) → members_depth (members_before fields rest) ≤ members_depth rest
depth_before [] rest = omega arith
depth_before (field ∷ fields) rest = omega (arith, value_depth field.1, depth_before fields rest)

refusal_depth : (refusal : Option (List Field)) → members_depth (refusal_member refusal) ≤ 1
refusal_depth None = omega arith
refusal_depth (Some fields) = omega (arith, depth_before fields no_members)

pub answer_depth : (answer : Answer) → depth (json_of answer) ≤ 128
answer_depth answer = omega (arith, depth_before answer.fields (refusal_member answer.refusal), refusal_depth answer.refusal)

-- ---- bytes

AreClear-append : (tokens others : List Token) → AreClear tokens → AreClear others → AreClear (tokens ++ others)
AreClear-append [] others h k = k
AreClear-append (token ∷ tokens) others h k = (h.0, AreClear-append tokens others h.1 k)

value_clear : (value : Value) → IsSmall value → AreClear (json_tokens (json_of_value value))
value_clear (count n) small = (decimal-clear n small, tt)
value_clear (text bytes) small = (tt, tt)
value_clear (flag b) small = (tt, tt)
value_clear nothing small = (tt, tt)

clear_before : (fields : List Field) (rest : Members) → AreSmall fields → AreClear (members_tokens rest) → AreClear (members_tokens (members_before fields rest))
clear_before [] rest small h = h
clear_before (field ∷ fields) rest small h = (
  tt,
  AreClear-append (json_tokens (json_of_value field.1)) (members_tokens (members_before fields rest)) (value_clear field.1 small.0) (clear_before fields rest small.1 h),
)

refusal_clear : (refusal : Option (List Field)) → AreSmallIfGiven refusal → AreClear (members_tokens (refusal_member refusal))
refusal_clear None small = (tt, tt)
refusal_clear (Some fields) small = (
  tt,
  (
    tt,
    AreClear-append (members_tokens (members_before fields no_members)) (members_tokens no_members) (clear_before fields no_members small (tt, tt)) (tt, tt),
  ),
)

pub answer_clear : (answer : Answer) → HasSmallNumbers answer → AreClear (json_tokens (json_of answer))
answer_clear answer small = (tt, clear_before answer.fields (refusal_member answer.refusal) small.0 (refusal_clear answer.refusal small.1))
