-- The text of an answer, member by member.
use Rattle.std.proofs.Common.{◌≡◌, ℕ, true, false, List, [], ◌∷◌, ◌++◌, codes, Option, Some, None, refl, sym, ap, ◌∙◌, append_assoc, append-nil}
use Rattle.json.specs.Json.{Members, no_members}
use Rattle.json.specs.Token.{Token, begin_object, end_object}
use Rattle.json.specs.Print.{print_from, quoted}
use Rattle.json.specs.Tree.{json_tokens, members_tokens}
use Rattle.answer_json.specs.Answers.{Field, Value, count, text, flag, nothing, json_of_value, members_before, refusal_member, json_of, text_of, line_of}
use Rattle.answer_json.specs.inner.Texts.{value_text, field_text, fields_text, object_text, refusal_text}
use Rattle.answer_json.specs.inner.Begun.{begun_text, IsBegun}

-- ---- what the writer of tokens gives for members

named : (name value after : List ℕ) → (quoted name ++ 58 ∷ []) ++ (value ++ after) ≡ (quoted name ++ 58 ∷ value) ++ after
named name value after =
    append_assoc (quoted name) (58 ∷ []) (value ++ after) ∙ sym (append_assoc (quoted name) (58 ∷ value) after)

-- a member, and then what follows a value
named_value : (name : List ℕ) (value : Value) (tokens : List Token)
    → (quoted name ++ 58 ∷ []) ++ print_from false (json_tokens (json_of_value value) ++ tokens)
    ≡ (quoted name ++ 58 ∷ value_text value) ++ print_from true tokens
unfolding print_from
named_value name (count n) tokens = named name (value_text (count n)) (print_from true tokens)
named_value name (text bytes) tokens = named name (value_text (text bytes)) (print_from true tokens)
named_value name (flag true) tokens = named name (value_text (flag true)) (print_from true tokens)
named_value name (flag false) tokens = named name (value_text (flag false)) (print_from true tokens)
named_value name nothing tokens = named name (value_text nothing) (print_from true tokens)

field_then : (field : Field) (after : List Token) (tokens : List Token)
    → (quoted field.0 ++ 58 ∷ []) ++ print_from false ((json_tokens (json_of_value field.1) ++ after) ++ tokens)
    ≡ field_text field ++ print_from true (after ++ tokens)
unfolding field_text
field_then field after tokens =
    ap (λ ts. (quoted field.0 ++ 58 ∷ []) ++ print_from false ts) (append_assoc (json_tokens (json_of_value field.1)) after tokens)
    ∙ named_value field.0 field.1 (after ++ tokens)

-- members, each after a comma
more : (fields : List Field) (rest : Members) (tokens : List Token)
    → print_from true (members_tokens (members_before fields rest) ++ tokens) ≡ fields_text fields (print_from true (members_tokens rest ++ tokens))
unfolding print_from
more [] rest tokens = refl
more (field ∷ fields) rest tokens =
    ap (λ l. 44 ∷ l) (field_then field (members_tokens (members_before fields rest)) tokens ∙ ap (λ l. field_text field ++ l) (more fields rest tokens))

-- an object of members
braced : (field : Field) (fields : List Field) (rest : Members) (tokens : List Token)
    → print_from false (begin_object ∷ (members_tokens (members_before (field ∷ fields) rest) ++ tokens))
    ≡ 123 ∷ (field_text field ++ fields_text fields (print_from true (members_tokens rest ++ tokens)))
unfolding print_from
braced field fields rest tokens =
    ap (λ l. 123 ∷ l) (field_then field (members_tokens (members_before fields rest)) tokens ∙ ap (λ l. field_text field ++ l) (more fields rest tokens))

-- the object of a refusal, and the brace after it
inner_object : (fields : List Field)
    → print_from false (begin_object ∷ (members_tokens (members_before fields no_members) ++ end_object ∷ [])) ≡ object_text fields (125 ∷ [])
unfolding print_from
inner_object [] = refl
inner_object (field ∷ fields) = braced field fields no_members (end_object ∷ [])

last_member : (refusal : Option (List Field)) → print_from true (members_tokens (refusal_member refusal) ++ []) ≡ refusal_text refusal (125 ∷ [])
unfolding print_from
last_member None = refl
last_member (Some fields) =
    let inside = members_tokens (members_before fields no_members) ++ end_object ∷ [] in
    ap (λ l. 44 ∷ l)
    (ap (λ ts. (quoted (codes "refusal") ++ 58 ∷ []) ++ print_from false (begin_object ∷ ts)) (append-nil inside)
    ∙ append_assoc (quoted (codes "refusal")) (58 ∷ []) (print_from false (begin_object ∷ inside))
    ∙ ap (λ l. quoted (codes "refusal") ++ 58 ∷ l) (inner_object fields))

pub answer_text : (field : Field) (fields : List Field) (refusal : Option (List Field))
    → text_of (json_of (record { fields = field ∷ fields; refusal = refusal })) ≡ 123 ∷ (field_text field ++ fields_text fields (refusal_text refusal (125 ∷ [])))
answer_text field fields refusal =
    ap (λ ts. print_from false (begin_object ∷ ts)) (sym (append-nil (members_tokens (members_before (field ∷ fields) (refusal_member refusal)))))
    ∙ braced field fields (refusal_member refusal) []
    ∙ ap (λ l. 123 ∷ (field_text field ++ fields_text fields l)) (last_member refusal)

-- ---- one after another

pub fields_text-then : (fields : List Field) (rest more : List ℕ) → fields_text fields rest ++ more ≡ fields_text fields (rest ++ more)
fields_text-then [] rest more = refl
fields_text-then (field ∷ fields) rest more =
    ap (λ l. 44 ∷ l) (append_assoc (field_text field) (fields_text fields rest) more ∙ ap (λ l. field_text field ++ l) (fields_text-then fields rest more))

pub fields_text-append : (fields others : List Field) (rest : List ℕ) → fields_text (fields ++ others) rest ≡ fields_text fields (fields_text others rest)
fields_text-append [] others rest = refl
fields_text-append (field ∷ fields) others rest = ap (λ l. 44 ∷ (field_text field ++ l)) (fields_text-append fields others rest)

object_text-then : (fields : List Field) (rest more : List ℕ) → object_text fields rest ++ more ≡ object_text fields (rest ++ more)
object_text-then [] rest more = refl
object_text-then (field ∷ fields) rest more =
    ap (λ l. 123 ∷ l) (append_assoc (field_text field) (fields_text fields (125 ∷ rest)) more ∙ ap (λ l. field_text field ++ l) (fields_text-then fields (125 ∷ rest) more))

refusal_text-then : (refusal : Option (List Field)) (rest more : List ℕ) → refusal_text refusal rest ++ more ≡ refusal_text refusal (rest ++ more)
refusal_text-then None rest more = refl
refusal_text-then (Some fields) rest more =
    let name = quoted (codes "refusal") in
    ap (λ l. 44 ∷ l) (append_assoc name (58 ∷ object_text fields rest) more ∙ ap (λ l. name ++ 58 ∷ l) (object_text-then fields rest more))

pub one_field : (old new : List ℕ) (field : Field) → new ≡ old ++ 44 ∷ field_text field → new ≡ old ++ fields_text (field ∷ []) []
one_field old new field e = e ∙ ap (λ l. old ++ 44 ∷ l) (sym (append-nil (field_text field)))

pub more_fields : {new all : List ℕ} (old : List ℕ) (fields others : List Field) → new ≡ old ++ fields_text fields [] → all ≡ new ++ fields_text others []
    → all ≡ old ++ fields_text (fields ++ others) []
more_fields {new} {all} old fields others e f =
    f ∙ ap (λ l. l ++ fields_text others []) e ∙ append_assoc old (fields_text fields []) (fields_text others [])
    ∙ ap (λ l. old ++ l) (fields_text-then fields [] (fields_text others []) ∙ sym (fields_text-append fields others []))

-- ---- objects that are begun

pub first : (before : List ℕ) (field : Field) (bytes : List ℕ) → bytes ≡ before ++ 123 ∷ field_text field → IsBegun before (field ∷ []) bytes
first before field bytes e = record { text = e ∙ ap (λ l. before ++ 123 ∷ l) (sym (append-nil (field_text field))) }

-- with more members
pub with_all : {before old new : List ℕ} {field : Field} {fields : List Field} (others : List Field) → IsBegun before (field ∷ fields) old
    → new ≡ old ++ fields_text others [] → IsBegun before (field ∷ (fields ++ others)) new
with_all {before} {old} {new} {field} {fields} others b e =
    record {
      text = e ∙ ap (λ l. l ++ fields_text others []) b.text
          ∙ append_assoc before (begun_text (field ∷ fields)) (fields_text others [])
          ∙ ap (λ l. before ++ 123 ∷ l)
          (append_assoc (field_text field) (fields_text fields []) (fields_text others [])
          ∙ ap (λ l. field_text field ++ l) (fields_text-then fields [] (fields_text others []) ∙ sym (fields_text-append fields others [])));
    }

-- with one more
pub with_one : {before old new : List ℕ} {field : Field} {fields : List Field} (other : Field) → IsBegun before (field ∷ fields) old
    → new ≡ old ++ 44 ∷ field_text other → IsBegun before (field ∷ (fields ++ other ∷ [])) new
with_one {before} {old} {new} {field} {fields} other b e =
    with_all (other ∷ []) b (e ∙ ap (λ l. old ++ 44 ∷ l) (sym (append-nil (field_text other))))

-- the object of a refusal is ended
pub closed : {before bytes : List ℕ} {field : Field} {fields : List Field} → IsBegun before (field ∷ fields) bytes
    → bytes ++ 125 ∷ [] ≡ before ++ object_text (field ∷ fields) []
closed {before} {bytes} {field} {fields} b =
    ap (λ l. l ++ 125 ∷ []) b.text
    ∙ append_assoc before (begun_text (field ∷ fields)) (125 ∷ [])
    ∙ ap (λ l. before ++ 123 ∷ l) (append_assoc (field_text field) (fields_text fields []) (125 ∷ []) ∙ ap (λ l. field_text field ++ l) (fields_text-then fields [] (125 ∷ [])))

-- the object of an answer is ended, and its line
pub ended_with : {bytes all : List ℕ} {field : Field} {fields : List Field} (refusal : Option (List Field)) → IsBegun [] (field ∷ fields) bytes
    → all ≡ bytes ++ refusal_text refusal [] → all ++ 125 ∷ 10 ∷ [] ≡ line_of (record { fields = field ∷ fields; refusal = refusal })
ended_with {bytes} {all} {field} {fields} refusal b e =
    let told = refusal_text refusal [] in
    let end = 125 ∷ 10 ∷ [] in
    ap (λ l. l ++ end) (e ∙ ap (λ l. l ++ told) b.text)
    ∙ ap (λ l. 123 ∷ l)
    (append_assoc (field_text field ++ fields_text fields []) told end
    ∙ append_assoc (field_text field) (fields_text fields []) (told ++ end)
    ∙ ap (λ l. field_text field ++ l) (fields_text-then fields [] (told ++ end) ∙ ap (fields_text fields) (refusal_text-then refusal [] end))
    ∙ sym (append_assoc (field_text field) (fields_text fields (refusal_text refusal (125 ∷ []))) (10 ∷ [])
    ∙ ap (λ l. field_text field ++ l) (fields_text-then fields (refusal_text refusal (125 ∷ [])) (10 ∷ []) ∙ ap (fields_text fields) (refusal_text-then refusal (125 ∷ []) (10 ∷ [])))))
    ∙ sym (ap (λ l. l ++ 10 ∷ []) (answer_text field fields refusal))

pub ended : {bytes : List ℕ} {field : Field} {fields : List Field} → IsBegun [] (field ∷ fields) bytes
    → bytes ++ 125 ∷ 10 ∷ [] ≡ line_of (record { fields = field ∷ fields; refusal = None })
ended {bytes} b = ended_with None b (sym (append-nil bytes))
