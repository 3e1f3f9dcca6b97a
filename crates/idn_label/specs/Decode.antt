-- The answer of decoding a name (RFC 5891 section 5.3).
use Rattle.std.specs.Prelude.{◌≢◌, ℕ, IsTrue, List, [], ◌∷◌, map, All, Any, chars, Option, Some, None, Result, Ok, Err}
use Rattle.std.specs.Prelude.{if◌then◌else◌}
use Rattle.std.specs.Str.{is_utf8}
use Rattle.idna.specs.Labels.{labels_of, join_labels}
use Rattle.idna.specs.Validity.{has_ace_prefix, passes_bidi}
use Rattle.idn_text.specs.declared.refusal.Refusal.{Refusal}
use Rattle.idn_text.specs.declared.refusal.Refusal.TheVariants.{Bidi, NotUtf8}
use Rattle.idn_label.specs.Answers.{Answer, and_then, unless_fault}
use Rattle.idn_label.specs.Register.{u_label_answer}
use Rattle.idn_label.specs.Steps.{in_utf8, lowercase}
use Rattle.idn_class.specs.BidiClass.{standard_bidi_class}
use Rattle.idn_class.specs.BidiRule.{is_rtl_class, MeetsSixConditions}
use Rattle.idn_class.specs.declared.properties.Properties.{Properties}
use Rattle.idn_class.specs.declared.properties.Properties.TheVariants.{Profile, Unicode}

-- a label that begins with "xn--" in any ASCII case is put into lower case and decoded, any other stays as it is
unfoldable pub decoded_label : Properties → List ℕ → Answer
decoded_label properties label =
    let lower = lowercase label in
    if has_ace_prefix lower then u_label_answer properties lower else Ok label

-- a decoded label and those after it, or the first refusal
abbrev pub with_others : Answer → Result (List (List ℕ)) Refusal → Result (List (List ℕ)) Refusal
with_others (Err refusal) others = Err refusal
with_others (Ok label) (Err refusal) = Err refusal
with_others (Ok label) (Ok others) = Ok (label ∷ others)

-- each label decoded, or the first refusal
unfoldable pub decoded_labels : Properties → List (List ℕ) → Result (List (List ℕ)) Refusal
decoded_labels properties [] = Ok []
decoded_labels properties (label ∷ labels) =
    with_others (decoded_label properties label) (decoded_labels properties labels)

-- the Bidi rule of a whole name (RFC 5893, section 2): if one label holds R, AL or AN, all labels meet it. The profile
-- applies the rule to each label alone, and so asks nothing more of the name
abbrev pub name_fault : Properties → List (List ℕ) → Option Refusal
name_fault Profile labels = None
name_fault Unicode labels = if passes_bidi labels then None else Some Bidi

-- the same in the words of the standard: if one label holds R, AL or AN,
-- each label but an empty one meets the six conditions
abbrev pub PassesBidiRuleAsName : List (List ℕ) → Type 0
PassesBidiRuleAsName labels =
    Any (λ label. Any (λ class. IsTrue (is_rtl_class class)) (map standard_bidi_class label)) labels →
    All (λ label. label ≢ [] → MeetsSixConditions (map standard_bidi_class label)) labels

-- the labels of the name, between its full stops, decoded and joined again
unfoldable pub decoded_name : Properties → List ℕ → Answer
decoded_name properties name = and_then (decoded_labels properties (labels_of name)) (λ labels. Ok (join_labels labels))

-- the labels of the name, decoded and joined again, unless the name as a whole has a fault
unfoldable pub decode_answer : Properties → List ℕ → Answer
decode_answer properties name =
    and_then (decoded_labels properties (labels_of name))
    (λ labels. unless_fault (name_fault properties labels) (Ok (join_labels labels)))

-- the same of bytes, which may be no UTF-8, as UTF-8
unfoldable pub decode_utf8_answer : Properties → List ℕ → Answer
decode_utf8_answer properties bytes =
    if is_utf8 bytes then in_utf8 (decode_answer properties (chars bytes)) else Err NotUtf8
