-- What messages say of causes: the members of the object in their order, with words between them.
use Rattle.std.specs.Prelude.{ℕ, List, [], ◌++◌, codes, Option, Some, None, if◌then◌else◌}
use Rattle.std.specs.Fmt.{decimal}
use Rattle.answer_json.specs.Details.{Details}
use Rattle.idn_text.specs.declared.refusal.Refusal.{Refusal}
use Rattle.idn2_refusals.specs.CauseParts.{CauseParts, code_point_text, parts_of}
use Rattle.idn2_refusals.specs.declared.cause.LineCause.{LineCause}

-- a member between words, if it is there: a number, a code point or a text
abbrev pub number_between : List ℕ → Option ℕ → List ℕ → List ℕ
number_between before None after = []
number_between before (Some n) after = before ++ (decimal n ++ after)

abbrev pub point_after : List ℕ → Option ℕ → List ℕ
point_after before None = []
point_after before (Some c) = before ++ code_point_text c

abbrev pub text_between : List ℕ → Option (List ℕ) → List ℕ → List ℕ
text_between before None after = []
text_between before (Some text) after = before ++ (text ++ after)

-- the number of the label in its name, and whether what is refused is what it stands for
unfoldable pub label_words : Details → List ℕ
label_words d =
    number_between (codes "label ") d.label (if d.decoded then codes ", " else codes ": ")
    ++ (if d.decoded then codes "decoded: " else [])

-- what stands between the number of an action and a code point, if one is told
abbrev pub before_point : Option ℕ → List ℕ
before_point None = []
before_point (Some c) = codes ": "

-- the action of a ruleset, or the default action
unfoldable pub action_words : Details → List ℕ
action_words d =
    number_between (codes "action ") d.action (before_point d.code_point)
    ++ number_between (codes "default action ") d.default_action (before_point d.code_point)

-- what stands at the place: the code point, if nothing is told in place of it
abbrev pub subject_words : Option (List ℕ) → Option ℕ → List ℕ
subject_words (Some lead) c = lead
subject_words None c = point_after [] c

-- what stands before the number of a place
abbrev pub before_place : Option (List ℕ) → List ℕ
before_place (Some []) = codes "place "
before_place lead = codes " at place "

unfoldable pub place_words : CauseParts → List ℕ
place_words parts =
    number_between (before_place parts.lead) parts.details.place []
    ++ number_between (codes " at byte ") parts.details.byte []

-- the Bidi_Class or the type, and the rule that is broken
unfoldable pub rule_words : CauseParts → List ℕ
rule_words parts =
    text_between (codes " is ") parts.details.bidi_class [] ++ (text_between (codes " is ") parts.details.type_name []
    ++ (parts.rule.before ++ (text_between [] parts.details.condition (codes " ")
    ++ (parts.rule.rule ++ (parts.rule.after ++ point_after (codes ": NFC has ") parts.details.nfc)))))

-- the demand, or that a label is unclear
unfoldable pub demand_words : Details → List ℕ
demand_words d =
    number_between (codes "demand ") d.demand [] ++ (text_between (codes ", ") d.kind []
    ++ (if d.unclear then codes "unclear" else []))

-- the lengths, the other A-label and the U-label
unfoldable pub length_words : Details → List ℕ
length_words d =
    number_between [] d.code_points (codes " code points") ++ (number_between [] d.octets (codes " octets")
    ++ (text_between (codes "the A-label is ") d.alabel []
    ++ text_between (codes ": an A-label of '") d.ulabel (codes "'")))

unfoldable pub cause_words : CauseParts → List ℕ
cause_words parts =
    label_words parts.details ++ (action_words parts.details
    ++ (subject_words parts.lead parts.details.code_point ++ (place_words parts
    ++ (rule_words parts ++ (demand_words parts.details ++ length_words parts.details)))))

-- what a message goes on with: a colon, a blank and the cause, if there is one
abbrev pub tail_text : Refusal → Option LineCause → List ℕ
tail_text refusal None = []
tail_text refusal (Some cause) = codes ": " ++ cause_words (parts_of refusal cause)
