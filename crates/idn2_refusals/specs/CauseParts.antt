-- A cause as it is told: once, for its object and its message alike. Places, labels and bytes are counted from 1 here.
use Rattle.std.specs.Prelude.{ℕ, ◌+◌, ◌/◌, ◌%◌, ◌==◌, ◌≤◌, List, [], ◌∷◌, ◌++◌, codes, length, Option, Some, None, true}
use Rattle.std.specs.Prelude.{if◌then◌else◌}
use Rattle.idn_text.specs.Points.{hex_digit}
use Rattle.idn_text.specs.declared.refusal.Refusal.{Refusal}
use Rattle.idn_text.specs.declared.refusal.Refusal.TheVariants.{ContextJ, ContextO}
use Rattle.idn_cause.specs.declared.cause.Cause.{Cause}
use Rattle.idn_cause.specs.declared.cause.Cause.TheVariants.{Barred, Changed, Hyphen, Point, Condition, Points, Octets}
use Rattle.idn_cause.specs.declared.a_label.ALabelCause.{ALabelCause}
use Rattle.idn_cause.specs.declared.a_label.ALabelCause.TheVariants.{NoCode, NotAscii, NoPunycode, Other, Decoded}
use Rattle.idn_cause.specs.declared.a_label.ALabelCause.TheVariants.{Copied}
use Rattle.idn_cause.specs.declared.query.LengthCause.{LengthCause}
use Rattle.idn_cause.specs.declared.query.LengthCause.TheVariants.{LabelOctets, NameOctets}
use Rattle.ruleset_text.specs.Actions.{kind_word}
use Rattle.ruleset_text.specs.Canonical.{point_text}
use Rattle.ruleset_text.specs.declared.fault.FaultPlace.{FaultPlace}
use Rattle.ruleset_text.specs.declared.fault.FaultPlace.TheVariants as places
use Rattle.answer_json.specs.Details.{Details, HasShortTexts, no_details}
use Rattle.idn2_refusals.specs.RuleTexts.{RuleText, a_label_rule, appendix_rule, barring_rule, bidi_rule}
use Rattle.idn2_refusals.specs.RuleTexts.{bidi_text, bidi_words, demand_text, named, punycode_rule, words_alone}
use Rattle.idn2_refusals.specs.declared.cause.LineCause.{LineCause}
use Rattle.idn2_refusals.specs.declared.cause.LineCause.TheVariants.{Byte, LongLine, OfLabel, OfALabel, OfName, OfQuery}
use Rattle.idn2_refusals.specs.declared.cause.LineCause.TheVariants.{Misplaced, NoEntry, Broken, Unclear, ActionAsking}
use Rattle.idn2_refusals.specs.declared.cause.LineCause.TheVariants.{ActionOfType, Action, DefaultAction, Ends, OfTable}
use Rattle.idn2_refusals.specs.declared.cause.LineCause.TheVariants.{ByteOrderMark, ALabelOf, NoALabel}

-- the members that an object has; and for a message what it has in place of a code point, and words round a rule
pub record CauseParts : Type 0 where
  pub details : Details
  pub lead : Option (List ℕ)
  pub rule : RuleText

-- members alone
abbrev pub plain : Details → CauseParts
plain details = record { details = details; lead = None; rule = words_alone [] }

-- with what stands in place of a code point
abbrev pub led : List ℕ → Details → CauseParts
led lead details = record { details = details; lead = Some lead; rule = words_alone [] }

-- with a rule
abbrev pub ruled : RuleText → Details → CauseParts
ruled rule details = record { details = record details { rule = Some rule.rule }; lead = None; rule = rule }

-- with words at the end
abbrev pub noted : List ℕ → CauseParts → CauseParts
noted text parts = record parts { rule = words_alone text }

-- of what an A-label stands for
abbrev pub decoded_parts : CauseParts → CauseParts
decoded_parts parts = record parts { details = record parts.details { decoded = true } }

-- of the label of this number of a name
abbrev pub labelled : ℕ → CauseParts → CauseParts
labelled number parts = record parts { details = record parts.details { label = Some number } }

-- ---- of a label

-- a code point, as Unicode writes it
abbrev pub code_point_text : ℕ → List ℕ
code_point_text c = codes "U+" ++ point_text c

-- a code point and its place
abbrev pub placed : ℕ → ℕ → Details
placed place c = record no_details { code_point = Some c; place = Some (place + 1) }

-- which hyphen it is, of a label that is so long: the first that fits
abbrev pub hyphen_text : ℕ → ℕ → List ℕ
hyphen_text place length =
    if place == 0 then codes ", the first"
    else (if place + 1 == length then codes ", the last" else codes ", with place 4")

-- a code point that differs from its Normalization Form C, which may end before it
abbrev pub changed_parts : Details → Option ℕ → CauseParts
changed_parts details None = noted (codes ": NFC ends") (plain details)
changed_parts details (Some c) = plain (record details { nfc = Some c })

-- a code point and, if the fault is one of a context, the rule of it
abbrev pub point_parts : Refusal → ℕ → ℕ → CauseParts
point_parts ContextJ place c = ruled (named (appendix_rule c)) (placed place c)
point_parts ContextO place c = ruled (named (appendix_rule c)) (placed place c)
point_parts refusal place c = plain (placed place c)

-- of the cause of a label's fault
unfoldable pub label_parts : Refusal → Cause → CauseParts
label_parts refusal (Barred place c line) = ruled (barring_rule line) (placed place c)
label_parts refusal (Changed place c form) = changed_parts (placed place c) form
label_parts refusal (Hyphen place length) = noted (hyphen_text place length) (led [] (placed place 0x2D))
label_parts refusal (Point place c) = point_parts refusal place c
label_parts refusal (Condition broken c class) = record {
  details =
      record (placed broken.place c) { rule = Some (bidi_rule broken.condition); bidi_class = Some (bidi_text class) };
  lead = None;
  rule = bidi_words broken.condition;
}
label_parts refusal (Points n) = plain (record no_details { code_points = Some n })
label_parts refusal (Octets n) = led (codes "A-label of ") (record no_details { octets = Some n })

-- of the cause of the fault of what begins with "xn--"
unfoldable pub a_label_parts : Refusal → ALabelCause → CauseParts
a_label_parts refusal NoCode = led (codes "nothing after xn--") no_details
a_label_parts refusal (NotAscii place c) = noted (codes ": not ASCII") (plain (placed place c))
a_label_parts refusal NoPunycode = ruled punycode_rule no_details
a_label_parts refusal (Other octets) = plain (record no_details { alabel = Some octets.items })
a_label_parts refusal (Decoded cause) = decoded_parts (label_parts refusal cause)
a_label_parts refusal (Copied cause) = label_parts refusal cause

-- of a length that the DNS does not allow
abbrev pub length_parts : LengthCause → CauseParts
length_parts (LabelOctets number octets) = plain (record no_details { label = Some (number + 1); octets = Some octets })
length_parts (NameOctets octets) = led (codes "name of ") (record no_details { octets = Some octets })

-- ---- of a line

-- an action of a ruleset
abbrev pub by_action : ℕ → Details
by_action number = record no_details { action = Some (number + 1) }

-- a byte of a line, and a code point that begins there
abbrev pub at_byte : ℕ → Details
at_byte place = record no_details { byte = Some (place + 1) }

abbrev pub point_at_byte : ℕ → ℕ → Details
point_at_byte place c = record (at_byte place) { code_point = Some c }

-- a byte by its two hexadecimal digits
unfoldable pub byte_text : ℕ → List ℕ
byte_text byte = codes "byte 0x" ++ hex_digit (byte / 16 % 16) ∷ hex_digit (byte % 16) ∷ []

-- a lexeme between single quotes, where it is quoted
abbrev pub lexeme_text : List ℕ → List ℕ
lexeme_text [] = codes "word"
lexeme_text (c ∷ quoted) = codes "'" ++ ((c ∷ quoted) ++ codes "'")

-- of where a line of a table has its fault
abbrev pub fault_place_parts : FaultPlace → List ℕ → CauseParts
fault_place_parts (places.Lexeme place len) quoted = led (lexeme_text quoted) (at_byte place)
fault_place_parts (places.End place) quoted = led (codes "the line ends") (at_byte place)
fault_place_parts (places.Point place c) quoted = plain (point_at_byte place c)
fault_place_parts (places.InRange place c) quoted =
    led (code_point_text c ++ codes " in the range") (point_at_byte place c)
fault_place_parts (places.Variant place) quoted = led (codes "variant") (at_byte place)
fault_place_parts (places.Source place) quoted = led (codes "source") (at_byte place)
fault_place_parts (places.Byte place) quoted = led (codes "the line goes on") (at_byte place)
fault_place_parts (places.NinthPoint place c) quoted = noted (codes ": code point 9") (plain (point_at_byte place c))
fault_place_parts (places.SeventeenthVariant place c) quoted =
    noted (codes ": variant 17") (plain (point_at_byte place c))

-- of the cause of a line's refusal; in a name the number of the label is told
abbrev pub parts_of : Refusal → LineCause → CauseParts
parts_of refusal (Byte place byte) = led (byte_text byte) (at_byte place)
parts_of refusal LongLine = led (codes "more than 1024 bytes") no_details
parts_of refusal (OfLabel cause) = label_parts refusal cause
parts_of refusal (OfALabel cause) = a_label_parts refusal cause
parts_of refusal (OfName cause) = labelled (cause.label + 1) (a_label_parts refusal cause.cause)
parts_of refusal (OfQuery cause) = length_parts cause
parts_of refusal (Misplaced place c kind rule) =
    ruled (named rule.items) (record (placed place c) { condition = Some (kind_word kind) })
parts_of refusal (NoEntry place c) = noted (codes ": no entry") (plain (placed place c))
parts_of refusal (Broken number kind) =
    plain (record no_details { demand = Some (number + 1); kind = Some (demand_text kind) })
parts_of refusal Unclear = plain (record no_details { unclear = true })
parts_of refusal (ActionAsking number kind rule) =
    ruled (named rule.items) (record (by_action number) { condition = Some (kind_word kind) })
parts_of refusal (ActionOfType number place c name) =
    plain (record (placed place c) { action = Some (number + 1); type_name = Some name.items })
parts_of refusal (Action number) = plain (by_action number)
parts_of refusal (DefaultAction place c) =
    plain (record (placed place c) { default_action = Some 1; type_name = Some (codes "invalid") })
parts_of refusal (Ends place) = led (codes "ends") (record no_details { place = Some (place + 1) })
parts_of refusal (OfTable place quoted) = fault_place_parts place quoted.items
parts_of refusal ByteOrderMark = led (codes "a byte order mark") (point_at_byte 0 0xFEFF)
parts_of refusal (ALabelOf utf8) =
    noted (codes ", with place 4") (led [] (record (placed 2 0x2D) { ulabel = Some utf8.items }))
parts_of refusal NoALabel = record (ruled a_label_rule (placed 2 0x2D)) { lead = Some [] }

-- what an object says of the cause, if there is one
abbrev pub told_details : Refusal → Option LineCause → Details
told_details refusal None = no_details
told_details refusal (Some cause) = (parts_of refusal cause).details

-- for these a message has space
pub record IsShort (parts : CauseParts) : Type 0 where
  pub details : HasShortTexts parts.details
  pub before : length parts.rule.before ≤ 24
  pub rule : length parts.rule.rule ≤ 64
  pub after : length parts.rule.after ≤ 24
