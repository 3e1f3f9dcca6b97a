-- The object of a refusal is read back, where its cause has small numbers and texts of UTF-8.
use Rattle.std.proofs.Common.{◌≡◌, ℕ, ◌+◌, ◌<◌, ◌/◌, ◌%◌, ◌^◌, nat_lt, Bool, true, false, ◌==◌, List, [], ◌∷◌, ◌++◌, codes, cond, Option, Some, None, refl, ◌∙◌, if◌then◌else◌, arith}
use Rattle.std.specs.Prelude.{IsUtf8}
use Rattle.std.specs.Char.{is_ascii}
use Rattle.std.proofs.lemmas.Bool.{and_from}
use Rattle.std.proofs.lemmas.Bool.Decides.{nat_tests}
use Rattle.std.proofs.lemmas.List.Folds.{list_all-append}
use Rattle.idna.specs.Validity.{is_all_ascii}
use Rattle.idn_text.specs.Points.{four_digits, hex_digit}
use Rattle.idn_text.specs.Refusals.{refusal_number, refusal_text}
use Rattle.idn_text.specs.declared.refusal.Refusal.{Refusal}
use Rattle.idn_text.specs.declared.refusal.Refusal.TheVariants as refusals
use Rattle.idn_class.specs.declared.barring.BarringLine.{BarringLine}
use Rattle.idn_class.specs.declared.barring.BarringLine.TheVariants as lines
use Rattle.idn_class.specs.declared.bidi_class.BidiClass.{BidiClass}
use Rattle.idn_class.specs.declared.bidi_class.BidiClass.TheVariants as bidi
use Rattle.idn_class.specs.declared.broken.BidiCondition.{BidiCondition}
use Rattle.idn_class.specs.declared.broken.BidiCondition.TheVariants as conditions
use Rattle.idn_cause.specs.declared.cause.Cause.{Cause}
use Rattle.idn_cause.specs.declared.cause.Cause.TheVariants.{Barred, Changed, Hyphen, Point, Condition as Broken, Points, Octets}
use Rattle.idn_cause.specs.declared.a_label.ALabelCause.{ALabelCause}
use Rattle.idn_cause.specs.declared.a_label.ALabelCause.TheVariants.{NoCode, NotAscii, NoPunycode, Other, Decoded, Copied}
use Rattle.idn_cause.specs.declared.query.LengthCause.{LengthCause}
use Rattle.idn_cause.specs.declared.query.LengthCause.TheVariants.{LabelOctets, NameOctets}
use Rattle.label_patterns.specs.declared.condition.ConditionKind.{ConditionKind}
use Rattle.label_patterns.specs.declared.condition.ConditionKind.TheVariants.{When, Unless}
use Rattle.ruleset_text.specs.Actions.{kind_word}
use Rattle.ruleset_text.specs.declared.definition.DemandKind.{DemandKind}
use Rattle.ruleset_text.specs.declared.definition.DemandKind.TheVariants.{Never, Always}
use Rattle.ruleset_text.specs.declared.fault.FaultPlace.{FaultPlace}
use Rattle.ruleset_text.specs.declared.fault.FaultPlace.TheVariants as places
use Rattle.answer_json.specs.Answers.{Field, AreSmall, count, text, if_given}
use Rattle.answer_json.specs.Details.{Details, no_details, action_fields, details_fields, flag_if, demand_fields, length_fields, point, refusal_fields, rule_fields, where_fields}
use Rattle.answer_json.specs.Hexadecimal.{leading_digit, point_text}
use Rattle.answer_json.specs.Inputs.{told_of}
use Rattle.answer_json.specs.Objects.{refused, registered_fault, table_fault}
use Rattle.answer_json.specs.Unicode.{AreUnicode}
use Rattle.idn2_refusals.specs.CauseParts.{a_label_parts, at_byte, changed_parts, fault_place_parts, label_parts, length_parts, parts_of, placed, point_at_byte, point_parts, told_details}
use Rattle.idn2_refusals.specs.RuleTexts.{appendix_rule, barring_rule, bidi_rule, bidi_text, demand_text}
use Rattle.idn2_laws.specs.ReadBack.{IsReadBack, byte_of}
use Rattle.idn2_refusals.specs.declared.cause.LineCause.{LineCause}
use Rattle.idn2_refusals.specs.declared.cause.LineCause.TheVariants.{Byte, LongLine, OfLabel, OfALabel, OfName, OfQuery, Misplaced, NoEntry, Broken as BrokenDemand, Unclear, ActionAsking, ActionOfType, Action, DefaultAction, Ends, OfTable, ByteOrderMark, ALabelOf, NoALabel}
use Rattle.idn2_laws.proofs.ReadBackLemmas.{ascii_utf8, input_small, input_unicode, object_read_back}

-- ---- the code point of a refusal is ASCII

digit_ascii : (d : ℕ) → d < 16 → is_ascii (hex_digit d) ≡ true
digit_ascii d small = grind (arith, nat_tests)

pub ascii_append : (a b : List ℕ) → is_all_ascii a ≡ true → is_all_ascii b ≡ true → is_all_ascii (a ++ b) ≡ true
ascii_append a b first second = list_all-append is_ascii a b ∙ and_from (is_all_ascii a) (is_all_ascii b) first second

pub ascii_cons : (c : ℕ) (cs : List ℕ) → is_ascii c ≡ true → is_all_ascii cs ≡ true → is_all_ascii (c ∷ cs) ≡ true
ascii_cons c cs first second = and_from (is_ascii c) (is_all_ascii cs) first second

ascii_unless : (b : Bool) (digit : ℕ) → is_ascii digit ≡ true → is_all_ascii (cond b [] (digit ∷ [])) ≡ true
ascii_unless true digit h = refl
ascii_unless false digit h = ascii_cons digit [] h refl

leading_ascii : (c unit : ℕ) → is_all_ascii (leading_digit c unit) ≡ true
leading_ascii c unit = ascii_unless (nat_lt c unit) (hex_digit (c / unit % 16)) (digit_ascii (c / unit % 16) (omega arith))

pub four_ascii : (c : ℕ) → is_all_ascii (four_digits c) ≡ true
four_ascii c =
    let d1 = hex_digit (c / 0x1000 % 16) in
    let d2 = hex_digit (c / 0x100 % 16) in
    let d3 = hex_digit (c / 0x10 % 16) in
    let d4 = hex_digit (c % 16) in
    ascii_cons d1 (d2 ∷ d3 ∷ d4 ∷ []) (digit_ascii (c / 0x1000 % 16) (omega arith))
    (ascii_cons d2 (d3 ∷ d4 ∷ []) (digit_ascii (c / 0x100 % 16) (omega arith))
    (ascii_cons d3 (d4 ∷ []) (digit_ascii (c / 0x10 % 16) (omega arith)) (ascii_cons d4 [] (digit_ascii (c % 16) (omega arith)) refl)))

point_utf8 : (c : ℕ) → IsUtf8 (point_text c)
unfolding point_text
point_utf8 c =
    let a = leading_digit c 0x10000000 in
    let b = leading_digit c 0x1000000 in
    let d = leading_digit c 0x100000 in
    let e = leading_digit c 0x10000 in
    ascii_utf8 (codes "U+" ++ (a ++ (b ++ (d ++ (e ++ four_digits c)))))
    (ascii_append a (b ++ (d ++ (e ++ four_digits c))) (leading_ascii c 0x10000000)
    (ascii_append b (d ++ (e ++ four_digits c)) (leading_ascii c 0x1000000)
    (ascii_append d (e ++ four_digits c) (leading_ascii c 0x100000) (ascii_append e (four_digits c) (leading_ascii c 0x10000) (four_ascii c)))))

-- ---- members that may be left out

abbrev IsSmallIfGiven : Option ℕ → Type 0
IsSmallIfGiven None = Unit {0}
IsSmallIfGiven (Some n) = n < 2 ^ 64

abbrev IsUtf8IfGiven : Option (List ℕ) → Type 0
IsUtf8IfGiven None = Unit {0}
IsUtf8IfGiven (Some bytes) = IsUtf8 bytes

-- what is told is small, and UTF-8
record AreGood (fields : List Field) : Type 0 where
  small : AreSmall fields
  unicode : AreUnicode fields

small_append : (xs ys : List Field) → AreSmall xs → AreSmall ys → AreSmall (xs ++ ys)
small_append [] ys h k = k
small_append (x ∷ xs) ys h k = (h.0, small_append xs ys h.1 k)

unicode_append : (xs ys : List Field) → AreUnicode xs → AreUnicode ys → AreUnicode (xs ++ ys)
unicode_append [] ys h k = k
unicode_append (x ∷ xs) ys h k = (h.0, h.1, unicode_append xs ys h.2 k)

joined : (xs ys : List Field) → AreGood xs → AreGood ys → AreGood (xs ++ ys)
joined xs ys h k = record { small = small_append xs ys h.small k.small; unicode = unicode_append xs ys h.unicode k.unicode }

good_count : (name : List ℕ) (n : Option ℕ) → is_all_ascii name ≡ true → IsSmallIfGiven n → AreGood (if_given name count n)
good_count name None ascii h = record { small = tt; unicode = tt }
good_count name (Some n) ascii h = record { small = (h, tt); unicode = (ascii_utf8 name ascii, tt, tt) }

good_text : (name : List ℕ) (bytes : Option (List ℕ)) → is_all_ascii name ≡ true → IsUtf8IfGiven bytes → AreGood (if_given name text bytes)
good_text name None ascii h = record { small = tt; unicode = tt }
good_text name (Some bytes) ascii h = record { small = (tt, tt); unicode = (ascii_utf8 name ascii, h, tt) }

good_point : (name : List ℕ) (c : Option ℕ) → is_all_ascii name ≡ true → AreGood (if_given name point c)
good_point name None ascii = record { small = tt; unicode = tt }
good_point name (Some c) ascii = record { small = (tt, tt); unicode = (ascii_utf8 name ascii, point_utf8 c, tt) }

good_flag : (name : List ℕ) (holds : Bool) → is_all_ascii name ≡ true → AreGood (flag_if name holds)
good_flag name false ascii = record { small = tt; unicode = tt }
good_flag name true ascii = record { small = (tt, tt); unicode = (ascii_utf8 name ascii, tt, tt) }

-- ---- details

record AreGoodDetails (d : Details) : Type 0 where
  label : IsSmallIfGiven d.label
  place : IsSmallIfGiven d.place
  condition : IsUtf8IfGiven d.condition
  rule : IsUtf8IfGiven d.rule
  bidi_class : IsUtf8IfGiven d.bidi_class
  demand : IsSmallIfGiven d.demand
  kind : IsUtf8IfGiven d.kind
  action : IsSmallIfGiven d.action
  default_action : IsSmallIfGiven d.default_action
  type_name : IsUtf8IfGiven d.type_name
  code_points : IsSmallIfGiven d.code_points
  octets : IsSmallIfGiven d.octets
  alabel : IsUtf8IfGiven d.alabel
  byte : IsSmallIfGiven d.byte
  ulabel : IsUtf8IfGiven d.ulabel

module _ (d : Details) (h : AreGoodDetails d) where
  good_where : AreGood (where_fields d)
  good_where =
      joined _ (if_given (codes "place") count d.place)
      (joined _ (if_given (codes "code_point") point d.code_point)
      (joined (if_given (codes "label") count d.label) (flag_if (codes "decoded") d.decoded) (good_count (codes "label") d.label refl h.label) (good_flag (codes "decoded") d.decoded refl))
      (good_point (codes "code_point") d.code_point refl))
      (good_count (codes "place") d.place refl h.place)

  good_rule : AreGood (rule_fields d)
  good_rule =
      joined _ (if_given (codes "nfc") point d.nfc)
      (joined _ (if_given (codes "bidi_class") text d.bidi_class)
      (joined (if_given (codes "condition") text d.condition) (if_given (codes "rule") text d.rule) (good_text (codes "condition") d.condition refl h.condition) (good_text (codes "rule") d.rule refl h.rule))
      (good_text (codes "bidi_class") d.bidi_class refl h.bidi_class))
      (good_point (codes "nfc") d.nfc refl)

  good_demand : AreGood (demand_fields d)
  good_demand = joined (if_given (codes "demand") count d.demand) (if_given (codes "kind") text d.kind) (good_count (codes "demand") d.demand refl h.demand) (good_text (codes "kind") d.kind refl h.kind)

  good_action : AreGood (action_fields d)
  good_action =
      joined _ (flag_if (codes "unclear") d.unclear)
      (joined _ (if_given (codes "type") text d.type_name)
      (joined (if_given (codes "action") count d.action) (if_given (codes "default_action") count d.default_action) (good_count (codes "action") d.action refl h.action) (good_count (codes "default_action") d.default_action refl h.default_action))
      (good_text (codes "type") d.type_name refl h.type_name))
      (good_flag (codes "unclear") d.unclear refl)

  good_lengths : AreGood (length_fields d)
  good_lengths =
      joined _ (if_given (codes "ulabel") text d.ulabel)
      (joined _ (if_given (codes "byte") count d.byte)
      (joined _ (if_given (codes "alabel") text d.alabel)
      (joined (if_given (codes "code_points") count d.code_points) (if_given (codes "octets") count d.octets) (good_count (codes "code_points") d.code_points refl h.code_points) (good_count (codes "octets") d.octets refl h.octets))
      (good_text (codes "alabel") d.alabel refl h.alabel))
      (good_count (codes "byte") d.byte refl h.byte))
      (good_text (codes "ulabel") d.ulabel refl h.ulabel)

  good_details : AreGood (details_fields d)
  good_details =
      joined _ (length_fields d)
      (joined _ (action_fields d) (joined _ (demand_fields d) (joined (where_fields d) (rule_fields d) good_where good_rule) good_demand) good_action)
      good_lengths

record IsGoodRefusal (refusal : Refusal) : Type 0 where
  number : refusal_number refusal < 2 ^ 64
  words : is_all_ascii (refusal_text refusal) ≡ true

good_refusal : (refusal : Refusal) → IsGoodRefusal refusal
good_refusal refusals.NotUtf8 = record { number = omega arith; words = refl }
good_refusal refusals.LineTooLong = record { number = omega arith; words = refl }
good_refusal refusals.Empty = record { number = omega arith; words = refl }
good_refusal refusals.OutOfOrder = record { number = omega arith; words = refl }
good_refusal refusals.FileTooLong = record { number = omega arith; words = refl }
good_refusal refusals.Disallowed = record { number = omega arith; words = refl }
good_refusal refusals.Unassigned = record { number = omega arith; words = refl }
good_refusal refusals.NotNfc = record { number = omega arith; words = refl }
good_refusal refusals.Hyphen = record { number = omega arith; words = refl }
good_refusal refusals.LeadingMark = record { number = omega arith; words = refl }
good_refusal refusals.ContextJ = record { number = omega arith; words = refl }
good_refusal refusals.ContextO = record { number = omega arith; words = refl }
good_refusal refusals.Bidi = record { number = omega arith; words = refl }
good_refusal refusals.LabelTooLong = record { number = omega arith; words = refl }
good_refusal refusals.BadALabel = record { number = omega arith; words = refl }
good_refusal refusals.LookupInvalid = record { number = omega arith; words = refl }
good_refusal refusals.LookupLength = record { number = omega arith; words = refl }
good_refusal refusals.Syntax = record { number = omega arith; words = refl }
good_refusal refusals.SameSource = record { number = omega arith; words = refl }
good_refusal refusals.SameVariant = record { number = omega arith; words = refl }
good_refusal refusals.BadClass = record { number = omega arith; words = refl }
good_refusal refusals.Limit = record { number = omega arith; words = refl }
good_refusal refusals.NoSuchName = record { number = omega arith; words = refl }
good_refusal refusals.SameName = record { number = omega arith; words = refl }
good_refusal refusals.NotSupported = record { number = omega arith; words = refl }
good_refusal refusals.NotInTable = record { number = omega arith; words = refl }
good_refusal refusals.NotValid = record { number = omega arith; words = refl }
good_refusal refusals.Usage = record { number = omega arith; words = refl }
good_refusal refusals.ReadFault = record { number = omega arith; words = refl }
good_refusal refusals.WriteFault = record { number = omega arith; words = refl }
good_refusal refusals.Memory = record { number = omega arith; words = refl }

good_fields : (refusal : Refusal) (d : Details) → AreGoodDetails d → AreGood (refusal_fields refusal d)
good_fields refusal d h =
    let r = good_refusal refusal in
    let rest = good_details d h in record {
      small = (r.number, (tt, rest.small));
      unicode = (ascii_utf8 (codes "number") refl, tt, (ascii_utf8 (codes "text") refl, ascii_utf8 (refusal_text refusal) r.words, rest.unicode));
    }

-- ---- causes

abbrev pub IsFittingCause : Cause → Type 0
IsFittingCause (Barred place c line) = place < 2 ^ 63
IsFittingCause (Changed place c form) = place < 2 ^ 63
IsFittingCause (Hyphen place len) = place < 2 ^ 63
IsFittingCause (Point place c) = place < 2 ^ 63
IsFittingCause (Broken broken c class) = broken.place < 2 ^ 63
IsFittingCause (Points n) = n < 2 ^ 64
IsFittingCause (Octets n) = n < 2 ^ 64

abbrev pub IsFittingALabel : ALabelCause → Type 0
IsFittingALabel NoCode = Unit {0}
IsFittingALabel (NotAscii place c) = place < 2 ^ 63
IsFittingALabel NoPunycode = Unit {0}
IsFittingALabel (Other octets) = IsUtf8 octets.items
IsFittingALabel (Decoded cause) = IsFittingCause cause
IsFittingALabel (Copied cause) = IsFittingCause cause

abbrev pub IsFittingLength : LengthCause → Type 0
IsFittingLength (LabelOctets number octets) = (number < 2 ^ 63) × (octets < 2 ^ 64)
IsFittingLength (NameOctets octets) = octets < 2 ^ 64

abbrev pub IsFitting : LineCause → Type 0
IsFitting (Byte place byte) = place < 2 ^ 63
IsFitting LongLine = Unit {0}
IsFitting (OfLabel cause) = IsFittingCause cause
IsFitting (OfALabel cause) = IsFittingALabel cause
IsFitting (OfName cause) = (cause.label < 2 ^ 63) × IsFittingALabel cause.cause
IsFitting (OfQuery cause) = IsFittingLength cause
IsFitting (Misplaced place c kind rule) = (place < 2 ^ 63) × IsUtf8 rule.items
IsFitting (NoEntry place c) = place < 2 ^ 63
IsFitting (BrokenDemand number kind) = number < 2 ^ 63
IsFitting Unclear = Unit {0}
IsFitting (ActionAsking number kind rule) = (number < 2 ^ 63) × IsUtf8 rule.items
IsFitting (ActionOfType number place c name) = (number < 2 ^ 63) × (place < 2 ^ 63) × IsUtf8 name.items
IsFitting (Action number) = number < 2 ^ 63
IsFitting (DefaultAction place c) = place < 2 ^ 63
IsFitting (Ends place) = place < 2 ^ 63
IsFitting (OfTable place quoted) = byte_of place < 2 ^ 63
IsFitting ByteOrderMark = Unit {0}
IsFitting (ALabelOf utf8) = IsUtf8 utf8.items
IsFitting NoALabel = Unit {0}

abbrev pub IsFittingIfTold : Option LineCause → Type 0
IsFittingIfTold None = Unit {0}
IsFittingIfTold (Some cause) = IsFitting cause

next_small : (n : ℕ) → n < 2 ^ 63 → n + 1 < 2 ^ 64
next_small n small = omega (arith, small)

good_none : AreGoodDetails no_details
good_none = record { label = tt; place = tt; condition = tt; rule = tt; bidi_class = tt; demand = tt; kind = tt; action = tt; default_action = tt; type_name = tt; code_points = tt; octets = tt; alabel = tt; byte = tt; ulabel = tt }

barring_ascii : (line : BarringLine) → IsUtf8 (barring_rule line).rule
barring_ascii lines.NoScalarValue = ascii_utf8 (codes "no scalar value") refl
barring_ascii lines.OutsideProfile = ascii_utf8 (codes "profile") refl
barring_ascii lines.Exceptions = ascii_utf8 (codes "RFC 5892 2.6") refl
barring_ascii lines.Unassigned = ascii_utf8 (codes "RFC 5892 2.10") refl
barring_ascii lines.Unstable = ascii_utf8 (codes "RFC 5892 2.2") refl
barring_ascii lines.IgnorableProperties = ascii_utf8 (codes "RFC 5892 2.3") refl
barring_ascii lines.IgnorableBlocks = ascii_utf8 (codes "RFC 5892 2.4") refl
barring_ascii lines.OldHangulJamo = ascii_utf8 (codes "RFC 5892 2.9") refl
barring_ascii lines.NoLetterDigit = ascii_utf8 (codes "RFC 5892 2.1") refl

condition_ascii : (condition : BidiCondition) → IsUtf8 (bidi_rule condition)
condition_ascii conditions.First = ascii_utf8 (codes "RFC 5893 2 condition 1") refl
condition_ascii conditions.RtlHolds = ascii_utf8 (codes "RFC 5893 2 condition 2") refl
condition_ascii conditions.RtlEnds = ascii_utf8 (codes "RFC 5893 2 condition 3") refl
condition_ascii conditions.RtlNumbers = ascii_utf8 (codes "RFC 5893 2 condition 4") refl
condition_ascii conditions.LtrHolds = ascii_utf8 (codes "RFC 5893 2 condition 5") refl
condition_ascii conditions.LtrEnds = ascii_utf8 (codes "RFC 5893 2 condition 6") refl

bidi_ascii : (class : BidiClass) → IsUtf8 (bidi_text class)
bidi_ascii bidi.L = ascii_utf8 (codes "L") refl
bidi_ascii bidi.R = ascii_utf8 (codes "R") refl
bidi_ascii bidi.AL = ascii_utf8 (codes "AL") refl
bidi_ascii bidi.AN = ascii_utf8 (codes "AN") refl
bidi_ascii bidi.EN = ascii_utf8 (codes "EN") refl
bidi_ascii bidi.ES = ascii_utf8 (codes "ES") refl
bidi_ascii bidi.CS = ascii_utf8 (codes "CS") refl
bidi_ascii bidi.ET = ascii_utf8 (codes "ET") refl
bidi_ascii bidi.ON = ascii_utf8 (codes "ON") refl
bidi_ascii bidi.BN = ascii_utf8 (codes "BN") refl
bidi_ascii bidi.NSM = ascii_utf8 (codes "NSM") refl
bidi_ascii bidi.Other = ascii_utf8 (codes "-") refl

choice_ascii : (b : Bool) (first other : List ℕ) → is_all_ascii first ≡ true → is_all_ascii other ≡ true → is_all_ascii (if b then first else other) ≡ true
choice_ascii true first other h k = h
choice_ascii false first other h k = k

appendix_ascii : (c : ℕ) → is_all_ascii (appendix_rule c) ≡ true
appendix_ascii c =
    choice_ascii (c == 0x200C) (codes "RFC 5892 A.1") _ refl
    (choice_ascii (c == 0x200D) (codes "RFC 5892 A.2") _ refl
    (choice_ascii (c == 0xB7) (codes "RFC 5892 A.3") _ refl
    (choice_ascii (c == 0x375) (codes "RFC 5892 A.4") _ refl
    (choice_ascii (c == 0x5F3) (codes "RFC 5892 A.5") _ refl
    (choice_ascii (c == 0x5F4) (codes "RFC 5892 A.6") _ refl
    (choice_ascii (c == 0x30FB) (codes "RFC 5892 A.7") _ refl
    (choice_ascii (c / 16 == 0x66) (codes "RFC 5892 A.8") (codes "RFC 5892 A.9") refl refl)))))))

good_placed : (place c : ℕ) → place < 2 ^ 63 → AreGoodDetails (placed place c)
good_placed place c h = record { label = tt; place = next_small place h; condition = tt; rule = tt; bidi_class = tt; demand = tt; kind = tt; action = tt; default_action = tt; type_name = tt; code_points = tt; octets = tt; alabel = tt; byte = tt; ulabel = tt }

-- the same with a rule
good_ruled : (d : Details) (rule : List ℕ) → IsUtf8 rule → AreGoodDetails d → AreGoodDetails (record d { rule = Some rule })
good_ruled d rule utf8 h = record { label = h.label; place = h.place; condition = h.condition; rule = utf8; bidi_class = h.bidi_class; demand = h.demand; kind = h.kind; action = h.action; default_action = h.default_action; type_name = h.type_name; code_points = h.code_points; octets = h.octets; alabel = h.alabel; byte = h.byte; ulabel = h.ulabel }

good_changed : (place c : ℕ) (form : Option ℕ) → place < 2 ^ 63 → AreGoodDetails (changed_parts (placed place c) form).details
good_changed place c None h = good_placed place c h
good_changed place c (Some form) h = record { label = tt; place = next_small place h; condition = tt; rule = tt; bidi_class = tt; demand = tt; kind = tt; action = tt; default_action = tt; type_name = tt; code_points = tt; octets = tt; alabel = tt; byte = tt; ulabel = tt }

good_context : (refusal : Refusal) (place c : ℕ) → place < 2 ^ 63 → AreGoodDetails (point_parts refusal place c).details
good_context refusals.ContextJ place c h = good_ruled (placed place c) (appendix_rule c) (ascii_utf8 (appendix_rule c) (appendix_ascii c)) (good_placed place c h)
good_context refusals.ContextO place c h = good_ruled (placed place c) (appendix_rule c) (ascii_utf8 (appendix_rule c) (appendix_ascii c)) (good_placed place c h)
good_context refusal place c h = good_placed place c h

good_cause : (refusal : Refusal) (cause : Cause) → IsFittingCause cause → AreGoodDetails (label_parts refusal cause).details
unfolding label_parts
good_cause refusal (Barred place c line) h = good_ruled (placed place c) (barring_rule line).rule (barring_ascii line) (good_placed place c h)
good_cause refusal (Changed place c form) h = good_changed place c form h
good_cause refusal (Hyphen place len) h = good_placed place 0x2D h
good_cause refusal (Point place c) h = good_context refusal place c h
good_cause refusal (Broken broken c class) h = record { label = tt; place = next_small broken.place h; condition = tt; rule = condition_ascii broken.condition; bidi_class = bidi_ascii class; demand = tt; kind = tt; action = tt; default_action = tt; type_name = tt; code_points = tt; octets = tt; alabel = tt; byte = tt; ulabel = tt }
good_cause refusal (Points n) h = record { label = tt; place = tt; condition = tt; rule = tt; bidi_class = tt; demand = tt; kind = tt; action = tt; default_action = tt; type_name = tt; code_points = h; octets = tt; alabel = tt; byte = tt; ulabel = tt }
good_cause refusal (Octets n) h = record { label = tt; place = tt; condition = tt; rule = tt; bidi_class = tt; demand = tt; kind = tt; action = tt; default_action = tt; type_name = tt; code_points = tt; octets = h; alabel = tt; byte = tt; ulabel = tt }

-- the same details, of what an A-label stands for
good_decoded_details : (d : Details) → AreGoodDetails d → AreGoodDetails (record d { decoded = true })
good_decoded_details d h = record { label = h.label; place = h.place; condition = h.condition; rule = h.rule; bidi_class = h.bidi_class; demand = h.demand; kind = h.kind; action = h.action; default_action = h.default_action; type_name = h.type_name; code_points = h.code_points; octets = h.octets; alabel = h.alabel; byte = h.byte; ulabel = h.ulabel }

-- and of the label of a number
good_label_details : (d : Details) (n : ℕ) → n < 2 ^ 63 → AreGoodDetails d → AreGoodDetails (record d { label = Some (n + 1) })
good_label_details d n small h = record { label = next_small n small; place = h.place; condition = h.condition; rule = h.rule; bidi_class = h.bidi_class; demand = h.demand; kind = h.kind; action = h.action; default_action = h.default_action; type_name = h.type_name; code_points = h.code_points; octets = h.octets; alabel = h.alabel; byte = h.byte; ulabel = h.ulabel }

good_a_label : (refusal : Refusal) (cause : ALabelCause) → IsFittingALabel cause → AreGoodDetails (a_label_parts refusal cause).details
unfolding a_label_parts
good_a_label refusal NoCode h = good_none
good_a_label refusal (NotAscii place c) h = good_placed place c h
good_a_label refusal NoPunycode h = good_ruled no_details (codes "RFC 3492 6.2") (ascii_utf8 (codes "RFC 3492 6.2") refl) good_none
good_a_label refusal (Other octets) h = record { label = tt; place = tt; condition = tt; rule = tt; bidi_class = tt; demand = tt; kind = tt; action = tt; default_action = tt; type_name = tt; code_points = tt; octets = tt; alabel = h; byte = tt; ulabel = tt }
good_a_label refusal (Decoded cause) h = good_decoded_details (label_parts refusal cause).details (good_cause refusal cause h)
good_a_label refusal (Copied cause) h = good_cause refusal cause h

good_length : (cause : LengthCause) → IsFittingLength cause → AreGoodDetails (length_parts cause).details
good_length (LabelOctets number octets) h = record { label = next_small number h.0; place = tt; condition = tt; rule = tt; bidi_class = tt; demand = tt; kind = tt; action = tt; default_action = tt; type_name = tt; code_points = tt; octets = h.1; alabel = tt; byte = tt; ulabel = tt }
good_length (NameOctets octets) h = record { label = tt; place = tt; condition = tt; rule = tt; bidi_class = tt; demand = tt; kind = tt; action = tt; default_action = tt; type_name = tt; code_points = tt; octets = h; alabel = tt; byte = tt; ulabel = tt }

good_byte : (place : ℕ) → place < 2 ^ 63 → AreGoodDetails (at_byte place)
good_byte place h = record { label = tt; place = tt; condition = tt; rule = tt; bidi_class = tt; demand = tt; kind = tt; action = tt; default_action = tt; type_name = tt; code_points = tt; octets = tt; alabel = tt; byte = next_small place h; ulabel = tt }

good_point_byte : (place c : ℕ) → place < 2 ^ 63 → AreGoodDetails (point_at_byte place c)
good_point_byte place c h = record { label = tt; place = tt; condition = tt; rule = tt; bidi_class = tt; demand = tt; kind = tt; action = tt; default_action = tt; type_name = tt; code_points = tt; octets = tt; alabel = tt; byte = next_small place h; ulabel = tt }

good_fault_place : (place : FaultPlace) (quoted : List ℕ) → byte_of place < 2 ^ 63 → AreGoodDetails (fault_place_parts place quoted).details
good_fault_place (places.Lexeme place len) quoted h = good_byte place h
good_fault_place (places.End place) quoted h = good_byte place h
good_fault_place (places.Point place c) quoted h = good_point_byte place c h
good_fault_place (places.InRange place c) quoted h = good_point_byte place c h
good_fault_place (places.Variant place) quoted h = good_byte place h
good_fault_place (places.Source place) quoted h = good_byte place h
good_fault_place (places.Byte place) quoted h = good_byte place h
good_fault_place (places.NinthPoint place c) quoted h = good_point_byte place c h
good_fault_place (places.SeventeenthVariant place c) quoted h = good_point_byte place c h

condition_utf8 : (kind : ConditionKind) → IsUtf8 (kind_word kind)
condition_utf8 When = ascii_utf8 (codes "when") refl
condition_utf8 Unless = ascii_utf8 (codes "unless") refl

demand_utf8 : (kind : DemandKind) → IsUtf8 (demand_text kind)
demand_utf8 Never = ascii_utf8 (codes "never") refl
demand_utf8 Always = ascii_utf8 (codes "always") refl

good_line : (refusal : Refusal) (cause : LineCause) → IsFitting cause → AreGoodDetails (parts_of refusal cause).details
good_line refusal (Byte place byte) h = good_byte place h
good_line refusal LongLine h = good_none
good_line refusal (OfLabel cause) h = good_cause refusal cause h
good_line refusal (OfALabel cause) h = good_a_label refusal cause h
good_line refusal (OfName cause) h = good_label_details (a_label_parts refusal cause.cause).details cause.label h.0 (good_a_label refusal cause.cause h.1)
good_line refusal (OfQuery cause) h = good_length cause h
good_line refusal (Misplaced place c kind rule) h = record { label = tt; place = next_small place h.0; condition = condition_utf8 kind; rule = h.1; bidi_class = tt; demand = tt; kind = tt; action = tt; default_action = tt; type_name = tt; code_points = tt; octets = tt; alabel = tt; byte = tt; ulabel = tt }
good_line refusal (NoEntry place c) h = record { label = tt; place = next_small place h; condition = tt; rule = tt; bidi_class = tt; demand = tt; kind = tt; action = tt; default_action = tt; type_name = tt; code_points = tt; octets = tt; alabel = tt; byte = tt; ulabel = tt }
good_line refusal (BrokenDemand number kind) h = record { label = tt; place = tt; condition = tt; rule = tt; bidi_class = tt; demand = next_small number h; kind = demand_utf8 kind; action = tt; default_action = tt; type_name = tt; code_points = tt; octets = tt; alabel = tt; byte = tt; ulabel = tt }
good_line refusal Unclear h = record { label = tt; place = tt; condition = tt; rule = tt; bidi_class = tt; demand = tt; kind = tt; action = tt; default_action = tt; type_name = tt; code_points = tt; octets = tt; alabel = tt; byte = tt; ulabel = tt }
good_line refusal (ActionAsking number kind rule) h = record { label = tt; place = tt; condition = condition_utf8 kind; rule = h.1; bidi_class = tt; demand = tt; kind = tt; action = next_small number h.0; default_action = tt; type_name = tt; code_points = tt; octets = tt; alabel = tt; byte = tt; ulabel = tt }
good_line refusal (ActionOfType number place c name) h = record { label = tt; place = next_small place h.1; condition = tt; rule = tt; bidi_class = tt; demand = tt; kind = tt; action = next_small number h.0; default_action = tt; type_name = h.2; code_points = tt; octets = tt; alabel = tt; byte = tt; ulabel = tt }
good_line refusal (Action number) h = record { label = tt; place = tt; condition = tt; rule = tt; bidi_class = tt; demand = tt; kind = tt; action = next_small number h; default_action = tt; type_name = tt; code_points = tt; octets = tt; alabel = tt; byte = tt; ulabel = tt }
good_line refusal (DefaultAction place c) h = record { label = tt; place = next_small place h; condition = tt; rule = tt; bidi_class = tt; demand = tt; kind = tt; action = tt; default_action = omega arith; type_name = ascii_utf8 (codes "invalid") refl; code_points = tt; octets = tt; alabel = tt; byte = tt; ulabel = tt }
good_line refusal (Ends place) h = record { label = tt; place = next_small place h; condition = tt; rule = tt; bidi_class = tt; demand = tt; kind = tt; action = tt; default_action = tt; type_name = tt; code_points = tt; octets = tt; alabel = tt; byte = tt; ulabel = tt }
good_line refusal (OfTable place quoted) h = good_fault_place place quoted.items h
good_line refusal ByteOrderMark h = good_point_byte 0 0xFEFF (omega arith)
good_line refusal (ALabelOf utf8) h = record { label = tt; place = omega arith; condition = tt; rule = tt; bidi_class = tt; demand = tt; kind = tt; action = tt; default_action = tt; type_name = tt; code_points = tt; octets = tt; alabel = tt; byte = tt; ulabel = h }
good_line refusal NoALabel h = good_ruled (placed 2 0x2D) (codes "RFC 5890 2.3.2.1") (ascii_utf8 (codes "RFC 5890 2.3.2.1") refl) (good_placed 2 0x2D (omega arith))

good_told : (refusal : Refusal) (cause : Option LineCause) → IsFittingIfTold cause → AreGoodDetails (told_details refusal cause)
good_told refusal None h = good_none
good_told refusal (Some cause) h = good_line refusal cause h

-- ---- the objects of refusals

module _ (n : ℕ) (small : n < 2 ^ 64) (refusal : Refusal) (cause : Option LineCause) (h : IsFittingIfTold cause) where
  told : AreGood (refusal_fields refusal (told_details refusal cause))
  told = good_fields refusal (told_details refusal cause) (good_told refusal cause h)

  pub refused_good : (body : Option (List ℕ)) → IsReadBack (refused n (told_of body) refusal (told_details refusal cause))
  refused_good body =
      object_read_back _ ((small, (input_small (told_of body), tt)), told.small)
      ((ascii_utf8 (codes "line") refl, tt, ((input_unicode body).0, (input_unicode body).1, tt)), told.unicode)

  pub table_fault_good : IsReadBack (table_fault n refusal (told_details refusal cause))
  table_fault_good = object_read_back _ ((small, tt), told.small) ((ascii_utf8 (codes "table_line") refl, tt, tt), told.unicode)

  pub registered_fault_good : IsReadBack (registered_fault n refusal (told_details refusal cause))
  registered_fault_good = object_read_back _ ((small, tt), told.small) ((ascii_utf8 (codes "registered_line") refl, tt, tt), told.unicode)
