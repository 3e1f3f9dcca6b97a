-- What messages go on with for causes, by computation.
use Rattle.std.specs.Prelude.{◌≡◌, Some, codes}
use Rattle.idn_text.specs.declared.refusal.Refusal.TheVariants as refusals
use Rattle.idn_class.specs.declared.barring.BarringLine.TheVariants as lines
use Rattle.idn_class.specs.declared.bidi_class.BidiClass.TheVariants.{L, ES}
use Rattle.idn_class.specs.declared.broken.BidiCondition.TheVariants.{RtlHolds, LtrEnds}
use Rattle.idn_cause.specs.declared.cause.Cause.TheVariants as causes
use Rattle.idn_cause.specs.declared.a_label.ALabelCause.TheVariants as a_labels
use Rattle.idn_cause.specs.declared.query.LengthCause.TheVariants.{LabelOctets, NameOctets}
use Rattle.label_patterns.specs.declared.condition.ConditionKind.TheVariants.{When, Unless}
use Rattle.ruleset_text.specs.declared.definition.DemandKind.TheVariants.{Never}
use Rattle.idn2_refusals.specs.CauseWords.{tail_text}
use Rattle.idn2_refusals.specs.declared.cause.LineCause.TheVariants.{Byte, LongLine, OfLabel, OfALabel, OfName, OfQuery}
use Rattle.idn2_refusals.specs.declared.cause.LineCause.TheVariants.{Misplaced, NoEntry, Broken, Unclear, ActionAsking}
use Rattle.idn2_refusals.specs.declared.cause.LineCause.TheVariants.{ActionOfType, Action, DefaultAction, ByteOrderMark}
use Rattle.idn2_refusals.specs.declared.cause.LineCause.TheVariants.{ALabelOf, NoALabel}

-- each form of a cause
pub record ExamplesOfCauses : Type 0 where
  pub barred : tail_text refusals.Disallowed (Some (OfLabel (causes.Barred 0 0x46 lines.Unstable)))
      ≡ codes ": U+0046 at place 1: RFC 5892 2.2 Unstable"
  pub profile : tail_text refusals.Disallowed (Some (OfLabel (causes.Barred 0 0x1E922 lines.OutsideProfile)))
      ≡ codes ": U+1E922 at place 1: outside the profile"
  pub unassigned : tail_text refusals.Unassigned (Some (OfLabel (causes.Barred 1 0x378 lines.Unassigned)))
      ≡ codes ": U+0378 at place 2: RFC 5892 2.10 Unassigned"
  pub form : tail_text refusals.NotNfc (Some (OfLabel (causes.Changed 1 0x61 (Some 0xE1))))
      ≡ codes ": U+0061 at place 2: NFC has U+00E1"
  pub first : tail_text refusals.Hyphen (Some (OfLabel (causes.Hyphen 0 1))) ≡ codes ": place 1, the first"
  pub last : tail_text refusals.Hyphen (Some (OfLabel (causes.Hyphen 3 4))) ≡ codes ": place 4, the last"
  pub fourth : tail_text refusals.Hyphen (Some (OfLabel (causes.Hyphen 2 5))) ≡ codes ": place 3, with place 4"
  pub mark : tail_text refusals.LeadingMark (Some (OfLabel (causes.Point 0 0x301))) ≡ codes ": U+0301 at place 1"
  pub joiner : tail_text refusals.ContextJ (Some (OfLabel (causes.Point 1 0x200C)))
      ≡ codes ": U+200C at place 2: RFC 5892 A.1"
  pub arabic_indic : tail_text refusals.ContextO (Some (OfLabel (causes.Point 1 0x660)))
      ≡ codes ": U+0660 at place 2: RFC 5892 A.8"
  pub extended : tail_text refusals.ContextO (Some (OfLabel (causes.Point 1 0x6F0)))
      ≡ codes ": U+06F0 at place 2: RFC 5892 A.9"
  pub bidi : tail_text refusals.Bidi
      (Some (OfLabel (causes.Condition (record { condition = RtlHolds; place = 2 }) 0x61 L)))
      ≡ codes ": U+0061 at place 3 is L: RFC 5893 2, condition 2"
  pub points : tail_text refusals.LabelTooLong (Some (OfLabel (causes.Points 64))) ≡ codes ": 64 code points"
  pub octets : tail_text refusals.LabelTooLong (Some (OfLabel (causes.Octets 70))) ≡ codes ": A-label of 70 octets"
  pub no_code : tail_text refusals.BadALabel (Some (OfALabel a_labels.NoCode)) ≡ codes ": nothing after xn--"
  pub not_ascii : tail_text refusals.BadALabel (Some (OfALabel (a_labels.NotAscii 6 0xDF)))
      ≡ codes ": U+00DF at place 7: not ASCII"
  pub no_punycode : tail_text refusals.BadALabel (Some (OfALabel a_labels.NoPunycode))
      ≡ codes ": not RFC 3492 6.2 Punycode"
  pub decoded : tail_text refusals.Disallowed (Some (OfALabel (a_labels.Decoded (causes.Barred 0 0x46 lines.Unstable))))
      ≡ codes ": decoded: U+0046 at place 1: RFC 5892 2.2 Unstable"
  pub in_a_name : tail_text refusals.BadALabel
      (Some (OfName (record { label = 1; cause = a_labels.Other (record { items = codes "a" }) })))
      ≡ codes ": label 2: the A-label is a"
  pub decoded_in_a_name : tail_text refusals.Disallowed
      (Some (OfName (record { label = 1; cause = a_labels.Decoded (causes.Barred 0 0x1F4A9 lines.NoLetterDigit) })))
      ≡ codes ": label 2, decoded: U+1F4A9 at place 1: not RFC 5892 2.1 LetterDigits"
  pub copied_in_a_name : tail_text refusals.Bidi
      (Some (OfName
      (record {
        label = 1;
        cause =
            a_labels.Copied (causes.Condition (record { condition = LtrEnds; place = 1 }) 0x2D ES);
      })))
      ≡ codes ": label 2: U+002D at place 2 is ES: RFC 5893 2, condition 6"
  pub length_of_a_label : tail_text refusals.LookupLength (Some (OfQuery (LabelOctets 1 64)))
      ≡ codes ": label 2: 64 octets"
  pub length_of_a_name : tail_text refusals.LookupLength (Some (OfQuery (NameOctets 254)))
      ≡ codes ": name of 254 octets"
  pub outside : tail_text refusals.NotInTable (Some (OfLabel (causes.Point 2 0xF1))) ≡ codes ": U+00F1 at place 3"
  pub misplaced : tail_text refusals.NotValid (Some (Misplaced 2 0x2D Unless (record { items = codes "edge" })))
      ≡ codes ": U+002D at place 3: unless edge"
  pub no_entry : tail_text refusals.NotValid (Some (NoEntry 2 0x63)) ≡ codes ": U+0063 at place 3: no entry"
  pub broken : tail_text refusals.NotValid (Some (Broken 0 Never)) ≡ codes ": demand 1, never"
  pub unclear : tail_text refusals.NotValid (Some Unclear) ≡ codes ": unclear"
  pub action_asking : tail_text refusals.NotValid (Some (ActionAsking 1 When (record { items = codes "mixed" })))
      ≡ codes ": action 2: when mixed"
  pub action_of_type : tail_text refusals.NotValid (Some (ActionOfType 1 0 0x430 (record { items = codes "oor" })))
      ≡ codes ": action 2: U+0430 at place 1 is oor"
  pub action : tail_text refusals.NotValid (Some (Action 1)) ≡ codes ": action 2"
  pub default_action : tail_text refusals.NotValid (Some (DefaultAction 0 0x430))
      ≡ codes ": default action 1: U+0430 at place 1 is invalid"
  pub byte : tail_text refusals.NotUtf8 (Some (Byte 2 0xFF)) ≡ codes ": byte 0xFF at byte 3"
  pub long_line : tail_text refusals.LineTooLong (Some LongLine) ≡ codes ": more than 1024 bytes"
  pub a_label : tail_text refusals.Hyphen (Some (ALabelOf (record { items = codes "fass" })))
      ≡ codes ": place 3, with place 4: an A-label of 'fass'"
  pub no_a_label : tail_text refusals.Hyphen (Some NoALabel)
      ≡ codes ": place 3, with place 4: not RFC 5890 2.3.2.1 A-label"
  pub byte_order_mark : tail_text refusals.Syntax (Some ByteOrderMark) ≡ codes ": a byte order mark at byte 1"
