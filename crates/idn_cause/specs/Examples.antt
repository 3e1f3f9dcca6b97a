-- Causes of labels that are refused, computed from the definitions.
use Rattle.std.specs.Prelude.{◌≡◌, ℕ, List, [], ◌∷◌, ◌++◌, codes, Option, Some, None}
use Rattle.idn_text.specs.declared.refusal.Refusal.{Refusal}
use Rattle.idn_text.specs.declared.refusal.Refusal.TheVariants.{Hyphen, LeadingMark, ContextJ, ContextO, Bidi}
use Rattle.idn_text.specs.declared.refusal.Refusal.TheVariants.{BadALabel}
use Rattle.idn_class.specs.declared.bidi_class.BidiClass.TheVariants.{L, R, EN, AN, ES, BN}
use Rattle.idn_class.specs.declared.broken.BidiCondition.TheVariants.{First, RtlHolds, RtlEnds, RtlNumbers, LtrHolds}
use Rattle.idn_cause.specs.declared.cause.Cause.{Cause}
use Rattle.idn_cause.specs.declared.cause.Cause.TheVariants.{Hyphen as HyphenAt, Point, Condition}
use Rattle.idn_cause.specs.declared.a_label.ALabelCause.TheVariants.{NoCode, NotAscii, NoPunycode}
use Rattle.idn_cause.specs.declared.query.LengthCause.TheVariants.{LabelOctets}
use Rattle.idn_cause.specs.Causes.{cause_of}
use Rattle.idn_cause.specs.ALabelCauses.{a_label_cause}
use Rattle.idn_cause.specs.NameCauses.{length_cause}
use Rattle.idn_class.specs.declared.properties.Properties.TheVariants.{Profile}

-- a label, its fault and the cause
pub record Row : Type 0 where
  pub label : List ℕ
  pub refusal : Refusal
  pub cause : Option Cause

abbrev pub HaveCauses : List Row → Type 0
HaveCauses [] = Unit {0}
HaveCauses (row ∷ rows) = (cause_of Profile row.label row.refusal ≡ row.cause) × HaveCauses rows

abbrev pub causes : List Row
causes =
    record { label = 0x2D ∷ 0x61 ∷ []; refusal = Hyphen; cause = Some (HyphenAt 0 2) } ∷
    record { label = 0x61 ∷ 0x2D ∷ []; refusal = Hyphen; cause = Some (HyphenAt 1 2) } ∷
    record { label = 0x61 ∷ 0x62 ∷ 0x2D ∷ 0x2D ∷ 0x63 ∷ []; refusal = Hyphen; cause = Some (HyphenAt 2 5) } ∷
    record { label = 0x61 ∷ 0x62 ∷ 0x2D ∷ 0x2D ∷ []; refusal = Hyphen; cause = Some (HyphenAt 2 4) } ∷
    record { label = 0x2D ∷ []; refusal = Hyphen; cause = Some (HyphenAt 0 1) } ∷
    record { label = 0x301 ∷ 0x61 ∷ []; refusal = LeadingMark; cause = Some (Point 0 0x301) } ∷
    record { label = 0x94D ∷ 0x915 ∷ []; refusal = LeadingMark; cause = Some (Point 0 0x94D) } ∷
    record { label = 0x61 ∷ 0x200C ∷ 0x62 ∷ []; refusal = ContextJ; cause = Some (Point 1 0x200C) } ∷
    record { label = 0x200D ∷ 0x61 ∷ []; refusal = ContextJ; cause = Some (Point 0 0x200D) } ∷
    record { label = 0x915 ∷ 0x94D ∷ 0x200D ∷ 0x200D ∷ []; refusal = ContextJ; cause = Some (Point 3 0x200D) } ∷
    record { label = 0x628 ∷ 0x200C ∷ 0x61 ∷ []; refusal = ContextJ; cause = Some (Point 1 0x200C) } ∷
    record { label = 0x61 ∷ 0x200C ∷ 0x62 ∷ 0x200D ∷ []; refusal = ContextJ; cause = Some (Point 1 0x200C) } ∷
    record { label = 0x61 ∷ 0xB7 ∷ 0x6C ∷ []; refusal = ContextO; cause = Some (Point 1 0xB7) } ∷
    record { label = 0x6C ∷ 0xB7 ∷ []; refusal = ContextO; cause = Some (Point 1 0xB7) } ∷
    record { label = 0x375 ∷ 0x61 ∷ []; refusal = ContextO; cause = Some (Point 0 0x375) } ∷
    record { label = 0x61 ∷ 0x5F3 ∷ []; refusal = ContextO; cause = Some (Point 1 0x5F3) } ∷
    record { label = 0x5F4 ∷ 0x5D0 ∷ []; refusal = ContextO; cause = Some (Point 0 0x5F4) } ∷
    record { label = 0x61 ∷ 0x30FB ∷ []; refusal = ContextO; cause = Some (Point 1 0x30FB) } ∷
    record { label = 0x627 ∷ 0x660 ∷ 0x6F0 ∷ []; refusal = ContextO; cause = Some (Point 1 0x660) } ∷
    record { label = 0x627 ∷ 0x6F0 ∷ 0x660 ∷ []; refusal = ContextO; cause = Some (Point 1 0x6F0) } ∷
    record {
      label = 0x30 ∷ 0x5D0 ∷ [];
      refusal = Bidi;
      cause = Some (Condition (record { condition = First; place = 0 }) 0x30 EN);
    } ∷
    record {
      label = 0x660 ∷ 0x5D0 ∷ [];
      refusal = Bidi;
      cause = Some (Condition (record { condition = First; place = 0 }) 0x660 AN);
    } ∷
    record {
      label = 0x5D0 ∷ 0x61 ∷ [];
      refusal = Bidi;
      cause = Some (Condition (record { condition = RtlHolds; place = 1 }) 0x61 L);
    } ∷
    record {
      label = 0x5D0 ∷ 0x5D1 ∷ 0x61 ∷ 0x62 ∷ [];
      refusal = Bidi;
      cause = Some (Condition (record { condition = RtlHolds; place = 2 }) 0x61 L);
    } ∷
    record {
      label = 0x5D0 ∷ 0x2D ∷ 0x5B0 ∷ [];
      refusal = Bidi;
      cause = Some (Condition (record { condition = RtlEnds; place = 1 }) 0x2D ES);
    } ∷
    record {
      label = 0x5D0 ∷ 0x94D ∷ 0x200D ∷ [];
      refusal = Bidi;
      cause = Some (Condition (record { condition = RtlEnds; place = 2 }) 0x200D BN);
    } ∷
    record {
      label = 0x5D0 ∷ 0x30 ∷ 0x660 ∷ [];
      refusal = Bidi;
      cause = Some (Condition (record { condition = RtlNumbers; place = 2 }) 0x660 AN);
    } ∷
    record {
      label = 0x627 ∷ 0x660 ∷ 0x5D0 ∷ 0x31 ∷ [];
      refusal = Bidi;
      cause = Some (Condition (record { condition = RtlNumbers; place = 3 }) 0x31 EN);
    } ∷
    record {
      label = 0x61 ∷ 0x5D0 ∷ [];
      refusal = Bidi;
      cause = Some (Condition (record { condition = LtrHolds; place = 1 }) 0x5D0 R);
    } ∷
    record {
      label = 0x61 ∷ 0x62 ∷ 0x660 ∷ [];
      refusal = Bidi;
      cause = Some (Condition (record { condition = LtrHolds; place = 2 }) 0x660 AN);
    } ∷
    []

-- what begins with "xn--" and stands for no label
pub record ExamplesOfALabels : Type 0 where
  pub no_code : a_label_cause Profile (codes "xn--") BadALabel ≡ Some NoCode
  pub not_ascii : a_label_cause Profile (codes "xn--fa" ++ 0xDF ∷ []) BadALabel ≡ Some (NotAscii 6 0xDF)
  pub first_not_ascii : a_label_cause Profile (codes "xn--" ++ 0xE9 ∷ 0xDF ∷ []) BadALabel ≡ Some (NotAscii 4 0xE9)
  pub no_punycode : a_label_cause Profile (codes "xn--a_") BadALabel ≡ Some NoPunycode

-- 64 octets
abbrev pub too_long : List ℕ
too_long = codes "aaaaaaaaaaaaaaaaaaaaaaaaaaaaaaaaaaaaaaaaaaaaaaaaaaaaaaaaaaaaaaaa"

-- names that are looked up: a full stop at the end is put aside, and the first label of a wrong length is told
pub record ExamplesOfLengths : Type 0 where
  pub empty_label : length_cause (codes "a..b") ≡ Some (LabelOctets 1 0)
  pub root_alone : length_cause (codes ".") ≡ Some (LabelOctets 0 0)
  pub long_label : length_cause (codes "x." ++ too_long) ≡ Some (LabelOctets 1 64)
  pub first_label : length_cause (too_long ++ codes "..a") ≡ Some (LabelOctets 0 64)
  pub right : length_cause (codes "a.b.") ≡ None
