-- The rules that refused labels break, as objects and messages name them: by document and section.
use Rattle.std.specs.Prelude.{ℕ, ◌/◌, ◌==◌, List, [], ◌++◌, codes, if◌then◌else◌}
use Rattle.idn_class.specs.declared.barring.BarringLine.{BarringLine}
use Rattle.idn_class.specs.declared.barring.BarringLine.TheVariants as lines
use Rattle.idn_class.specs.declared.bidi_class.BidiClass.{BidiClass}
use Rattle.idn_class.specs.declared.bidi_class.BidiClass.TheVariants as bidi
use Rattle.idn_class.specs.declared.broken.BidiCondition.{BidiCondition}
use Rattle.idn_class.specs.declared.broken.BidiCondition.TheVariants as conditions
use Rattle.ruleset_text.specs.declared.definition.DemandKind.{DemandKind}
use Rattle.ruleset_text.specs.declared.definition.DemandKind.TheVariants.{Never, Always}

-- a rule, and the words that stand before it and after it in a message
pub record RuleText : Type 0 where
  pub before : List ℕ
  pub rule : List ℕ
  pub after : List ℕ

-- a message has words alone, and no rule
abbrev pub words_alone : List ℕ → RuleText
words_alone text = record { before = text; rule = []; after = [] }

-- a rule after a colon
abbrev pub named : List ℕ → RuleText
named rule = record { before = codes ": "; rule = rule; after = [] }

-- the line that bars a code point: a subsection of RFC 5892, section 2, with its name, or the profile
abbrev pub barring_rule : BarringLine → RuleText
barring_rule lines.NoScalarValue = named (codes "no scalar value")
barring_rule lines.OutsideProfile = record { before = codes ": outside the "; rule = codes "profile"; after = [] }
barring_rule lines.Exceptions = record (named (codes "RFC 5892 2.6")) { after = codes " Exceptions" }
barring_rule lines.Unassigned = record (named (codes "RFC 5892 2.10")) { after = codes " Unassigned" }
barring_rule lines.Unstable = record (named (codes "RFC 5892 2.2")) { after = codes " Unstable" }
barring_rule lines.IgnorableProperties = record (named (codes "RFC 5892 2.3")) { after = codes " IgnorableProperties" }
barring_rule lines.IgnorableBlocks = record (named (codes "RFC 5892 2.4")) { after = codes " IgnorableBlocks" }
barring_rule lines.OldHangulJamo = record (named (codes "RFC 5892 2.9")) { after = codes " OldHangulJamo" }
barring_rule lines.NoLetterDigit =
    record { before = codes ": not "; rule = codes "RFC 5892 2.1"; after = codes " LetterDigits" }

-- the rule of RFC 5892, appendix A, for a code point of CONTEXTJ or CONTEXTO; the digits of A.8 and A.9 are all that is
-- left
abbrev pub appendix_rule : ℕ → List ℕ
appendix_rule c =
    if c == 0x200C then codes "RFC 5892 A.1"
    else (if c == 0x200D then codes "RFC 5892 A.2"
    else (if c == 0xB7 then codes "RFC 5892 A.3"
    else (if c == 0x375 then codes "RFC 5892 A.4"
    else (if c == 0x5F3 then codes "RFC 5892 A.5"
    else (if c == 0x5F4 then codes "RFC 5892 A.6"
    else (if c == 0x30FB then codes "RFC 5892 A.7"
    else (if c / 16 == 0x66 then codes "RFC 5892 A.8" else codes "RFC 5892 A.9")))))))

-- a condition of the Bidi rule, after its section
abbrev pub condition_text : BidiCondition → List ℕ
condition_text conditions.First = codes "condition 1"
condition_text conditions.RtlHolds = codes "condition 2"
condition_text conditions.RtlEnds = codes "condition 3"
condition_text conditions.RtlNumbers = codes "condition 4"
condition_text conditions.LtrHolds = codes "condition 5"
condition_text conditions.LtrEnds = codes "condition 6"

-- the same as an object names it (RFC 5893, section 2), and as a message does
abbrev pub bidi_rule : BidiCondition → List ℕ
bidi_rule condition = codes "RFC 5893 2 " ++ condition_text condition

abbrev pub bidi_words : BidiCondition → RuleText
bidi_words condition = record { before = codes ": RFC 5893 2, "; rule = condition_text condition; after = [] }

-- what stands for no label is no Punycode
abbrev pub punycode_rule : RuleText
punycode_rule = record { before = codes "not "; rule = codes "RFC 3492 6.2"; after = codes " Punycode" }

-- what begins with "xn--" is no A-label, for which it has two hyphens in the third and the fourth place
abbrev pub a_label_rule : RuleText
a_label_rule =
    record { before = codes ", with place 4: not "; rule = codes "RFC 5890 2.3.2.1"; after = codes " A-label" }

-- the name of a Bidi_Class
abbrev pub bidi_text : BidiClass → List ℕ
bidi_text bidi.L = codes "L"
bidi_text bidi.R = codes "R"
bidi_text bidi.AL = codes "AL"
bidi_text bidi.AN = codes "AN"
bidi_text bidi.EN = codes "EN"
bidi_text bidi.ES = codes "ES"
bidi_text bidi.CS = codes "CS"
bidi_text bidi.ET = codes "ET"
bidi_text bidi.ON = codes "ON"
bidi_text bidi.BN = codes "BN"
bidi_text bidi.NSM = codes "NSM"
bidi_text bidi.Other = codes "-"

-- what a ruleset asks by a demand
abbrev pub demand_text : DemandKind → List ℕ
demand_text Never = codes "never"
demand_text Always = codes "always"
