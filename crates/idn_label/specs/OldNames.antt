-- Labels that a zone has since they were registered under other rules, and what a name of the zone stands for.
use Rattle.std.specs.Prelude.{◌≡◌, ◌≢◌, ◌⊎◌, ◌≤◌, ◌-◌, ℕ, Bool, true, not, ◌||◌, ◌==◌, List, [], ◌∷◌, length, take}
use Rattle.std.specs.Prelude.{drop, codes, chars, bytes_eq, Option, None, Some, Result, Ok, Err, if◌then◌else◌}
use Rattle.std.specs.Char.{is_ascii}
use Rattle.std.specs.List.{list_all}
use Rattle.std.specs.Option.{is_none}
use Rattle.std.specs.Str.{is_utf8}
use Rattle.idna.specs.Punycode.{decode}
use Rattle.idna.specs.Validity.{is_all_ascii, has_ace_prefix}
use Rattle.idn_text.specs.Points.{utf8_of}
use Rattle.idn_text.specs.declared.refusal.Refusal.{Refusal}
use Rattle.idn_text.specs.declared.refusal.Refusal.TheVariants.{NotUtf8, Empty, Disallowed, Hyphen, LabelTooLong}
use Rattle.idn_text.specs.declared.refusal.Refusal.TheVariants.{Memory}
use Rattle.idn_class.specs.declared.properties.Properties.{Properties}
use Rattle.idn_label.specs.ALabel.{a_label_of}
use Rattle.idn_label.specs.Answers.{Answer}
use Rattle.idn_label.specs.FirstFault.{first_of, fault_if, is_too_long, IsRegistrable}
use Rattle.idn_label.specs.Register.{register_answer}
use Rattle.idn_label.specs.Steps.{is_ldh_point, lowercase}
use Rattle.idn_label.specs.declared.old_names.Standing.{Standing}
use Rattle.idn_label.specs.declared.old_names.Standing.TheVariants.{Registrable, Old}

-- ---- what a name of a zone stands for. The name of a label is its A-label, or the same if it may not be registered:
-- itself in ASCII, else "xn--" and its Punycode

-- a label that was decoded from a name, if it has this very name; else the name itself
abbrev pub if_named : List ℕ → Option (List ℕ) → List ℕ
if_named name None = name
if_named name (Some label) = if bytes_eq (a_label_of label) name then label else name

-- "xn--" and a code stand for what the code is decoded to (RFC 3492, section 6.2), if that has this very name, and any
-- other name for itself
unfoldable pub stands_for : List ℕ → List ℕ
stands_for name = if has_ace_prefix name then if_named name (decode (drop 4 name)) else name

-- ---- old labels

-- a code point that an old label may have: of ASCII lower-case letters, digits and the hyphen alone
abbrev pub is_old_point : ℕ → Bool
is_old_point c = is_ldh_point c || not (is_ascii c)

-- a label that may have been registered under other rules: it has at most 63 code points, and a name of at most 63
-- octets stands for it
pub record IsOld (label : List ℕ) : Type 0 where
  pub some : label ≢ []
  pub points : list_all is_old_point label ≡ true
  pub few : length label ≤ 63
  pub short : length (a_label_of label) ≤ 63
  pub named : stands_for (a_label_of label) ≡ label

-- a label that a zone may have: it may be registered, or is an old one
abbrev pub IsInZone : Properties → List ℕ → Type 0
IsInZone properties label = IsRegistrable properties label ⊎ IsOld label

-- the first fault of a label that is to be an old one, in this order;
-- the last is that it begins with "xn--" and can be decoded
unfoldable pub old_fault : List ℕ → Option Refusal
old_fault label =
    first_of (
    fault_if (length label == 0) Empty
    ∷ fault_if (not (list_all is_old_point label)) Disallowed
    ∷ fault_if (is_too_long label) LabelTooLong
    ∷ fault_if (not (bytes_eq (stands_for (a_label_of label)) label)) Hyphen
    ∷ []
    )

-- the same of a label in UTF-8; other bytes are no label
unfoldable pub old_utf8_fault : List ℕ → Option Refusal
old_utf8_fault bytes = if is_utf8 bytes then old_fault (chars bytes) else Some NotUtf8

-- ---- how old labels are told from others in a text

-- what stands after an old label on its line: a tab and the word
abbrev pub mark : List ℕ
mark = 9 ∷ codes "old"

-- the body of a line ends in the mark
abbrev pub has_mark : List ℕ → Bool
has_mark body = bytes_eq (drop (length body - length mark) body) mark

-- what stands before it
abbrev pub before_mark : List ℕ → List ℕ
before_mark body = take (length body - length mark) body

-- ---- how a label of a zone stands among registered labels

-- a label, and whether it may be registered or is an old one; or why it is neither
abbrev pub ZoneAnswer : Type 0
ZoneAnswer = Result (List ℕ × Standing) Refusal

-- what a name stands for, if that may be registered
abbrev pub unless_refused : List ℕ → Answer → ZoneAnswer → ZoneAnswer
unless_refused name (Ok a_label) others = Ok (stands_for name, Registrable)
unless_refused name (Err refusal) others = others

-- what a name stands for, if that is an old label
abbrev pub old_answer : List ℕ → Refusal → ZoneAnswer
old_answer name refusal = if is_none (old_fault (stands_for name)) then Ok (stands_for name, Old) else Err refusal

-- of a label that is refused as it stands: in ASCII its capitals become small,
-- and it is the name of a label of the zone
abbrev pub in_lower_case : Properties → List ℕ → Refusal → ZoneAnswer
in_lower_case properties line refusal =
    let name = lowercase line in
    if is_all_ascii line then unless_refused name (register_answer properties name) (old_answer name refusal)
    else Err refusal

-- the answer for a label, or the name of one: what may be registered, else an old label,
-- else it is refused as by registration
abbrev pub zone_answer_by : Properties → List ℕ → Answer → ZoneAnswer
zone_answer_by properties line (Ok a_label) = Ok (stands_for line, Registrable)
zone_answer_by properties line (Err refusal) = in_lower_case properties line refusal

unfoldable pub zone_answer : Properties → List ℕ → ZoneAnswer
zone_answer properties line = zone_answer_by properties line (register_answer properties line)

-- with its label in UTF-8 (RFC 3629)
abbrev pub zone_in_utf8 : ZoneAnswer → ZoneAnswer
zone_in_utf8 (Ok found) = Ok (utf8_of found.0, found.1)
zone_in_utf8 (Err refusal) = Err refusal

-- the same of bytes, which may be no UTF-8, as UTF-8
unfoldable pub zone_utf8_answer : Properties → List ℕ → ZoneAnswer
zone_utf8_answer properties bytes =
    if is_utf8 bytes then zone_in_utf8 (zone_answer properties (chars bytes)) else Err NotUtf8

-- unless memory was refused, a result is the answer, its label as `view` shows it
abbrev pub GivesInZone : (ℕ → List ℕ) → Result (ℕ × Standing) Refusal → ZoneAnswer → Type 0
GivesInZone view (Ok found) answer = answer ≡ Ok (view found.0, found.1)
GivesInZone view (Err refusal) answer = refusal ≢ Memory → answer ≡ Err refusal
