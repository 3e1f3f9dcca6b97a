-- The answer of a lookup: the ToASCII operation of UTS 46, and the lengths that the DNS allows.
use Rattle.std.specs.Prelude.{ℕ, Bool, true, List, Option, Some, None, Ok, Err, if◌then◌else◌}
use Rattle.std.specs.Str.{is_utf8}
use Rattle.idna.specs.declared.deny_list.AsciiDenyList.{AsciiDenyList}
use Rattle.idna.specs.declared.deny_list.TheConstants.AsciiDenyList.{STD3, EMPTY}
use Rattle.idna.specs.declared.options.Hyphens.TheVariants.{Allow}
use Rattle.idna.specs.declared.options.DnsLength.TheVariants.{Ignore}
use Rattle.idna.specs.Uts46.{to_ascii, verify_dns_length}
use Rattle.idn_text.specs.Points.{utf8_of}
use Rattle.idn_text.specs.declared.refusal.Refusal.TheVariants.{NotUtf8, LookupInvalid, LookupLength}
use Rattle.idn_label.specs.Answers.{Answer}

-- UseSTD3ASCIIRules (UTS 46 section 4)
abbrev pub deny_list : Bool → AsciiDenyList
deny_list std3 = if std3 then STD3 else EMPTY

-- a name has 1 to 253 octets and each of its labels 1 to 63, a full stop at its end put aside (UTS 46 section 4.2, step
-- 4; RFC 1035 section 2.3.4)
abbrev pub measured_answer : Option (List ℕ) → Answer
measured_answer None = Err LookupInvalid
measured_answer (Some ascii) = if verify_dns_length ascii true then Ok ascii else Err LookupLength

-- ToASCII (UTS 46 section 4.2) of a name in UTF-8: nontransitional, CheckBidi and CheckJoiners true, CheckHyphens and
-- VerifyDnsLength false, and then the lengths
unfoldable pub query_name : List ℕ → Bool → Answer
query_name utf8 std3 = measured_answer (to_ascii (deny_list std3) Allow Ignore utf8)

-- the same of bytes, which may be no UTF-8
unfoldable pub utf8_answer : List ℕ → Bool → Answer
utf8_answer bytes std3 = if is_utf8 bytes then query_name bytes std3 else Err NotUtf8

-- the name as a query sends it
abbrev pub lookup_answer : List ℕ → Bool → Answer
lookup_answer name std3 = query_name (utf8_of name) std3
