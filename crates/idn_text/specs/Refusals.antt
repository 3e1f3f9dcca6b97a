-- The numbers and the texts of refusals.
use Rattle.std.specs.Prelude.{ℕ, List, codes}
use Rattle.idn_text.specs.declared.refusal.Refusal.{Refusal}
use Rattle.idn_text.specs.declared.refusal.Refusal.TheVariants.{NotUtf8, LineTooLong, Empty, OutOfOrder, FileTooLong}
use Rattle.idn_text.specs.declared.refusal.Refusal.TheVariants.{Disallowed, Unassigned, NotNfc, Hyphen, LeadingMark}
use Rattle.idn_text.specs.declared.refusal.Refusal.TheVariants.{ContextJ, ContextO, Bidi, LabelTooLong, BadALabel}
use Rattle.idn_text.specs.declared.refusal.Refusal.TheVariants.{LookupInvalid, LookupLength, Syntax, SameSource}
use Rattle.idn_text.specs.declared.refusal.Refusal.TheVariants.{SameVariant, BadClass, Limit, NoSuchName, SameName}
use Rattle.idn_text.specs.declared.refusal.Refusal.TheVariants.{NotSupported, NotInTable, NotValid, Usage, ReadFault}
use Rattle.idn_text.specs.declared.refusal.Refusal.TheVariants.{WriteFault, Memory}

-- 1 to 5 are of a line, 10 to 21 of a label or a name, 30 to 37 of a table, 40 and 41 of a label under a table,
-- 50 to 70 of a run
abbrev pub refusal_number : Refusal → ℕ
refusal_number NotUtf8 = 1
refusal_number LineTooLong = 2
refusal_number Empty = 3
refusal_number OutOfOrder = 4
refusal_number FileTooLong = 5
refusal_number Disallowed = 10
refusal_number Unassigned = 11
refusal_number NotNfc = 12
refusal_number Hyphen = 13
refusal_number LeadingMark = 14
refusal_number ContextJ = 15
refusal_number ContextO = 16
refusal_number Bidi = 17
refusal_number LabelTooLong = 18
refusal_number BadALabel = 19
refusal_number LookupInvalid = 20
refusal_number LookupLength = 21
refusal_number Syntax = 30
refusal_number SameSource = 31
refusal_number SameVariant = 32
refusal_number BadClass = 33
refusal_number Limit = 34
refusal_number NoSuchName = 35
refusal_number SameName = 36
refusal_number NotSupported = 37
refusal_number NotInTable = 40
refusal_number NotValid = 41
refusal_number Usage = 50
refusal_number ReadFault = 60
refusal_number WriteFault = 61
refusal_number Memory = 70

-- what messages say
abbrev pub refusal_text : Refusal → List ℕ
refusal_text NotUtf8 = codes "not UTF-8"
refusal_text LineTooLong = codes "line too long"
refusal_text Empty = codes "empty"
refusal_text OutOfOrder = codes "out of order"
refusal_text FileTooLong = codes "file too long"
refusal_text Disallowed = codes "disallowed code point"
refusal_text Unassigned = codes "unassigned code point"
refusal_text NotNfc = codes "not in NFC"
refusal_text Hyphen = codes "hyphen out of place"
refusal_text LeadingMark = codes "leading combining mark"
refusal_text ContextJ = codes "joiner out of context"
refusal_text ContextO = codes "code point out of context"
refusal_text Bidi = codes "Bidi rule broken"
refusal_text LabelTooLong = codes "label too long"
refusal_text BadALabel = codes "not an A-label"
refusal_text LookupInvalid = codes "not a valid name"
refusal_text LookupLength = codes "name or label length"
refusal_text Syntax = codes "table syntax"
refusal_text SameSource = codes "source given twice"
refusal_text SameVariant = codes "variant given twice"
refusal_text BadClass = codes "code point not allowed in a table"
refusal_text Limit = codes "table limit"
refusal_text NoSuchName = codes "name not defined"
refusal_text SameName = codes "name given twice"
refusal_text NotSupported = codes "not supported"
refusal_text NotInTable = codes "not made of table entries"
refusal_text NotValid = codes "not valid under the table"
refusal_text Usage = codes "usage"
refusal_text ReadFault = codes "read fault"
refusal_text WriteFault = codes "write fault"
refusal_text Memory = codes "out of memory"
