-- The object of each kind of answer, with its members in order.
use Rattle.std.specs.Prelude.{ℕ, Bool, true, false, List, [], ◌∷◌, codes, Option, Some, None}
use Rattle.idn_text.specs.declared.refusal.Refusal.{Refusal}
use Rattle.answer_json.specs.Answers.{Field, Answer, count, text, flag, nothing}
use Rattle.answer_json.specs.Details.{Details, flag_if, refusal_fields}
use Rattle.answer_json.specs.Inputs.{Told, input_field}
use Rattle.answer_json.specs.declared.checked.PairFinding.{PairFinding}
use Rattle.answer_json.specs.declared.checked.PairFinding.TheVariants.{Missing, Differs}
use Rattle.answer_json.specs.declared.block.Disposition.{Disposition}
use Rattle.answer_json.specs.declared.block.Disposition.TheVariants.{Allocatable, Blocked, Unclear}
use Rattle.answer_json.specs.declared.collision.Regard.{Regard}
use Rattle.answer_json.specs.declared.collision.Regard.TheVariants.{NoVariant, Variant}
use Rattle.answer_json.specs.declared.collision.Regard.TheVariants as regard
use Rattle.answer_json.specs.declared.collision.Regards.{Regards}

-- an answer that is no refusal
abbrev pub answered : List Field → Answer
answered fields = record { fields = fields; refusal = None }

-- the number of a line, from 1
abbrev pub line_field : ℕ → Field
line_field line = (codes "line", count line)

-- ---- the answer to a line

-- {"line":1,"input":"Faß.de","ascii":"xn--fa-hia.de"}
abbrev pub looked_up : ℕ → Told → List ℕ → Answer
looked_up line input ascii = answered (line_field line ∷ input_field input ∷ (codes "ascii", text ascii) ∷ [])

-- {"line":1,"input":"xn--fa-hia","ulabel":"faß","alabel":"xn--fa-hia"}
abbrev pub registered : ℕ → Told → List ℕ → List ℕ → Answer
registered line input ulabel alabel =
    answered (line_field line ∷ input_field input ∷ (codes "ulabel", text ulabel) ∷ (codes "alabel", text alabel) ∷ [])

-- {"line":1,"input":"xn--fa-hia.de","unicode":"faß.de"}
abbrev pub decoded : ℕ → Told → List ℕ → Answer
decoded line input unicode = answered (line_field line ∷ input_field input ∷ (codes "unicode", text unicode) ∷ [])

-- {"line":1,"input":"xn--ls8h","unicode":"💩","old":true}
abbrev pub old_label : ℕ → Told → List ℕ → Answer
old_label line input unicode =
    answered (line_field line ∷ input_field input ∷ (codes "unicode", text unicode) ∷ (codes "old", flag true) ∷ [])

-- {"line":1,"input":"Faß","refusal":{"number":10,"text":"disallowed code
-- point","code_point":"U+0046","place":1,"rule":"RFC 5892 2.2"}}
abbrev pub refused : ℕ → Told → Refusal → Details → Answer
refused line input refusal details =
    record { fields = line_field line ∷ input_field input ∷ []; refusal = Some (refusal_fields refusal details) }

-- ---- the block of a label: its variants, and a trailer

-- whether a variant may be allocated (RFC 7940, section 7.3); one that is unclear is blocked
abbrev pub disposition_text : Disposition → List ℕ
disposition_text Allocatable = codes "allocatable"
disposition_text Blocked = codes "blocked"
disposition_text Unclear = codes "blocked"

-- its readings have different kinds (section 8.4)
abbrev pub is_unclear : Disposition → Bool
is_unclear Allocatable = false
is_unclear Blocked = false
is_unclear Unclear = true

-- what a table says of a variant; one of version 1 says nothing
abbrev pub disposition_fields : Option Disposition → List Field
disposition_fields None = []
disposition_fields (Some disposition) =
    (codes "disposition", text (disposition_text disposition)) ∷ flag_if (codes "unclear") (is_unclear disposition)

-- {"line":1,"ulabel":"straße","alabel":"xn--strae-oqa","disposition":"allocatable"}, or with "unclear":true after that
abbrev pub variant : ℕ → List ℕ → List ℕ → Option Disposition → Answer
variant line ulabel alabel disposition =
    answered (line_field line ∷ (codes "ulabel", text ulabel) ∷ (codes "alabel", text alabel)
    ∷ disposition_fields disposition)

-- ---- the block of a label that is asked among registered ones: those that collide with it, and a trailer

-- what a label is to another one
abbrev pub regard_text : Regard → List ℕ
regard_text NoVariant = codes "none"
regard_text Variant = codes "variant"
regard_text regard.Blocked = codes "blocked"
regard_text regard.Allocatable = codes "allocatable"

-- what the one that was found is to the one that was asked about, and the other way round
abbrev pub regard_fields : Regards → List Field
regard_fields regards =
    (codes "there", text (regard_text regards.there)) ∷ (codes "back", text (regard_text regards.back)) ∷ []

-- {"line":1,"ulabel":"ςα","alabel":"xn--mxa7a","there":"none","back":"allocatable"}
abbrev pub collision : ℕ → List ℕ → List ℕ → Regards → Answer
collision line ulabel alabel regards =
    answered (line_field line ∷ (codes "ulabel", text ulabel) ∷ (codes "alabel", text alabel) ∷ regard_fields regards)

-- the least near label from a text on, and what it is to the one that was asked about, and back; or that there is none
abbrev pub least_fields : Option (List ℕ × Regards) → List Field
least_fields None = (codes "ulabel", nothing) ∷ []
least_fields (Some found) = (codes "ulabel", text found.0) ∷ regard_fields found.1

-- {"line":1,"input":"b\tb","ulabel":"b","there":"variant","back":"variant"}, or {"line":2,"input":"b\tc","ulabel":null}
abbrev pub least : ℕ → Told → Option (List ℕ × Regards) → Answer
least line input found = answered (line_field line ∷ input_field input ∷ least_fields found)

-- a block is complete, or there may be more labels after one
abbrev pub end_fields : Option (List ℕ) → List Field
end_fields None = (codes "complete", flag true) ∷ []
end_fields (Some after) = (codes "complete", flag false) ∷ (codes "after", text after) ∷ []

-- {"line":1,"input":"strasse","count":1,"complete":false,"after":"strasse"}
abbrev pub trailer : ℕ → Told → ℕ → Option (List ℕ) → Answer
trailer line input variants stop =
    answered (line_field line ∷ input_field input ∷ (codes "count", count variants) ∷ end_fields stop)

-- ---- the check of a table

-- the word of what is found of two sequences
abbrev pub word_of : PairFinding → List ℕ
word_of Missing = codes "missing"
word_of Differs = codes "differs"

-- {"source":"00DF","missing":"0073-0073"}
abbrev pub pair : PairFinding → List ℕ → List ℕ → Answer
pair finding source other = answered ((codes "source", text source) ∷ (word_of finding, text other) ∷ [])

-- {"idle":"trad"}: a type of a ruleset's own that no action names
abbrev pub idle : List ℕ → Answer
idle name = answered ((codes "idle", text name) ∷ [])

-- {"entries":2,"gaps":1}
abbrev pub checked : ℕ → ℕ → Answer
checked entries gaps = answered ((codes "entries", count entries) ∷ (codes "gaps", count gaps) ∷ [])

-- {"table_line":2,"refusal":{"number":30,"text":"table syntax"}}
abbrev pub table_fault : ℕ → Refusal → Details → Answer
table_fault line refusal details =
    record { fields = (codes "table_line", count line) ∷ []; refusal = Some (refusal_fields refusal details) }

-- ---- the registered labels

-- {"registered_line":2,"refusal":{"number":13,"text":"hyphen out of place"}}
abbrev pub registered_fault : ℕ → Refusal → Details → Answer
registered_fault line refusal details =
    record { fields = (codes "registered_line", count line) ∷ []; refusal = Some (refusal_fields refusal details) }
