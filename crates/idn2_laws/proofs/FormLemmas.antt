-- What a run says is the same in both forms.
use Rattle.std.proofs.Common.{◌≡◌, ◌∙◌, ◌==◌, ◌||◌, ℕ, List, [], ◌∷◌, ◌++◌, Bool, true, false, cond, length, chars, Option, Some, None, Ok, Err, map, refl, sym, ap, if◌then◌else◌}
use Rattle.std.specs.Prelude.{is_err}
use Rattle.std.specs.Str.{is_utf8}
use Rattle.std.proofs.lemmas.List.{map-append}
use Rattle.std.proofs.Math.Bool.{or-true}
use Rattle.idn_text.specs.Lines.{Numbered}
use Rattle.idn_text.specs.declared.refusal.Refusal.{Refusal}
use Rattle.idn_text.specs.declared.refusal.Refusal.TheVariants.{Empty, NotInTable, NotUtf8, NotValid}
use Rattle.idn_label.specs.Answers.{unless_fault}
use Rattle.idn_label.specs.FirstFault.{first_fault}
use Rattle.variant_table.specs.Entries.{TableValue}
use Rattle.idn2_options.specs.Settings.{Settings, tells_causes}
use Rattle.idn2_options.specs.declared.command_line.form.Form.{Form}
use Rattle.idn2_options.specs.declared.command_line.form.Form.TheVariants.{Plain, Json}
use Rattle.idn2_options.specs.declared.command_line.mode.Mode.{Mode}
use Rattle.idn2_options.specs.declared.command_line.mode.Mode.TheVariants.{Lookup, Register, Decode, Variants, Jump}
use Rattle.idn2_options.specs.declared.command_line.mode.Mode.TheVariants.{CheckTable, DecodeOld, PrintTable}
use Rattle.valid_labels.specs.Tests.{is_admitted, is_made_of_sources}
use Rattle.variant_list.specs.Spelled.{spelled}
use Rattle.idn2_answers.specs.Answers.{LineAnswer, if_admitted, line_answer, mode_answer}
use Rattle.idn2_answers.specs.Dispositions.{disposition, shown}
use Rattle.idn2_answers.specs.Listings.{block_to, filter_of, stop_of, variant_by, variants_after}
use Rattle.idn2_refusals.specs.Explained.{Explained, if_wanted}
use Rattle.idn2_answers.specs.Transcript.{explained_by_mode, explained_in, Statement, Says, Refuses, Finds, Prints, Faults, TableGiven, answer_statements, check_findings, check_output, check_statements, has_refused, lines_output, lines_statements, line_output, mode_output, mode_statements, mode_status, output_line_in, output_for, statements, status_if, status_of, transcript}
use Rattle.idn2_answers.specs.Said.{Said, Finding, said_text, finding_text}
use Rattle.idn2_output.specs.OutputLines.{messages_of, outputs}

-- ---- each statement is written in the form

outputs-said : (form : Form) (line : Numbered) (said : List Said) → outputs (said_text form line) said ≡ map (output_line_in form) (map (Says line) said)
outputs-said form line [] = refl
outputs-said form line (first ∷ said) = ap (λ ps. output_line_in form (Says line first) ∷ ps) (outputs-said form line said)

outputs-found : (form : Form) (findings : List Finding) → outputs (finding_text form) findings ≡ map (output_line_in form) (map Finds findings)
outputs-found form [] = refl
outputs-found form (first ∷ findings) = ap (λ ps. output_line_in form (Finds first) ∷ ps) (outputs-found form findings)

answer_written : (form : Form) (how : Explained) (line : Numbered) (answer : LineAnswer) → output_for form how line answer ≡ map (output_line_in form) (answer_statements how line answer)
answer_written form how line (Ok said) = outputs-said form line said
answer_written form how line (Err refusal) = refl

lines_written : (form : Form) (how : Explained) (answer : List ℕ → LineAnswer) (lines : List Numbered) → lines_output form how answer lines ≡ map (output_line_in form) (lines_statements how answer lines)
lines_written form how answer [] = refl
lines_written form how answer (line ∷ lines) =
    let first = answer_statements how line (line_answer answer line.body) in
    ap (λ ps. line_output form how answer line ++ ps) (lines_written form how answer lines)
    ∙ ap (λ ps. ps ++ map (output_line_in form) (lines_statements how answer lines)) (answer_written form how line (line_answer answer line.body))
    ∙ sym (map-append (output_line_in form) first (lines_statements how answer lines))

check_written : (form : Form) (wanted : Bool) (given : TableGiven) → check_output form wanted given ≡ map (output_line_in form) (check_statements wanted given)
check_written form wanted (Err fault) = refl
check_written form wanted (Ok table) = outputs-found form (check_findings table)

mode_written : (mode : Mode) (o : Settings) (table : TableValue) (lines : List Numbered) → mode_output mode o table lines ≡ map (output_line_in o.form) (mode_statements mode o table lines)
mode_written CheckTable o table lines = check_written o.form (tells_causes o) (Ok table)
mode_written PrintTable o table lines = refl
mode_written Lookup o table lines = lines_written o.form (explained_in Lookup o table) (mode_answer Lookup o table) lines
mode_written Register o table lines = lines_written o.form (explained_in Register o table) (mode_answer Register o table) lines
mode_written Decode o table lines = lines_written o.form (explained_in Decode o table) (mode_answer Decode o table) lines
mode_written DecodeOld o table lines = lines_written o.form (explained_in DecodeOld o table) (mode_answer DecodeOld o table) lines
mode_written Variants o table lines = lines_written o.form (explained_in Variants o table) (mode_answer Variants o table) lines
mode_written Jump o table lines = lines_written o.form (explained_in Jump o table) (mode_answer Jump o table) lines

pub transcript_written : (o : Settings) (given : TableGiven) (lines : List Numbered) → transcript o given lines ≡ map (output_line_in o.form) (statements o given lines)
transcript_written o (Err fault) lines = check_written o.form (tells_causes o) (Err fault)
transcript_written o (Ok table) lines = mode_written o.mode o table lines

-- ---- what is said is the same

-- the answer of a listing to a label, by whether it is told which variants are unclear
abbrev listing_with : Bool → Settings → TableValue → List ℕ → LineAnswer
listing_with wanted o table label =
    let asked = filter_of o.properties table label in
    unless_fault (first_fault o.properties label)
    (if_admitted table label (block_to (variant_by (λ v. shown wanted (disposition table label v))) (stop_of asked o (spelled table label)) (variants_after asked o (spelled table label))))

-- a listing is whole, or of what is found among registered labels
same_by_listing : (registered : Option (List (List ℕ))) (o : Settings) (table : TableValue) (lines : List Numbered)
    → mode_statements Variants (record o { form = Json; registered = registered }) table lines
    ≡ mode_statements Variants (record o { form = Plain; explain = true; registered = registered }) table lines
same_by_listing None o table lines =
    ap (λ b. lines_statements (if_wanted b (explained_by_mode Variants o table)) (listing_with b o table) lines) (or-true o.explain)
same_by_listing (Some registered) o table lines =
    let found = mode_answer Variants (record o { registered = Some registered }) table in
    ap (λ b. lines_statements (if_wanted b (explained_by_mode Variants o table)) found lines) (or-true o.explain)

same_by_mode : (mode : Mode) (o : Settings) (table : TableValue) (lines : List Numbered)
    → mode_statements mode (record o { form = Json }) table lines ≡ mode_statements mode (record o { form = Plain; explain = true }) table lines
same_by_mode CheckTable o table lines = refl
same_by_mode PrintTable o table lines = refl
same_by_mode Lookup o table lines = ap (λ b. lines_statements (if_wanted b (explained_by_mode Lookup o table)) (mode_answer Lookup o table) lines) (or-true o.explain)
same_by_mode Register o table lines = ap (λ b. lines_statements (if_wanted b (explained_by_mode Register o table)) (mode_answer Register o table) lines) (or-true o.explain)
same_by_mode Decode o table lines = ap (λ b. lines_statements (if_wanted b (explained_by_mode Decode o table)) (mode_answer Decode o table) lines) (or-true o.explain)
same_by_mode DecodeOld o table lines = ap (λ b. lines_statements (if_wanted b (explained_by_mode DecodeOld o table)) (mode_answer DecodeOld o table) lines) (or-true o.explain)
same_by_mode Variants o table lines = same_by_listing o.registered o table lines
same_by_mode Jump o table lines = ap (λ b. lines_statements (if_wanted b (explained_by_mode Jump o table)) (mode_answer Jump o table) lines) (or-true o.explain)

pub same_statements : (o : Settings) (given : TableGiven) (lines : List Numbered)
    → statements (record o { form = Json }) given lines ≡ statements (record o { form = Plain; explain = true }) given lines
same_statements o (Err fault) lines = ap (λ b. check_statements b (Err fault)) (or-true o.explain)
same_statements o (Ok table) lines = same_by_mode o.mode o table lines

-- whether a label is refused doesn't depend on it
refused_label : (fault : Option Refusal) (table : TableValue) (label : List ℕ) (said other : List Said) → is_err (unless_fault fault (if_admitted table label said)) ≡ is_err (unless_fault fault (if_admitted table label other))
refused_label (Some refusal) table label said other = refl
refused_label None table label said other = by_admitted (is_admitted table label)
  where
    refusal : LineAnswer
    refusal = if is_made_of_sources table label then Err NotValid else Err NotInTable

    by_admitted : (b : Bool) → is_err (let a : LineAnswer = cond b (Ok said) (if is_made_of_sources table label then Err NotValid else Err NotInTable) in a) ≡ is_err (let a : LineAnswer = cond b (Ok other) (if is_made_of_sources table label then Err NotValid else Err NotInTable) in a)
    by_admitted true = refl
    by_admitted false = refl

refused_text : (f g : List ℕ → LineAnswer) → ((label : List ℕ) → is_err (f label) ≡ is_err (g label)) → (body : Option (List ℕ)) → is_err (line_answer f body) ≡ is_err (line_answer g body)
refused_text f g same None = refl
refused_text f g same (Some bytes) = by_tests (is_utf8 bytes) (length bytes == 0)
  where
    by_tests : (utf8 none : Bool) → is_err (let a : LineAnswer = cond utf8 (cond none (Err Empty) (f (chars bytes))) (Err NotUtf8) in a) ≡ is_err (let a : LineAnswer = cond utf8 (cond none (Err Empty) (g (chars bytes))) (Err NotUtf8) in a)
    by_tests true true = refl
    by_tests true false = same (chars bytes)
    by_tests false none = refl

refused_alike : (f g : List ℕ → LineAnswer) → ((label : List ℕ) → is_err (f label) ≡ is_err (g label)) → (lines : List Numbered) → has_refused f lines ≡ has_refused g lines
refused_alike f g same [] = refl
refused_alike f g same (line ∷ lines) =
    ap (λ b. b || has_refused f lines) (refused_text f g same line.body) ∙ ap (λ b. is_err (line_answer g line.body) || b) (refused_alike f g same lines)

refused_with : (wanted other : Bool) (o : Settings) (table : TableValue) (lines : List Numbered) → has_refused (listing_with wanted o table) lines ≡ has_refused (listing_with other o table) lines
refused_with wanted other o table lines =
    refused_alike (listing_with wanted o table) (listing_with other o table) (λ label. refused_label (first_fault o.properties label) table label _ _) lines

status_by_listing : (registered : Option (List (List ℕ))) (o : Settings) (table : TableValue) (lines : List Numbered)
    → mode_status Variants (record o { form = Json; registered = registered }) table lines
    ≡ mode_status Variants (record o { form = Plain; registered = registered }) table lines
status_by_listing None o table lines = ap status_if (refused_with (o.explain || true) (o.explain || false) o table lines)
status_by_listing (Some registered) o table lines = refl

status_by_mode : (mode : Mode) (o : Settings) (table : TableValue) (lines : List Numbered)
    → mode_status mode (record o { form = Json }) table lines ≡ mode_status mode (record o { form = Plain }) table lines
status_by_mode CheckTable o table lines = refl
status_by_mode PrintTable o table lines = refl
status_by_mode Lookup o table lines = refl
status_by_mode Register o table lines = refl
status_by_mode Decode o table lines = refl
status_by_mode DecodeOld o table lines = refl
status_by_mode Variants o table lines = status_by_listing o.registered o table lines
status_by_mode Jump o table lines = refl

pub same_status : (o : Settings) (given : TableGiven) (lines : List Numbered) → status_of (record o { form = Json }) given lines ≡ status_of (record o { form = Plain }) given lines
same_status o (Err fault) lines = refl
same_status o (Ok table) lines = status_by_mode o.mode o table lines

-- ---- objects go to the output alone

silent_in_json : (said : List Statement) → messages_of (map (output_line_in Json) said) ≡ []
silent_in_json [] = refl
silent_in_json (Says line what ∷ said) = silent_in_json said
silent_in_json (Refuses line refusal cause ∷ said) = silent_in_json said
silent_in_json (Finds finding ∷ said) = silent_in_json said
silent_in_json (Prints text ∷ said) = silent_in_json said
silent_in_json (Faults line refusal cause ∷ said) = silent_in_json said

pub json_silent : (o : Settings) (given : TableGiven) (lines : List Numbered) → o.form ≡ Json → messages_of (transcript o given lines) ≡ []
json_silent o given lines is =
    ap messages_of (transcript_written o given lines ∙ ap (λ (form : Form). map (output_line_in form) (statements o given lines)) is) ∙ silent_in_json (statements o given lines)
