-- A run that ends as it should has printed the answers to its lines.
use Rattle.std.proofs.Common.{◌≡◌, ◌⊎◌, inl, inr, ℕ, Bool, true, false, ◌==◌, List, [], ◌∷◌, ◌++◌, length, map, take, drop, Option, Some, None, Ok, Err, refl, sym, ap, subst, ◌∙◌, append_assoc, if◌then◌else◌, arith}
use Rattle.std.specs.List.{concat, flat_map}
use Rattle.std.specs.Io.KnownBytes.{Appends}
use Rattle.std.specs.Str.{is_utf8, chars}
use Rattle.std.proofs.lemmas.Bool.{cases_Bool}
use Rattle.std.proofs.lemmas.Bool.Decides.{nat_tests}
use Rattle.std.proofs.lemmas.Grind.{flat_map-append}
use Rattle.std.proofs.lemmas.List.{append-nil, take-append-drop}
use Rattle.idn_class.specs.declared.properties.Properties.{Properties}
use Rattle.idn_text.specs.Points.{AreScalarValues, utf8_of}
use Rattle.idn_text.specs.Lines.{Numbered}
use Rattle.idn_text.specs.Reading.{IsUnread, Reading}
use Rattle.idn_text.specs.Writers.{Writer}
use Rattle.idn_text.specs.declared.refusal.Refusal.{Refusal}
use Rattle.idn_text.specs.declared.refusal.Refusal.TheVariants.{Empty, LineTooLong, NotUtf8}
use Rattle.idn_text.proofs.Utf8Lemmas.{points_from_utf8}
use Rattle.idn_label.specs.Answers.{unless_fault}
use Rattle.idn_label.specs.FirstFault.{first_fault, IsRegistrable}
use Rattle.variant_table.specs.declared.version.Notation.{Notation}
use Rattle.variant_table.specs.Entries.{TableValue}
use Rattle.valid_labels.specs.Validity.{IsSound}
use Rattle.variant_table.specs.Texts.{IsTextOf}
use Rattle.variant_table.proofs.TextLemmas.{one_table, not_both}
use Rattle.idn2_cli.proofs.TableLemmas.{fault_in_lines, formed, table_in_lines}
use Rattle.idn2_options.specs.Settings.{Settings}
use Rattle.idn2_options.specs.declared.command_line.mode.Mode.{Mode}
use Rattle.idn2_options.specs.declared.command_line.mode.Mode.TheVariants.{Variants, Jump}
use Rattle.idn2_answers.specs.Answers.{LineAnswer, line_answer, listing_answer, mode_answer}
use Rattle.idn2_options.specs.declared.command_line.form.Form.{Form}
use Rattle.idn2_options.specs.declared.command_line.form.Form.TheVariants.{Plain, Json}
use Rattle.idn2_answers.specs.Said.{Said, said_text}
use Rattle.idn2_output.specs.OutputLines.{OutputLine, Output, Message, outputs, output_of}
use Rattle.idn2_answers.specs.Transcript.{GivesTable, HasFault, IsTableIn, Refuses, TableGiven, AreCrowded, IsListedBy, IsReadAs, IsSearchedAs, IsTableFor, IsTableOf, is_in_xml, mode_output, line_output, lines_output, output_line_in, output_for, explained_in}
use Rattle.idn2_refusals.specs.Messages.{refused_object}
use Rattle.idn2_refusals.specs.declared.cause.LineCause.{LineCause}
use Rattle.idn2_refusals.specs.Explained.{Explained, body_cause}
use Rattle.idn2_output.specs.Writing.{Held, IsCutBy, refusal_of}
use Rattle.idn2_cli.specs.Ends.{Job, reads_lines, Does, Ends, RunsBy, RunsOut, Stands, Stops, StopsAtLine, StopsUnread, Closes, mode_job}
use Rattle.idn2_cli.proofs.RunEnds.{stopped-unread}
use Rattle.idn2_refusals.specs.Reports.{closing_status}
use Rattle.idn2_answers.proofs.RulesetAnswers.{answers-as-text}
use Rattle.idn2_cli.specs.Headline.{AnswersAsItsText, asked_label, printed_of, printed_refusal, AnswersLabels, IsAnswer, IsLineOf, IsPrintedFor, ArePrintedFor, PrintsAnswers, PrintsByText, ReadsNothing}
use Rattle.idn2_output.specs.declared.status.Status.{Status}
use Rattle.idn2_output.specs.declared.status.Status.TheVariants.{Clean, Refused, Unusable, Faulty, OutOfMemory}
use Rattle.idn2_output.specs.declared.stop.Stop.{Stop}
use Rattle.idn2_output.specs.declared.stop.Stop.TheVariants as stop
use Rattle.idn2_answers.proofs.AdmittedLabels.{sound_table}
use Rattle.idn2_cli.proofs.BlockMembers.{HasRising, variants_answer-IsListing}
use Rattle.idn2_cli.proofs.JumpAnswers.{jump_answer-IsJumpAnswer, jump-refused}
use Rattle.idn2_cli.proofs.TextAnswers.{text_answer-none, text_answer-points}
use Rattle.idn2_refusals.proofs.Utf8Bytes.{chars-encoded, utf8-of_chars}
use Rattle.idn2_output.proofs.WrittenOutputLines.{output_of-append}

-- ---- what is printed for a line

outputs-printed : (form : Form) (line : Numbered) (said : List Said) → output_of (outputs (said_text form line) said) ≡ flat_map (said_text form line) said
outputs-printed form line [] = refl
outputs-printed form line (first ∷ said) = ap (λ (rest : List ℕ). said_text form line first ++ rest) (outputs-printed form line said)

refusal-printed : (form : Form) (line : Numbered) (refusal : Refusal) (cause : Option LineCause) → output_of (output_line_in form (Refuses line refusal cause) ∷ []) ≡ printed_refusal form line refusal cause
refusal-printed Plain line refusal cause = refl
refusal-printed Json line refusal cause = append-nil (refused_object line refusal cause)

output_for-printed : (form : Form) (how : Explained) (line : Numbered) (answer : LineAnswer) → output_of (output_for form how line answer) ≡ printed_of form how line answer
output_for-printed form how line (Ok said) = outputs-printed form line said
output_for-printed form how line (Err refusal) = refusal-printed form line refusal (body_cause how line.body refusal)

-- ---- the two modes that answer labels by a table

module _ (P : Mode → Type 0) (listings : P Variants) (jumps : P Jump) where
  by_mode : (mode : Mode) → AnswersLabels mode → P mode
  by_mode mode (inl is) = subst P (sym is) listings
  by_mode mode (inr is) = subst P (sym is) jumps

module _ (properties : Properties) where
  empty_is_faulty : IsRegistrable properties [] → ⊥
  unfolding first_fault
  empty_is_faulty none = let clash : Some Empty ≡ None = none in cc

  -- no text asks about no label that may be registered
  none-asked : (mode : Mode) → AnswersLabels mode → IsRegistrable properties (asked_label mode []) → ⊥
  none-asked = by_mode (λ m. IsRegistrable properties (asked_label m []) → ⊥) empty_is_faulty empty_is_faulty

-- the UTF-8 of some text is some bytes
utf8-some : (text : List ℕ) → AreScalarValues text → (text ≡ [] → ⊥) → (length (utf8_of text) == 0) ≡ false
unfolding chars
utf8-some text scalars some = by (utf8_of text) refl
  where
    by : (bytes : List ℕ) → utf8_of text ≡ bytes → (length bytes == 0) ≡ false
    by [] none = absurd (some (sym (ap chars (sym none) ∙ points_from_utf8 (utf8_of text) text (record { scalar_values = scalars; encoded = refl }))))
    by (byte ∷ bytes) more = grind (arith, nat_tests)

module _ (o : Settings) (table : TableValue) where
  -- the answer to a text of which the label may be registered
  answer-is : IsSound table → HasRising o.registered → (mode : Mode) → AnswersLabels mode → (text : List ℕ) → IsRegistrable o.properties (asked_label mode text)
      → IsAnswer mode o table text (mode_answer mode o table text)
  answer-is sound rising =
      by_mode (λ m. (text : List ℕ) → IsRegistrable o.properties (asked_label m text) → IsAnswer m o table text (mode_answer m o table text))
      (λ text. variants_answer-IsListing o table text sound rising) (λ text. jump_answer-IsJumpAnswer o table text sound)

  -- and to one of which it has a fault
  fault-told : (mode : Mode) → AnswersLabels mode → (text : List ℕ) (refusal : Refusal) → first_fault o.properties (asked_label mode text) ≡ Some refusal → mode_answer mode o table text ≡ Err refusal
  fault-told =
      by_mode (λ m. (text : List ℕ) (refusal : Refusal) → first_fault o.properties (asked_label m text) ≡ Some refusal → mode_answer m o table text ≡ Err refusal)
      (λ text refusal fault. ap (λ (f : Option Refusal). unless_fault f (listing_answer o table text)) fault) (λ text refusal. jump-refused o.properties table text refusal)

-- ---- what is printed for the lines

module _ (o : Settings) (table : TableValue) (asks : AnswersLabels o.mode) where
  abbrev answer : List ℕ → LineAnswer
  answer = mode_answer o.mode o table

  abbrev how : Explained
  how = explained_in o.mode o table

  -- what is printed for a line, by the output lines that a run writes for it
  abbrev printed_line : Numbered → List ℕ
  printed_line line = output_of (line_output o.form how answer line)

  -- those of lines
  abbrev all_output : List Numbered → List OutputLine
  all_output lines = lines_output o.form how answer lines

  answer-printed : IsSound table → HasRising o.registered → (line : Numbered) (text : List ℕ) → IsLineOf o text line
      → (said : LineAnswer) × IsAnswer o.mode o table text said × (printed_line line ≡ printed_of o.form how line said)
  answer-printed sound rising line text is =
      let some : text ≡ [] → ⊥ = λ none. none-asked o.properties o.mode asks (subst (λ (t : List ℕ). IsRegistrable o.properties (asked_label o.mode t)) none is.registrable) in
      let answers : line_answer answer line.body ≡ answer text =
      ap (line_answer answer) is.utf8
      ∙ text_answer-points answer (utf8_of text) text (record { scalar_values = is.scalar_values; encoded = refl }) (utf8-some text is.scalar_values some) in (
        answer text,
        answer-is o table sound rising o.mode asks text is.registrable,
        output_for-printed o.form how line (line_answer answer line.body) ∙ ap (printed_of o.form how line) answers,
      )

  -- a line that asks about no label that may be registered is refused
  refused-printed : (line : Numbered) (fault : Refusal) → line_answer answer line.body ≡ Err fault → printed_line line ≡ printed_of o.form how line (Err fault)
  refused-printed line fault refused = output_for-printed o.form how line (line_answer answer line.body) ∙ ap (printed_of o.form how line) refused

  other-refused : (body : Option (List ℕ)) → ((text : List ℕ) → AreScalarValues text → body ≡ Some (utf8_of text) → IsRegistrable o.properties (asked_label o.mode text) → ⊥)
      → (fault : Refusal) × (line_answer answer body ≡ Err fault)
  other-refused None none = (LineTooLong, refl)
  other-refused (Some bytes) none = by_utf8 (cases_Bool (is_utf8 bytes))
    where
      by_fault : (fault : Option Refusal) → first_fault o.properties (asked_label o.mode (chars bytes)) ≡ fault → is_utf8 bytes ≡ true → (length bytes == 0) ≡ false
          → (fault : Refusal) × (line_answer answer (Some bytes) ≡ Err fault)
      by_fault None registrable utf8 some = absurd (none (chars bytes) (utf8-of_chars bytes utf8).scalar_values (ap Some (sym (chars-encoded bytes utf8))) registrable)
      by_fault (Some refusal) refused utf8 some = (
        refusal,
        text_answer-points answer bytes (chars bytes) (utf8-of_chars bytes utf8) some ∙ fault-told o table o.mode asks (chars bytes) refusal refused,
      )

      by_length : (length bytes == 0) ≡ true ⊎ (length bytes == 0) ≡ false → is_utf8 bytes ≡ true → (fault : Refusal) × (line_answer answer (Some bytes) ≡ Err fault)
      by_length (inl empty) utf8 = (Empty, text_answer-none answer bytes empty)
      by_length (inr some) utf8 = by_fault (first_fault o.properties (asked_label o.mode (chars bytes))) refl utf8 some

      by_utf8 : is_utf8 bytes ≡ true ⊎ is_utf8 bytes ≡ false → (fault : Refusal) × (line_answer answer (Some bytes) ≡ Err fault)
      by_utf8 (inl utf8) = by_length (cases_Bool (length bytes == 0)) utf8
      by_utf8 (inr other) = (
        NotUtf8,
        ap (λ (b : Bool). let r : LineAnswer = if b then (if length bytes == 0 then Err Empty else answer (chars bytes)) else Err NotUtf8 in r) other,
      )

  line-printed : IsSound table → HasRising o.registered → (line : Numbered) → IsPrintedFor o table line (printed_line line)
  line-printed sound rising line = record {
    answered = answer-printed sound rising line;
    refused = λ none.
        let other = other-refused line.body (λ text scalars utf8 registrable. none text (record { scalar_values = scalars; utf8 = utf8; registrable = registrable })) in
        (other.0, refused-printed line other.0 other.1);
  }

  lines-printed : IsSound table → HasRising o.registered → (lines : List Numbered) → ArePrintedFor o table lines (map printed_line lines)
  lines-printed sound rising [] = tt
  lines-printed sound rising (line ∷ lines) = (line-printed sound rising line, lines-printed sound rising lines)

  -- joined, it is what the output lines of these lines put on the output
  lines-joined : (lines : List Numbered) → concat (map printed_line lines) ≡ output_of (all_output lines)
  lines-joined [] = refl
  lines-joined (line ∷ lines) =
      ap (λ (rest : List ℕ). printed_line line ++ rest) (lines-joined lines) ∙ sym (output_of-append (line_output o.form how answer line) (all_output lines))

-- ---- what a stop leaves

-- of what output lines put on the output a beginning is there
abbrev IsBeginningOf : List OutputLine → List OutputLine → Type 0
IsBeginningOf output_lines written = (missing : List ℕ) × (output_of output_lines ≡ output_of written ++ missing)

begun-all : (output_lines : List OutputLine) → IsBeginningOf output_lines output_lines
begun-all output_lines = ([], sym (append-nil (output_of output_lines)))

begun-before : (before output_lines written : List OutputLine) → IsBeginningOf output_lines written → IsBeginningOf (before ++ output_lines) (before ++ written)
begun-before before output_lines written begun = (
  begun.0,
  output_of-append before output_lines ∙ ap (λ (rest : List ℕ). output_of before ++ rest) begun.1
      ∙ sym (append_assoc (output_of before) (output_of written) begun.0)
      ∙ ap (λ (start : List ℕ). start ++ begun.0) (sym (output_of-append before written)),
)

begun-output : (text : List ℕ) (taken : ℕ) (after : List OutputLine) → IsBeginningOf (Output text ∷ after) (Output (take taken text) ∷ [])
begun-output text taken after = (
  drop taken text ++ output_of after,
  ap (λ (whole : List ℕ). whole ++ output_of after) (sym (take-append-drop taken text))
      ∙ append_assoc (take taken text) (drop taken text) (output_of after)
      ∙ ap (λ (start : List ℕ). start ++ (drop taken text ++ output_of after)) (sym (append-nil (take taken text))),
)

begun-cut : (why : Stop) (output_lines written : List OutputLine) → IsCutBy why output_lines written → IsBeginningOf output_lines written
begun-cut stop.Reading output_lines written cut = absurd cut
begun-cut stop.Output output_lines written cut =
    rw (cut.split, cut.cut) (begun-before cut.before (Output cut.text ∷ cut.after) (Output (take cut.taken cut.text) ∷ []) (begun-output cut.text cut.taken cut.after))
begun-cut stop.Messages output_lines written cut =
    rw (cut.split, cut.cut) (begun-before cut.before (Message cut.text ∷ cut.after) (Message (take cut.taken cut.text) ∷ []) (output_of cut.after, refl))
begun-cut stop.Memory output_lines written cut = (output_of cut.0, ap output_of cut.1 ∙ output_of-append written cut.0)

-- a run that stopped answers neither 0 nor 1
stopped-status : (why : Stop) → (closing_status (refusal_of why) ≡ Clean) ⊎ (closing_status (refusal_of why) ≡ Refused) → ⊥
stopped-status stop.Reading which = elim which [ inl clash ↦ let no : Faulty ≡ Clean = clash in cc | inr clash ↦ let no : Faulty ≡ Refused = clash in cc ]
stopped-status stop.Output which = elim which [ inl clash ↦ let no : Faulty ≡ Clean = clash in cc | inr clash ↦ let no : Faulty ≡ Refused = clash in cc ]
stopped-status stop.Messages which = elim which [ inl clash ↦ let no : Faulty ≡ Clean = clash in cc | inr clash ↦ let no : Faulty ≡ Refused = clash in cc ]
stopped-status stop.Memory which = elim which [ inl clash ↦ let no : OutOfMemory ≡ Clean = clash in cc | inr clash ↦ let no : OutOfMemory ≡ Refused = clash in cc ]

module _ (o : Settings) (table : TableValue) (sound : IsSound table) (rising : HasRising o.registered) (asks : AnswersLabels o.mode) where
  abbrev job : Job
  job = mode_job o (Ok table)

  abbrev all : List Numbered → List OutputLine
  all = all_output o table asks

  output_lines-lines : (lines : List Numbered) → job.output_lines lines ≡ all lines
  output_lines-lines lines = by_mode (λ m. mode_output m o table lines ≡ lines_output o.form (explained_in m o table) (mode_answer m o table) lines) refl refl o.mode asks

  output_lines-one : (before : List Numbered) (line : Numbered) → all (before ++ line ∷ []) ≡ all before ++ all (line ∷ [])
  output_lines-one before line = flat_map-append (line_output o.form (explained_in o.mode o table) (mode_answer o.mode o table)) before (line ∷ [])

  begun-line : (why : Stop) (lines : List Numbered) (now : Reading) (written : List OutputLine) → StopsAtLine job why lines now written
      → IsBeginningOf (all lines) written
  begun-line why lines now written stops =
      let part : IsBeginningOf (all (stops.line ∷ [])) stops.part =
      begun-cut why _ stops.part (subst (λ (output_lines : List OutputLine). IsCutBy why output_lines stops.part) (output_lines-lines (stops.line ∷ [])) stops.cut) in
      let whole = begun-before (all stops.before) (all (stops.line ∷ [])) stops.part part in
      rw (stops.last, output_lines-one stops.before stops.line, stops.stand, output_lines-lines stops.before) whole

  begun-unread : (why : Stop) (lines : List Numbered) (start now : Reading) (written : List OutputLine) → StopsUnread job why lines start now written
      → IsBeginningOf (all lines) written
  begun-unread why lines start now written stops =
      rw stops.no_line (begun-cut why [] written (subst (λ (output_lines : List OutputLine). IsCutBy why output_lines written) (output_lines-lines []) stops.cut))

  begun-either : (why : Stop) (lines : List Numbered) (start now : Reading) (written : List OutputLine)
      → StopsAtLine job why lines now written ⊎ StopsUnread job why lines start now written
      → IsBeginningOf (all lines) written
  begun-either why lines start now written stands =
      elim stands [ inl at ↦ begun-line why lines now written at | inr unread ↦ begun-unread why lines start now written unread ]

  begun-stop : (why : Stop) (lines : List Numbered) (start now : Reading) (written : List OutputLine) → Stands job why lines start now written
      → IsBeginningOf (all lines) written
  begun-stop stop.Reading lines start now written stands =
      subst (IsBeginningOf (all lines)) (sym (stands.2 ∙ output_lines-lines lines)) (begun-all (all lines))
  begun-stop stop.Output lines start now written stands = begun-either stop.Output lines start now written stands
  begun-stop stop.Messages lines start now written stands = begun-either stop.Messages lines start now written stands
  begun-stop stop.Memory lines start now written stands = begun-either stop.Memory lines start now written stands

  -- the last message leaves the output as it is
  output-stays : (why : Stop) (middle new : Held) → Closes why middle new → new.output ≡ middle.output
  output-stays stop.Reading middle new closes = ap (λ (h : Held). h.output) closes.0
  output-stays stop.Output middle new closes = ap (λ (h : Held). h.output) closes.0
  output-stays stop.Messages middle new closes = ap (λ (h : Held). h.output) closes
  output-stays stop.Memory middle new closes = ap (λ (h : Held). h.output) closes.0

  reads-lines : job.reads ≡ true
  reads-lines = by_mode (λ m. reads_lines m (Ok table) ≡ true) refl refl o.mode asks

  done-prints : (start now : Reading) (old new : Held) (status : Status) → Does job start now old new (Ok status)
      → PrintsAnswers o table start now old.output.contents new.output.contents status
  done-prints start now old new status does = record {
    given = does.given;
    lines = does.lines;
    read = does.read;
    printed = map (printed_line o table asks) does.lines;
    each = lines-printed o table asks sound rising does.lines;
    taken = output_of (job.output_lines does.lines);
    missing = [];
    joined = lines-joined o table asks does.lines ∙ sym (ap output_of (output_lines-lines does.lines)) ∙ sym (append-nil (output_of (job.output_lines does.lines)));
    output = does.ending.output_lines.takes.output;
    whole = λ _. (does.ending.ended reads-lines, refl);
  }

  stopped-prints : (start now : Reading) (old new : Held) (status : Status) → Stops job start now old new status
      → PrintsAnswers o table start now old.output.contents new.output.contents status
  stopped-prints start now old new status stops =
      let does = stops.stopped in
      let begun = begun-stop stops.why does.lines start now does.ending.written does.ending.stands in
      record {
        given = does.given;
        lines = does.lines;
        read = does.read;
        printed = map (printed_line o table asks) does.lines;
        each = lines-printed o table asks sound rising does.lines;
        taken = output_of does.ending.written;
        missing = begun.0;
        joined = lines-joined o table asks does.lines ∙ begun.1;
        output = subst (λ (w : Writer). Appends old.output.contents w.contents (output_of does.ending.written))
            (sym (output-stays stops.why stops.middle new stops.closes)) does.ending.output_lines.takes.output;
        whole = λ which. absurd (stopped-status stops.why (subst (λ (s : Status). (s ≡ Clean) ⊎ (s ≡ Refused)) stops.answered which));
      }

  ends-prints : (start now : Reading) (old new : Held) (status : Status) → Ends job start now old new status
      → PrintsAnswers o table start now old.output.contents new.output.contents status
  ends-prints start now old new status ends =
      elim ends [ inl does ↦ done-prints start now old new status does | inr stops ↦ stopped-prints start now old new status stops ]

module _ (properties : Properties) (n : Notation) (text : List ℕ) (table : TableValue) where
  sound_read : IsReadAs properties n text (Ok table) → IsSound table
  sound_read given = sound_table table (formed properties n text table given)

  sound_listed : (registered : Option (List (List ℕ))) → IsListedBy registered properties n text (Ok table) → IsSound table
  sound_listed None given = sound_read given
  sound_listed (Some labels) given = sound_read given.0

  module _ (lines : is_in_xml n text ≡ false) where
    spells : (t : TableValue) → IsReadAs properties n text (Ok t) → IsTextOf properties n text t
    spells t given = table_in_lines properties n text t lines given

    never-faulty : (fault : ℕ × Refusal × Option LineCause) → HasFault properties n text fault → IsReadAs properties n text (Ok table) → ⊥
    never-faulty fault has given =
        let told = fault_in_lines properties n text fault lines has in
        not_both properties n text table fault.0 told.0 (spells table given) told.2

    -- the table that a run is given is the one that its lines spell
    same_table : (given : TableGiven) → IsReadAs properties n text given → IsReadAs properties n text (Ok table) → given ≡ Ok table
    same_table (Ok other) read spelled = ap Ok (one_table properties n text other table (spells other read) (spells table spelled))
    same_table (Err fault) read spelled = absurd (never-faulty fault read spelled)

    -- also where collisions are searched by it
    same_searched : (given : TableGiven) → IsSearchedAs properties n text given → IsSearchedAs properties n text (Ok table) → given ≡ Ok table
    same_searched (Ok other) read spelled = ap Ok (one_table properties n text other table (spells other read.0) (spells table spelled.0))
    same_searched (Err fault) (inl read) spelled = absurd (never-faulty fault read spelled.0)
    same_searched (Err fault) (inr crowd) spelled =
        let at = crowd.0 in
        let by = at.source.crowded in
        let same : at.table ≡ table = one_table properties n text at.table table (spells at.table at.given) (spells table spelled.0) in
        absurd (spelled.1 (subst (λ (t : TableValue). AreCrowded t.entries) same (by.0, by.1.crowded)))

    same_listed : (registered : Option (List (List ℕ))) (given : TableGiven) → IsListedBy registered properties n text given → IsListedBy registered properties n text (Ok table) → given ≡ Ok table
    same_listed None given read spelled = same_table given read spelled
    same_listed (Some labels) given read spelled = same_searched given read spelled

module _ (o : Settings) (text : List ℕ) (table : TableValue) where
  abbrev IsTableBy : Mode → TableGiven → Type 0
  IsTableBy mode given = IsTableFor mode o.registered o.properties o.notation text given

  same_given : is_in_xml o.notation text ≡ false → (given : TableGiven) (mode : Mode) → AnswersLabels mode → IsTableBy mode given → IsTableBy mode (Ok table) → given ≡ Ok table
  same_given lines given =
      by_mode (λ m. IsTableBy m given → IsTableBy m (Ok table) → given ≡ Ok table) (same_listed o.properties o.notation text table lines o.registered given) (same_searched o.properties o.notation text table lines given)

  sound_given : (mode : Mode) → AnswersLabels mode → IsTableBy mode (Ok table) → IsSound table
  sound_given =
      by_mode (λ m. IsTableBy m (Ok table) → IsSound table) (sound_listed o.properties o.notation text table o.registered) (λ given. sound_read o.properties o.notation text table given.0)

  -- of a ruleset in XML it answers as that says
  answers_read : IsTableIn o.properties o.notation text table → AnswersAsItsText o text table
  answers_read given xml = answers-as-text o.properties text table (subst (λ (b : Bool). GivesTable b o.properties o.notation text table) xml given)

  answers_listed : (registered : Option (List (List ℕ))) → IsListedBy registered o.properties o.notation text (Ok table) → AnswersAsItsText o text table
  answers_listed None given = answers_read given
  answers_listed (Some labels) given = answers_read given.0

  answers_given : (mode : Mode) → AnswersLabels mode → IsTableBy mode (Ok table) → AnswersAsItsText o text table
  answers_given = by_mode (λ m. IsTableBy m (Ok table) → AnswersAsItsText o text table) (answers_listed o.registered) (λ given. answers_read given.0)

-- a table that can't be used, or a stop before it was read
nothing-read : (o : Settings) (fault : ℕ × Refusal × Option LineCause) (start now : Reading) (old new : Held) (status : Status) → Ends (mode_job o (Err fault)) start now old new status → ReadsNothing start now status
nothing-read o fault start now old new status (inl does) = record {
  unread = does.unread refl;
  not_clean = λ is. let no : Unusable ≡ Clean = sym does.ending.answered ∙ is in cc;
  not_refused = λ is. let no : Unusable ≡ Refused = sym does.ending.answered ∙ is in cc;
}
nothing-read o fault start now old new status (inr stops) = record {
  unread = stops.stopped.unread refl;
  not_clean = λ is. stopped-status stops.why (inl (sym stops.answered ∙ is));
  not_refused = λ is. stopped-status stops.why (inr (sym stops.answered ∙ is));
}

-- and where memory ran out before
nothing-out : (o : Settings) (start now : Reading) (old new : Held) (status : Status) → RunsOut o start now old new status → ReadsNothing start now status
nothing-out o start now old new status out = record {
  unread = out.unread;
  not_clean = λ is. stopped-status stop.Memory (inl (sym out.told.2 ∙ is));
  not_refused = λ is. stopped-status stop.Memory (inr (sym out.told.2 ∙ is));
}

-- then the job of any table is stopped before a line was read
out-ends : (o : Settings) (given : TableGiven) (start now : Reading) (old new : Held) (status : Status) → IsUnread start → RunsOut o start now old new status → Ends (mode_job o given) start now old new status
out-ends o given start now old new status unread out = inr (record {
  why = stop.Memory;
  middle = old;
  stopped = subst (λ (n : Reading). Does (mode_job o given) start n old old (Err stop.Memory)) (sym out.unread) (stopped-unread (mode_job o given) start old unread out.by_table);
  closes = (out.told.0, out.told.1);
  answered = out.told.2;
})

-- the law: what a run ends with is the theorem of its answers
pub headline : (o : Settings) (text : List ℕ) (start now : Reading) (old new : Held) (status : Status)
    → HasRising o.registered → AnswersLabels o.mode → IsUnread start → RunsBy o text start now old new status
    → PrintsByText o text start now old.output.contents new.output.contents status
headline o text start now old new status rising asks fresh runs = record { spelled = λ table lines is. prints table is (by_table table lines is runs); said = said runs }
  where
    prints : (table : TableValue) → IsTableOf o text (Ok table) → Ends (mode_job o (Ok table)) start now old new status → PrintsAnswers o table start now old.output.contents new.output.contents status
    prints table is ends = ends-prints o table (sound_given o text table o.mode asks is) rising asks start now old new status ends

    by_table : (table : TableValue) → is_in_xml o.notation text ≡ false → IsTableOf o text (Ok table) → RunsBy o text start now old new status → Ends (mode_job o (Ok table)) start now old new status
    by_table table lines is (inl ends) =
        subst (λ (g : TableGiven). Ends (mode_job o g) start now old new status) (same_given o text table lines ends.0 o.mode asks ends.1 is) ends.2
    by_table table lines is (inr out) = out-ends o (Ok table) start now old new status fresh out

    said_of : (given : TableGiven) → IsTableOf o text given → Ends (mode_job o given) start now old new status
        → ReadsNothing start now status ⊎ ((table : TableValue) × IsTableOf o text (Ok table) × AnswersAsItsText o text table
        × PrintsAnswers o table start now old.output.contents new.output.contents status)
    said_of (Ok table) is ends = inr (table, is, answers_given o text table o.mode asks is, prints table is ends)
    said_of (Err fault) is ends = inl (nothing-read o fault start now old new status ends)

    said : RunsBy o text start now old new status
        → ReadsNothing start now status ⊎ ((table : TableValue) × IsTableOf o text (Ok table) × AnswersAsItsText o text table
        × PrintsAnswers o table start now old.output.contents new.output.contents status)
    said (inl ends) = said_of ends.0 ends.1 ends.2
    said (inr out) = inl (nothing-out o start now old new status out)
