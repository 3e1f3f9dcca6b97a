-- What is said of a line of input or of a table: as a line of text, or as an object of JSON.
use Rattle.std.specs.Prelude.{ℕ, List, [], ◌∷◌, ◌++◌, codes, Option, Some, None, if◌then◌else◌}
use Rattle.std.specs.Option.{option_map}
use Rattle.std.specs.Fmt.{decimal}
use Rattle.idn_text.specs.Lines.{Numbered}
use Rattle.idn_text.specs.Points.{utf8_of}
use Rattle.idn_label.specs.ALabel.{a_label_of}
use Rattle.idn_label.specs.OldNames.{mark}
use Rattle.ruleset_text.specs.EntryText.{sequence_text}
use Rattle.answer_json.specs.Answers.{Answer, line_of}
use Rattle.answer_json.specs.Inputs.{Told, told_of}
use Rattle.answer_json.specs.Objects.{looked_up, registered, decoded, variant, trailer, collision, least, pair, word_of}
use Rattle.answer_json.specs.Objects.{idle, checked, disposition_text, is_unclear, regard_text, old_label}
use Rattle.answer_json.specs.declared.block.Disposition.{Disposition}
use Rattle.answer_json.specs.declared.checked.PairFinding.{PairFinding}
use Rattle.answer_json.specs.declared.collision.Regards.{Regards}
use Rattle.idn2_options.specs.declared.command_line.form.Form.{Form}
use Rattle.idn2_options.specs.declared.command_line.form.Form.TheVariants.{Plain, Json}

-- ---- of a line

-- what a name is in a query; what a label stands for and its A-label; what a name is decoded to; an old label for which
-- a name of a zone stands; a variant of a label, after its disposition, if the table has any; a registered label that
-- collides with a label, after what each is to the other; the end of a block: how many labels it has, and where it
-- stops if there may be more; the same after the label that was asked about; the least near label from a text on, with
-- what it and the label asked about are to each other, or that there is none
pub data Said : Type 0 where
  LookedUp : (ascii : List ℕ) → Said
  Registered : (u_label a_label : List ℕ) → Said
  Decoded : (unicode : List ℕ) → Said
  Old : (unicode : List ℕ) → Said
  Listed : (disposition : Option Disposition) (variant : List ℕ) → Said
  Collision : (regards : Regards) (label : List ℕ) → Said
  BlockEnd : (count : ℕ) (stop : Option (List ℕ)) → Said
  NamedEnd : (label : List ℕ) (count : ℕ) (stop : Option (List ℕ)) → Said
  Least : (found : Option (List ℕ × Regards)) → Said

-- ---- as a line of text

-- the third field of a variant's line (RFC 7940, section 7.3), after a tab, and the fourth of one that is unclear
abbrev pub disposition_columns : Option Disposition → List ℕ
disposition_columns None = []
disposition_columns (Some disposition) =
    9 ∷ (disposition_text disposition ++ (if is_unclear disposition then codes "\tunclear" else []))

-- a variant, a tab, its A-label, and its further fields
abbrev pub variant_line : Option Disposition → List ℕ → List ℕ
variant_line disposition v = utf8_of v ++ 9 ∷ (a_label_of v ++ disposition_columns disposition)

-- what a label is to the one that was asked about, and back, each after a tab
abbrev pub regard_columns : Regards → List ℕ
regard_columns regards = 9 ∷ (regard_text regards.there ++ 9 ∷ regard_text regards.back)

-- a registered label, a tab, its A-label, and its third and fourth field
abbrev pub collision_line : Regards → List ℕ → List ℕ
collision_line regards v = utf8_of v ++ 9 ∷ (a_label_of v ++ regard_columns regards)

-- the last line of a block
abbrev pub trailer_line : ℕ → Option (List ℕ) → List ℕ
trailer_line count None = codes "#end " ++ decimal count
trailer_line count (Some b) = codes "#stop " ++ (decimal count ++ 32 ∷ utf8_of b)

-- a label, and its second and third field; or that there is none
abbrev pub jump_line : Option (List ℕ × Regards) → List ℕ
jump_line None = codes "#end"
jump_line (Some found) = utf8_of found.0 ++ regard_columns found.1

abbrev pub said_line : Said → List ℕ
said_line (LookedUp ascii) = ascii
said_line (Registered u_label a_label) = a_label
said_line (Decoded unicode) = unicode
said_line (Old unicode) = unicode ++ mark
said_line (Listed disposition v) = variant_line disposition v
said_line (Collision regards v) = collision_line regards v
said_line (BlockEnd count stop) = trailer_line count stop
said_line (NamedEnd label count stop) = trailer_line count stop ++ 32 ∷ utf8_of label
said_line (Least found) = jump_line found

-- ---- as an object, with the number of the line, and with the line where the object alone has to tell what is answered

abbrev pub said_object : ℕ → Told → Said → Answer
said_object number input (LookedUp ascii) = looked_up number input ascii
said_object number input (Registered u_label a_label) = registered number input (utf8_of u_label) a_label
said_object number input (Decoded unicode) = decoded number input unicode
said_object number input (Old unicode) = old_label number input unicode
said_object number input (Listed disposition v) = variant number (utf8_of v) (a_label_of v) disposition
said_object number input (Collision regards v) = collision number (utf8_of v) (a_label_of v) regards
said_object number input (BlockEnd count stop) = trailer number input count (option_map utf8_of stop)
said_object number input (NamedEnd label count stop) = trailer number input count (option_map utf8_of stop)
said_object number input (Least found) = least number input (option_map (λ f. (utf8_of f.0, f.1)) found)

-- in either form, with its line feed
abbrev pub said_text : Form → Numbered → Said → List ℕ
said_text Plain line said = said_line said ++ 10 ∷ []
said_text Json line said = line_of (said_object line.number (told_of line.body) said)

-- ---- of a table

-- what is found of two sequences; a type of a ruleset's own that no action names; how many entries and how many gaps
-- the table has
pub data Finding : Type 0 where
  Found : (finding : PairFinding) → (pair : List ℕ × List ℕ) → Finding
  Idle : (name : List ℕ) → Finding
  Counted : (entries gaps : ℕ) → Finding

-- what is found, and the pair in canonical notation
abbrev pub pair_line : PairFinding → List ℕ × List ℕ → List ℕ
pair_line finding sequences = word_of finding ++ (32 ∷ (sequence_text sequences.0 ++ 124 ∷ sequence_text sequences.1))

-- a type that no action names
abbrev pub idle_line : List ℕ → List ℕ
idle_line name = codes "idle " ++ name

-- how many entries and how many gaps the table has
abbrev pub table_line : ℕ → ℕ → List ℕ
table_line entries gaps = codes "#table " ++ (decimal entries ++ 32 ∷ decimal gaps)

abbrev pub finding_line : Finding → List ℕ
finding_line (Found finding sequences) = pair_line finding sequences
finding_line (Idle name) = idle_line name
finding_line (Counted entries gaps) = table_line entries gaps

abbrev pub finding_object : Finding → Answer
finding_object (Found finding sequences) = pair finding (sequence_text sequences.0) (sequence_text sequences.1)
finding_object (Idle name) = idle name
finding_object (Counted entries gaps) = checked entries gaps

abbrev pub finding_text : Form → Finding → List ℕ
finding_text Plain finding = finding_line finding ++ 10 ∷ []
finding_text Json finding = line_of (finding_object finding)
