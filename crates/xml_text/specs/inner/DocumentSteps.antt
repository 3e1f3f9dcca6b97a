-- Reading a document: what each byte changes.
use Rattle.std.specs.Prelude.{◌≡◌, ℕ, ◌+◌, ◌<◌, ◌≤◌, Bool, true, false, ◌==◌, ◌&&◌, not, nat_lt, Option, Some, None}
use Rattle.std.specs.Prelude.{List, [], ◌∷◌, ◌++◌, length, take as front, slice_get, slice_index, codes}
use Rattle.std.specs.Prelude.{encode_utf8, if◌then◌else◌}
use Rattle.std.specs.Option.{option_map}
use Rattle.idn_text.specs.Stops.{run}
use Rattle.xml_text.specs.declared.attribute.TagKind.{TagKind}
use Rattle.xml_text.specs.declared.attribute.TagKind.TheVariants.{Start, Empty}
use Rattle.xml_text.specs.declared.document_state.DocumentState as reading
use Rattle.xml_text.specs.declared.document_state.Part.{Part}
use Rattle.xml_text.specs.declared.document_state.Part.TheVariants as part
use Rattle.xml_text.specs.declared.repeats.Repeats.{Repeats}
use Rattle.xml_text.specs.declared.repeats.Repeats.TheVariants as repeats
use Rattle.xml_text.specs.Documents.{text_token, closing}
use Rattle.xml_text.specs.LineEnds.{line_feeds_after, next_line, return_after}
use Rattle.xml_text.specs.Names.{is_blank, is_name_start, is_name_byte, is_reference_byte}
use Rattle.xml_text.specs.Pieces.{is_xml}
use Rattle.xml_text.specs.References.{referenced}
use Rattle.xml_text.specs.Tags.{Tag}
use Rattle.xml_text.specs.Tokens
use Rattle.xml_text.specs.Tokens.{Token}
use Rattle.xml_text.specs.declared.state.Phase.TheVariants as phase
use Rattle.xml_text.specs.inner.Runs.{Takes}
use Rattle.xml_text.specs.inner.TagSteps as tag

pub record State : Type 0 where
  pub tokens : List Token
  pub names : List (List ℕ)
  pub rooted : Bool
  pub said : List ℕ
  pub line : ℕ
  pub begun : ℕ
  pub tag : tag.State
  pub word : List ℕ
  pub part : Part

-- what the state in memory is seen as
abbrev pub state : reading.DocumentState → State
state s = record {
  tokens = s.tokens.items;
  names = s.names;
  rooted = s.is_rooted;
  said = s.said;
  line = s.line;
  begun = s.begun;
  tag = tag.state s.tag;
  word = s.word.items;
  part = s.part;
}

abbrev pub start : ℕ → State
start line = record {
  tokens = [];
  names = [];
  rooted = false;
  said = [];
  line = line;
  begun = line;
  tag = tag.start;
  word = [];
  part = part.Content repeats.Zero;
}

abbrev pub moved : State → Part → Option State
moved s p = Some (record s { part = p })

abbrev pub content : Part
content = part.Content repeats.Zero

-- ---- repeats

abbrev pub after : Bool → Repeats → Repeats
after false k = repeats.Zero
after true repeats.Zero = repeats.One
after true repeats.One = repeats.Two
after true repeats.Two = repeats.Two

abbrev pub is_two : Repeats → Bool
is_two repeats.Zero = false
is_two repeats.One = false
is_two repeats.Two = true

-- so often this byte
abbrev pub times : Repeats → ℕ → List ℕ
times repeats.Zero b = []
times repeats.One b = b ∷ []
times repeats.Two b = b ∷ b ∷ []

-- ---- content

abbrev pub has_none : List (List ℕ) → Bool
has_none [] = true
has_none (n ∷ ns) = false

abbrev pub with_said : State → List ℕ → State
with_said s bytes = record s { said = s.said ++ bytes }

abbrev pub content_step : Repeats → State → ℕ → Option State
content_step k s b =
    if b == 60 then moved (record s { begun = s.line }) part.Markup else
    if has_none s.names then (if is_blank b then moved s content else None) else
    if b == 38 then moved (record s { word = [] }) part.Reference else
    if is_two k && b == 62 then None else moved (with_said s (b ∷ [])) (part.Content (after (b == 93) k))

-- text that says itself
abbrev pub spoken_step : State → ℕ → Option State
spoken_step s b = moved (with_said s (b ∷ [])) content

abbrev pub resolved : State → Option ℕ → Option State
resolved s None = None
resolved s (Some c) = moved (with_said s (encode_utf8 c)) content

abbrev pub with_word : State → ℕ → State
with_word s b = record s { word = s.word ++ b ∷ [] }

abbrev pub reference_step : State → ℕ → Option State
reference_step s b =
    if b == 59 then resolved s (referenced s.word) else
    if is_reference_byte b then Some (with_word s b) else None

-- ---- tags

abbrev pub may_open : Bool → List (List ℕ) → Bool
may_open rooted [] = not rooted
may_open rooted (n ∷ ns) = nat_lt (length (n ∷ ns)) 64

abbrev pub with_tag : State → tag.State → State
with_tag s t = record s { tag = t; part = part.Tag }

abbrev pub begin_tag_step : State → ℕ → Option State
begin_tag_step s b =
    if may_open s.rooted s.names then option_map (with_tag s) (tag.step (tag.with_phase tag.start phase.Begin) b)
    else None

abbrev pub markup_step : State → ℕ → Option State
markup_step s b =
    if b == 33 then moved s part.Exclamation else
    if b == 63 then moved s part.Question else
    if b == 47 then (if has_none s.names then None else moved s (part.EndName 0)) else begin_tag_step s b

abbrev pub names_with : List ℕ → List (List ℕ) → TagKind → List (List ℕ)
names_with name names Start = name ∷ names
names_with name names Empty = names

abbrev pub token : Tokens.Said → ℕ → Token
token said line = record { said = said; line = line }

-- the text before a tag ends
abbrev pub with_text : State → State
with_text s = record s { tokens = s.tokens ++ text_token s.begun s.said; said = [] }

abbrev pub ended_empty : State → TagKind → State
ended_empty s kind = record s { tokens = s.tokens ++ closing s.begun kind }

abbrev pub opened : State → Tag → State
opened s t =
    let u = with_text s in
    record u {
      tokens = u.tokens ++ token (Tokens.Open t.name t.attributes) s.begun ∷ closing s.begun t.kind;
      names = names_with t.name s.names t.kind;
      rooted = true;
      tag = tag.start;
      part = content;
    }

abbrev pub ended_tag : State → Option Tag → State
ended_tag s None = s
ended_tag s (Some t) = opened s t

abbrev pub tag_moved : State → tag.State → State
tag_moved s t = ended_tag (record s { tag = t }) (tag.tag_in t)

abbrev pub tag_step : State → ℕ → Option State
tag_step s b = option_map (tag_moved s) (tag.step s.tag b)

-- ---- end tags

abbrev pub without_first : List (List ℕ) → List (List ℕ)
without_first [] = []
without_first (n ∷ ns) = ns

abbrev pub closed : State → State
closed s =
    let u = with_text s in
    record u { tokens = u.tokens ++ token Tokens.Close s.begun ∷ []; names = without_first s.names; part = content }

abbrev pub end_blank_step : State → ℕ → Option State
end_blank_step s b = if b == 62 then Some (closed s) else if is_blank b then moved s part.EndBlank else None

abbrev pub expected : Option ℕ → ℕ → State → ℕ → Option State
expected None at s b = end_blank_step s b
expected (Some c) at s b = if c == b then moved s (part.EndName (at + 1)) else None

abbrev pub end_name_in : List (List ℕ) → ℕ → State → ℕ → Option State
end_name_in [] at s b = None
end_name_in (n ∷ ns) at s b = expected (slice_get n at) at s b

abbrev pub end_name_step : ℕ → State → ℕ → Option State
end_name_step at s b = end_name_in s.names at s b

-- ---- comments

abbrev pub exclamation_step : State → ℕ → Option State
exclamation_step s b =
    if b == 45 then moved s part.CommentBegin else
    if b == 91 then (if has_none s.names then None else moved s (part.SectionBegin 0)) else None

abbrev pub comment_begin_step : State → ℕ → Option State
comment_begin_step s b = if b == 45 then moved s (part.Comment repeats.Zero) else None

abbrev pub comment_step : Repeats → State → ℕ → Option State
comment_step k s b =
    if is_two k then (if b == 62 then moved s content else None) else moved s (part.Comment (after (b == 45) k))

-- ---- sections

abbrev pub section_word : List ℕ
section_word = codes "CDATA["

abbrev pub section_begun : ℕ → Part
section_begun at = if at == 6 then part.Section repeats.Zero else part.SectionBegin at

abbrev pub section_expected : Option ℕ → ℕ → State → ℕ → Option State
section_expected None at s b = None
section_expected (Some c) at s b = if c == b then moved s (section_begun (at + 1)) else None

abbrev pub section_begin_step : ℕ → State → ℕ → Option State
section_begin_step at s b = section_expected (slice_get section_word at) at s b

abbrev pub bracket_in_section : Repeats → State → Option State
bracket_in_section repeats.Zero s = moved s (part.Section repeats.One)
bracket_in_section repeats.One s = moved s (part.Section repeats.Two)
bracket_in_section repeats.Two s = moved (with_said s (93 ∷ [])) (part.Section repeats.Two)

abbrev pub section_step : Repeats → State → ℕ → Option State
section_step k s b =
    if b == 93 then bracket_in_section k s else
    if is_two k && b == 62 then moved s content else
    moved (with_said s (times k 93 ++ b ∷ [])) (part.Section repeats.Zero)

-- ---- processing instructions

abbrev pub question_step : State → ℕ → Option State
question_step s b = if is_name_start b then moved (record s { word = b ∷ [] }) part.Target else None

abbrev pub target_end_step : State → ℕ → Option State
target_end_step s b =
    if b == 63 then moved s part.TargetEnd else if is_blank b then moved s (part.Instruction false) else None

abbrev pub target_step : State → ℕ → Option State
target_step s b =
    if is_name_byte b then Some (with_word s b) else
    if is_xml s.word then None else target_end_step s b

abbrev pub last_step : State → ℕ → Option State
last_step s b = if b == 62 then moved s content else None

abbrev pub instruction_step : Bool → State → ℕ → Option State
instruction_step is_mark s b = if is_mark && b == 62 then moved s content else moved s (part.Instruction (b == 63))

-- ---- all bytes

abbrev pub take_by : Part → State → ℕ → Option State
take_by (part.Content k) s b = content_step k s b
take_by part.Reference s b = reference_step s b
take_by part.Markup s b = markup_step s b
take_by part.Tag s b = tag_step s b
take_by (part.EndName at) s b = end_name_step at s b
take_by part.EndBlank s b = end_blank_step s b
take_by part.Exclamation s b = exclamation_step s b
take_by part.CommentBegin s b = comment_begin_step s b
take_by (part.Comment k) s b = comment_step k s b
take_by (part.SectionBegin at) s b = section_begin_step at s b
take_by (part.Section k) s b = section_step k s b
take_by part.Question s b = question_step s b
take_by part.Target s b = target_step s b
take_by part.TargetEnd s b = last_step s b
take_by (part.Instruction is_mark) s b = instruction_step is_mark s b

abbrev pub take : State → ℕ → Option State
take s b = take_by s.part s b

abbrev pub on_line : ℕ → State → State
on_line line s = record s { line = line }

abbrev pub step : State → ℕ → Option State
step s b = option_map (on_line (next_line s.line b)) (take s b)

-- the line after the first byte
abbrev pub line_next : State → List ℕ → ℕ
line_next s bytes = next_line s.line (slice_index bytes 0)

-- a run is taken, of which the first byte is read so
abbrev pub Goes : (State → ℕ → Option State) → State → List ℕ → Option ℕ → State → Type 0
Goes read s bytes taken t =
    let line = line_next s bytes in
    Takes step (option_map (on_line line) (read s (slice_index bytes 0))) bytes taken (on_line line t)

-- so many bytes of a text whose lines may end in CR lead from a state to another
pub record IsRead (s : reading.DocumentState) (bytes : List ℕ) (n : ℕ) (t : reading.DocumentState) : Type 0 where
  pub some : 0 < n
  pub within : n ≤ length bytes
  pub leads : run step (Some (state s)) (line_feeds_after s.is_after_return (front n bytes)) ≡ Some (state t)
  pub after : t.is_after_return ≡ return_after s.is_after_return (front n bytes)

-- so many bytes are read; or none, since the first may not stand there
abbrev pub Reads : reading.DocumentState → List ℕ → Option ℕ → reading.DocumentState → Type 0
Reads s bytes (Some n) t = IsRead s bytes n t
Reads s bytes None t =
    run step (Some (state s)) (line_feeds_after s.is_after_return (slice_index bytes 0 ∷ [])) ≡ None

-- ---- the end

abbrev pub is_content_end : Part → Bool
is_content_end (part.Content k) = true
is_content_end p = false

abbrev pub is_complete : State → Bool
is_complete s = s.rooted && has_none s.names && is_content_end s.part
