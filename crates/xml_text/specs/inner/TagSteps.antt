-- Reading a tag: what each byte changes.
use Rattle.std.specs.Prelude.{ℕ, Bool, true, false, ◌==◌, Option, Some, None, List, [], ◌∷◌, ◌++◌, if◌then◌else◌}
use Rattle.std.specs.Prelude.{encode_utf8, slice_index}
use Rattle.std.specs.Option.{option_map}
use Rattle.xml_text.specs.declared.attribute.TagKind.{TagKind}
use Rattle.xml_text.specs.declared.attribute.TagKind.TheVariants.{Start, Empty}
use Rattle.xml_text.specs.declared.state.Phase.{Phase}
use Rattle.xml_text.specs.declared.state.Phase.TheVariants as phase
use Rattle.xml_text.specs.declared.quote.Quote.{Quote}
use Rattle.xml_text.specs.declared.quote.Quote.TheVariants as quote
use Rattle.xml_text.specs.declared.state.TagState as reading
use Rattle.xml_text.specs.Attributes.{Attribute, is_named}
use Rattle.xml_text.specs.Names.{is_blank, is_name_start, is_name_byte, is_reference_byte}
use Rattle.xml_text.specs.References.{referenced}
use Rattle.xml_text.specs.inner.Runs.{Takes}
use Rattle.xml_text.specs.Tags.{Tag, quote_byte, spaced}

-- what was read: the name of the tag and its attributes; of the attribute that isn't complete its name and its value,
-- and of the reference that isn't what stands after its '&'; and what was read last
pub record State : Type 0 where
  pub name : List ℕ
  pub attributes : List Attribute
  pub attribute : List ℕ
  pub value : List ℕ
  pub reference : List ℕ
  pub phase : Phase

-- what the state in memory is seen as
abbrev pub state : reading.TagState → State
state s = record {
  name = s.name;
  attributes = s.attributes.items;
  attribute = s.attribute;
  value = s.value;
  reference = s.reference.items;
  phase = s.phase;
}

abbrev pub start : State
start = record { name = []; attributes = []; attribute = []; value = []; reference = []; phase = phase.Open }

abbrev pub with_phase : State → Phase → State
with_phase s p = record s { phase = p }

abbrev pub moved : State → Phase → Option State
moved s p = Some (with_phase s p)

-- ---- each phase

abbrev pub open_step : State → ℕ → Option State
open_step s b = if b == 60 then moved s phase.Begin else None

abbrev pub named : State → ℕ → State
named s b = record s { name = s.name ++ b ∷ []; phase = phase.Name }

abbrev pub begin_step : State → ℕ → Option State
begin_step s b = if is_name_start b then Some (named s b) else None

abbrev pub end_step : State → ℕ → Option State
end_step s b = if b == 62 then moved s (phase.Ended Start) else if b == 47 then moved s phase.Slash else None

abbrev pub after_step : State → ℕ → Option State
after_step s b = if is_blank b then moved s phase.Blank else end_step s b

abbrev pub name_step : State → ℕ → Option State
name_step s b = if is_name_byte b then Some (named s b) else after_step s b

abbrev pub with_attribute : State → ℕ → State
with_attribute s b = record s { attribute = b ∷ []; value = []; phase = phase.Attribute }

abbrev pub blank_step : State → ℕ → Option State
blank_step s b = if is_name_start b then Some (with_attribute s b) else after_step s b

abbrev pub equals_step : State → ℕ → Option State
equals_step s b = if b == 61 then moved s phase.AfterEquals else if is_blank b then moved s phase.BeforeEquals else None

abbrev pub with_attribute_byte : State → ℕ → State
with_attribute_byte s b = record s { attribute = s.attribute ++ b ∷ [] }

abbrev pub attribute_step : State → ℕ → Option State
attribute_step s b =
    if is_name_byte b then Some (with_attribute_byte s b) else
    if is_named s.attributes s.attribute then None else equals_step s b

abbrev pub quote_step : State → ℕ → Option State
quote_step s b =
    if b == 34 then moved s (phase.Value quote.Double) else
    if b == 39 then moved s (phase.Value quote.Single) else
    if is_blank b then moved s phase.AfterEquals else None

abbrev pub with_value : State → List ℕ → State
with_value s bytes = record s { value = s.value ++ bytes }

abbrev pub with_attribute_of : State → List ℕ → List ℕ → State
with_attribute_of s name value =
    record s {
      attributes = s.attributes ++ record { name = name; value = value } ∷ [];
      attribute = [];
      value = [];
      phase = phase.After;
    }

abbrev pub closed : State → State
closed s = with_attribute_of s s.attribute s.value

abbrev pub value_step : Quote → State → ℕ → Option State
value_step q s b =
    if b == quote_byte q then Some (closed s) else
    if b == 60 then None else
    if b == 38 then moved (record s { reference = [] }) (phase.Reference q) else Some (with_value s (spaced b ∷ []))

abbrev pub resolved : Quote → State → Option ℕ → Option State
resolved q s None = None
resolved q s (Some c) = Some (with_phase (with_value s (encode_utf8 c)) (phase.Value q))

abbrev pub with_reference_byte : State → ℕ → State
with_reference_byte s b = record s { reference = s.reference ++ b ∷ [] }

abbrev pub reference_step : Quote → State → ℕ → Option State
reference_step q s b =
    if b == 59 then resolved q s (referenced s.reference) else
    if is_reference_byte b then Some (with_reference_byte s b) else None

abbrev pub slash_step : State → ℕ → Option State
slash_step s b = if b == 62 then moved s (phase.Ended Empty) else None

-- ---- all bytes

abbrev pub step_by : Phase → State → ℕ → Option State
step_by phase.Open s b = open_step s b
step_by phase.Begin s b = begin_step s b
step_by phase.Name s b = name_step s b
step_by phase.After s b = after_step s b
step_by phase.Blank s b = blank_step s b
step_by phase.Attribute s b = attribute_step s b
step_by phase.BeforeEquals s b = equals_step s b
step_by phase.AfterEquals s b = quote_step s b
step_by (phase.Value q) s b = value_step q s b
step_by (phase.Reference q) s b = reference_step q s b
step_by phase.Slash s b = slash_step s b
step_by (phase.Ended kind) s b = None

abbrev pub step : State → ℕ → Option State
step s b = step_by s.phase s b

-- a name or a value was read last
abbrev pub is_between : Phase → Bool
is_between phase.Name = true
is_between phase.After = true
is_between e = false

-- a run is taken, of which the first byte is read so
abbrev pub Goes : (State → ℕ → Option State) → State → List ℕ → Option ℕ → State → Type 0
Goes read s bytes taken t = Takes step (read s (slice_index bytes 0)) bytes taken t

-- how the tag ended, once it is complete
abbrev pub kind_of : Phase → Option TagKind
kind_of (phase.Ended kind) = Some kind
kind_of e = None

abbrev pub tag_of : State → TagKind → Tag
tag_of s kind = record { name = s.name; attributes = s.attributes; kind = kind }

-- the tag, once it is complete
abbrev pub tag_in : State → Option Tag
tag_in s = option_map (tag_of s) (kind_of s.phase)
