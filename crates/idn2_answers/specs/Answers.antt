-- What a line of input is answered, or why it is refused.
use Rattle.std.specs.Prelude.{◌≡◌, ◌⊎◌, ℕ, ◌==◌, List, [], ◌∷◌, length, chars, if◌then◌else◌}
use Rattle.std.specs.Prelude.{Option, Some, None, Result, Ok, Err, slice_get}
use Rattle.std.specs.Option.{option_map}
use Rattle.std.specs.Str.{is_utf8}
use Rattle.idn_class.specs.declared.properties.Properties.{Properties}
use Rattle.idna.specs.Validity.{has_ace_prefix}
use Rattle.idn_text.specs.declared.refusal.Refusal.{Refusal}
use Rattle.idn_text.specs.declared.refusal.Refusal.TheVariants.{LineTooLong, NotUtf8, Empty, NotInTable, NotValid}
use Rattle.idn_label.specs.FirstFault.{first_fault}
use Rattle.idn_label.specs.Answers.{Answer, unless_fault}
use Rattle.idn_label.specs.Steps.{in_utf8}
use Rattle.idn_label.specs.Register.{register_answer, u_label_answer}
use Rattle.idn_label.specs.Decode.{decode_answer}
use Rattle.idn_label.specs.Lookup.{lookup_answer}
use Rattle.idn_label.specs.OldNames.{ZoneAnswer, zone_answer, zone_in_utf8}
use Rattle.idn_label.specs.declared.old_names.Standing.{Standing}
use Rattle.idn_label.specs.declared.old_names.Standing.TheVariants.{Registrable, Old}
use Rattle.variant_table.specs.Entries.{TableValue}
use Rattle.variant_table.specs.Segmentations.{IsMadeOfSources}
use Rattle.valid_labels.specs.Validity.{IsAdmitted}
use Rattle.valid_labels.specs.Tests.{is_admitted, is_made_of_sources}
use Rattle.variant_list.specs.Closure.{AreNear, near}
use Rattle.variant_list.specs.Jumps.{IsCandidate, IsLeastFrom, HasNoneFrom, candidates_among_from}
use Rattle.idn2_options.specs.Settings.{Settings}
use Rattle.idn2_options.specs.declared.command_line.mode.Mode.{Mode}
use Rattle.idn2_options.specs.declared.command_line.mode.Mode.TheVariants.{Lookup, Register, Decode, DecodeOld}
use Rattle.idn2_options.specs.declared.command_line.mode.Mode.TheVariants.{Variants, Jump, CheckTable, PrintTable}
use Rattle.answer_json.specs.declared.collision.Regards.{Regards}
use Rattle.idn2_refusals.specs.Requests.{requested_label, requested_text}
use Rattle.idn2_answers.specs.Said as said
use Rattle.idn2_answers.specs.Said.{Said, LookedUp, Registered, Decoded, Least}
use Rattle.idn2_answers.specs.Listings.{IsBlock, block, is_registrable}
use Rattle.idn2_answers.specs.Collisions.{IsCollisionBlock, IsRegard, collision_block, regards_of}

-- what is said in answer to a line, or why nothing is
abbrev pub LineAnswer : Type 0
LineAnswer = Result (List Said) Refusal

-- an answer of one text
abbrev pub one_answer : (List ℕ → Said) → Result (List ℕ) Refusal → LineAnswer
one_answer said (Ok text) = Ok (said text ∷ [])
one_answer said (Err refusal) = Err refusal

-- what a label of a zone stands for, by how that stands
abbrev pub zone_said : Standing → List ℕ → Said
zone_said Registrable label = Decoded label
zone_said Old label = said.Old label

-- an answer of such a label
abbrev pub zone_line : ZoneAnswer → LineAnswer
zone_line (Ok found) = Ok (zone_said found.1 found.0 ∷ [])
zone_line (Err refusal) = Err refusal

-- a label, or the one given where there is none
abbrev pub label_or : Answer → List ℕ → List ℕ
label_or (Ok label) given = label
label_or (Err refusal) given = given

-- what a label that is registered stands for: itself, or what it is decoded to if it begins with "xn--" (RFC 5890,
-- section 2.3.2.1)
abbrev pub u_label_of : Properties → List ℕ → List ℕ
u_label_of properties label = if has_ace_prefix label then label_or (u_label_answer properties label) label else label

-- this for a label that the table admits. Any other is refused: it isn't made of sources of the table, or it is, and
-- isn't valid
abbrev pub if_admitted : TableValue → List ℕ → List Said → LineAnswer
if_admitted table label said =
    if is_admitted table label then Ok said
    else (if is_made_of_sources table label then Err NotValid else Err NotInTable)

-- the block of a label: of its variants; or, where there are registered labels, of those that collide with it
abbrev pub block_among : Option (List (List ℕ)) → Settings → TableValue → List ℕ → List Said
block_among None o table label = block o table label
block_among (Some registered) o table label = collision_block o table registered label

-- that of a label that the table admits
abbrev pub listing_answer : Settings → TableValue → List ℕ → LineAnswer
listing_answer o table label = if_admitted table label (block_among o.registered o table label)

-- the same, where the label may be registered; its first fault is reported before that
abbrev pub variants_answer : Settings → TableValue → List ℕ → LineAnswer
variants_answer o table label = unless_fault (first_fault o.properties label) (listing_answer o table label)

-- the least label from a text on that is near a label, with what each of the two is to the other
abbrev pub least_near : Properties → TableValue → List ℕ → List ℕ → Option (List ℕ × Regards)
least_near properties table label text =
    option_map (λ v. (v, regards_of (is_registrable properties) table label v))
    (slice_get (candidates_among_from (near table label) text) 0)

-- that of a label that the table admits
abbrev pub least_answer : Properties → TableValue → List ℕ → List ℕ → LineAnswer
least_answer properties table label text = if_admitted table label (Least (least_near properties table label text) ∷ [])

-- the same of a request, whose label may be registered; its first fault is reported before that
abbrev pub jump_answer : Properties → TableValue → List ℕ → LineAnswer
jump_answer properties table line =
    unless_fault (first_fault properties (requested_label line))
    (least_answer properties table (requested_label line) (requested_text line))

-- the answer of a mode to the code points of a line. The check of a table and its printing read
-- no line
abbrev pub mode_answer : Mode → Settings → TableValue → List ℕ → LineAnswer
mode_answer Lookup o table name = one_answer LookedUp (lookup_answer name o.std3)
mode_answer Register o table label =
    one_answer (Registered (u_label_of o.properties label)) (register_answer o.properties label)
mode_answer Decode o table name = one_answer Decoded (in_utf8 (decode_answer o.properties name))
mode_answer DecodeOld o table label = zone_line (zone_in_utf8 (zone_answer o.properties label))
mode_answer Variants o table label = variants_answer o table label
mode_answer Jump o table line = jump_answer o.properties table line
mode_answer CheckTable o table label = Ok []
mode_answer PrintTable o table label = Ok []

-- the answer to the bytes of a line, of a mode that answers code points: they are UTF-8, and not empty
abbrev pub text_answer : (List ℕ → LineAnswer) → List ℕ → LineAnswer
text_answer answer bytes =
    if is_utf8 bytes then (if length bytes == 0 then Err Empty else answer (chars bytes)) else Err NotUtf8

-- the answer to the body of a line, which may be too long
abbrev pub line_answer : (List ℕ → LineAnswer) → Option (List ℕ) → LineAnswer
line_answer answer None = Err LineTooLong
line_answer answer (Some bytes) = text_answer answer bytes

-- ---- the same, by what it has to be

-- a label is refused that isn't made of sources of the table; and so is another one that the table doesn't admit
abbrev pub IsRefusedAs : TableValue → List ℕ → Refusal → Type 0
IsRefusedAs table label refusal =
    ((¬ IsMadeOfSources table label) × (refusal ≡ NotInTable))
    ⊎ (IsMadeOfSources table label × (¬ IsAdmitted table label) × (refusal ≡ NotValid))

-- the block of a label
abbrev pub IsBlockAmong : Option (List (List ℕ)) → Settings → TableValue → List ℕ → List Said → Type 0
IsBlockAmong None o table label said = IsBlock o table label said
IsBlockAmong (Some registered) o table label said = IsCollisionBlock o table registered label said

-- a label that the table admits is answered by its block, and any other is refused
abbrev pub IsListing : Settings → TableValue → List ℕ → LineAnswer → Type 0
IsListing o table label (Ok said) = IsAdmitted table label × IsBlockAmong o.registered o table label said
IsListing o table label (Err refusal) = IsRefusedAs table label refusal

-- of the labels of at most 63 code points that are near the label it is the least that is no less than the text, with
-- what it is to the label and the label to it; or there is none
abbrev pub IsJump : Settings → TableValue → List ℕ → List ℕ → Option (List ℕ × Regards) → Type 0
IsJump o table label text None = HasNoneFrom (IsCandidate (AreNear table label)) text
IsJump o table label text (Some found) =
    IsLeastFrom (IsCandidate (AreNear table label)) text found.0
    × IsRegard o table label found.0 found.1.there × IsRegard o table found.0 label found.1.back

-- a request whose label the table admits is answered by that label, and any other is refused
abbrev pub IsJumpAnswer : Settings → TableValue → List ℕ → LineAnswer → Type 0
IsJumpAnswer o table request (Ok said) =
    IsAdmitted table (requested_label request)
    × ((found : Option (List ℕ × Regards)) × (said ≡ Least found ∷ [])
    × IsJump o table (requested_label request) (requested_text request) found)
IsJumpAnswer o table request (Err refusal) = IsRefusedAs table (requested_label request) refusal
