-- Objects that are ready to be written.
use Rattle.std.specs.Prelude.{◌≤◌, length, ⊤, Some, None}
use Rattle.std.specs.Option.{option_copied}
use Rattle.answer_json.specs.Answers.{Answer}
use Rattle.answer_json.specs.Details.{HasShortTexts, details_of, given_len}
use Rattle.answer_json.specs.Inputs.{told, told_len}
use Rattle.answer_json.specs.Objects.{looked_up, registered, decoded, variant, trailer, least, collision, refused, pair}
use Rattle.answer_json.specs.Objects.{idle, checked, table_fault, registered_fault, old_label}
use Rattle.idn2_output.specs.declared.object.Object.{Object}
use Rattle.idn2_output.specs.declared.object.Object.TheVariants as object

-- what the object says
abbrev pub object_told : Object → Answer
object_told (object.LookedUp line input ascii) = looked_up line (told input) ascii.now
object_told (object.Registered line input u_label a_label) = registered line (told input) u_label.now a_label.now
object_told (object.Decoded line input unicode) = decoded line (told input) unicode.now
object_told (object.OldLabel line input unicode) = old_label line (told input) unicode.now
object_told (object.Least line input label regards) = least line (told input) (Some (label.now, regards))
object_told (object.NoLeast line input) = least line (told input) None
object_told (object.Variant line u_label a_label disposition) = variant line u_label.now a_label.now disposition
object_told (object.Collision line u_label a_label regards) = collision line u_label.now a_label.now regards
object_told (object.BlockEnd line input count stop) = trailer line (told input) count (option_copied stop)
object_told (object.Refused line input refusal members) = refused line (told input) refusal (details_of members.now)
object_told (object.Pair finding source other) = pair finding source.now other.now
object_told (object.Idle name) = idle name.now
object_told (object.Checked entries gaps) = checked entries gaps
object_told (object.TableFault line refusal members) = table_fault line refusal (details_of members.now)
object_told (object.RegisteredFault line refusal members) = registered_fault line refusal (details_of members.now)

-- there is space for its texts
abbrev pub HasSpace : Object → Type 0
HasSpace (object.LookedUp line input ascii) = (told_len input ≤ 1024) × (length ascii.now ≤ 254)
HasSpace (object.Registered line input u_label a_label) =
    (told_len input ≤ 1024) × (length u_label.now ≤ 252) × (length a_label.now ≤ 63)
HasSpace (object.Decoded line input unicode) = (told_len input ≤ 1024) × (length unicode.now ≤ 4096)
HasSpace (object.OldLabel line input unicode) = (told_len input ≤ 1024) × (length unicode.now ≤ 252)
HasSpace (object.Least line input label regards) = (told_len input ≤ 1024) × (length label.now ≤ 252)
HasSpace (object.NoLeast line input) = told_len input ≤ 1024
HasSpace (object.Variant line u_label a_label disposition) = (length u_label.now ≤ 252) × (length a_label.now ≤ 63)
HasSpace (object.Collision line u_label a_label regards) = (length u_label.now ≤ 252) × (length a_label.now ≤ 63)
HasSpace (object.BlockEnd line input count stop) = (told_len input ≤ 1024) × (given_len (option_copied stop) ≤ 252)
HasSpace (object.Refused line input refusal members) = (told_len input ≤ 1024) × HasShortTexts (details_of members.now)
HasSpace (object.Pair finding source other) = (length source.now ≤ 64) × (length other.now ≤ 64)
HasSpace (object.Idle name) = length name.now ≤ 32
HasSpace (object.TableFault line refusal members) = HasShortTexts (details_of members.now)
HasSpace (object.RegisteredFault line refusal members) = HasShortTexts (details_of members.now)
HasSpace _ = ⊤
