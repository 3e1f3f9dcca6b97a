-- Why a text gives no table, and how that is told.
use Rattle.std.specs.Prelude.{◌≡◌, ◌⊎◌, ℕ, Bool, true, false, List, Option, Result, Err, IfOk}
use Rattle.idn_class.specs.declared.properties.Properties.{Properties}
use Rattle.idn_text.specs.declared.refusal.Refusal.{Refusal}
use Rattle.lgr_table.specs.Texts as lgr
use Rattle.variant_table.specs.FaultyLines.{IsRefusalOf}
use Rattle.variant_table.specs.Texts.{IsToldOf}
use Rattle.variant_table.specs.declared.version.Notation.{Notation}
use Rattle.idn2_answers.specs.Transcript.{HasFault, check_output, is_in_xml}
use Rattle.idn2_options.specs.declared.command_line.form.Form.{Form}
use Rattle.idn2_output.specs.Writing.{Emits, Held}
use Rattle.idn2_output.specs.declared.status.Status.{Status}
use Rattle.idn2_output.specs.declared.status.Status.TheVariants.{Unusable}
use Rattle.idn2_output.specs.declared.stop.Stop.{Stop}
use Rattle.idn2_output.specs.declared.stop.Stop.TheVariants as stop
use Rattle.idn2_refusals.specs.declared.cause.LineCause.{LineCause}
use Rattle.idn2_cli.specs.declared.session.table.Unread.{Unread}
use Rattle.idn2_cli.specs.declared.session.table.Unread.TheVariants.{Lines, Ruleset}

-- it has this fault, or memory was refused
abbrev pub IsUnreadAs : Properties → Notation → List ℕ → Unread → Type 0
IsUnreadAs properties notation text (Lines refusal) =
    (is_in_xml notation text ≡ false) × IsToldOf properties notation text refusal.fault
    × IsRefusalOf properties notation text refusal
IsUnreadAs properties notation text (Ruleset error) = (is_in_xml notation text ≡ true) × lgr.IsToldOf properties text error

-- memory was refused, and nothing is told; or a fault that the text has is told, and the table can't be used
abbrev pub TellsFault : Form → Bool → Properties → Notation → (text : List ℕ) → (old new : Held)
    → Result Status Stop → Type 0
TellsFault form wanted properties notation text old new result =
    ((result ≡ Err stop.Memory) × (new ≡ old))
    ⊎ ((told : ℕ × Refusal × Option LineCause) × HasFault properties notation text told
    × Emits old new (check_output form wanted (Err told)) result
    × IfOk result (λ status. status ≡ Unusable))
