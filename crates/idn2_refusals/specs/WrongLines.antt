-- The cause that is told of a wrong line of the registered labels, where causes are wanted. Places are counted from 0.
use Rattle.std.specs.Prelude.{◌≢◌, ℕ, ◌-◌, Bool, List, [], chars, Option, Some, None, option_map, slice_get}
use Rattle.std.specs.Prelude.{if◌then◌else◌}
use Rattle.std.specs.Str.{is_utf8}
use Rattle.idn_class.specs.declared.properties.Properties.{Properties}
use Rattle.idn_text.specs.Lines.{raw_lines, body_of}
use Rattle.idn_text.specs.declared.refusal.Refusal.{Refusal}
use Rattle.idn_text.specs.declared.refusal.Refusal.TheVariants.{OutOfOrder, FileTooLong}
use Rattle.idn_label.specs.OldNames.{before_mark, has_mark}
use Rattle.idn_cause.specs.Causes.{shared}
use Rattle.idn_cause.specs.declared.cause.Cause.TheVariants.{Point}
use Rattle.idn2_refusals.specs.Explained.{ByRegisteredLine, body_cause}
use Rattle.idn2_refusals.specs.declared.cause.LineCause.{LineCause}
use Rattle.idn2_refusals.specs.declared.cause.LineCause.TheVariants.{OfLabel, Ends}

-- what is tested of the body of a line: what stands before the mark of an old label, if the body ends in it
abbrev pub without_mark : List ℕ → List ℕ
without_mark body = if has_mark body then before_mark body else body

-- that of a line, if there is one
abbrev pub body_if_any : Option (List ℕ) → Option (List ℕ)
body_if_any None = None
body_if_any (Some line) = option_map without_mark (body_of line)

-- that of the line of this number of a text, from 1
abbrev pub body_at : List ℕ → ℕ → Option (List ℕ)
body_at text number = body_if_any (slice_get (raw_lines text) (number - 1))

-- the code points of such a body; none of one that is no UTF-8
abbrev pub points_in : Option (List ℕ) → List ℕ
points_in None = []
points_in (Some bytes) = if is_utf8 bytes then chars bytes else []

abbrev pub points_at : List ℕ → ℕ → List ℕ
points_at text number = points_in (body_at text number)

-- a label that is not greater than the one before it differs from it at a place, or ends there
abbrev pub differs_at : ℕ → Option ℕ → LineCause
differs_at place None = Ends place
differs_at place (Some c) = OfLabel (Point place c)

-- the first place at which the label does so
abbrev pub order_cause : List ℕ → List ℕ → LineCause
order_cause before label = differs_at (shared label before) (slice_get label (shared label before))

-- a line is a label that is tested, and has the cause of its fault; of the order the cause is where it differs from the
-- line before; and of a file that is too long there is none
abbrev pub wrong_line_cause : Properties → List ℕ → ℕ → Refusal → Option LineCause
wrong_line_cause properties text number OutOfOrder =
    Some (order_cause (points_at text (number - 1)) (points_at text number))
wrong_line_cause properties text number FileTooLong = None
wrong_line_cause properties text number refusal = body_cause (ByRegisteredLine properties) (body_at text number) refusal

-- the cause may take memory: not that of the order of two labels, nor that of a file or a line that is too long
abbrev pub MayTakeMemory : List ℕ → ℕ → Refusal → Type 0
MayTakeMemory text number OutOfOrder = ⊥
MayTakeMemory text number FileTooLong = ⊥
MayTakeMemory text number refusal = body_at text number ≢ None

-- the cause of a wrong line, if causes are wanted
abbrev pub told_of_wrong_line : Properties → Bool → List ℕ → ℕ → Refusal → Option LineCause
told_of_wrong_line properties wanted text number refusal =
    if wanted then wrong_line_cause properties text number refusal else None
