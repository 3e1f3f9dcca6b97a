-- The block of a line that is being answered, and what judges its variants.
use Rattle.std.specs.Prelude.{ℕ, List, Option, None, Some, ◌≡◌, true, false}
use Rattle.idn_class.specs.Known.{AreKnown}
use Rattle.idn_punycode.specs.Cached.{IsTakenApart}
use Rattle.idn_label.specs.ALabel.{a_label_of}
use Rattle.idn2_options.specs.Settings.{Settings}
use Rattle.valid_labels.specs.Testing.{Testing}
use Rattle.valid_labels.specs.Validity.{IsSound}
use Rattle.answer_json.specs.declared.block.Disposition.{Disposition}
use Rattle.answer_json.specs.declared.block.Disposition.TheVariants.{Allocatable, Blocked, Unclear}
use Rattle.variant_list.specs.declared.verdict.Verdict.{Verdict}
use Rattle.variant_list.specs.declared.verdict.Verdict.TheVariants.{DeadPrefix, Accepted, NotAccepted}
use Rattle.idn2_answers.specs.Dispositions.{disposition, is_left_out}
use Rattle.idn2_answers.specs.Listings.{Filter, field_of}
use Rattle.idn2_output.specs.OutputLines.{OutputLine}
use Rattle.idn2_cli.specs.declared.modes.asked.Asked.{Asked}
use Rattle.idn2_cli.specs.declared.modes.variant_judge.VariantJudge.{VariantJudge}
use Rattle.idn2_cli.specs.inner.Asked.{lines_to}
use Rattle.idn2_cli.specs.inner.CachedLines.{IsBegun}
use Rattle.idn2_cli.specs.inner.Dispositions.{Listing, block_by}
use Rattle.idn2_cli.specs.inner.Ruling.{KeepsOf, filter_for, ruling_in, ruling_of}

-- the disposition of a label in a listing
abbrev pub disposition_by : Listing → List ℕ → Option Disposition
disposition_by of v = disposition of.table of.label v

-- the block of the label of a listing, which spells these, as it is written in reply to a line; labels are judged by a
-- test, too, if there is one
abbrev pub field_in : Settings → Listing → List ℕ → Option Disposition
field_in o of v = field_of o of.table of.label v

abbrev pub block_output : Asked → Option Testing → Listing → Settings → List (List ℕ) → List OutputLine
block_output asked test of o labels =
    lines_to asked (block_by (filter_for o.properties test of) (field_in o of) o labels)

-- ---- the judge of a block's variants

-- what it asks of labels
abbrev pub filter_of_judge : VariantJudge → Filter
filter_of_judge judge = filter_for judge.properties judge.validity judge.dispositions

-- the A-label that it found is that of this label
abbrev pub TellsALabel : VariantJudge → List ℕ → Type 0
TellsALabel judge label = judge.test.text ≡ a_label_of label

-- the class in which it puts a label: that of its disposition in the listing
abbrev pub class_of : Option Disposition → ℕ
class_of None = 0
class_of (Some Allocatable) = 1
class_of (Some Blocked) = 2
class_of (Some Unclear) = 3

abbrev pub class_by : Listing → List ℕ → ℕ
class_by of v = class_of (disposition_by of v)

-- and the disposition that it found is that of this label in the listing
abbrev pub Tells : VariantJudge → List ℕ → Type 0
Tells judge label =
    TellsALabel judge label × (judge.told ≡ disposition judge.dispositions.table judge.dispositions.label label)

-- the verdict on a label by a listing, which leaves it out or has it with this disposition
abbrev pub IsListedOrNot : Listing → List ℕ → Option Disposition → Verdict → Type 0
IsListedOrNot of label told (DeadPrefix count) = ⊥
IsListedOrNot of label told NotAccepted = is_left_out of.table of.label label ≡ true
IsListedOrNot of label told Accepted =
    (is_left_out of.table of.label label ≡ false) × (told ≡ disposition of.table of.label label)

-- all that it keeps from one label to the next is of this label, and its test is by the table of the listing
abbrev pub KnowsLabel : VariantJudge → List ℕ → Type 0
KnowsLabel judge label =
    AreKnown judge.properties label judge.beginnings × IsTakenApart label judge.test
    × IsBegun label judge.line × KeepsOf label judge.validity
    × (ruling_in judge.validity ≡ ruling_of judge.dispositions.table) × IsSound judge.dispositions.table
