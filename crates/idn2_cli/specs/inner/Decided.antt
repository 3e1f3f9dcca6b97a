-- What decides what two labels are to each other.
use Rattle.std.specs.Prelude.{◌≡◌, ◌≤◌, ℕ, true, List, length, Option, Some, None, IsSome, if◌then◌else◌}
use Rattle.idn_class.specs.declared.properties.Properties.{Properties}
use Rattle.idn_label.specs.FirstFault.{IsRegistrable}
use Rattle.variant_table.specs.Entries.{TableValue}
use Rattle.valid_labels.specs.Validity.{IsAdmitted, IsSound}
use Rattle.valid_labels.specs.Testing.{IsAdmission, Testing}
use Rattle.valid_labels.specs.declared.validity.Admission.TheVariants.{Admitted}
use Rattle.variant_list.specs.Spelled.{spelled}
use Rattle.variant_list.specs.Substitutions.{substitutions_of}
use Rattle.idn2_cli.specs.declared.modes.decided.Decisions.{Decisions}
use Rattle.idn2_cli.specs.declared.modes.decided.Standing.{Standing}
use Rattle.idn2_cli.specs.declared.modes.decided.Standing.TheVariants.{Good, VariantAlone, Refused}
use Rattle.idn2_cli.specs.declared.modes.listed.Listed.{Listed}
use Rattle.answer_json.specs.declared.collision.Regard.{Regard}
use Rattle.idn2_answers.specs.Collisions.{regard_by}
use Rattle.idn2_answers.specs.Listings.{is_among}
use Rattle.idn2_cli.specs.declared.modes.dispositions.Appearance.{Appearance}
use Rattle.idn2_cli.specs.declared.modes.dispositions.Appearance.TheVariants.{LeftOut}
use Rattle.idn2_cli.specs.declared.modes.dispositions.Appearance.TheVariants as appearances
use Rattle.idn2_cli.specs.inner.Dispositions.{AreOfTable, appearance}
use Rattle.idn2_cli.specs.inner.Ruling.{Sees, passes, ruling_in, ruling_of}

-- what a label is that appears so, if it is listed
abbrev pub regard_of : Appearance → Option Regard
regard_of LeftOut = None
regard_of (appearances.Listed field) = Some (regard_by field)

-- what w is to v, if v spells it and its listing doesn't leave it out
abbrev pub listed_regard : TableValue → (v w : List ℕ) → Option Regard
listed_regard table v w = if is_among (spelled table v) w then regard_of (appearance table v w) else None

-- it tells what the label spells under the table, and how that appears in its listing
pub record IsListingOf (table : TableValue) (label : List ℕ) (listed : Listed) : Type 0 where
  pub readings : listed.readings ≡ substitutions_of table label
  pub of_table : AreOfTable table listed.of_table.now

-- once another label is decided, that is made, and a test of the table
abbrev pub TellsOthers : TableValue → List ℕ → Option Listed → Option Testing → Type 0
TellsOthers table label None others = Unit {0}
TellsOthers table label (Some listed) others = IsListingOf table label listed × (ruling_in others ≡ ruling_of table)

-- its parts are of its table and its label, and its first test has seen the label
pub record Decides (d : Decisions) : Type 0 where
  pub sound : IsSound d.table.now
  pub of_table : AreOfTable d.table.now d.of_table.now
  pub ruling : d.ruling.now ≡ ruling_of d.table.now
  pub some : 1 ≤ length d.label.now
  pub short : length d.label.now ≤ 63
  pub own : IsAdmission d.table.now d.label.now (Admitted d.own)
  pub asked : ruling_in d.asked ≡ ruling_of d.table.now
  pub sees : Sees d.label.now d.asked
  pub others : TellsOthers d.table.now d.label.now d.listed d.others

-- what tells of other labels is made
abbrev pub IsMade : Decisions → Type 0
IsMade d = IsSome d.listed

-- and these are they
pub record IsOfPair (table : TableValue) (label : List ℕ) (d : Decisions) : Type 0 where
  pub table_is : d.table.now ≡ table
  pub label_is : d.label.now ≡ label

-- it may be registered, and a listing accepts it where the label spells it
abbrev pub MayBeListed : Properties → TableValue → List ℕ → Type 0
MayBeListed properties table v = IsRegistrable properties v × (passes (ruling_of table) v ≡ true)

-- what today's rules say of a label
abbrev pub IsStanding : Properties → TableValue → List ℕ → Standing → Type 0
IsStanding properties table v Good = IsRegistrable properties v × IsAdmitted table v
IsStanding properties table v VariantAlone = MayBeListed properties table v × ¬ IsAdmitted table v
IsStanding properties table v Refused =
    (¬ (IsRegistrable properties v × IsAdmitted table v)) × ¬ MayBeListed properties table v
