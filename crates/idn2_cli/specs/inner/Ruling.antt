-- The table that labels are tested by: none, where the table asks nothing of its labels.
use Rattle.std.specs.Prelude.{◌≡◌, ◌&&◌, ℕ, nat_le, Bool, true, false, List, length, take, Option, Some, None}
use Rattle.std.specs.Prelude.{if◌then◌else◌}
use Rattle.std.specs.Option.{option_map}
use Rattle.idn_class.specs.declared.properties.Properties.{Properties}
use Rattle.variant_table.specs.Entries.{TableValue}
use Rattle.valid_labels.specs.Actions.{matches_rule}
use Rattle.idn_text.specs.declared.refusal.Refusal.{Refusal}
use Rattle.valid_labels.specs.Testing.{IsAdmission, SharesCached, Testing}
use Rattle.valid_labels.specs.declared.validity.Admission.TheVariants.{Admitted}
use Rattle.variant_dispositions.specs.declared.disposition.Disposition.{Disposition}
use Rattle.variant_dispositions.specs.declared.disposition.Disposition.TheVariants as outcomes
use Rattle.valid_labels.specs.Validity.{IsSound}
use Rattle.valid_labels.specs.Tests.{asks_nothing, is_dead_under, is_valid}
use Rattle.valid_labels.specs.declared.validity.Validity.{Validity}
use Rattle.valid_labels.specs.declared.validity.Validity.TheVariants.{DeadPrefix, Valid, NotValid}
use Rattle.variant_list.specs.Beginnings.{has_no_dead_prefix, shortest_hopeless}
use Rattle.idn2_answers.specs.Answers.{IsRefusedAs}
use Rattle.idn2_answers.specs.Listings.{Filter, registrable_labels, ruled_labels, without_left_out}
use Rattle.idn2_cli.specs.inner.Dispositions.{Listing}

abbrev pub ruling_of : TableValue → Option TableValue
ruling_of table = if asks_nothing table then None else Some table

-- the table of a test, if there is one
abbrev pub ruling_in : Option Testing → Option TableValue
ruling_in test = option_map (λ t. t.table) test

-- its table is sound, and what it keeps of the label before is of one that begins with the same code points
abbrev pub KeepsShared : Option Testing → ℕ → List ℕ → Type 0
KeepsShared None shared label = Unit {0}
KeepsShared (Some test) shared label = IsSound test.table × SharesCached shared test.cached label

-- its table is sound, and what it keeps is of this label
abbrev pub KeepsOf : List ℕ → Option Testing → Type 0
KeepsOf label None = Unit {0}
KeepsOf label (Some test) = IsSound test.table × (take (length test.cached) label ≡ test.cached)

-- what it keeps is of this whole label
abbrev pub Sees : List ℕ → Option Testing → Type 0
Sees label None = Unit {0}
Sees label (Some test) = test.cached ≡ label

-- the rules that the label matches which it keeps
abbrev pub matched_in : Option Testing → ℕ → Bool
matched_in None = λ rule. false
matched_in (Some test) = matches_rule test.table test.cached

-- what is then asked of labels
abbrev pub filter_by : Properties → Option TableValue → Filter
filter_by properties None = registrable_labels properties
filter_by properties (Some table) = ruled_labels properties table

-- the same by a test, if there is one
abbrev pub filter_in : Properties → Option Testing → Filter
filter_in properties test = filter_by properties (ruling_in test)

-- and that they aren't left out of a listing
abbrev pub filter_for : Properties → Option Testing → Listing → Filter
filter_for properties test of = without_left_out of.table of.label (filter_in properties test)

-- a label that may be registered is accepted so
abbrev pub passes : Option TableValue → List ℕ → Bool
passes None v = true
passes (Some table) v = is_valid table v && has_no_dead_prefix (is_dead_under table) v

-- ---- what is found of a label

-- its own disposition, by the table that admits it; without one it is valid
abbrev pub IsOwnBy : Option TableValue → List ℕ → Disposition → Type 0
IsOwnBy None label d = d ≡ outcomes.Valid
IsOwnBy (Some table) label d = IsAdmission table label (Admitted d)

abbrev pub IsRefusedBy : Option TableValue → List ℕ → Refusal → Type 0
IsRefusedBy None label refusal = ⊥
IsRefusedBy (Some table) label refusal = IsRefusedAs table label refusal

-- how many code points its shortest dead prefix has, if it has one
abbrev pub dead_prefix_in : Validity → Option ℕ
dead_prefix_in (DeadPrefix count) = Some count
dead_prefix_in Valid = None
dead_prefix_in NotValid = None

abbrev pub is_found_valid : Validity → Type 0 → Type 0 → Type 0
is_found_valid (DeadPrefix count) valid not_valid = Unit {0}
is_found_valid Valid valid not_valid = valid
is_found_valid NotValid valid not_valid = not_valid

-- it is found by a table, or there is none, and each label is taken for valid
abbrev pub IsValidityBy : Option TableValue → List ℕ → Validity → Type 0
IsValidityBy None label validity = validity ≡ Valid
IsValidityBy (Some table) label validity =
    (shortest_hopeless (is_dead_under table) label ≡ dead_prefix_in validity)
    × is_found_valid validity (is_valid table label ≡ true) (is_valid table label ≡ false)

-- the lesser of two numbers, as far as they are there
abbrev pub lesser_count : Option ℕ → Option ℕ → Option ℕ
lesser_count None b = b
lesser_count (Some a) None = Some a
lesser_count (Some a) (Some b) = if nat_le a b then Some a else Some b
