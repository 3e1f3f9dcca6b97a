-- The block of a label's variants: a line for each, with its disposition, and a trailer that says where the listing
-- ends.
use Rattle.std.specs.Prelude.{◌≡◌, ℕ, ◌≤◌, ◌-◌, ◌&&◌, ◌||◌, not, Bool, bytes_eq, if◌then◌else◌}
use Rattle.std.specs.Prelude.{List, [], ◌∷◌, ◌++◌, length, map, filter, Contains, Option, Some, None}
use Rattle.std.specs.List.{list_any, slice_get}
use Rattle.std.specs.Option.{is_none}
use Rattle.std.specs.Ordering.{is_le}
use Rattle.idn_class.specs.declared.properties.Properties.{Properties}
use Rattle.idn_class.specs.DeadPrefixes.{hopeless, HasNoDeadPrefix}
use Rattle.idn_label.specs.FirstFault.{first_fault, IsRegistrable}
use Rattle.variant_table.specs.Entries.{TableValue}
use Rattle.valid_labels.specs.Validity.{HasNoDeadPrefixUnder, IsValid}
use Rattle.valid_labels.specs.Tests.{asks_nothing, is_dead_under, is_valid}
use Rattle.variant_list.specs.Beginnings.{has_no_dead_prefix}
use Rattle.variant_list.specs.Labels.{label_cmp, IsBelow, IsListOf}
use Rattle.variant_list.specs.Spelled.{spelled}
use Rattle.variant_list.specs.Spelling.{Spells}
use Rattle.variant_list.specs.Tested.{tested_among}
use Rattle.variant_list.specs.Variants.{candidates_among, variants_among}
use Rattle.variant_list.specs.Visited.{visited}
use Rattle.idn2_options.specs.Settings.{Settings, tells_causes}
use Rattle.answer_json.specs.declared.block.Disposition.{Disposition}
use Rattle.idn2_answers.specs.Dispositions.{disposition, is_left_out, shown, IsDisposition, IsLeftOut}
use Rattle.idn2_answers.specs.Said.{Said, Listed, BlockEnd}

-- a label that may be registered has no fault (RFC 5891, section 4.2)
abbrev pub is_registrable : Properties → List ℕ → Bool
is_registrable properties label = is_none (first_fault properties label)

-- what a listing asks of labels: which it accepts, and which prefixes are dead, so that no label that it accepts begins
-- with one
pub record Filter : Type 0 where
  pub accepts : List ℕ → Bool
  pub hopeless : List ℕ → Bool

-- that they may be registered
abbrev pub registrable_labels : Properties → Filter
registrable_labels properties = record { accepts = is_registrable properties; hopeless = hopeless properties }

-- that they are valid under the table, too, and no beginning of them is dead: none of a valid label is
abbrev pub ruled_labels : Properties → TableValue → Filter
ruled_labels properties table =
    record {
      accepts = λ v. is_registrable properties v && (is_valid table v && has_no_dead_prefix (is_dead_under table) v);
      hopeless = λ w. hopeless properties w || is_dead_under table w;
    }

-- what is asked under a table, by whether it asks nothing of its labels: then each label that is spelled is valid
abbrev pub filter_if : Properties → Bool → TableValue → Filter
filter_if properties asks_nothing table =
    if asks_nothing then registrable_labels properties else ruled_labels properties table

-- and that they aren't left out of the listing of this label
abbrev pub without_left_out : TableValue → List ℕ → Filter → Filter
without_left_out table label filter = record {
  accepts = λ v. filter.accepts v && not (is_left_out table label v);
  hopeless = filter.hopeless;
}

abbrev pub filter_of : Properties → TableValue → List ℕ → Filter
filter_of properties table label = without_left_out table label (filter_if properties (asks_nothing table) table)

-- whether a label is one of these
abbrev pub is_among : List (List ℕ) → List ℕ → Bool
is_among labels v = list_any (bytes_eq v) labels

-- of the labels that a label spells those that the filter accepts, after the text of the settings
abbrev pub variants_after : Filter → Settings → List (List ℕ) → List (List ℕ)
variants_after filter o labels = variants_among filter.accepts labels o.after

-- the n-th of the labels, counted from 1, if there is one
abbrev pub nth : List (List ℕ) → ℕ → Option (List ℕ)
nth labels n = slice_get labels (n - 1)

-- the same, if a number is given
abbrev pub nth_if_given : List (List ℕ) → Option ℕ → Option (List ℕ)
nth_if_given labels None = None
nth_if_given labels (Some n) = nth labels n

-- the lesser of two labels, as far as they exist
abbrev pub lesser_label : Option (List ℕ) → Option (List ℕ) → Option (List ℕ)
lesser_label None b = b
lesser_label (Some a) None = Some a
lesser_label (Some a) (Some b) = if is_le (label_cmp a b) then Some a else Some b

-- those of at most 63 code points, after the text of the settings, without a dead prefix
abbrev pub tested_after : Filter → Settings → List (List ℕ) → List (List ℕ)
tested_after filter o labels = tested_among filter.hopeless labels o.after

-- the labels that the steps of a listing come to: of the same labels, with a dead prefix or without, those that are
-- tested, and the first of those that share a dead prefix
abbrev pub visited_in : Filter → Settings → List (List ℕ) → List (List ℕ)
visited_in filter o labels = visited filter.hopeless None (candidates_among labels o.after)

-- the stop of a listing: the limit-th variant, the tries-th tested label or the label of the last step, the least of
-- those that exist
abbrev pub stop_of : Filter → Settings → List (List ℕ) → Option (List ℕ)
stop_of filter o labels =
    lesser_label (nth_if_given (variants_after filter o labels) o.limit)
    (lesser_label (nth (tested_after filter o labels) o.tries) (nth_if_given (visited_in filter o labels) o.steps))

-- the labels that are not greater than the stop; all of them, if there is no stop
abbrev pub up_to : Option (List ℕ) → List (List ℕ) → List (List ℕ)
up_to None labels = labels
up_to (Some b) labels = filter (λ v. is_le (label_cmp v b)) labels

-- what is said of each of these labels up to the stop, and then the end
abbrev pub block_to : (List ℕ → Said) → Option (List ℕ) → List (List ℕ) → List Said
block_to line stop labels = map line (up_to stop labels) ++ BlockEnd (length (up_to stop labels)) stop ∷ []

-- a variant, with the disposition that it has
abbrev pub variant_by : (List ℕ → Option Disposition) → List ℕ → Said
variant_by field v = Listed (field v) v

-- what is said of the disposition of each variant of a label
abbrev pub field_of : Settings → TableValue → List ℕ → List ℕ → Option Disposition
field_of o table label v = shown (tells_causes o) (disposition table label v)

-- the block of a label
abbrev pub block : Settings → TableValue → List ℕ → List Said
block o table label =
    block_to (variant_by (field_of o table label))
    (stop_of (filter_of o.properties table label) o (spelled table label))
    (variants_after (filter_of o.properties table label) o (spelled table label))

-- ---- the same block, by what its lines have to be: no list is computed here

-- a registrable label, valid under the table, greater than the text of the settings, that arises by cutting the label
-- into sources of the table and replacing each by itself or one of its variants, as far as their conditions hold in the
-- label, and isn't invalid
pub record IsListed (o : Settings) (table : TableValue) (label v : List ℕ) : Type 0 where
  pub registrable : IsRegistrable o.properties v
  pub valid : IsValid table v
  pub greater : IsBelow o.after v
  pub spelled : Spells table label v
  pub kept : ¬ IsLeftOut table label v

-- a label of at most 63 code points that arises so, greater than the text, without a dead prefix
pub record IsTried (o : Settings) (table : TableValue) (label v : List ℕ) : Type 0 where
  pub short : length v ≤ 63
  pub alive : HasNoDeadPrefix o.properties v
  pub found : HasNoDeadPrefixUnder table v
  pub greater : IsBelow o.after v
  pub spelled : Spells table label v

-- a label of at most 63 code points that arises so, greater than the text, with a dead prefix or without
pub record IsAhead (o : Settings) (table : TableValue) (label v : List ℕ) : Type 0 where
  pub short : length v ≤ 63
  pub greater : IsBelow o.after v
  pub spelled : Spells table label v

-- the stop is the least of the limit-th label that is listed, the tries-th that is tried and the steps-th that is
-- visited, as far as they exist; up to it each label that is listed is said, with its disposition, and then the end
pub record IsBlock (o : Settings) (table : TableValue) (label : List ℕ) (said : List Said) : Type 0 where
  pub listed : List (List ℕ)
  pub exactly : IsListOf (IsListed o table label) listed
  pub tried : List (List ℕ)
  pub exactly_tried : IsListOf (IsTried o table label) tried
  pub ahead : List (List ℕ)
  pub exactly_ahead : IsListOf (IsAhead o table label) ahead
  pub stop : Option (List ℕ)
  pub stops : stop ≡ lesser_label (nth_if_given listed o.limit)
      (lesser_label (nth tried o.tries)
      (nth_if_given (visited (filter_of o.properties table label).hopeless None ahead) o.steps))
  pub field : List ℕ → Option Disposition
  pub disposed : (v : List ℕ) → Contains listed v → IsDisposition table label v (field v)
  pub exact : said ≡ block_to (variant_by (λ v. shown (tells_causes o) (field v))) stop listed
