-- The definitions as tests that compute. A set of places of a label is a number, as in label_patterns.
use Rattle.std.specs.Prelude.{ℕ, zero, suc, ◌+◌, ◌^◌, ◌&&◌, ◌||◌, nat_eq, nat_lt, Bool, true, false, not, List, [], ◌∷◌}
use Rattle.std.specs.Prelude.{Option, Some, None, length, map, if◌then◌else◌, bytes_eq}
use Rattle.std.specs.Int.RustNames.{bit_or}
use Rattle.std.specs.Option.{is_some}
use Rattle.std.specs.List.{list_any, slice_range}
use Rattle.label_patterns.specs.declared.condition.Condition.{Condition}
use Rattle.label_patterns.specs.Matches.{Seen}
use Rattle.label_patterns.specs.Tests.{has_place, condition_holds, condition_barred, ignores_end, occurs_in}
use Rattle.ruleset_text.specs.declared.definition.DemandKind.{DemandKind}
use Rattle.ruleset_text.specs.declared.definition.DemandKind.TheVariants.{Never, Always}
use Rattle.ruleset_text.specs.DefinitionCodes.{is_never}
use Rattle.ruleset_text.specs.Definitions.{Demand}
use Rattle.ruleset_text.specs.Actions.{NamedAction}
use Rattle.variant_dispositions.specs.declared.disposition.Disposition.{Disposition}
use Rattle.variant_dispositions.specs.declared.disposition.Disposition.TheVariants.{Invalid, Blocked, Allocatable}
use Rattle.variant_dispositions.specs.declared.disposition.Disposition.TheVariants.{Activated, Valid}
use Rattle.variant_dispositions.specs.declared.variant.VariantDisposition.{VariantDisposition}
use Rattle.variant_dispositions.specs.declared.variant.VariantDisposition.TheVariants.{Clear, Unclear}
use Rattle.variant_table.specs.declared.version.Version.{Version}
use Rattle.variant_table.specs.declared.version.Version.TheVariants.{Three}
use Rattle.variant_table.specs.Entries.{Entry, TableValue, sequences_in}
use Rattle.variant_table.specs.Places.{entries_at}
use Rattle.variant_table.specs.Segmentations.{seen_under}
use Rattle.valid_labels.specs.Dispositions.{told_itself}

-- ---- sets of places that steps lead to

-- the places so far, with those to which steps lead from this one if it is among them
abbrev pub with_ends : (ℕ → ℕ) → ℕ → ℕ → ℕ
with_ends ends place found = if has_place found place then bit_or found (ends place) else found

-- the places to which steps lead from the place 0, where each step begins at one of the first n places
abbrev pub reached_by : (ℕ → ℕ) → ℕ → ℕ
reached_by ends zero = 1
reached_by ends (suc n) = with_ends ends n (reached_by ends n)

-- ---- segments

-- a sequence, and the condition under which it may stand in a label
pub record Segment : Type 0 where
  pub points : List ℕ
  pub condition : Option Condition

-- a segment stands at the place, and what is asked of it is so
abbrev pub stands_at : (Option Condition → ℕ → ℕ → Bool) → List ℕ → ℕ → Segment → Bool
stands_at asked label place p =
    bytes_eq (slice_range label place (place + length p.points)) p.points
    && asked p.condition place (place + length p.points)

-- the places where those of some segments end that stand at this place
abbrev pub segment_ends : (Option Condition → ℕ → ℕ → Bool) → List Segment → List ℕ → ℕ → ℕ
segment_ends asked [] label place = 0
segment_ends asked (p ∷ segments) label place =
    if stands_at asked label place p then bit_or (segment_ends asked segments label place)
    (2 ^ (place + length p.points)) else segment_ends asked segments label place

-- the places up to which a label can be cut into such segments
abbrev pub cut_places : (Option Condition → ℕ → ℕ → Bool) → List Segment → List ℕ → ℕ
cut_places asked segments label = reached_by (segment_ends asked segments label) (length label)

-- nothing is asked
abbrev pub not_asked : Option Condition → ℕ → ℕ → Bool
not_asked c i j = true

-- sources as segments
abbrev pub sources_of : List Entry → List Segment
sources_of entries = map (λ e. record { points = e.source; condition = e.condition }) entries

-- the segments of a table
abbrev pub segments_of : TableValue → List Segment
segments_of table = sources_of table.entries

-- ---- labels

-- the condition holds for the part of the label from i to j; it isn't barred there
abbrev pub holds_in : TableValue → List ℕ → Option Condition → ℕ → ℕ → Bool
holds_in table label c i j = condition_holds table.definitions.rules (seen_under table label) c i j

abbrev pub may_hold_in : TableValue → List ℕ → Option Condition → ℕ → ℕ → Bool
may_hold_in table label c i j = not (condition_barred table.definitions.rules (seen_under table label) c i)

-- the label is made of sources
abbrev pub is_made_of_sources : TableValue → List ℕ → Bool
is_made_of_sources table label = has_place (cut_places not_asked (segments_of table) label) (length label)

-- the places up to which the label may be cut
abbrev pub may_reach : TableValue → List ℕ → ℕ
may_reach table label = cut_places (may_hold_in table label) (segments_of table) label

-- ---- the longest-first cut

-- of some entries whose sources are at the place the last one whose condition holds, or the one that was found before
abbrev pub last_standing : TableValue → List ℕ → ℕ → Option Entry → List Entry → Option Entry
last_standing table label place found [] = found
last_standing table label place found (e ∷ entries) =
    last_standing table label place (if holds_in table label e.condition place (place + length e.source) then Some e
    else found) entries

-- the longest entry that stands at the place
abbrev pub longest_at : TableValue → List ℕ → ℕ → Option Entry
longest_at table label place = last_standing table label place None (entries_at table.entries label place)

-- the place after such an entry, or the same place
abbrev pub place_after : ℕ → Option Entry → ℕ
place_after place None = place
place_after place (Some e) = place + length e.source

abbrev pub advanced : TableValue → List ℕ → ℕ → ℕ
advanced table label place = place_after place (longest_at table label place)

-- the place after the first n sources of the cut, or the one at which it ends
abbrev pub cut_after : TableValue → List ℕ → ℕ → ℕ
cut_after table label zero = 0
cut_after table label (suc n) = advanced table label (cut_after table label n)

-- the place at which the cut ends
abbrev pub cut_end : TableValue → List ℕ → ℕ
cut_end table label = cut_after table label (length label)

abbrev pub is_eligible : TableValue → List ℕ → Bool
is_eligible table label = nat_eq (cut_end table label) (length label)

-- ---- demands

abbrev pub is_wanted : DemandKind → Bool → Bool
is_wanted Never occurring = not occurring
is_wanted Always occurring = occurring

abbrev pub are_met : Seen → List Demand → Bool
are_met seen [] = true
are_met seen (d ∷ demands) = is_wanted d.kind (occurs_in seen d.pattern) && are_met seen demands

abbrev pub meets_demands : TableValue → List ℕ → Bool
meets_demands table label = are_met (seen_under table label) table.definitions.demands

-- ---- labels

-- the action asks for a rule, or for no type
abbrev pub asks_a_rule : NamedAction → Bool
asks_a_rule a = is_some a.condition || not (is_some a.trigger)

-- no source has a condition or a type, there is no demand, and each action asks for types alone
abbrev pub asks_cuts_alone : TableValue → Bool
asks_cuts_alone table =
    not (list_any (λ e. is_some e.condition) table.entries) && (nat_eq (length table.definitions.demands) 0
    && (not (list_any (λ e. is_some e.type) table.entries) && not (list_any asks_a_rule table.definitions.actions)))

abbrev pub is_three : Version → Bool
is_three Three = true
is_three earlier = false

-- a label may be cut in any way
abbrev pub allows_any_cut : TableValue → Bool
allows_any_cut table = not (is_three table.version) && asks_cuts_alone table

-- ---- what is told of the label itself

abbrev pub is_invalid : Disposition → Bool
is_invalid Invalid = true
is_invalid Blocked = false
is_invalid Allocatable = false
is_invalid Activated = false
is_invalid Valid = false

-- it is clear, and not invalid
abbrev pub is_let_in : Option VariantDisposition → Bool
is_let_in None = false
is_let_in (Some Unclear) = false
is_let_in (Some (Clear d)) = not (is_invalid d)

-- ---- which labels may be asked about, and which are valid

abbrev pub is_admitted : TableValue → List ℕ → Bool
is_admitted table label =
    ((allows_any_cut table && is_made_of_sources table label) || is_eligible table label)
    && (meets_demands table label && is_let_in (told_itself table label))

abbrev pub is_valid : TableValue → List ℕ → Bool
is_valid table label = (allows_any_cut table || is_eligible table label) && meets_demands table label

-- ---- what is dead

abbrev pub is_refused : TableValue → List ℕ → Bool
is_refused table label =
    list_any (λ d. is_never d.kind && (ignores_end d.pattern && occurs_in (seen_under table label) d.pattern))
    table.definitions.demands

-- the test is true of a place up to n
abbrev pub one_up_to : ℕ → (ℕ → Bool) → Bool
one_up_to zero test = test 0
one_up_to (suc n) test = test (suc n) || one_up_to n test

-- some segment that begins at the place ends after n code points
abbrev pub leads_past : List Segment → ℕ → ℕ → Bool
leads_past segments n place = list_any (λ p. nat_lt n (place + length p.points)) segments

abbrev pub leads_on : TableValue → List ℕ → Bool
leads_on table label =
    let reached = may_reach table label in
    let segments = segments_of table in
    one_up_to (length label) (λ place. has_place reached place && leads_past segments (length label) place)

-- neither the label nor any label that begins with it is valid
abbrev pub is_dead_under : TableValue → List ℕ → Bool
is_dead_under table label =
    not (allows_any_cut table) && (nat_lt 0 (length label) && (is_refused table label || not (leads_on table label)))

-- the source is more than one code point, or a variant is not made of sources
abbrev pub is_open : TableValue → Entry → Bool
is_open table e =
    not (nat_eq (length e.source) 1) || list_any (λ s. not (is_made_of_sources table s)) (sequences_in e.variants)

-- the table asks nothing of its labels
abbrev pub asks_nothing : TableValue → Bool
asks_nothing table =
    asks_cuts_alone table && (not (is_three table.version) || not (list_any (is_open table) table.entries))
