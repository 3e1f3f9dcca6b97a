-- Segmentations, and what a label is made of.
use Rattle.std.proofs.Common.{◌≡◌, ℕ, ◌+◌, List, [], ◌∷◌, length, sym, subst}
use Rattle.std.specs.Prelude.{◌↔◌, Option, None, Contains}
use Rattle.label_patterns.specs.declared.condition.Condition.{Condition}
use Rattle.valid_labels.proofs.CutLemmas.{AllAsked, IsCut}
use Rattle.std.specs.List.{AllByRecursion}
use Rattle.std.proofs.lemmas.List.Elements.{All-contains, All-from_recursion}
use Rattle.label_patterns.specs.Patterns.{Pattern}
use Rattle.label_patterns.specs.Matches.{Seen}
use Rattle.label_patterns.specs.Conditions.{ConditionHolds}
use Rattle.variant_table.specs.Entries.{Entry, TableValue}
use Rattle.variant_table.specs.Segmentations.{IsMadeOfSources, HasSegmentation, HasNoConditions, AllHold, seen_under}

-- what of the table's entries is true of each of these, as they are among them
pub all-among : (P : Entry → Type 0) (entries segmentation : List Entry) → AllByRecursion P entries → AllByRecursion (Contains entries) segmentation → AllByRecursion P segmentation
all-among P entries [] all among = tt
all-among P entries (e ∷ segmentation) all among = (All-contains P entries e (All-from_recursion P entries all) among.0, all-among P entries segmentation all among.1)

-- entries without conditions may stand anywhere
pub all-hold : (rules : List Pattern) (seen : Seen) (place : ℕ) (segmentation : List Entry) → AllByRecursion (λ e. e.condition ≡ None) segmentation → AllHold rules seen place segmentation
all-hold rules seen place [] none = tt
all-hold rules seen place (e ∷ segmentation) none = (
  subst (λ c. ConditionHolds rules seen c place (place + length e.source)) (sym none.0) tt,
  all-hold rules seen (place + length e.source) segmentation none.1,
)

pub made-from_segmentation : (table : TableValue) (label : List ℕ) → HasSegmentation table label → IsMadeOfSources table label
made-from_segmentation table label (entries, is) = (entries, record { of_table = is.of_table; joined = is.joined })

pub segmentation-free : (table : TableValue) (label : List ℕ) → HasNoConditions table → IsMadeOfSources table label → HasSegmentation table label
segmentation-free table label none (entries, is) = (
  entries,
  record {
    of_table = is.of_table;
    joined = is.joined;
    held = all-hold table.definitions.rules (seen_under table label) 0 entries (all-among (λ e. e.condition ≡ None) table.entries entries none is.of_table);
  },
)

-- ---- segmentations as cuts

abbrev pub NotAsked : Option Condition → ℕ → ℕ → Type 0
NotAsked c i j = Unit {0}

abbrev pub HoldsIn : TableValue → List ℕ → Option Condition → ℕ → ℕ → Type 0
HoldsIn table label c i j = ConditionHolds table.definitions.rules (seen_under table label) c i j

asked-free : (place : ℕ) (es : List Entry) → AllAsked NotAsked place es
asked-free place [] = tt
asked-free place (e ∷ es) = (tt, asked-free (place + length e.source) es)

asked-hold : (table : TableValue) (label : List ℕ) (place : ℕ) (es : List Entry) → AllHold table.definitions.rules (seen_under table label) place es ↔ AllAsked (HoldsIn table label) place es
asked-hold table label place [] = (λ h. h, λ h. h)
asked-hold table label place (e ∷ es) =
    let rest = asked-hold table label (place + length e.source) es in
    (λ h. (h.0, rest.0 h.1), λ h. (h.0, rest.1 h.1))

pub made-cut : (table : TableValue) (label : List ℕ) → IsMadeOfSources table label ↔ ((es : List Entry) × IsCut (Contains table.entries) NotAsked label es)
made-cut table label = (
  λ h. (h.0, record { each = h.1.of_table; joined = h.1.joined; asked = asked-free 0 h.0 }),
  λ h. (h.0, record { of_table = h.1.each; joined = h.1.joined }),
)

pub segmentation-cut : (table : TableValue) (label : List ℕ) → HasSegmentation table label ↔ ((es : List Entry) × IsCut (Contains table.entries) (HoldsIn table label) label es)
segmentation-cut table label = (
  λ h. (h.0, record { each = h.1.of_table; joined = h.1.joined; asked = (asked-hold table label 0 h.0).0 h.1.held }),
  λ h. (h.0, record { of_table = h.1.each; joined = h.1.joined; held = (asked-hold table label 0 h.0).1 h.1.asked }),
)
