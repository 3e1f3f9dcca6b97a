-- What sets of labels hold, and what a step of the plain lister adds to them.
use Rattle.std.specs.Prelude.{◌≡◌, ℕ, ◌+◌, ◌-◌, ◌<◌, ◌⊎◌, ◌↔◌, List, ◌++◌, length, Contains, slice_index_or, Option}
use Rattle.std.specs.Prelude.{Vec}
use Rattle.std.specs.declared.alloc.Global.{Global}
use Rattle.std.specs.BTreeSet.{BTreeSet}
use Rattle.label_patterns.specs.declared.condition.Condition.{Condition}
use Rattle.label_patterns.specs.Conditions.{ConditionHolds}
use Rattle.variant_table.specs.Entries.{Entry, TableValue, Variant, full_replacements}
use Rattle.variant_table.specs.Segmentations.{seen_under}
use Rattle.variant_list.specs.Labels.{IsRising}
use Rattle.variant_list.specs.inner.Places.{SpellsFrom}
use Rattle.variant_list.specs.LabelSet.{labels_of}

-- the set holds exactly what the code points of the label from a place on spell, in label order
pub record HoldsSpelled (table : TableValue) (label : List ℕ) (place : ℕ)
    (labels : BTreeSet (Vec ℕ Global)) : Type 0 where
  pub spelled : (v : List ℕ) → Contains (labels_of labels) v ↔ SpellsFrom table label place v
  pub rising : IsRising (labels_of labels)

-- the sets hold what the last code points of the label spell: none of them, one, two, and so on
abbrev pub HoldEndings : TableValue → List ℕ → List (BTreeSet (Vec ℕ Global)) → Type 0
HoldEndings table label sets =
    (n : ℕ) (d : BTreeSet (Vec ℕ Global)) → n < length sets →
    HoldsSpelled table label (length label - n) (slice_index_or sets n d)

-- new has the labels of old and those of which P holds
abbrev pub Adds : (List ℕ → Type 0) → List (List ℕ) → List (List ℕ) → Type 0
Adds P old new = (q : List ℕ) → Contains new q ↔ (Contains old q ⊎ P q)

-- what some member of the list gives
abbrev pub SomeGives : {X : Type 0} → (X → List ℕ → Type 0) → List X → List ℕ → Type 0
SomeGives {X} gives xs q = (x : X) × Contains xs x × gives x q

-- q is the beginning and then one of the endings
abbrev pub JoinsEnding : List (List ℕ) → List ℕ → List ℕ → Type 0
JoinsEnding endings beginning = SomeGives (λ ending q. q ≡ beginning ++ ending) endings

-- the condition holds in the label for the source of e, which stands there from the place on
abbrev pub HoldsFor : TableValue → List ℕ → ℕ → Entry → Option Condition → Type 0
HoldsFor table label place e condition =
    ConditionHolds table.definitions.rules (seen_under table label) condition place (place + length e.source)

-- q is this replacement of the entry, whose condition holds, and then one of the endings
abbrev pub ReplacementGives : TableValue → List ℕ → ℕ → Entry → List (List ℕ) → Variant → List ℕ → Type 0
ReplacementGives table label place e endings r q =
    HoldsFor table label place e r.condition × JoinsEnding endings r.sequence q

-- q is a replacement of the entry, which may stand there, and then one of the endings
abbrev pub EntryGives : TableValue → List ℕ → ℕ → List (List ℕ) → Entry → List ℕ → Type 0
EntryGives table label place endings e q =
    HoldsFor table label place e e.condition
    × SomeGives (ReplacementGives table label place e endings) (full_replacements e) q
