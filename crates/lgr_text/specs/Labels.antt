-- How labels are cut into entries of a ruleset (RFC 7940, sections 5.2 and 8.1).
use Rattle.std.specs.Prelude.{◌≡◌, ℕ, ◌+◌, ◌≤◌, Bool, List, [], ◌∷◌, Option, Some, None, Contains, length}
use Rattle.std.specs.List.{AllByRecursion, flat_map}
use Rattle.label_patterns.specs.Conditions.{IsAsked}
use Rattle.label_patterns.specs.Matches.{Rounds}
use Rattle.lgr_text.specs.Meanings.{Meanings, RuleHolds}
use Rattle.lgr_text.specs.PartMatches.{StandThere}
use Rattle.lgr_text.specs.Records.{Condition, IsRule, Part, Ruleset}
use Rattle.lgr_text.specs.Repertoire.{Piece, pieces}

-- the rule of this name holds for the part of the label from i to j (section 6.4)
abbrev pub NamedRuleHolds : Ruleset → Meanings → List ℕ → List ℕ → ℕ → ℕ → Type 0
NamedRuleHolds r m name label i j =
    (rule : Part) × Contains r.definitions (record { name = name; meaning = IsRule rule }) × RuleHolds m rule label i j

-- the condition holds for that part: with 'when' its rule does, and with 'not-when' it doesn't
abbrev pub ConditionHolds : Ruleset → Meanings → List ℕ → Option Condition → ℕ → ℕ → Type 0
ConditionHolds r m label None i j = Unit {0}
ConditionHolds r m label (Some c) i j = IsAsked c.kind (NamedRuleHolds r m c.rule label i j)

-- ---- any cut

-- the condition of each piece holds where it stands; the first stands at this place
abbrev pub AllHold : Ruleset → Meanings → List ℕ → ℕ → List Piece → Type 0
AllHold r m label place [] = Unit {0}
AllHold r m label place (p ∷ cut) =
    ConditionHolds r m label p.entry.condition place (place + length p.source)
    × AllHold r m label (place + length p.source) cut

-- pieces of the repertoire whose sources, joined, are the label
pub record AreJoined (may : ℕ → Bool) (r : Ruleset) (cut : List Piece) (label : List ℕ) : Type 0 where
  pub of_repertoire : AllByRecursion (Contains (pieces may r)) cut
  pub joined : flat_map (λ p. p.source) cut ≡ label

-- the label is made of sources of the ruleset; where they may stand is not asked
abbrev pub IsMadeOfSources : (ℕ → Bool) → Ruleset → List ℕ → Type 0
IsMadeOfSources may r label = (cut : List Piece) × AreJoined may r cut label

-- and each may stand where it does
pub record IsCut (may : ℕ → Bool) (r : Ruleset) (m : Meanings) (cut : List Piece) (label : List ℕ) : Type 0 where
  pub joined : AreJoined may r cut label
  pub hold : AllHold r m label 0 cut

-- ---- eligible labels (section 8.1): from each place the longest source that stands there, with no way back

-- the source stands there, and its condition holds there
pub record Stands (may : ℕ → Bool) (r : Ruleset) (m : Meanings) (label : List ℕ) (place : ℕ) (p : Piece) : Type 0 where
  pub of_repertoire : Contains (pieces may r) p
  pub there : StandThere p.source label place
  pub holds : ConditionHolds r m label p.entry.condition place (place + length p.source)

pub record IsLongest (may : ℕ → Bool) (r : Ruleset) (m : Meanings) (label : List ℕ) (place : ℕ) (p : Piece)
    : Type 0 where
  pub stands : Stands may r m label place p
  pub longest : (q : Piece) → Stands may r m label place q → length q.source ≤ length p.source

-- the longest source that stands at i ends at j
abbrev pub LongestLeads : (ℕ → Bool) → Ruleset → Meanings → List ℕ → ℕ → ℕ → Type 0
LongestLeads may r m label i j = (p : Piece) × IsLongest may r m label i p × (j ≡ i + length p.source)

-- so the label is cut from start to end. No run asks about the empty label, which has nothing to cut
abbrev pub IsEligible : (ℕ → Bool) → Ruleset → Meanings → List ℕ → Type 0
IsEligible may r m label = Rounds (LongestLeads may r m label) 0 (length label)
