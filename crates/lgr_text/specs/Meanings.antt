-- What the names of a file stand for: sets of code points, and parts of labels (RFC 7940, sections 6.2 and 6.3).
use Rattle.std.specs.Prelude.{◌≡◌, ℕ, ◌≤◌, ◌↔◌, Bool, IsTrue, List, Option, Some, None, All, Contains, length}
use Rattle.label_patterns.specs.Sets.{is_in}
use Rattle.lgr_text.specs.Repertoire.{kept_sources}
use Rattle.lgr_text.specs.Names.{all_classes}
use Rattle.lgr_text.specs.ClassMembers.{class_fault, has, set_named}
use Rattle.lgr_text.specs.Known.{Known}
use Rattle.lgr_text.specs.PartMatches.{PartMatches, Place}
use Rattle.lgr_text.specs.Records.{Class, Entry, IsClass, IsRule, Part, Ruleset}

-- the entries and the sets of named classes (of what is known nothing else counts); and whether a named rule matches the
-- part of a label from one place to another, where the anchor stands for a part of the label: label, that part, name,
-- from, to
pub record Meanings : Type 0 where
  pub known : Known
  pub matches : List ℕ → Option Place → List ℕ → ℕ → ℕ → Bool

-- the part of the label from i to j matches a part of a rule, where the anchor stands for a place
abbrev pub Matches : Meanings → List ℕ → Option Place → Part → ℕ → ℕ → Type 0
Matches m label at p i j =
    PartMatches (has m.known) (λ place name k l. IsTrue (m.matches label place name k l)) label at p i j

-- a rule holds for the part from i to j: it matches some part of the label, where the anchor stands for the one from
-- i to j (6.4)
abbrev pub RuleHolds : Meanings → Part → List ℕ → ℕ → ℕ → Type 0
RuleHolds m rule label i j =
    (k : ℕ) × (l : ℕ) × (k ≤ length label) × Matches m label (Some (record { start = i; end = j })) rule k l

-- the code point stands in a source of the repertoire
abbrev pub IsKept : (ℕ → Bool) → List Entry → ℕ → Type 0
IsKept may entries c =
    (e : Entry) × (source : List ℕ) × Contains entries e × Contains (kept_sources may e) source × Contains source c

-- each name stands for what the definition of this name says, rules in labels of code points of the repertoire; and no
-- class asks for a tag that no entry has, for a property that isn't known, or for a class that isn't there
pub record AreMeaningsOf (may : ℕ → Bool) (r : Ruleset) (m : Meanings) : Type 0 where
  pub entries : m.known.entries ≡ r.entries
  pub classes : (name : List ℕ) (class : Class) (c : ℕ) → c ≤ 0x10FFFF
      → Contains r.definitions (record { name = name; meaning = IsClass class })
      → is_in (set_named m.known name) c ≡ has m.known class c
  pub no_fault : All (λ d. All (λ k. class_fault m.known k ≡ None) (all_classes d.meaning)) r.definitions
  pub rules : (name : List ℕ) (rule : Part) (label : List ℕ) (at : Option Place) (i j : ℕ)
      → All (IsKept may r.entries) label → Contains r.definitions (record { name = name; meaning = IsRule rule })
      → IsTrue (m.matches label at name i j) ↔ Matches m label at rule i j
