-- Which labels are valid, and which disposition a variant has (RFC 7940, sections 7, 8.1, 8.3 and 8.4).
use Rattle.std.specs.Prelude.{◌≡◌, ◌⊎◌, ℕ, ◌&&◌, Bool, true, false, List, [], ◌∷◌, Option, Some, None, Contains}
use Rattle.std.specs.Prelude.{IsTrue, codes, filter, length, map}
use Rattle.std.specs.List.{list_all, list_any}
use Rattle.ruleset_text.specs.Names.{is_one_of, predefined_types}
use Rattle.ruleset_text.specs.declared.action.TriggerKind.{TriggerKind}
use Rattle.ruleset_text.specs.declared.action.TriggerKind.TheVariants as ask
use Rattle.lgr_text.specs.Demands.{demanded}
use Rattle.lgr_text.specs.Labels.{ConditionHolds, IsEligible}
use Rattle.lgr_text.specs.Meanings.{Meanings}
use Rattle.lgr_text.specs.Readings.{IsClear, IsReading, Mapped, Recorded, Step, Unmapped, recorded}
use Rattle.lgr_text.specs.Records.{Action, Condition, Ruleset, Trigger}

-- ---- actions

-- a variant of one of these types is recorded
abbrev pub is_of : List (List ℕ) → Recorded → Bool
is_of types Unmapped = false
is_of types (Mapped None) = false
is_of types (Mapped (Some name)) = is_one_of types name

abbrev pub is_mapped : Recorded → Bool
is_mapped Unmapped = false
is_mapped (Mapped type) = true

-- what is asked of what is recorded (section 7.2): some variant of these types; variants of these alone, and one at
-- least; or that nothing else is recorded, not even a source that stays without being a variant of itself
abbrev pub are_as_asked : TriggerKind → List (List ℕ) → List Recorded → Bool
are_as_asked ask.Any types kinds = list_any (is_of types) kinds
are_as_asked ask.All types kinds = list_any is_mapped kinds && list_all (is_of types) (filter is_mapped kinds)
are_as_asked ask.Only types kinds = list_all (is_of types) kinds

abbrev pub has_asked : Option Trigger → List Recorded → Bool
has_asked None kinds = true
has_asked (Some t) kinds = are_as_asked t.kind t.types kinds

-- the label, of which this is recorded, triggers the action: its rule holds for the whole label, or doesn't (7.1). A
-- file with an action that asks for a rule with an anchor has no table
pub record IsTriggered (r : Ruleset) (m : Meanings) (label : List ℕ) (kinds : List Recorded) (a : Action) : Type 0 where
  pub condition : ConditionHolds r m label a.condition 0 (length label)
  pub types : IsTrue (has_asked a.trigger kinds)

-- the disposition is that of the first of these actions of which P holds; if it holds of none, it is as is said else
abbrev pub IsOfFirst : (Action → Type 0) → List Action → (List ℕ → Type 0) → List ℕ → Type 0
IsOfFirst P [] Otherwise word = Otherwise word
IsOfFirst P (a ∷ actions) Otherwise word =
    (P a × (word ≡ a.disposition)) ⊎ ((¬ P a) × IsOfFirst P actions Otherwise word)

-- the default actions (section 7.6)
abbrev pub by_types : List ℕ → Option Trigger → Action
by_types word types = record { disposition = word; condition = None; trigger = types }

abbrev pub asking : TriggerKind → List ℕ → Option Trigger
asking kind type = Some (record { kind = kind; types = type ∷ [] })

abbrev pub default_actions : List Action
default_actions =
    by_types (codes "invalid") (asking ask.Any (codes "invalid"))
    ∷ by_types (codes "blocked") (asking ask.Any (codes "blocked"))
    ∷ by_types (codes "allocatable") (asking ask.Any (codes "allocatable"))
    ∷ by_types (codes "activated") (asking ask.All (codes "activated"))
    ∷ by_types (codes "valid") None
    ∷ []

-- they see no types but the predefined ones (section 8.3, step 3)
abbrev pub is_predefined : Recorded → Bool
is_predefined Unmapped = true
is_predefined (Mapped None) = true
is_predefined (Mapped (Some name)) = is_one_of predefined_types name

-- the disposition of a label of which this is recorded: that of the first action, and else of the first default
-- action, that is triggered (section 8.3)
abbrev pub IsDispositionOf : Ruleset → Meanings → List ℕ → List Recorded → List ℕ → Type 0
IsDispositionOf r m label kinds word =
    IsOfFirst (IsTriggered r m label kinds) r.actions
    (IsOfFirst (IsTriggered r m label (filter is_predefined kinds)) default_actions (λ none. ⊥)) word

-- by some reading v has this disposition among the variants of the label
abbrev pub HasDisposition : (ℕ → Bool) → Ruleset → Meanings → (label v : List ℕ) → List ℕ → Type 0
HasDisposition may r m label v word =
    (reading : List Step) × IsReading may r m label v reading × IsDispositionOf r m v (map recorded reading) word

-- ---- labels

-- a label that may be asked about: it is eligible (8.1), clear (8.4), and not invalid (8.3)
pub record IsAccepted (may : ℕ → Bool) (r : Ruleset) (m : Meanings) (label : List ℕ) : Type 0 where
  pub eligible : IsEligible may r m label
  pub clear : IsClear may r m label label
  pub not_invalid : ¬ HasDisposition may r m label label (codes "invalid")

-- an action that makes labels invalid by a rule alone is triggered, before any that doesn't make them invalid: so v is
-- invalid by each of its readings
abbrev pub BreaksDemand : Ruleset → Meanings → List ℕ → Type 0
BreaksDemand r m v =
    (c : Condition) × Contains (demanded r.actions) c × ConditionHolds r m v (Some c) 0 (length v)

-- a variant that the label gives, itself among them: it is eligible, too, and not invalid. One that isn't clear is a
-- variant, too, so that nobody gets it, but for one that a rule alone makes invalid, whatever is recorded
pub record IsVariant (may : ℕ → Bool) (r : Ruleset) (m : Meanings) (label v : List ℕ) : Type 0 where
  pub eligible : IsEligible may r m v
  pub given : (reading : List Step) × IsReading may r m label v reading
  pub met : ¬ BreaksDemand r m v
  pub not_invalid : IsClear may r m label v → ¬ HasDisposition may r m label v (codes "invalid")

-- the holder of the label may have it (section 7.3)
abbrev pub may_be_had : List (List ℕ)
may_be_had = codes "valid" ∷ codes "allocatable" ∷ codes "activated" ∷ []

pub record IsAllocatable (may : ℕ → Bool) (r : Ruleset) (m : Meanings) (label v : List ℕ) : Type 0 where
  pub clear : IsClear may r m label v
  pub word : List ℕ
  pub disposed : HasDisposition may r m label v word
  pub had : Contains may_be_had word
