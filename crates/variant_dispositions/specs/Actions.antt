-- Actions, and the disposition of a label (RFC 7940, sections 7 and 8.3).
use Rattle.std.specs.Prelude.{ℕ, ◌+◌, ◌==◌, Bool, true, false, not, ◌&&◌, List, [], ◌∷◌, filter, Option, Some, None}
use Rattle.std.specs.Prelude.{option_map, unwrap_or, nat_lt}
use Rattle.std.specs.List.{find, list_all, list_any}
use Rattle.std.specs.Int.{bit_at}
use Rattle.label_patterns.specs.declared.condition.Condition.{Condition}
use Rattle.label_patterns.specs.declared.condition.ConditionKind.{ConditionKind}
use Rattle.label_patterns.specs.declared.condition.ConditionKind.TheVariants.{When, Unless}
use Rattle.variant_dispositions.specs.declared.action.Action.{Action}
use Rattle.variant_dispositions.specs.declared.action.TypeTrigger.{TypeTrigger}
use Rattle.variant_dispositions.specs.declared.action.TypeTrigger.TheVariants.{Any, All, Only}
use Rattle.variant_dispositions.specs.declared.disposition.Disposition.{Disposition}
use Rattle.variant_dispositions.specs.declared.disposition.Disposition.TheVariants.{Invalid, Blocked, Allocatable}
use Rattle.variant_dispositions.specs.declared.disposition.Disposition.TheVariants.{Activated, Valid}
use Rattle.variant_dispositions.specs.Kinds.{Kind, is_mapped}
use Rattle.variant_dispositions.specs.Kinds.Kind.{Unmapped, Untyped, Typed}

-- a set of types is a word with the bits of their kinds
abbrev pub is_of : ℕ → Kind → Bool
is_of types Unmapped = false
is_of types Untyped = false
is_of types (Typed number) = bit_at types (number + 2) == 1

-- the types that an action asks for are recorded (7.2): some of any-variant; of all-variants something, where sources
-- that stay without a type don't count, and nothing else; and nothing else than those of only-variants
abbrev pub has_types : Option TypeTrigger → List Kind → Bool
has_types None kinds = true
has_types (Some (Any types)) kinds = list_any (is_of types) kinds
has_types (Some (All types)) kinds = list_any is_mapped kinds && list_all (is_of types) (filter is_mapped kinds)
has_types (Some (Only types)) kinds = list_all (is_of types) kinds

-- of the rules those that the label matches: match, and not-match (7.1)
abbrev pub is_as_asked : ConditionKind → Bool → Bool
is_as_asked When matches = matches
is_as_asked Unless matches = not matches

abbrev pub meets : (ℕ → Bool) → Option Condition → Bool
meets matched None = true
meets matched (Some condition) = is_as_asked condition.kind (matched condition.rule)

abbrev pub is_triggered : (ℕ → Bool) → List Kind → Action → Bool
is_triggered matched kinds action = has_types action.types kinds && meets matched action.condition

-- the disposition of the first of these actions that is triggered
abbrev pub first_triggered : (ℕ → Bool) → List Kind → List Action → Option Disposition
first_triggered matched kinds actions =
    option_map (λ action. action.disposition) (find (is_triggered matched kinds) actions)

-- ---- the default actions (7.6)

abbrev pub by_types : Disposition → Option TypeTrigger → Action
by_types disposition types = record { disposition = disposition; condition = None; types = types }

-- the predefined types: invalid, blocked, allocatable, activated, valid (7.3), numbered from 0 on
abbrev pub default_actions : List Action
default_actions =
    by_types Invalid (Some (Any 4))
    ∷ by_types Blocked (Some (Any 8))
    ∷ by_types Allocatable (Some (Any 16))
    ∷ by_types Activated (Some (All 32))
    ∷ by_types Valid None
    ∷ []

-- they see no types but the predefined ones
abbrev pub is_predefined : Kind → Bool
is_predefined Unmapped = true
is_predefined Untyped = true
is_predefined (Typed number) = nat_lt number 5

abbrev pub default_disposition : (ℕ → Bool) → List Kind → Option Disposition
default_disposition matched kinds = first_triggered matched (filter is_predefined kinds) default_actions

-- the disposition of a label of which a reading records these kinds: that of the first action that is triggered, and
-- else of the first default action, of which the last is always triggered (8.3)
abbrev pub disposition : (ℕ → Bool) → List Action → List Kind → Disposition
disposition matched actions kinds =
    unwrap_or (first_triggered matched kinds actions) (unwrap_or (default_disposition matched kinds) Valid)

-- the holder may have it
abbrev pub is_allocatable : Disposition → Bool
is_allocatable Invalid = false
is_allocatable Blocked = false
is_allocatable Allocatable = true
is_allocatable Activated = true
is_allocatable Valid = true
