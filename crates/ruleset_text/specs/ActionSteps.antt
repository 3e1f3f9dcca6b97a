-- Reading an action, from its first lexeme to its last.
use Rattle.std.specs.Prelude.{ℕ, ◌&&◌, not, Option, Some, None, List, [], ◌∷◌, ◌++◌, bytes_eq, codes, if◌then◌else◌}
use Rattle.std.specs.Option.{option_map}
use Rattle.label_patterns.specs.declared.condition.ConditionKind.{ConditionKind}
use Rattle.label_patterns.specs.declared.condition.ConditionKind.TheVariants.{When, Unless}
use Rattle.ruleset_text.specs.declared.action.TriggerKind.{TriggerKind}
use Rattle.ruleset_text.specs.declared.action.TriggerKind.TheVariants.{Any, All, Only}
use Rattle.ruleset_text.specs.declared.named_condition.NamedCondition.{NamedCondition}
use Rattle.ruleset_text.specs.Actions.{NamedAction, NamedTrigger}
use Rattle.ruleset_text.specs.Names.{is_name, is_one_of}
use Rattle.idn_text.specs.Stops.{run}
use Rattle.variant_dispositions.specs.declared.disposition.Disposition.{Disposition}
use Rattle.variant_dispositions.specs.declared.disposition.Disposition.TheVariants.{Invalid, Blocked, Allocatable}
use Rattle.variant_dispositions.specs.declared.disposition.Disposition.TheVariants.{Activated, Valid}

-- what was read
pub data Stage : Type 0 where
  -- nothing
  Begin : Stage
  -- a disposition, and a condition or none
  Given : Disposition → Option NamedCondition → Stage
  -- 'when' or 'unless' after a disposition
  Asked : Disposition → ConditionKind → Stage
  -- 'any', 'all' or 'only'; or ',' after the last of these types
  Listing : Disposition → Option NamedCondition → NamedTrigger → Stage
  -- the last of these types
  Listed : Disposition → Option NamedCondition → NamedTrigger → Stage

abbrev pub disposition_of : List ℕ → Option Disposition
disposition_of w =
    if bytes_eq w (codes "invalid") then Some Invalid else
    if bytes_eq w (codes "blocked") then Some Blocked else
    if bytes_eq w (codes "allocatable") then Some Allocatable else
    if bytes_eq w (codes "activated") then Some Activated else
    if bytes_eq w (codes "valid") then Some Valid else None

abbrev pub kind_of : List ℕ → Option ConditionKind
kind_of w =
    if bytes_eq w (codes "when") then Some When else
    if bytes_eq w (codes "unless") then Some Unless else None

abbrev pub trigger_of : List ℕ → Option TriggerKind
trigger_of w =
    if bytes_eq w (codes "any") then Some Any else
    if bytes_eq w (codes "all") then Some All else
    if bytes_eq w (codes "only") then Some Only else None

abbrev pub trigger : TriggerKind → List (List ℕ) → NamedTrigger
trigger kind types = record { kind = kind; types = types }

-- 'any', 'all' or 'only'
abbrev pub by_trigger : Disposition → Option NamedCondition → Option TriggerKind → Option Stage
by_trigger d c None = None
by_trigger d c (Some kind) = Some (Listing d c (trigger kind []))

-- 'when' or 'unless', or one of these
abbrev pub by_kind : Disposition → List ℕ → Option ConditionKind → Option Stage
by_kind d w None = by_trigger d None (trigger_of w)
by_kind d w (Some kind) = Some (Asked d kind)

-- the stage after a lexeme more, if it may stand there
abbrev pub step : Stage → List ℕ → Option Stage
step Begin w = option_map (λ d. Given d None) (disposition_of w)
step (Given d None) w = by_kind d w (kind_of w)
step (Given d (Some c)) w = by_trigger d (Some c) (trigger_of w)
step (Asked d kind) w = if is_name w then Some (Given d (Some (record { kind = kind; rule = w }))) else None
step (Listing d c t) w =
    if is_name w && not (is_one_of t.types w) then Some (Listed d c (trigger t.kind (t.types ++ w ∷ []))) else None
step (Listed d c t) w = if bytes_eq w (codes ",") then Some (Listing d c t) else None

abbrev pub action : Disposition → Option NamedCondition → Option NamedTrigger → NamedAction
action d c t = record { disposition = d; condition = c; trigger = t }

-- the action, if nothing is left open
abbrev pub ended : Stage → Option NamedAction
ended (Given d c) = Some (action d c None)
ended (Listed d c t) = Some (action d c (Some t))
ended s = None

abbrev pub action_at : Option Stage → Option NamedAction
action_at None = None
action_at (Some s) = ended s

-- the action that lexemes spell, if they spell one
unfoldable pub action_in : List (List ℕ) → Option NamedAction
action_in words = action_at (run step (Some Begin) words)
