-- Which elements say which actions (RFC 7940, section 7).
use Rattle.std.specs.Prelude.{ℕ, Option, Some, None, List, codes, option_map, option_and_then}
use Rattle.ruleset_text.specs.declared.action.TriggerKind.{TriggerKind}
use Rattle.ruleset_text.specs.declared.action.TriggerKind.TheVariants as ask
use Rattle.xml_text.specs.Attributes.{Attribute}
use Rattle.lgr_text.specs.Attributes.{value, condition_of}
use Rattle.lgr_text.specs.Elements.{Node, if_plain}
use Rattle.lgr_text.specs.Records.{Trigger, Action}
use Rattle.lgr_text.specs.Values.{name_of, names_of}
use Rattle.lgr_text.specs.declared.names.NameKind.TheVariants as kinds

abbrev pub triggered : TriggerKind → List ℕ → Option (Option Trigger)
triggered kind text = option_map (λ ts. Some (record { kind = kind; types = ts })) (names_of kinds.Type text)

-- the types that an action asks for, in one way at most (section 7.2)
abbrev pub trigger_of : Option (List ℕ) → Option (List ℕ) → Option (List ℕ) → Option (Option Trigger)
trigger_of None None None = Some None
trigger_of (Some any) None None = triggered ask.Any any
trigger_of None (Some all) None = triggered ask.All all
trigger_of None None (Some only) = triggered ask.Only only
trigger_of any all only = None

abbrev pub trigger_by : List Attribute → Option (Option Trigger)
trigger_by attributes =
    trigger_of (value attributes (codes "any-variant")) (value attributes (codes "all-variants"))
    (value attributes (codes "only-variants"))

-- its disposition, its condition (section 7.1), and the types that it asks for
abbrev pub action_by : List Attribute → Option Action
action_by attributes =
    option_and_then (λ d. option_and_then (λ c. option_map (λ t. record { disposition = d; condition = c; trigger = t })
    (trigger_by attributes)) (condition_of (value attributes (codes "match")) (value attributes (codes "not-match"))))
    (option_and_then (name_of kinds.Type) (value attributes (codes "disp")))

abbrev pub action_of : Node → Option Action
action_of node =
    if_plain (codes "disp match not-match any-variant all-variants only-variants comment ref") node
    (action_by node.attributes)
