-- What an action in memory is seen as: with lists in place of vectors.
use Rattle.std.specs.Prelude.{}
use Rattle.std.specs.Option.{option_map}
use Rattle.ruleset_text.specs.declared.action.NamedAction as held
use Rattle.ruleset_text.specs.declared.action.NamedTrigger as held_trigger
use Rattle.ruleset_text.specs.declared.action_reading.ActionStage as stages
use Rattle.ruleset_text.specs.declared.action_reading.ActionStage.TheVariants as variant
use Rattle.ruleset_text.specs.Actions.{NamedAction, NamedTrigger}
use Rattle.ruleset_text.specs.ActionSteps.{Stage, Begin, Given, Asked, Listing, Listed}

abbrev pub trigger : held_trigger.NamedTrigger → NamedTrigger
trigger t = record { kind = t.kind; types = t.types.items }

abbrev pub action : held.NamedAction → NamedAction
action a = record { disposition = a.disposition; condition = a.condition; trigger = option_map trigger a.trigger }

abbrev pub stage : stages.ActionStage → Stage
stage variant.Begin = Begin
stage (variant.Given d c) = Given d c
stage (variant.Asked d kind) = Asked d kind
stage (variant.Listing d c t) = Listing d c (trigger t)
stage (variant.Listed d c t) = Listed d c (trigger t)
