-- What a ruleset asks of each label, whatever its variants are: no action may be triggered that makes labels invalid by
-- a rule alone, and stands before the first that doesn't make them invalid (RFC 7940, section 7.4). Which one of those
-- before it is triggered makes no difference.
use Rattle.std.specs.Prelude.{Bool, List, [], ◌∷◌, Option, None, bytes_eq, is_some, if◌then◌else◌}
use Rattle.std.specs.List.{filter_map}
use Rattle.lgr_text.specs.Records.{Action, Condition}
use Rattle.ruleset_text.specs.Actions.{disposition_word}
use Rattle.variant_dispositions.specs.declared.disposition.Disposition.TheVariants.{Invalid}

abbrev pub makes_invalid : Action → Bool
makes_invalid a = bytes_eq a.disposition (disposition_word Invalid)

-- those before the first that doesn't, and the others
abbrev pub leading : List Action → List Action
leading [] = []
leading (a ∷ actions) = if makes_invalid a then a ∷ leading actions else []

abbrev pub following : List Action → List Action
following [] = []
following (a ∷ actions) = if makes_invalid a then following actions else a ∷ actions

-- the condition of an action that no type triggers
abbrev pub rule_alone : Action → Option Condition
rule_alone a = if is_some a.trigger then None else a.condition

abbrev pub demanded : List Action → List Condition
demanded actions = filter_map rule_alone (leading actions)
