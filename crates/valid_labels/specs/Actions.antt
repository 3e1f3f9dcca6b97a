-- The actions of a ruleset, with numbers in place of names, and the rules that a label matches (RFC 7940, section 7).
use Rattle.std.specs.Prelude.{ℕ, ◌^◌, Bool, List, [], ◌∷◌, map, Some, refl}
use Rattle.std.specs.Coded.{Coded, code_by, coded×, coded_ℕ, coded_list}
use Rattle.std.specs.Int.RustNames.{bit_or}
use Rattle.std.specs.Option.{option_map}
use Rattle.label_patterns.specs.declared.span.Span.{Span}
use Rattle.label_patterns.specs.Conditions.{rule_at}
use Rattle.label_patterns.specs.Matches.{Seen}
use Rattle.label_patterns.specs.Patterns.{Pattern}
use Rattle.label_patterns.specs.Tests.{occurs_in}
use Rattle.ruleset_text.specs.declared.action.TriggerKind.{TriggerKind}
use Rattle.ruleset_text.specs.declared.action.TriggerKind.TheVariants as kinds
use Rattle.ruleset_text.specs.Actions.{NamedAction, NamedTrigger}
use Rattle.ruleset_text.specs.DefinitionCodes.{pattern_code, span_code}
use Rattle.ruleset_text.specs.Definitions.{Definitions, type_number}
use Rattle.variant_dispositions.specs.declared.action.Action.{Action}
use Rattle.variant_dispositions.specs.declared.action.TypeTrigger.{TypeTrigger}
use Rattle.variant_dispositions.specs.declared.action.TypeTrigger.TheVariants.{Any, All, Only}
use Rattle.variant_dispositions.specs.Kinds.{bit_of, kind_of_variant}
use Rattle.variant_table.specs.Entries.{TableValue}
use Rattle.variant_table.specs.Forms.{numbered}
use Rattle.variant_table.specs.Segmentations.{seen_under}

-- ---- types as bits of a word

abbrev pub with_type : Definitions → ℕ → List ℕ → ℕ
with_type d word name = bit_or word (2 ^ bit_of (kind_of_variant (Some (type_number d name))))

abbrev pub with_types : Definitions → ℕ → List (List ℕ) → ℕ
with_types d word [] = word
with_types d word (name ∷ names) = with_types d (with_type d word name) names

abbrev pub trigger_by : TriggerKind → ℕ → TypeTrigger
trigger_by kinds.Any types = Any types
trigger_by kinds.All types = All types
trigger_by kinds.Only types = Only types

abbrev pub trigger_of : Definitions → NamedTrigger → TypeTrigger
trigger_of d t = trigger_by t.kind (with_types d 0 t.types)

-- ---- actions

abbrev pub action_of : Definitions → NamedAction → Action
action_of d a =
    record {
      disposition = a.disposition;
      condition = option_map (numbered d) a.condition;
      types = option_map (trigger_of d) a.trigger;
    }

abbrev pub actions_of : Definitions → List Action
actions_of d = map (action_of d) d.actions

-- ---- rules

-- rules, and a label of which they are asked
pub record AskedRules : Type 0 where
  pub rules : List Pattern
  pub seen : Seen

abbrev pub asked_code : Coded AskedRules
asked_code =
    code_by (List Pattern × (List (List Span) × List ℕ))
    (coded× (coded_list pattern_code) (coded× (coded_list (coded_list span_code)) (coded_list coded_ℕ)))
    (λ asked. (asked.rules, (asked.seen.sets, asked.seen.label)))
    (λ p. record { rules = p.0; seen = record { sets = p.1.0; label = p.1.1 } }) (λ _. refl)

-- the label matches the rule of this number (6.3)
abbrev pub matches : AskedRules → ℕ → Bool
matches asked number = occurs_in asked.seen (rule_at asked.rules number)

-- those of a table, asked of a label
abbrev pub rules_of : TableValue → List ℕ → AskedRules
rules_of table label = record { rules = table.definitions.rules; seen = seen_under table label }

abbrev pub matches_rule : TableValue → List ℕ → ℕ → Bool
matches_rule table label = matches (rules_of table label)
