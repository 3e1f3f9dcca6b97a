-- A cause as it is told, of the values of Rust.
use Rattle.std.specs.Option.{option_map}
use Rattle.answer_json.specs.Details.{details_of}
use Rattle.idn2_refusals.specs.CauseParts.{CauseParts}
use Rattle.idn2_refusals.specs.RuleTexts.{RuleText}
use Rattle.idn2_refusals.specs.declared.rules.Rule.{Rule}
use Rattle.idn2_refusals.specs.declared.told_cause.ToldCause.{ToldCause}

abbrev pub rule_of : Rule → RuleText
rule_of rule = record { before = rule.before.now; rule = rule.rule.now; after = rule.after.now }

abbrev pub told_parts : ToldCause → CauseParts
told_parts told = record {
  details = details_of told.members;
  lead = option_map (λ lead. lead.items) told.lead;
  rule = rule_of told.rule;
}
