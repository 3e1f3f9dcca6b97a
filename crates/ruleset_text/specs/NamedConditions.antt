-- Conditions by the names of their rules, as lines write them.
use Rattle.std.specs.Prelude.{ℕ, Option, Some, None, IsTrue, List, [], ◌++◌, codes}
use Rattle.label_patterns.specs.declared.condition.ConditionKind.{ConditionKind}
use Rattle.label_patterns.specs.declared.condition.ConditionKind.TheVariants.{When, Unless}
use Rattle.ruleset_text.specs.declared.named_condition.NamedCondition.{NamedCondition}
use Rattle.ruleset_text.specs.Names.{is_name}

abbrev pub condition_word : ConditionKind → List ℕ
condition_word When = codes " when "
condition_word Unless = codes " unless "

abbrev pub condition_text : Option NamedCondition → List ℕ
condition_text None = []
condition_text (Some c) = condition_word c.kind ++ c.rule

abbrev pub HasRule : Option NamedCondition → Type 0
HasRule None = Unit {0}
HasRule (Some c) = IsTrue (is_name c.rule)
