use Rattle.ruleset_text.specs.Definitions.{type_names}
use Rattle.valid_labels.proofs.ActionLemmas.{type-known}
use Rattle.valid_labels.proofs.actions.word_of.Goals as goal

pub kind_of_name-word-requires : goal.kind_of_name-word-requires
kind_of_name-word-requires c = type-known c.args.names.now (type_names c.args.definitions.now) c.loop-name.name-index c.name-item.result c.loop-name-test.true c.name-item.is c.requires
