use Rattle.std.proofs.Common.{◌≡◌, drop}
use Rattle.valid_labels.specs.Actions.{with_types}
use Rattle.valid_labels.proofs.actions.word_of.Given as goal

-- with the types that are left it is the word of all
abbrev pub invariant-loop-name : goal.invariant-loop-name
invariant-loop-name l = with_types l.definitions l.word (drop l.name-index l.names) ≡ with_types l.definitions 0 l.names
