use Rattle.std.proofs.Common.{◌≡◌, drop}
use Rattle.variant_dispositions.specs.Actions.{is_triggered}
use Rattle.variant_dispositions.specs.Kinds.{kinds_in}
use Rattle.valid_labels.specs.Actions.{matches}
use Rattle.valid_labels.specs.Causes as causes
use Rattle.valid_labels.proofs.invalid.invalid_from.Given as goal

-- none so far is triggered
abbrev pub invariant-loop-number : goal.invariant-loop-number
invariant-loop-number l =
    causes.invalid_from (is_triggered (matches l.rules) (kinds_in l.kinds)) l.sources 0 l.actions ≡ causes.invalid_from (is_triggered (matches l.rules) (kinds_in l.kinds)) l.sources l.number (drop l.number l.actions)
