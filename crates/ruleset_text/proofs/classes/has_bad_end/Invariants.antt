use Rattle.std.proofs.Common.{◌≡◌, false, take}
use Rattle.std.specs.List.{list_any}
use Rattle.ruleset_text.specs.Classes.{is_bad_span}
use Rattle.ruleset_text.proofs.classes.has_bad_end.Given as goal

-- none before this one has such an end
abbrev pub invariant-loop-span : goal.invariant-loop-span
invariant-loop-span l = list_any (is_bad_span l.properties) (take l.span-index l.spans) ≡ false
