use Rattle.std.proofs.Common.{◌≡◌, ◌≤◌, drop}
use Rattle.ruleset_text.specs.inner.FormTests as tests
use Rattle.ruleset_text.proofs.definition_form.rise.Given as goal

-- whether they rise is still to be found
abbrev pub invariant-loop-span : goal.invariant-loop-span
invariant-loop-span l = record {
  least : l.least ≤ 4294967296;
  same : tests.rise l.least (drop l.span-index l.spans) ≡ tests.rise 0 l.spans;
}
