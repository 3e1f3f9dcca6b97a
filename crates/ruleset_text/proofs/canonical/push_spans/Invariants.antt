use Rattle.std.proofs.Common.{◌≡◌, ◌++◌, take}
use Rattle.ruleset_text.specs.Canonical.{spans_text}
use Rattle.ruleset_text.proofs.canonical.push_spans.Given as goal

-- the spans so far
abbrev pub invariant-loop-span : goal.invariant-loop-span
invariant-loop-span l = l.out.items ≡ l.fn.out.items ++ spans_text (take l.span-index l.span-items)
