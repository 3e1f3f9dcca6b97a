use Rattle.std.proofs.Common.{sym, subst, arith}
use Rattle.label_patterns.specs.Sets.{Rise}
use Rattle.ruleset_text.specs.inner.Rising.{IsRising}
use Rattle.ruleset_text.proofs.SpanLemmas.{rise-push}
use Rattle.ruleset_text.proofs.spans.ended.Goals as goal

pub new-requires-in-First : goal.new-requires-in-First
new-requires-in-First c =
    let rising = subst (IsRising c.args.spans.items) c.in-First.is c.requires in
    subst Rise (sym (c.in_ok-push-in-First.ensures {u = tt}).items) (rise-push c.args.spans.items c.in-First.first c.in-First.first (omega arith) rising.1 rising.0)
