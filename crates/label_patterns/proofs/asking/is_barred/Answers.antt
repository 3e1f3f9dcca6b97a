use Rattle.std.proofs.Common.{length, subst}
use Rattle.label_patterns.specs.Matches.{HasItsSets}
use Rattle.label_patterns.proofs.AskingLemmas.{all-at, rule-read}
use Rattle.label_patterns.proofs.asking.is_barred.Goals as goal

pub is_barred_by-requires-clause-known : goal.is_barred_by-requires-clause-known
is_barred_by-requires-clause-known c =
    let trees = c.args.rules.now in
    let inside = c.if-number-rules.true in
    subst (HasItsSets (length c.args.seen.now.sets)) (rule-read trees c.in-Some.condition.rule c.index-rules-number.result inside c.index-rules-number.is)
    (all-at (HasItsSets (length c.args.seen.now.sets)) trees c.in-Some.condition.rule c.requires.known inside)
